-- Questions 15 to 20 of a proof record over the bytes. They are put together as the code asks them; that the first unmet one is
-- the model's is in proofs/Agreeing.antt.
use Rattle.std.specs.Prelude.{Option, Some, None, Bool, false, not, ◌&&◌, cond, List, [], ◌∷◌, ◌++◌, ℕ, ◌-◌, eqb, get_or}
use Rattle.model.specs.Lists.{within}
use Rattle.model.specs.Questions.{Question, ◌unless◌}
use Rattle.model.specs.Transfers.{Transfer, transfer_at}
use Rattle.model.specs.Proof.{next, claim, rule_number}
use Rattle.rulebook.specs.Layout.{row_at}
use Rattle.rulebook.specs.View.{card_count, rule_count, row_owner, row_kind}
use Rattle.transfers.specs.View.{transfer_count}
use Rattle.judge.specs.inner.Rows.{cards_fit, all_payable, all_hold}

-- question 15 of transfer number k among n
abbrev pub is_claimable : List Bool → ℕ → ℕ → Bool
is_claimable marks n k = within k n && not (get_or marks (k - 1) false)

-- the transfer that number k claims, where question 15 is met
unfoldable pub claimable : List Bool → List ℕ → ℕ → Option Transfer
claimable marks e k = cond (is_claimable marks (transfer_count e) k) (Some (transfer_at e (k - 1))) None

-- question 20; left: the transfers that are not claimed yet, this record's being claimed
abbrev pub is_linked : ℕ → ℕ → ℕ → Bool
is_linked left i records = cond (eqb left 0) (eqb i 0) (within i records)

-- questions 16 to 19 of a record that claims transfer c by the rule of the row
unfoldable pub questions16to19 : List ℕ → List ℕ → List ℕ → Transfer → List Question
questions16to19 cards row r c =
    (16 unless (eqb (row_owner row) c.giver && eqb (row_kind row) c.kind)) ∷
    (17 unless cards_fit (card_count cards) row r c.receiver) ∷
    (18 unless all_payable row r) ∷
    (19 unless all_hold cards row r) ∷ []

-- questions 15 to 20; e: the exchange's bytes, marks: what is claimed before this record
unfoldable pub questions15to20 : List ℕ → List ℕ → List ℕ → List ℕ → List Bool → ℕ → ℕ → List Question
questions15to20 cards rules e r marks left records =
    (15 unless is_claimable marks (transfer_count e) (claim r)) ∷
    (16 unless within (rule_number r) (rule_count rules)) ∷
    (questions16to19 cards (row_at rules (rule_number r)) r (transfer_at e (claim r - 1)) ++
    ((20 unless is_linked left (next r) records) ∷ []))
