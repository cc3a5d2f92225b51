-- What the steps of a settlement that has been judged promise: all receipts added; question 22 and all gifts taken; question 23.
use Rattle.std.specs.Prelude.{◌≡◌, Bool, List, ℕ, ◌+◌, ◌*◌, ◌/◌, ◌≤◌, ◌<◌, min, Result, Ok, Err, leb, length, get_or}
use Rattle.model.specs.Limits.{kind_count, sum_limit, transfer_size, number_most}
use Rattle.model.specs.Lists.{every, up_to}
use Rattle.model.specs.Transfers.{transfer_at, exchange_of}
use Rattle.model.specs.Holdings.{gives, receives}
use Rattle.answers.specs.declared.Reason.{Reason}
use Rattle.answers.specs.declared.Reason.TheVariants.{NotCovered}
use Rattle.accounts.specs.View.{state_from}
use Rattle.accounts.specs.inner.Ranged.{Ranged}

-- what questions 12 and 13 have shown of an exchange
pub record Proper (e : List ℕ) : Type 0 where
  pub few : length e / transfer_size ≤ 32
  pub givers : (i : ℕ) → i < length e / transfer_size → Ranged (transfer_at e i).giver (transfer_at e i).kind
  pub receivers : (i : ℕ) → i < length e / transfer_size → Ranged (transfer_at e i).receiver (transfer_at e i).kind

-- n more, up to the largest number
abbrev pub added : ℕ → ℕ → ℕ
added held n = min (held + n) number_most

-- the holdings h' are h and what e brings
pub record ReceiptsAdded (h e h' : List ℕ) : Type 0 where
  pub more : (c k : ℕ) → (state_from h').held c k ≡ added ((state_from h).held c k) (receives c k (exchange_of e))

-- the holdings h' are h less what e gives
pub record GiftsTaken (h e h' : List ℕ) : Type 0 where
  pub less : (c k : ℕ) → (state_from h').held c k + gives c k (exchange_of e) ≡ (state_from h).held c k

-- some card gives more of a kind than it has in h
pub record Lacks (h e : List ℕ) : Type 0 where
  pub card : ℕ
  pub kind : ℕ
  pub less : (state_from h).held card kind < gives card kind (exchange_of e)

-- all gifts are taken, or one is not there
abbrev pub Took : Result (Unit {0}) Reason → List ℕ → List ℕ → List ℕ → Type 0
Took (Ok u) h e h' = GiftsTaken h e h'
Took (Err why) h e h' = (why ≡ NotCovered) × Lacks h e

-- each holding of the first n cards is at most the limit
unfoldable pub all_limited : List ℕ → ℕ → Bool
all_limited h n = every (λ x. leb x sum_limit) (up_to (λ i. get_or h i 0) (n * kind_count))
