-- Questions 12 to 14: the model's answer by their tests over the bytes, and what a passed size says.
use mathlib.Core.Path.{◌≡◌, refl, sym, ◌∙◌, ap}
use mathlib.Core.Bool.{true, not, cond, ◌&&◌}
use mathlib.Core.List.{List}
use Prim.Native.Nat.{ℕ, ◌+◌, ◌%◌, ◌≤◌}
use native.Mathlib.Omega.{arith}
use lib.Dec.{eqb, leb}
use lib.ListN.{length}
use borrow.Author.Tests.{leb-true}
use Rattle.model.specs.Lists.{every, first_failing}
use Rattle.model.specs.Questions.{Reply, refused}
use Rattle.std.specs.Prelude.{Option, Some, None, position}
use Rattle.std.specs.Option.{option_map, unwrap_or}
use Rattle.std.proofs.lemmas.Option.{none-some, same_Some}
use Rattle.std.proofs.lemmas.List.Quantifiers.{position-Some}
use Rattle.model.specs.Transfers.{exchange_of, no_transfer}
use Rattle.transfers.specs.View.{transfer_count}
use Rattle.model.proofs.Ranges.{failing_place}
use Rattle.model.specs.Fairness.{is_proper}
use Rattle.model.specs.Proof.{judge_chain}
use Rattle.model.specs.Calls.{is_sized, judging}
use Rattle.model.proofs.Tests.{both_true}
use Rattle.rulebook.specs.View.{card_count, book_of}
use Rattle.rulebook.proofs.Books.{card-count}
use Rattle.model.specs.Fairness.{is_proper_of}
use Rattle.judge.proofs.Claiming.{read-length}
use Rattle.judge.specs.inner.Parts.{Recorded}
use Rattle.model.proofs.Loops.{failing_every}

pub short : (e : List ℕ) → is_sized 3 96 e ≡ true → length e ≤ 96
short e h = leb-true (length e) 96 (both_true (leb 3 (length e)) _ (both_true (leb 3 (length e) && leb (length e) 96) _ h).0).1

pub recorded : (p : List ℕ) → is_sized 12 3060 p ≡ true → Recorded p
recorded p h =
    let w = both_true (leb 12 (length p) && leb (length p) 3060) (eqb (length p % 12) 0) h in
    let v = both_true (leb 12 (length p)) (leb (length p) 3060) w.0 in
    record { some = leb-true 12 (length p) v.0; few = leb-true (length p) 3060 v.1 }

some_mapped : (o : Option ℕ) (k : ℕ) → option_map (λ i. i + 1) o ≡ Some k → (j : ℕ) × (o ≡ Some j) × (k ≡ j + 1)
some_mapped None k h = absurd (none-some k h)
some_mapped (Some j) k h = (j, refl, sym (same_Some _ _ h))

module _ (card_table e : List ℕ) where
  -- the place of the first improper transfer, or 0
  abbrev pub bad : ℕ
  bad = first_failing (is_proper_of (card_count card_table)) 1 (exchange_of e)

  -- its number, if there is one
  abbrev pub Told : Option ℕ → Type 0
  Told r = r ≡ option_map (λ i. i + 1) (position (λ t. not (is_proper_of (card_count card_table) t)) (exchange_of e))

  bad≡ : (r : Option ℕ) → Told r → bad ≡ unwrap_or r 0
  bad≡ r h = failing_place (is_proper_of (card_count card_table)) (exchange_of e) ∙ rw (← h)

  -- a number that is told is of one of the transfers
  pub told_some : (r : Option ℕ) (k : ℕ) → Told r → r ≡ Some k → (bad ≡ k) × (1 ≤ k) × (k ≤ transfer_count e)
  told_some r k h q =
      let m = some_mapped _ k (rw h at q) in
      let within = (position-Some _ (exchange_of e) m.0 no_transfer m.1).0 in
      (bad≡ r h ∙ rw q, omega (arith, m.2), omega (arith, m.2, within, read-length e))

  pub told_none : (r : Option ℕ) → Told r → r ≡ None → bad ≡ 0
  told_none r h z = bad≡ r h ∙ rw z

module _ (card_table rule_table e p : List ℕ) where
  -- questions 12 to 14 over the bytes, then the model's chain
  abbrev pub chosen : Reply
  chosen =
      cond (is_sized 3 96 e)
      (cond (eqb (bad card_table e) 0)
      (cond (is_sized 12 3060 p) (judge_chain (book_of card_table rule_table) (exchange_of e) p) (refused 14 0))
      (refused 13 (bad card_table e)))
      (refused 12 0)

  place : first_failing (is_proper (book_of card_table rule_table)) 1 (exchange_of e) ≡ bad card_table e
  place = ap (λ (n : ℕ). first_failing (is_proper_of n) 1 (exchange_of e)) (card-count card_table rule_table)

  proper : every (is_proper (book_of card_table rule_table)) (exchange_of e) ≡ eqb (bad card_table e) 0
  proper = failing_every (is_proper (book_of card_table rule_table)) 0 (exchange_of e) ∙ ap (λ (n : ℕ). eqb n 0) place

  pub judging≡ : judging (book_of card_table rule_table) e p ≡ chosen
  unfolding judging
  judging≡ s =
      cond (is_sized 3 96 e)
      (cond (proper s) (cond (is_sized 12 3060 p) (judge_chain (book_of card_table rule_table) (exchange_of e) p) (refused 14 0)) (refused 13 (place s)))
      (refused 12 0)
