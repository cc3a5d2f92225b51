-- Question 15 by what is read: the transfer at a place, and its mark.
use mathlib.Core.Path.{◌≡◌, refl, sym, ◌∙◌, ap}
use mathlib.Core.Bool.{Bool, true, false, cond}
use mathlib.Core.Logic.{⊎_elim}
use mathlib.Core.List.{List}
use Prim.Native.Nat.{ℕ, ◌-◌, ◌≤◌, ◌<◌}
use native.Mathlib.Omega.{arith}
use lib.ListN.{length, get_or}
use Rattle.std.specs.Prelude.{Option, Some, None, Ok, Err}
use Rattle.std.specs.Option.{ok_or}
use Rattle.std.specs.List.{slice_get}
use Rattle.std.proofs.lemmas.Option.{none-some, same_Some, slice_get_within, slice_get-get_or, get_or_from_slice_get}
use Rattle.model.specs.Lists.{within}
use Rattle.model.specs.Transfers.{Transfer, transfer_at, exchange_of, no_transfer}
use Rattle.model.proofs.Places.{up_to_length}
use Rattle.model.proofs.Tests.{and-false_right, never_true, within-true, true-within, lt_or_ge}
use Rattle.transfers.specs.View.{transfer_count}
use Rattle.transfers.proofs.Listing.{here}
use Rattle.judge.specs.inner.Records.{is_claimable, claimable}

pub read-length : (e : List ℕ) → length (exchange_of e) ≡ transfer_count e
unfolding exchange_of
read-length e = up_to_length (transfer_at e) (transfer_count e)

module _ (marks : List Bool) (e : List ℕ) where
  past_end : (n : ℕ) → transfer_count e < n → claimable marks e n ≡ None
  unfolding claimable
  past_end n l = rw (never_true (within n (transfer_count e)) (λ h. let w = within-true n (transfer_count e) h in omega arith))

  pub claimable-zero : (n : ℕ) → n < 1 → claimable marks e n ≡ None
  unfolding claimable
  claimable-zero n l = let z : n ≡ 0 = omega arith in rw z

  pub claimable-none : (n k : ℕ) → 1 ≤ n → k ≡ n - 1 → slice_get (exchange_of e) k ≡ None → claimable marks e n ≡ None
  claimable-none n k l p h =
      ⊎_elim (λ (d : k < transfer_count e). absurd (none-some _ (sym h ∙ slice_get-get_or (exchange_of e) k no_transfer (omega (arith, read-length e)))))
      (λ (d : transfer_count e ≤ k). past_end n (omega arith))
      (lt_or_ge k (transfer_count e))

  pub claimable-marked : (n k : ℕ) → k ≡ n - 1 → get_or marks k false ≡ true → claimable marks e n ≡ None
  unfolding claimable
  claimable-marked n k p h = rw (← p, h, and-false_right (within n (transfer_count e)))

  pub claimable-free : (n k : ℕ) (t : Transfer) → 1 ≤ n → k ≡ n - 1 → slice_get (exchange_of e) k ≡ Some t → get_or marks k false ≡ false → claimable marks e n ≡ Some t
  unfolding claimable
  claimable-free n k t l p h free =
      let within-exchange : k < transfer_count e = omega (arith, slice_get_within (exchange_of e) k t h, read-length e) in
      let at : transfer_at e k ≡ t = sym (here e k within-exchange) ∙ get_or_from_slice_get (exchange_of e) k t no_transfer h in
      rw (← p, true-within n (transfer_count e) l (omega arith), free) (ap (λ (u : Transfer). Some u) at)

  -- what is told of question 15, by what is claimed
  pub claimable-some : (n : ℕ) (t : Transfer) → claimable marks e n ≡ Some t → (is_claimable marks (transfer_count e) n ≡ true) × (t ≡ transfer_at e (n - 1))
  unfolding claimable
  claimable-some n t h = go (is_claimable marks (transfer_count e) n) h
    where
      go : (b : Bool) → cond b (Some (transfer_at e (n - 1))) None ≡ Some t → (b ≡ true) × (t ≡ transfer_at e (n - 1))
      go true q = (refl, sym (same_Some _ _ q))
      go false q = absurd (none-some t q)

  pub not-claimable : (n : ℕ) → claimable marks e n ≡ None → is_claimable marks (transfer_count e) n ≡ false
  unfolding claimable
  not-claimable n h = go (is_claimable marks (transfer_count e) n) h
    where
      go : (b : Bool) → cond b (Some (transfer_at e (n - 1))) None ≡ None → b ≡ false
      go true q = absurd (none-some _ (sym q))
      go false q = refl

-- the value under an `ok_or`
module _ {A E : Type 0} (why : E) where
  pub some_from : (o : Option A) (x : A) → ok_or o why ≡ Ok x → o ≡ Some x
  some_from None x q = cc
  some_from (Some y) x q = cc

  pub none_from : (o : Option A) (e : E) → ok_or o why ≡ Err e → (o ≡ None) × (e ≡ why)
  none_from None e q = (refl, cc)
  none_from (Some y) e q = cc

-- a place of an exchange within the limit
pub place_small : (e : List ℕ) → length e ≤ 96 → (k : ℕ) (t : Transfer) → slice_get (exchange_of e) k ≡ Some t → k < 32
place_small e short k t h = omega (arith, slice_get_within (exchange_of e) k t h, read-length e)
