-- The 512 numbers of a state, both ways: any 512 numbers are those of the state that they hold, and the numbers of a state that a call
-- makes hold that state.
use mathlib.Core.Path.{◌≡◌, refl, sym, ap, ap₂, ◌∙◌}
use mathlib.Core.Bool.{Bool, true, false, ◌&&◌, cond, true≢false}
use mathlib.Core.List.{List}
use Prim.Native.Nat.{ℕ, suc, ◌/◌, ◌%◌, ◌≤◌, ◌<◌}
use native.Mathlib.Omega.{arith}
use lib.Dec.{T}
use lib.ListN.{length, get_or}
use lib.Seq.{ext_get_or}
use Rattle.model.specs.Limits.{card_limit, kind_count, holding_count}
use Rattle.model.specs.Lists.{within, up_to}
use Rattle.model.specs.Questions.{ok, Told}
use Rattle.model.specs.Grammar.{is_kind}
use Rattle.model.specs.Book.{Book, declared}
use Rattle.model.specs.Holdings.{State}
use Rattle.model.specs.Calls.{Call, reply_to, changed}
use Rattle.model.proofs.Tests.{T-eq, both_true, within→, within-true, true-within}
use Rattle.model.proofs.Places.{up_to_length, up_to_at}
use Rattle.model.proofs.Conservation.{brings_none, changed-is}
use Rattle.accounts.specs.View.{place_of, state_from, numbers_of}
use Rattle.accounts.specs.inner.Ranged.{Ranged}
use Rattle.accounts.proofs.HoldingPlaces.{held_at}

-- the card and the kind of a place
abbrev pub card_at : ℕ → ℕ
card_at i = suc (i / kind_count)

abbrev pub kind_at : ℕ → ℕ
kind_at i = suc (i % kind_count)

module _ (i : ℕ) (l : i < holding_count) where
  pub ranged_at : Ranged (card_at i) (kind_at i)
  ranged_at = record { c_low = omega arith; c_high = omega arith; k_low = omega arith; k_high = omega arith }

  pub held_place : (h : List ℕ) → (state_from h).held (card_at i) (kind_at i) ≡ get_or h i 0
  held_place h =
      let at : place_of (card_at i) (kind_at i) ≡ i = omega arith in
      held_at h (card_at i) (kind_at i) ranged_at ∙ ap (λ (j : ℕ). get_or h j 0) at

pub numbers_length : (s : State) → length (numbers_of s) ≡ holding_count
unfolding numbers_of
numbers_length s = up_to_length (λ i. s.held (card_at i) (kind_at i)) holding_count

-- 512 numbers are those of the state that they hold
pub numbers_are : (h : List ℕ) (s : ℕ → ℕ → ℕ) → length h ≡ holding_count → ((c k : ℕ) → (state_from h).held c k ≡ s c k) → h ≡ numbers_of (record { held = s })
unfolding numbers_of
numbers_are h s l f =
    ext_get_or 0 h (up_to at holding_count) (l ∙ sym (up_to_length at holding_count)) (λ i m.
    let k : i < holding_count = omega (arith, l) in
    sym (held_place i k h) ∙ f (card_at i) (kind_at i) ∙ sym (up_to_at at holding_count i 0 k))
  where
    at : ℕ → ℕ
    at i = s (card_at i) (kind_at i)

-- one of 32 cards and one of 16 kinds
abbrev known : ℕ → ℕ → Bool
known c k = within c card_limit && within k kind_count

-- the numbers of a state that holds nothing elsewhere hold that state
numbers_held : (s : State) → ((c k : ℕ) → known c k ≡ false → s.held c k ≡ 0) → (c k : ℕ) → (state_from (numbers_of s)).held c k ≡ s.held c k
unfolding numbers_of state_from
numbers_held s none c k = go (known c k) refl
  where
    at : ℕ → ℕ
    at i = s.held (card_at i) (kind_at i)

    go : (x : Bool) → known c k ≡ x → cond x (get_or (up_to at holding_count) (place_of c k) 0) 0 ≡ s.held c k
    go true e =
        let p = both_true (within c card_limit) (within k kind_count) e in
        let u = within-true c card_limit p.0 in
        let v = within-true k kind_count p.1 in
        let card : card_at (place_of c k) ≡ c = omega arith in
        let kind : kind_at (place_of c k) ≡ k = omega arith in
        up_to_at at holding_count (place_of c k) 0 (omega arith) ∙ ap₂ s.held card kind
    go false e = sym (none c k e)

-- a call that is not refused, by a book of at most 32 cards
module _ (b : Book) (few : length b.cards ≤ card_limit) (h : List ℕ) (call : Call) (t : Told) (q : reply_to b (state_from h) call ≡ ok t) where
  none_elsewhere : (c k : ℕ) → known c k ≡ false → (changed (state_from h) call).held c k ≡ 0
  unfolding state_from
  none_elsewhere c k f = omega (arith, none, changed-is (state_from h) call c k, brings_none b c k unknown (state_from h) call t q)
    where
      none : (state_from h).held c k ≡ 0
      none = rw f

      unknown : T (declared b c) → T (is_kind k) → ⊥
      unknown u v =
          let w = within→ c (length b.cards) u in
          let z : known c k ≡ true = rw (true-within c card_limit w.0 (omega arith)) (T-eq (is_kind k) v) in
          true≢false (sym z ∙ f)

  -- the numbers of the state that it makes of the holdings h hold that state
  pub numbers_changed : state_from (numbers_of (changed (state_from h) call)) ≡ changed (state_from h) call
  numbers_changed = λ i. record { held = λ c k. numbers_held (changed (state_from h) call) none_elsewhere c k i }
