-- The array of holdings as the model's state: one place for each card and kind, and a store changes that one alone.
use mathlib.Core.Path.{◌≡◌, refl, ap₂, ◌∙◌, sym}
use mathlib.Core.Bool.{Bool, true, false, true≢false, ◌&&◌, cond}
use mathlib.Core.List.{List}
use mathlib.Core.Logic.{◌⊎◌, inl, inr}
use Prim.Native.Nat.{ℕ, ◌≤◌, ◌<◌}
use native.Mathlib.Omega.{arith}
use lib.Dec.{T, eqb, eqb→eq}
use lib.ListN.{length, get_or, set}
use lib.Seq.{get_or-set_same, get_or-set_other}
use Rattle.model.specs.Limits.{card_limit, kind_count, number_most}
use Rattle.model.specs.Lists.{within, one_if}
use Rattle.model.proofs.Tests.{T-eq, eq-T, both, eqb_ne, within→, →within}
use Rattle.accounts.specs.View.{place_of, state_from}
use Rattle.accounts.specs.inner.Ranged.{Ranged}

in_range : (c k : ℕ) → Ranged c k → (within c card_limit && within k kind_count) ≡ true
in_range c k r = rw (T-eq (within c card_limit) (→within c card_limit r.c_low r.c_high)) (T-eq (within k kind_count) (→within k kind_count r.k_low r.k_high))

-- a holding that there is
pub held_at : (h : List ℕ) (c k : ℕ) → Ranged c k → (state_from h).held c k ≡ get_or h (place_of c k) 0
unfolding state_from
held_at h c k r = rw (in_range c k r)

-- numbers of 32 bits
abbrev pub Fitting : List ℕ → Type 0
Fitting h = (i : ℕ) → get_or h i 0 < 4294967296

pub held_fits : (h : List ℕ) → Fitting h → (c k : ℕ) → (state_from h).held c k ≤ number_most
unfolding state_from
held_fits h f c k = go (within c card_limit && within k kind_count)
  where
    go : (x : Bool) → cond x (get_or h (place_of c k) 0) 0 ≤ number_most
    go true = omega (arith, f (place_of c k))
    go false = omega arith

spot_apart : (c k d j : ℕ) → Ranged c k → Ranged d j → place_of c k ≡ place_of d j → (c ≡ d) × (k ≡ j)
spot_apart c k d j r q e = (omega arith, omega arith)

pub spot_below : (c k at : ℕ) → Ranged c k → at ≡ place_of c k → at < 512
spot_below c k at r e = omega arith

pub ranged_of : (d j : ℕ) → T (within d card_limit && within j kind_count) → Ranged d j
ranged_of d j h =
    let p = both (within d card_limit) _ h in
    let x = within→ d card_limit p.0 in
    let y = within→ j kind_count p.1 in
    record { c_low = x.0; c_high = x.1; k_low = y.0; k_high = y.1 }

-- the holdings with v at card c and kind k
pub held-set : (h : List ℕ) (c k v : ℕ) → length h ≡ 512 → Ranged c k → (d j : ℕ)
    → (state_from (set h (place_of c k) v)).held d j ≡ cond (eqb c d && eqb k j) v ((state_from h).held d j)
unfolding state_from
held-set h c k v l r d j = go (within d card_limit && within j kind_count) refl (eqb c d) refl (eqb k j) refl
  where
    go : (w : Bool) → (within d card_limit && within j kind_count) ≡ w → (x : Bool) → eqb c d ≡ x → (y : Bool) → eqb k j ≡ y
        → cond w (get_or (set h (place_of c k) v) (place_of d j) 0) 0 ≡ cond (x && y) v (cond w (get_or h (place_of d j) 0) 0)
    go true e true f true g =
        let s : place_of d j ≡ place_of c k = ap₂ place_of (sym (eqb→eq c d (eq-T f))) (sym (eqb→eq k j (eq-T g))) in
        rw s (get_or-set_same h (place_of c k) v 0 (omega (arith, spot_below c k (place_of c k) r refl)))
    go true e true f false g =
        get_or-set_other h (place_of c k) (place_of d j) v 0 (λ q. eqb_ne k j g (sym (spot_apart d j c k (ranged_of d j (eq-T e)) r q).1))
    go true e false f y g =
        get_or-set_other h (place_of c k) (place_of d j) v 0 (λ q. eqb_ne c d f (sym (spot_apart d j c k (ranged_of d j (eq-T e)) r q).0))
    go false e true f true g =
        let z : true ≡ false = sym (in_range c k r) ∙ ap₂ (λ (a b : ℕ). within a card_limit && within b kind_count) (eqb→eq c d (eq-T f)) (eqb→eq k j (eq-T g)) ∙ e in
        absurd (true≢false z)
    go false e true f false g = refl
    go false e false f y g = refl

-- a store at card c and kind k is met there and nowhere else
pub store_cases : (h : List ℕ) (c k at v : ℕ) → at ≡ place_of c k → length h ≡ 512 → Ranged c k → (d j : ℕ)
    → ((one_if (eqb c d && eqb k j) ≡ 1) × ((state_from (set h at v)).held d j ≡ v) × ((state_from h).held d j ≡ get_or h at 0))
    ⊎ ((one_if (eqb c d && eqb k j) ≡ 0) × ((state_from (set h at v)).held d j ≡ (state_from h).held d j))
store_cases h c k at v there l r d j = rw there (go (eqb c d) (eqb k j) refl refl (held-set h c k v l r d j))
  where
    go : (x y : Bool) → eqb c d ≡ x → eqb k j ≡ y → (state_from (set h (place_of c k) v)).held d j ≡ cond (x && y) v ((state_from h).held d j)
        → ((one_if (x && y) ≡ 1) × ((state_from (set h (place_of c k) v)).held d j ≡ v) × ((state_from h).held d j ≡ get_or h (place_of c k) 0))
        ⊎ ((one_if (x && y) ≡ 0) × ((state_from (set h (place_of c k) v)).held d j ≡ (state_from h).held d j))
    go true true p q e = inl (refl, e, ap₂ (state_from h).held (sym (eqb→eq c d (eq-T p))) (sym (eqb→eq k j (eq-T q))) ∙ held_at h c k r)
    go true false p q e = inr (refl, e)
    go false y p q e = inr (refl, e)
