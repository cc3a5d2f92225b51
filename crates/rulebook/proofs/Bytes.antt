-- The bytes of a rule's row, put together.
use mathlib.Core.Path.{◌≡◌, refl, sym, ◌∙◌, ap}
use mathlib.Core.List.{List, [], ◌∷◌, ◌++◌, map, append_assoc}
use Prim.Native.Nat.{ℕ, zero, suc, ◌*◌}
use native.Mathlib.Omega.{arith}
use lib.ListN.{length, take, drop, replicate, length-append}
use lib.Seq.{take-append_seam, drop-append_seam}
use borrow.Rule.Slice.PartMut.{put_mid}
use Rattle.std.specs.List.{flat_map}
use Rattle.std.specs.Prelude.{Option, Some, None}
use Rattle.model.specs.Limits.{price_limit, condition_limit}
use Rattle.model.specs.Grammar.{Rule}
use Rattle.forms.specs.Forms.{price_said, condition_said, in_places, form_said}
use Rattle.forms.specs.declared.rules.Price.{Price}
use Rattle.forms.specs.declared.rules.Condition.{Condition}
use Rattle.rulebook.specs.Layout.{rule_row_size, price_giver_place, group_asked_place}
use Rattle.rulebook.specs.inner.Rows.{price_bytes, condition_bytes, row_of}

pub flat : {A : Type 0} (f : A → List ℕ) (xs : List A) → flat_map (λ x. x) (map f xs) ≡ flat_map f xs
flat f [] = refl
flat f (x ∷ xs) = rw (flat f xs)

flat-size : {A : Type 0} (f : A → List ℕ) → ((x : A) → length (f x) ≡ 3) → (xs : List A) → length (flat_map f xs) ≡ length xs * 3
flat-size f each [] = refl
flat-size f each (x ∷ xs) = omega (arith, length-append (f x) (flat_map f xs), each x, flat-size f each xs)

price_size : (p : Option Price) → length (price_bytes p) ≡ 3
price_size (Some p) = refl
price_size None = refl

condition_size : (c : Option Condition) → length (condition_bytes c) ≡ 3
condition_size (Some c) = refl
condition_size None = refl

pub prices-size : (ps : List (Option Price)) → length ps ≡ 4 → length (flat_map price_bytes ps) ≡ 12
prices-size ps e = flat-size price_bytes price_size ps ∙ ap (λ (n : ℕ). n * 3) e

pub conditions-size : (cs : List (Option Condition)) → length cs ≡ 4 → length (flat_map condition_bytes cs) ≡ 12
conditions-size cs e = flat-size condition_bytes condition_size cs ∙ ap (λ (n : ℕ). n * 3) e

pub row_put : (o k h m n : ℕ) (p q : List ℕ) → length p ≡ 12 → length q ≡ 12
    → put_mid (group_asked_place 0) 12 (put_mid (price_giver_place 0) 12 ((o ∷ k ∷ h ∷ m ∷ n ∷ []) ++ replicate 27 0) p) q ≡ (o ∷ k ∷ h ∷ m ∷ n ∷ []) ++ p ++ q ++ replicate 3 0
row_put o k h m n p q lp lq =
    let z : List ℕ = replicate 15 0 in
    let before : take 12 (p ++ z) ≡ p = rw lp at (take-append_seam p z) in
    let after : drop 12 (p ++ z) ≡ z = rw lp at (drop-append_seam p z) in
    ap (λ (w : List ℕ). o ∷ k ∷ h ∷ m ∷ n ∷ w) (rw (before, after) (sym (append_assoc p q (replicate 3 0))))

-- ---- a row's length

places-size : {A : Type 0} (n : ℕ) (xs : List A) → length (in_places n xs) ≡ n
places-size zero xs = refl
places-size (suc n) [] = ap suc (places-size n [])
places-size (suc n) (x ∷ xs) = ap suc (places-size n xs)

pub row-length : (r : Rule) → length (row_of (form_said r)) ≡ rule_row_size
unfolding row_of
row-length r =
    let p = prices-size (in_places price_limit (map price_said r.prices)) (places-size price_limit (map price_said r.prices)) in
    let q = conditions-size (in_places condition_limit (map condition_said r.conditions)) (places-size condition_limit (map condition_said r.conditions)) in
    rw (length-append, length-append, p, q) refl
