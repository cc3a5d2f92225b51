-- What a chain of iterators over the numbers below n tells, in the model's words.
use mathlib.Core.Path.{◌≡◌, refl, sym, ◌∙◌, ap}
use mathlib.Core.Bool.{Bool, true, false, not, cond, ◌&&◌}
use mathlib.Core.List.{List, [], ◌∷◌, ◌++◌, map}
use Prim.Native.Nat.{ℕ, zero, suc, ◌+◌}
use native.Mathlib.Omega.{arith}
use Rattle.std.specs.List.{range_with_len, list_all, position, position_from}
use Rattle.std.specs.Option.{option_map, unwrap_or}
use Rattle.std.specs.Prelude.{Some}
use Rattle.std.proofs.lemmas.Iterator.Adapters.{position_from-zero}
use Rattle.model.specs.Lists.{every, up_to, first_failing}

-- ---- the list of a range

range_last : (a n : ℕ) → range_with_len a (suc n) ≡ range_with_len a n ++ ((a + n) ∷ [])
range_last a zero = let z : a + 0 ≡ a = omega arith in rw z
range_last a (suc n) = let s : a + 1 + n ≡ a + suc n = omega arith in ap (λ (r : List ℕ). a ∷ r) (range_last (a + 1) n ∙ rw s)

pub list_all≡ : {A : Type 0} (p : A → Bool) (xs : List A) → list_all p xs ≡ every p xs
list_all≡ p [] = refl
list_all≡ p (x ∷ xs) = ap (λ (b : Bool). p x && b) (list_all≡ p xs)

module _ {A : Type 0} (f : ℕ → A) where
  map_last : (xs : List ℕ) (n : ℕ) → map f (xs ++ (n ∷ [])) ≡ map f xs ++ (f n ∷ [])
  map_last [] n = refl
  map_last (x ∷ xs) n = ap (λ (r : List A). f x ∷ r) (map_last xs n)

  pub range≡ : (n : ℕ) → map f (range_with_len 0 n) ≡ up_to f n
  range≡ zero = refl
  range≡ (suc n) =
      let z : 0 + n ≡ n = omega arith in
      ap (map f) (range_last 0 n) ∙ rw z (map_last (range_with_len 0 n) n ∙ ap (λ (r : List A). r ++ (f n ∷ [])) (range≡ n))

-- ---- the first that fails, by its place from 0

module _ {A : Type 0} (p : A → Bool) where
  abbrev fails : A → Bool
  fails x = not (p x)

  failing_from : (i : ℕ) (xs : List A) → first_failing p (i + 1) xs ≡ unwrap_or (option_map (λ k. k + 1) (position_from fails i xs)) 0
  failing_from i [] = refl
  failing_from i (x ∷ xs) = go (p x) (failing_from (i + 1) xs)
    where
      go : (b : Bool) → first_failing p (i + 1 + 1) xs ≡ unwrap_or (option_map (λ k. k + 1) (position_from fails (i + 1) xs)) 0
          → cond b (first_failing p (suc (i + 1)) xs) (i + 1) ≡ unwrap_or (option_map (λ k. k + 1) (cond (not b) (Some i) (position_from fails (i + 1) xs))) 0
      go true h = let s : suc (i + 1) ≡ i + 1 + 1 = omega arith in rw s h
      go false h = refl

  pub failing_place : (xs : List A) → first_failing p 1 xs ≡ unwrap_or (option_map (λ k. k + 1) (position fails xs)) 0
  failing_place xs = failing_from 0 xs ∙ rw (sym (position_from-zero fails xs))
