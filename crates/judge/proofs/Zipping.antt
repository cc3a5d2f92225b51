-- Two lists side by side, tested pair by pair.
use mathlib.Core.Path.{◌≡◌, refl, sym, ◌∙◌, ap}
use mathlib.Core.Bool.{Bool, ◌&&◌}
use mathlib.Core.List.{List, [], ◌∷◌}
use Prim.Native.Nat.{ℕ, zero, suc, ◌≤◌}
use native.Mathlib.Omega.{arith}
use lib.ListN.{length, get_or}
use Rattle.std.specs.List.{list_all, zip}
use Rattle.model.specs.Lists.{every}
use Rattle.model.proofs.Loops.{every-last}
use Rattle.model.proofs.Tests.{and_assoc}
use Rattle.judge.specs.inner.Rows.{below}

every_first : (p : ℕ → Bool) (n : ℕ) → every p (below (suc n)) ≡ (p 0 && every (λ i. p (suc i)) (below n))
every_first p zero = refl
every_first p (suc n) =
    every-last p (λ i. i) (suc n) ∙ ap (λ (b : Bool). b && p (suc n)) (every_first p n)
    ∙ and_assoc (p 0) (every (λ i. p (suc i)) (below n)) (p (suc n)) ∙ ap (λ (b : Bool). p 0 && b) (sym (every-last (λ i. p (suc i)) (λ i. i) n))

module _ {A B : Type 0} (q : A → B → Bool) (d : A) (e : B) where
  each : (xs : List A) (ys : List B) → length xs ≤ length ys → list_all (λ p. q p.0 p.1) (zip xs ys) ≡ every (λ j. q (get_or xs j d) (get_or ys j e)) (below (length xs))
  each [] ys l = refl
  each (x ∷ xs) [] l = absurd (omega arith)
  each (x ∷ xs) (y ∷ ys) l =
      ap (λ (b : Bool). q x y && b) (each xs ys (omega arith)) ∙ sym (every_first (λ j. q (get_or (x ∷ xs) j d) (get_or (y ∷ ys) j e)) (length xs))

  pub zipped : (n : ℕ) (xs : List A) (ys : List B) → length xs ≡ n → n ≤ length ys → list_all (λ p. q p.0 p.1) (zip xs ys) ≡ every (λ j. q (get_or xs j d) (get_or ys j e)) (below n)
  zipped n xs ys h l = each xs ys (omega arith) ∙ ap (λ (m : ℕ). every (λ j. q (get_or xs j d) (get_or ys j e)) (below m)) h
