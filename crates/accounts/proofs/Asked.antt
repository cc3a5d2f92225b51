-- A chain that asks each of some numbers and does not stop, in the model's words.
use mathlib.Core.Path.{◌≡◌, sym, ◌∙◌}
use mathlib.Core.Bool.{Bool, ◌&&◌}
use mathlib.Core.List.{List, [], ◌∷◌}
use Prim.Native.Nat.{ℕ, suc, ◌≤◌, ◌<◌}
use native.Mathlib.Omega.{arith}
use lib.Dec.{T}
use lib.ListN.{length, get_or, take}
use Rattle.std.specs.List.{fold}
use Rattle.std.proofs.Math.Bool.{and_assoc, and-true}
use Rattle.std.proofs.lemmas.List.{ext_get_or, length-take, get_or-take}
use Rattle.model.specs.Lists.{every, up_to}
use Rattle.model.proofs.Tests.{and}
use Rattle.model.proofs.Places.{up_to_length, up_to_at}

module _ (p : ℕ → Bool) where
  pub fold_every : (a : Bool) (xs : List ℕ) → fold (λ b x. b && p x) a xs ≡ (a && every p xs)
  fold_every a [] = sym (and-true a)
  fold_every a (x ∷ xs) = fold_every (a && p x) xs ∙ and_assoc a (p x) (every p xs)

  pub every_of : (xs : List ℕ) → ((i : ℕ) → i < length xs → T (p (get_or xs i 0))) → T (every p xs)
  every_of [] h = tt
  every_of (x ∷ xs) h = and (p x) _ (h 0 (omega arith)) (every_of xs (λ i l. h (suc i) (omega arith)))

pub first_are : (xs : List ℕ) (n : ℕ) → n ≤ length xs → take n xs ≡ up_to (λ i. get_or xs i 0) n
first_are xs n l =
    ext_get_or 0 (take n xs) (up_to (λ i. get_or xs i 0) n) (omega (arith, length-take n xs, up_to_length (λ i. get_or xs i 0) n)) (λ i m.
    let k : i < n = omega (arith, length-take n xs) in
    get_or-take n xs i 0 k ∙ sym (up_to_at (λ i. get_or xs i 0) n i 0 k))
