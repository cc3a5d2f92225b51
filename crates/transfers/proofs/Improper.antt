-- The number of the first transfer that question 13 refuses, as a chain over the transfers tells it.
use mathlib.Core.Path.{◌≡◌, refl, ◌∙◌, ap}
use mathlib.Core.Bool.{Bool, not}
use mathlib.Core.List.{List}
use Prim.Native.Nat.{ℕ, suc, ◌+◌}
use native.Mathlib.Omega.{arith}
use Rattle.std.specs.Prelude.{Option, Some, None, position}
use Rattle.std.specs.Option.{option_map, unwrap_or}
use Rattle.model.specs.Lists.{first_failing}
use Rattle.model.proofs.Ranges.{failing_place}
use Rattle.transfers.specs.View.{told}

told_mapped : (o : Option ℕ) → told (unwrap_or (option_map (λ k. k + 1) o) 0) ≡ option_map (λ k. k + 1) o
told_mapped None = refl
told_mapped (Some j) = let s : j + 1 ≡ suc j = omega arith in rw s

-- the model's number is one more than the place from 0
pub told_place : {A : Type 0} (p : A → Bool) (xs : List A) → told (first_failing p 1 xs) ≡ option_map (λ i. i + 1) (position (λ x. not (p x)) xs)
told_place p xs = ap told (failing_place p xs) ∙ told_mapped _
