-- What an array's `map` gives, as a list.
use mathlib.Core.Path.{◌≡◌, sym, ◌∙◌}
use mathlib.Core.List.{List, [], ◌∷◌, map}
use Prim.Native.Nat.{ℕ}
use native.Mathlib.Omega.{arith}
use lib.ListN.{length, get_or-map}
use lib.Seq.{ext_get_or}
use denote.Param.Members.{Mut, Called}
use Rattle.std.proofs.lemmas.List.{nil_from_length, length-map}
use Rattle.std.specs.Array.{IsMapOf}

module _ {F A B : Type 0} (g : Mut F (A × Unit {0}) B) (h : A → B) (calls : (p q : F) (x : A) (y : B) → Called g p (x, tt) y q → y ≡ h x) where
  pub mapped : (f : F) (xs : List A) (ys : List B) (n : ℕ) → length xs ≡ n → IsMapOf g f xs ys n → ys ≡ map h xs
  mapped f [] ys n e m = nil_from_length ys (omega (arith, m.long))
  mapped f (x ∷ xs) ys n e m =
      ext_get_or (h x) ys (map h (x ∷ xs)) (m.long ∙ sym e ∙ sym (length-map (x ∷ xs) h))
      (λ i l. let made = m.at i x (h x) (omega (arith, m.long)) in calls made.0 made.1 _ _ made.2 ∙ sym (get_or-map h (x ∷ xs) i x))
