-- The number m that a part of a line begins with: none, a digit alone, or two digits.
use mathlib.Core.Path.{◌≡◌, refl, sym}
use mathlib.Core.Bool.{Bool, true, false, ◌&&◌, cond}
use mathlib.Core.List.{List}
use mathlib.Core.Logic.{⊎_elim}
use Prim.Native.Nat.{ℕ, ◌+◌, ◌-◌, ◌*◌, ◌≤◌, ◌<◌}
use native.Mathlib.Omega.{arith}
use lib.Dec.{leb}
use lib.ListN.{length, get_or, drop, length-drop, get_or-eq_default}
use lib.Seq.{get_or-drop, drop-drop}
use borrow.Author.Tests.{le-leb}
use Rattle.model.specs.Reader.{digit_of, width_of, number_of, number_width, number_at}
use Rattle.model.proofs.Letters.{digit_letter}
use Rattle.model.proofs.Tests.{eq-T, never_true, lt_or_ge}
use Rattle.model.proofs.Facts.{facts}
use Rattle.letters.specs.Letters.{Read}

digit_is : (x : ℕ) → 48 ≤ x → x ≤ 57 → digit_of x ≡ x - 48
unfolding digit_of
digit_is x l h = rw (le-leb 48 x l, le-leb x 57 h)

no_digit : (x : ℕ) → (48 ≤ x → x ≤ 57 → ⊥) → digit_of x ≡ 10
unfolding digit_of
no_digit x f = rw (never_true (leb 48 x && leb x 57) (λ e. let r = simp facts at (eq-T e) in f r.0 r.1))

-- a byte that is not 0 is within the line
pub inside : (w : List ℕ) (n : ℕ) → 1 ≤ get_or w n 0 → n < length w
inside w n l = ⊎_elim (λ h. h) (λ h. let e = get_or-eq_default w 0 {n = n} h in absurd (omega arith)) (lt_or_ge n (length w))

module _ (w : List ℕ) where
  pub no_number : (49 ≤ get_or w 0 0 → get_or w 0 0 ≤ 57 → ⊥) → leb 1 (number_width w 0) ≡ false
  unfolding number_width width_of
  no_number f = go (leb 1 (digit_of (get_or w 0 0)) && leb (digit_of (get_or w 0 0)) 9) refl
    where
      go : (f : Bool) → (leb 1 (digit_of (get_or w 0 0)) && leb (digit_of (get_or w 0 0)) 9) ≡ f
          → leb 1 (cond f (cond (leb (digit_of (get_or w 1 0)) 9) 2 1) 0) ≡ false
      go true e =
          let r = simp facts at (eq-T e) in
          let b = digit_letter (get_or w 0 0) r.1 in
          absurd (f (omega arith) (omega arith))
      go false e = refl

  -- v follows the first byte
  module _ {v : List ℕ} (after : v ≡ drop 1 w) (low : 49 ≤ get_or w 0 0) (high : get_or w 0 0 ≤ 57) (some : 1 ≤ length w) where
    next : get_or w 1 0 ≡ get_or v 0 0
    next = rw after (sym (get_or-drop 1 w 0 0))

    size : length v + 1 ≡ length w
    size = rw after (omega (arith, length-drop 1 w))

    pub two_digits : {u : List ℕ} → u ≡ drop 1 v → 1 ≤ length v → 48 ≤ get_or v 0 0 → get_or v 0 0 ≤ 57
        → Read (leb 1 (number_width w 0)) (number_at w 0) (number_width w 0) w ((get_or w 0 0 - 48) * 10 + (get_or v 0 0 - 48)) u
    unfolding number_width width_of number_at number_of
    two_digits {u} e l k h =
        let d = digit_is (get_or w 0 0) (omega arith) high in
        let f = digit_is (get_or v 0 0) k h in
        rw (next, d, f, le-leb (get_or v 0 0 - 48) 9 (omega arith), le-leb 1 (get_or w 0 0 - 48) (omega arith), le-leb (get_or w 0 0 - 48) 9 (omega arith))
        (record { here = refl; says = refl; fits = omega (arith, size); left = rw (e, after) (drop-drop 1 1 w) })

    pub one_digit : (48 ≤ get_or v 0 0 → get_or v 0 0 ≤ 57 → ⊥)
        → Read (leb 1 (number_width w 0)) (number_at w 0) (number_width w 0) w (get_or w 0 0 - 48) v
    unfolding number_width width_of number_at number_of
    one_digit f =
        let d = digit_is (get_or w 0 0) (omega arith) high in
        let e = no_digit (get_or v 0 0) f in
        rw (next, d, e, le-leb 1 (get_or w 0 0 - 48) (omega arith), le-leb (get_or w 0 0 - 48) 9 (omega arith))
        (record { here = refl; says = refl; fits = some; left = after })
