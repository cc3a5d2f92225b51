-- A loop over the places of what a line goes on with: the first i places have what was found, and the rest follows it.
use mathlib.Core.Path.{◌≡◌, refl, sym, ◌∙◌, ap}
use mathlib.Core.Bool.{Bool, false}
use mathlib.Core.List.{List, [], ◌∷◌, ◌++◌}
use Prim.Native.Nat.{ℕ, zero, suc, ◌+◌, ◌*◌, ◌≤◌, ◌<◌}
use native.Mathlib.Omega.{arith}
use native.Mathlib.Nat.{suc-mul, zero-mul}
use native.Mathlib.Numerals.{add-one}
use lib.ListN.{length, set, drop, replicate, length-drop}
use lib.Seq.{drop-drop}
use Rattle.std.specs.Prelude.{Option, Some, None}
use Rattle.model.specs.Lists.{up_to}
use Rattle.model.specs.Reader.{leading}
use Rattle.model.proofs.Places.{up_to_more, up_to_length, leading-more, leading-stop}
use Rattle.letters.specs.Letters.{Read}
use Rattle.forms.specs.Forms.{in_places}
use Rattle.forms.specs.inner.Parts.{count_in, Leads}

module _ {A : Type 0} where
  pub none_placed : (n : ℕ) → ◌≡◌ {A = List (Option A)} (replicate n None) (in_places n [])
  none_placed zero = refl
  none_placed (suc n) = ap (λ (r : List (Option A)). None ∷ r) (none_placed n)

  -- one more in the first place that has none
  placed_more : (n : ℕ) (xs : List A) (x : A) → length xs < n → set (in_places n xs) (length xs) (Some x) ≡ in_places n (xs ++ (x ∷ []))
  placed_more zero xs x l = absurd (omega arith)
  placed_more (suc n) [] x l = refl
  placed_more (suc n) (y ∷ ys) x l = ap (λ (r : List (Option A)). Some y ∷ r) (placed_more n ys x (omega arith))

module _ {A : Type 0} (there : List ℕ → Bool) (said : List ℕ → A) (width n : ℕ) (part : List ℕ) where
  abbrev here : ℕ → Bool
  here i = there (drop (i * width) part)

  abbrev value : ℕ → A
  value i = said (drop (i * width) part)

  pub record SoFar (i : ℕ) (found : List (Option A)) (rest : List ℕ) : Type 0 where
    pub passed : leading here i ≡ i
    pub says : found ≡ in_places n (up_to value i)
    pub fits : i * width ≤ length part
    pub left : rest ≡ drop (i * width) part

  pub none_yet : SoFar 0 (replicate n None) part
  unfolding leading
  none_yet = record { passed = refl; says = none_placed n; fits = rw (zero-mul width) (omega arith); left = rw (zero-mul width) refl }

  module _ {i : ℕ} {found : List (Option A)} {rest : List ℕ} (s : SoFar i found rest) where
    pub one_more : {x : A} {after : List ℕ} → i < n → Read (there rest) (said rest) width rest x after → SoFar (i + 1) (set found i (Some x)) after
    one_more {x} {after} l r =
        let more : (i + 1) * width ≡ i * width + width = rw (add-one i) (suc-mul i width) in
        record {
          passed = leading-more here i s.passed (rw s.left at r.here);
          says = rw (s.says, up_to_more value i, r.says ∙ ap said s.left) (rw (up_to_length value i) at (placed_more n (up_to value i) (value i) (omega (arith, up_to_length value i))));
          fits = let f = r.fits in let e = ap length s.left in let g = s.fits in omega (arith, f, e, g, more, length-drop (i * width) part);
          left = r.left ∙ ap (λ (w : List ℕ). drop width w) s.left ∙ drop-drop width (i * width) part ∙ ap (λ k. drop k part) (sym more);
        }

    -- none is found in place i, or there is no place left
    pub ended : count_in there width n part ≡ i → Leads there said width n part found rest
    ended e = record { says = rw e s.says; fits = rw e s.fits; left = rw e s.left }

    pub stopped : i < n → there rest ≡ false → Leads there said width n part found rest
    stopped l f = ended (leading-stop here i n s.passed (rw s.left at f) l)

    pub filled : i ≡ n → Leads there said width n part found rest
    filled e = ended (rw (sym e) s.passed)
