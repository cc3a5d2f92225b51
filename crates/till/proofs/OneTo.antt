-- What a chain of iterators over the numbers from 1 to n, `1..=n`, tells in the model's words.
use mathlib.Core.Path.{◌≡◌, refl, sym, ◌∙◌, ap, ap₂}
use mathlib.Core.Bool.{Bool, true, false}
use mathlib.Core.List.{List, ◌∷◌, map}
use Prim.Native.Nat.{ℕ, zero, suc, ◌+◌, ◌-◌}
use native.Mathlib.Omega.{arith}
use lib.ListN.{length}
use denote.Param.Members.{Mut}
use Rattle.std.specs.Fn.{Called}
use Rattle.std.specs.Iterator.{ChecksAll}
use Rattle.std.specs.List.{range_with_len, list_all}
use Rattle.std.specs.Prelude.{Option}
use Rattle.std.specs.Range.{range_inclusive_start, range_inclusive_end, range_inclusive_exhausted, range_inclusive_len, range_inclusive_left, range_inclusive_steps}
use Rattle.std.specs.declared.ops.RangeInclusive.{RangeInclusive}
use Rattle.std.proofs.lemmas.Iterator.{YieldsList}
use Rattle.std.proofs.lemmas.Iterator.Consumers.{YieldsList-from_shown}
use Rattle.std.proofs.lemmas.Iterator.Search.{all_from_yields_List}
use Rattle.model.specs.Lists.{every, one_to}
use Rattle.model.proofs.Ranges.{list_all≡, range≡}

abbrev gap : ℕ → ℕ → ℕ
gap a b = b - a

abbrev steps : RangeInclusive ℕ → Option ℕ → RangeInclusive ℕ → Type 0
steps = range_inclusive_steps gap (λ a b. b ≡ a + 1)

-- the numbers that are left
abbrev shown : RangeInclusive ℕ → List ℕ
shown s = range_with_len (range_inclusive_start s) (range_inclusive_left gap s)

none_left : (a n : ℕ) → n ≡ 0 → length (range_with_len a n) ≡ 0
none_left a n e = rw e

one_less : (a x n : ℕ) (t : RangeInclusive ℕ) → x ≡ a → range_inclusive_left gap t + 1 ≡ n → (range_inclusive_exhausted t ≡ false → range_inclusive_start t ≡ a + 1)
    → range_with_len a n ≡ x ∷ shown t
one_less a x zero t e l f = absurd (omega arith)
one_less a x (suc n) t e l f = rw e (ap (λ (r : List ℕ). a ∷ r) (go n (range_inclusive_exhausted t) refl (omega arith)))
  where
    go : (k : ℕ) (spent : Bool) → range_inclusive_exhausted t ≡ spent → range_inclusive_left gap t ≡ k → range_with_len (a + 1) k ≡ shown t
    go k false g m = sym (ap₂ range_with_len (f g) m)
    go k true g m =
        let none : range_inclusive_left gap t ≡ 0 = ap (range_inclusive_len gap (range_inclusive_start t) (range_inclusive_end t)) g in
        ap (range_with_len (a + 1)) (sym m ∙ none) ∙ sym (ap (range_with_len (range_inclusive_start t)) none)

yields : (s : RangeInclusive ℕ) → YieldsList steps (λ x. x) s (shown s)
yields s = YieldsList-from_shown steps (λ x. x) shown (λ s t h. none_left _ _ h.1.0) (λ s x t h. one_less _ _ _ t h.1.0 h.1.1 h.1.2) s

shifted : (a n : ℕ) → map suc (range_with_len a n) ≡ range_with_len (suc a) n
shifted a zero = refl
shifted a (suc n) = let e : suc (a + 1) ≡ suc a + 1 = omega arith in ap (λ (r : List ℕ). suc a ∷ r) (shifted (a + 1) n ∙ rw e)

-- `all` asks each
module _ {F : Type 0} {g : Mut F (ℕ × Unit {0}) Bool} {s : RangeInclusive ℕ} (p : ℕ → Bool) (n : ℕ) (u : RangeInclusive ℕ) (c : F)
    (first : range_inclusive_start s ≡ 1) (last : range_inclusive_end s ≡ n) (fresh : range_inclusive_exhausted s ≡ false)
    (tests : (x : ℕ) (b : Bool) (q : F) → Called g c (x, tt) b q → (q ≡ c) × (b ≡ p x)) where
  all : shown s ≡ one_to n
  all = let count : range_inclusive_left gap s ≡ n = rw (first, last, fresh) (omega arith) in ap₂ range_with_len first count ∙ sym (shifted 0 n) ∙ range≡ suc n

  pub all_numbers : (r : Bool) → ChecksAll steps g s c r u → r ≡ every p (one_to n)
  all_numbers r ran = all_from_yields_List p u c r ran (yields s) tests ∙ ap (list_all p) all ∙ list_all≡ p (one_to n)
