-- A card's digits in printed groups: the bytes that they print are read back as these printed groups, no other bytes are read, and the card is
-- the digits among the bytes.
use mathlib.Core.Path.{◌≡◌, refl, ◌∙◌, ap}
use mathlib.Core.Bool.{Bool, true, false, ◌&&◌, ◌||◌, cond}
use mathlib.Core.List.{List, [], ◌∷◌, ◌++◌, map, flatten}
use Prim.Native.Char.{code}
use Prim.Native.Nat.{ℕ, ◌≤◌}
use native.Mathlib.Omega.{arith}
use lib.Dec.{T, leb, leb→le}
use lib.ListN.{length, length-append}
use borrow.Author.Tests.{le-leb, leb-true, eqb-true}
use Rattle.model.specs.Lists.{every, each, ascii}
use Rattle.model.specs.Grammar.{digit, card_word, is_printed_group}
use Rattle.model.specs.Reader.{digit_of, is_digit, is_hyphen, in_printed_groups, in_front, printed_groups}
use Rattle.model.specs.Opening.{card_digits}
use Rattle.model.proofs.Tests.{T-eq, both, and, or_right}
use Rattle.model.proofs.Facts.{facts}
use Rattle.model.proofs.Letters.{digit_value, digit_letter}

-- ---- printed groups are read

-- the printed groups after the first, each with its hyphen
abbrev pub tail : List (List ℕ) → List ℕ
tail gs = each (λ v. ascii "-" ++ v) (map (λ g. map digit g) gs)

digits_pass : (g r : List ℕ) → T (every (λ d. leb d 9) g) → in_printed_groups true (map digit g ++ r) ≡ in_printed_groups true r
unfolding in_printed_groups
digits_pass [] r t = refl
digits_pass (d ∷ g) r t =
    let f = simp facts at t in
    let v = digit_value d f.0 in
    rw (v, le-leb d 9 f.0) (digits_pass g r f.1)

printed-group-passes : (a : Bool) (g r : List ℕ) → T (is_printed_group g) → in_printed_groups a (map digit g ++ r) ≡ in_printed_groups true r
unfolding in_printed_groups
printed-group-passes a [] r t = absurd t
printed-group-passes a (d ∷ g) r t =
    let f = simp facts at t in
    let v = digit_value d f.1.0 in
    rw (v, le-leb d 9 f.1.0) (digits_pass g r f.1.1)

printed-group_read : (g r : List ℕ) (gs : List (List ℕ)) → T (every (λ d. leb d 9) g) → printed_groups r ≡ [] ∷ gs → printed_groups (map digit g ++ r) ≡ g ∷ gs
unfolding printed_groups
printed-group_read [] r gs t e = e
printed-group_read (d ∷ g) r gs t e =
    let f = simp facts at t in
    rw (digit_value d f.0, le-leb d 9 f.0, printed-group_read g r gs f.1 e)

tail_read : (gs : List (List ℕ)) → T (every is_printed_group gs) → (in_printed_groups true (tail gs) ≡ true) × (printed_groups (tail gs) ≡ [] ∷ gs)
unfolding in_printed_groups printed_groups digit_of
tail_read [] t = (refl, refl)
tail_read (g ∷ gs) t =
    let f = both (is_printed_group g) _ t in
    let h = simp facts at f.0 in
    let r = tail_read gs f.1 in
    (printed-group-passes false g (tail gs) f.0 ∙ r.0, rw (printed-group_read g (tail gs) gs h.1 r.1))

pub printed-groups_read : (gs : List (List ℕ)) → T (leb 1 (length gs) && every is_printed_group gs)
    → T (in_printed_groups false (card_word gs)) × (printed_groups (card_word gs) ≡ gs)
printed-groups_read [] t = absurd t
printed-groups_read (g ∷ gs) t =
    let f = both (is_printed_group g) _ (both (leb 1 (length (g ∷ gs))) _ t).1 in
    let h = simp facts at f.0 in
    let r = tail_read gs f.1 in
    (rw (printed-group-passes false g (tail gs) f.0, r.0) tt, printed-group_read g (tail gs) gs h.1 r.1)

-- ---- what is read is printed groups

-- digits in printed groups; only after a digit may the first be empty
record Grouped (a : Bool) (gs : List (List ℕ)) (xs : List ℕ) : Type 0 where
  first : List ℕ
  rest : List (List ℕ)
  cut : gs ≡ first ∷ rest
  printed : card_word (first ∷ rest) ≡ xs
  filled : T (a || leb 1 (length first))
  digits : T (every (λ d. leb d 9) first)
  formed : T (every is_printed_group rest)

-- after no digit each of them is a printed group
all_formed : {gs : List (List ℕ)} {xs : List ℕ} (r : Grouped false gs xs) → T (every is_printed_group (r.first ∷ r.rest))
all_formed r = and (is_printed_group r.first) _ (and (leb 1 (length r.first)) _ r.filled r.digits) r.formed

module _ (x : ℕ) (xs : List ℕ) where
  after-digit : (a : Bool) → is_digit x ≡ true → Grouped true (printed_groups xs) xs → Grouped a (printed_groups (x ∷ xs)) (x ∷ xs)
  unfolding printed_groups
  after-digit a e r =
      let l = leb-true (digit_of x) 9 e in
      record {
        first = digit_of x ∷ r.first;
        rest = r.rest;
        cut = rw (e, r.cut);
        printed = rw (digit_letter x l, r.printed);
        filled = or_right a (leb 1 (length (digit_of x ∷ r.first))) (simp facts (omega arith));
        digits = simp facts (l, r.digits);
        formed = r.formed;
      }

  after_hyphen : is_digit x ≡ false → is_hyphen x ≡ true → Grouped false (printed_groups xs) xs → Grouped true (printed_groups (x ∷ xs)) (x ∷ xs)
  unfolding printed_groups
  after_hyphen e h r = record {
    first = [];
    rest = r.first ∷ r.rest;
    cut = rw (e, r.cut);
    printed = rw (eqb-true x (code "-") h, r.printed);
    filled = tt;
    digits = tt;
    formed = all_formed r;
  }

grouped : (a : Bool) (xs : List ℕ) → T (in_printed_groups a xs) → Grouped a (printed_groups xs) xs
unfolding in_printed_groups printed_groups
grouped a [] t = record { first = []; rest = []; cut = refl; printed = refl; filled = rw (T-eq a t) tt; digits = tt; formed = tt }
grouped a (x ∷ xs) t = go a (is_digit x) refl (is_hyphen x) refl (λ b. grouped b xs) t
  where
    go : (a d : Bool) → is_digit x ≡ d → (h : Bool) → is_hyphen x ≡ h → ((b : Bool) → T (in_printed_groups b xs) → Grouped b (printed_groups xs) xs)
        → T ((d || (a && h)) && in_printed_groups d xs) → Grouped a (printed_groups (x ∷ xs)) (x ∷ xs)
    go a true e h k r t = after-digit x xs a e (r true t)
    go true false e true k r t = after_hyphen x xs e k (r false t)
    go true false e false k r t = absurd t
    go false false e h k r t = absurd t

pub printed-groups-taken : (xs : List ℕ) → T (in_printed_groups false xs) → let gs = printed_groups xs in
    (card_word gs ≡ xs) × T (leb 1 (length gs) && every is_printed_group gs)
printed-groups-taken xs t =
    let r = grouped false xs t in
    rw r.cut (r.printed, and (leb 1 (length (r.first ∷ r.rest))) _ (simp facts (omega arith)) (all_formed r))

-- ---- the card is the digits among the bytes

-- a byte that is a digit is one, any other none
abbrev pub digits_at : ℕ → List ℕ
digits_at x = cond (is_digit x) (digit_of x ∷ []) []

pub digits_among : (xs : List ℕ) → card_digits (printed_groups xs) ≡ each digits_at xs
unfolding printed_groups flatten
digits_among [] = refl
digits_among (x ∷ xs) = go (is_digit x) (printed_groups xs) (digits_among xs)
  where
    go : (d : Bool) (gs : List (List ℕ)) → card_digits gs ≡ each digits_at xs
        → card_digits (cond d (in_front (digit_of x) gs) ([] ∷ gs)) ≡ cond d (digit_of x ∷ []) [] ++ each digits_at xs
    go true [] e = ap (λ (ds : List ℕ). digit_of x ∷ ds) e
    go true (g ∷ gs) e = ap (λ (ds : List ℕ). digit_of x ∷ ds) e
    go false gs e = e

-- what is in printed groups has a digit
pub some-digit : (xs : List ℕ) → T (in_printed_groups false xs) → 1 ≤ length (card_digits (printed_groups xs))
unfolding flatten
some-digit xs t =
    let r = grouped false xs t in
    let l : 1 ≤ length r.first = leb→le 1 (length r.first) r.filled in
    rw r.cut (omega (arith, l, length-append r.first (flatten r.rest)))
