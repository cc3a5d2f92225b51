-- Loops over the bytes of a card number: whether they are in printed groups, and the digits among them, in a row.
use mathlib.Core.Path.{◌≡◌, refl, sym, ◌∙◌, ap}
use mathlib.Core.Bool.{Bool, true, false, not, ◌&&◌, ◌||◌}
use mathlib.Core.List.{List, [], ◌∷◌, ◌++◌, append-nil}
use mathlib.Core.Logic.{⊎_elim}
use Prim.Native.Nat.{ℕ, ◌+◌, ◌≤◌, ◌<◌}
use native.Mathlib.Omega.{arith}
use native.Mathlib.Numerals.{add-one}
use native.Mathlib.Nat.{eq-or-lt_of_le}
use lib.Dec.{leb}
use lib.ListN.{length, get_or, set, take, drop, replicate, length-append, length-set, get_or-append, get_or-eq_default}
use lib.Seq.{drop-cons, drop-length, take-suc, take-length, get_or-take, get_or-append_seam, get_or-set_same, get_or-set_other, length-take-le, ext_get_or}
use borrow.Author.Tests.{leb-true}
use Rattle.model.specs.Limits.{least_digits, most_digits}
use Rattle.model.specs.Lists.{each}
use Rattle.model.specs.Reader.{digit_of, is_digit, is_hyphen, in_printed_groups}
use Rattle.model.specs.Opening.{is_card_number}
use Rattle.model.proofs.Tests.{and-false_right, lt_or_ge}
use Rattle.model.proofs.Places.{up_to_length, up_to_at}
use Rattle.model.proofs.Words.{each_append}
use Rattle.model.proofs.PrintedGroups.{digits_at, digits_among}
use Rattle.std.specs.Prelude.{Some, None, if◌then◌else◌}
use Rattle.forms.specs.Numbers.{in_row, is_number_in}
use Rattle.forms.specs.inner.Words.{word_in}
use Rattle.forms.specs.declared.cards.CardLine.{CardLine}

-- ---- whether bytes are in printed groups: those before i are, and `after` tells whether the last of them is a digit

-- a hyphen after a digit
between : (a h f : Bool) → (not a || not h) ≡ f → (a && h) ≡ not f
between true true f e = rw (← e) refl
between true false f e = rw (← e) refl
between false h f e = rw (← e) refl

module _ (s : List ℕ) (i : ℕ) (after : Bool) (h : in_printed_groups after (drop i s) ≡ in_printed_groups false s) where
  module _ (l : i < length s) where
    next : ((is_digit (get_or s i 0) || (after && is_hyphen (get_or s i 0))) && in_printed_groups (is_digit (get_or s i 0)) (drop (i + 1) s)) ≡ in_printed_groups false s
    unfolding in_printed_groups
    next =
        let e : in_printed_groups after (drop i s)
        ≡ ((is_digit (get_or s i 0) || (after && is_hyphen (get_or s i 0))) && in_printed_groups (is_digit (get_or s i 0)) (drop (i + 1) s)) = rw (add-one i, drop-cons s i 0 l) in
        sym e ∙ h

    pub digit-placed : is_digit (get_or s i 0) ≡ true → in_printed_groups true (drop (i + 1) s) ≡ in_printed_groups false s
    digit-placed e = rw e at next

    module _ (e : is_digit (get_or s i 0) ≡ false) where
      pub hyphen-placed : (not after || not (is_hyphen (get_or s i 0))) ≡ false → in_printed_groups false (drop (i + 1) s) ≡ in_printed_groups false s
      hyphen-placed f = rw (e, between after (is_hyphen (get_or s i 0)) false f) at next

      pub misplaced : (not after || not (is_hyphen (get_or s i 0))) ≡ true → in_printed_groups false s ≡ false
      misplaced f = sym (rw (e, between after (is_hyphen (get_or s i 0)) true f) at next)

  pub all_placed : i ≡ length s → after ≡ in_printed_groups false s
  unfolding in_printed_groups
  all_placed e = rw (e, drop-length s) at h

-- ---- the row of the digits ds

-- one digit more is at the place after them, if the row has it, and nowhere else
module _ (ds : List ℕ) (d : ℕ) where
  added_at : (k : ℕ) → k < most_digits → get_or (set (in_row ds).digits (length ds) d) k 0 ≡ get_or (ds ++ (d ∷ [])) k 0
  added_at k l = ⊎_elim before (λ m. ⊎_elim here after (eq-or-lt_of_le {n = length ds} {m = k} m)) (lt_or_ge k (length ds))
    where
      row : (k : ℕ) → k < most_digits → get_or (in_row ds).digits k 0 ≡ get_or ds k 0
      row k l = up_to_at (λ j. get_or ds j 0) most_digits k 0 l

      before : k < length ds → get_or (set (in_row ds).digits (length ds) d) k 0 ≡ get_or (ds ++ (d ∷ [])) k 0
      before m =
          get_or-set_other (in_row ds).digits (length ds) k d 0 (λ e. omega arith)
          ∙ row k l ∙ sym (get_or-append ds (d ∷ []) 0 k m)

      here : length ds ≡ k → get_or (set (in_row ds).digits (length ds) d) k 0 ≡ get_or (ds ++ (d ∷ [])) k 0
      here e = rw (← e) (get_or-set_same (in_row ds).digits (length ds) d 0 (omega (arith, up_to_length (λ j. get_or ds j 0) most_digits)) ∙ sym (get_or-append_seam ds d [] 0))

      after : length ds < k → get_or (set (in_row ds).digits (length ds) d) k 0 ≡ get_or (ds ++ (d ∷ [])) k 0
      after m =
          get_or-set_other (in_row ds).digits (length ds) k d 0 (λ e. omega arith)
          ∙ row k l
          ∙ get_or-eq_default ds 0 {n = k} (omega arith)
          ∙ sym (get_or-eq_default (ds ++ (d ∷ [])) 0 {n = k} (omega (arith, length-append ds (d ∷ []))))

  row_more : set (in_row ds).digits (length ds) d ≡ (in_row (ds ++ (d ∷ []))).digits
  row_more =
      let e : ℕ → ℕ = λ k. get_or (ds ++ (d ∷ [])) k 0 in
      let size = length-set (in_row ds).digits (length ds) d ∙ up_to_length (λ j. get_or ds j 0) most_digits in
      ext_get_or 0 (set (in_row ds).digits (length ds) d) (in_row (ds ++ (d ∷ []))).digits (size ∙ sym (up_to_length e most_digits))
      (λ k l. added_at k (omega (arith, size)) ∙ sym (up_to_at e most_digits k 0 (omega (arith, size))))

-- the digits among the first i bytes, counted and in a row
pub record Taken (s : List ℕ) (i count : ℕ) (row : List ℕ) : Type 0 where
  pub counted : count ≡ length (each digits_at (take i s))
  pub placed_in : row ≡ (in_row (each digits_at (take i s))).digits
  pub few : count ≤ i

pub taken_none : (s : List ℕ) → Taken s 0 0 (replicate most_digits 0)
taken_none s = record { counted = refl; placed_in = refl; few = omega arith }

module _ {s : List ℕ} {i count : ℕ} {row : List ℕ} (t : Taken s i count row) where
  module _ (l : i < length s) where
    one_byte : each digits_at (take (i + 1) s) ≡ each digits_at (take i s) ++ (digits_at (get_or s i 0) ++ [])
    one_byte = rw (add-one i, take-suc s i 0 l) (each_append digits_at (take i s) (get_or s i 0 ∷ []))

    pub taken_digit : {d : ℕ} → is_digit (get_or s i 0) ≡ true → digit_of (get_or s i 0) ≡ d → Taken s (i + 1) (count + 1) (set row count d)
    taken_digit {d} e f =
        let ds = each digits_at (take i s) in
        let more : each digits_at (take (i + 1) s) ≡ ds ++ (d ∷ []) = one_byte ∙ rw (e, f) in
        record {
          counted = rw more (omega (arith, t.counted, length-append ds (d ∷ [])));
          placed_in = rw (more, t.placed_in, t.counted) (row_more ds d);
          few = omega (arith, t.few);
        }

    pub taken_hyphen : is_digit (get_or s i 0) ≡ false → Taken s (i + 1) count row
    taken_hyphen e =
        let ds = each digits_at (take i s) in
        let same : each digits_at (take (i + 1) s) ≡ ds = one_byte ∙ rw (e, append-nil ds) in
        record { counted = rw same t.counted; placed_in = rw same t.placed_in; few = omega (arith, t.few) }

  pub taken_all : i ≡ length s → {after : Bool} → after ≡ in_printed_groups false s
      → (if after then Some (record { count = count; digits = row }) else None) ≡ word_in s
  taken_all e f =
      let all : each digits_at (take i s) ≡ each digits_at s = rw (e, take-length s) in
      let n : ◌≡◌ {A = CardLine} (record { count = count; digits = row }) (in_row (each digits_at s)) =
      λ j. record { count = (t.counted ∙ ap length all) j; digits = (t.placed_in ∙ ap (λ (ds : List ℕ). (in_row ds).digits) all) j } in
      rw (f, n, digits_among s)

-- ---- the digits of a row

module _ (ds : List ℕ) where
  pub in_row_lem : length ds ≤ most_digits → take (in_row ds).count (in_row ds).digits ≡ ds
  in_row_lem l =
      let n = up_to_length (λ d. get_or ds d 0) most_digits in
      let m = length-take-le (length ds) (in_row ds).digits (omega arith) in
      ext_get_or 0 (take (length ds) (in_row ds).digits) ds m
      (λ k b. get_or-take (length ds) (in_row ds).digits k 0 (omega arith) ∙ up_to_at (λ d. get_or ds d 0) most_digits k 0 (omega arith))

  pub number_is : is_number_in (in_row ds) ≡ is_card_number ds
  unfolding is_number_in
  number_is = go (leb (length ds) most_digits) refl
    where
      go : (x : Bool) → leb (length ds) most_digits ≡ x → (x && is_card_number (take (in_row ds).count (in_row ds).digits)) ≡ is_card_number ds
      go true e = ap is_card_number (in_row_lem (leb-true (length ds) most_digits e))
      go false e = rw (e, and-false_right (leb least_digits (length ds)))
