-- The book of the tables that a line leaves is the book with one line more.
use mathlib.Core.Path.{◌≡◌, refl, sym, ◌∙◌, ap, fun_ext}
use mathlib.Core.Bool.{Bool, true, false, not, ◌&&◌, ◌||◌}
use mathlib.Core.List.{List, [], ◌∷◌, ◌++◌}
use Prim.Native.Nat.{ℕ, suc, ◌+◌, ◌*◌, ◌≤◌, ◌<◌, min, max}
use native.Mathlib.Omega.{arith}
use lib.Dec.{eqb}
use lib.ListN.{length, get_or}
use lib.Seq.{ext_get_or}
use borrow.Author.Tests.{eqb-true, eqb-false, le-leb}
use Rattle.model.specs.Limits.{card_limit, group_count, least_digits, most_digits}
use Rattle.model.specs.Lists.{within, up_to}
use Rattle.model.specs.Grammar.{card, group, rule}
use Rattle.model.specs.Book.{no_book}
use Rattle.model.specs.Opening.{card_digits, with_line}
use Rattle.model.proofs.Tests.{within-true, and-false_right, or_true_right, or_false_right}
use Rattle.model.proofs.Places.{up_to_cong, up_to_length, up_to_at, all_equal}
use Rattle.rulebook.specs.Layout.{card_row_size, card_table_size, card_byte, length_place, digit_place, group_place, rule_row_size, rule_byte, row_at}
use Rattle.rulebook.specs.View.{card_count, card_length, digit_at, card_view, member_view, rule_view, rule_count, book_of, tables_book}
use Rattle.rulebook.specs.inner.Writes.{CardAdded, MemberAdded, RuleAdded}
use Rattle.rulebook.specs.Reads.{no_tables}

-- a list by its places
listed : (f : ℕ → ℕ) (s : List ℕ) → ((j : ℕ) → j < length s → f j ≡ get_or s j 0) → up_to f (length s) ≡ s
listed f s h =
    ext_get_or 0 (up_to f (length s)) s (up_to_length f (length s))
    (λ j l. let m : j < length s = omega (arith, l, up_to_length f (length s)) in up_to_at f (length s) j 0 m ∙ h j m)

module _ {A : Type 0} (f g : ℕ → A) (n : ℕ) (x : A) where
  one_more : ((i : ℕ) → i < n → g i ≡ f i) → g n ≡ x → up_to g (suc n) ≡ up_to f n ++ (x ∷ [])
  one_more h e = rw (up_to_cong g f n h, e)

-- a card is as before where its length and its digits are
card_as_was : (cards cards' : List ℕ) (m : ℕ) → ((j : ℕ) → j < digit_place most_digits → card_byte cards' m j ≡ card_byte cards m j) → card_view cards' m ≡ card_view cards m
unfolding card_view
card_as_was cards cards' m h =
    rw (h length_place (omega arith))
    (up_to_cong (digit_at cards' m) (digit_at cards m) (card_length cards m) (λ d k. h (digit_place d) (omega arith)))

-- a member is as before where its byte is
member-same : (cards cards' : List ℕ) (g m : ℕ) → (1 ≤ g → g ≤ group_count → 1 ≤ m → card_byte cards' m (group_place g) ≡ card_byte cards m (group_place g))
    → member_view cards' g m ≡ member_view cards g m
unfolding member_view
member-same cards cards' g m h = go (within g group_count) (within m card_limit) refl refl
  where
    go : (a b : Bool) → within g group_count ≡ a → within m card_limit ≡ b
        → ((a && b) && not (eqb (card_byte cards' m (group_place g)) 0)) ≡ ((a && b) && not (eqb (card_byte cards m (group_place g)) 0))
    go true true p q = let l = within-true g group_count p in rw (h l.0 l.1 (within-true m card_limit q).0)
    go true false p q = refl
    go false b p q = refl

-- ---- a card more

module _ (gs : List (List ℕ)) {cards cards' : List ℕ} (a : CardAdded (card_digits gs) cards cards')
    (low : least_digits ≤ length (card_digits gs)) (high : length (card_digits gs) ≤ most_digits) where
  card-before : (i : ℕ) → i < card_count cards → card_view cards' (suc i) ≡ card_view cards (suc i)
  card-before i b = card_as_was cards cards' (suc i) (λ j l. a.others (suc i) j (omega arith) (omega arith) (λ e m. omega arith))

  card-last : card_view cards' (suc (card_count cards)) ≡ card_digits gs
  unfolding card_view
  card-last =
      let n : max least_digits (min (length (card_digits gs)) most_digits) ≡ length (card_digits gs) = omega arith in
      rw (a.long, n) (listed (digit_at cards' (suc (card_count cards))) (card_digits gs) a.digits)

  pub card_grown : (rules : List ℕ) → book_of cards' rules ≡ with_line (book_of cards rules) (card gs)
  unfolding book_of
  card_grown rules =
      rw (
        a.count,
        one_more (λ i. card_view cards (suc i)) (λ i. card_view cards' (suc i)) (card_count cards) (card_digits gs) card-before card-last,
        fun_ext (λ g. fun_ext (λ m. member-same cards cards' g m (λ p q r. a.others m (group_place g) r (omega arith) (λ e l. omega arith)))),
      )

-- ---- a rule more

module _ {row rules rules' : List ℕ} (a : RuleAdded row rules rules') (sized : length row ≡ rule_row_size) where
  row_before : (i : ℕ) → i < rule_count rules → rule_view (row_at rules' (suc i)) ≡ rule_view (row_at rules (suc i))
  row_before i b =
      ap rule_view (up_to_cong (rule_byte rules' (suc i)) (rule_byte rules (suc i)) rule_row_size (λ j k. a.others (suc i) j (omega arith) k (λ e. omega arith)))

  row_last : rule_view (row_at rules' (suc (rule_count rules))) ≡ rule_view row
  row_last = ap rule_view (rw sized at (listed (rule_byte rules' (suc (rule_count rules))) row (λ j l. a.bytes j (omega arith))))

  pub rule_grown : (cards : List ℕ) → book_of cards rules' ≡ with_line (book_of cards rules) (rule (rule_view row))
  unfolding book_of
  rule_grown cards =
      rw (a.count, one_more (λ i. rule_view (row_at rules (suc i))) (λ i. rule_view (row_at rules' (suc i))) (rule_count rules) (rule_view row) row_before row_last)

-- ---- a member more

module _ {g m : ℕ} {cards cards' : List ℕ} (g-low : 1 ≤ g) (g-high : g ≤ group_count) (m-low : 1 ≤ m) (m-high : m ≤ card_limit) (a : MemberAdded g m cards cards') where
  member_here : member_view cards' g m ≡ true
  unfolding member_view
  member_here = rw (le-leb 1 g g-low, le-leb g group_count g-high, le-leb 1 m m-low, le-leb m card_limit m-high, a.flag)

  member-there : (h n : ℕ) → ((h ≡ g) × (n ≡ m) → ⊥) → member_view cards' h n ≡ member_view cards h n
  member-there h n differ =
      member-same cards cards' h n (λ p q r. a.others n (group_place h) (omega arith) (λ d e. differ ((omega arith), d)))

  card-same : (i : ℕ) → card_view cards' i ≡ card_view cards i
  card-same i = card_as_was cards cards' i (λ j l. a.others i j (omega arith) (λ d e. omega arith))

  member-more : (h n : ℕ) → member_view cards' h n ≡ (member_view cards h n || (eqb h g && eqb n m))
  member-more h n = go (eqb h g) (eqb n m) refl refl
    where
      go : (x y : Bool) → eqb h g ≡ x → eqb n m ≡ y → member_view cards' h n ≡ (member_view cards h n || (x && y))
      go true true p q = rw (eqb-true h g p, eqb-true n m q) (member_here ∙ sym (or_true_right (member_view cards g m)))
      go true false p q = member-there h n (λ e. eqb-false n m q e.1) ∙ sym (or_false_right (member_view cards h n))
      go false y p q = member-there h n (λ e. eqb-false h g p e.0) ∙ sym (or_false_right (member_view cards h n))

  pub member_grown : (rules : List ℕ) → book_of cards' rules ≡ with_line (book_of cards rules) (group g m)
  unfolding book_of
  member_grown rules =
      rw (a.count, fun_ext (λ h. fun_ext (λ n. member-more h n)), up_to_cong (λ i. card_view cards' (suc i)) (λ i. card_view cards (suc i)) (card_count cards) (λ i l. card-same (suc i)))

-- ---- the empty tables

pub no_tables_lem : tables_book no_tables ≡ no_book
unfolding book_of member_view card_count rule_count
no_tables_lem =
    ap (λ (f : ℕ → ℕ → Bool). record { cards = []; member = f; rules = [] })
    (fun_ext (λ g. fun_ext (λ m. rw (all_equal {A = ℕ} 0 card_table_size (m * card_row_size + group_place g)) (and-false_right (within g group_count && within m card_limit)))))
