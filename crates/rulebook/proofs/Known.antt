-- The search for an equal card: cards before i are unlike the digits, and card i is told from them by its length or by its first
-- digit that differs.
use mathlib.Core.Path.{◌≡◌, refl, sym, ◌∙◌, ap}
use mathlib.Core.Bool.{true, false}
use mathlib.Core.List.{List, [], ◌∷◌}
use Prim.Native.Nat.{ℕ, suc, ◌+◌, ◌<◌, min}
use native.Mathlib.Omega.{arith}
use lib.Dec.{eqb}
use lib.ListN.{length, get_or}
use lib.Seq.{ext_get_or}
use borrow.Author.Tests.{eq-eqb, eqb-true}
use Rattle.model.specs.Limits.{card_limit, most_digits}
use Rattle.model.specs.Lists.{any, eq_list, up_to}
use Rattle.model.proofs.Tests.{both_true, never_true}
use Rattle.model.proofs.Loops.{any-more, any-stop}
use Rattle.model.proofs.Places.{up_to_length, up_to_at}
use Rattle.rulebook.specs.View.{card_count, card_length, digit_at, card_view}
use Rattle.rulebook.proofs.Books.{count_small}

-- ---- equal lists

eq_list_true : (xs ys : List ℕ) → eq_list xs ys ≡ true → xs ≡ ys
eq_list_true [] [] p = refl
eq_list_true [] (y ∷ ys) p = cc
eq_list_true (x ∷ xs) [] p = cc
eq_list_true (x ∷ xs) (y ∷ ys) p =
    let both = both_true (eqb x y) (eq_list xs ys) p in
    let first = eqb-true x y both.0 in
    let rest = eq_list_true xs ys both.1 in
    cc

eq_list_refl : (xs : List ℕ) → eq_list xs xs ≡ true
eq_list_refl [] = refl
eq_list_refl (x ∷ xs) = rw (eq-eqb x x refl, eq_list_refl xs)

eq_list_same : (xs ys : List ℕ) → length xs ≡ length ys → ((k : ℕ) → k < length xs → get_or xs k 0 ≡ get_or ys k 0) → eq_list xs ys ≡ true
eq_list_same xs ys l f = rw (ext_get_or 0 xs ys l f) (eq_list_refl ys)

-- ---- card m = i + 1

-- its digits as they are lent
pub record Lent (cards : List ℕ) (i : ℕ) (digits : List ℕ) : Type 0 where
  pub card : i < card_count cards
  pub there : digits ≡ up_to (digit_at cards (min (i + 1) card_limit)) most_digits

module _ {cards : List ℕ} {i : ℕ} {digits : List ℕ} (lent : Lent cards i digits) where
  pub lent-size : length digits ≡ most_digits
  lent-size = ap length lent.there ∙ up_to_length (digit_at cards (min (i + 1) card_limit)) most_digits

  pub lent_digit : (d : ℕ) → d < length digits → get_or digits d 0 ≡ digit_at cards (suc i) d
  lent_digit d l =
      let m : min (i + 1) card_limit ≡ suc i = omega (arith, lent.card, count_small cards) in
      ap (λ (s : List ℕ). get_or s d 0) lent.there ∙ up_to_at (digit_at cards (min (i + 1) card_limit)) most_digits d 0 (omega (arith, lent-size))
      ∙ ap (λ (m : ℕ). digit_at cards m d) m

-- the first i cards are unlike the digits ds
abbrev pub Unlike : List ℕ → List ℕ → ℕ → Type 0
Unlike cards ds i = any (eq_list ds) (up_to (λ i. card_view cards (suc i)) i) ≡ false

module _ (cards ds : List ℕ) (i : ℕ) where
  card-length : length (card_view cards (suc i)) ≡ card_length cards (suc i)
  unfolding card_view
  card-length = up_to_length (digit_at cards (suc i)) (card_length cards (suc i))

  card-digit : (k : ℕ) → k < card_length cards (suc i) → get_or (card_view cards (suc i)) k 0 ≡ digit_at cards (suc i) k
  unfolding card_view
  card-digit k l = up_to_at (digit_at cards (suc i)) (card_length cards (suc i)) k 0 l

  unlike : Unlike cards ds i → (eq_list ds (card_view cards (suc i)) ≡ true → ⊥) → Unlike cards ds (i + 1)
  unlike h f = any-more (eq_list ds) (λ i. card_view cards (suc i)) i h (never_true _ f)

  pub other_digit : Unlike cards ds i → (d : ℕ) → d < length ds → (digit_at cards (suc i) d ≡ get_or ds d 0 → ⊥) → Unlike cards ds (i + 1)
  other_digit h d l f =
      unlike h
      (λ e.
      let same = eq_list_true ds (card_view cards (suc i)) e in
      f (sym (card-digit d (omega (arith, ap length same, card-length))) ∙ sym (ap (λ (l : List ℕ). get_or l d 0) same)))

  pub other_length : Unlike cards ds i → (card_length cards (suc i) ≡ length ds → ⊥) → Unlike cards ds (i + 1)
  other_length h f = unlike h (λ e. f (sym card-length ∙ sym (ap length (eq_list_true ds _ e))))

  pub equal_card : Unlike cards ds i → (n : ℕ) → i < n → card_length cards (suc i) ≡ length ds → ((k : ℕ) → k < length ds → digit_at cards (suc i) k ≡ get_or ds k 0)
      → any (eq_list ds) (up_to (λ i. card_view cards (suc i)) n) ≡ true
  equal_card h n l size digits =
      any-stop (eq_list ds) (λ i. card_view cards (suc i)) i n n h
      (eq_list_same ds (card_view cards (suc i)) (sym size ∙ sym card-length) (λ k b. sym (digits k b) ∙ sym (card-digit k (omega (arith, size)))))
      l refl
