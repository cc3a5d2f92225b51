-- The law of writing a row, and what a card, a member and a rule more leave: by that law alone.
use mathlib.Core.Path.{◌≡◌, sym, ◌∙◌}
use mathlib.Core.List.{List, [], ◌∷◌}
use Prim.Native.Nat.{ℕ, suc, ◌+◌, ◌*◌, ◌≤◌, ◌<◌}
use native.Mathlib.Omega.{arith}
use native.Mathlib.Nat.{min-eq_left}
use lib.ListN.{length, get_or, set, take, length-set}
use lib.Seq.{get_or-set_same, get_or-set_other, get_or-take, length-take-le}
use borrow.Author.Rules.{rules}
use borrow.Rule.Slice.PartMut.{put_mid}
use Rattle.std.proofs.lemmas.List.{places}
use Rattle.model.specs.Limits.{card_limit, rule_limit, group_count, most_digits}
use Rattle.rulebook.specs.Layout.{card_row_size, card_table_size, length_place, digit_place, group_place, rule_row_size, rule_table_size}
use Rattle.rulebook.specs.View.{card_count, rule_count}
use Rattle.rulebook.specs.inner.Writes.{CardAdded, MemberAdded, RuleAdded}

-- ---- the law

-- the row is at the place, and everything else is as it was
pub record Written (at : ℕ) (row before after : List ℕ) : Type 0 where
  pub size : length after ≡ length before
  pub there : (j : ℕ) → j < length row → get_or after (at + j) 0 ≡ get_or row j 0
  pub elsewhere : (k : ℕ) → (at ≤ k → k < at + length row → ⊥) → get_or after k 0 ≡ get_or before k 0

-- over as many bytes
pub row_written : (at k : ℕ) (row t : List ℕ) → k ≡ length row → at + length row ≤ length t → Written at row t (put_mid at k t row)
row_written at k row t e l = record {
  size = search (rules, places);
  there = λ j b. search (rules, places);
  elsewhere = λ i out. grind (arith, places);
}

-- one byte alone
pub byte_written : (at x : ℕ) (t : List ℕ) → at < length t → Written at (x ∷ []) t (set t at x)
byte_written at x t l = record {
  size = length-set t at x;
  there = λ k b. let e : at + k ≡ at = omega arith in let z : k ≡ 0 = omega arith in rw (e, z) (get_or-set_same t at x 0 l);
  elsewhere = λ k not_there. get_or-set_other t at k x 0 (λ e. not_there (omega arith) (omega arith));
}

-- the byte itself
pub byte_there : {at x : ℕ} {t t' : List ℕ} → Written at (x ∷ []) t t' → get_or t' at 0 ≡ x
byte_there {at} {x} {t} {t'} w = let e : at + 0 ≡ at = omega arith in rw e at (w.there 0 (omega arith))

-- ---- a card more: its length, its digits, and the count. m: its number

module _ (cards row t : List ℕ) (m n : ℕ) (is : m ≡ suc (card_count cards)) (room : m ≤ card_limit) (size_is : length cards ≡ card_table_size) (row_is : length row ≡ most_digits)
    (few : n ≤ most_digits) (b : Written (m * card_row_size + digit_place 0) row (set cards (m * card_row_size + length_place) n) t) where
  long-put : Written (m * card_row_size + length_place) (n ∷ []) cards (set cards (m * card_row_size + length_place) n)
  long-put = byte_written (m * card_row_size + length_place) n cards (omega arith)

  count-put : Written 0 (m ∷ []) t (set t 0 m)
  count-put = byte_written 0 m t (omega (arith, b.size, long-put.size))

  counted : card_count (set t 0 m) ≡ m
  unfolding card_count
  counted = rw (byte_there count-put) (min-eq_left {n = m} {m = card_limit} room)

  pub card-added : CardAdded (take n row) cards (set t 0 m)
  card-added = record {
    size = count-put.size ∙ b.size ∙ long-put.size;
    count = counted ∙ is;
    long =
        rw (← is)
        (count-put.elsewhere (m * card_row_size + length_place) (λ p q. omega arith) ∙ b.elsewhere (m * card_row_size + length_place) (λ p q. omega arith)
        ∙ byte_there long-put ∙ sym (length-take-le n row (omega arith)));
    digits = λ d l.
        let k : d < n = omega (arith, length-take-le n row (omega arith)) in
        let p : m * card_row_size + digit_place d ≡ m * card_row_size + digit_place 0 + d = omega arith in
        rw (← is, p) (count-put.elsewhere (m * card_row_size + digit_place 0 + d) (λ l m. omega arith) ∙ b.there d (omega arith) ∙ sym (get_or-take n row d 0 k));
    others = λ i j low l out.
        count-put.elsewhere (i * card_row_size + j) (λ p q. omega arith)
        ∙ b.elsewhere (i * card_row_size + j) (λ p q. out (omega arith) (omega arith))
        ∙ long-put.elsewhere (i * card_row_size + j) (λ p q. out (omega arith) (omega arith));
  }

-- ---- a member more: one byte

module _ (g m : ℕ) (cards : List ℕ) (g-low : 1 ≤ g) (g-high : g ≤ group_count) (m-low : 1 ≤ m) (m-high : m ≤ card_limit) (size_is : length cards ≡ card_table_size) where
  abbrev place : ℕ
  place = m * card_row_size + group_place g

  flag-put : Written place (1 ∷ []) cards (set cards place 1)
  flag-put = byte_written place 1 cards (omega arith)

  same_count : card_count (set cards place 1) ≡ card_count cards
  unfolding card_count
  same_count = rw (flag-put.elsewhere 0 (λ p q. omega arith))

  pub member_added : MemberAdded g m cards (set cards place 1)
  member_added = record {
    size = flag-put.size;
    count = same_count;
    flag = byte_there flag-put;
    others = λ i j l out. flag-put.elsewhere (i * card_row_size + j) (λ p q. out (omega arith) (omega arith));
  }

-- ---- a rule more: its row, and the count. n: its number

module _ (rules row t : List ℕ) (n : ℕ) (is : n ≡ suc (rule_count rules)) (room : n ≤ rule_limit) (size_is : length rules ≡ rule_table_size) (row_is : length row ≡ rule_row_size)
    (a : Written (n * rule_row_size) row rules t) where
  rule-put : Written 0 (n ∷ []) t (set t 0 n)
  rule-put = byte_written 0 n t (omega (arith, a.size))

  ruled : rule_count (set t 0 n) ≡ n
  unfolding rule_count
  ruled = rw (byte_there rule-put) (min-eq_left {n = n} {m = rule_limit} room)

  pub rule-added : RuleAdded row rules (set t 0 n)
  rule-added = record {
    size = rule-put.size ∙ a.size;
    count = ruled ∙ is;
    bytes = λ j l. rw (← is) (rule-put.elsewhere (n * rule_row_size + j) (λ p q. omega arith) ∙ a.there j (omega arith));
    others = λ i j low l out.
        rule-put.elsewhere (i * rule_row_size + j) (λ p q. omega arith) ∙ a.elsewhere (i * rule_row_size + j) (λ p q. out (omega arith));
  }
