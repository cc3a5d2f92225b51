-- The first i cards are unlike the number's digits. Card i + 1 is told from them by its first digit that differs, or by its length; otherwise
-- it is equal.
use mathlib.Core.Path.{◌≡◌, sym, ◌∙◌, ap}
use Prim.Native.Nat.{ℕ, suc, ◌<◌}
use native.Mathlib.Omega.{arith}
use native.Mathlib.Numerals.{add-one}
use lib.Dec.{ltb}
use lib.ListN.{length, get_or}
use lib.Seq.{get_or-take, length-take-le}
use borrow.Author.Count.{below_more}
use borrow.Author.Tests.{lt-ltb, ltb-true, eqb-true, eqb-false, not-true, not-false}
use Rattle.model.proofs.Tests.{both_true}
use Rattle.model.specs.Limits.{most_digits}
use Rattle.forms.specs.Numbers.{digits_in}
use Rattle.rulebook.specs.View.{card_count, card_length, digit_at}
use Rattle.rulebook.proofs.Known.{other_length, other_digit, equal_card, Lent, lent-size, lent_digit}
use borrow.Author.Rules.{rules}
use Rattle.rulebook.proofs.cards.is_known.Goals as goal
use Rattle.rulebook.proofs.cards.is_known.Goals.{After-card_length, After-digits-digits, After-loop-d, At-loop-d}

-- as many digits as are counted
long : (c : At-loop-d) → length (digits_in c.args.number) ≡ c.args.number.count
long c =
    let n = c.args.number in
    let l : length n.digits ≡ most_digits = search rules in
    length-take-le n.count n.digits (omega (arith, c.args.number.few))

lent : (c : After-digits-digits) → Lent c.args.cards.now c.cards.i c.digits-digits.result.now
lent c = record { card = omega (arith, c.card_count-i-end.ensures, c.cards-test.true); there = c.digits-digits.ensures }

pub cards-preserved-then-d-count : goal.cards-preserved-then-d-count
cards-preserved-then-d-count c =
    let at = goal.at.cards-preserved-then-d-count c in
    let n = c.args.number in
    let d = c.loop-d.d in
    let t = both_true (ltb d c.from-count.result) _ c.if-d-count.true in
    let l = ltb-true d n.count (rw c.from-count.ensures at t.0) in (
      other_digit c.args.cards.now (digits_in n) c.cards.i c.cards.invariant.0 d (omega (arith, long at.At-loop-d))
          (λ e. eqb-false _ _ (not-true _ t.1) (sym (get_or-take n.count n.digits d 0 l) ∙ sym e ∙ sym (lent_digit (lent at.After-digits-digits) d c.loop-d-test.true))),
      c.cards.invariant.1,
    )

pub loop-d-preserved : goal.loop-d-preserved
loop-d-preserved c =
    let d = c.loop-d.d in
    below_more (λ (k : ℕ). k < c.args.number.count → digit_at c.args.cards.now (suc c.cards.i) k ≡ get_or c.args.number.digits k 0) d c.loop-d.invariant
    (λ (l : d < c.args.number.count).
    sym (lent_digit (lent (goal.at.loop-d-preserved c).After-digits-digits) d c.loop-d-test.true)
    ∙ sym (eqb-true _ _ (not-false _ (rw (c.from-count.ensures, lt-ltb d c.args.number.count l) at c.if-d-count.false))))

-- past the inner loop all the number's digits are the card's
same_digits : (c : After-loop-d) → (k : ℕ) → k < length (digits_in c.args.number)
    → digit_at c.args.cards.now (suc c.cards.i) k ≡ get_or (digits_in c.args.number) k 0
same_digits c k l =
    let n = c.args.number in
    let m : k < n.count = omega (arith, long (goal.at.After-loop-d c).At-loop-d) in
    c.loop-d.invariant k (omega (arith, c.args.number.few, c.loop-d-test.false, lent-size (lent (goal.at.After-loop-d c).After-digits-digits))) m ∙ sym (get_or-take n.count n.digits k 0 m)

-- the length of card i + 1 as the program reads it
read_length : (c : After-card_length) → c.card_length.result ≡ card_length c.args.cards.now (suc c.cards.i)
read_length c =
    c.card_length.ensures ∙ ap (card_length c.args.cards.now) (add-one c.cards.i)

pub cards-preserved : goal.cards-preserved
cards-preserved c =
    let at = goal.at.cards-preserved c in (
      other_length c.args.cards.now (digits_in c.args.number) c.cards.i c.cards.invariant.0 (λ e. c.if-card_length-number.false (read_length at.After-card_length ∙ e ∙ long at.At-loop-d)),
      c.cards.invariant.1,
    )

pub returns-then-card_length-number : goal.returns-then-card_length-number
returns-then-card_length-number c =
    let at = goal.at.returns-then-card_length-number c in
    let cards = c.args.cards.now in
    sym (equal_card cards (digits_in c.args.number) c.cards.i c.cards.invariant.0 (card_count cards) (omega (arith, c.card_count-i-end.ensures, c.cards-test.true))
    (sym (read_length at.After-card_length) ∙ c.if-card_length-number.true ∙ sym (long at.At-loop-d)) (same_digits at.After-loop-d))
