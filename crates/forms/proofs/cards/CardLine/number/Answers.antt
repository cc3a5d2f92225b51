-- A number has as many digits as it counts, 12 to 19, or there is none.
use mathlib.Core.Path.{◌≡◌, refl, ◌∙◌}
use mathlib.Core.Bool.{false, not}
use mathlib.Core.Logic.{⊎_elim}
use mathlib.Core.List.{List}
use Rattle.forms.specs.declared.numbers.CardNumber.{CardNumber}
use Prim.Native.Nat.{ℕ, ◌≤◌, ◌<◌}
use native.Mathlib.Omega.{arith}
use borrow.Author.Tests.{le-leb, lt-leb}
use borrow.Author.Rules.{rules}
use lib.ListN.{length}
use lib.Dec.{T}
use Rattle.std.specs.Prelude.{MatchOption}
use Rattle.std.specs.Bool.{then_some}
use lib.Seq.{length-take-le}
use Rattle.model.specs.Limits.{least_digits, most_digits}
use Rattle.model.proofs.Tests.{eq-T, lt_or_ge}
use Rattle.forms.specs.Numbers.{is_number_in}
use Rattle.forms.proofs.Parts.{chosen_where}
use Rattle.forms.proofs.cards.CardLine.number.Goals as goal

abbrev numbered : (n : ℕ) (ds : List ℕ) → n ≤ most_digits → CardNumber
numbered n ds f = record { count = n; digits = ds; few = f }

pub returns-then-not-contains : goal.returns-then-not-contains
unfolding is_number_in
returns-then-not-contains c =
    let n = c.args.self in
    let l : length n.digits ≡ most_digits = search rules in
    let none : is_number_in n ≡ false =
    ⊎_elim
    (λ (k : n.count < least_digits). rw (length-take-le n.count n.digits (omega (arith, k, l))) (search (rules, le-leb, lt-leb)))
    (λ (k : least_digits ≤ n.count). let over : most_digits < n.count = search rules in search (rules, lt-leb))
    (lt_or_ge n.count least_digits) in
    rw none tt

pub returns : goal.returns
unfolding is_number_in
returns c =
    let n = c.args.self in
    let l : length n.digits ≡ most_digits = search rules in
    let few : n.count ≤ most_digits = search rules in
    let enough : least_digits ≤ n.count = search rules in
    let same : is_number_in n ≡ c.checks.result = rw (length-take-le n.count n.digits (omega (arith, few, l))) (search (rules, le-leb, lt-leb)) in
    let number : (f : n.count ≤ most_digits)
    → MatchOption (then_some c.checks.result (numbered n.count n.digits f)) (T (not (is_number_in n))) (λ m. T (is_number_in n) × ((m.count ≡ n.count) × (m.digits ≡ n.digits)))
    = λ f. chosen_where _ c.checks.result (numbered n.count n.digits f) (λ e. rw (same ∙ e) tt) (λ e. (eq-T (same ∙ e), (refl, refl))) in
    rw c.then_some.ensures (number _)
