-- The sum of what the digits before i count, with those from i on, is the whole sum.
use mathlib.Core.Path.{◌≡◌}
use mathlib.Core.List.{List}
use Prim.Native.Nat.{ℕ, ◌≤◌}
use native.Mathlib.Omega.{arith}
use lib.ListN.{length, take}
use lib.Seq.{length-take-le}
use Rattle.model.specs.Limits.{most_digits}
use Rattle.model.specs.CardNumbers.{luhn}
use Rattle.forms.proofs.Checks.{sum_more, luhn-is}
use borrow.Author.Rules.{rules}
use Rattle.forms.proofs.numbers.CardNumber.checks.Goals as goal
use Rattle.forms.proofs.numbers.CardNumber.checks.Goals.{At-loop-i}

abbrev digits : At-loop-i → List ℕ
digits c = take c.from-n.result c.args.self.digits

-- as many digits as are counted
long : (c : At-loop-i) → length (digits c) ≡ c.from-n.result
long c =
    let l : length c.args.self.digits ≡ most_digits = search rules in
    let few : c.args.self.count ≤ most_digits = c.args.self.few in
    length-take-le c.from-n.result c.args.self.digits (rw c.from-n.ensures (omega (arith, l, few)))

pub loop-i-preserved : goal.loop-i-preserved
loop-i-preserved c =
    let at = (goal.at.loop-i-preserved c).At-loop-i in
    let h = c.loop-i in
    let more = sum_more (digits at) h.i h.sum h.invariant.0 (omega (arith, c.loop-i-test.true)) in
    (rw c.weigh-sum.ensures.0 (rw (long at) at more), omega (arith, c.weigh-sum.ensures.1, h.invariant.1))

pub returns : goal.returns
unfolding luhn
returns c =
    let at = (goal.at.returns c).At-loop-i in
    let h = c.loop-i in
    rw (luhn-is (digits at) h.i h.sum h.invariant.0 (omega (arith, c.loop-i-test.false)), c.from-n.ensures)
