-- The sum of what the digits before i count, with those from i on, is the whole sum.
use mathlib.Core.Path.{◌≡◌}
use Prim.Native.Nat.{◌+◌, ◌*◌, ◌≤◌}
use lib.ListN.{drop}
use Rattle.model.specs.CardNumbers.{luhn_sum}
use Rattle.forms.proofs.numbers.CardNumber.checks.Given as goal

abbrev pub invariant-loop-i : goal.invariant-loop-i
invariant-loop-i l = (l.sum + luhn_sum (drop l.i l.d-items) ≡ luhn_sum l.d-items) × (l.sum ≤ 510 * l.i)
