-- No reason has the number 0.
use Prim.Native.Nat.{◌≤◌}
use native.Mathlib.Omega.{arith}
use Rattle.answers.specs.View.{number_of}
use Rattle.answers.specs.declared.Reason.{Reason}

pub number_positive : (reason : Reason) → 1 ≤ number_of reason
number_positive reason = grind arith
