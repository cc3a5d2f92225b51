-- What is left is a part of the input, and a line shorter each turn.
use Rattle.std.proofs.Common.{length, ◌≤◌}
use Rattle.bench_calls.proofs.cut_part.Given as goal

abbrev pub invariant-loop-line : goal.invariant-loop-line
invariant-loop-line l = length l.rest ≤ length l.input

abbrev pub decreases-loop-line : goal.decreases-loop-line
decreases-loop-line l = length l.rest
