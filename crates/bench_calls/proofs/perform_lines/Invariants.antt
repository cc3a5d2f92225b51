-- What is left is a line shorter each turn.
use Rattle.std.proofs.Common.{length}
use Rattle.bench_calls.proofs.perform_lines.Given as goal

abbrev pub decreases-loop-line : goal.decreases-loop-line
decreases-loop-line g l = length l.rest
