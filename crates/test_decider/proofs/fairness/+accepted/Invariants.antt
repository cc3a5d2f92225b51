-- Each call has fewer heads to go.
use Rattle.std.proofs.Common.{length}
use Rattle.test_decider.proofs.fairness.+accepted.Given as goal

abbrev pub decreases-accepted : goal.decreases-accepted
decreases-accepted l = length l.heads.now
