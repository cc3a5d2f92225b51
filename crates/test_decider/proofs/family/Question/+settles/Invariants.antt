-- The count of records that are not chosen falls at each call.
use Rattle.std.proofs.Common.{◌-◌, length}
use Rattle.test_decider.proofs.family.Question.+settles.Given as goal

abbrev pub decreases-settles : goal.decreases-settles
decreases-settles l = length l.self.now.exchange.now - l.which
