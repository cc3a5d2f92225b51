-- The call is on the engine's holdings, over its book's number of cards.
use Rattle.engine.proofs.CallLaws.{called_among}
use Rattle.engine.proofs.issue.Goals as goal

pub returns : goal.returns
returns c = called_among _ _ _ _ _ c.card_count-declared.ensures c.issue-reply.ensures
