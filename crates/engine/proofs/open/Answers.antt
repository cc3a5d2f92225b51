-- The tables are those that were read, or the empty text's, and the holdings are zero.
use Rattle.engine.proofs.CallLaws.{opens, opens_none}
use Rattle.engine.proofs.open.Goals as goal
use Rattle.engine.proofs.open.Goals.{in-Ok, in-Err}

pub returns : goal.returns
returns c = elim c.match-read.branch [
  | in-Ok w ↦ rw w.answer-is (opens _ _ w.in-Ok.ensures)
  | in-Err w ↦ rw (w.answer-is, w.empty.ensures.tables) (opens_none _ _ w.in-Err.ensures)
]
