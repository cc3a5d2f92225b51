-- Nothing is kept, or a line that is answered.
use mathlib.Core.Path.{◌≡◌, sym}
use Prim.Native.Nat.{min}
use native.Mathlib.Omega.{arith}
use lib.ListN.{length}
use borrow.Author.Tests.{eqb-true}
use Rattle.model.proofs.Tests.{eqb_ne}
use Rattle.session.specs.Blocks.{line_room}
use Rattle.session.proofs.Sessions.{ends-nothing, ends-line}
use Rattle.session.proofs.finish.Goals as goal
use Rattle.session.proofs.finish.Goals.{After-min}

-- as much of the line as is kept and lent
size_is : (c : After-min) → c.min.result ≡ min (min c.args.session.size (line_room c.args.session.dialect)) (length c.args.buffer.now)
size_is c = omega (arith, c.min.ensures, c.min-kept.ensures, c.line_room.ensures)

pub returns-then-is_empty : goal.returns-then-is_empty
returns-then-is_empty c = ends-nothing _ _ _ _ (size_is (goal.at.returns-then-is_empty c).After-min) (eqb-true _ _ (sym c.if-is_empty.ensures))

pub returns : goal.returns
returns c = ends-line _ _ _ _ (size_is (goal.at.returns c).After-min) (eqb_ne _ _ (sym c.if-is_empty.ensures)) _ _ _ c.answer.ensures
