-- No room for a line: nothing is taken.
use native.Mathlib.Omega.{arith}
use Rattle.session.proofs.Sessions.{feeds_nothing}
use Rattle.session.proofs.feed.Goals as goal

pub returns-then-buffer-room : goal.returns-then-buffer-room
returns-then-buffer-room c = feeds_nothing _ _ _ _ (omega (arith, c.line_room-room.ensures, c.if-buffer-room.true))
