-- The walk goes from LF to LF.
use lib.ListN.{length}
use Rattle.engine.specs.View.{state_in}
use Rattle.session.specs.Blocks.{between_lines}
use Rattle.session.proofs.Walking.{GoesOn, Walked}
use Rattle.session.proofs.Session.answer_block.Given as goal

abbrev pub invariant-loop-line : goal.invariant-loop-line
invariant-loop-line l =
    let q = between_lines (state_in l.self.engine) in
    Walked l.fn.self l.fn.buffer l.block l.fn.out q l.out l.count l.rest × GoesOn l.fn.self l.self q

abbrev pub decreases-loop-line : goal.decreases-loop-line
decreases-loop-line l = length l.rest
