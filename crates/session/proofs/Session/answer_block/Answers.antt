-- The line that was begun before, then the lines in the block, then what has no LF.
use mathlib.Core.Path.{refl}
use native.Mathlib.Omega.{arith}
use Rattle.model.proofs.Places.{to_end}
use Rattle.session.specs.inner.Parts.{progress_in}
use Rattle.session.proofs.Printing.{put_to_end}
use Rattle.session.proofs.Walking.{walking_none, first-answered, line-answered, block-answered, goes_on}
use Rattle.session.proofs.Session.answer_block.Goals as goal

pub returns-in_default : goal.returns-in_default
returns-in_default c =
    let s = c.args.self.now in
    let buffer = c.args.buffer.now in
    let w = walking_none s.dialect _ (progress_in s buffer) _ _ c.requires.answers in
    block-answered s buffer _ _ c.requires.line _ _ _ _ w c.in_default.ensures s buffer (goes_on s buffer) refl c.requires.kept refl _ _ c.keep.ensures

pub loop-line-init : goal.loop-line-init
loop-line-init c =
    first-answered c.args.self.now c.args.buffer.now _ _ c.requires.line c.requires.kept c.requires.answers _ _ c.in-Some.ensures _ _ c.keep-2.ensures _ _ _ c.answer_line-count.ensures

pub loop-line-preserved : goal.loop-line-preserved
loop-line-preserved c =
    let l = c.loop-line in
    let line = c.answer_line-count-in-Some-cut in
    let a = rw (to_end l.out l.count) at line.ensures in
    rw (put_to_end l.count l.out line.new.out)
    (line-answered c.args.self.now c.args.buffer.now _ _ c.requires.line l.self _ _ _ _ _ c.in-Some-cut.ensures l.invariant _ _ _ a)

pub returns : goal.returns
returns c =
    let w = c.loop-line.invariant in
    block-answered c.args.self.now c.args.buffer.now _ _ c.requires.line _ _ _ _ w.0 c.in_default-cut.ensures _ _
    (record { state = w.1.state; dialect = w.1.dialect; book = w.1.book }) refl (omega arith) c.keep-2.ensures.long _ _ c.keep-3.ensures
