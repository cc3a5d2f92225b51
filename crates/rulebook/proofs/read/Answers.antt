-- The text is too long, or its lines give the answer: the opening's.
use mathlib.Core.Path.{sym}
use Rattle.answers.proofs.Exits.{exit}
use Rattle.rulebook.proofs.Texts.{too_long, reads_refused, reads_done}
use Rattle.rulebook.proofs.read.Goals as goal

pub returns-then-text-gt-TEXT_LIMIT : goal.returns-then-text-gt-TEXT_LIMIT
returns-then-text-gt-TEXT_LIMIT c = rw c.into.ensures (reads_refused (too_long _ c.if-text-gt-TEXT_LIMIT.true))

pub returns-in_err-take_lines : goal.returns-in_err-take_lines
returns-in_err-take_lines c =
    rw (exit _ _ c.from_residual.ensures.1) (reads_refused (sym (rw c.in_err-take_lines.was at c.take_lines.ensures)))

pub returns : goal.returns
returns c = reads_done (sym (rw c.in_ok-take_lines.was at c.take_lines.ensures))
