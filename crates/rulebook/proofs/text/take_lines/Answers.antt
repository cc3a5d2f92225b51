-- What is left to read, over the book of the tables so far, is the whole text's opening.
use mathlib.Core.Path.{ap, sym, ◌∙◌}
use Rattle.model.specs.Questions.{refused}
use Rattle.answers.proofs.Exits.{exit}
use Rattle.answers.specs.View.{number_of}
use Rattle.answers.specs.declared.Refusal.{Refusal}
use Rattle.rulebook.proofs.Texts.{starts, all_read, no-LF, line-refused, line_done}
use borrow.Author.Rules.{rules}
use Rattle.rulebook.proofs.text.take_lines.Goals as goal

pub loop-line-init : goal.loop-line-init
loop-line-init c = starts c.args.text.now c.requires.0 c.args.tables.now c.requires.1

pub returns-in_err-map_err : goal.returns-in_err-map_err
returns-in_err-map_err c =
    rw (exit _ _ c.from_residual.ensures.1) (sym (line-refused c.loop-line.invariant c.in-Some.ensures c.take_line.ensures (search rules)))

pub loop-line-preserved : goal.loop-line-preserved
loop-line-preserved c = line_done c.loop-line.invariant c.in-Some.ensures c.take_line.ensures (search rules)

pub returns-then-not-is_empty : goal.returns-then-not-is_empty
returns-then-not-is_empty c = ap (λ (r : Refusal). refused (number_of r.reason) r.place) c.at.ensures ∙ sym (no-LF c.loop-line.invariant c.in_default.ensures (search rules))

pub returns : goal.returns
returns c = sym (all_read c.loop-line.invariant (search rules))
