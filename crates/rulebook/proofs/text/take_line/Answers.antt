-- By the first letter, one law for each form.
use native.Mathlib.Omega.{arith}
use borrow.Author.Rules.{rules}
use Rattle.rulebook.proofs.Lines.{card-line, group-line, rule-line, no_line}
use Rattle.rulebook.proofs.text.take_line.Goals as goal

pub returns-in-67 : goal.returns-in-67
returns-in-67 c = card-line (search rules) c.take.ensures

pub returns-in-71 : goal.returns-in-71
returns-in-71 c = group-line (search rules) c.take-in-71.ensures

pub returns-in-82 : goal.returns-in-82
returns-in-82 c = rule-line (search rules) (rw c.card_count.ensures at c.take-in-82.ensures)

pub returns-in_default : goal.returns-in_default
returns-in_default c = no_line (λ x. grind arith) (λ x. grind arith) (λ x. grind arith)
