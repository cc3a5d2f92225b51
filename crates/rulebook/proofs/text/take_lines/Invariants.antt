-- What is left to read, over the book of the tables so far, is the whole text's opening.
use lib.ListN.{length}
use Rattle.rulebook.proofs.Texts.{Turn}
use Rattle.rulebook.proofs.text.take_lines.Given as goal

abbrev pub invariant-loop-line : goal.invariant-loop-line
invariant-loop-line l = Turn l.text l.rest l.number l.tables

abbrev pub decreases-loop-line : goal.decreases-loop-line
decreases-loop-line l = length l.rest
