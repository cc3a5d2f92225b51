-- A letter of the range has its distance from a.
use borrow.Author.Tests.{le-leb, lt-leb}
use borrow.Author.Rules.{rules}
use Rattle.model.specs.Reader.{variable_of}
use Rattle.letters.proofs.NameLaws.{variable_is}
use Rattle.letters.proofs.variable.Goals as goal

pub returns-in-97-to-104 : goal.returns-in-97-to-104
unfolding variable_of
returns-in-97-to-104 c = variable_is c.args.x _ (search (rules, le-leb, lt-leb))
