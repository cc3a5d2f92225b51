-- The bytes before the loop's place are digits and hyphens in their places, and the row has the digits among them, as far as it goes.
use mathlib.Core.Path.{◌≡◌}
use mathlib.Core.Bool.{false}
use lib.ListN.{drop}
use Rattle.model.specs.Reader.{in_printed_groups}
use Rattle.forms.proofs.Digits.{Taken}
use Rattle.forms.proofs.cards.read_word.Given as goal

abbrev pub invariant-loop-x : goal.invariant-loop-x
invariant-loop-x l = Taken l.s l.x-index l.count l.digits × (in_printed_groups l.after_digit (drop l.x-index l.s) ≡ in_printed_groups false l.s)
