-- The digits to come, after the value of those before them, are the word's; so few digits have no larger value.
use Rattle.std.proofs.Common.{◌≡◌, ◌<◌, drop}
use Rattle.commands.proofs.Decimals.{tens, digits_from}
use Rattle.commands.proofs.numbers.read.Given as goal

abbrev pub invariant-loop-x : goal.invariant-loop-x
invariant-loop-x l = (l.value < tens l.x-index) × (digits_from l.value (drop l.x-index l.word) ≡ digits_from 0 l.word)
