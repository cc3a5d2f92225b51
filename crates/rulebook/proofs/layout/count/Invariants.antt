-- So many are among the first.
use mathlib.Core.Path.{◌≡◌}
use lib.ListN.{take}
use Rattle.std.specs.List.{count_by}
use Rattle.std.specs.Option.{is_some}
use Rattle.rulebook.proofs.layout.count.Given as goal

abbrev pub invariant-loop-entry : goal.invariant-loop-entry
invariant-loop-entry g l = l.n ≡ count_by is_some (take l.entry-index l.entries)
