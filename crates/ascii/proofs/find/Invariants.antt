-- The wanted byte is in none of the first i eights.
use mathlib.Core.Path.{◌≡◌}
use Prim.Native.Nat.{◌+◌, ◌*◌}
use lib.ListN.{drop}
use Rattle.model.specs.Lists.{until}
use Rattle.ascii.proofs.find.Given as goal

abbrev pub invariant-loop-i : goal.invariant-loop-i
invariant-loop-i l = until l.wanted l.text ≡ l.i * 8 + until l.wanted (drop (l.i * 8) l.text)
