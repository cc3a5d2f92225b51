-- The places before i have what was found.
use mathlib.Core.Bool.{Bool}
use mathlib.Core.List.{List}
use Prim.Native.Nat.{ℕ}
use Rattle.letters.specs.Letters.{Begins}
use Rattle.forms.proofs.Leading.{SoFar}
use Rattle.forms.proofs.rules.leading.Given as goal

abbrev pub invariant-loop-i : goal.invariant-loop-i
invariant-loop-i g l =
    (there : List ℕ → Bool) (said : List ℕ → g.row.T.Denot) (width : ℕ)
    → ((part r : _) → goal.F-post g l.read part r → Begins (there part.now) (said part.now) width part.now r)
    → SoFar there said width g.row.N l.fn.rest.now l.i l.found l.rest.now
