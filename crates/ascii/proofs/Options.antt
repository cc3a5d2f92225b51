-- An answer that is `Some` exactly if a test holds; std's `cond_some` is the other half.
use mathlib.Core.Path.{◌≡◌, refl}
use mathlib.Core.Bool.{Bool, true, false}
use Rattle.std.specs.Prelude.{Some, None, if◌then◌else◌}

pub cond_none : {A : Type 0} (b : Bool) (x : A) → (if b then Some x else None) ≡ None → b ≡ false
cond_none true x e = cc
cond_none false x e = refl
