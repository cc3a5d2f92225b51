-- What a `?` goes on with, or returns where a call failed.
use mathlib.Core.Path.{◌≡◌, ap, ◌∙◌}
use Rattle.std.specs.Prelude.{Option, None, Some, Result, Ok, Err}
use Rattle.std.specs.Option.{SomeIff, ok_or}
use Rattle.std.specs.Result.{IsErrAnd}
use Rattle.std.proofs.lemmas.Result.{err_from_is_err_and}

-- the error that `From` makes is e
pub exit : {T E : Type 0} (r : Result T E) (e : E) → IsErrAnd r (λ made. made ≡ e) → r ≡ Err e
exit r e h = let p = err_from_is_err_and r h in p.1 ∙ ap Err p.2

-- after `ok_or`, of a value v where P holds, as `checked_sub` tells
module _ {T E P : Type 0} (why : E) (v : T) where
  pub ok_where : (o : Option T) (x : T) → SomeIff o P v → Ok x ≡ ok_or o why → P × (x ≡ v)
  ok_where None x s q = cc
  ok_where (Some y) x s q = let e : x ≡ y = cc in (s.0, e ∙ s.1)

  pub err_unless : (o : Option T) (e : E) → SomeIff o P v → Err e ≡ ok_or o why → (P → ⊥) × (e ≡ why)
  err_unless None e s q = (s, cc)
  err_unless (Some y) e s q = cc
