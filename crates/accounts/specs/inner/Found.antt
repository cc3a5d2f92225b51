-- Questions 8 and 9 together.
use Rattle.std.specs.Prelude.{cond, ℕ, min, Result, Ok, Err}
use Rattle.model.specs.Limits.{card_limit}
use Rattle.model.specs.Lists.{within}
use Rattle.model.specs.Grammar.{is_kind}
use Rattle.answers.specs.declared.Reason.{Reason}
use Rattle.answers.specs.declared.Reason.TheVariants.{CardUndeclared, KindUnknown}
use Rattle.accounts.specs.View.{place_of}

-- questions 8 and 9, for the calls that ask both: why the first that is not met is not, or, where both are, the holding's place
unfoldable pub found : ℕ → ℕ → ℕ → Result ℕ Reason
found declared c k = cond (within c (min declared card_limit)) (cond (is_kind k) (Ok (place_of c k)) (Err KindUnknown)) (Err CardUndeclared)
