-- A refusal is the first of questions 8 and 9; otherwise the holding at the card's and kind's place is told.
use Rattle.answers.proofs.Exits.{exit}
use Rattle.accounts.proofs.AccountLaws.{found_known, query_unknown, query_told}
use Rattle.accounts.proofs.holding.Goals as goal

pub returns-in_err-place : goal.returns-in_err-place
returns-in_err-place c = rw (exit _ _ c.from_residual.ensures.1) (query_unknown _ _ _ _ _ c.in_err-place.ensures.place)

pub returns : goal.returns
returns c = query_told _ _ _ _ _ (found_known _ _ _ _ c.in_ok-place.ensures.place)
