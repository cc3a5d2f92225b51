-- A refusal is the first of questions 8, 9 and 11; otherwise the count is taken at the card's and kind's place.
use native.Mathlib.Omega.{arith}
use Rattle.answers.proofs.Exits.{exit, ok_where, err_unless}
use Rattle.accounts.proofs.AccountLaws.{found_known, redeem_unknown, redeem-short, redeem-done}
use Rattle.accounts.proofs.redeem.Goals as goal

pub returns-in_err-place : goal.returns-in_err-place
returns-in_err-place c = rw (exit _ _ c.from_residual.ensures.1) (redeem_unknown _ _ _ _ _ c.in_err-place.ensures.place _)

pub returns-in_err-holdings : goal.returns-in_err-holdings
returns-in_err-holdings c =
    let less = err_unless _ _ _ _ c.checked_sub.ensures c.in_err-holdings.ensures.value in
    rw (exit _ _ c.from_residual-in_err-holdings.ensures.1, less.1) (redeem-short _ _ _ _ _ (found_known _ _ _ _ c.in_ok-place.ensures.place) _ (omega (arith, less.0)))

pub returns : goal.returns
returns c =
    let left = ok_where _ _ _ _ c.checked_sub.ensures c.in_ok-holdings.ensures.value in
    rw left.1 (redeem-done _ _ _ _ _ (found_known _ _ _ _ c.in_ok-place.ensures.place) _ c.told-holdings left.0)
