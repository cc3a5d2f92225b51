-- A refusal is the first of questions 8, 9 and 10; otherwise the count is added at the card's and kind's place. It fits there,
-- since a holding is a part of its kind's sum.
use native.Mathlib.Omega.{arith}
use Rattle.answers.proofs.Exits.{exit}
use Rattle.accounts.proofs.AccountLaws.{found_known, issue_unknown, issue_exceeds, issue-done, held_part}
use Rattle.accounts.proofs.issue.Goals as goal

pub returns-in_err-place : goal.returns-in_err-place
returns-in_err-place c = rw (exit _ _ c.from_residual.ensures.1) (issue_unknown _ _ _ _ _ c.in_err-place.ensures.place _)

pub returns-then-from-sum : goal.returns-then-from-sum
returns-then-from-sum c = rw c.into.ensures (issue_exceeds _ _ _ _ _ (found_known _ _ _ _ c.in_ok-place.ensures.place) _ (omega (arith, c.kind_sum.ensures.0)))

pub overflow_add-holdings : goal.overflow_add-holdings
overflow_add-holdings c =
    let part = held_part c.args.holdings.now _ _ _ _ (found_known _ _ _ _ c.in_ok-place.ensures.place) in
    omega (arith, c.kind_sum.ensures.0)

pub returns : goal.returns
returns c = issue-done _ _ _ _ _ (found_known _ _ _ _ c.in_ok-place.ensures.place) _ c.told-holdings (omega (arith, c.kind_sum.ensures.0))
