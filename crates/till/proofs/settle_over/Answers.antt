-- Each return is the law of the question that refuses, or of all that pass; the copy that is asked and moved equals the lent holdings.
use Rattle.answers.proofs.Exits.{exit}
use Rattle.till.proofs.CallLaws.{holdings-refuse, settling-refuses, settling-done}
use Rattle.till.proofs.settle_over.Goals as goal

pub returns-in_err-next : goal.returns-in_err-next
returns-in_err-next c = rw (exit _ _ c.from_residual.ensures.1) (holdings-refuse _ _ _ _ _ (rw c.card_count.ensures at c.in_err-next.ensures))

pub returns-in_err-told : goal.returns-in_err-told
returns-in_err-told c =
    let met = rw c.card_count.ensures at c.in_ok-next.ensures in
    rw (exit _ _ c.from_residual-in_err-told.ensures.1) (settling-refuses _ _ _ _ _ met.0 met.1 _ _ c.in_err-told.ensures)

pub returns : goal.returns
returns c =
    let met = rw c.card_count.ensures at c.in_ok-next.ensures in
    rw c.copy_from_slice.ensures.after (settling-done _ _ _ _ _ met.0 met.1 _ _ c.settle.array_long c.in_ok-told.ensures)
