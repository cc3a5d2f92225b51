-- A refused text is the reply, with the holdings as they were; what is read goes on over its tables.
use Rattle.answers.proofs.Exits.{exit}
use Rattle.till.proofs.CallLaws.{text_refused, text_read}
use Rattle.till.proofs.settle.Goals as goal

pub returns-in_err-tables : goal.returns-in_err-tables
returns-in_err-tables c = rw (exit _ _ c.from_residual.ensures.1) (text_refused _ _ _ _ _ c.in_err-tables.ensures)

pub returns : goal.returns
returns c = text_read _ _ _ _ _ _ _ c.in_ok-tables.ensures c.settle_over.ensures
