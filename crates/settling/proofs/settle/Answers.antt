-- What is judged and refused leaves the holdings; what passes is finished.
use Rattle.answers.proofs.Exits.{exit}
use Rattle.settling.proofs.JudgedLaws.{judge_stops, judge_passes, finish_refuses, finish_moves}
use Rattle.settling.proofs.settle.Goals as goal

pub returns-in_err-judge : goal.returns-in_err-judge
returns-in_err-judge c = rw (exit _ _ c.from_residual.ensures.1) (judge_stops _ _ _ _ _ c.in_err-judge.ensures)

pub finish-requires : goal.finish-requires
finish-requires c = rw c.card_count.ensures (judge_passes _ _ _ _ c.in_ok-judge.ensures)

pub returns-in_err-finish : goal.returns-in_err-finish
returns-in_err-finish c = rw (exit _ _ c.from_residual-in_err-finish.ensures.1) (finish_refuses _ _ _ _ _ _ c.in_ok-judge.ensures _ (rw c.card_count.ensures at c.in_err-finish.ensures))

pub returns : goal.returns
returns c = finish_moves _ _ _ _ _ _ c.in_ok-judge.ensures (rw c.card_count.ensures at c.in_ok-finish.ensures)
