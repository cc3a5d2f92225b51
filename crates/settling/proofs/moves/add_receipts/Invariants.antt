-- `BroughtTo` says how many transfers' receipts are added.
use Rattle.settling.proofs.MoveLaws.{BroughtTo}
use Rattle.settling.proofs.moves.add_receipts.Given as goal

abbrev pub invariant-loop-kind : goal.invariant-loop-kind
invariant-loop-kind l = BroughtTo l.initial.holdings l.exchange l.holdings l.kind-index
