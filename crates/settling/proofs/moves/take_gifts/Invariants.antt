-- `TakenTo` says how many transfers' gifts are taken.
use Rattle.settling.proofs.MoveLaws.{TakenTo}
use Rattle.settling.proofs.moves.take_gifts.Given as goal

abbrev pub invariant-loop-giver : goal.invariant-loop-giver
invariant-loop-giver l = TakenTo l.initial.holdings l.exchange l.holdings l.giver-index
