-- `TakenTo` says how many transfers' gifts are taken; a chunk of three bytes is a transfer.
use native.Mathlib.Omega.{arith}
use Rattle.answers.proofs.Exits.{exit, ok_where, err_unless}
use Rattle.accounts.proofs.HoldingPlaces.{spot_below}
use Rattle.settling.proofs.Transfers.{Turn, gift_turn}
use Rattle.settling.proofs.MoveLaws.{none-there, taken_more, taken_all}
use Rattle.settling.proofs.moves.take_gifts.Goals as goal
use Rattle.settling.proofs.moves.take_gifts.Goals.{After-place-place}

turn : (c : After-place-place) → Turn (λ t. t.giver) c.args.exchange.now c.loop-giver.giver-index c.place-place.result
turn c = gift_turn _ _ _ c.as_chunks.ensures.front _ _ c.as_chunks.ensures.front_len c.loop-giver-test.true _ _ c.place-place.ensures c.from.ensures

pub bounds-holdings-place : goal.bounds-holdings-place
bounds-holdings-place c = let t = turn (goal.at.bounds-holdings-place c).After-place-place in spot_below _ _ _ (c.requires.givers _ t.among) t.there

pub returns-in_err-holdings : goal.returns-in_err-holdings
returns-in_err-holdings c =
    let none = err_unless _ _ _ _ c.checked_sub.ensures c.in_err-holdings.ensures.value in
    rw (exit _ _ c.from_residual.ensures.1) (none.1, none-there _ _ _ _ _ c.requires c.loop-giver.invariant (turn (goal.at.returns-in_err-holdings c).After-place-place) none.0)

pub loop-giver-preserved : goal.loop-giver-preserved
loop-giver-preserved c =
    let left = ok_where _ _ _ _ c.checked_sub.ensures c.in_ok-holdings.ensures.value in
    rw left.1 (taken_more _ _ _ _ _ c.requires c.loop-giver.invariant (turn (goal.at.loop-giver-preserved c).After-place-place) left.0)

pub returns : goal.returns
returns c = taken_all _ _ _ _ c.loop-giver.invariant (omega (arith, c.as_chunks.ensures.front_len))
