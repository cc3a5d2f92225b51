-- `BroughtTo` says how many transfers' receipts are added; a chunk of three bytes is a transfer.
use Rattle.std.proofs.Common.{◌<◌}
use native.Mathlib.Omega.{arith}
use Rattle.accounts.proofs.HoldingPlaces.{spot_below}
use Rattle.settling.proofs.Transfers.{Turn, receipt_turn}
use Rattle.settling.proofs.MoveLaws.{brought_none, brought_more, brought_all}
use Rattle.settling.proofs.moves.add_receipts.Goals as goal
use Rattle.settling.proofs.moves.add_receipts.Goals.{After-place-place}

turn : (c : After-place-place) → Turn (λ t. t.receiver) c.args.exchange.now c.loop-kind.kind-index c.place-place.result
turn c = receipt_turn _ _ _ c.as_chunks.ensures.front _ _ c.as_chunks.ensures.front_len c.loop-kind-test.true _ _ c.place-place.ensures c.from.ensures

inside : (c : After-place-place) → c.place-place.result < 512
inside c = let t = turn c in spot_below _ _ _ (c.requires.receivers _ t.among) t.there

pub bounds-holdings-place : goal.bounds-holdings-place
bounds-holdings-place c = inside (goal.at.bounds-holdings-place c).After-place-place

pub bounds-holdings-place-in-loop-kind : goal.bounds-holdings-place-in-loop-kind
bounds-holdings-place-in-loop-kind c = inside (goal.at.bounds-holdings-place-in-loop-kind c).After-place-place

pub loop-kind-init : goal.loop-kind-init
loop-kind-init c = brought_none _ _ c.told-holdings c.fits-holdings

pub loop-kind-preserved : goal.loop-kind-preserved
loop-kind-preserved c = rw c.saturating_add.ensures (brought_more _ _ _ _ _ c.requires c.loop-kind.invariant (turn (goal.at.loop-kind-preserved c).After-place-place))

pub returns : goal.returns
returns c = brought_all _ _ _ _ c.loop-kind.invariant (omega (arith, c.as_chunks.ensures.front_len))
