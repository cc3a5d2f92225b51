-- The loop keeps that what is left to answer is the whole answer (`Going`); what a record tells that meets its questions is
-- gathered once (`turn`), and the goals of the turn are answered from it.
use mathlib.Core.Path.{◌≡◌}
use Rattle.judge.proofs.Following.{Going}
use Rattle.judge.proofs.chain.follow.Given as goal

abbrev pub invariant-loop-left : goal.invariant-loop-left
invariant-loop-left l =
    (l.notes.gifts.exchange.bytes.now ≡ l.exchange.bytes.now)
    × Going l.tables.cards l.tables.rules l.exchange.bytes.now l.proof l.left l.notes.claimed l.notes.asked l.notes.missing l.next
