-- The transfers before i are noted.
use Rattle.judge.specs.inner.Counts.{FirstGifts}
use Rattle.judge.proofs.gifts.first_gifts.Given as goal

abbrev pub invariant-loop-i : goal.invariant-loop-i
invariant-loop-i l = FirstGifts l.exchange.bytes.now l.i l.firsts
