-- The transfers before i are noted.
use borrow.Author.Rules.{rules}
use native.Mathlib.Omega.{arith}
use Prim.Native.Nat.{◌<◌}
use mathlib.Core.Path.{◌∙◌, ap}
use Rattle.model.specs.Transfers.{Transfer}
use Rattle.transfers.proofs.Chunks.{place≡}
use Rattle.transfers.proofs.Listing.{here}
use Rattle.judge.proofs.Giving.{gifts-none, gifts-more}
use Rattle.judge.proofs.gifts.first_gifts.Goals as goal

pub loop-i-init : goal.loop-i-init
loop-i-init c = rw c.triples-triples.ensures.count.0 (gifts-none _)

pub loop-i-preserved : goal.loop-i-preserved
loop-i-preserved c =
    let o = c.loop-i in
    let e = c.args.exchange.bytes.now in
    let g = ap (λ (u : Transfer). u.giver) (c.from.ensures ∙ place≡ e _ c.triples-triples.ensures.chunks o.i ∙ here e o.i (omega (arith, c.loop-i-test.true, c.triples-triples.ensures.count.0))) in
    let b : c.from.result.giver < 256 = search rules in
    rw (c.min.ensures, c.from-giver.ensures, g) (gifts-more _ o.i o.firsts o.invariant (rw g at b))
