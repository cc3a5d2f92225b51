-- The transfers before place i are read.
use native.Mathlib.Omega.{arith}
use mathlib.Core.Path.{◌∙◌}
use Rattle.std.proofs.lemmas.List.{length-take}
use Rattle.transfers.proofs.Chunks.{first_place≡}
use Rattle.transfers.proofs.Listing.{begun-none, begun_more, begun_all}
use Rattle.transfers.proofs.read_list.Goals as goal

pub loop-i-init : goal.loop-i-init
loop-i-init c = begun-none _ c.default-list.result c.default-list.ensures

pub loop-i-preserved : goal.loop-i-preserved
loop-i-preserved c =
    let o = c.loop-i in
    begun_more _ _ _ o.invariant c.from.result (c.from.ensures ∙ first_place≡ _ _ c.as_chunks.ensures.front _ o.i c.loop-i-test.true)
    (omega (arith, c.loop-i-test.true, c.min-n.ensures, length-take c.min-n.result c.as_chunks.result.0.now))

pub returns : goal.returns
returns c =
    let o = c.loop-i in
    begun_all _ _ o.i o.invariant (omega (arith, c.loop-i-test.false, c.min-n.ensures, length-take c.min-n.result c.as_chunks.result.0.now, c.as_chunks.ensures.front_len))
