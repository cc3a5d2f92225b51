-- The prices before this one are asked.
use mathlib.Core.Path.{◌≡◌, refl, ◌∙◌, ap}
use mathlib.Core.List.{[]}
use native.Mathlib.Omega.{arith}
use lib.ListN.{length}
use Rattle.rulebook.specs.View.{row_price_count}
use Rattle.rulebook.specs.Rows.{price_of, price_at}
use Rattle.judge.specs.inner.Rows.{asked_by}
use Rattle.judge.proofs.Entries.{entries_long, entry_is}
use Rattle.judge.proofs.Noting.{asked_none, asked_room, asked_more}
use Rattle.judge.proofs.notes.Notes.ask_prices.Goals as goal
use Rattle.judge.proofs.notes.Notes.ask_prices.Goals.{After-prices-price-items}

long : (c : After-prices-price-items) → length c.prices-price-items.result.now ≡ row_price_count c.args.approval.row.bytes.now
long c = entries_long price_of _ _ _ c.prices-price-items.ensures

pub loop-price-init : goal.loop-price-init
loop-price-init c = (asked_none _, refl)

pub ask-requires : goal.ask-requires
ask-requires c =
    let o = c.loop-price in
    asked_room _ o.price-index _ _ o.invariant.0 c.requires (omega (arith, c.loop-price-test.true, long (goal.at.ask-requires c).After-prices-price-items))

pub loop-price-preserved : goal.loop-price-preserved
loop-price-preserved c =
    let o = c.loop-price in
    let row = c.args.approval.row.bytes.now in
    let prices = c.prices-price-items.result.now in
    let l = rw (long (goal.at.loop-price-preserved c).After-prices-price-items) at c.loop-price-test.true in
    let price = entry_is price_of prices (price_at row) (row_price_count row) c.prices-price-items.ensures o.price-index [] l in
    let asked = c.asked.ensures ∙ ap (asked_by row c.args.approval.rec.bytes.now) price in
    (asked_more _ o.price-index _ _ _ o.invariant.0 (rw asked at c.ask.ensures.0), c.ask.ensures.1 ∙ o.invariant.1)

pub returns : goal.returns
returns c =
    let o = c.loop-price in
    let e : o.price-index ≡ row_price_count c.args.approval.row.bytes.now = omega (arith, c.loop-price-test.false, o.auto.price-index-end, long (goal.at.returns c).After-prices-price-items) in
    (rw e at o.invariant.0, o.invariant.1)
