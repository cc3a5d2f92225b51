-- The chain gives each card's holding of the kind, from its row.
use mathlib.Core.Path.{◌∙◌}
use Rattle.std.proofs.Common.{rules, tests, ◌-◌}
use native.Mathlib.Omega.{arith}
use Rattle.std.proofs.lemmas.Iterator.{YieldsList-from_slice, YieldsList-from_map}
use Rattle.std.proofs.lemmas.Iterator.Consumers.{YieldsList-at, sum_by_from_yields_List, fits_by_from_yields_list}
use Rattle.accounts.proofs.AccountLaws.{in_column, kind_rows, kind_none, total_small}
use Rattle.accounts.proofs.kind_sum.Goals as goal

pub returns-then-not-is_kind : goal.returns-then-not-is_kind
returns-then-not-is_kind c = (kind_none c.args.holdings.now _ c.if-not-is_kind.ensures, omega arith)

pub sum-requires-clause-fits : goal.sum-requires-clause-fits
sum-requires-clause-fits c =
    let h = c.args.holdings.now in
    let rows = c.as_chunks.result.0.now in
    let held = in_column (c.args.kind - 1) in
    let total = kind_rows h rows c.args.kind c.told-holdings c.as_chunks.ensures.front c.if-not-is_kind.ensures in
    fits_by_from_yields_list held rows c.map.result _
    (YieldsList-from_map _ held (YieldsList-at c.map.ensures.source (YieldsList-from_slice rows cc)) c.map.ensures.closure (λ x r q k. search (rules, tests)))
    (omega (arith, total, total_small h c.args.kind c.fits-holdings))

pub returns : goal.returns
returns c =
    let h = c.args.holdings.now in
    let rows = c.as_chunks.result.0.now in
    let held = in_column (c.args.kind - 1) in
    let total = kind_rows h rows c.args.kind c.told-holdings c.as_chunks.ensures.front c.if-not-is_kind.ensures in
    let sums = sum_by_from_yields_List held rows c.map.result _ c.sum.ensures.ran
    (YieldsList-from_map _ held (YieldsList-at c.map.ensures.source (YieldsList-from_slice rows cc)) c.map.ensures.closure (λ x r q k. search (rules, tests))) in
    (sums ∙ total, omega (arith, sums, total, total_small h c.args.kind c.fits-holdings))
