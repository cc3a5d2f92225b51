-- The head's name is marked, and the names of the prices before this one, and of the conditions before this one.
use native.Mathlib.Omega.{arith}
use mathlib.Core.Path.{◌≡◌, refl, ◌∙◌}
use mathlib.Core.List.{[]}
use lib.ListN.{length}
use Rattle.rulebook.specs.View.{row_price_count, row_condition_count}
use Rattle.rulebook.specs.Rows.{price_of, price_at, condition_of, condition_at}
use Rattle.judge.specs.inner.Rows.{in_price, in_condition}
use Rattle.judge.proofs.Entries.{entries_long, entry_is}
use Rattle.judge.proofs.Marking.{marks_more, marks_both, rule_marks}
use Rattle.judge.proofs.variables.used_variables.Goals as goal
use Rattle.judge.proofs.variables.used_variables.Goals.{After-prices-entry-items, After-conditions-condition-items}

prices : (c : After-prices-entry-items) → length c.prices-entry-items.result.now ≡ row_price_count c.args.row.bytes.now
prices c = entries_long price_of _ _ _ c.prices-entry-items.ensures

conditions : (c : After-conditions-condition-items) → length c.conditions-condition-items.result.now ≡ row_condition_count c.args.row.bytes.now
conditions c = entries_long condition_of _ _ _ c.conditions-condition-items.ensures

pub loop-entry-preserved : goal.loop-entry-preserved
loop-entry-preserved c =
    let o = c.loop-entry in
    let row = c.args.row.bytes.now in
    let l = rw (prices (goal.at.loop-entry-preserved c).After-prices-entry-items) at c.loop-entry-test.true in
    let price = c.price_of-price.ensures ∙ entry_is price_of _ (price_at row) (row_price_count row) c.prices-entry-items.ensures o.entry-index [] l in
    marks_more _ (in_price row) o.entry-index _ _ o.invariant (rw price at (marks_both _ _ _ _ _ c.mark-in-loop-entry.ensures c.mark-in-loop-entry-2.ensures))

pub loop-condition-preserved : goal.loop-condition-preserved
loop-condition-preserved c =
    let o = c.loop-condition in
    let row = c.args.row.bytes.now in
    let l = rw (conditions (goal.at.loop-condition-preserved c).After-conditions-condition-items) at c.loop-condition-test.true in
    let condition = c.condition_of.ensures ∙ entry_is condition_of _ (condition_at row) (row_condition_count row) c.conditions-condition-items.ensures o.condition-index [] l in
    marks_more _ (in_condition row) o.condition-index _ _ o.invariant (rw condition at c.mark_names.ensures)

pub returns : goal.returns
returns c =
    let row = c.args.row.bytes.now in
    let a = goal.at.returns c in
    let i : c.loop-entry.entry-index ≡ row_price_count row = omega (arith, c.loop-entry-test.false, c.loop-entry.auto.entry-index-end, prices a.After-prices-entry-items) in
    let j : c.loop-condition.condition-index ≡ row_condition_count row = omega (arith, c.loop-condition-test.false, c.loop-condition.auto.condition-index-end, conditions a.After-conditions-condition-items) in
    rule_marks row _ _ _ _ refl (rw c.head.ensures at c.mark.ensures) (rw i at c.loop-entry.invariant) (rw j at c.loop-condition.invariant)
