-- The chain asks the prices in order.
use borrow.Author.Rules.{rules}
use mathlib.Core.Path.{sym, ◌∙◌}
use Rattle.std.proofs.lemmas.Iterator.{YieldsList-from_slice}
use Rattle.std.proofs.lemmas.Iterator.Search.{all_from_yields_List}
use Rattle.model.specs.Fairness.{is_payable}
use Rattle.model.proofs.Loops.{every_places}
use Rattle.rulebook.specs.View.{row_price_count}
use Rattle.rulebook.specs.Rows.{price_of, price_at}
use Rattle.judge.specs.inner.Rows.{asked_by, price_asked}
use Rattle.judge.proofs.Entries.{entries_all}
use Rattle.judge.proofs.prices.all_payable.Goals as goal

pub returns : goal.returns
returns c =
    let a = c.args.approval in
    let row = a.row.bytes.now in
    let r = a.rec.bytes.now in
    let payable = is_payable c.owner-owner.result in
    rw (← c.owner-owner.ensures)
    (all_from_yields_List (λ e. payable (asked_by row r (price_of e))) _ _ _ c.all.ensures.ran (YieldsList-from_slice c.prices.result.now (search rules)) (λ x b q k. search rules)
    ∙ entries_all price_of c.prices.result.now (price_at row) (row_price_count row) c.prices.ensures (λ p. payable (asked_by row r p))
    ∙ sym (every_places payable (price_asked row r) (row_price_count row)))
