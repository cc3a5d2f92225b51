-- The chain asks the conditions in order.
use borrow.Author.Rules.{rules}
use mathlib.Core.Path.{◌∙◌}
use Rattle.std.proofs.lemmas.Iterator.{YieldsList-from_slice}
use Rattle.std.proofs.lemmas.Iterator.Search.{all_from_yields_List}
use Rattle.rulebook.specs.View.{row_condition_count}
use Rattle.rulebook.specs.Rows.{condition_of, condition_at}
use Rattle.judge.specs.inner.Rows.{condition_holds}
use Rattle.judge.proofs.Entries.{entries_all}
use Rattle.judge.proofs.conditions.all_hold.Goals as goal

pub returns : goal.returns
returns c =
    let a = c.args.approval in
    let row = a.row.bytes.now in
    let holds = condition_holds c.args.cards.now row a.rec.bytes.now in
    all_from_yields_List (λ e. holds (condition_of e)) _ _ _ c.all.ensures.ran (YieldsList-from_slice c.conditions.result.now (search rules)) (λ x b q k. search rules)
    ∙ entries_all condition_of c.conditions.result.now (condition_at row) (row_condition_count row) c.conditions.ensures holds
