-- The row is written, then the count.
use native.Mathlib.Omega.{arith}
use Rattle.rulebook.proofs.Written.{row_written, rule-added}
use borrow.Author.Rules.{rules}
use Rattle.rulebook.proofs.layout.add_rule.Goals as goal

pub returns : goal.returns
returns c =
    let count = c.rule_count-n.ensures in
    rule-added c.args.rules.now c.args.row.now _ _ (omega (arith, count)) (omega (arith, count, c.requires)) (search rules) (search rules)
    (rw (c.from-at.ensures, c.copy_from_slice.ensures.after) (row_written _ _ _ _ (omega arith) (search rules)))
