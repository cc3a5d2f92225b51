-- The head's name is marked, and the names of the prices before this one, and of the conditions before this one.
use Rattle.model.specs.Lists.{any}
use Rattle.judge.specs.inner.Rows.{below, in_price, in_condition, Marks}
use Rattle.judge.proofs.variables.used_variables.Given as goal

abbrev pub invariant-loop-entry : goal.invariant-loop-entry
invariant-loop-entry l = Marks (λ v. any (in_price l.row.bytes.now v) (below l.entry-index)) l.initial.marks l.marks

abbrev pub invariant-loop-condition : goal.invariant-loop-condition
invariant-loop-condition l = Marks (λ v. any (in_condition l.row.bytes.now v) (below l.condition-index)) l.initial.marks l.marks
