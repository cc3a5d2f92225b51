-- The places before i have what was found.
use borrow.Author.Rules.{rules}
use Rattle.forms.proofs.Leading.{none_yet, one_more, stopped, filled}
use Rattle.forms.proofs.rules.leading.Goals as goal
use Rattle.forms.proofs.rules.leading.Goals.{else-loop-i-test, then-loop-i-test+in_default}

pub loop-i-init : goal.loop-i-init
loop-i-init g c = λ there said width h. none_yet there said width g.row.N c.args.rest.now.now

pub loop-i-preserved : goal.loop-i-preserved
loop-i-preserved g c = λ there said width h.
    one_more there said width g.row.N _ (c.loop-i.invariant there said width h) (search rules) (let read = h _ _ c.in-Some.ensures in search rules)

pub returns : goal.returns
returns g c = λ there said width h. elim c.loop-i-test.branch [
  | else-loop-i-test b ↦ filled there said width g.row.N _ (c.loop-i.invariant there said width h) (search rules)
  | then-loop-i-test+in_default b ↦ stopped there said width g.row.N _ (c.loop-i.invariant there said width h) (search rules) (h _ _ b.in_default.ensures)
]
