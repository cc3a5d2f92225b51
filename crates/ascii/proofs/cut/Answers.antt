-- The first such byte ends what comes before it.
use mathlib.Core.Path.{sym, ◌∙◌, subst}
use mathlib.Core.List.{List}
use Prim.Native.Nat.{ℕ, ◌+◌}
use lib.ListN.{take}
use Rattle.ascii.specs.Cut.{CutAt}
use Rattle.model.proofs.Places.{to_end}
use Rattle.ascii.proofs.Places.{found, missed, cut_there, lacks-all}
use Rattle.ascii.proofs.cut.Goals as goal

pub returns-in_err-end : goal.returns-in_err-end
returns-in_err-end c = let a = c.args in rw c.from_residual.ensures (lacks-all a.wanted a.text.now (missed a.wanted a.text.now (sym c.find.ensures ∙ c.in_err-end.was)))

pub returns : goal.returns
returns c =
    let a = c.args in
    let (here, few) = found a.wanted a.text.now c.in_ok-end.end (sym c.find.ensures ∙ c.in_ok-end.was) in
    subst (λ (after : List ℕ). CutAt a.wanted a.text.now (take c.in_ok-end.end a.text.now) after) (sym (to_end a.text.now (c.in_ok-end.end + 1)))
    (cut_there a.wanted a.text.now c.in_ok-end.end here few)
