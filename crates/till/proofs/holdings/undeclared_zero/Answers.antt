-- Each holding of the undeclared cards is asked.
use mathlib.Core.Path.{◌≡◌, ◌∙◌, ap}
use native.Mathlib.Omega.{arith}
use Rattle.std.proofs.Common.{◌-◌}
use lib.Dec.{leb}
use lib.ListN.{take, drop}
use Rattle.std.proofs.lemmas.List.{take_all, length-drop}
use Rattle.model.specs.Lists.{every}
use Rattle.till.proofs.HoldingLaws.{undeclared_asked}
use Rattle.till.proofs.holdings.undeclared_zero.Goals as goal

pub returns : goal.returns
returns c = λ b few.
    let n = c.declared_end.result in
    let rest = drop n c.args.holdings.now in
    let whole : take (512 - n) rest ≡ rest = take_all (512 - n) rest (omega (arith, length-drop n c.args.holdings.now)) in
    c.at_most.ensures ∙ ap (every (λ x. leb x 0)) whole ∙ undeclared_asked c.args.holdings.now _ n c.declared_end.ensures c.told-holdings b few
