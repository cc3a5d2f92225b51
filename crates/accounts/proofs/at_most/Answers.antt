-- The chain asks each holding.
use mathlib.Core.Path.{◌∙◌}
use mathlib.Core.Bool.{true, ◌&&◌}
use lib.Dec.{leb}
use Rattle.std.proofs.Common.{rules, tests}
use Rattle.std.proofs.lemmas.Iterator.{YieldsList-from_slice}
use Rattle.std.proofs.lemmas.Iterator.Consumers.{fold_from_yields_List}
use Rattle.accounts.proofs.Asked.{fold_every}
use Rattle.accounts.proofs.at_most.Goals as goal

pub returns : goal.returns
returns c =
    fold_from_yields_List _ (λ a x. a && leb x c.args.most) true c.fold.result c.fold.ensures.ran (YieldsList-from_slice c.args.holdings.now cc) (λ a x b q k. (search rules, search (rules, tests)))
    ∙ fold_every (λ x. leb x c.args.most) true c.args.holdings.now
