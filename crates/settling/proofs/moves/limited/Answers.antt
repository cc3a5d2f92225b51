-- Each holding of the declared cards is asked.
use mathlib.Core.Path.{◌∙◌}
use native.Mathlib.Omega.{arith}
use Rattle.settling.proofs.MoveLaws.{limited_all}
use Rattle.settling.proofs.moves.limited.Goals as goal

pub returns : goal.returns
returns c = c.at_most.ensures ∙ limited_all c.args.holdings.now c.declared_end.result _ c.declared_end.ensures (omega (arith, c.declared_end.ensures))
