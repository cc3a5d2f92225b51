-- The prefixes compared digit by digit.
use mathlib.Core.Path.{◌∙◌}
use Rattle.judge.proofs.Issuers.{same_lent}
use Rattle.judge.proofs.conditions.same_prefix.Goals as goal

pub returns : goal.returns
returns c = c.eq.ensures ∙ same_lent c.args.cards.now c.args.a c.args.b c.issuer_prefix.result c.issuer_prefix-2.result c.issuer_prefix.ensures c.issuer_prefix-2.ensures
