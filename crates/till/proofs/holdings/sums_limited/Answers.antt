-- The chain asks each kind's sum.
use mathlib.Core.Path.{◌∙◌}
use borrow.Author.Rules.{rules}
use Rattle.till.specs.Call.{sums_limited}
use Rattle.till.proofs.OneTo.{all_numbers}
use Rattle.till.proofs.HoldingLaws.{limited}
use Rattle.till.proofs.holdings.sums_limited.Goals as goal

pub returns : goal.returns
unfolding sums_limited
returns c = all_numbers (limited c.args.holdings.now) 16 _ _ c.new.ensures.start (c.new.ensures.end ∙ c.from.ensures) c.new.ensures.exhausted (λ x b q k. search rules) _ c.all.ensures.ran
