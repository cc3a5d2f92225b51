-- Each part begins where the one before it ends.
use mathlib.Core.Path.{sym, ◌∙◌}
use Rattle.model.specs.Reader.{has_price, price_at, price_width, has_condition, condition_at, condition_width}
use Rattle.forms.specs.Forms.{price_said, condition_said}
use Rattle.forms.proofs.Parts.{chosen}
use Rattle.forms.proofs.RuleForms.{no_head, form_is}
use Rattle.forms.proofs.rules.rule_form.Goals as goal

pub returns-in_err-head : goal.returns-in_err-head
returns-in_err-head c = c.from_residual.ensures ∙ sym (no_head c.args.line.now c.in_err-head.ensures)

pub returns : goal.returns
returns c =
    let prices = c.leading-prices.ensures (λ v. has_price v 0) (λ v. price_said (price_at v 0)) price_width (λ part r p. p) in
    let conditions = c.leading-conditions.ensures (λ v. has_condition v 0) (λ v. condition_said (condition_at v 0)) condition_width (λ part r p. p) in
    c.then_some.ensures ∙ chosen _ _ ∙ form_is c.args.line.now c.in_ok-head.ensures prices conditions c.is_empty.result c.is_empty.ensures
