-- Each return is one case of the questions; what was asked before it is known from the branches that led there.
use mathlib.Core.Path.{◌≡◌, sym, ◌∙◌, ap}
use mathlib.Core.Bool.{true}
use Prim.Native.Nat.{◌≤◌}
use native.Mathlib.Omega.{arith}
use Rattle.std.specs.Prelude.{Some}
use Rattle.model.specs.Reader.{is_rule_line, rule_read}
use Rattle.forms.specs.Forms.{rule_form_in}
use Rattle.rulebook.proofs.Forms.{rules_full, rule-taken}
use Rattle.rulebook.proofs.Entries.{rule_said}
use Rattle.rulebook.proofs.rules.take.Goals as goal
use Rattle.rulebook.proofs.rules.take.Goals.{Else-declared-form, In_ok-form}

read : (c : In_ok-form) → rule_form_in c.args.line.now ≡ Some c.in_ok-form.form
read c = sym c.rule_form.ensures ∙ grind arith

-- the line has the form
formed : (c : In_ok-form) → is_rule_line c.args.line.now ≡ true
formed c = (rule_said c.args.line.now (read c)).0

-- its owner is declared
above : (c : Else-declared-form) → (rule_read c.args.line.now).owner ≤ c.args.declared
above c =
    let owner : (rule_read c.args.line.now).owner ≡ c.in_ok-form.form.head.owner = ap (λ f. f.head.owner) (rule_said c.args.line.now (read (goal.at.Else-declared-form c).In_ok-form)).1 in
    omega (arith, c.if-declared-form.false)

pub returns-then-rule_count-ge-RULE_LIMIT : goal.returns-then-rule_count-ge-RULE_LIMIT
returns-then-rule_count-ge-RULE_LIMIT c =
    let at = goal.at.returns-then-rule_count-ge-RULE_LIMIT c in
    rules_full (formed at.In_ok-form) (above at.Else-declared-form) (omega (arith, c.if-rule_count-ge-RULE_LIMIT.true, c.rule_count.ensures))

pub returns : goal.returns
returns c =
    let at = goal.at.returns c in
    rule-taken (formed at.In_ok-form) (above at.Else-declared-form) (omega (arith, c.if-rule_count-ge-RULE_LIMIT.false, c.rule_count.ensures)) (rw (c.row_of.ensures, ← (rule_said c.args.line.now (read at.In_ok-form)).1) at c.add_rule.ensures)
