-- Each question is asked when those before it are met; what is met is said once, where the next is asked.
use lib.Dec.{eqb}
use mathlib.Core.Path.{◌≡◌, sym, ◌∙◌}
use mathlib.Core.Bool.{Bool, true, false, ◌&&◌}
use Rattle.rulebook.specs.View.{card_count, row_owner, row_kind}
use Rattle.judge.specs.inner.Rows.{cards_fit, all_payable}
use Rattle.judge.specs.inner.Records.{questions16to19}
use Rattle.judge.proofs.records.rule_question.Goals as goal
use Rattle.judge.proofs.records.rule_question.Goals.{Else-not-all_payable, Else-not-cards_fit, Else-not-owner-claimed, Start, Then-not-owner-claimed}

-- question 16's test, as the program asks it
abbrev right_rule : Start → Bool
right_rule s = let a = s.args in eqb (row_owner a.approval.row.bytes.now) a.claimed.giver && eqb (row_kind a.approval.row.bytes.now) a.claimed.kind

met16 : (c : Else-not-owner-claimed) → right_rule (goal.at.Else-not-owner-claimed c).Start ≡ true
met16 c = rw (← c.owner.ensures, ← c.kind.ensures) (c.if-not-owner-claimed.false)

unmet16 : (c : Then-not-owner-claimed) → right_rule (goal.at.Then-not-owner-claimed c).Start ≡ false
unmet16 c = rw (← c.owner.ensures, ← c.kind.ensures) (c.if-not-owner-claimed.true)

met17 : (c : Else-not-cards_fit) → let a = c.args in cards_fit (card_count a.cards.now) a.approval.row.bytes.now a.approval.rec.bytes.now a.claimed.receiver ≡ true
met17 c = rw (← c.card_count.ensures) (sym c.cards_fit.ensures ∙ c.if-not-cards_fit.false)

met18 : (c : Else-not-all_payable) → let a = c.args in all_payable a.approval.row.bytes.now a.approval.rec.bytes.now ≡ true
met18 c = sym c.all_payable.ensures ∙ c.if-not-all_payable.false

pub returns-then-not-owner-claimed : goal.returns-then-not-owner-claimed
unfolding questions16to19
returns-then-not-owner-claimed c = rw (unmet16 c)

pub returns-then-not-cards_fit : goal.returns-then-not-cards_fit
unfolding questions16to19
returns-then-not-cards_fit c = rw (met16 (goal.at.returns-then-not-cards_fit c).Else-not-owner-claimed, ← c.card_count.ensures, sym c.cards_fit.ensures ∙ c.if-not-cards_fit.true)

pub returns-then-not-all_payable : goal.returns-then-not-all_payable
unfolding questions16to19
returns-then-not-all_payable c =
    rw (met16 (goal.at.returns-then-not-all_payable c).Else-not-owner-claimed, met17 (goal.at.returns-then-not-all_payable c).Else-not-cards_fit, sym c.all_payable.ensures ∙ c.if-not-all_payable.true)

pub returns-then-not-all_hold : goal.returns-then-not-all_hold
unfolding questions16to19
returns-then-not-all_hold c =
    rw (met16 (goal.at.returns-then-not-all_hold c).Else-not-owner-claimed, met17 (goal.at.returns-then-not-all_hold c).Else-not-cards_fit, met18 (goal.at.returns-then-not-all_hold c).Else-not-all_payable, sym c.all_hold.ensures ∙ c.if-not-all_hold.true)

pub returns : goal.returns
unfolding questions16to19
returns c =
    rw (met16 (goal.at.returns c).Else-not-owner-claimed, met17 (goal.at.returns c).Else-not-cards_fit, met18 (goal.at.returns c).Else-not-all_payable, sym c.all_hold.ensures ∙ c.if-not-all_hold.false)
