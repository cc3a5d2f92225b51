-- The claim and the rule are found good, then the rule answers for 16 to 19 and the link for 20.
use native.Mathlib.Omega.{arith}
use lib.Dec.{eqb}
use borrow.Author.Tests.{ne_eqb}
use Prim.Native.Nat.{◌≤◌, min}
use mathlib.Core.Path.{◌≡◌, sym, ◌∙◌, ap}
use mathlib.Core.Bool.{true, cond}
use Rattle.std.specs.Prelude.{Some}
use Rattle.std.specs.Option.{option_map}
use Rattle.answers.specs.View.{unmet_of, number_of}
use Rattle.answers.proofs.Exits.{exit}
use Rattle.answers.proofs.Numbers.{number_positive}
use Rattle.model.specs.Limits.{rule_limit}
use Rattle.model.specs.Lists.{within}
use Rattle.model.specs.Proof.{next, claim, rule_number}
use Rattle.model.specs.Questions.{first_unmet}
use Rattle.model.proofs.Tests.{within-true}
use Rattle.transfers.specs.View.{transfer_of, transfer_count}
use Rattle.rulebook.specs.View.{rule_count}
use Rattle.rulebook.proofs.Books.{rules_small}
use Rattle.judge.specs.inner.Records.{claimable, is_claimable, is_linked, questions15to20}
use Rattle.judge.proofs.Asking.{record_unmet}
use Rattle.judge.proofs.Claiming.{claimable-some, not-claimable, some_from, none_from}
use Rattle.judge.proofs.records.question.Goals as goal
use Rattle.judge.proofs.records.question.Goals.{After-rule_question, In_ok-claimed, Else-not-is_within}

-- what is claimed
claimed : (c : In_ok-claimed) → let a = c.args in claimable a.notes.now.claimed a.notes.now.gifts.exchange.bytes.now (claim a.rec.bytes.now) ≡ Some (transfer_of c.in_ok-claimed.claimed)
claimed c = rw (← c.claim.ensures) (sym c.claimable.ensures ∙ ap (option_map transfer_of) (some_from _ _ _ (sym c.ok_or.ensures.value ∙ c.in_ok-claimed.was)))

met15 : (c : In_ok-claimed) → let a = c.args in is_claimable a.notes.now.claimed (transfer_count a.notes.now.gifts.exchange.bytes.now) (claim a.rec.bytes.now) ≡ true
met15 c = (claimable-some _ _ _ _ (claimed c)).0

met16 : (c : Else-not-is_within) → let a = c.args in within (rule_number a.rec.bytes.now) (rule_count a.tables.now.rules) ≡ true
met16 c = rw (← c.rule_count.ensures, ← c.rule-number.ensures) (sym c.is_within.ensures ∙ c.if-not-is_within.false)

rule_bounds : (c : Else-not-is_within) → let a = c.args in (1 ≤ rule_number a.rec.bytes.now) × (rule_number a.rec.bytes.now ≤ rule_count a.tables.now.rules)
rule_bounds c = let a = c.args in within-true (rule_number a.rec.bytes.now) (rule_count a.tables.now.rules) (met16 c)

-- the answer by what the rule's questions answered
asked : (c : After-rule_question) → let a = c.args in let q = unmet_of c.rule_question.result in
    first_unmet (questions15to20 a.tables.now.cards a.tables.now.rules a.notes.now.gifts.exchange.bytes.now a.rec.bytes.now a.notes.now.claimed a.left a.records) ≡ cond (eqb q 0) (cond (is_linked a.left (next a.rec.bytes.now) a.records) 0 20) q
asked c =
    let a = c.args in
    let good = (goal.at.After-rule_question c).In_ok-claimed in
    let listed = (goal.at.After-rule_question c).Else-not-is_within in
    let number : min (rule_number a.rec.bytes.now) rule_limit ≡ rule_number a.rec.bytes.now = omega (arith, rule_bounds listed, rules_small a.tables.now.rules) in
    let q = rw (c.row_at-row.ensures, c.rule-number.ensures, number, (claimable-some _ _ _ _ (claimed good)).1) at c.rule_question.ensures in
    record_unmet a.tables.now.cards a.tables.now.rules a.notes.now.gifts.exchange.bytes.now a.rec.bytes.now a.notes.now.claimed a.left a.records _ (met15 good) (met16 listed) (sym q)

pub returns-in_err-claimed : goal.returns-in_err-claimed
unfolding questions15to20
returns-in_err-claimed c =
    let a = c.args in
    let none = none_from _ _ _ (sym c.ok_or.ensures.value ∙ c.in_err-claimed.was) in
    let unmet = not-claimable a.notes.now.claimed a.notes.now.gifts.exchange.bytes.now (claim a.rec.bytes.now) (rw (← c.claim.ensures) (sym c.claimable.ensures ∙ ap (option_map transfer_of) none.0)) in
    rw (exit _ _ c.from_residual.ensures.1, none.1, unmet)

pub returns-then-not-is_within : goal.returns-then-not-is_within
unfolding questions15to20
returns-then-not-is_within c =
    rw (met15 (goal.at.returns-then-not-is_within c).In_ok-claimed, ← c.rule_count.ensures, ← c.rule-number.ensures, sym c.is_within.ensures ∙ c.if-not-is_within.true)

pub returns-in_err-rule_question : goal.returns-in_err-rule_question
returns-in_err-rule_question c =
    rw (exit _ _ c.from_residual-in_err-rule_question.ensures.1)
    (sym (rw c.in_err-rule_question.was at (asked (goal.at.returns-in_err-rule_question c).After-rule_question) ∙ rw (ne_eqb (number_of c.in_err-rule_question.field-0.0) 0 (λ z. omega (arith, number_positive c.in_err-rule_question.field-0.0)))))

pub returns-then-not-is_linked : goal.returns-then-not-is_linked
returns-then-not-is_linked c =
    sym (rw c.in_ok-rule_question.was at (asked (goal.at.returns-then-not-is_linked c).After-rule_question) ∙ rw (rw c.next.ensures at (sym c.is_linked.ensures) ∙ c.if-not-is_linked.true))

pub returns : goal.returns
returns c =
    sym (rw c.in_ok-rule_question.was at (asked (goal.at.returns c).After-rule_question) ∙ rw (rw c.next.ensures at (sym c.is_linked.ensures) ∙ c.if-not-is_linked.false))
