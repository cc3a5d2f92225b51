-- The model's answer is a choice by questions 12, 13 and 14 (`answer`); each return has settled as many of them.
use native.Mathlib.Omega.{arith}
use lib.Dec.{eqb}
use borrow.Author.Tests.{eq-eqb, ne_eqb}
use mathlib.Core.Path.{◌≡◌, sym, ◌∙◌}
use mathlib.Core.Bool.{true}
use Rattle.rulebook.specs.View.{book_of}
use Rattle.judge.proofs.Beginning.{short, bad, Told, told_some, told_none, chosen, judging≡}
use Prim.Native.Nat.{◌≤◌}
use Rattle.transfers.specs.View.{transfer_count}
use Rattle.transfers.proofs.Improper.{told_place}
use Rattle.model.specs.Fairness.{is_proper_of}
use Rattle.model.specs.Transfers.{exchange_of}
use Rattle.model.specs.Calls.{is_sized, judging}
use Rattle.judge.proofs.judge.Goals as goal
use Rattle.judge.proofs.judge.Goals.{In-Some, In_default, After-first_improper, Else-not-is_sized, Else-not-is_sized-2, Start}

met12 : (c : Else-not-is_sized) → is_sized 3 96 c.args.exchange.now ≡ true
met12 c = sym c.is_sized.ensures ∙ c.if-not-is_sized.false

-- what the chain told of question 13, with the count of cards cut
told : (c : After-first_improper) → let a = c.args in Told a.tables.now.cards a.exchange.now c.first_improper.result
told c = rw c.card_count.ensures at (c.first_improper.ensures ∙ told_place (is_proper_of c.card_count.result) (exchange_of c.args.exchange.now))

found : (c : In-Some) → let a = c.args in let k = c.in-Some.bad in
    (bad a.tables.now.cards a.exchange.now ≡ k) × (1 ≤ k) × (k ≤ transfer_count a.exchange.now)
found c = told_some _ _ _ _ (told (goal.at.In-Some c).After-first_improper) c.in-Some.is

met13 : (c : In_default) → eqb (bad c.args.tables.now.cards c.args.exchange.now) 0 ≡ true
met13 c = eq-eqb _ 0 (told_none _ _ _ (told (goal.at.In_default c).After-first_improper) c.in_default.is)

met14 : (c : Else-not-is_sized-2) → is_sized 12 3060 c.args.proof.now ≡ true
met14 c = sym c.is_sized-2.ensures ∙ c.if-not-is_sized-2.false

answer : (s : Start) → let a = s.args in
    judging (book_of a.tables.now.cards a.tables.now.rules) a.exchange.now a.proof.now ≡ chosen a.tables.now.cards a.tables.now.rules a.exchange.now a.proof.now
answer s = let a = s.args in judging≡ a.tables.now.cards a.tables.now.rules a.exchange.now a.proof.now

pub returns-then-not-is_sized : goal.returns-then-not-is_sized
returns-then-not-is_sized c = rw c.into.ensures (sym (answer (goal.at.returns-then-not-is_sized c).Start ∙ rw (sym c.is_sized.ensures ∙ c.if-not-is_sized.true)))

pub overflow_cast-bad : goal.overflow_cast-bad
overflow_cast-bad c =
    let s = found c in
    omega (arith, s.2, short c.args.exchange.now (met12 (goal.at.overflow_cast-bad c).Else-not-is_sized))

pub returns-in-Some : goal.returns-in-Some
returns-in-Some c =
    let s = found (goal.at.returns-in-Some c).In-Some in
    rw c.at.ensures (sym (answer (goal.at.returns-in-Some c).Start ∙ rw (met12 (goal.at.returns-in-Some c).Else-not-is_sized, s.0, ne_eqb c.in-Some.bad 0 (λ z. omega (arith, s.1)))))

pub returns-then-not-is_sized-2 : goal.returns-then-not-is_sized-2
returns-then-not-is_sized-2 c =
    rw c.into-then-not-is_sized-2.ensures
    (sym (answer (goal.at.returns-then-not-is_sized-2 c).Start ∙ rw (met12 (goal.at.returns-then-not-is_sized-2 c).Else-not-is_sized, met13 (goal.at.returns-then-not-is_sized-2 c).In_default, sym c.is_sized-2.ensures ∙ c.if-not-is_sized-2.true)))

pub returns : goal.returns
returns c =
    c.follow.ensures ∙ sym (answer (goal.at.returns c).Start ∙ rw (met12 (goal.at.returns c).Else-not-is_sized, met13 (goal.at.returns c).In_default, met14 (goal.at.returns c).Else-not-is_sized-2))
