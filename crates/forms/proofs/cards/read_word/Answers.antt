-- The bytes before the loop's place are digits and hyphens in their places, and the row has the digits among them, as far as it goes.
use mathlib.Core.Path.{◌≡◌, sym, ◌∙◌}
use mathlib.Core.Bool.{false}
use lib.ListN.{get_or}
use borrow.Author.Rules.{rules}
use Rattle.std.proofs.lemmas.Option.{cond_some}
use Rattle.model.specs.Reader.{is_digit}
use Rattle.ascii.proofs.Options.{cond_none}
use Rattle.forms.proofs.Parts.{chosen}
use Rattle.forms.proofs.Digits.{misplaced, digit-placed, hyphen-placed, all_placed, taken_digit, taken_hyphen, taken_all}
use Rattle.forms.proofs.cards.read_word.Goals as goal
use Rattle.forms.proofs.cards.read_word.Goals.{In_default}

-- a byte that is no digit
other : (c : In_default) → is_digit (get_or c.args.s.now c.loop-x.x-index 0) ≡ false
other c = cond_none _ _ (sym c.digit.ensures ∙ c.in_default.is)

pub loop-x-preserved-in-Some : goal.loop-x-preserved-in-Some
loop-x-preserved-in-Some c =
    let h = c.loop-x in
    let (e, d) = cond_some _ _ _ (sym c.digit.ensures ∙ c.in-Some.is) in
    (rw c.put_digit.ensures (taken_digit h.invariant.0 (search rules) e d), digit-placed c.args.s.now h.x-index h.after_digit h.invariant.1 (search rules) e)

pub returns-then-after_digit-x : goal.returns-then-after_digit-x
returns-then-after_digit-x c =
    let h = c.loop-x in
    let e = other (goal.at.returns-then-after_digit-x c).In_default in
    rw (misplaced c.args.s.now h.x-index h.after_digit h.invariant.1 (search rules) e c.if-after_digit-x.true)

pub loop-x-preserved : goal.loop-x-preserved
loop-x-preserved c =
    let h = c.loop-x in
    let e = other (goal.at.loop-x-preserved c).In_default in
    (taken_hyphen h.invariant.0 (search rules) e, hyphen-placed c.args.s.now h.x-index h.after_digit h.invariant.1 (search rules) e c.if-after_digit-x.false)

pub returns : goal.returns
returns c =
    let h = c.loop-x in
    c.then_some.ensures ∙ chosen _ _ ∙ taken_all h.invariant.0 (search rules) (all_placed c.args.s.now h.x-index h.after_digit h.invariant.1 (search rules))
