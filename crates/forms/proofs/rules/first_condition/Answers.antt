-- Each letter is there, or there is no condition.
use mathlib.Core.Path.{◌≡◌, sym, ◌∙◌}
use mathlib.Core.Logic.{inl, inr}
use Prim.Native.Char.{code}
use lib.ListN.{get_or}
use borrow.Author.Tests.{leb-true}
use borrow.Author.Rules.{rules}
use Rattle.std.proofs.lemmas.Option.{cond_some}
use Rattle.model.proofs.Places.{to_end}
use Rattle.forms.proofs.Parts.{ConditionHere, group_read, issuer_read}
use Rattle.forms.proofs.rules.first_condition.Goals as goal

pub returns-in_ok-name-in-32 : goal.returns-in_ok-name-in-32
returns-in_ok-name-in-32 c =
    let w = c.args.part.now in
    let sign : get_or w 1 0 ≡ code "?" = search rules in
    let (g, group) = cond_some _ _ _ (sym c.group.ensures ∙ c.in_ok-group-in-32.was) in
    let (n, name) = cond_some _ _ _ (sym c.name.ensures ∙ c.in_ok-name-in-32.was) in
    let here : ConditionHere w = record {
      space = search rules;
      sign = inl (sign, leb-true _ _ g);
      first_space = search rules;
      second_space = search rules;
      second = leb-true _ _ n;
    } in
    group_read w here (to_end w 6) name sign group

pub returns-in_ok-second-in-32-2 : goal.returns-in_ok-second-in-32-2
returns-in_ok-second-in-32-2 c =
    let w = c.args.part.now in
    let sign : get_or w 1 0 ≡ code "=" = search rules in
    let (f, first) = cond_some _ _ _ (sym c.name-in-32-2.ensures ∙ c.in_ok-first-in-32-2.was) in
    let (n, name) = cond_some _ _ _ (sym c.name-in-32-2-2.ensures ∙ c.in_ok-second-in-32-2.was) in
    let here : ConditionHere w = record {
      space = search rules;
      sign = inr (sign, leb-true _ _ f);
      first_space = search rules;
      second_space = search rules;
      second = leb-true _ _ n;
    } in
    issuer_read w here (to_end w 6) name sign first
