-- The group and the card are there, or the line has not the form.
use mathlib.Core.Path.{◌≡◌, sym, ◌∙◌}
use Prim.Native.Nat.{◌+◌}
use lib.ListN.{length}
use borrow.Author.Tests.{leb-true}
use borrow.Author.Rules.{rules}
use Rattle.std.proofs.lemmas.Option.{cond_some}
use Rattle.model.specs.Reader.{number_width}
use Rattle.forms.proofs.Parts.{chosen, number_here, GroupHere, group_line_is}
use Rattle.forms.proofs.groups.group_line.Goals as goal

pub returns : goal.returns
returns c =
    let w = c.args.line.now in
    let (g, group) = cond_some _ _ _ (sym c.group.ensures ∙ c.in_ok-group.was) in
    let n = number_here w 4 c.in_ok-card.ensures in
    let here : 4 + number_width w 4 ≡ length w → GroupHere w = λ e. record {
      space = search rules;
      group = leb-true _ _ g;
      card_space = search rules;
      card = n.some;
      ended = e;
    } in
    c.then_some.ensures ∙ chosen _ _ ∙ group_line_is w c.is_empty.result c.is_empty.ensures n here group
