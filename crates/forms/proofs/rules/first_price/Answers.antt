-- Each letter is there, or there is no price.
use borrow.Author.Rules.{rules}
use Rattle.forms.proofs.Parts.{PriceHere, price_begins, chosen}
use mathlib.Core.Path.{◌≡◌, sym, ◌∙◌}
use lib.Dec.{eqb}
use Rattle.letters.specs.contracts.names.NamePartialEq.TheImpl as NamePartialEq
use Rattle.letters.specs.declared.names.Name.TheVariants as said
use lib.ListN.{get_or}
use borrow.Author.Tests.{ltb-true, leb-true}
use mathlib.Core.Bool.{not}
use mathlib.Core.Logic.{◌≢◌}
use Rattle.std.proofs.lemmas.Option.{cond_some}
use Rattle.letters.proofs.NameLaws.{same_name}
use Rattle.model.proofs.Places.{to_end}
use Rattle.model.specs.Reader.{variable_of, name_of}
use Rattle.forms.proofs.rules.first_price.Goals as goal

pub returns : goal.returns
returns c =
    let w = c.args.part.now in
    let giver = cond_some _ _ _ (sym c.variable.ensures ∙ c.in_ok-giver.was) in
    let kind = cond_some _ _ _ (sym c.kind.ensures ∙ c.in_ok-kind.was) in
    let receiver = cond_some _ _ _ (sym c.name.ensures ∙ c.in_ok-receiver.was) in
    let low = ltb-true _ _ giver.0 in
    let high = leb-true _ _ receiver.0 in
    let here : variable_of (get_or w 3 0) ≢ name_of (get_or w 7 0) → PriceHere w = λ others. record {
      space = search rules;
      sign = search rules;
      giver_space = search rules;
      giver = low;
      kind_space = search rules;
      kind = leb-true _ _ kind.0;
      receiver_space = search rules;
      receiver = high;
      others = others;
    } in
    let same : NamePartialEq.ghosts.eq (said.Variable c.in_ok-giver.giver) c.in_ok-receiver.receiver ≡ eqb (variable_of (get_or w 3 0)) (name_of (get_or w 7 0))
    = rw (← giver.1, ← receiver.1) (same_name _ _ low high) in
    let differ : c.ne.result ≡ not (eqb (variable_of (get_or w 3 0)) (name_of (get_or w 7 0))) = rw (← same) c.ne.ensures in
    rw (c.then_some.ensures ∙ chosen _ _) (price_begins w _ c.ne.result differ here (to_end w 8) giver.1 kind.1 receiver.1)
