-- The price is counted at its first place, or is missing.
use mathlib.Core.Path.{refl, sym}
use mathlib.Core.Bool.{true, false}
use Rattle.model.proofs.Tests.{or_true_right, or_false_right}
use Rattle.std.proofs.lemmas.Option.{MatchOption-at_some, MatchOption-at_none}
use Rattle.judge.proofs.Paying.{asks_nobody, asks_first}
use Rattle.judge.proofs.notes.Notes.ask.Goals as goal

pub returns-in-Some : goal.returns-in-Some
returns-in-Some c =
    let w = MatchOption-at_some _ _ _ c.in-Some.is c.find.ensures in
    let s = c.args.self.now in
    (record { exchange = refl; found = true; asks = asks_first _ _ c.in-Some.j w.0 c.requires.size s.gifts.exchange.short _ w.1 w.2; missing = sym (or_false_right s.missing) }, refl)

pub returns-in-None : goal.returns-in-None
returns-in-None c =
    let s = c.args.self.now in
    (record { exchange = refl; found = false; asks = asks_nobody _ _ _ (MatchOption-at_none _ _ c.in-None.is c.find.ensures); missing = sym (or_true_right s.missing) }, refl)
