-- The prices before this one are asked.
use mathlib.Core.Path.{◌≡◌}
use Rattle.model.specs.Lists.{up_to}
use Rattle.judge.specs.inner.Rows.{price_asked}
use Rattle.judge.specs.inner.Notes.{Asked}
use Rattle.judge.proofs.notes.Notes.ask_prices.Given as goal

abbrev pub invariant-loop-price : goal.invariant-loop-price
invariant-loop-price l =
    Asked (up_to (price_asked l.approval.row.bytes.now l.approval.rec.bytes.now) l.price-index) l.initial.self l.self × (l.self.claimed ≡ l.initial.self.claimed)
