-- The length is written, then the digits, then the count.
use mathlib.Core.Path.{◌≡◌}
use native.Mathlib.Omega.{arith}
use lib.ListN.{length}
use Rattle.model.specs.Limits.{most_digits}
use Rattle.rulebook.proofs.Written.{row_written, card-added}
use borrow.Author.Rules.{rules}
use Rattle.rulebook.proofs.layout.add_card.Goals as goal

pub returns : goal.returns
returns c =
    let a = c.args in
    let count = c.card_count-m.ensures in
    let l : length a.number.digits ≡ most_digits = search rules in
    card-added a.cards.now a.number.digits _ _ a.number.count (omega (arith, count)) (omega (arith, count, c.requires)) (search rules) l a.number.few
    (rw (c.from-at.ensures, c.copy_from_slice.ensures.after) (row_written _ _ _ _ (omega arith) (search rules)))
