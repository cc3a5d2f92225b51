-- A declared card's first six digits, or none.
use native.Mathlib.Omega.{arith}
use mathlib.Core.Path.{◌≡◌, sym, ◌∙◌}
use lib.ListN.{length}
use Prim.Native.Nat.{◌≤◌, min}
use Rattle.model.specs.Limits.{card_limit}
use Rattle.model.proofs.Tests.{within-true}
use Rattle.model.proofs.Places.{up_to_length}
use Rattle.rulebook.specs.View.{card_count, digit_at}
use Rattle.rulebook.proofs.Books.{count_small}
use Rattle.judge.specs.inner.Rows.{prefix_of}
use Rattle.judge.proofs.Issuers.{take_up_to, first_six}
use Rattle.judge.proofs.conditions.issuer_prefix.Goals as goal

pub returns-then-not-is_within : goal.returns-then-not-is_within
unfolding prefix_of
returns-then-not-is_within c = rw (rw c.card_count.ensures at (sym c.is_within.ensures ∙ c.if-not-is_within.true))

pub returns : goal.returns
unfolding prefix_of
returns c =
    let m = c.args.m in
    let table = c.args.cards.now in
    let known = rw c.card_count.ensures at (sym c.is_within.ensures ∙ c.if-not-is_within.false) in
    let row : min m card_limit ≡ m = omega (arith, within-true m (card_count table) known, count_small table) in
    let digits = rw row at c.digits.ensures in
    let long : 6 ≤ length c.digits.result.now = rw digits (omega (arith, up_to_length (digit_at table m) 19)) in
    first_six c.digits.result.now c.first_chunk.result c.first_chunk.ensures.cases long ∙ rw (digits, known, take_up_to (digit_at table m) 6 19 (omega arith))
