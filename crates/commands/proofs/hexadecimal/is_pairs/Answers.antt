-- Each chunk is tested, and no odd digit is left.
use borrow.Author.Rules.{rules}
use mathlib.Core.Path.{◌≡◌, sym, ◌∙◌, ap}
use Prim.Native.Nat.{ℕ, ◌/◌, ◌*◌}
use lib.Dec.{eqb}
use lib.ListN.{length, drop}
use mathlib.Core.List.{List}
use Rattle.std.specs.List.{list_all}
use Rattle.std.proofs.lemmas.Iterator.{YieldsList-from_slice}
use Rattle.std.proofs.lemmas.Iterator.Search.{all_from_yields_List}
use Rattle.commands.proofs.Pairs.{is_pair, by_chunks}
use Rattle.commands.proofs.hexadecimal.is_pairs.Goals as goal
use Rattle.commands.proofs.hexadecimal.is_pairs.Goals.{After-is_empty}

-- what the test of an odd digit tells
odd : (c : After-is_empty) → eqb (length (drop (length c.args.word.now / 2 * 2) c.args.word.now)) 0 ≡ c.is_empty.result
odd c = ap (λ (r : List ℕ). eqb (length r) 0) (sym c.as_chunks.ensures.back) ∙ sym c.is_empty.ensures

pub returns-then-is_empty : goal.returns-then-is_empty
returns-then-is_empty c =
    let chunks = c.as_chunks.result.0.now in
    let tested : c.all.result ≡ list_all is_pair chunks = all_from_yields_List is_pair _ _ _ c.all.ensures.ran (YieldsList-from_slice chunks (search rules)) (λ x b q k. search rules) in
    let whole = rw (odd (goal.at.returns-then-is_empty c).After-is_empty, c.if-is_empty.true) at (by_chunks c.args.word.now) in
    tested ∙ ap (list_all is_pair) c.as_chunks.ensures.front ∙ whole

pub returns-else-is_empty : goal.returns-else-is_empty
returns-else-is_empty c =
    let part = rw (odd (goal.at.returns-else-is_empty c).After-is_empty, c.if-is_empty.false) at (by_chunks c.args.word.now) in
    c.if-is_empty.false ∙ part
