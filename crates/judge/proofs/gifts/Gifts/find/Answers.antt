-- The transfer is sought from its giver's first on, and nothing before is it.
use borrow.Author.Rules.{rules}
use native.Mathlib.Omega.{arith}
use Prim.Native.Nat.{◌+◌, ◌≤◌, ◌<◌}
use lib.ListN.{get_or}
use mathlib.Core.Path.{◌≡◌, ◌∙◌}
use mathlib.Core.Bool.{true, false}
use Rattle.std.specs.Option.{option_map}
use Rattle.std.proofs.lemmas.Iterator.{YieldsList-from_slice, IsFirst-from_position}
use Rattle.std.proofs.lemmas.List.{take_all, length-drop}
use Rattle.model.specs.Transfers.{eq_transfer}
use Rattle.transfers.specs.View.{transfer_of, transfer_count}
use Rattle.judge.proofs.Giving.{gifts-before}
use Rattle.judge.proofs.Paying.{rest, Tests, sought, first_at}
use Rattle.judge.proofs.gifts.Gifts.find.Goals as goal
use Rattle.judge.proofs.gifts.Gifts.find.Goals.{After-from-first}

-- where the transfer's giver gives first
first≡ : (c : After-from-first) → c.from-first.result ≡ get_or c.args.self.now.firsts c.args.t.giver 0
first≡ c = rw c.from.ensures at c.from-first.ensures

low : (c : After-from-first) → c.from-first.result ≤ transfer_count c.args.self.now.exchange.bytes.now
low c = let giver : c.args.t.giver < 256 = search rules in omega (arith, first≡ c, c.args.self.now.gifts.low c.args.t.giver giver)

pub returns : goal.returns
unfolding eq_transfer
returns c =
    let e = c.args.self.now.exchange.bytes.now in
    let t = transfer_of c.args.t in
    let giver : c.args.t.giver < 256 = search rules in
    let first = c.from-first.result in
    let xs = c.triples.result.now in
    let cut = c.triples.ensures.chunks in
    let size = c.triples.ensures.count.0 in
    let l = low (goal.at.returns c).After-from-first in
    let found = IsFirst-from_position _ _ c.position.result (Tests e t first l xs cut size true) (Tests e t first l xs cut size false) c.position.ensures.ran (YieldsList-from_slice (rest e t first l xs cut size) (c.iter.ensures.rest ∙ take_all _ _ (omega (arith, length-drop first xs)))) (λ x q k. search rules) (λ x q k. search rules) in
    let number : c.map.result ≡ option_map (λ i. first + i) c.position.result = search rules in
    first_at e t first l (rw (first≡ (goal.at.returns c).After-from-first) (gifts-before e t c.args.self.now.firsts c.args.self.now.gifts giver)) _ (sought e t first l xs cut size _ _ number found)
