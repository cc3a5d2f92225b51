-- The chunks from the prices' place on.
use borrow.Author.Rules.{rules}
use native.Mathlib.Omega.{arith}
use Prim.Native.Nat.{◌-◌}
use Rattle.rulebook.specs.Layout.{rule_row_size, price_giver_place}
use Rattle.rulebook.specs.Rows.{price_of, price_entry}
use Rattle.rulebook.proofs.Parts.{entries_part, price_bytes}
use Rattle.rulebook.proofs.layout.Row.prices.Goals as goal

pub returns : goal.returns
returns c =
    let row = c.args.self.bytes.now in
    rw (c.as_chunks.ensures.front, c.from.ensures, c.price_count-n.ensures) (entries_part price_of row (price_giver_place 0) (rule_row_size - price_giver_place 0) _ (price_entry row) (price_bytes row) (omega arith) (search rules))
