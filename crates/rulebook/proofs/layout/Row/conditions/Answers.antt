-- The chunks from the conditions' place on.
use borrow.Author.Rules.{rules}
use native.Mathlib.Omega.{arith}
use Prim.Native.Nat.{◌-◌}
use Rattle.rulebook.specs.Layout.{rule_row_size, group_asked_place}
use Rattle.rulebook.specs.Rows.{condition_of, condition_entry}
use Rattle.rulebook.proofs.Parts.{entries_part, condition_bytes}
use Rattle.rulebook.proofs.layout.Row.conditions.Goals as goal

pub returns : goal.returns
returns c =
    let row = c.args.self.bytes.now in
    rw (c.as_chunks.ensures.front, c.from.ensures, c.condition_count-n.ensures) (entries_part condition_of row (group_asked_place 0) (rule_row_size - group_asked_place 0) _ (condition_entry row) (condition_bytes row) (omega arith) (search rules))
