-- The first pair of the rest is put next, if it is one.
use Rattle.std.proofs.Common.{◌∙◌, sym}
use Rattle.std.proofs.lemmas.List.{set-get_or}
use borrow.Author.Rules.{rules}
use Rattle.model.proofs.Places.{to_end}
use Rattle.commands.proofs.Pairs.{pair_stops, pair_follows}
use Rattle.commands.proofs.Buffers.{filling_more, filled_all}
use Rattle.commands.proofs.hexadecimal.unhex.Goals as goal

pub returns-in_default-pair : goal.returns-in_default-pair
returns-in_default-pair c =
    rw set-get_or (filled_all c.loop-n.invariant (pair_stops _ c.in-len2-up.len_at_least (sym c.pair.ensures ∙ c.in_default-pair.is)))

pub loop-n-preserved : goal.loop-n-preserved
loop-n-preserved c =
    let first = sym c.pair.ensures ∙ c.in-Some.is in
    let more = filling_more c.loop-n.invariant c.in-Some.value _ (pair_follows _ _ c.in-len2-up.len_at_least first) (search rules) in
    rw (to_end c.loop-n.rest.now 2) more
