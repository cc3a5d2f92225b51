-- The chunk at the place, if there is one, made a transfer.
use borrow.Author.Rules.{rules}
use mathlib.Core.Path.{◌≡◌, ◌∙◌}
use Rattle.std.specs.Option.{option_map, option_copied}
use Rattle.transfers.specs.View.{transfer_of}
use Rattle.transfers.proofs.Chunks.{of_bytes, lent≡}
use Rattle.transfers.proofs.transfer_at.Goals as goal

pub returns : goal.returns
returns c =
    let made : option_map transfer_of c.map.result ≡ option_map of_bytes (option_copied c.get.result) = search rules in
    made ∙ lent≡ _ _ _ c.as_chunks.ensures.front _ c.get.ensures.lookup
