-- The chain counts the transfers that are the same.
use borrow.Author.Rules.{rules}
use mathlib.Core.Path.{◌≡◌, ◌∙◌}
use Rattle.std.specs.Prelude.{count_by}
use Rattle.transfers.proofs.Listing.{is_same, counted}
use Rattle.transfers.proofs.count.Goals as goal

pub returns : goal.returns
returns c =
    let number : c.count.result ≡ count_by (is_same c.args.t) c.args.list.now = search rules in
    number ∙ counted c.args.t c.args.list.now
