use Rattle.std.proofs.Common.{◌≡◌}
use borrow.Author.Rules.{rules}
use Rattle.commands.proofs.Buffers.{put_then, printed}
use Rattle.commands.proofs.replies.put_book.Goals as goal

pub returns : goal.returns
returns c =
    let cards : c.from.result ≡ c.args.cards = c.from.ensures in
    let rules-put : c.from-2.result ≡ c.args.rules = c.from-2.ensures in
    rw (← cards, ← rules-put) (printed c.new-answer.ensures.begun (put_then c.put.ensures.put c.put_pair.ensures.put) (search rules) c.put_pair.ensures.fits)
