use Rattle.std.proofs.Common.{◌≡◌}
use borrow.Author.Rules.{rules}
use Rattle.commands.proofs.Buffers.{printed}
use Rattle.commands.proofs.replies.put_refused.Goals as goal

pub returns : goal.returns
returns c =
    let number : c.from.result ≡ c.args.number = c.from.ensures in
    rw (← number) (printed c.new-answer.ensures.begun c.put_pair.ensures.put (search rules) c.put_pair.ensures.fits)
