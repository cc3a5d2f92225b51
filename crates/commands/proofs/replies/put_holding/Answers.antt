use Rattle.std.proofs.Common.{arith}
use borrow.Author.Rules.{rules}
use Rattle.model.specs.Lists.{ascii}
use Rattle.model.specs.Grammar.{decimal}
use Rattle.commands.proofs.Decimals.{ten_digits}
use Rattle.commands.proofs.Buffers.{put_then, printed, two_words}
use Rattle.commands.proofs.replies.put_holding.Goals as goal

pub returns : goal.returns
returns c =
    let text = put_then (put_then c.put.ensures.put c.put_number.ensures.put) c.put-2.ensures.put in
    rw (← two_words (ascii "=") (decimal c.args.held)) (printed c.new-answer.ensures.begun text (search rules) (omega (arith, ten_digits)))
