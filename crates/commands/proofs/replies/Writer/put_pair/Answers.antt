use Rattle.model.specs.Grammar.{decimal}
use Rattle.commands.proofs.Buffers.{put_then, two_words}
use Rattle.commands.proofs.replies.Writer.put_pair.Goals as goal

pub returns-clause-put : goal.returns-clause-put
returns-clause-put c =
    rw (← two_words (decimal c.args.a) (decimal c.args.b)) (put_then (put_then (put_then c.put_number.ensures.put c.put.ensures.put) c.put_number-2.ensures.put) c.put-2.ensures.put)
