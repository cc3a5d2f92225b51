use Rattle.std.proofs.Common.{arith}
use borrow.Author.Rules.{rules}
use Rattle.commands.proofs.Buffers.{printed}
use Rattle.commands.proofs.replies.put_text.Goals as goal

pub returns : goal.returns
returns c = printed c.new-answer.ensures.begun c.put.ensures.put (search rules) (omega arith)
