-- Both words' bytes are in their buffers as far as they count.
use Rattle.session.proofs.Answering.{settled-words}
use borrow.Author.Rules.{rules}
use Rattle.session.proofs.replies.settle.Goals as goal

pub returns : goal.returns
returns c = settled-words _ _ _ _ _ _ _ _ _ _ _ (search rules) (search rules) c.unhex-n.ensures c.unhex-m.ensures c.settle.ensures
