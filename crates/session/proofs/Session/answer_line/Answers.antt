-- The answer is printed over the buffer's first bytes.
use Rattle.commands.specs.Grammar.{answer_size}
use Rattle.session.proofs.Printing.{printed-first}
use Rattle.session.proofs.Session.answer_line.Goals as goal

pub returns : goal.returns
returns c =
    let a = c.answer.ensures in
    let x = rw c.unwrap-reply.ensures at c.first_chunk_mut.ensures.cases in
    record { said = printed-first answer_size c.requires (rw x.same at a.said); state = a.state; book = a.book; others = a.others }
