-- One byte is written.
use Rattle.rulebook.proofs.Written.{member_added}
use borrow.Author.Rules.{rules}
use Rattle.rulebook.proofs.layout.add_member.Goals as goal

pub returns : goal.returns
returns c =
    let p = c.requires in
    rw (c.from.ensures, c.from-2.ensures)
    (member_added c.args.group c.args.m c.args.cards.now p.0.0 p.0.1 p.1.0 p.1.1 (search rules))
