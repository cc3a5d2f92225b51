-- An opened text's book is told by its tables' counts.
use Rattle.rulebook.proofs.Books.{card-count, rule-count}
use Rattle.session.proofs.replies.put_opening.Goals as goal

pub returns-in-Ok : goal.returns-in-Ok
returns-in-Ok c =
    let t = c.args.engine.now.tables in
    rw (c.in-Ok.is, card-count t.cards t.rules, rule-count t.cards t.rules) (rw (c.card_count.ensures, c.rule_count.ensures) at c.put_book.ensures)
