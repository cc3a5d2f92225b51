-- Each call changes the engine's holdings alone.
use Rattle.session.proofs.Answering.{performed}
use Rattle.session.proofs.replies.perform.Goals as goal

pub returns-in-Issue : goal.returns-in-Issue
returns-in-Issue c = rw c.in-Issue.is (performed c.args.engine.now _ _ _ (rw c.card_count-declared.ensures at c.issue.ensures))

pub returns-in-Redeem : goal.returns-in-Redeem
returns-in-Redeem c = rw c.in-Redeem.is (performed c.args.engine.now _ _ _ (rw c.card_count-declared.ensures at c.redeem.ensures))

pub returns-in-Query : goal.returns-in-Query
returns-in-Query c = rw c.in-Query.is (performed c.args.engine.now _ _ _ (rw c.card_count-declared.ensures at c.holding.ensures))
