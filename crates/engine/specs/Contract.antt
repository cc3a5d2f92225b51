-- What the calls promise, of every engine value and any arguments. Demand 3 is stated over these very promises.
use Rattle.std.specs.Prelude.{◌≡◌, List, ℕ, T, Result, length}
use Rattle.model.specs.Limits.{holding_count}
use Rattle.model.specs.Opening.{opening, opened_book}
use Rattle.model.specs.Holdings.{no_holdings}
use Rattle.model.specs.Calls.{Call, is_refused, reply_to, after}
use Rattle.answers.specs.View.{answer_of, reply_of}
use Rattle.answers.specs.declared.Refusal.{Refusal}
use Rattle.answers.specs.declared.Told.{Told}
use Rattle.engine.specs.View.{book_in, state_in}
use Rattle.engine.specs.declared.Engine.{Engine}

-- opening a text answers `answer` and yields the engine e
pub record Opens (text : List ℕ) (answer : Result (Unit {0}) Refusal) (e : Engine) : Type 0 where
  -- the first question that is answered no, or the text's book
  pub answers : answer_of (book_in e) answer ≡ opening text
  -- the text's book, or that of the empty text where it is refused
  pub book : book_in e ≡ opened_book text
  -- all 512 holdings at zero
  pub state : state_in e ≡ no_holdings
  pub size : length e.holdings ≡ holding_count

-- a call on the engine e answers `reply` and returns the engine e'
pub record Answers (e : Engine) (call : Call) (reply : Result Told Refusal) (e' : Engine) : Type 0 where
  -- the first question that is answered no, or what the call tells
  pub answers : reply_of reply ≡ reply_to (book_in e) (state_in e) call
  -- the holdings afterwards; cards, groups and rules stay
  pub state : state_in e' ≡ after (book_in e) (state_in e) call
  pub book : book_in e' ≡ book_in e
  pub size : length e'.holdings ≡ length e.holdings
  -- a refused call returns the engine that it was given
  pub refused : T (is_refused (reply_of reply)) → e' ≡ e
