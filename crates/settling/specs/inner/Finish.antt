-- What is left of a settlement once questions 12 to 21 are met: questions 22 and 23, and the move.
use Rattle.std.specs.Prelude.{◌≡◌, List, ℕ, ◌<◌, min, Result, Ok, Err, length}
use Rattle.model.specs.Limits.{card_limit}
use Rattle.model.specs.Questions as model
use Rattle.model.specs.Book.{Book}
use Rattle.model.specs.Transfers.{exchange_of}
use Rattle.model.specs.Holdings.{receives, settled}
use Rattle.model.specs.Calls.{last_questions}
use Rattle.answers.specs.View.{number_of}
use Rattle.answers.specs.declared.Reason.{Reason}
use Rattle.accounts.specs.View.{state_from}
use Rattle.accounts.specs.Answered.{Declares}
use Rattle.settling.specs.inner.Moves.{Proper}

-- what questions 12 to 21 have shown of an exchange
pub record Judged (declared : ℕ) (e : List ℕ) : Type 0 where
  pub proper : Proper e
  -- an undeclared card receives nothing
  pub undeclared : (c k : ℕ) → min declared card_limit < c → receives c k (exchange_of e) ≡ 0

-- the reply: no question is refused, or one is, without a place
abbrev pub last_reply : Result (Unit {0}) Reason → model.Reply
last_reply (Ok u) = model.ok model.done
last_reply (Err why) = model.refused (number_of why) 0

-- the exchange is moved, or the holdings stay
abbrev pub Leaves : Result (Unit {0}) Reason → List ℕ → List ℕ → List ℕ → Type 0
Leaves (Ok u) h e h' = (c k : ℕ) → (state_from h').held c k ≡ settled (state_from h) (exchange_of e) c k
Leaves (Err why) h e h' = h' ≡ h

-- why the first question that is answered no is, or that none is; then the exchange is moved, and otherwise nothing is
pub record Finished (declared : ℕ) (h e : List ℕ) (r : Result (Unit {0}) Reason) (h' : List ℕ) : Type 0 where
  pub answers : (b : Book) → Declares declared b → last_reply r ≡ last_questions b (state_from h) (exchange_of e)
  pub leaves : Leaves r h e h'
  pub size : length h' ≡ length h
