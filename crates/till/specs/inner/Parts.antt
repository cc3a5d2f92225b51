-- What the parts of the call promise.
use Rattle.std.specs.Borrow.{Bor}
use Rattle.std.specs.Prelude.{◌≡◌, Bool, List, ℕ, Result, Ok, Err}
use Rattle.model.specs.Questions.{first_unmet}
use Rattle.model.specs.Book.{Book}
use Rattle.rulebook.specs.View.{book_of}
use Rattle.rulebook.specs.declared.Tables.{Tables}
use Rattle.accounts.specs.View.{state_from}
use Rattle.accounts.specs.Answered.{Declares}
use Rattle.answers.specs.View.{number_of, reply_of}
use Rattle.answers.specs.declared.Reason.{Reason}
use Rattle.answers.specs.declared.Refusal.{Refusal}
use Rattle.answers.specs.declared.Told.{Told}
use Rattle.till.specs.Call.{undeclared_zero, holding_questions, reply_over, till_reply, left_by}

-- question 24, over any book with so many cards: met, with the holdings as they are lent, or why it is not
abbrev pub Accepted : ℕ → List ℕ → Result (Bor (List ℕ)) Reason → Type 0
Accepted declared h (Ok lent) = (lent.now ≡ h) × ((b : Book) → Declares declared b → first_unmet (holding_questions b h) ≡ 0)
Accepted declared h (Err why) = (b : Book) → Declares declared b → first_unmet (holding_questions b h) ≡ number_of why

-- its second test, of any book with so many cards
abbrev pub UndeclaredTest : ℕ → List ℕ → Bool → Type 0
UndeclaredTest declared h r = (b : Book) → Declares declared b → r ≡ undeclared_zero b (state_from h)

-- questions 24 and 12 to 23
pub record SettlesOver (tables : Tables) (h x p : List ℕ) (reply : Result Told Refusal) (h' : List ℕ) : Type 0 where
  pub answers : reply_of reply ≡ reply_over (book_of tables.cards tables.rules) h x p
  pub leaves : h' ≡ left_by (reply_over (book_of tables.cards tables.rules) h x p) h x p

-- questions 1 to 7 before them
pub record Replies (text h x p : List ℕ) (reply : Result Told Refusal) (h' : List ℕ) : Type 0 where
  pub answers : reply_of reply ≡ till_reply text h x p
  pub leaves : h' ≡ left_by (till_reply text h x p) h x p
