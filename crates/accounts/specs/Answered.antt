-- What the calls promise, of any holdings and of every book of so many cards.
use Rattle.std.specs.Prelude.{◌≡◌, List, ℕ, min, T, Result, length}
use Rattle.model.specs.Limits.{card_limit}
use Rattle.model.specs.Book.{Book}
use Rattle.model.specs.Calls.{Call, is_refused, reply_to, after}
use Rattle.answers.specs.View.{reply_of}
use Rattle.answers.specs.declared.Refusal.{Refusal}
use Rattle.answers.specs.declared.Told.{Told}
use Rattle.accounts.specs.View.{state_from}

-- a call over the book b on the holdings h answers `reply` and leaves the holdings h'
pub record Answered (b : Book) (h : List ℕ) (call : Call) (reply : Result Told Refusal) (h' : List ℕ) : Type 0 where
  -- the first question that is answered no, or what the call tells
  pub answers : reply_of reply ≡ reply_to b (state_from h) call
  -- the holdings afterwards
  pub state : state_from h' ≡ after b (state_from h) call
  pub size : length h' ≡ length h
  -- a refused call changes none
  pub refused : T (is_refused (reply_of reply)) → h' ≡ h

-- a book of so many cards, at most 32: nothing else of a book is asked by these calls
abbrev pub Declares : ℕ → Book → Type 0
Declares declared b = length b.cards ≡ min declared card_limit

-- the same over every such book
abbrev pub AnsweredFor : ℕ → List ℕ → Call → Result Told Refusal → List ℕ → Type 0
AnsweredFor declared h call reply h' = (b : Book) → Declares declared b → Answered b h call reply h'
