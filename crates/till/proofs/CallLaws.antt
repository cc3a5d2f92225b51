-- The call by its steps: the question that refuses, or the holdings that a settlement moves, written back.
use mathlib.Core.Path.{◌≡◌, sym, ◌∙◌, ap}
use mathlib.Core.Bool.{false}
use mathlib.Core.List.{List}
use Prim.Native.Nat.{ℕ}
use borrow.Author.Tests.{ne_eqb}
use native.Mathlib.Omega.{arith}
use lib.Dec.{eqb}
use lib.ListN.{length}
use Rattle.std.specs.Prelude.{Result, Ok, Err}
use Rattle.model.specs.Limits.{holding_count}
use Rattle.model.specs.Questions.{ok, refused, Reply, first_unmet}
use Rattle.model.proofs.Questions.{first_refuses}
use Rattle.model.specs.Book.{Book}
use Rattle.model.specs.Holdings.{State}
use Rattle.model.specs.Calls.{settle, reply_to, changed}
use Rattle.model.proofs.Conservation.{after-ok}
use Rattle.answers.specs.View.{number_of, told_of}
use Rattle.answers.specs.declared.Reason.{Reason}
use Rattle.answers.proofs.Numbers.{number_positive}
use Rattle.answers.specs.declared.Refusal.{Refusal}
use Rattle.answers.specs.declared.Told.{Told}
use Rattle.rulebook.specs.View.{card_count, book_of}
use Rattle.rulebook.specs.Reads.{Reads}
use Rattle.rulebook.proofs.Books.{declares}
use Rattle.rulebook.specs.declared.Tables.{Tables}
use Rattle.accounts.specs.Answered.{Declares}
use Rattle.accounts.specs.View.{state_from}
use Rattle.accounts.proofs.HoldingNumbers.{numbers_are}
use Rattle.settling.specs.Settles.{Settles}
use Rattle.till.specs.Call.{holding_questions, reply_over, till_reply}
use Rattle.till.specs.inner.Parts.{Accepted, SettlesOver, Replies}

module _ (t : Tables) (h x p : List ℕ) where
  abbrev book : Book
  book = book_of t.cards t.rules

  abbrev few : Declares (card_count t.cards) book
  few = declares t.cards t.rules

  refuses : (r : Refusal) → reply_over book h x p ≡ refused (number_of r.reason) r.place → SettlesOver t h x p (Err r) h
  refuses r q = record { answers = sym q; leaves = rw q }

  abbrev over : Reply
  over = reply_to book (state_from h) (settle x p)

  pub holdings-refuse : (why : Reason) → Accepted (card_count t.cards) h (Err why) → SettlesOver t h x p (Err (record { reason = why; place = 0 })) h
  unfolding reply_over
  holdings-refuse why q =
      let not_zero : eqb (number_of why) 0 ≡ false = ne_eqb (number_of why) 0 (λ z. omega (arith, number_positive why)) in
      refuses (record { reason = why; place = 0 }) (first_refuses (holding_questions book h) 0 over tt ∙ rw (q book few, not_zero))

  -- the holdings that a settlement moves are those lent, and question 24 is met
  module _ (copy : List ℕ) (same : copy ≡ h) (met : (b : Book) → Declares (card_count t.cards) b → first_unmet (holding_questions b h) ≡ 0) where
    goes_on : reply_over book h x p ≡ over
    unfolding reply_over
    goes_on = first_refuses (holding_questions book h) 0 over tt ∙ rw (met book few)

    pub settling-refuses : (r : Refusal) (h₁ : List ℕ) → Settles t copy x p (Err r) h₁ → SettlesOver t h x p (Err r) h
    settling-refuses r h₁ s = let q = rw same at s in refuses r (goes_on ∙ sym q.answers)

    pub settling-done : (told : Told) (h₁ : List ℕ) → length h₁ ≡ holding_count → Settles t copy x p (Ok told) h₁ → SettlesOver t h x p (Ok told) h₁
    settling-done told h₁ long s = record {
      answers = sym told_so;
      leaves = rw told_so (numbers_are h₁ (changed (state_from h) (settle x p)).held long (λ c k. ap (λ (s : State). s.held c k) (q.state ∙ after-ok book (state_from h) (settle x p) (told_of told) (sym q.answers))));
    }
      where
        q : Settles t h x p (Ok told) h₁
        q = rw (sym same) s

        told_so : reply_over book h x p ≡ ok (told_of told)
        told_so = goes_on ∙ sym q.answers

-- ---- after the text is read

module _ (text h x p : List ℕ) where
  pub text_refused : (r : Refusal) → Reads (Err r) text → Replies text h x p (Err r) h
  unfolding till_reply
  text_refused r q = record { answers = rw (← q.answer); leaves = rw (← q.answer) }

  pub text_read : (t : Tables) (reply : Result Told Refusal) (h' : List ℕ) → Reads (Ok t) text → SettlesOver t h x p reply h' → Replies text h x p reply h'
  unfolding till_reply
  text_read t reply h' q s = record { answers = rw (← q.answer) s.answers; leaves = rw (← q.answer) s.leaves }
