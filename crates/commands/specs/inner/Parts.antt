-- What private functions read and put.
use Rattle.std.specs.Prelude.{◌≡◌, List, ℕ, ◌+◌, length, cond, ltb, Option, Some, None}
use Rattle.std.specs.Borrow.{Bor}
use Rattle.std.proofs.lemmas.List.Edits.{sets}
use Rattle.model.specs.Calls.{Call}
use Rattle.accounts.specs.declared.Account.{Account}
use Rattle.commands.specs.Reader.{Split, Numbered}

-- a value below a limit, none at the limit or above
abbrev pub if_below : ℕ → ℕ → Option ℕ
if_below limit v = cond (ltb v limit) (Some v) None

-- a word and what follows its space
abbrev pub split_of : Bor (List ℕ) × Bor (List ℕ) → Split
split_of p = record { word = p.0.now; rest = p.1.now }

-- a number and what follows its space
abbrev pub numbered_of : ℕ × Bor (List ℕ) → Numbered
numbered_of p = record { value = p.0; rest = p.1.now }

-- the call on an account with a count
abbrev pub call_on : (ℕ → ℕ → ℕ → Call) → Account × ℕ → Call
call_on f p = f p.0.card p.0.kind p.1

-- the text is put from a place on, and next is after it
pub record Put (text buffer : List ℕ) (at : ℕ) (after : List ℕ) (next : ℕ) : Type 0 where
  pub put : after ≡ sets buffer at text
  pub ends : next ≡ at + length text
