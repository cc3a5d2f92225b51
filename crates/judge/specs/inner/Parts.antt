-- What the inner functions are given, and what following the chain answers.
use Rattle.std.specs.Prelude.{◌≡◌, List, ℕ, ◌≤◌, Result, length}
use Rattle.model.specs.Limits.{record_size, proof_limit}
use Rattle.model.specs.Questions.{done}
use Rattle.model.specs.Transfers.{exchange_of}
use Rattle.model.specs.Proof.{judge_chain}
use Rattle.answers.specs.declared.Refusal.{Refusal}
use Rattle.answers.specs.View.{answer_of}
use Rattle.rulebook.specs.View.{book_of}
use Rattle.rulebook.specs.declared.Tables.{Tables}

-- a proof that question 14 passes
pub record Recorded (p : List ℕ) : Type 0 where
  pub some : record_size ≤ length p
  pub few : length p ≤ proof_limit

-- what following the chain answers: questions 15 to 21
abbrev pub Follows : Tables → List ℕ → List ℕ → Result (Unit {0}) Refusal → Type 0
Follows tables e p result = answer_of done result ≡ judge_chain (book_of tables.cards tables.rules) (exchange_of e) p
