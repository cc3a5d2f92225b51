-- What `judge` answers: questions 12 to 21 of document 01, asked of the book that the tables hold.
use Rattle.std.specs.Prelude.{◌≡◌, List, ℕ, Result}
use Rattle.model.specs.Questions.{done}
use Rattle.model.specs.Calls.{judging}
use Rattle.answers.specs.declared.Refusal.{Refusal}
use Rattle.answers.specs.View.{answer_of}
use Rattle.rulebook.specs.View.{book_of}
use Rattle.rulebook.specs.declared.Tables.{Tables}

abbrev pub Judges : Tables → List ℕ → List ℕ → Result (Unit {0}) Refusal → Type 0
Judges tables e p result = answer_of done result ≡ judging (book_of tables.cards tables.rules) e p
