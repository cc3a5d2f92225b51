-- What `read` promises, of a text of any bytes.
use Rattle.std.specs.Prelude.{◌≡◌, List, ℕ, replicate, Result, Ok, Err}
use Rattle.model.specs.Opening.{opening, opened_book}
use Rattle.answers.specs.View.{answer_of}
use Rattle.answers.specs.declared.Refusal.{Refusal}
use Rattle.rulebook.specs.Layout.{card_table_size, rule_table_size}
use Rattle.rulebook.specs.View.{tables_book}
use Rattle.rulebook.specs.declared.Tables.{Tables}

-- tables that are all zero: a book without cards
abbrev pub no_tables : Tables
no_tables = record { cards = replicate card_table_size 0; rules = replicate rule_table_size 0 }

-- the tables in force after reading: those of the empty text where it is refused
abbrev pub tables_after : Result Tables Refusal → Tables
tables_after (Ok t) = t
tables_after (Err r) = no_tables

-- what reading answers: that it is done, or the refusal
abbrev pub answer_told : Result Tables Refusal → Result (Unit {0}) Refusal
answer_told (Ok t) = Ok tt
answer_told (Err r) = Err r

-- The answer is the opening's, which tells the book of the tables; the tables in force hold the book that is in force.
pub record Reads (result : Result Tables Refusal) (text : List ℕ) : Type 0 where
  pub answer : answer_of (tables_book (tables_after result)) (answer_told result) ≡ opening text
  pub book : tables_book (tables_after result) ≡ opened_book text

-- every text has a reading
abbrev pub EveryTextReads : Type 0
EveryTextReads = (text : List ℕ) → (r : Result Tables Refusal) × Reads r text
