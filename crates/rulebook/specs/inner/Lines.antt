-- What a line leaves in the tables that are lent to the functions that take it.
use Rattle.std.specs.Prelude.{not, ◌≡◌, List, [], ◌∷◌, ℕ, ltb, length, get_or, Result, OnOk, OnErr}
use Rattle.model.specs.Limits.{card_limit, rule_limit}
use Rattle.model.specs.Lists.{within, any, eq_list}
use Rattle.model.specs.Questions.{Question, ◌unless◌, first_unmet}
use Rattle.model.specs.Reader.{group_of, number_at, is_card_line, card_read, is_group_line, is_rule_line, rule_read}
use Rattle.model.specs.Opening.{card_digits, is_card_number, open_line}
use Rattle.answers.specs.View.{answer_of, unmet_of, placed}
use Rattle.answers.specs.declared.Reason.{Reason}
use Rattle.rulebook.specs.declared.Tables.{Tables}
use Rattle.rulebook.specs.View.{card_count, rule_count, cards_of, tables_book}
use Rattle.forms.specs.Forms.{form_said}
use Rattle.rulebook.specs.inner.Rows.{row_of}
use Rattle.rulebook.specs.inner.Writes.{CardAdded, MemberAdded, RuleAdded}

-- ---- questions 2 to 7, by the line's form

abbrev pub card_questions : List (List ℕ) → List ℕ → List Question
card_questions cards w =
    (2 unless is_card_line w) ∷
    (3 unless ltb (length cards) card_limit) ∷
    (4 unless is_card_number (card_digits (card_read w))) ∷
    (5 unless not (any (eq_list (card_digits (card_read w))) cards)) ∷ []

abbrev pub group_questions : ℕ → List ℕ → List Question
group_questions cards w = (2 unless is_group_line w) ∷ (6 unless within (number_at w 4) cards) ∷ []

abbrev pub rule_questions : ℕ → ℕ → List ℕ → List Question
rule_questions cards rules w = (2 unless is_rule_line w) ∷ (6 unless within (rule_read w).owner cards) ∷ (7 unless ltb rules rule_limit) ∷ []

-- ---- what a line leaves in a table

-- refused by the first question that is not met, and then the table is as it was; otherwise something is added
pub record AddedUnless (questions : List Question) (Added : List ℕ → Type 0) (result : Result (Unit {0}) Reason) (table table' : List ℕ) : Type 0 where
  pub first : unmet_of result ≡ first_unmet questions
  pub added : OnOk result (Added table')
  pub kept : OnErr result (table' ≡ table)

pub record CardTaken (w cards : List ℕ) (result : Result (Unit {0}) Reason) (cards' : List ℕ) : Type 0 where
  pub asked : AddedUnless (card_questions (cards_of cards) w) (CardAdded (card_digits (card_read w)) cards) result cards cards'

pub record GroupTaken (w cards : List ℕ) (result : Result (Unit {0}) Reason) (cards' : List ℕ) : Type 0 where
  pub asked : AddedUnless (group_questions (card_count cards) w) (MemberAdded (group_of (get_or w 2 0)) (number_at w 4) cards) result cards cards'

pub record RuleTaken (w : List ℕ) (cards : ℕ) (rules : List ℕ) (result : Result (Unit {0}) Reason) (rules' : List ℕ) : Type 0 where
  pub asked : AddedUnless (rule_questions cards (rule_count rules) w) (RuleAdded (row_of (form_said (rule_read w))) rules) result rules rules'

-- ---- any line

-- the line's answer over the book of the tables
pub record LineTaken (w : List ℕ) (tables : Tables) (result : Result (Unit {0}) Reason) (tables' : Tables) : Type 0 where
  pub answer : (i : ℕ) → answer_of (tables_book tables') (placed i result) ≡ open_line i (tables_book tables) w
