-- A text from a place on, line by line.
use mathlib.Core.Path.{◌≡◌, sym, ◌∙◌, ap}
use mathlib.Core.List.{List}
use Prim.Native.Char.{code}
use Prim.Native.Nat.{ℕ, ◌+◌, ◌≤◌, ◌<◌}
use native.Mathlib.Omega.{arith}
use lib.Dec.{T}
use lib.ListN.{length, length-append}
use borrow.Author.Tests.{le-leb, lt-leb, ne_eqb}
use Rattle.std.proofs.lemmas.List.{nil_from_length}
use Rattle.model.specs.Questions.{Answer, ok, refused, and_then}
use Rattle.model.specs.Reader.{has_no_lf, cut}
use Rattle.model.specs.Book.{Book}
use Rattle.model.specs.Opening as model
use Rattle.model.specs.Opening.{open_line, open_lines, opening}
use Rattle.model.proofs.Cuts.{cut_end, cut-more}
use Rattle.ascii.specs.Cut.{CutAt}
use Rattle.std.specs.Prelude.{Result, Ok, Err}
use Rattle.answers.specs.View.{answer_of, number_of, placed}
use Rattle.answers.specs.declared.Reason.{Reason}
use Rattle.answers.specs.declared.Refusal.{Refusal}
use Rattle.rulebook.specs.View.{tables_book}
use Rattle.rulebook.specs.Reads.{no_tables, Reads}
use Rattle.rulebook.specs.inner.Lines.{LineTaken}
use Rattle.rulebook.specs.declared.Tables.{Tables}
use Rattle.rulebook.proofs.Grown.{no_tables_lem}

-- ---- the lines that are left, the first of them line i, over the book b

unfoldable pub open_rest : List ℕ → ℕ → Book → Answer Book
open_rest rest i b = open_lines i b (cut rest).lines (cut rest).last

pub too_long : (text : List ℕ) → 16_384 < length text → opening text ≡ refused 1 0
unfolding opening
too_long text l = rw (lt-leb (length text) 16_384 l)

-- the lines so far left the tables t; the rest, from line i on, opens to what the text opens to
pub record Turn (text rest : List ℕ) (i : ℕ) (t : Tables) : Type 0 where
  pub few : i + length rest ≤ length text + 1
  pub so_far : open_rest rest i (tables_book t) ≡ opening text

pub starts : (text : List ℕ) → length text ≤ 16_384 → (t : Tables) → t ≡ no_tables → Turn text text 1 t
unfolding open_rest opening
starts text l t e = record { few = omega arith; so_far = rw (ap tables_book e ∙ no_tables_lem, le-leb (length text) 16_384 l) }

module _ {text rest : List ℕ} {i : ℕ} {t : Tables} (turn : Turn text rest i t) where
  pub all_read : length rest ≡ 0 → opening text ≡ ok (tables_book t)
  unfolding open_rest open_lines cut
  all_read e = sym turn.so_far ∙ rw (nil_from_length rest e)

  pub no-LF : T (has_no_lf rest) → 0 < length rest → opening text ≡ refused 2 i
  unfolding open_rest open_lines
  no-LF none l = sym turn.so_far ∙ rw (cut_end rest none, ne_eqb (length rest) 0 (λ z. omega arith))

  module _ {line after : List ℕ} (parts : CutAt (code "\n") rest line after) where
    line_first : opening text ≡ and_then (open_line i (tables_book t) line) (λ b. open_rest after (i + 1) b)
    unfolding open_rest open_lines
    line_first = sym turn.so_far ∙ rw (parts.whole, cut-more line after parts.first)

    -- the line's result with its number
    module _ {r : Result (Unit {0}) Reason} {t' : Tables} (taken : LineTaken line t r t') where
      line_says : opening text ≡ and_then (answer_of (tables_book t') (placed i r)) (λ b. open_rest after (i + 1) b)
      line_says = line_first ∙ rw (sym (taken.answer i))

      pub line-refused : {e : Refusal} → placed i r ≡ Err e → opening text ≡ refused (number_of e.reason) e.place
      line-refused p = rw p at line_says

      pub line_done : placed i r ≡ Ok tt → Turn text after (i + 1) t'
      line_done p =
          let size : length rest ≡ length line + 1 + length after = rw parts.whole (grind (arith, length-append)) in
          record { few = omega (arith, turn.few); so_far = sym (rw p at line_says) }

-- ---- what `read` returns

pub reads_refused : {text : List ℕ} {r : Refusal} → opening text ≡ refused (number_of r.reason) r.place → Reads (Err r) text
unfolding model.opened_book
reads_refused o = record { answer = sym o; book = rw o no_tables_lem }

pub reads_done : {text : List ℕ} {t : Tables} → opening text ≡ ok (tables_book t) → Reads (Ok t) text
unfolding model.opened_book
reads_done o = record { answer = sym o; book = rw o }
