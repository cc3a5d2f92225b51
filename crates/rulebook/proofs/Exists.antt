-- Every text has a reading: tables for its book, line by line, by the laws that the program's lines follow.
use mathlib.Core.Path.{◌≡◌, refl, subst}
use mathlib.Core.Bool.{Bool, true, false, cond}
use mathlib.Core.List.{List, [], ◌∷◌}
use Prim.Native.Char.{code}
use Prim.Native.Nat.{ℕ, suc, ◌+◌, ◌*◌, ◌≤◌, ◌<◌}
use native.Mathlib.Omega.{arith}
use lib.Dec.{eqb, leb}
use lib.ListN.{length, get_or, set}
use borrow.Author.Tests.{eqb-true, eqb-false}
use Rattle.model.specs.Limits.{card_limit, rule_limit, most_digits, text_limit}
use Rattle.model.specs.Questions.{Answer, ok, refused, Question, first_unmet, and_then}
use Rattle.model.specs.Reader.{group_of, number_at, card_read, rule_read, cut}
use Rattle.model.specs.Book.{Book, no_book}
use Rattle.model.specs.Opening.{card_digits, open_lines, opening}
use Rattle.model.proofs.Places.{up_to_length}
use Rattle.forms.specs.Numbers.{in_row}
use Rattle.forms.proofs.Digits.{in_row_lem}
use Rattle.rulebook.specs.Layout.{card_row_size, card_table_size, length_place, digit_place, rule_row_size, rule_table_size}
use Rattle.rulebook.specs.View.{card_count, rule_count, cards_of, tables_book}
use Rattle.rulebook.specs.Reads.{no_tables, Reads, EveryTextReads}
use Rattle.rulebook.specs.declared.Tables.{Tables}
use Rattle.std.specs.Prelude.{Result, Ok, Err, ◌⊎◌}
use Rattle.std.proofs.Common.{inl, inr, ⊎_elim, sym, ap, ◌∙◌}
use Rattle.answers.specs.View.{answer_of, number_of, placed}
use Rattle.answers.specs.declared.Reason.{Reason}
use Rattle.answers.specs.declared.Reason.TheVariants as reason
use Rattle.answers.specs.declared.Refusal.{Refusal}
use Rattle.rulebook.specs.inner.Writes.{CardAdded, MemberAdded, RuleAdded}
use Rattle.rulebook.specs.inner.Rows.{row_of}
use Rattle.rulebook.specs.inner.Lines.{card_questions, group_questions, rule_questions, AddedUnless, LineTaken}
use Rattle.rulebook.proofs.Written.{row_written, byte_written, card-added, member_added, rule-added}
use Rattle.forms.specs.Forms.{form_said}
use Rattle.rulebook.proofs.Bytes.{row-length}
use Rattle.rulebook.proofs.Grown.{no_tables_lem}
use Rattle.rulebook.proofs.Forms.{how_many, refuses, takes}
use Rattle.rulebook.proofs.Lines.{card-room, group-room, rule-room, card-line, group-line, rule-line, no_line}
use Rattle.rulebook.proofs.Texts.{reads_refused, reads_done}

-- ---- a card, a member and a rule more

a_card : (ds cards : List ℕ) → length cards ≡ card_table_size → card_count cards < card_limit → length ds ≤ most_digits → (cards' : List ℕ) × CardAdded ds cards cards'
a_card ds cards size room few =
    let m = suc (card_count cards) in
    let row = (in_row ds).digits in
    let row_is = up_to_length (λ d. get_or ds d 0) most_digits in
    let long = byte_written (m * card_row_size + length_place) (length ds) cards (omega arith) in
    let t = row_written (m * card_row_size + digit_place 0) (length row) row (set cards (m * card_row_size + length_place) (length ds)) refl (omega (arith, long.size)) in
    (set _ 0 m, rw (in_row_lem ds few) at (card-added cards row _ m (length ds) refl (omega arith) size row_is few t))

a_rule : (row rules : List ℕ) → length rules ≡ rule_table_size → rule_count rules < rule_limit → length row ≡ rule_row_size → (rules' : List ℕ) × RuleAdded row rules rules'
a_rule row rules size room row_is =
    let n = suc (rule_count rules) in
    let t = row_written (n * rule_row_size) (length row) row rules refl (omega arith) in
    (set _ 0 n, rule-added rules row _ n refl (omega arith) size row_is t)

-- ---- a line: what is asked decides, and what is met can be added

-- each number is a reason's
abbrev Reasons : List Question → Type 0
Reasons [] = Unit {0}
Reasons (q ∷ qs) = ((reason : Reason) × (number_of reason ≡ q.number)) × Reasons qs

unmet : (qs : List Question) → Reasons qs → (first_unmet qs ≡ 0) ⊎ ((reason : Reason) × (number_of reason ≡ first_unmet qs))
unmet [] reasons = inl refl
unmet (q ∷ qs) reasons = go (unmet qs reasons.1) q.met
  where
    go : (first_unmet qs ≡ 0) ⊎ ((reason : Reason) × (number_of reason ≡ first_unmet qs)) → (x : Bool)
        → (cond x (first_unmet qs) q.number ≡ 0) ⊎ ((reason : Reason) × (number_of reason ≡ cond x (first_unmet qs) q.number))
    go rest true = rest
    go rest false = inr reasons.0

asks : (questions : List Question) (Added : List ℕ → Type 0) (t : List ℕ) → Reasons questions → (first_unmet questions ≡ 0 → (t' : List ℕ) × Added t')
    → (r : Result (Unit {0}) Reason) × (t' : List ℕ) × AddedUnless questions Added r t t'
asks questions Added t reasons add =
    ⊎_elim (λ z. let more = add z in (Ok tt, more.0, takes (sym z) more.1)) (λ named. (Err named.0, t, refuses named.1)) (unmet questions reasons)

-- the tables have their types' lengths
record Sized (t : Tables) : Type 0 where
  cards-size : length t.cards ≡ card_table_size
  rules-size : length t.rules ≡ rule_table_size

-- a table that a line leaves has the length that it had
kept-size : {questions : List Question} {Added : List ℕ → Type 0} {r : Result (Unit {0}) Reason} {t t' : List ℕ} → AddedUnless questions Added r t t'
    → ((u : List ℕ) → Added u → length u ≡ length t) → length t' ≡ length t
kept-size {r = Ok _} {t' = t'} h f = f t' h.added
kept-size {r = Err _} h f = ap length h.kept

module _ (w : List ℕ) (t : Tables) (sized : Sized t) where
  record Line : Type 0 where
    result : Result (Unit {0}) Reason
    next : Tables
    taken : LineTaken w t result next
    next-sized : Sized next

  card : get_or w 0 0 ≡ code "C" → Line
  card first =
      let asked = asks (card_questions (cards_of t.cards) w) (CardAdded (card_digits (card_read w)) t.cards) t.cards
      ((reason.NoForm, refl), ((reason.TooManyCards, refl), ((reason.BadCardNumber, refl), ((reason.CardRepeated, refl), tt)))) (λ z.
      let room = card-room (cards_of t.cards) w z in
      a_card (card_digits (card_read w)) t.cards sized.cards-size (omega (arith, room, how_many t.cards)) room.2) in
      record {
        result = asked.0;
        next = record { cards = asked.1; rules = t.rules };
        taken = card-line first (record { asked = asked.2 });
        next-sized = record { cards-size = kept-size asked.2 (λ u a. a.size) ∙ sized.cards-size; rules-size = sized.rules-size };
      }

  group : get_or w 0 0 ≡ code "G" → Line
  group first =
      let asked = asks (group_questions (card_count t.cards) w) (MemberAdded (group_of (get_or w 2 0)) (number_at w 4) t.cards) t.cards
      ((reason.NoForm, refl), ((reason.CardNotAbove, refl), tt)) (λ z.
      let j = group-room t.cards w z in
      (_, member_added (group_of (get_or w 2 0)) (number_at w 4) t.cards j.numbers.group-low j.numbers.group_high j.numbers.card-low j.card_high sized.cards-size)) in
      record {
        result = asked.0;
        next = record { cards = asked.1; rules = t.rules };
        taken = group-line first (record { asked = asked.2 });
        next-sized = record { cards-size = kept-size asked.2 (λ u a. a.size) ∙ sized.cards-size; rules-size = sized.rules-size };
      }

  rule : get_or w 0 0 ≡ code "R" → Line
  rule first =
      let asked = asks (rule_questions (card_count t.cards) (rule_count t.rules) w) (RuleAdded (row_of (form_said (rule_read w))) t.rules) t.rules
      ((reason.NoForm, refl), ((reason.CardNotAbove, refl), ((reason.TooManyRules, refl), tt))) (λ z.
      a_rule (row_of (form_said (rule_read w))) t.rules sized.rules-size (rule-room (card_count t.cards) t.rules w z).1 (row-length (rule_read w))) in
      record {
        result = asked.0;
        next = record { cards = t.cards; rules = asked.1 };
        taken = rule-line first (record { asked = asked.2 });
        next-sized = record { cards-size = sized.cards-size; rules-size = kept-size asked.2 (λ u a. a.size) ∙ sized.rules-size };
      }

  line : Line
  line = go (eqb (get_or w 0 0) (code "C")) (eqb (get_or w 0 0) (code "G")) (eqb (get_or w 0 0) (code "R")) refl refl refl
    where
      go : (x y z : Bool) → eqb (get_or w 0 0) (code "C") ≡ x → eqb (get_or w 0 0) (code "G") ≡ y → eqb (get_or w 0 0) (code "R") ≡ z → Line
      go true y z p q r = card (eqb-true (get_or w 0 0) (code "C") p)
      go false true z p q r = group (eqb-true (get_or w 0 0) (code "G") q)
      go false false true p q r = rule (eqb-true (get_or w 0 0) (code "R") r)
      go false false false p q r = record {
        result = Err reason.NoForm;
        next = t;
        taken = no_line (eqb-false (get_or w 0 0) (code "C") p) (eqb-false (get_or w 0 0) (code "G") q) (eqb-false (get_or w 0 0) (code "R") r);
        next-sized = sized;
      }

-- ---- the lines of a text

-- an answer is a refusal, or the book of some tables
data Held : Answer Book → Type 0 where
  held : (t : Tables) → Held (ok (tables_book t))
  not : (r : Refusal) → Held (refused (number_of r.reason) r.place)

-- a line leads to the next one, over the tables that it leaves
module _ (ws : List (List ℕ)) (last : List ℕ) (i : ℕ) where
  line_then : {w : List ℕ} {t : Tables} {sized : Sized t} (l : Line w t sized)
      → Held (open_lines (i + 1) (tables_book l.next) ws last) → Held (open_lines i (tables_book t) (w ∷ ws) last)
  unfolding open_lines
  line_then l rest = subst (λ (a : Answer Book). Held (and_then a (λ b. open_lines (i + 1) b ws last))) (l.taken.answer i) (go l.result)
    where
      go : (r : Result (Unit {0}) Reason) → Held (and_then (answer_of (tables_book l.next) (placed i r)) (λ b. open_lines (i + 1) b ws last))
      go (Ok _) = rest
      go (Err reason) = not (record { reason = reason; place = i })

lines : (ws : List (List ℕ)) (last : List ℕ) (i : ℕ) (t : Tables) → Sized t → Held (open_lines i (tables_book t) ws last)
unfolding open_lines
lines [] last i t sized = go (eqb (length last) 0)
  where
    go : (x : Bool) → Held (cond x (ok (tables_book t)) (refused 2 i))
    go true = held t
    go false = not (record { reason = reason.NoForm; place = i })
lines (w ∷ ws) last i t sized =
    let l = line w t sized in
    line_then ws last i l (lines ws last (i + 1) l.next l.next-sized)

opens : (text : List ℕ) → Held (opening text)
unfolding opening
opens text = go (leb (length text) text_limit)
  where
    go : (x : Bool) → Held (cond x (open_lines 1 no_book (cut text).lines (cut text).last) (refused 1 0))
    go true = rw no_tables_lem at (lines (cut text).lines (cut text).last 1 no_tables (record { cards-size = refl; rules-size = refl }))
    go false = not (record { reason = reason.TextTooLong; place = 0 })

-- a reading of a text with this answer
reading : {text : List ℕ} {a : Answer Book} → Held a → opening text ≡ a → (r : Result Tables Refusal) × Reads r text
reading (held t) e = (Ok t, reads_done e)
reading (not r) e = (Err r, reads_refused e)

pub text_reads : EveryTextReads
text_reads text = reading (opens text) refl
