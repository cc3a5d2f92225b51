-- A line's answer over the tables' book, and the tables that it leaves.
use mathlib.Core.Path.{◌≡◌, refl, sym, ◌∙◌, ap}
use mathlib.Core.Bool.{Bool, true, false, ◌&&◌, cond}
use mathlib.Core.List.{List, [], ◌∷◌}
use mathlib.Core.Option.{none, some}
use Prim.Native.Char.{code}
use Prim.Native.Nat.{ℕ, ◌≤◌, ◌<◌}
use native.Mathlib.Omega.{arith}
use lib.Dec.{T, eqb, leb, ltb}
use lib.ListN.{length, get_or}
use borrow.Author.Tests.{eq-eqb, ne_eqb, ltb-true, leb-true}
use Rattle.model.specs.Questions.{ok, refused, Question, ◌unless◌, in_order, first_unmet}
use Rattle.model.specs.Limits.{card_limit, rule_limit, least_digits, most_digits}
use Rattle.model.specs.Grammar.{Rule, Line, card, group, rule, well_formed}
use Rattle.model.proofs.Lines.{lines_read}
use Rattle.model.specs.Reader.{group_of, number_at, is_card_line, card_read, is_group_line, is_rule_line, rule_read, some_if, read_line}
use Rattle.model.specs.Book.{Book}
use Rattle.model.specs.Opening.{card_digits, is_card_number, line_questions, with_line, add_line, open_line}
use Rattle.model.proofs.Tests.{both_true}
use Rattle.model.proofs.Questions.{numbered, first_refuses}
use Rattle.std.specs.Prelude.{Result, Ok, Err, OnOk}
use Rattle.answers.specs.View.{answer_of, number_of, unmet_of, placed}
use Rattle.answers.specs.declared.Reason.{Reason}
use Rattle.answers.specs.declared.Reason.TheVariants.{NoForm}
use Rattle.answers.proofs.Numbers.{number_positive}
use Rattle.rulebook.specs.declared.Tables.{Tables}
use Rattle.rulebook.specs.View.{card_count, rule_count, cards_of, tables_book}
use Rattle.rulebook.specs.inner.Lines.{card_questions, group_questions, rule_questions, AddedUnless, CardTaken, GroupTaken, RuleTaken, LineTaken}
use Rattle.rulebook.proofs.Books.{cards_are, card-count, rule-count, count_small}
use Rattle.rulebook.proofs.Rows.{row-says}
use Rattle.rulebook.proofs.Bytes.{row-length}
use Rattle.rulebook.proofs.Grown.{card_grown, member_grown, rule_grown}
use Rattle.rulebook.proofs.Forms.{number_size, Grouped, grouped}

-- ---- the line's answer, by the first question that is not met

asked : (b : Book) (l : Line) → T (numbered (line_questions b l))
asked b (card ds) = tt
asked b (group g m) = tt
asked b (rule r) = tt

module _ (w : List ℕ) (t t' : Tables) (l : Line) (x : Bool) (is : read_line w ≡ some_if x l) where
  opened : (i : ℕ) → open_line i (tables_book t) w ≡ in_order ((2 unless x) ∷ line_questions (tables_book t) l) i (ok (with_line (tables_book t) l))
  unfolding open_line add_line
  opened i = rw (is, open_line) (go x)
    where
      go : (x : Bool) → elim (some_if x l) [ none ↦ refused 2 i | some l ↦ in_order (line_questions (tables_book t) l) i (ok (with_line (tables_book t) l)) ]
          ≡ in_order ((2 unless x) ∷ line_questions (tables_book t) l) i (ok (with_line (tables_book t) l))
      go true = refl
      go false = refl

  line-answer : (r : Result (Unit {0}) Reason) → unmet_of r ≡ first_unmet ((2 unless x) ∷ line_questions (tables_book t) l)
      → OnOk r (tables_book t' ≡ with_line (tables_book t) l) → LineTaken w t r t'
  line-answer r e h = record {
    answer = λ i.
        go i r _ _ e h ∙ sym (first_refuses ((2 unless x) ∷ line_questions (tables_book t) l) i (ok (with_line (tables_book t) l)) (asked (tables_book t) l)) ∙ sym (opened i);
  }
    where
      go : (i : ℕ) (r : Result (Unit {0}) Reason) {n : ℕ} (b b' : Book) → unmet_of r ≡ n → OnOk r (b' ≡ b) → answer_of b' (placed i r) ≡ cond (eqb n 0) (ok b) (refused n i)
      go i (Ok _) b b' e h = rw (sym e) (ap ok h)
      go i (Err reason) b b' e h = rw (sym e, ne_eqb (number_of reason) 0 (λ z. omega (arith, number_positive reason, z)))

-- what is said of a line that is taken
taken-as : {questions : List Question} {Added : List ℕ → Type 0} {r : Result (Unit {0}) Reason} {t t' : List ℕ} {P : Type 0} → AddedUnless questions Added r t t'
    → (first_unmet questions ≡ 0 → Added t' → P) → OnOk r P
taken-as {r = Ok _} h f = f (sym h.first) h.added
taken-as {r = Err _} h f = tt

met : (n : ℕ) (x : Bool) (rest : ℕ) → 1 ≤ n → cond x rest n ≡ 0 → (x ≡ true) × (rest ≡ 0)
met n true rest l e = (refl, e)
met n false rest l e = absurd (omega (arith, l, e))

-- ---- the three forms

card_reads : (w : List ℕ) → get_or w 0 0 ≡ code "C" → read_line w ≡ some_if (is_card_line w) (card (card_read w))
unfolding read_line
card_reads w e = rw (eq-eqb (get_or w 0 0) (code "C") e)

group_reads : (w : List ℕ) → get_or w 0 0 ≡ code "G" → read_line w ≡ some_if (is_group_line w) (group (group_of (get_or w 2 0)) (number_at w 4))
unfolding read_line
group_reads w e = rw (ne_eqb (get_or w 0 0) (code "C") (λ z. omega (arith, z, e)), eq-eqb (get_or w 0 0) (code "G") e)

rule_reads : (w : List ℕ) → get_or w 0 0 ≡ code "R" → read_line w ≡ some_if (is_rule_line w) (rule (rule_read w))
unfolding read_line
rule_reads w e =
    rw (
      ne_eqb (get_or w 0 0) (code "C") (λ z. omega (arith, z, e)),
      ne_eqb (get_or w 0 0) (code "G") (λ z. omega (arith, z, e)),
      eq-eqb (get_or w 0 0) (code "R") e,
    )

rule_formed : (w : List ℕ) → get_or w 0 0 ≡ code "R" → is_rule_line w ≡ true → T (well_formed (rule (rule_read w)))
rule_formed w first formed = ((lines_read w (rule (rule_read w))).0 (rw (rule_reads w first, formed) refl)).1

-- what questions 3 and 4 say of a card that is taken
pub card-room : (cards : List (List ℕ)) (w : List ℕ) → first_unmet (card_questions cards w) ≡ 0
    → (length cards < card_limit) × (least_digits ≤ length (card_digits (card_read w))) × (length (card_digits (card_read w)) ≤ most_digits)
card-room cards w e =
    let a = met 2 (is_card_line w) _ (omega arith) e in
    let b = met 3 (ltb (length cards) card_limit) _ (omega arith) a.1 in
    let size = number_size (card_digits (card_read w)) (met 4 (is_card_number (card_digits (card_read w))) _ (omega arith) b.1).0 in
    (ltb-true (length cards) card_limit b.0, size.0, size.1)

-- what questions 2 and 6 say of a group line that is taken
pub record Joined (cards w : List ℕ) : Type 0 where
  pub numbers : Grouped w
  pub card_high : number_at w 4 ≤ card_limit

pub group-room : (cards w : List ℕ) → first_unmet (group_questions (card_count cards) w) ≡ 0 → Joined cards w
group-room cards w e =
    let a = met 2 (is_group_line w) _ (omega arith) e in
    let b = met 6 (leb 1 (number_at w 4) && leb (number_at w 4) (card_count cards)) 0 (omega arith) a.1 in
    let above = leb-true (number_at w 4) (card_count cards) (both_true (leb 1 (number_at w 4)) _ b.0).1 in
    record { numbers = grouped w a.0; card_high = omega (arith, above, count_small cards) }

-- what questions 2 and 7 say of a rule line that is taken
pub rule-room : (cards : ℕ) (rules w : List ℕ) → first_unmet (rule_questions cards (rule_count rules) w) ≡ 0 → (is_rule_line w ≡ true) × (rule_count rules < rule_limit)
rule-room cards rules w e =
    let a = met 2 (is_rule_line w) _ (omega arith) e in
    let b = met 6 (leb 1 (rule_read w).owner && leb (rule_read w).owner cards) _ (omega arith) a.1 in
    (a.0, ltb-true (rule_count rules) rule_limit (met 7 (ltb (rule_count rules) rule_limit) 0 (omega arith) b.1).0)

-- ---- a line's answer, by its first letter

module _ {w : List ℕ} {t : Tables} where
  pub card-line : get_or w 0 0 ≡ code "C" → {r : Result (Unit {0}) Reason} {cards' : List ℕ} → CardTaken w t.cards r cards'
      → LineTaken w t r (record { cards = cards'; rules = t.rules })
  card-line first {r} h =
      line-answer w t _ (card (card_read w)) (is_card_line w) (card_reads w first) r (rw (cards_are t.cards t.rules) h.asked.first)
      (taken-as h.asked (λ z a. let room = card-room (cards_of t.cards) w z in card_grown (card_read w) a room.1 room.2 t.rules))

  pub group-line : get_or w 0 0 ≡ code "G" → {r : Result (Unit {0}) Reason} {cards' : List ℕ} → GroupTaken w t.cards r cards'
      → LineTaken w t r (record { cards = cards'; rules = t.rules })
  group-line first {r} h =
      line-answer w t _ (group (group_of (get_or w 2 0)) (number_at w 4)) (is_group_line w) (group_reads w first) r (rw (card-count t.cards t.rules) h.asked.first)
      (taken-as h.asked (λ z a. let j = group-room t.cards w z in member_grown j.numbers.group-low j.numbers.group_high j.numbers.card-low j.card_high a t.rules))

  pub rule-line : get_or w 0 0 ≡ code "R" → {r : Result (Unit {0}) Reason} {rules' : List ℕ} → RuleTaken w (card_count t.cards) t.rules r rules'
      → LineTaken w t r (record { cards = t.cards; rules = rules' })
  rule-line first {r} h =
      line-answer w t _ (rule (rule_read w)) (is_rule_line w) (rule_reads w first) r
      (rw (card-count t.cards t.rules, rule-count t.cards t.rules) h.asked.first)
      (taken-as h.asked
      (λ z a.
      let formed = (rule-room (card_count t.cards) t.rules w z).0 in
      rule_grown a (row-length (rule_read w)) t.cards ∙ ap (λ (x : Rule). with_line (tables_book t) (rule x)) (row-says (rule_read w) (rule_formed w first formed))))

  -- any other first letter
  pub no_line : (get_or w 0 0 ≡ code "C" → ⊥) → (get_or w 0 0 ≡ code "G" → ⊥) → (get_or w 0 0 ≡ code "R" → ⊥) → LineTaken w t (Err NoForm) t
  unfolding read_line
  no_line a b d =
      line-answer w t t (card []) false
      (rw (ne_eqb (get_or w 0 0) (code "C") a, ne_eqb (get_or w 0 0) (code "G") b, ne_eqb (get_or w 0 0) (code "R") d)) (Err NoForm) refl tt
