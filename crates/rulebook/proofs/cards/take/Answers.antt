-- Each return is one case of the questions; what was asked before it is known from the branches that led there.
use mathlib.Core.Path.{◌≡◌, sym, ◌∙◌, ap, ap₂}
use mathlib.Core.Bool.{true, false, not}
use mathlib.Core.List.{List}
use Prim.Native.Nat.{ℕ, ◌<◌}
use native.Mathlib.Omega.{arith}
use lib.Dec.{T}
use lib.ListN.{take}
use Rattle.std.specs.Prelude.{Option, Some, None, Ok, Err, MatchOption}
use Rattle.std.specs.Option.{ok_or}
use Rattle.model.specs.Limits.{card_limit}
use Rattle.model.specs.Reader.{is_card_line, card_read}
use Rattle.model.specs.Opening.{card_digits, is_card_number}
use Rattle.model.proofs.Tests.{T-eq, not-T-eq}
use Rattle.answers.specs.declared.Reason.{Reason}
use Rattle.answers.specs.declared.Reason.TheVariants.{BadCardNumber}
use Rattle.answers.proofs.Exits.{exit}
use Rattle.forms.specs.Numbers.{in_row, digits_in, is_number_in}
use Rattle.forms.specs.declared.cards.CardLine.{CardLine}
use Rattle.forms.specs.declared.numbers.CardNumber.{CardNumber}
use Rattle.forms.proofs.Digits.{in_row_lem, number_is}
use Rattle.rulebook.specs.View.{card_count}
use Rattle.rulebook.proofs.Forms.{number_size, cards_full, card_wrong, card-repeated, card-taken}
use Rattle.rulebook.proofs.Entries.{card_said}
use Rattle.rulebook.proofs.cards.take.Goals as goal
use Rattle.rulebook.proofs.cards.take.Goals.{Else-card_count-ge-CARD_LIMIT, In_ok-number, In_ok-line}

abbrev card_of : In_ok-line → List ℕ
card_of c = card_digits (card_read c.args.line.now)

-- the line has the form, and says the line's digits
read : (c : In_ok-line) → (is_card_line c.args.line.now ≡ true) × (in_row (card_of c) ≡ c.in_ok-line.line)
read c = card_said c.args.line.now (sym c.card_line.ensures ∙ grind arith)

-- there is room
room : (c : Else-card_count-ge-CARD_LIMIT) → card_count c.args.cards.now < card_limit
room c = omega (arith, c.if-card_count-ge-CARD_LIMIT.false, c.card_count.ensures)

-- question 4 of the line is that of its digits
asked : (c : In_ok-line) → is_number_in c.in_ok-line.line ≡ is_card_number (card_of c)
asked c = ap is_number_in (sym (read c).1) ∙ number_is (card_of c)

-- what question 4 gives of a line
module _ (line : CardLine) (why : Reason) where
  abbrev Said : CardNumber → Type 0
  Said n = T (is_number_in line) × ((n.count ≡ line.count) × (n.digits ≡ line.digits))

  given : (o : Option CardNumber) (n : CardNumber) → MatchOption o (T (not (is_number_in line))) Said → Ok n ≡ ok_or o why → Said n
  given None n h e = cc
  given (Some m) n h e = let same : m ≡ n = cc in rw same at h

  denied : (o : Option CardNumber) (r : Reason) → MatchOption o (T (not (is_number_in line))) Said → Err r ≡ ok_or o why → (is_number_in line ≡ false) × (r ≡ why)
  denied None r h e = (not-T-eq _ h, cc)
  denied (Some m) r h e = cc

module _ (c : In_ok-number) where
  abbrev at : In_ok-line
  at = (goal.at.In_ok-number c).In_ok-line

  said : Said at.in_ok-line.line BadCardNumber c.in_ok-number.number
  said = given at.in_ok-line.line BadCardNumber c.number.result c.in_ok-number.number c.number.ensures (sym c.in_ok-number.was ∙ c.ok_or-2.ensures.value)

  numbered : is_card_number (card_of at) ≡ true
  numbered = sym (asked at) ∙ T-eq _ said.0

  same : digits_in c.in_ok-number.number ≡ take at.in_ok-line.line.count at.in_ok-line.line.digits
  same = ap₂ {C = List ℕ} take said.1.0 said.1.1

  digits : digits_in c.in_ok-number.number ≡ card_of at
  digits = rw (← (read at).1) at same ∙ in_row_lem (card_of at) (number_size (card_of at) numbered).1

-- ---- the goals
pub returns-then-card_count-ge-CARD_LIMIT : goal.returns-then-card_count-ge-CARD_LIMIT
returns-then-card_count-ge-CARD_LIMIT c =
    cards_full (read (goal.at.returns-then-card_count-ge-CARD_LIMIT c).In_ok-line).0 (omega (arith, c.if-card_count-ge-CARD_LIMIT.true, c.card_count.ensures))

pub returns-in_err-number : goal.returns-in_err-number
returns-in_err-number c =
    let at = goal.at.returns-in_err-number c in
    let (none, why) = denied at.In_ok-line.in_ok-line.line BadCardNumber c.number.result c.in_err-number.field-0.0 c.number.ensures (sym c.in_err-number.was ∙ c.ok_or-2.ensures.value) in
    rw (exit _ _ c.from_residual-in_err-number.ensures.1, why)
    (card_wrong (read at.In_ok-line).0 (room at.Else-card_count-ge-CARD_LIMIT) (sym (asked at.In_ok-line) ∙ none))

pub returns-then-is_known : goal.returns-then-is_known
returns-then-is_known c =
    let at = goal.at.returns-then-is_known c in
    card-repeated (read at.In_ok-line).0 (room at.Else-card_count-ge-CARD_LIMIT) (numbered at.In_ok-number)
    (rw (digits at.In_ok-number) at (sym c.is_known.ensures ∙ c.if-is_known.true))

pub returns : goal.returns
returns c =
    let at = goal.at.returns c in
    card-taken (read at.In_ok-line).0 (room at.Else-card_count-ge-CARD_LIMIT) (numbered at.In_ok-number)
    (rw (digits at.In_ok-number) at (sym c.is_known.ensures ∙ c.if-is_known.false)) (rw (digits at.In_ok-number) at c.add_card.ensures)
