-- What a line's form gives, and what the first question that is not met leaves.
use mathlib.Core.Path.{◌≡◌, refl}
use mathlib.Core.Bool.{Bool, true, false, ◌&&◌, cond}
use mathlib.Core.List.{List}
use Prim.Native.Nat.{ℕ, suc, ◌+◌, ◌*◌, ◌-◌, ◌≤◌, ◌<◌}
use native.Mathlib.Omega.{arith}
use lib.Dec.{eqb, leb, ltb}
use lib.ListN.{length, get_or}
use borrow.Author.Tests.{lt-ltb, le-ltb, le-leb, leb-true}
use Rattle.model.specs.Limits.{least_digits, most_digits}
use Rattle.model.specs.Lists.{any, eq_list}
use Rattle.model.specs.Questions.{Question, first_unmet}
use Rattle.model.specs.CardNumbers.{luhn}
use Rattle.model.specs.Reader.{group_of, digit_of, width_of, number_of, number_width, number_at, space_at, is_card_line}
use Rattle.model.specs.Reader.{card_read, is_group_line, has_head, owner_end, rule_end, is_rule_line, rule_read, kind_of, variable_of}
use Rattle.model.specs.Opening.{card_digits, is_card_number}
use Rattle.model.proofs.Tests.{both_true}
use Rattle.model.proofs.Places.{up_to_length}
use Rattle.answers.specs.View as answers
use Rattle.answers.specs.declared.Reason.{Reason}
use Rattle.answers.specs.declared.Reason.TheVariants.{TooManyCards, BadCardNumber, CardRepeated, TooManyRules}
use Rattle.std.specs.Prelude.{Ok, Err}
use Rattle.rulebook.specs.View.{card_count, rule_count, card_view, cards_of}
use Rattle.forms.specs.Forms.{form_said}
use Rattle.rulebook.specs.inner.Rows.{row_of}
use Rattle.rulebook.specs.inner.Lines.{AddedUnless, CardTaken, GroupTaken, RuleTaken}
use Rattle.rulebook.specs.inner.Writes.{CardAdded, MemberAdded, RuleAdded}

-- ---- what a form gives

pub number_size : (ds : List ℕ) → is_card_number ds ≡ true → (least_digits ≤ length ds) × (length ds ≤ most_digits)
number_size ds h =
    let a = both_true (leb least_digits (length ds) && leb (length ds) most_digits) (luhn ds) h in
    let b = both_true (leb least_digits (length ds)) (leb (length ds) most_digits) a.0 in
    (leb-true least_digits (length ds) b.0, leb-true (length ds) most_digits b.1)

pub group_small : (x : ℕ) → group_of x ≤ 8
unfolding group_of
group_small x = go (leb 49 x) (leb x 56) refl
  where
    go : (a b : Bool) → leb x 56 ≡ b → cond (a && b) (x - 48) 0 ≤ 8
    go true true e = let l = leb-true x 56 e in omega arith
    go true false e = omega arith
    go false b e = omega arith

number-low : (d e : ℕ) → 1 ≤ width_of d e → 1 ≤ number_of d e
unfolding width_of number_of
number-low d e l = go (leb 1 d) (leb d 9) (leb e 9) refl l
  where
    go : (a b f : Bool) → leb 1 d ≡ a → 1 ≤ cond (a && b) (cond f 2 1) 0 → 1 ≤ cond f (d * 10 + e) d
    go true b true p l = let k = leb-true 1 d p in omega arith
    go true b false p l = leb-true 1 d p
    go false b f p l = absurd (omega arith)

number_at_low : (w : List ℕ) (p : ℕ) → leb 1 (number_width w p) ≡ true → 1 ≤ number_at w p
unfolding number_width number_at
number_at_low w p h = number-low (digit_of (get_or w p 0)) (digit_of (get_or w (p + 1) 0)) (leb-true 1 _ h)

-- a group line's numbers
pub record Grouped (w : List ℕ) : Type 0 where
  pub group-low : 1 ≤ group_of (get_or w 2 0)
  pub group_high : group_of (get_or w 2 0) ≤ 8
  pub card-low : 1 ≤ number_at w 4

pub grouped : (w : List ℕ) → is_group_line w ≡ true → Grouped w
unfolding is_group_line
grouped w h =
    let g = leb 1 (group_of (get_or w 2 0)) in
    let n = leb 1 (number_width w 4) in
    let end = eqb (4 + number_width w 4) (length w) in
    let a = both_true (space_at w 1) (g && (space_at w 3 && (n && end))) h in
    let b = both_true g (space_at w 3 && (n && end)) a.1 in
    let d = both_true n end (both_true (space_at w 3) (n && end) b.1).1 in
    record { group-low = leb-true 1 _ b.0; group_high = group_small (get_or w 2 0); card-low = number_at_low w 4 d.0 }

pub headed : (w : List ℕ) → is_rule_line w ≡ true → has_head w ≡ true
unfolding is_rule_line
headed w h = (both_true (has_head w) (eqb (rule_end w) (length w)) h).0

owner-low : (w : List ℕ) → is_rule_line w ≡ true → 1 ≤ (rule_read w).owner
unfolding has_head rule_read
owner-low w h =
    let v = ltb (variable_of (get_or w (owner_end w + 3) 0)) 8 in
    let k = leb 1 (kind_of (get_or w (owner_end w + 1) 0)) in
    let rest = space_at w (owner_end w) && (k && (space_at w (owner_end w + 2) && v)) in
    let a = both_true (space_at w 1) (leb 1 (number_width w 2) && rest) (headed w h) in
    number_at_low w 2 (both_true (leb 1 (number_width w 2)) rest a.1).0

-- ---- what a question that is not met leaves, and a line that meets all

pub refuses : {questions : List Question} {Added : List ℕ → Type 0} {reason : Reason} {t : List ℕ} → answers.number_of reason ≡ first_unmet questions
    → AddedUnless questions Added (Err reason) t t
refuses e = record { first = e; added = tt; kept = refl }

pub takes : {questions : List Question} {Added : List ℕ → Type 0} {t t' : List ℕ} → 0 ≡ first_unmet questions → Added t' → AddedUnless questions Added (Ok tt) t t'
takes e a = record { first = e; added = a; kept = tt }

-- ---- a card line

pub how_many : (cards : List ℕ) → length (cards_of cards) ≡ card_count cards
how_many cards = up_to_length (λ i. card_view cards (suc i)) (card_count cards)

module _ {w cards : List ℕ} (formed : is_card_line w ≡ true) where
  pub cards_full : 32 ≤ card_count cards → CardTaken w cards (Err TooManyCards) cards
  cards_full l = record { asked = refuses (rw (formed, how_many cards, le-ltb (card_count cards) 32 l)) }

  module _ (room : card_count cards < 32) where
    pub card_wrong : is_card_number (card_digits (card_read w)) ≡ false → CardTaken w cards (Err BadCardNumber) cards
    card_wrong e = record { asked = refuses (rw (formed, how_many cards, lt-ltb (card_count cards) 32 room, e)) }

    module _ (number : is_card_number (card_digits (card_read w)) ≡ true) where
      pub card-repeated : any (eq_list (card_digits (card_read w))) (cards_of cards) ≡ true → CardTaken w cards (Err CardRepeated) cards
      card-repeated e = record { asked = refuses (rw (formed, how_many cards, lt-ltb (card_count cards) 32 room, number, e)) }

      pub card-taken : any (eq_list (card_digits (card_read w))) (cards_of cards) ≡ false → {cards' : List ℕ} → CardAdded (card_digits (card_read w)) cards cards' → CardTaken w cards (Ok tt) cards'
      card-taken e a = record { asked = takes (rw (formed, how_many cards, lt-ltb (card_count cards) 32 room, number, e)) a }

-- ---- a group line

module _ {w cards : List ℕ} (formed : is_group_line w ≡ true) where
  pub group-taken : number_at w 4 ≤ card_count cards → {cards' : List ℕ} → MemberAdded (group_of (get_or w 2 0)) (number_at w 4) cards cards' → GroupTaken w cards (Ok tt) cards'
  group-taken l a = record { asked = takes (rw (formed, le-leb 1 (number_at w 4) (grouped w formed).card-low, le-leb (number_at w 4) (card_count cards) l)) a }

-- ---- a rule line

module _ {w : List ℕ} {cards : ℕ} {rules : List ℕ} (formed : is_rule_line w ≡ true) (above : (rule_read w).owner ≤ cards) where
  pub rules_full : 56 ≤ rule_count rules → RuleTaken w cards rules (Err TooManyRules) rules
  rules_full l =
      record { asked = refuses (rw (formed, le-leb 1 (rule_read w).owner (owner-low w formed), le-leb (rule_read w).owner cards above, le-ltb (rule_count rules) 56 l)) }

  pub rule-taken : rule_count rules < 56 → {rules' : List ℕ} → RuleAdded (row_of (form_said (rule_read w))) rules rules' → RuleTaken w cards rules (Ok tt) rules'
  rule-taken l a = record { asked = takes (rw (formed, le-leb 1 (rule_read w).owner (owner-low w formed), le-leb (rule_read w).owner cards above, lt-ltb (rule_count rules) 56 l)) a }
