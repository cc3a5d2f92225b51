-- A rule's row under the cards of a proof record: what questions 17 to 19 ask of the bytes. Loops are proved against these tests; that
-- they are the model's is in proofs/Letters.antt and proofs/Issuers.antt.
use Rattle.std.specs.Prelude.{◌≡◌, Option, Some, None, unwrap_or, Bool, false, ◌&&◌, ◌||◌, cond, List, [], ℕ, ◌<◌, eqb, length, get_or}
use Rattle.model.specs.Limits.{variable_count, prefix_length}
use Rattle.model.specs.Lists.{within, every, any, up_to, eq_list}
use Rattle.model.specs.Transfers.{Transfer}
use Rattle.model.specs.Fairness.{card_of, is_payable}
use Rattle.model.specs.Proof.{cards}
use Rattle.letters.specs.Letters.{name_meant}
use Rattle.letters.specs.declared.names.Name.{Name}
use Rattle.letters.specs.declared.names.Name.TheVariants as said
use Rattle.forms.specs.declared.rules.Price.{Price}
use Rattle.forms.specs.declared.rules.Condition.{Condition}
use Rattle.forms.specs.declared.rules.Condition.TheVariants.{InGroup, SameIssuer}
use Rattle.rulebook.specs.View.{card_count, digit_at, member_view, row_owner, row_head, row_price_count, row_condition_count}
use Rattle.rulebook.specs.Rows.{price_at, condition_at}

-- 0, 1, .., n - 1
abbrev pub below : ℕ → List ℕ
below n = up_to (λ i. i) n

-- the card of a name in the row
abbrev pub card_named : List ℕ → List ℕ → Name → ℕ
card_named row r z = card_of (row_owner row) (cards r) (name_meant z)

-- ---- question 17

-- variable v is the name; is in price i, in condition i, in the rule
abbrev pub is_name : ℕ → Name → Bool
is_name v (said.Variable u) = eqb v u.number
is_name v (said.Owner) = false

abbrev pub is_in_price : ℕ → Price → Bool
is_in_price v p = eqb v p.giver.number || is_name v p.receiver

abbrev pub in_price : List ℕ → ℕ → ℕ → Bool
in_price row v i = is_in_price v (price_at row i)

abbrev pub is_named : ℕ → Condition → Bool
is_named v (InGroup g z) = is_name v z
is_named v (SameIssuer y z) = is_name v y || is_name v z

abbrev pub in_condition : List ℕ → ℕ → ℕ → Bool
in_condition row v i = is_named v (condition_at row i)

unfoldable pub in_rule : List ℕ → ℕ → Bool
in_rule row v = eqb v (row_head row) || (any (in_price row v) (below (row_price_count row)) || any (in_condition row v) (below (row_condition_count row)))

-- the marks of a to h before and after the variables that pass the test are marked
pub record Marks (p : ℕ → Bool) (before after : List Bool) : Type 0 where
  pub size : length after ≡ length before
  pub each : (v : ℕ) → v < variable_count → get_or after v false ≡ (get_or before v false || p v)

-- marked are the variables that the rule uses
pub record Used (row : List ℕ) (marks : List Bool) : Type 0 where
  pub size : length marks ≡ variable_count
  pub each : (v : ℕ) → v < variable_count → get_or marks v false ≡ in_rule row v

-- a used variable is one of n declared cards, an unused one is zero
unfoldable pub variable_fits : ℕ → List ℕ → List ℕ → ℕ → Bool
variable_fits n row r v = cond (in_rule row v) (within (cards r v) n) (eqb (cards r v) 0)

-- the question itself; the claimed transfer has the given receiver
unfoldable pub cards_fit : ℕ → List ℕ → List ℕ → ℕ → Bool
cards_fit n row r receiver =
    (eqb (get_or r 3 0) 0 && eqb (cards r (row_head row)) receiver) && every (variable_fits n row r) (below variable_count)

-- ---- question 18

-- the transfer that a price asks, and that price i asks
abbrev pub asked_by : List ℕ → List ℕ → Price → Transfer
asked_by row r p = record { giver = cards r p.giver.number; kind = p.kind; receiver = card_named row r p.receiver }

abbrev pub price_asked : List ℕ → List ℕ → ℕ → Transfer
price_asked row r i = asked_by row r (price_at row i)

abbrev pub prices_asked : List ℕ → List ℕ → List Transfer
prices_asked row r = up_to (price_asked row r) (row_price_count row)

abbrev pub all_payable : List ℕ → List ℕ → Bool
all_payable row r = every (is_payable (row_owner row)) (prices_asked row r)

-- ---- question 19

-- the issuer prefix of card m, if it is declared
unfoldable pub prefix_of : List ℕ → ℕ → Option (List ℕ)
prefix_of table m = cond (within m (card_count table)) (Some (up_to (digit_at table m) prefix_length)) None

-- cards a and b have the same issuer prefix; the prefix of an undeclared card is empty
abbrev pub same_prefix_of : List ℕ → ℕ → ℕ → Bool
same_prefix_of table a b = eq_list (unwrap_or (prefix_of table a) []) (unwrap_or (prefix_of table b) [])

abbrev pub condition_holds : List ℕ → List ℕ → List ℕ → Condition → Bool
condition_holds table row r (InGroup g z) = member_view table g (card_named row r z)
condition_holds table row r (SameIssuer y z) = same_prefix_of table (card_named row r y) (card_named row r z)

abbrev pub all_hold : List ℕ → List ℕ → List ℕ → Bool
all_hold table row r = every (λ i. condition_holds table row r (condition_at row i)) (below (row_condition_count row))
