-- The two tables read as a book. The view is total: it gives a book for every value of the tables, so that no contract over them
-- needs a condition. Counts past their limit are cut to it, a card has 12 to 19 digits, a variable is taken modulo 8.
use Rattle.std.specs.Prelude.{Bool, not, ◌&&◌, cond, List, ℕ, suc, ◌%◌, min, max, eqb, ltb, get_or}
use Rattle.model.specs.Limits.{card_limit, rule_limit, group_count, variable_count, price_limit, condition_limit, least_digits, most_digits}
use Rattle.model.specs.Lists.{within, up_to}
use Rattle.model.specs.Grammar.{Name, var, star, Price, Condition, in_group, same_issuer, Rule}
use Rattle.model.specs.Book.{Book}
use Rattle.rulebook.specs.declared.Tables.{Tables}
use Rattle.rulebook.specs.Layout.{count_place, card_byte, length_place, digit_place, group_place, row_at, owner_place, kind_place, head_place, price_count_place, condition_count_place}
use Rattle.rulebook.specs.Layout.{price_giver_place, price_kind_place, price_receiver_place, group_asked_place, first_name_place, second_name_place}

-- ---- cards

unfoldable pub card_count : List ℕ → ℕ
card_count cards = min (get_or cards count_place 0) card_limit

-- how many digits card m has
abbrev pub card_length : List ℕ → ℕ → ℕ
card_length cards m = max least_digits (min (card_byte cards m length_place) most_digits)

-- digit d of card m, from 0
abbrev pub digit_at : List ℕ → ℕ → ℕ → ℕ
digit_at cards m d = card_byte cards m (digit_place d)

unfoldable pub card_view : List ℕ → ℕ → List ℕ
card_view cards m = up_to (digit_at cards m) (card_length cards m)

abbrev pub cards_of : List ℕ → List (List ℕ)
cards_of cards = up_to (λ i. card_view cards (suc i)) (card_count cards)

-- card m is in group g
unfoldable pub member_view : List ℕ → ℕ → ℕ → Bool
member_view cards g m = (within g group_count && within m card_limit) && not (eqb (card_byte cards m (group_place g)) 0)

-- ---- a rule's row

abbrev pub row_owner : List ℕ → ℕ
row_owner row = get_or row owner_place 0

abbrev pub row_kind : List ℕ → ℕ
row_kind row = get_or row kind_place 0

abbrev pub row_head : List ℕ → ℕ
row_head row = get_or row head_place 0 % variable_count

abbrev pub row_price_count : List ℕ → ℕ
row_price_count row = min (get_or row price_count_place 0) price_limit

abbrev pub row_condition_count : List ℕ → ℕ
row_condition_count row = min (get_or row condition_count_place 0) condition_limit

-- price i: its giver's variable, its kind, its receiver's name
abbrev pub price_giver : List ℕ → ℕ → ℕ
price_giver row i = get_or row (price_giver_place i) 0 % variable_count

abbrev pub price_kind : List ℕ → ℕ → ℕ
price_kind row i = get_or row (price_kind_place i) 0

abbrev pub price_receiver : List ℕ → ℕ → ℕ
price_receiver row i = get_or row (price_receiver_place i) 0

-- condition i: its group, 0 for ` = z z`, and its two names; of ` ? g z` the second is z
abbrev pub group_asked : List ℕ → ℕ → ℕ
group_asked row i = get_or row (group_asked_place i) 0

abbrev pub first_name : List ℕ → ℕ → ℕ
first_name row i = get_or row (first_name_place i) 0

abbrev pub second_name : List ℕ → ℕ → ℕ
second_name row i = get_or row (second_name_place i) 0

-- a to h are 0 to 7, `*` any other byte
unfoldable pub name_view : ℕ → Name
name_view y = cond (ltb y variable_count) (var y) star

unfoldable pub price_view : List ℕ → ℕ → Price
price_view row i = record { from = price_giver row i; kind = price_kind row i; to = name_view (price_receiver row i) }

unfoldable pub condition_view : List ℕ → ℕ → Condition
condition_view row i =
    cond (eqb (group_asked row i) 0)
    (same_issuer (name_view (first_name row i)) (name_view (second_name row i)))
    (in_group (group_asked row i) (name_view (second_name row i)))

unfoldable pub rule_view : List ℕ → Rule
rule_view row = record {
  owner = row_owner row;
  kind = row_kind row;
  head = row_head row;
  prices = up_to (price_view row) (row_price_count row);
  conditions = up_to (condition_view row) (row_condition_count row);
}

-- ---- rules

unfoldable pub rule_count : List ℕ → ℕ
rule_count rules = min (get_or rules count_place 0) rule_limit

abbrev pub rules_of : List ℕ → List Rule
rules_of rules = up_to (λ i. rule_view (row_at rules (suc i))) (rule_count rules)

-- ---- the book

unfoldable pub book_of : List ℕ → List ℕ → Book
book_of cards rules = record { cards = cards_of cards; member = member_view cards; rules = rules_of rules }

abbrev pub tables_book : Tables → Book
tables_book t = book_of t.cards t.rules
