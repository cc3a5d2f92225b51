-- Where the bytes of the two tables are. Each table is rows of bytes, one after the other: row 0 begins with the number of cards, or of
-- rules, and row n is card n's, or rule n's.
use Rattle.std.specs.Prelude.{List, ℕ, suc, ◌+◌, ◌*◌, get_or}
use Rattle.model.specs.Limits.{card_limit, rule_limit, group_count, most_digits}
use Rattle.model.specs.Lists.{up_to}

-- where row 0 of either table has its count
abbrev pub count_place : ℕ
count_place = 0

-- ---- the card table

abbrev pub card_row_size : ℕ
card_row_size = 1 + most_digits + group_count

abbrev pub card_table_size : ℕ
card_table_size = suc card_limit * card_row_size

-- byte j of row n
abbrev pub card_byte : List ℕ → ℕ → ℕ → ℕ
card_byte cards n j = get_or cards (n * card_row_size + j) 0

-- a card's row: how many digits it has, its digits from 0 on, and a byte for each group from 1 on
abbrev pub length_place : ℕ
length_place = 0

abbrev pub digit_place : ℕ → ℕ
digit_place d = 1 + d

abbrev pub group_place : ℕ → ℕ
group_place g = most_digits + g

-- ---- the rule table; the bytes of its row 0 after the first are spare

abbrev pub rule_row_size : ℕ
rule_row_size = 32

abbrev pub rule_table_size : ℕ
rule_table_size = suc rule_limit * rule_row_size

-- byte j of row n, and the row
abbrev pub rule_byte : List ℕ → ℕ → ℕ → ℕ
rule_byte rules n j = get_or rules (n * rule_row_size + j) 0

abbrev pub row_at : List ℕ → ℕ → List ℕ
row_at rules n = up_to (rule_byte rules n) rule_row_size

-- a rule's row: owner, kind, head, how many prices and conditions it has
abbrev pub owner_place : ℕ
owner_place = 0

abbrev pub kind_place : ℕ
kind_place = 1

abbrev pub head_place : ℕ
head_place = 2

abbrev pub price_count_place : ℕ
price_count_place = 3

abbrev pub condition_count_place : ℕ
condition_count_place = 4

-- then four prices of three bytes: giver, kind, receiver
abbrev pub entry_size : ℕ
entry_size = 3

abbrev pub price_giver_place : ℕ → ℕ
price_giver_place i = 5 + i * entry_size

abbrev pub price_kind_place : ℕ → ℕ
price_kind_place i = 6 + i * entry_size

abbrev pub price_receiver_place : ℕ → ℕ
price_receiver_place i = 7 + i * entry_size

-- and four conditions of three bytes: the group, or 0 for ` = z z`, and two names
abbrev pub group_asked_place : ℕ → ℕ
group_asked_place i = 17 + i * entry_size

abbrev pub first_name_place : ℕ → ℕ
first_name_place i = 18 + i * entry_size

abbrev pub second_name_place : ℕ → ℕ
second_name_place i = 19 + i * entry_size
