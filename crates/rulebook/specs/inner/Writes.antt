-- What a write leaves in a table.
use Rattle.std.specs.Prelude.{◌≡◌, List, ℕ, suc, ◌≤◌, ◌<◌, length, get_or}
use Rattle.model.specs.Limits.{most_digits}
use Rattle.rulebook.specs.Layout.{card_row_size, card_byte, length_place, digit_place, group_place, rule_row_size, rule_byte}
use Rattle.rulebook.specs.View.{card_count, digit_at, rule_count}

-- the digits ds are one card more
pub record CardAdded (ds cards cards' : List ℕ) : Type 0 where
  pub size : length cards' ≡ length cards
  pub count : card_count cards' ≡ suc (card_count cards)
  pub long : card_byte cards' (suc (card_count cards)) length_place ≡ length ds
  pub digits : (d : ℕ) → d < length ds → digit_at cards' (suc (card_count cards)) d ≡ get_or ds d 0
  pub others : (n j : ℕ) → 1 ≤ n → j < card_row_size → (n ≡ suc (card_count cards) → j < digit_place most_digits → ⊥) → card_byte cards' n j ≡ card_byte cards n j

-- card m is in group g
pub record MemberAdded (g m : ℕ) (cards cards' : List ℕ) : Type 0 where
  pub size : length cards' ≡ length cards
  pub count : card_count cards' ≡ card_count cards
  pub flag : card_byte cards' m (group_place g) ≡ 1
  pub others : (n j : ℕ) → j < card_row_size → (n ≡ m → j ≡ group_place g → ⊥) → card_byte cards' n j ≡ card_byte cards n j

-- the row is one rule more
pub record RuleAdded (row rules rules' : List ℕ) : Type 0 where
  pub size : length rules' ≡ length rules
  pub count : rule_count rules' ≡ suc (rule_count rules)
  pub bytes : (j : ℕ) → j < rule_row_size → rule_byte rules' (suc (rule_count rules)) j ≡ get_or row j 0
  pub others : (n j : ℕ) → 1 ≤ n → j < rule_row_size → (n ≡ suc (rule_count rules) → ⊥) → rule_byte rules' n j ≡ rule_byte rules n j
