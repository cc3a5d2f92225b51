-- How many cards and rules the tables' book has.
use mathlib.Core.Path.{◌≡◌, refl, ◌∙◌}
use mathlib.Core.List.{List}
use Prim.Native.Nat.{ℕ, suc, ◌≤◌, min}
use native.Mathlib.Omega.{arith}
use lib.ListN.{length}
use Rattle.model.specs.Limits.{card_limit, rule_limit}
use Rattle.model.proofs.Places.{up_to_length}
use Rattle.rulebook.specs.Layout.{row_at}
use Rattle.rulebook.specs.View.{card_count, rule_count, card_view, cards_of, rule_view, book_of}

pub count_small : (cards : List ℕ) → card_count cards ≤ card_limit
unfolding card_count
count_small cards = omega arith

pub rules_small : (rules : List ℕ) → rule_count rules ≤ rule_limit
unfolding rule_count
rules_small rules = omega arith

module _ (cards rules : List ℕ) where
  pub cards_are : (book_of cards rules).cards ≡ cards_of cards
  unfolding book_of
  cards_are = refl

  pub card-count : length (book_of cards rules).cards ≡ card_count cards
  unfolding book_of
  card-count = up_to_length (λ i. card_view cards (suc i)) (card_count cards)

  -- as many as a count that is cut once more
  pub declares : length (book_of cards rules).cards ≡ min (card_count cards) card_limit
  declares = card-count ∙ omega (arith, count_small cards)

  pub rule-count : length (book_of cards rules).rules ≡ rule_count rules
  unfolding book_of
  rule-count = up_to_length (λ i. rule_view (row_at rules (suc i))) (rule_count rules)
