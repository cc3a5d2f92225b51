-- Card lines and card numbers as the program holds them.
use Rattle.std.specs.Prelude.{Option, Some, None, if◌then◌else◌, Bool, ◌&&◌, List, ℕ, leb, length, get_or, take}
use Rattle.model.specs.Limits.{most_digits}
use Rattle.model.specs.Lists.{up_to}
use Rattle.model.specs.Reader.{is_card_line, card_read}
use Rattle.model.specs.Opening.{card_digits, is_card_number}
use Rattle.forms.specs.declared.cards.CardLine.{CardLine}
use Rattle.forms.specs.declared.numbers.CardNumber.{CardNumber}

-- these digits: how many there are, and the first 19, zeros after the last
abbrev pub in_row : List ℕ → CardLine
in_row ds = record { count = length ds; digits = up_to (λ d. get_or ds d 0) most_digits }

-- what a line says that has a card line's form
abbrev pub card_line_in : List ℕ → Option CardLine
card_line_in w = if is_card_line w then Some (in_row (card_digits (card_read w))) else None

-- question 4
unfoldable pub is_number_in : CardLine → Bool
is_number_in n = leb n.count most_digits && is_card_number (take n.count n.digits)

abbrev pub digits_in : CardNumber → List ℕ
digits_in n = take n.count n.digits
