-- What follows a card line's space.
use Rattle.std.specs.Prelude.{Option, Some, None, if◌then◌else◌, false, List, ℕ}
use Rattle.model.specs.Reader.{in_printed_groups, printed_groups}
use Rattle.model.specs.Opening.{card_digits}
use Rattle.forms.specs.Numbers.{in_row}
use Rattle.forms.specs.declared.cards.CardLine.{CardLine}

-- what bytes in printed groups say
abbrev pub word_in : List ℕ → Option CardLine
word_in s = if in_printed_groups false s then Some (in_row (card_digits (printed_groups s))) else None
