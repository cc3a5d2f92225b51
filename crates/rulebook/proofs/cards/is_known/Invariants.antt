-- The first i cards are unlike the number's digits. Card i + 1 is told from them by its first digit that differs, or by its length; otherwise
-- it is equal.
use mathlib.Core.Path.{◌≡◌}
use mathlib.Core.Bool.{false}
use Prim.Native.Nat.{ℕ, suc, ◌<◌}
use lib.ListN.{get_or}
use Rattle.forms.specs.Numbers.{digits_in}
use Rattle.rulebook.specs.View.{digit_at}
use Rattle.rulebook.proofs.Known.{Unlike}
use Rattle.rulebook.proofs.cards.is_known.Given as goal

abbrev pub invariant-loop-d : goal.invariant-loop-d
invariant-loop-d l = (k : ℕ) → k < l.d → k < l.fn.number.count → digit_at l.cards (suc l.i) k ≡ get_or l.fn.number.digits k 0

abbrev pub invariant-cards : goal.invariant-cards
invariant-cards l = Unlike l.cards (digits_in l.fn.number) l.i × (l.known ≡ false)
