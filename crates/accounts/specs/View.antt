-- The 512 holdings as the definitions see them: a holding for each of 32 cards and 16 kinds.
use Rattle.std.specs.Prelude.{◌&&◌, cond, List, ℕ, suc, ◌+◌, ◌-◌, ◌*◌, ◌/◌, ◌%◌, get_or}
use Rattle.model.specs.Limits.{card_limit, kind_count, holding_count}
use Rattle.model.specs.Lists.{within, up_to}
use Rattle.model.specs.Holdings.{State}

-- where card c's holding of kind k is
abbrev pub place_of : ℕ → ℕ → ℕ
place_of c k = (c - 1) * kind_count + (k - 1)

unfoldable pub state_from : List ℕ → State
state_from holdings = record { held = λ c k. cond (within c card_limit && within k kind_count) (get_or holdings (place_of c k) 0) 0 }

-- and back: the 512 numbers of a state, "card m, kind k at (m − 1) × 16 + k − 1"
unfoldable pub numbers_of : State → List ℕ
numbers_of s = up_to (λ i. s.held (suc (i / kind_count)) (suc (i % kind_count))) holding_count
