-- The cards and kinds that there are.
use Rattle.std.specs.Prelude.{ℕ, ◌≤◌}
use Rattle.model.specs.Limits.{card_limit, kind_count}

-- one of 32 cards and one of 16 kinds
pub record Ranged (c k : ℕ) : Type 0 where
  pub c_low : 1 ≤ c
  pub c_high : c ≤ card_limit
  pub k_low : 1 ≤ k
  pub k_high : k ≤ kind_count
