-- What is noted along a chain of records.
use Rattle.std.specs.Prelude.{◌≡◌, Bool, true, false, not, ◌||◌, List, ℕ, ◌-◌, ◌≤◌, replicate, set}
use Rattle.model.specs.Limits.{rule_limit, price_limit}
use Rattle.model.specs.Transfers as model
use Rattle.model.specs.Proof.{claim, rule_number}
use Rattle.rulebook.specs.Layout.{row_at}
use Rattle.transfers.specs.View.{list_size}
use Rattle.judge.specs.declared.exchange.Exchange.{Exchange}
use Rattle.judge.specs.declared.notes.Notes.{Notes}
use Rattle.judge.specs.inner.Rows.{prices_asked}
use Rattle.judge.specs.inner.Counts.{Room, Asks}

-- nothing is claimed or asked yet
pub record Blank (e : Exchange) (notes : Notes) : Type 0 where
  pub exchange : notes.gifts.exchange.bytes.now ≡ e.bytes.now
  pub claimed : notes.claimed ≡ replicate list_size false
  pub asked : notes.asked ≡ replicate list_size 0
  pub missing : notes.missing ≡ false

-- the prices Q are asked; found: each of them is a transfer of the exchange
pub record Asked (Q : model.Exchange) (before after : Notes) : Type 0 where
  pub exchange : after.gifts.exchange.bytes.now ≡ before.gifts.exchange.bytes.now
  pub found : Bool
  pub asks : Asks before.gifts.exchange.bytes.now Q before.asked after.asked found
  pub missing : after.missing ≡ (before.missing || not found)

-- a record's transfer and its rule are within their limits, and the counts have room for its prices
pub record Notable (r : List ℕ) (notes : Notes) : Type 0 where
  pub claim_bounds : (1 ≤ claim r) × (claim r ≤ list_size)
  pub rule_bounds : (1 ≤ rule_number r) × (rule_number r ≤ rule_limit)
  pub room : Room notes.gifts.exchange.bytes.now price_limit notes.asked

-- its transfer is claimed and its prices are asked
pub record Noted (rules r : List ℕ) (before after : Notes) : Type 0 where
  pub claimed : after.claimed ≡ set before.claimed (claim r - 1) true
  pub asked : Asked (prices_asked (row_at rules (rule_number r)) r) before after
