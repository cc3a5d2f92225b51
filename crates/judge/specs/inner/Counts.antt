-- Question 21 over the bytes: for each transfer of the exchange one byte, how often its giver, kind and receiver are asked as a
-- price, counted at the first of equal transfers, and one flag for a price that no transfer meets.
use Rattle.std.specs.Prelude.{◌≡◌, Bool, not, ◌&&◌, cond, List, ℕ, ◌+◌, ◌≤◌, ◌<◌, Option, eqb, leb, length, get_or, take}
use Rattle.std.specs.List.{list_all}
use Rattle.std.specs.Option.{MatchOption}
use Rattle.model.specs.Lists.{every, up_to}
use Rattle.model.specs.Transfers.{Transfer, Exchange, count, transfer_at, exchange_of}
use Rattle.transfers.specs.View.{transfer_count, list_size}
use Rattle.judge.specs.inner.Rows.{below}

-- some transfer of the exchange is t
abbrev pub occurs : List ℕ → Transfer → Bool
occurs e t = leb 1 (count t (exchange_of e))

-- a count for each place of a list, and the one of each transfer has room for k more
pub record Room (e : List ℕ) (k : ℕ) (counts : List ℕ) : Type 0 where
  pub size : length counts ≡ list_size
  pub free : (j : ℕ) → j < transfer_count e → get_or counts j 0 + k ≤ 255

-- for each card a place of the exchange, or its end, before which the card gives none of the first i transfers
pub record FirstGifts (e : List ℕ) (i : ℕ) (firsts : List ℕ) : Type 0 where
  pub size : length firsts ≡ 256
  pub low : (c : ℕ) → c < 256 → get_or firsts c 0 ≤ transfer_count e
  pub none : (c j : ℕ) → c < 256 → j < i → j < get_or firsts c 0 → (transfer_at e j).giver ≡ c → ⊥

-- the first place that holds the transfer t, if one does
abbrev pub FirstAt : List ℕ → Transfer → Option ℕ → Type 0
FirstAt e t r = MatchOption r (count t (exchange_of e) ≡ 0) (λ j. (j < transfer_count e) × (t ≡ transfer_at e j) × (count t (up_to (transfer_at e) j) ≡ 0))

-- k at the first of equal transfers, nothing at the others
unfoldable pub at_first : List ℕ → ℕ → ℕ → ℕ
at_first e j k = cond (eqb (count (transfer_at e j) (up_to (transfer_at e) j)) 0) k 0

-- the counts before and after the prices Q were asked; all: each of them is a transfer of the exchange
pub record Asks (e : List ℕ) (Q : Exchange) (before after : List ℕ) (all : Bool) : Type 0 where
  pub size : length after ≡ length before
  pub more : (j : ℕ) → j < transfer_count e → get_or after j 0 ≡ get_or before j 0 + at_first e j (count (transfer_at e j) Q)
  pub found : all ≡ every (occurs e) Q

-- each transfer occurs as often as it is asked
abbrev pub all_met : List ℕ → List ℕ → Bool
all_met e counts = every (λ j. leb (get_or counts j 0) (count (transfer_at e j) (exchange_of e))) (below (transfer_count e))

-- the first n are asked at most once each
abbrev pub asked_once : List ℕ → ℕ → Bool
asked_once counts n = list_all (λ k. leb k 1) (take n counts)

-- question 21: nothing is asked that is no transfer, and no transfer more often than it occurs
unfoldable pub is_paid : List ℕ → List ℕ → Bool → Bool
is_paid e counts missing = not missing && all_met e counts
