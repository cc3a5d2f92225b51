-- A list of transfers by its places: what a walk over it has counted, and that the list read from an exchange begins with the
-- model's.
use mathlib.Core.Path.{◌≡◌, refl, sym, ◌∙◌, ap}
use mathlib.Core.Bool.{Bool, true, false, cond, ◌&&◌}
use mathlib.Core.List.{List, [], ◌∷◌, ◌++◌}
use mathlib.Core.Logic.{⊎_elim}
use Prim.Native.Nat.{ℕ, zero, suc, ◌+◌, ◌≤◌, ◌<◌, min}
use native.Mathlib.Omega.{arith}
use native.Mathlib.Nat.{eq-or-lt_of_le}
use lib.Dec.{eqb}
use lib.ListN.{length, get_or, set, take, replicate, length-set, length-map, length-replicate, get_or-eq_default}
use lib.Seq.{take-length, take-suc, get_or-set_same, get_or-set_other}
use Rattle.std.specs.Prelude.{count_by}
use Rattle.std.proofs.lemmas.List.Recursion.{is_count_by}
use Rattle.model.specs.Limits.{exchange_limit}
use Rattle.model.specs.Lists.{one_if, up_to}
use Rattle.model.specs.Transfers.{Transfer, eq_transfer, same, count, transfer_at, exchange_of, no_transfer}
use Rattle.model.proofs.Places.{all_equal, up_to_length, up_to_at, up_to_cong}
use Rattle.model.proofs.Loops.{occurs_at}
use Rattle.model.proofs.Tests.{lt_or_ge}
use Rattle.transfers.specs.View.{transfer_of, transfers_of, transfer_count, list_size, Listed}
use Rattle.transfers.specs.declared.Transfer as declared

-- ---- a transfer by its place

-- within the exchange, and past its end
pub here : (e : List ℕ) (i : ℕ) → i < transfer_count e → get_or (exchange_of e) i no_transfer ≡ transfer_at e i
unfolding exchange_of
here e i l = up_to_at (transfer_at e) (transfer_count e) i no_transfer l

pub past : (e : List ℕ) (i : ℕ) → transfer_count e ≤ i → get_or (exchange_of e) i no_transfer ≡ no_transfer
unfolding exchange_of
past e i l = get_or-eq_default (up_to (transfer_at e) (transfer_count e)) no_transfer {n = i} (omega (arith, up_to_length (transfer_at e) (transfer_count e)))

-- ---- lists

abbrev pub zeros : declared.Transfer
zeros = record { giver = 0; kind = 0; receiver = 0 }

map_at : (xs : List declared.Transfer) (j : ℕ) → get_or (transfers_of xs) j no_transfer ≡ transfer_of (get_or xs j zeros)
map_at [] j = refl
map_at (x ∷ xs) zero = refl
map_at (x ∷ xs) (suc j) = map_at xs j

map_last : (xs : List declared.Transfer) (x : declared.Transfer) → transfers_of (xs ++ (x ∷ [])) ≡ transfers_of xs ++ (transfer_of x ∷ [])
map_last [] x = refl
map_last (y ∷ xs) x = ap (λ (r : List Transfer). transfer_of y ∷ r) (map_last xs x)

module _ (xs : List declared.Transfer) where
  abbrev placed : ℕ → Transfer
  placed j = transfer_of (get_or xs j zeros)

  prefix≡ : (i : ℕ) → i ≤ length xs → transfers_of (take i xs) ≡ up_to placed i
  prefix≡ zero l = refl
  prefix≡ (suc i) l =
      ap transfers_of (take-suc xs i zeros l) ∙ map_last (take i xs) (get_or xs i zeros) ∙ ap (λ (r : List Transfer). r ++ (placed i ∷ [])) (prefix≡ i (omega arith))

  -- the transfer of place j is among the first n
  pub count-some : (n j : ℕ) → j < n → n ≤ length xs → 1 ≤ count (placed j) (transfers_of (take n xs))
  count-some n j l k = rw (prefix≡ n k) (occurs_at placed n j l)

  -- a list read from an exchange within the limit
  module _ (e : List ℕ) (short : length e ≤ exchange_limit) (h : Listed e xs) where
    abbrev taken : ℕ → Transfer
    taken j = get_or (exchange_of e) j no_transfer

    pub list_size_lem : length xs ≡ list_size
    list_size_lem = sym (length-map xs transfer_of) ∙ ap length h ∙ up_to_length taken list_size

    pub list_at : (j : ℕ) → j < transfer_count e → placed j ≡ transfer_at e j
    list_at j l =
        let within : j < list_size = omega arith in
        sym (map_at xs j) ∙ ap (λ (l : List Transfer). get_or l j no_transfer) h ∙ up_to_at taken list_size j no_transfer within ∙ here e j l

    list≡ : transfers_of (take (transfer_count e) xs) ≡ exchange_of e
    unfolding exchange_of
    list≡ = prefix≡ (transfer_count e) (omega (arith, list_size_lem)) ∙ up_to_cong placed _ (transfer_count e) list_at

    -- transfer j counted in the list
    pub count≡ : (j : ℕ) → j < transfer_count e → count (placed j) (transfers_of (take (transfer_count e) xs)) ≡ count (transfer_at e j) (exchange_of e)
    count≡ j l = rw (list_at j l, list≡)

-- ---- the loop that reads, i transfers being read

module _ (e : List ℕ) where
  -- 32 transfers, of which those before i are the exchange's and the others zeros
  pub record Begun (i : ℕ) (xs : List declared.Transfer) : Type 0 where
    pub size : length xs ≡ list_size
    pub each : (j : ℕ) → j < i → transfer_of (get_or xs j zeros) ≡ get_or (exchange_of e) j no_transfer
    pub rest : (j : ℕ) → i ≤ j → transfer_of (get_or xs j zeros) ≡ no_transfer

  -- of any transfer of zeros
  pub begun-none : (z : declared.Transfer) → (z.giver ≡ 0) × ((z.kind ≡ 0) × (z.receiver ≡ 0)) → Begun 0 (replicate 32 z)
  begun-none z none = rw same (record {
    size = length-replicate {A = declared.Transfer} 32 zeros;
    each = λ j l. absurd (omega arith);
    rest = λ j l. ap transfer_of (all_equal zeros 32 j);
  })
    where
      same : z ≡ zeros
      same = λ i. record { giver = none.0 i; kind = none.1.0 i; receiver = none.1.1 i }

  pub begun_more : (xs : List declared.Transfer) (i : ℕ) → Begun i xs → (x : declared.Transfer) → transfer_of x ≡ get_or (exchange_of e) i no_transfer → i < 32
      → Begun (i + 1) (set xs i x)
  begun_more xs i h x k l = record {
    size = length-set xs i x ∙ h.size;
    each = λ j m.
        ⊎_elim
        (λ (d : j ≡ i). rw d (ap transfer_of (get_or-set_same xs i x zeros (omega (arith, h.size))) ∙ k))
        (λ (d : j < i). ap transfer_of (get_or-set_other xs i j x zeros (λ (q : j ≡ i). omega arith)) ∙ h.each j d)
        (eq-or-lt_of_le {n = j} {m = i} (omega arith));
    rest = λ j m. ap transfer_of (get_or-set_other xs i j x zeros (λ (q : j ≡ i). omega arith)) ∙ h.rest j (omega arith);
  }

  pub begun_all : (xs : List declared.Transfer) (i : ℕ) → Begun i xs → min (transfer_count e) list_size ≤ i → Listed e xs
  begun_all xs i h l =
      sym (ap transfers_of (take-length xs)) ∙ prefix≡ xs (length xs) (omega arith) ∙ ap (up_to (placed xs)) h.size ∙ up_to_cong (placed xs) _ list_size each
    where
      each : (j : ℕ) → j < list_size → placed xs j ≡ get_or (exchange_of e) j no_transfer
      each j m =
          ⊎_elim
          (λ (d : j < i). h.each j d)
          (λ (d : i ≤ j). h.rest j d ∙ sym (past e j (omega arith)))
          (lt_or_ge j i)

-- ---- the same transfers counted

abbrev pub is_same : declared.Transfer → declared.Transfer → Bool
is_same t u = eqb t.giver u.giver && (eqb t.kind u.kind && eqb t.receiver u.receiver)

pub same≡ : (t u : declared.Transfer) → same (transfer_of t) (transfer_of u) ≡ one_if (is_same t u)
unfolding same eq_transfer
same≡ t u = refl

pub counted : (t : declared.Transfer) (xs : List declared.Transfer) → count_by (is_same t) xs ≡ count (transfer_of t) (transfers_of xs)
counted t xs = sym (is_count_by (λ (ys : List declared.Transfer). count (transfer_of t) (transfers_of ys)) (is_same t) refl (λ u ys. step u ys (is_same t u) (same≡ t u)) xs)
  where
    step : (u : declared.Transfer) (ys : List declared.Transfer) (b : Bool) → same (transfer_of t) (transfer_of u) ≡ one_if b
        → count (transfer_of t) (transfers_of (u ∷ ys)) ≡ cond b (1 + count (transfer_of t) (transfers_of ys)) (count (transfer_of t) (transfers_of ys))
    step u ys true h = omega (arith, h)
    step u ys false h = omega (arith, h)
