-- An exchange cut into chunks of three bytes: they are its transfers.
use mathlib.Core.Path.{◌≡◌, refl, sym, ◌∙◌, ap}
use mathlib.Core.Bool.{Bool, not, cond}
use mathlib.Core.List.{List, [], ◌∷◌, map}
use Prim.Native.Nat.{ℕ, ◌+◌, ◌*◌, ◌/◌, ◌<◌}
use native.Mathlib.Omega.{arith}
use lib.ListN.{length, get_or, take, drop}
use Rattle.std.specs.Borrow.{Bor}
use Rattle.std.specs.Prelude.{Option, Some, None}
use Rattle.std.specs.List.{position, prefix_len, slice_get}
use Rattle.std.specs.Option.{option_map, option_copied}
use Rattle.std.specs.Slice.{IsItemAt}
use Rattle.std.proofs.Math.ListN.{get_or-map}
use Rattle.std.proofs.lemmas.Option.{slice_get_past, slice_get-get_or, slice_get-map}
use Rattle.std.specs.Simd.{first_chunks}
use Rattle.std.proofs.lemmas.List.{get_or-take, get_or-drop, length-map, length-take}
use Rattle.model.specs.Transfers.{Transfer, transfer_at, exchange_of, no_transfer}
use Rattle.model.proofs.Chunks.{mapped_chunks}
use Rattle.model.proofs.Places.{up_to_cong}

-- the transfer of three bytes
abbrev pub of_bytes : List ℕ → Transfer
of_bytes b = transfer_at b 0

cut : (e : List ℕ) (i : ℕ) → of_bytes (take 3 (drop (i * 3) e)) ≡ transfer_at e i
cut e i =
    let s = drop (i * 3) e in
    let z : i * 3 + 0 ≡ i * 3 = omega arith in
    rw (get_or-take 3 s 0 0 (omega arith), get_or-take 3 s 1 0 (omega arith), get_or-take 3 s 2 0 (omega arith), get_or-drop (i * 3) e 0 0, get_or-drop (i * 3) e 1 0, get_or-drop (i * 3) e 2 0, z) refl

pub chunks≡ : (e : List ℕ) → map of_bytes (first_chunks 3 (length e / 3) e) ≡ exchange_of e
unfolding exchange_of
chunks≡ e = mapped_chunks of_bytes 3 (length e / 3) e ∙ up_to_cong _ _ (length e / 3) (λ i l. cut e i)

-- the chunk that is lent at a place, if there is one
pub lent≡ : (e : List ℕ) (i : ℕ) (xs : List (List ℕ)) → xs ≡ first_chunks 3 (length e / 3) e → (r : Option (Bor (List ℕ))) → IsItemAt xs i r
    → option_map of_bytes (option_copied r) ≡ slice_get (exchange_of e) i
lent≡ e i xs cut r h = ap (option_map of_bytes) (lent r h) ∙ sym (slice_get-map of_bytes xs i) ∙ ap (λ (l : List Transfer). slice_get l i) (ap (map of_bytes) cut ∙ chunks≡ e)
  where
    lent : (r : Option (Bor (List ℕ))) → IsItemAt xs i r → option_copied r ≡ slice_get xs i
    lent None h = sym (slice_get_past xs i h.3)
    lent (Some x) h = sym (slice_get-get_or xs i x.now h.3.0 ∙ ap (λ (b : List ℕ). Some b) (sym h.1))

-- the chunk at a place, and at one among the first n
pub place≡ : (e : List ℕ) (xs : List (List ℕ)) → xs ≡ first_chunks 3 (length e / 3) e → (i : ℕ) → of_bytes (get_or xs i []) ≡ get_or (exchange_of e) i no_transfer
place≡ e xs cut i = sym (get_or-map of_bytes xs i []) ∙ ap (λ (l : List Transfer). get_or l i no_transfer) (ap (map of_bytes) cut ∙ chunks≡ e)

pub first_place≡ : (e : List ℕ) (xs : List (List ℕ)) → xs ≡ first_chunks 3 (length e / 3) e → (n i : ℕ) → i < length (take n xs)
    → of_bytes (get_or (take n xs) i []) ≡ get_or (exchange_of e) i no_transfer
first_place≡ e xs cut n i l = ap of_bytes (get_or-take n xs i [] (omega (arith, length-take n xs))) ∙ place≡ e xs cut i

-- ---- the first chunk whose transfer passes a test

prefix≡ : (p : Transfer → Bool) (xs : List (List ℕ)) → prefix_len (λ b. p (of_bytes b)) xs ≡ prefix_len p (map of_bytes xs)
prefix≡ p [] = refl
prefix≡ p (x ∷ xs) = ap (λ (k : ℕ). cond (p (of_bytes x)) (1 + k) 0) (prefix≡ p xs)

pub position≡ : (p : Transfer → Bool) (e : List ℕ) → position (λ b. p (of_bytes b)) (first_chunks 3 (length e / 3) e) ≡ position p (exchange_of e)
position≡ p e =
    let cuts = first_chunks 3 (length e / 3) e in
    let mapped : position (λ b. p (of_bytes b)) cuts ≡ position p (map of_bytes cuts) = rw (prefix≡ (λ t. not (p t)) cuts, length-map cuts of_bytes) in
    mapped ∙ ap (position p) (chunks≡ e)
