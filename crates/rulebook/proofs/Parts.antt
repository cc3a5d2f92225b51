-- A part of a table: a card's digits, a rule's row, and the row's entries.
use mathlib.Core.Path.{◌≡◌, refl, sym, ◌∙◌, ap}
use mathlib.Core.List.{List, [], ◌∷◌, map}
use Prim.Native.Nat.{ℕ, zero, suc, ◌+◌, ◌-◌, ◌*◌, ◌/◌, ◌≤◌, ◌<◌}
use native.Mathlib.Omega.{arith}
use native.Mathlib.Nat.{add_assoc}
use lib.ListN.{length, get_or, take, drop, length-drop}
use lib.Seq.{ext_get_or, get_or-take, get_or-drop, length-take-le, drop-drop}
use Rattle.std.specs.Simd.{first_chunks}
use Rattle.std.proofs.lemmas.List.{take_all}
use Rattle.model.specs.Limits.{most_digits}
use Rattle.model.specs.Lists.{up_to}
use Rattle.model.proofs.Chunks.{chunk_at, mapped_chunks}
use Rattle.model.proofs.Places.{up_to_length, up_to_at, up_to_cong}
use Rattle.rulebook.specs.Layout.{card_row_size, rule_row_size, rule_byte, row_at, entry_size, price_giver_place, group_asked_place}
use Rattle.rulebook.specs.View.{digit_at}
use Rattle.rulebook.specs.Rows.{price_entry, condition_entry}

-- n bytes from a place on, of which f tells the byte at each
part : (t : List ℕ) (at n : ℕ) (f : ℕ → ℕ) → ((j : ℕ) → get_or t (at + j) 0 ≡ f j) → at + n ≤ length t → take n (drop at t) ≡ up_to f n
part t at n f tells h =
    let size : length (take n (drop at t)) ≡ n = length-take-le n (drop at t) (omega (arith, length-drop at t)) in
    ext_get_or 0 (take n (drop at t)) (up_to f n) (size ∙ sym (up_to_length f n))
    (λ j l. let k : j < n = omega (arith, size) in get_or-take n (drop at t) j 0 k ∙ get_or-drop at t j 0 ∙ tells j ∙ sym (up_to_at f n j 0 k))

pub row_part : (rules : List ℕ) (n : ℕ) → n < length rules / rule_row_size → get_or (first_chunks rule_row_size (length rules / rule_row_size) rules) n [] ≡ row_at rules n
row_part rules n l =
    chunk_at rule_row_size (length rules / rule_row_size) n rules [] l ∙ part rules (n * rule_row_size) rule_row_size (rule_byte rules n) (λ j. refl) (omega (arith, l))

module _ {A : Type 0} where
  fewer : (s n k : ℕ) (xs : List A) → n ≤ k → take n (first_chunks s k xs) ≡ first_chunks s n xs
  fewer s zero k xs l = refl
  fewer s (suc n) zero xs l = absurd (omega arith)
  fewer s (suc n) (suc k) xs l = ap (λ r. take s xs ∷ r) (fewer s n k (drop s xs) (omega arith))

-- an entry's bytes, by the places of its three parts
module _ (row : List ℕ) where
  entry_bytes : {x y z : ℕ} (p : ℕ) → p ≡ x → p + 1 ≡ y → p + 2 ≡ z → up_to (λ j. get_or row (p + j) 0) entry_size ≡ get_or row x 0 ∷ get_or row y 0 ∷ get_or row z 0 ∷ []
  entry_bytes p a b d = let e : p + 0 ≡ p = omega arith in rw (e, ← a, ← b, ← d)

  pub price_bytes : (i : ℕ) → up_to (λ j. get_or row (price_giver_place i + j) 0) entry_size ≡ price_entry row i
  price_bytes i = entry_bytes (price_giver_place i) refl (omega arith) (omega arith)

  pub condition_bytes : (i : ℕ) → up_to (λ j. get_or row (group_asked_place i + j) 0) entry_size ≡ condition_entry row i
  condition_bytes i = entry_bytes (group_asked_place i) refl (omega arith) (omega arith)

-- the first n entries of the m bytes from a place to the row's end, each read by f
pub entries_part : {B : Type 0} (f : List ℕ → B) (row : List ℕ) (at m n : ℕ) (entry : ℕ → List ℕ)
    → ((i : ℕ) → up_to (λ j. get_or row (at + i * entry_size + j) 0) entry_size ≡ entry i) → n * entry_size ≤ m → at + m ≡ length row
    → let rest = take m (drop at row) in map f (take n (first_chunks entry_size (length rest / entry_size) rest)) ≡ up_to (λ i. f (entry i)) n
entries_part f row at m n entry bytes l h =
    let all : take m (drop at row) ≡ drop at row = take_all m (drop at row) (omega (arith, h, length-drop at row)) in
    let k : n ≤ length (drop at row) / entry_size = omega (arith, l, h, length-drop at row) in
    rw (all, fewer entry_size n (length (drop at row) / entry_size) (drop at row) k)
    (mapped_chunks f entry_size n (drop at row)
    ∙ up_to_cong _ _ n (λ i z. let at' = at + i * entry_size in ap f (rw (drop-drop (i * entry_size) at row) (part row at' entry_size (λ j. get_or row (at' + j) 0) (λ j. refl) (omega (arith, z, l, h)) ∙ bytes i))))

pub digits_part : (cards : List ℕ) (m : ℕ) → m * card_row_size + 1 + most_digits ≤ length cards
    → take (m * card_row_size + 1 + most_digits - (m * card_row_size + 1)) (drop (m * card_row_size + 1) cards) ≡ up_to (digit_at cards m) most_digits
digits_part cards m h =
    let at = m * card_row_size + 1 in
    let span : at + most_digits - at ≡ most_digits = omega arith in
    rw span (part cards at most_digits (digit_at cards m) (λ j. rw (add_assoc (m * card_row_size) 1 j) refl) h)
