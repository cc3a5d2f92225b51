-- The chunks that a list is cut into, each by where it is in the list.
use mathlib.Core.Path.{◌≡◌, refl, ◌∙◌, ap}
use mathlib.Core.List.{List, [], ◌∷◌, ◌++◌, map}
use Prim.Native.Nat.{ℕ, zero, suc, ◌+◌, ◌*◌, ◌<◌}
use native.Mathlib.Omega.{arith}
use lib.ListN.{get_or, take, drop}
use lib.Seq.{drop-drop}
use Rattle.std.specs.Simd.{first_chunks}
use Rattle.std.proofs.lemmas.List.{get_or-take, get_or-drop}
use Rattle.std.proofs.Math.Nat.{suc-mul}
use Rattle.model.specs.Lists.{up_to}
use Rattle.model.proofs.Places.{up_to_cong}

module _ {A : Type 0} where
  -- chunk i, of chunks of n
  abbrev chunk : ℕ → List A → ℕ → List A
  chunk n xs i = take n (drop (i * n) xs)

  pub chunk_at : (n k i : ℕ) (xs : List A) (d : List A) → i < k → get_or (first_chunks n k xs) i d ≡ take n (drop (i * n) xs)
  chunk_at n zero i xs d l = absurd (omega arith)
  chunk_at n (suc k) zero xs d l = let e : 0 * n ≡ 0 = omega arith in rw e
  chunk_at n (suc k) (suc i) xs d l =
      let e : n + i * n ≡ suc i * n = omega (arith, suc-mul i n) in
      chunk_at n k i (drop n xs) d (omega arith) ∙ (rw (drop-drop (i * n) n xs, e))

  -- element j of chunk i
  pub in_chunk : (n k i j : ℕ) (xs : List A) (d : List A) (x : A) → i < k → j < n → get_or (get_or (first_chunks n k xs) i d) j x ≡ get_or xs (i * n + j) x
  in_chunk n k i j xs d x l m = rw (chunk_at n k i xs d l) (get_or-take n (drop (i * n) xs) j x m ∙ get_or-drop (i * n) xs j x)

up_to_first : {B : Type 0} (f : ℕ → B) (n : ℕ) → up_to f (suc n) ≡ f 0 ∷ up_to (λ i. f (suc i)) n
up_to_first f zero = refl
up_to_first f (suc n) = ap (λ r. r ++ (f (suc n) ∷ [])) (up_to_first f n)

module _ {A : Type 0} where
  later : (n i : ℕ) (xs : List A) → chunk n (drop n xs) i ≡ chunk n xs (suc i)
  later n i xs = let e : n + i * n ≡ suc i * n = omega (arith, suc-mul i n) in rw (drop-drop (i * n) n xs, e)

  pub mapped_chunks : {B : Type 0} (f : List A → B) (n k : ℕ) (xs : List A) → map f (first_chunks n k xs) ≡ up_to (λ i. f (take n (drop (i * n) xs))) k
  mapped_chunks f n zero xs = refl
  mapped_chunks f n (suc k) xs =
      let e : 0 * n ≡ 0 = omega arith in
      rw (mapped_chunks f n k (drop n xs), up_to_cong _ _ k (λ i l. ap f (later n i xs)), up_to_first (λ i. f (chunk n xs i)) k, e)
