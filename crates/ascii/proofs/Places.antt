-- The first place of a byte, as a search over a slice tells it, and as the definitions do; and a slice that is searched by eights.
use mathlib.Core.Path.{◌≡◌, refl, sym, ◌∙◌, ap}
use mathlib.Core.Bool.{Bool, true, false, cond, not}
use mathlib.Core.List.{List, [], ◌∷◌, ◌++◌}
use Prim.Native.Nat.{ℕ, zero, suc, ◌+◌, ◌*◌, ◌/◌, ◌<◌, ◌≤◌, min}
use native.Mathlib.Omega.{arith}
use lib.Dec.{T, eqb}
use lib.ListN.{length, get_or, take, drop, length-drop, take-append-drop}
use lib.Seq.{drop-drop, length-take-le, take-suc, take_all}
use Rattle.std.proofs.lemmas.Bool.{le-ltb, lt-ltb}
use borrow.Author.Tests.{ltb-true, ltb-false}
use Rattle.std.specs.Prelude.{Some, None, position, ◌==◌}
use Rattle.std.specs.List.{position_or_len}
use Rattle.std.specs.Simd.{first_chunks}
use Rattle.std.proofs.lemmas.Option.{cond_some}
use native.Mathlib.Numerals.{add-one}
use Rattle.model.specs.Lists.{until, lacks}
use Rattle.model.proofs.Chunks.{chunk_at}
use Rattle.model.proofs.Places.{until_bound, until_past, until-there}
use Rattle.ascii.specs.Cut.{CutAt}
use Rattle.ascii.proofs.Options.{cond_none}

until_first : (x : ℕ) (s : List ℕ) → position_or_len (λ y. y == x) s ≡ until x s
unfolding until
until_first x [] = refl
until_first x (y ∷ s) = rw (until_first x s) (go (eqb y x))
  where
    go : (t : Bool) → cond (not t) (1 + until x s) 0 ≡ cond t 0 (suc (until x s))
    go true = refl
    go false = omega arith

module _ (x : ℕ) (s : List ℕ) where
  pub found : (n : ℕ) → position (λ y. y == x) s ≡ Some n → (until x s ≡ n) × (n < length s)
  found n e =
      let (l, m) = cond_some _ _ _ (rw (until_first x s) at e) in
      let k = ltb-true _ _ l in
      (m, omega arith)

  pub missed : position (λ y. y == x) s ≡ None → until x s ≡ length s
  missed e = let l = ltb-false _ _ (cond_none _ _ (rw (until_first x s) at e)) in omega (arith, until_bound x s)

  pub position_here : (n : ℕ) → until x s ≡ n → n < length s → position (λ y. y == x) s ≡ Some n
  position_here n e l = let k : until x s < length s = omega arith in rw (until_first x s, lt-ltb (until x s) (length s) k, e)

  pub position_nowhere : until x s ≡ length s → position (λ y. y == x) s ≡ None
  position_nowhere e = let k : length s ≤ until x s = omega arith in rw (until_first x s, le-ltb (until x s) (length s) k)

-- ---- a text cut at the first

lacks-before : (x : ℕ) (s : List ℕ) → T (lacks x (take (until x s) s))
unfolding until
lacks-before x [] = tt
lacks-before x (y ∷ s) = go (eqb y x) refl (lacks-before x s)
  where
    go : (t : Bool) → eqb y x ≡ t → T (lacks x (take (until x s) s)) → T (lacks x (take (cond t 0 (suc (until x s))) (y ∷ s)))
    go true e h = tt
    go false e h = rw e h

module _ (x : ℕ) (s : List ℕ) where
  pub cut_there : (n : ℕ) → until x s ≡ n → n < length s → CutAt x s (take n s) (drop (n + 1) s)
  cut_there n e l =
      let there : until x s < length s = omega arith in
      let up_to_it : take (suc n) s ≡ take n s ++ (x ∷ []) = take-suc s n 0 l ∙ rw (← e) (ap (λ (y : ℕ). take (until x s) s ++ (y ∷ [])) (until-there x s there)) in
      record { whole = sym (take-append-drop (n + 1) s) ∙ ap (λ (w : List ℕ). w ++ drop (n + 1) s) (rw (add-one n) up_to_it); first = rw (← e) (lacks-before x s) }

  pub lacks-all : until x s ≡ length s → T (lacks x s)
  lacks-all e = rw (e, take_all (length s) s (omega arith)) at (lacks-before x s)

until_take : (x n : ℕ) (s : List ℕ) → n ≤ length s → until x (take n s) ≡ min n (until x s)
unfolding until
until_take x zero s l = omega arith
until_take x (suc n) [] l = absurd (omega arith)
until_take x (suc n) (y ∷ s) l = rw (until_take x n s (omega arith)) (go (eqb y x))
  where
    go : (t : Bool) → cond t 0 (suc (min n (until x s))) ≡ min (suc n) (cond t 0 (suc (until x s)))
    go true = omega arith
    go false = omega arith

-- the eight at place i of r's, in which the place of x is asked
module _ (x : ℕ) (r : List ℕ) (i : ℕ) (l : i < length r / 8) where
  eight : List ℕ
  eight = get_or (first_chunks 8 (length r / 8) r) i []

  from : List ℕ
  from = drop (i * 8) r

  room : 8 ≤ length from
  unfolding from
  room = omega (arith, length-drop (i * 8) r)

  size : length eight ≡ 8
  unfolding eight from
  size = rw (chunk_at 8 (length r / 8) i r [] l) (length-take-le 8 _ room)

  until-eight : until x eight ≡ min 8 (until x from)
  unfolding eight from
  until-eight = rw (chunk_at 8 (length r / 8) i r [] l) (until_take x 8 _ room)

  pub found_in : (n : ℕ) → position (λ y. y == x) (get_or (first_chunks 8 (length r / 8) r) i []) ≡ Some n → (until x (drop (i * 8) r) ≡ n) × (n < 8)
  unfolding eight from
  found_in n e = let (m, k) = found x eight n e in let z = size in let u = until-eight in (omega arith, omega arith)

  pub missed_in : position (λ y. y == x) (get_or (first_chunks 8 (length r / 8) r) i []) ≡ None
      → until x (drop (i * 8) r) ≡ 8 + until x (drop ((i + 1) * 8) r)
  unfolding eight from
  missed_in e =
      let m = missed x eight e in
      let z = size in
      let u = until-eight in
      let p = until_past x 8 (drop (i * 8) r) (omega arith) in
      let next : i * 8 + 8 ≡ (i + 1) * 8 = omega arith in
      rw (drop-drop 8 (i * 8) r, next) at p
