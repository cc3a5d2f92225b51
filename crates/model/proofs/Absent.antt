-- A byte below the digits that is no star is in no word of a group or rule line: an LF, which ends lines, and a hyphen.
use mathlib.Core.Bool.{Bool, true, false, cond}
use mathlib.Core.List.{List, [], ◌∷◌, ◌++◌, map}
use mathlib.Core.Logic.{◌≢◌}
use Prim.Native.Char.{code}
use Prim.Native.Nat.{ℕ, zero, suc, ◌/◌, ◌%◌, ◌<◌}
use native.Mathlib.Omega.{arith}
use lib.Dec.{T, leb}
use Rattle.model.specs.Lists.{every, lacks, each}
use Rattle.model.specs.Grammar.{Name, var, star, Price, Condition, in_group, same_issuer, Rule, group, rule}
use Rattle.model.specs.Grammar.{digit, decimal_in, decimal, name_letter, price_words, condition_words, joined, words}
use Rattle.model.proofs.Tests.{both, every_append}
use Rattle.model.proofs.Facts.{facts}

-- words and the mark between them
module _ (x : ℕ) (mark : List ℕ) (m : T (lacks x mark)) where
  marked_lack : (ws : List (List ℕ)) → T (every (lacks x) ws) → T (lacks x (each (λ v. mark ++ v) ws))
  marked_lack [] h = tt
  marked_lack (w ∷ ws) h =
      let f = both (lacks x w) _ h in
      every_append _ (mark ++ w) (each (λ v. mark ++ v) ws) (every_append _ mark w m f.0) (marked_lack ws f.1)

  pub joined_lack : (ws : List (List ℕ)) → T (every (lacks x) ws) → T (lacks x (joined mark ws))
  joined_lack [] h = tt
  joined_lack (w ∷ ws) h = let f = both (lacks x w) _ h in every_append _ w (each (λ v. mark ++ v) ws) f.0 (marked_lack ws f.1)

module _ (x : ℕ) (low : x < code "0") where
  pub digits_lack : (ds : List ℕ) → T (lacks x (map digit ds))
  digits_lack [] = tt
  digits_lack (d ∷ ds) = simp facts (omega arith, digits_lack ds)

  in_lacks : (k n : ℕ) → T (lacks x (decimal_in k n))
  unfolding decimal_in
  in_lacks zero n = tt
  in_lacks (suc k) n = go (leb n 9) (in_lacks k (n / 10))
    where
      go : (f : Bool) → T (lacks x (decimal_in k (n / 10))) → T (lacks x (cond f (digit n ∷ []) (decimal_in k (n / 10) ++ (digit (n % 10) ∷ []))))
      go true h = simp facts (omega arith)
      go false h = every_append _ (decimal_in k (n / 10)) (digit (n % 10) ∷ []) h (simp facts (omega arith))

  decimal-lacks : (m : ℕ) → T (lacks x (decimal m))
  unfolding decimal
  decimal-lacks m = in_lacks (suc m) m

  pub group-lacks : (g m : ℕ) → T (every (lacks x) (words (group g m)))
  group-lacks g m = simp facts (omega arith, (omega arith, (decimal-lacks m, tt)))

  module _ (other : x ≢ code "*") where
    name_lacks : (n : Name) → name_letter n ≢ x
    name_lacks (var v) = omega arith
    name_lacks star = omega arith

    price_lacks : (p : Price) → T (every (lacks x) (price_words p))
    price_lacks p = simp facts (omega (arith, name_lacks p.to))

    condition_lacks : (c : Condition) → T (every (lacks x) (condition_words c))
    condition_lacks (in_group g z) = simp facts (omega (arith, name_lacks z))
    condition_lacks (same_issuer y z) = simp facts (omega (arith, name_lacks y, name_lacks z))

    each-lacks : {A : Type 0} (f : A → List (List ℕ)) → ((y : A) → T (every (lacks x) (f y))) → (ys : List A) → T (every (lacks x) (each f ys))
    each-lacks f h [] = tt
    each-lacks f h (y ∷ ys) = every_append (lacks x) (f y) (each f ys) (h y) (each-lacks f h ys)

    pub rule-lacks : (r : Rule) → T (every (lacks x) (words (rule r)))
    rule-lacks r =
        let ps = each-lacks price_words price_lacks r.prices in
        let cs = each-lacks condition_words condition_lacks r.conditions in
        let all = every_append (lacks x) (each price_words r.prices) (each condition_words r.conditions) ps cs in
        simp facts (omega arith, (decimal-lacks r.owner, (omega arith, (omega arith, all))))
