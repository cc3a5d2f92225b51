-- A name both ways: as the program tells it, and as the model means it.
use mathlib.Core.Path.{◌≡◌, refl, sym, ◌∙◌, ap, subst}
use Prim.Native.Char.{code}
use Prim.Native.Nat.{ℕ, ◌≤◌, ◌<◌}
use native.Mathlib.Omega.{arith}
use lib.Dec.{T, eqb}
use mathlib.Core.Bool.{Bool, true, false, cond}
use mathlib.Core.Logic.{◌≢◌, ⊎_elim}
use borrow.Author.Tests.{eqb-true, le-leb, lt-leb, lt-ltb, ltb-true, ltb-false, leb-false}
use Rattle.std.proofs.Math.Nat.{mod-eq_of_lt}
use Rattle.std.proofs.Math.Bridge.{le_prop}
use Rattle.model.specs.Limits.{variable_count}
use Rattle.model.specs.Grammar as model
use Rattle.model.specs.Grammar.{is_name, is_variable, var, star}
use Rattle.model.specs.Reader.{kind_of, group_of, variable_of, name_of, named}
use Rattle.model.proofs.Tests.{eqb_ne, ne_eqb, lt_or_ge}
use Rattle.model.proofs.Letters.{variable_letter_lem}
use Rattle.model.proofs.Facts.{facts}
use Rattle.std.specs.Prelude.{Some, None}
use Rattle.std.proofs.lemmas.Option.{cond_some}
use Rattle.ascii.proofs.Options.{cond_none}
use Rattle.letters.specs.Letters.{variable_said, name_said, name_meant, kind_in, group_in, variable_in, name_in}
use Rattle.letters.specs.declared.names.Variable.{Variable}
use Rattle.letters.specs.contracts.names.NamePartialEq.TheImpl as NamePartialEq
use Rattle.letters.specs.declared.names.Name.{Name}
use Rattle.letters.specs.declared.names.Name.TheVariants as said

-- a variable is its number
pub variable_same : {u v : Variable} → u.number ≡ v.number → u ≡ v
variable_same {u} {v} e =
    let few_same : (n : ℕ) (p q : n < variable_count) → Path Variable (record { number = n; few = p }) (record { number = n; few = q }) = λ n p q. ap (λ few. record { number = n; few = few }) (le_prop p q) in
    subst (λ n. (few : n < variable_count) → Path Variable u (record { number = n; few = few })) e (few_same u.number u.few) v.few

pub said_number : (v : ℕ) → v < variable_count → (variable_said v).number ≡ v
said_number v l = mod-eq_of_lt l

-- The two maps are inverse: what is said is what was meant, and the other way round.
pub said_meant : (n : Name) → name_said (name_meant n) ≡ n
said_meant (said.Variable v) = ap said.Variable (variable_same (said_number v.number v.few))
said_meant (said.Owner) = refl

pub meant_said : (n : model.Name) → T (is_name n) → name_meant (name_said n) ≡ n
meant_said (var v) h = ap var (said_number v (simp facts at h))
meant_said star h = refl

-- ---- the variable and the name of a byte

pub variable_is : (x : ℕ) (v : Variable) → variable_of x ≡ v.number → Some v ≡ variable_in x
variable_is x v e = let l = v.few in rw (e, lt-ltb v.number variable_count l) (ap Some (variable_same (sym (said_number v.number l))))

pub variable_number : (x : ℕ) (v : Variable) → variable_in x ≡ Some v → variable_of x ≡ v.number
variable_number x v e = let (h, same) = cond_some _ _ _ e in sym (said_number (variable_of x) (ltb-true _ _ h)) ∙ ap (λ (v : Variable). v.number) same

module _ (x : ℕ) (other : x ≢ code "*") where
  pub name_is : (v : Variable) → variable_in x ≡ Some v → Some (said.Variable v) ≡ name_in x
  unfolding name_of named
  name_is v e =
      let n = variable_number x v e in
      let l = v.few in
      rw (ne_eqb x (code "*") other, n, le-leb v.number variable_count (omega arith), ne_eqb v.number variable_count (omega arith))
      (ap (λ v. Some (said.Variable v)) (variable_same (sym (said_number v.number l))))

  pub no_name : variable_in x ≡ None → name_in x ≡ None
  unfolding name_of
  no_name e =
      let l = ltb-false (variable_of x) variable_count (cond_none _ _ e) in
      let none = ⊎_elim (λ h. h) (λ h. absurd (let b = variable_letter_lem x (omega arith) in omega arith)) (lt_or_ge variable_count (variable_of x)) in
      rw (ne_eqb x (code "*") other, lt-leb (variable_of x) variable_count none)

-- the program's test of two names
pub same_name : (v n : ℕ) → v < variable_count → n ≤ variable_count → NamePartialEq.ghosts.eq (said.Variable (variable_said v)) (name_said (named n)) ≡ eqb v n
unfolding named
same_name v n l h = go (eqb n variable_count) refl
  where
    go : (f : Bool) → eqb n variable_count ≡ f → NamePartialEq.ghosts.eq (said.Variable (variable_said v)) (name_said (cond f star (var n))) ≡ eqb v n
    go true e = rw (eqb-true n variable_count e, ne_eqb v variable_count (omega arith))
    go false e = let d = eqb_ne n variable_count e in rw (said_number v l, said_number n (omega arith))

-- ---- no letter

pub kind_none : (x : ℕ) → None ≡ kind_in x → kind_of x < 1
kind_none x e = leb-false 1 (kind_of x) (cond_none _ _ (sym e))

pub group_none : (x : ℕ) → None ≡ group_in x → group_of x < 1
group_none x e = leb-false 1 (group_of x) (cond_none _ _ (sym e))

pub variable_none : (x : ℕ) → None ≡ variable_in x → variable_count ≤ variable_of x
variable_none x e = ltb-false (variable_of x) variable_count (cond_none _ _ (sym e))

pub name_none : (x : ℕ) → None ≡ name_in x → variable_count < name_of x
name_none x e = leb-false (name_of x) variable_count (cond_none _ _ (sym e))

pub ruleset absent = (kind_none, group_none, variable_none, name_none)
