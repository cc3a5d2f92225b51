-- What the program tells of a rule's row is what the view reads there.
use mathlib.Core.Path.{◌≡◌, refl, ap, ap₂}
use mathlib.Core.Bool.{Bool, true, false, cond}
use mathlib.Core.List.{List}
use Prim.Native.Nat.{ℕ}
use lib.Dec.{eqb, ltb}
use borrow.Author.Tests.{ltb-true}
use Rattle.std.specs.Prelude.{if◌then◌else◌}
use Rattle.model.specs.Grammar.{var, star, in_group, same_issuer}
use Rattle.letters.specs.Letters.{variable_said, name_meant}
use Rattle.letters.specs.declared.names.Name.TheVariants as said
use Rattle.letters.proofs.NameLaws.{said_number}
use Rattle.forms.specs.declared.rules.Condition.TheVariants.{InGroup, SameIssuer}
use Rattle.rulebook.specs.View.{row_head, price_receiver, group_asked, first_name, second_name, name_view, price_view, condition_view}
use Rattle.rulebook.specs.Rows.{row_head_said, name_at, price_at, condition_at, price_meant, condition_meant}

pub head_same : (row : List ℕ) → (row_head_said row).number ≡ row_head row
head_same row = refl

name_same : (y : ℕ) → name_meant (name_at y) ≡ name_view y
unfolding name_view
name_same y = go (ltb y 8) refl
  where
    go : (b : Bool) → ltb y 8 ≡ b → name_meant (if b then said.Variable (variable_said y) else said.Owner) ≡ cond b (var y) star
    go true e = ap var (said_number y (ltb-true y 8 e))
    go false e = refl

module _ (row : List ℕ) (i : ℕ) where
  pub price_same : price_meant (price_at row i) ≡ price_view row i
  unfolding price_view
  price_same = rw (name_same (price_receiver row i))

  abbrev group : ℕ
  group = group_asked row i

  abbrev first : ℕ
  first = first_name row i

  abbrev second : ℕ
  second = second_name row i

  pub condition_same : condition_meant (condition_at row i) ≡ condition_view row i
  unfolding condition_view
  condition_same = go (eqb group 0)
    where
      go : (b : Bool) → condition_meant (if b then SameIssuer (name_at first) (name_at second) else InGroup group (name_at second))
          ≡ cond b (same_issuer (name_view first) (name_view second)) (in_group group (name_view second))
      go true = ap₂ same_issuer (name_same first) (name_same second)
      go false = ap (in_group group) (name_same second)
