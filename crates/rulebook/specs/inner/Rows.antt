-- The row of a rule line's form: its head, how many prices and conditions there are, their bytes, and three bytes to spare.
use Rattle.std.specs.Prelude.{Option, Some, None, List, [], ◌∷◌, ◌++◌, ℕ, count_by, replicate}
use Rattle.std.specs.List.{flat_map}
use Rattle.std.specs.Option.{is_some}
use Rattle.model.specs.Limits.{variable_count}
use Rattle.letters.specs.declared.names.Name.{Name}
use Rattle.letters.specs.declared.names.Name.TheVariants as said
use Rattle.forms.specs.declared.rules.Price.{Price}
use Rattle.forms.specs.declared.rules.Condition.{Condition}
use Rattle.forms.specs.declared.rules.Condition.TheVariants.{InGroup, SameIssuer}
use Rattle.forms.specs.declared.rules.RuleForm.{RuleForm}
use Rattle.rulebook.specs.Layout.{entry_size}

-- a variable's number, and the first that is no variable's for the owner
abbrev pub name_byte : Name → ℕ
name_byte (said.Variable v) = v.number
name_byte (said.Owner) = variable_count

abbrev pub price_bytes : Option Price → List ℕ
price_bytes (Some p) = p.giver.number ∷ p.kind ∷ name_byte p.receiver ∷ []
price_bytes None = replicate entry_size 0

-- a condition's group, or 0 for two cards of one issuer; its two names, of which a condition on a group has the second
abbrev pub group_in : Condition → ℕ
group_in (InGroup g z) = g
group_in (SameIssuer y z) = 0

abbrev pub first_in : Condition → ℕ
first_in (InGroup g z) = 0
first_in (SameIssuer y z) = name_byte y

abbrev pub second_in : Condition → ℕ
second_in (InGroup g z) = name_byte z
second_in (SameIssuer y z) = name_byte z

abbrev pub condition_bytes : Option Condition → List ℕ
condition_bytes (Some c) = group_in c ∷ first_in c ∷ second_in c ∷ []
condition_bytes None = replicate entry_size 0

unfoldable pub row_of : RuleForm → List ℕ
row_of form =
    (form.head.owner ∷ form.head.kind ∷ form.head.receiver.number ∷ count_by is_some form.prices ∷ count_by is_some form.conditions ∷ [])
    ++ flat_map price_bytes form.prices
    ++ flat_map condition_bytes form.conditions
    ++ replicate 3 0
