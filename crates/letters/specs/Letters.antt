-- What a byte stands for, as the program tells it, if it stands for anything.
use Rattle.std.specs.Prelude.{Bool, true, false, Option, Some, None, MatchOption, if◌then◌else◌, List, ℕ, ◌%◌, ◌≡◌, ◌≤◌, leb, length, drop}
use Rattle.std.specs.Borrow.{Bor}
use Rattle.std.proofs.Math.Nat.{mod-lt, zero-lt-suc}
use Rattle.model.specs.Limits.{variable_count}
use Rattle.model.specs.Grammar as model
use Rattle.model.specs.Grammar.{is_variable, var, star}
use Rattle.model.specs.Reader.{kind_of, variable_of, name_of, named, group_of, is_name_number, number_width, number_at}
use Rattle.letters.specs.declared.names.Variable.{Variable}
use Rattle.letters.specs.declared.names.Name.{Name}
use Rattle.letters.specs.declared.names.Name.TheVariants as said

-- a variable by its number: none is above 7
abbrev pub variable_said : ℕ → Variable
variable_said v = record { number = v % variable_count; few = mod-lt v (zero-lt-suc 7) }

abbrev pub name_said : model.Name → Name
name_said (var v) = said.Variable (variable_said v)
name_said star = said.Owner

abbrev pub name_meant : Name → model.Name
name_meant (said.Variable v) = var v.number
name_meant (said.Owner) = star

abbrev pub kind_in : ℕ → Option ℕ
kind_in x = if leb 1 (kind_of x) then Some (kind_of x) else None

abbrev pub variable_in : ℕ → Option Variable
variable_in x = if is_variable (variable_of x) then Some (variable_said (variable_of x)) else None

abbrev pub name_in : ℕ → Option Name
name_in x = if is_name_number (name_of x) then Some (name_said (named (name_of x))) else None

abbrev pub group_in : ℕ → Option ℕ
group_in x = if leb 1 (group_of x) then Some (group_of x) else None

-- a part of a line begins with something of so many bytes: this value, and what follows it
pub record Read {A : Type 0} (there : Bool) (said : A) (width : ℕ) (part : List ℕ) (value : A) (rest : List ℕ) : Type 0 where
  pub here : there ≡ true
  pub says : value ≡ said
  pub fits : width ≤ length part
  pub left : rest ≡ drop width part

abbrev pub Begins : {A : Type 0} → Bool → A → ℕ → List ℕ → Option (A × Bor (List ℕ)) → Type 0
Begins there said width part result = MatchOption result (there ≡ false) (λ read. Read there said width part read.0 read.1.now)

-- the number m
abbrev pub BeginsWithNumber : List ℕ → Option (ℕ × Bor (List ℕ)) → Type 0
BeginsWithNumber part result = Begins (leb 1 (number_width part 0)) (number_at part 0) (number_width part 0) part result
