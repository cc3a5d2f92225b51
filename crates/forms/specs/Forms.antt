-- What is told of a group line and of a rule line, if they have the form: what the model's reader reads, as the program says it.
use Rattle.std.specs.Prelude.{Option, Some, None, if◌then◌else◌, List, [], ◌∷◌, map, ℕ, zero, suc, get_or}
use Rattle.model.specs.Limits.{price_limit, condition_limit}
use Rattle.model.specs.Grammar as model
use Rattle.model.specs.Grammar.{in_group, same_issuer, Rule}
use Rattle.model.specs.Reader.{group_of, number_at, rule_read, is_group_line, is_rule_line}
use Rattle.letters.specs.Letters.{variable_said, name_said}
use Rattle.forms.specs.declared.groups.GroupLine.{GroupLine}
use Rattle.forms.specs.declared.rules.Price.{Price}
use Rattle.forms.specs.declared.rules.Condition.{Condition}
use Rattle.forms.specs.declared.rules.Condition.TheVariants.{InGroup, SameIssuer}
use Rattle.forms.specs.declared.rules.Head.{Head}
use Rattle.forms.specs.declared.rules.RuleForm.{RuleForm}

-- ---- a group line

abbrev pub group_line_read : List ℕ → GroupLine
group_line_read w = record { group = group_of (get_or w 2 0); card = number_at w 4 }

abbrev pub group_line_in : List ℕ → Option GroupLine
group_line_in w = if is_group_line w then Some (group_line_read w) else None

-- ---- a rule line

abbrev pub price_said : model.Price → Price
price_said p = record { giver = variable_said p.from; kind = p.kind; receiver = name_said p.to }

abbrev pub condition_said : model.Condition → Condition
condition_said (in_group g z) = InGroup g (name_said z)
condition_said (same_issuer y z) = SameIssuer (name_said y) (name_said z)

abbrev pub head_said : Rule → Head
head_said r = record { owner = r.owner; kind = r.kind; receiver = variable_said r.head }

-- these things in the first of n places, and none in the others
abbrev pub in_places : {A : Type 0} → ℕ → List A → List (Option A)
in_places zero xs = []
in_places (suc n) [] = None ∷ in_places n []
in_places (suc n) (x ∷ xs) = Some x ∷ in_places n xs

abbrev pub form_said : Rule → RuleForm
form_said r = record {
  head = head_said r;
  prices = in_places price_limit (map price_said r.prices);
  conditions = in_places condition_limit (map condition_said r.conditions);
}

abbrev pub rule_form_in : List ℕ → Option RuleForm
rule_form_in w = if is_rule_line w then Some (form_said (rule_read w)) else None
