-- What a line says that has its form: its parts are there, and are those of the definitions.
use mathlib.Core.Path.{◌≡◌}
use mathlib.Core.Bool.{true}
use mathlib.Core.List.{List}
use Prim.Native.Nat.{ℕ}
use Rattle.std.specs.Prelude.{Some}
use Rattle.std.proofs.lemmas.Option.{cond_some}
use Rattle.model.specs.Reader.{is_card_line, card_read, is_group_line, is_rule_line, rule_read}
use Rattle.model.specs.Opening.{card_digits}
use Rattle.forms.specs.Numbers.{in_row, card_line_in}
use Rattle.forms.specs.Forms.{group_line_read, group_line_in, form_said, rule_form_in}
use Rattle.forms.specs.declared.cards.CardLine.{CardLine}
use Rattle.forms.specs.declared.groups.GroupLine.{GroupLine}
use Rattle.forms.specs.declared.rules.RuleForm.{RuleForm}

module _ (w : List ℕ) where
  pub card_said : {n : CardLine} → card_line_in w ≡ Some n → (is_card_line w ≡ true) × (in_row (card_digits (card_read w)) ≡ n)
  card_said {n} e = cond_some (is_card_line w) (in_row (card_digits (card_read w))) n e

  pub group_said : {m : GroupLine} → group_line_in w ≡ Some m → (is_group_line w ≡ true) × (group_line_read w ≡ m)
  group_said {m} e = cond_some (is_group_line w) (group_line_read w) m e

  pub rule_said : {f : RuleForm} → rule_form_in w ≡ Some f → (is_rule_line w ≡ true) × (form_said (rule_read w) ≡ f)
  rule_said {f} e = cond_some (is_rule_line w) (form_said (rule_read w)) f e
