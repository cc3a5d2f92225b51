-- Each return is one case of the questions; a line of the form has a group 1 to 8 and a card from 1 on.
use mathlib.Core.Path.{◌≡◌, sym, ◌∙◌, ap}
use mathlib.Core.Bool.{true}
use native.Mathlib.Omega.{arith}
use Rattle.model.specs.Reader.{number_at, is_group_line}
use Rattle.forms.specs.Forms.{group_line_read}
use Rattle.rulebook.proofs.Books.{count_small}
use Rattle.rulebook.proofs.Forms.{grouped, group-taken}
use Rattle.rulebook.proofs.Entries.{group_said}
use Rattle.rulebook.proofs.groups.take.Goals as goal
use Rattle.rulebook.proofs.groups.take.Goals.{Else-card_count-member, In_ok-member}

read : (c : In_ok-member) → (is_group_line c.args.line.now ≡ true) × (group_line_read c.args.line.now ≡ c.in_ok-member.member)
read c = group_said c.args.line.now (sym c.group_line.ensures ∙ grind arith)

pub add_member-requires : goal.add_member-requires
add_member-requires c =
    let (formed, said) = read (goal.at.add_member-requires c).In_ok-member in
    let g = grouped _ formed in
    let n = count_small c.args.cards.now in
    let card : number_at c.args.line.now 4 ≡ c.in_ok-member.member.card = ap (λ m. m.card) said in
    rw (← said) ((g.group-low, g.group_high), (g.card-low, omega (arith, c.if-card_count-member.false, c.card_count.ensures)))

pub returns : goal.returns
returns c =
    let (formed, said) = read (goal.at.returns c).In_ok-member in
    let card : number_at c.args.line.now 4 ≡ c.in_ok-member.member.card = ap (λ m. m.card) said in
    group-taken formed (omega (arith, c.if-card_count-member.false, c.card_count.ensures)) (rw (← said) at c.add_member.ensures)
