-- Each part is there, or there is no head.
use mathlib.Core.Path.{◌≡◌, sym, ◌∙◌}
use native.Mathlib.Omega.{arith}
use borrow.Author.Tests.{ltb-true, leb-true}
use borrow.Author.Rules.{rules}
use Rattle.std.proofs.lemmas.Option.{cond_some}
use Rattle.model.proofs.Places.{to_end}
use Rattle.model.proofs.Tests.{never_true}
use Rattle.letters.proofs.NameLaws.{kind_none, variable_none}
use Rattle.forms.proofs.Parts.{NumberHere, number_here, HeadRest, head_here, head_read, rest_long}
use Rattle.forms.proofs.rules.head_of.Goals as goal
use Rattle.forms.proofs.rules.head_of.Goals.{In_ok-owner}
use mathlib.Core.Bool.{false}
use Rattle.model.specs.Reader.{has_head}

-- the owner's number, and what follows it
owner : (c : In_ok-owner) → NumberHere c.args.line.now 2 c.in_ok-owner.owner c.in_ok-owner.rest.now
owner c = number_here c.args.line.now 2 c.in_ok-owner.ensures

-- what follows it has the rest of a head, or there is no head
lacking : (c : In_ok-owner) → (HeadRest c.in_ok-owner.rest.now → ⊥) → has_head c.args.line.now ≡ false
lacking c none = never_true _ (λ e. none (rw (owner c).left (head_here c.args.line.now e).rest))

pub returns-in_default-rest : goal.returns-in_default-rest
returns-in_default-rest c = lacking (goal.at.returns-in_default-rest c).In_ok-owner (λ r. let l = rest_long r in grind arith)

pub returns-in_err-kind : goal.returns-in_err-kind
returns-in_err-kind c =
    let e = kind_none _ (sym (sym c.kind.ensures ∙ c.in_err-kind.was)) in
    rw c.from_residual-in_err-kind.ensures (lacking (goal.at.returns-in_err-kind c).In_ok-owner (λ r. let k = r.kind in omega arith))

pub returns-in_err-receiver : goal.returns-in_err-receiver
returns-in_err-receiver c =
    let e = variable_none _ (sym (sym c.variable.ensures ∙ c.in_err-receiver.was)) in
    rw c.from_residual-in_err-receiver.ensures (lacking (goal.at.returns-in_err-receiver c).In_ok-owner (λ r. let v = r.receiver in omega arith))

pub returns : goal.returns
returns c =
    let v = c.in_ok-owner.rest.now in
    let (k, kind) = cond_some _ _ _ (sym c.kind.ensures ∙ c.in_ok-kind.was) in
    let (r, receiver) = cond_some _ _ _ (sym c.variable.ensures ∙ c.in_ok-receiver.was) in
    let there : HeadRest v = record { kind_space = search rules; kind = leb-true _ _ k; receiver_space = search rules; receiver = ltb-true _ _ r } in
    head_read c.args.line.now (search rules) (owner (goal.at.returns c).In_ok-owner) there (to_end v 4) kind receiver
