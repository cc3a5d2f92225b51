-- The chain tests the variables in order; the mark says whether the rule uses one.
use borrow.Author.Rules.{rules}
use Prim.Native.Nat.{ℕ}
use native.Mathlib.Omega.{arith}
use mathlib.Core.Path.{◌∙◌}
use mathlib.Core.Bool.{Bool, false, cond}
use lib.Dec.{eqb}
use lib.ListN.{get_or, drop}
use Rattle.std.proofs.lemmas.Iterator.{YieldsList-from_slice, YieldsList-from_zip}
use Rattle.std.proofs.lemmas.Iterator.Search.{all_from_yields_List}
use Rattle.std.proofs.lemmas.List.{get_or-drop}
use Rattle.model.specs.Lists.{within}
use Rattle.model.proofs.Loops.{every_cong}
use Rattle.judge.specs.inner.Rows.{variable_fits}
use Rattle.judge.proofs.Zipping.{zipped}
use Rattle.judge.proofs.variables.variables_fit.Goals as goal

pub returns : goal.returns
unfolding variable_fits
returns c =
    let a = c.args in
    let r = a.approval.rec.bytes.now in
    let marks = c.used_variables-used.result in
    let fits = λ (x : ℕ) (used : Bool). cond used (within x a.declared) (eqb x 0) in
    let long = rw c.cards.ensures.0 at c.cards.ensures.1 in
    all_from_yields_List (λ p. fits p.0 p.1) c.all.new.self _ _ c.all.ensures.ran (YieldsList-from_zip (YieldsList-from_slice (drop 4 r) (search (rules, c.cards.ensures.0))) (YieldsList-from_slice marks (search rules))) (λ x b q k. search rules)
    ∙ zipped fits 0 false 8 (drop 4 r) marks long (omega (arith, c.used_variables-used.ensures.size))
    ∙ every_cong (λ v. fits (get_or (drop 4 r) v 0) (get_or marks v false)) (variable_fits a.declared a.approval.row.bytes.now r) 8 (λ v l. rw (c.used_variables-used.ensures.each v l, get_or-drop 4 r v 0))
