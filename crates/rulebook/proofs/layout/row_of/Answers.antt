-- The writes are the definition's, over the form's parts.
use Rattle.std.proofs.Common.{◌∙◌, ap, rules}
use Rattle.std.specs.List.{flat_map}
use Rattle.rulebook.specs.inner.Rows.{price_bytes, condition_bytes, row_of}
use Rattle.rulebook.proofs.Mapped.{mapped}
use Rattle.rulebook.proofs.Bytes.{flat, row_put, prices-size, conditions-size}
use Rattle.rulebook.proofs.layout.row_of.Goals as goal

pub returns : goal.returns
unfolding row_of
returns c =
    let form = c.args.form in
    let m = mapped _ price_bytes (λ p q x y h. search rules) tt form.prices c.map.result 4 (search rules) c.map.ensures.items in
    let n = mapped _ condition_bytes (λ p q x y h. search rules) tt form.conditions c.map-2.result 4 (search rules) c.map-2.ensures.items in
    let f = c.copy_from_slice.ensures.after ∙ c.as_flattened.ensures.value ∙ ap (flat_map (λ x. x)) m ∙ flat price_bytes form.prices in
    let g = c.copy_from_slice-2.ensures.after ∙ c.as_flattened-2.ensures.value ∙ ap (flat_map (λ x. x)) n ∙ flat condition_bytes form.conditions in
    rw (c.count.ensures, c.count-2.ensures, f, g)
    (row_put _ _ _ _ _ (flat_map price_bytes form.prices) (flat_map condition_bytes form.conditions) (prices-size form.prices (search rules)) (conditions-size form.conditions (search rules)))
