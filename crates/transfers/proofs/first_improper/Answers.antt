-- The chain tests the transfers in order.
use borrow.Author.Rules.{rules}
use Prim.Native.Nat.{ℕ, ◌+◌}
use Rattle.std.specs.Option.{option_map}
use mathlib.Core.Path.{◌≡◌, sym, ◌∙◌, ap}
use mathlib.Core.Bool.{not}
use mathlib.Core.List.{List}
use Rattle.std.specs.Prelude.{position}
use Rattle.std.proofs.lemmas.Iterator.{YieldsList-from_slice}
use Rattle.std.proofs.lemmas.Iterator.Search.{position_from_yields_List}
use Rattle.model.specs.Transfers.{Transfer, exchange_of}
use Rattle.model.specs.Fairness.{is_proper_of}
use Rattle.transfers.proofs.Chunks.{of_bytes, position≡}
use Rattle.transfers.proofs.Improper.{told_place}
use Rattle.transfers.proofs.first_improper.Goals as goal

pub returns : goal.returns
returns c =
    let e = c.args.exchange.now in
    let p = λ (t : Transfer). not (is_proper_of c.args.declared t) in
    let found : c.position.result ≡ position (λ (b : List ℕ). p (of_bytes b)) c.as_chunks.result.0.now =
    position_from_yields_List (λ (b : List ℕ). p (of_bytes b)) _ _ _ c.position.ensures.ran (YieldsList-from_slice c.as_chunks.result.0.now (search rules)) (λ x b q k. search rules) in
    let place : c.position.result ≡ position p (exchange_of e) = found ∙ ap (position (λ (b : List ℕ). p (of_bytes b))) c.as_chunks.ensures.front ∙ position≡ p e in
    let number : c.map.result ≡ option_map (λ i. i + 1) c.position.result = search rules in
    number ∙ ap (option_map (λ (i : ℕ). i + 1)) place ∙ sym (told_place (is_proper_of c.args.declared) (exchange_of e))
