-- A row's entries as chunks: each is the definition's of its number.
use mathlib.Core.Path.{◌≡◌, sym, ◌∙◌, ap}
use mathlib.Core.Bool.{Bool}
use mathlib.Core.List.{List, map}
use Prim.Native.Nat.{ℕ, ◌<◌}
use lib.ListN.{length, get_or, get_or-map, length-map}
use Rattle.std.specs.List.{list_all}
use Rattle.std.proofs.lemmas.List.Folds.{list_all-map}
use Rattle.model.specs.Lists.{every, up_to}
use Rattle.model.proofs.Loops.{every_places}
use Rattle.model.proofs.Places.{up_to_length, up_to_at}
use Rattle.model.proofs.Ranges.{list_all≡}
use Rattle.judge.specs.inner.Rows.{below}

module _ {A B : Type 0} (f : A → B) (xs : List A) (g : ℕ → B) (n : ℕ) (h : map f xs ≡ up_to g n) where
  pub entries_long : length xs ≡ n
  entries_long = sym (length-map xs f) ∙ ap length h ∙ up_to_length g n

  pub entry_is : (i : ℕ) (d : A) → i < n → f (get_or xs i d) ≡ g i
  entry_is i d l = sym (get_or-map f xs i d) ∙ ap (λ (ys : List B). get_or ys i (f d)) h ∙ up_to_at g n i (f d) l

  pub entries_all : (p : B → Bool) → list_all (λ x. p (f x)) xs ≡ every (λ i. p (g i)) (below n)
  entries_all p = sym (list_all-map p f xs) ∙ ap (list_all p) h ∙ list_all≡ p (up_to g n) ∙ every_places p g n
