-- A text cut at a byte.
use Rattle.std.specs.Prelude.{◌≡◌, T, List, [], ◌∷◌, ◌++◌, ℕ}
use Rattle.model.specs.Lists.{lacks}

-- the text is what comes before the first byte x, then x, then what comes after
pub record CutAt (x : ℕ) (text before after : List ℕ) : Type 0 where
  pub whole : text ≡ (before ++ (x ∷ [])) ++ after
  pub first : T (lacks x before)
