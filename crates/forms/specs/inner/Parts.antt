-- The parts of one sort that a line goes on with, one after another.
use Rattle.std.specs.Prelude.{◌≡◌, ◌≤◌, Bool, Option, List, ℕ, ◌*◌, length, drop}
use Rattle.model.specs.Lists.{up_to}
use Rattle.model.specs.Reader.{leading}
use Rattle.forms.specs.Forms.{in_places}

-- how many of a sort follow one another, at most n: whether a rest begins with one, and its bytes
abbrev pub count_in : (List ℕ → Bool) → ℕ → ℕ → List ℕ → ℕ
count_in there width n part = leading (λ i. there (drop (i * width) part)) n

-- they are what is found, and the rest follows them
pub record Leads {A : Type 0} (there : List ℕ → Bool) (said : List ℕ → A) (width n : ℕ) (part : List ℕ) (found : List (Option A)) (rest : List ℕ) : Type 0 where
  pub says : found ≡ in_places n (up_to (λ i. said (drop (i * width) part)) (count_in there width n part))
  pub fits : count_in there width n part * width ≤ length part
  pub left : rest ≡ drop (count_in there width n part * width) part
