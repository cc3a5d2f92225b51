-- What the parts promise, as a session's.
use mathlib.Core.Path.{◌≡◌, refl, sym, ◌∙◌, ap}
use mathlib.Core.List.{List, []}
use mathlib.Core.Logic.{◌≢◌}
use Prim.Native.Nat.{ℕ, ◌<◌, min}
use native.Mathlib.Omega.{arith}
use lib.ListN.{length, take}
use lib.Seq.{take_all, take-nil}
use Rattle.std.proofs.lemmas.List.{take_min}
use borrow.Author.Tests.{lt-leb}
use Rattle.engine.specs.View.{book_in, state_in}
use Rattle.commands.specs.Grammar.{answer_size}
use Rattle.commands.specs.View.{Printed}
use Rattle.session.specs.Input.{answers_to}
use Rattle.session.specs.Blocks.{line_room, block_says, after_block, end_says}
use Rattle.session.specs.View.{progress_of}
use Rattle.session.specs.Contract.{Feeds}
use Rattle.session.specs.inner.Parts.{LineAnswered}
use Rattle.session.specs.declared.Session.{Session}
use Rattle.session.proofs.Lines.{last_says}

-- ---- feeding

module _ (s : Session) (buffer block out : List ℕ) where
  -- a line lacks its room
  pub feeds_nothing : length buffer < line_room s.dialect → Feeds s buffer block out buffer out (record { session = s; taken = 0; count = 0 })
  unfolding block_says after_block
  feeds_nothing l = record {
    taken = rw (lt-leb (line_room s.dialect) (length buffer) l);
    said = record { put = rw (take-nil (length out)); counted = refl; fits = omega arith };
    progress = refl;
    dialect = refl;
    book = refl;
    beyond = refl;
    long = refl;
  }

-- ---- the end

module _ (s : Session) (buffer out : List ℕ) (size : ℕ) (z : size ≡ min (min s.size (line_room s.dialect)) (length buffer)) where
  abbrev kept_line : List ℕ
  kept_line = take (min s.size (line_room s.dialect)) buffer

  line_kept : take size buffer ≡ kept_line
  line_kept = ap (λ (k : ℕ). take k buffer) z ∙ take_min (min s.size (line_room s.dialect)) buffer

  pub ends-nothing : length (take size buffer) ≡ 0 → Printed answer_size (end_says s.dialect (book_in s.engine) (progress_of s buffer)) out out 0
  unfolding answers_to
  ends-nothing e =
      let q : kept_line ≡ [] = sym line_kept ∙ sym (take_all 0 (take size buffer) (omega (arith, e))) in
      rw q (record { put = rw (take-nil (length out)); counted = refl; fits = omega arith })

  pub ends-line : length (take size buffer) ≢ 0 → (s' : Session) (out' : List ℕ) (n : ℕ) → LineAnswered s (take size buffer) out s' out' n
      → Printed answer_size (end_says s.dialect (book_in s.engine) (progress_of s buffer)) out out' n
  ends-line f s' out' n a =
      let some : 0 < length (take size buffer) = omega (arith, f) in
      rw (← line_kept, last_says s.dialect (book_in s.engine) (state_in s.engine) (take size buffer) some) a.said
