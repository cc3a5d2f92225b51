-- What is kept of a line, and what a line and a block print and leave.
use Rattle.std.specs.Prelude.{◌≡◌, List, ◌++◌, ℕ, ◌≤◌, length, take}
use Rattle.engine.specs.View.{book_in, state_in}
use Rattle.commands.specs.Grammar.{answer_size}
use Rattle.commands.specs.View.{Printed}
use Rattle.commands.specs.Dialects.{command_in}
use Rattle.session.specs.Input.{answer_to, after_line}
use Rattle.session.specs.Blocks.{Progress, block_says, after_block}
use Rattle.session.specs.declared.Session.{Session}

-- ---- a line of which the first bytes of a buffer are kept

-- what is kept is what was kept, and then the part, as far as there is room
pub record PartKept (s : Session) (buffer part : List ℕ) (s' : Session) (buffer' : List ℕ) : Type 0 where
  pub bytes : take s'.size buffer' ≡ take (length buffer) (take s.size buffer ++ part)
  pub within : s'.size ≤ length buffer
  pub long : length buffer' ≡ length buffer
  pub others : s' ≡ record s { size = s'.size }

-- ---- a line answered

pub record LineAnswered (s : Session) (line out : List ℕ) (s' : Session) (out' : List ℕ) (n : ℕ) : Type 0 where
  pub said : Printed answer_size (answer_to (book_in s.engine) (state_in s.engine) (command_in s.dialect line)) out out' n
  pub state : state_in s'.engine ≡ after_line (book_in s.engine) (state_in s.engine) (command_in s.dialect line)
  pub book : book_in s'.engine ≡ book_in s.engine
  pub others : s' ≡ record s { engine = s'.engine }

-- ---- a block answered

-- what is held, and what is kept of a line, as the definitions see them
abbrev pub progress_in : Session → List ℕ → Progress
progress_in s buffer = record { state = state_in s.engine; line = take s.size buffer }

pub record BlockAnswered (s : Session) (buffer block out : List ℕ) (s' : Session) (buffer' out' : List ℕ) (n : ℕ) : Type 0 where
  pub said : Printed (length out) (block_says s.dialect (book_in s.engine) (progress_in s buffer) block) out out' n
  pub progress : after_block s.dialect (book_in s.engine) (progress_in s buffer) block ≡ progress_in s' buffer'
  pub within : s'.size ≤ length buffer
  pub long : length buffer' ≡ length buffer
  pub dialect : s'.dialect ≡ s.dialect
  pub book : book_in s'.engine ≡ book_in s.engine
