-- What beginning, feeding and finishing a session promise, of any bytes, any dialect, any session and any buffers.
use Rattle.std.specs.Prelude.{◌≡◌, Bool, cond, List, ℕ, ◌/◌, min, leb, length, take, drop}
use Rattle.model.specs.Opening.{opening, opened_book}
use Rattle.answers.specs.View.{answer_of}
use Rattle.engine.specs.View.{book_in}
use Rattle.commands.specs.Grammar.{answer_size}
use Rattle.commands.specs.View.{Printed}
use Rattle.commands.specs.declared.Dialect.{Dialect}
use Rattle.session.specs.Input.{heading}
use Rattle.session.specs.Blocks.{no_progress, line_room, block_says, after_block, end_says}
use Rattle.session.specs.View.{progress_of}
use Rattle.session.specs.declared.Session.{Session}
use Rattle.session.specs.declared.Begun.{Begun}
use Rattle.session.specs.declared.Fed.{Fed}

-- `out` and `out'` are the lent buffer before and afterwards
pub record Begins (d : Dialect) (text out out' : List ℕ) (r : Begun) : Type 0 where
  pub said : Printed answer_size (heading (opening text)) out out' r.count
  -- the first question that is answered no, or the text's book
  pub answers : answer_of (book_in r.session.engine) r.answer ≡ opening text
  pub dialect : r.session.dialect ≡ d
  -- the text's book, or that of the empty text where it is refused
  pub book : book_in r.session.engine ≡ opened_book text
  -- nothing is kept of a line, whatever is in the buffer that will be lent for it
  pub progress : (buffer : List ℕ) → progress_of r.session buffer ≡ no_progress

-- the buffer that is lent for a line has the room of the longest and one byte more
abbrev pub has_room : Dialect → List ℕ → Bool
has_room d buffer = leb (line_room d) (length buffer)

-- so many bytes of it are worked in
abbrev pub usable : Dialect → List ℕ → ℕ
usable d buffer = cond (has_room d buffer) (line_room d) 0

-- `buffer` and `buffer'` are that buffer before and afterwards
pub record Feeds (s : Session) (buffer block out buffer' out' : List ℕ) (r : Fed) : Type 0 where
  -- as much of the block as there is room to answer, if each byte of it had an answer; nothing where a line lacks its room
  pub taken : r.taken ≡ cond (has_room s.dialect buffer) (min (length block) (length out / answer_size)) 0
  pub said : Printed (length out) (block_says s.dialect (book_in s.engine) (progress_of s buffer) (take r.taken block)) out out' r.count
  pub progress : progress_of r.session buffer' ≡ after_block s.dialect (book_in s.engine) (progress_of s buffer) (take r.taken block)
  pub dialect : r.session.dialect ≡ s.dialect
  pub book : book_in r.session.engine ≡ book_in s.engine
  -- of the bytes that are worked in, those after the line are not told; after them the buffer is as it was
  pub beyond : drop (usable s.dialect buffer) buffer' ≡ drop (usable s.dialect buffer) buffer
  pub long : length buffer' ≡ length buffer

-- the answer to a last line without LF is printed, and counted
abbrev pub Finishes : Session → List ℕ → List ℕ → List ℕ → ℕ → Type 0
Finishes s buffer out out' count = Printed answer_size (end_says s.dialect (book_in s.engine) (progress_of s buffer)) out out' count
