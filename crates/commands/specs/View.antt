-- What the exported functions' values stand for: a command of a line, and what is left in a lent buffer.
use Rattle.std.specs.Prelude.{◌≡◌, List, ◌++◌, ℕ, ◌≤◌, min, length, take, drop, Option, Some, None, ⊤}
use Rattle.std.proofs.Math.Option as read
use Rattle.model.specs.Calls.{Call, issue, redeem, query, settle}
use Rattle.commands.specs.Reader.{pair_bytes}
use Rattle.commands.specs.declared.Command.{Command}
use Rattle.commands.specs.declared.Command.TheVariants.{Issue, Redeem, Query, Settle}

-- the call that a command is
abbrev pub command_of : Command → Call
command_of (Issue a n) = issue a.card a.kind n
command_of (Redeem a n) = redeem a.card a.kind n
command_of (Query a) = query a.card a.kind
command_of (Settle exchange proof) = settle (pair_bytes exchange.now) (pair_bytes proof.now)

-- what is read, where the program's option has what is read as B
abbrev pub read_as : {A B : Type 0} → (A → B) → Option A → read.Option B
read_as f (Some a) = read.some (f a)
read_as f None = read.none

-- the line is other bytes, then these, then others
abbrev pub LiesIn : List ℕ → List ℕ → Type 0
LiesIn s line = (before : List ℕ) × (after : List ℕ) × (line ≡ before ++ (s ++ after))

-- the words of hexadecimal of what is read lie in the line
abbrev pub WordsIn : List ℕ → Option Command → Type 0
WordsIn line (Some (Issue a n)) = ⊤
WordsIn line (Some (Redeem a n)) = ⊤
WordsIn line (Some (Query a)) = ⊤
WordsIn line (Some (Settle exchange proof)) = LiesIn exchange.now line × LiesIn proof.now line
WordsIn line None = ⊤

-- ---- buffers

-- bytes over a buffer's start, as far as there is room; the rest of the buffer is as it was
abbrev pub over : List ℕ → List ℕ → List ℕ
over bytes buffer = take (length buffer) bytes ++ drop (length bytes) buffer

-- the bytes are put there, and count tells how many there was room for
pub record Filled (bytes buffer after : List ℕ) (count : ℕ) : Type 0 where
  pub put : after ≡ over bytes buffer
  pub counted : count ≡ min (length bytes) (length buffer)

-- the text is put there, and count tells its length: it fits into any buffer with so much room
pub record Printed (room : ℕ) (text buffer after : List ℕ) (count : ℕ) : Type 0 where
  pub put : after ≡ over text buffer
  pub counted : count ≡ length text
  pub fits : length text ≤ room
