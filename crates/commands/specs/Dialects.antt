-- Dialects: which commands a program answers, and how long its lines may be.
use Rattle.std.specs.Prelude.{Bool, true, false, ◌&&◌, ◌||◌, cond, List, ℕ, eqb, leb, length, get_or}
use Rattle.std.proofs.Math.Option.{Option, none}
use Rattle.model.specs.Limits.{line_limit}
use Rattle.model.specs.Lists.{any, ascii}
use Rattle.model.specs.Calls.{Call, issue, redeem, query, settle}
use Rattle.commands.specs.Reader.{read_command}
use Rattle.commands.specs.declared.Dialect.{Dialect}

-- the commands of document 01, the scope: "`I m k n` issue, `D m k n` redeem, `H m k` holding, `S` exchange proof"; so far there are no
-- others, and both dialects have every command
abbrev pub in_scope : Call → Bool
in_scope (issue m k n) = true
in_scope (redeem m k n) = true
in_scope (query m k) = true
in_scope (settle e p) = true

-- a dialect has every command, or the scope's alone
abbrev pub has : Dialect → Call → Bool
has d c = d.full || in_scope c

-- the scope's commands alone, and no line that is "over 8,192 bytes without its LF"
abbrev pub ringswap : Dialect
ringswap = record { longest = line_limit; full = false }

-- every command, and lines that a rule text in hexadecimal fits into
abbrev pub thawcroft : Dialect
thawcroft = record { longest = 40_960; full = true }

-- ---- by a line's bytes: `CommandsRead` of `Theorems.antt` holds these to the above, so they do not have to be believed

-- the letter of a command of the scope
abbrev pub is_scope_letter : ℕ → Bool
is_scope_letter x = any (eqb x) (ascii "IDHS")

-- a line is not too long and, where the scope's commands alone are answered, has a letter of theirs
unfoldable pub admits : Dialect → List ℕ → Bool
admits d line = leb (length line) d.longest && (d.full || is_scope_letter (get_or line 0 0))

-- the command that a line, without its LF, is in the dialect: none where the dialect does not admit it
unfoldable pub command_in : Dialect → List ℕ → Option Call
unfolding admits
command_in d line = cond (admits d line) (read_command line) none
