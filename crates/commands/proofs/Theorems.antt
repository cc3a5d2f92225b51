-- A proof of each statement of specs/Theorems.antt.
use mathlib.Core.Path.{◌≡◌, refl, sym, ◌∙◌, ap}
use mathlib.Core.Bool.{Bool, true, false, ◌&&◌, cond}
use mathlib.Core.List.{List}
use mathlib.Core.Option.{none, some}
use Prim.Native.Nat.{ℕ, ◌≤◌}
use lib.Dec.{T, leb, leb→le, le→leb}
use lib.ListN.{length, get_or}
use Rattle.model.specs.Lists.{ascii}
use Rattle.model.specs.Reader.{digit_of}
use Rattle.model.specs.Grammar.{decimal_in, decimal}
use Rattle.model.specs.Limits.{number_most}
use Rattle.commands.specs.Reader.{value_from, is_plain, read_number, read_command}
use Rattle.commands.specs.Grammar.{print_command, well_formed_call}
use Rattle.commands.specs.Dialects.{in_scope, has, is_scope_letter, admits, command_in}
use Rattle.commands.specs.declared.Dialect.{Dialect}
use Rattle.model.proofs.Tests.{T-eq, and, both}
use Rattle.model.specs.Calls.{Call, issue, redeem, query, settle}
use Rattle.model.proofs.Facts.{never}
use Rattle.commands.specs.Theorems.{CommandsRead, BytesRead, ExamplesPrinted}
use Rattle.commands.proofs.Decimals.{number-taken}
use Rattle.commands.proofs.Pairs.{word-printed}
use Rattle.commands.proofs.Commands.{printed_read, read_printed}

-- what is read where a line is admitted
admitted_read : (a : Bool) (line : List ℕ) (c : Call) → cond a (read_command line) none ≡ some c → T a × (print_command c ≡ line) × T (well_formed_call c)
admitted_read true line c e = let r = read_printed line c e in (tt, r.0, r.1)
admitted_read false line c e = never (cc)

-- a printed command has a letter of the scope exactly if it is one of the scope's
by_letter : (c : Call) → is_scope_letter (get_or (print_command c) 0 0) ≡ in_scope c
by_letter (issue m k n) = refl
by_letter (redeem m k n) = refl
by_letter (query m k) = refl
by_letter (settle e p) = refl

-- so a command's line is admitted exactly if it is not too long and the dialect has the command
admits_command : (d : Dialect) (line : List ℕ) (c : Call) → print_command c ≡ line → admits d line ≡ (leb (length line) d.longest && has d c)
unfolding admits
admits_command d line c e = rw (← e, by_letter c)

pub commands_read : CommandsRead
unfolding command_in
commands_read d line c = (there, back)
  where
    there : command_in d line ≡ some c → (length line ≤ d.longest) × T (has d c) × (print_command c ≡ line) × T (well_formed_call c)
    there e =
        let r = admitted_read (admits d line) line c e in
        let t = both (leb (length line) d.longest) (has d c) (rw (admits_command d line c r.1) at r.0) in
        (leb→le (length line) d.longest t.0, t.1, r.1, r.2)

    back : (length line ≤ d.longest) × T (has d c) × (print_command c ≡ line) × T (well_formed_call c) → command_in d line ≡ some c
    back p =
        let t = and (leb (length line) d.longest) (has d c) (le→leb (length line) d.longest p.0) p.1 in
        rw (admits_command d line c p.2, T-eq (leb (length line) d.longest && has d c) t) (sym (ap read_command p.2) ∙ printed_read c p.3)

pub bytes_read : BytesRead
bytes_read bs t = (word-printed bs t).1

pub examples_printed : ExamplesPrinted
unfolding decimal decimal_in read_number is_plain value_from digit_of
examples_printed = record {
  issuing = refl;
  redeeming = refl;
  asking = refl;
  settling = refl;
  nothing = refl;
  zero = refl;
  most = (number-taken (ascii "4294967295") number_most refl).0;
  book = refl;
  done-said = refl;
  refused-said = refl;
  held = refl;
  bad = refl;
}
