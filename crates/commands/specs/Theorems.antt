-- What is proved of the definitions, as named statements. `proofs/Theorems.antt` has a proof of each.
use Rattle.std.specs.Prelude.{◌≡◌, ◌↔◌, List, [], ◌∷◌, ℕ, ◌≤◌, T, length}
use Rattle.std.proofs.Math.Option.{some}
use Rattle.model.specs.Lists.{every, is_byte, ascii}
use Rattle.model.specs.Questions.{ok, refused, done, holding}
use Rattle.model.specs.Calls.{Call, issue, redeem, query, settle}
use Rattle.model.specs.Grammar.{decimal}
use Rattle.model.specs.Limits.{number_most}
use Rattle.commands.specs.Grammar.{hexadecimal, print_command, print_reply, print_bad, print_book, well_formed_call}
use Rattle.commands.specs.Reader.{pair_bytes}
use Rattle.commands.specs.Dialects.{has, command_in}
use Rattle.commands.specs.declared.Dialect.{Dialect}

-- in every dialect, a line is the command c exactly if it is not too long, the dialect has c, the line is c printed, and c is well formed
abbrev pub CommandsRead : Type 0
CommandsRead = (d : Dialect) (line : List ℕ) (c : Call)
    → (command_in d line ≡ some c) ↔ ((length line ≤ d.longest) × T (has d c) × (print_command c ≡ line) × T (well_formed_call c))

-- the bytes of a printed word are read back
abbrev pub BytesRead : Type 0
BytesRead = (bs : List ℕ) → T (every is_byte bs) → pair_bytes (hexadecimal bs) ≡ bs

-- a line of each form, as it is printed
pub record ExamplesPrinted : Type 0 where
  pub issuing : print_command (issue 1 1 2) ≡ ascii "I 1 1 2"
  pub redeeming : print_command (redeem 2 10 907) ≡ ascii "D 2 10 907"
  pub asking : print_command (query 1 3) ≡ ascii "H 1 3"
  pub settling : print_command (settle (1 ∷ 1 ∷ 2 ∷ []) (0 ∷ 175 ∷ [])) ≡ ascii "S 010102 00af"
  pub nothing : print_command (settle [] []) ≡ ascii "S - -"
  pub zero : decimal 0 ≡ ascii "0"
  pub most : decimal number_most ≡ ascii "4294967295"
  pub book : print_book 3 8 ≡ ascii "book 3 8\n"
  pub done-said : print_reply (ok done) ≡ ascii "0 0\n"
  pub refused-said : print_reply (refused 13 1) ≡ ascii "13 1\n"
  pub held : print_reply (ok (holding 1)) ≡ ascii "= 1\n"
  pub bad : print_bad ≡ ascii "bad\n"
