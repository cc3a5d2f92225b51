-- The programs' command lines and answers, as printers: a command is a call of the model, and a line that is not too long is a command if
-- it is a printed well-formed call that the program's dialect has (`Dialects.antt`). `Theorems.antt` states that the reader takes these
-- lines and no others. Command lines are here without their LF, answers with it.
use Rattle.std.specs.Prelude.{Bool, ◌&&◌, cond, List, [], ◌∷◌, ◌++◌, ℕ, ◌+◌, ◌-◌, ◌/◌, ◌%◌, leb}
use Prim.Native.Char.{code}
use Rattle.model.specs.Limits.{number_most}
use Rattle.model.specs.Lists.{every, each, ascii, is_byte}
use Rattle.model.specs.Grammar.{digit, decimal, spaced}
use Rattle.model.specs.Questions.{ok, refused, done, holding, Reply}
use Rattle.model.specs.Calls.{Call, issue, redeem, query, settle}

-- ---- numbers and bytes

-- 0 to 9, then a to f
abbrev pub hex_digit : ℕ → ℕ
hex_digit d = cond (leb d 9) (digit d) (code "a" + (d - 10))

-- "two digits a byte"
abbrev pub hex_byte : ℕ → List ℕ
hex_byte b = hex_digit (b / 16) ∷ hex_digit (b % 16) ∷ []

-- "`-` for none"
abbrev pub hexadecimal : List ℕ → List ℕ
hexadecimal [] = ascii "-"
hexadecimal (b ∷ bs) = each hex_byte (b ∷ bs)

-- ---- commands

abbrev pub command_words : Call → List (List ℕ)
command_words (issue m k n) = ascii "I" ∷ decimal m ∷ decimal k ∷ decimal n ∷ []
command_words (redeem m k n) = ascii "D" ∷ decimal m ∷ decimal k ∷ decimal n ∷ []
command_words (query m k) = ascii "H" ∷ decimal m ∷ decimal k ∷ []
command_words (settle e p) = ascii "S" ∷ hexadecimal e ∷ hexadecimal p ∷ []

-- "Words stand one space apart"
abbrev pub print_command : Call → List ℕ
print_command c = spaced (command_words c)

-- "decimal to 4,294,967,295"
abbrev pub is_number : ℕ → Bool
is_number n = leb n number_most

abbrev pub well_formed_call : Call → Bool
well_formed_call (issue m k n) = is_number m && (is_number k && is_number n)
well_formed_call (redeem m k n) = is_number m && (is_number k && is_number n)
well_formed_call (query m k) = is_number m && is_number k
well_formed_call (settle e p) = every is_byte e && every is_byte p

-- ---- answers, each with its LF

abbrev pub answer_line : List (List ℕ) → List ℕ
answer_line ws = spaced ws ++ ascii "\n"

-- "`0 0`, or number and place, or `=` and the holding"
abbrev pub print_reply : Reply → List ℕ
print_reply (ok done) = answer_line (ascii "0" ∷ ascii "0" ∷ [])
print_reply (ok (holding n)) = answer_line (ascii "=" ∷ decimal n ∷ [])
print_reply (refused n i) = answer_line (decimal n ∷ decimal i ∷ [])

-- an ill-formed line's answer, and a missing book's
abbrev pub print_bad : List ℕ
print_bad = answer_line (ascii "bad" ∷ [])

-- "`book` cards rules"
abbrev pub print_book : ℕ → ℕ → List ℕ
print_book cards rules = answer_line (ascii "book" ∷ decimal cards ∷ decimal rules ∷ [])

-- no answer is longer
abbrev pub answer_size : ℕ
answer_size = 32
