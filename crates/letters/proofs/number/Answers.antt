-- The first byte is a digit but no zero, and the second one a digit, or not.
use native.Mathlib.Omega.{arith}
use lib.ListN.{length, take, drop}
use Prim.Native.Nat.{◌-◌}
use Rattle.model.proofs.Places.{to_end}
use Rattle.letters.proofs.Numbers.{inside, no_number, two_digits, one_digit}
use Rattle.letters.proofs.number.Goals as goal

pub returns-in_default : goal.returns-in_default
returns-in_default c = let w = c.args.part.now in no_number w (λ l h. let i = inside w 0 (omega arith) in grind arith)

pub returns-in-48-to-57 : goal.returns-in-48-to-57
returns-in-48-to-57 c =
    let w = c.args.part.now in
    two_digits w (to_end w 1) (omega arith) (omega arith) c.in-49-to-57.len_at_least (to_end _ 1) c.in-48-to-57.len_at_least (omega arith) (omega arith)

pub returns-in_default-rest : goal.returns-in_default-rest
returns-in_default-rest c =
    let w = c.args.part.now in
    let v = take (length w - 1) (drop 1 w) in
    one_digit w (to_end w 1) (omega arith) (omega arith) c.in-49-to-57.len_at_least (λ l h. let i = inside v 0 (omega arith) in grind arith)
