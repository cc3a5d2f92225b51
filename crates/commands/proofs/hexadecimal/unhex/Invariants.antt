-- The loop has put the bytes of the first n pairs, which end where the rest begins.
use Rattle.commands.specs.Reader.{pair_bytes}
use Rattle.commands.proofs.Buffers.{Filling}
use Rattle.commands.proofs.hexadecimal.unhex.Given as goal

abbrev pub invariant-loop-n : goal.invariant-loop-n
invariant-loop-n l = Filling (pair_bytes l.word) l.initial.out l.out (pair_bytes l.rest) l.n
