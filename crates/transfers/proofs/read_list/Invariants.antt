-- The transfers before place i are read.
use Rattle.transfers.proofs.Listing.{Begun}
use Rattle.transfers.proofs.read_list.Given as goal

abbrev pub invariant-loop-i : goal.invariant-loop-i
invariant-loop-i l = Begun l.exchange l.i l.list
