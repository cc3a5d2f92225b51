-- Each return is one case of the question.
use borrow.Author.Rules.{rules}
use native.Mathlib.Omega.{arith}
use mathlib.Core.Path.{◌≡◌, sym, ◌∙◌, ap}
use Rattle.std.specs.Prelude.{Some}
use Rattle.std.specs.Option.{option_map}
use Rattle.std.specs.List.{slice_get}
use Rattle.model.specs.Transfers.{exchange_of}
use Rattle.transfers.specs.View.{transfer_of}
use Rattle.judge.proofs.Claiming.{claimable-zero, claimable-none, claimable-marked, claimable-free, place_small}
use Rattle.judge.proofs.notes.Notes.claimable.Goals as goal
use Rattle.judge.proofs.notes.Notes.claimable.Goals.{In_ok-claimed}

-- the transfer that was read
read : (c : In_ok-claimed) → slice_get (exchange_of c.args.self.now.gifts.exchange.bytes.now) c.in_ok-k.k ≡ Some (transfer_of c.in_ok-claimed.claimed)
read c = sym c.transfer_at.ensures ∙ ap (option_map transfer_of) c.in_ok-claimed.was

pub returns-in_err-k : goal.returns-in_err-k
returns-in_err-k c = rw c.from_residual.ensures (sym (claimable-zero c.args.self.now.claimed _ c.args.claim (search (rules, c.in_err-k.ensures))))

pub returns-in_err-claimed : goal.returns-in_err-claimed
returns-in_err-claimed c =
    let k = c.in_ok-k.ensures in
    let none = sym c.transfer_at.ensures ∙ ap (option_map transfer_of) c.in_err-claimed.was in
    rw c.from_residual-in_err-claimed.ensures (sym (claimable-none c.args.self.now.claimed _ c.args.claim c.in_ok-k.k (omega arith) (omega arith) none))

pub bounds-self-k : goal.bounds-self-k
bounds-self-k c = place_small _ c.args.self.now.gifts.exchange.short c.in_ok-k.k _ (read (goal.at.bounds-self-k c).In_ok-claimed)

pub returns-then-self-k : goal.returns-then-self-k
returns-then-self-k c = sym (claimable-marked c.args.self.now.claimed _ c.args.claim c.in_ok-k.k (omega arith) c.if-self-k.true)

pub returns : goal.returns
returns c =
    sym (claimable-free c.args.self.now.claimed _ c.args.claim c.in_ok-k.k _ (omega arith) (omega arith) (read (goal.at.returns c).In_ok-claimed) c.if-self-k.false)
