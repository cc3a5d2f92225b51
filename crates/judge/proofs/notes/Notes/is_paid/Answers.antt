-- Each return is one case of the question; a transfer that is asked at most once is met.
use borrow.Author.Rules.{rules}
use native.Mathlib.Omega.{arith}
use mathlib.Core.Path.{◌≡◌, sym, ◌∙◌}
use lib.ListN.{length}
use Rattle.judge.specs.inner.Counts.{is_paid}
use Rattle.judge.proofs.Paying.{once_met}
use Rattle.judge.proofs.notes.Notes.is_paid.Goals as goal

pub returns-then-asked_once : goal.returns-then-asked_once
unfolding is_paid
returns-then-asked_once c =
    let s = c.args.self.now in
    let n = c.len.ensures.0 in
    let size : length s.asked ≡ 32 = search rules in
    let once = rw n at (sym c.asked_once.ensures ∙ c.if-asked_once.true) in
    rw c.if-not-self.true (c.if-asked_once.true ∙ sym (once_met s.gifts.exchange.bytes.now s.asked size (omega (arith, n, c.len.ensures.1)) once))

pub returns-else-asked_once : goal.returns-else-asked_once
unfolding is_paid
returns-else-asked_once c = rw c.if-not-self.true c.all_met.ensures

pub returns-else-not-self : goal.returns-else-not-self
unfolding is_paid
returns-else-not-self c = rw c.if-not-self.false
