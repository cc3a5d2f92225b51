-- The loop keeps that what is left to answer is the whole answer (`Going`); what a record tells that meets its questions is
-- gathered once (`turn`), and the goals of the turn are answered from it.
use borrow.Author.Rules.{rules}
use native.Mathlib.Omega.{arith}
use Prim.Native.Nat.{◌-◌, ◌/◌, ◌≤◌, ◌<◌}
use mathlib.Core.Path.{◌≡◌, sym, ◌∙◌, ap}
use mathlib.Core.Bool.{cond}
use mathlib.Core.List.{List, []}
use Prim.Native.Nat.{ℕ}
use lib.ListN.{length, get_or}
use Rattle.model.proofs.Chunks.{chunk_at}
use Rattle.model.specs.Transfers.{exchange_of}
use Rattle.rulebook.specs.View.{book_of}
use Rattle.judge.specs.inner.Counts.{is_paid}
use Rattle.answers.proofs.Exits.{exit}
use Rattle.answers.proofs.Numbers.{number_positive}
use Rattle.answers.specs.View.{placed}
use Rattle.judge.proofs.Asking.{refused_at, met_at}
use Rattle.judge.proofs.Following.{going_first, going_stops, going_ends, Turn, turn_facts}
use Rattle.model.specs.Questions.{ok, refused, done}
use Rattle.model.specs.Proof.{record_at, judge_chain}
use Rattle.judge.proofs.chain.follow.Goals as goal
use Rattle.judge.proofs.chain.follow.Goals.{After-is_paid, After-loop-left, After-at-rec, At-loop-left, In_ok-map_err, In-loop-left}

more : (c : In-loop-left) → 0 < c.loop-left.left
more c = omega (arith, c.loop-left-test.true)

-- the next record is one of the proof
here : (c : In-loop-left) → (1 ≤ c.loop-left.next) × (c.loop-left.next ≤ length c.as_chunks.result.0.now)
here c = let h = c.loop-left.invariant.1.here (more c) in (h.0, omega (arith, h, c.as_chunks.ensures.front_len))

taken : (c : After-at-rec) → c.at-rec.result.bytes.now ≡ record_at c.args.proof.now c.loop-left.next
unfolding record_at
taken c =
    let n = c.loop-left.next in
    let h = here (goal.at.After-at-rec c).In-loop-left in
    let cut = c.as_chunks.ensures in
    c.at-rec.ensures ∙ ap (λ (xs : List (List ℕ)). get_or xs (n - 1) []) cut.front ∙ chunk_at 12 (length c.args.proof.now / 12) (n - 1) c.args.proof.now [] (omega (arith, h, cut.front_len))

turn : (c : In_ok-map_err) → let o = c.loop-left in
    Turn c.args.tables.now.cards c.args.tables.now.rules c.args.exchange.bytes.now c.args.proof.now o.left o.notes c.at-rec.result.bytes.now
turn c =
    let o = c.loop-left in
    let told : placed o.next c.question-asked.result ≡ c.map_err.result = search rules in
    let met = met_at o.next c.question-asked.result _ (told ∙ c.in_ok-map_err.was) in
    let q = rw (o.invariant.0, c.as_chunks.ensures.front_len) at c.question-asked.ensures in
    turn_facts c.args.tables.now.cards c.args.tables.now.rules c.args.exchange.bytes.now c.args.proof.now c.args.exchange.short o.left o.notes o.invariant.0 o.next c.at-rec.result.bytes.now
    o.invariant.1 (more (goal.at.In_ok-map_err c).In-loop-left) (taken (goal.at.In_ok-map_err c).After-at-rec) (sym q ∙ met)

-- the answer after the loop is question 21's
ended : (c : After-loop-left) → let o = c.loop-left in
    cond (is_paid c.args.exchange.bytes.now o.notes.asked o.notes.missing) (ok done) (refused 21 0) ≡ judge_chain (book_of c.args.tables.now.cards c.args.tables.now.rules) (exchange_of c.args.exchange.bytes.now) c.args.proof.now
ended c =
    let o = c.loop-left in
    going_ends c.args.tables.now.cards c.args.tables.now.rules c.args.exchange.bytes.now c.args.proof.now c.args.exchange.short o.left o.notes.claimed o.notes.asked o.notes.missing o.next o.invariant.1 (omega (arith, c.loop-left-test.false))

-- by question 21
told : (c : After-is_paid) → cond c.is_paid.result (ok done) (refused 21 0) ≡ judge_chain (book_of c.args.tables.now.cards c.args.tables.now.rules) (exchange_of c.args.exchange.bytes.now) c.args.proof.now
told c = rw (c.is_paid.ensures, c.loop-left.invariant.0) (ended (goal.at.After-is_paid c).After-loop-left)

pub loop-left-init : goal.loop-left-init
loop-left-init c =
    let blank = c.new-notes.ensures in (
      blank.exchange,
      rw (c.len-n.ensures.0, blank.claimed, blank.asked, blank.missing)
          (going_first c.args.tables.now.cards c.args.tables.now.rules c.args.exchange.bytes.now c.args.proof.now c.args.exchange.short c.requires.some),
    )

pub returns-in_err-map_err : goal.returns-in_err-map_err
returns-in_err-map_err c =
    let at = goal.at.returns-in_err-map_err c in
    let o = c.loop-left in
    let out = exit _ _ c.from_residual.ensures.1 in
    let why = c.in_err-map_err.field-0.0 in
    let told : placed o.next c.question-asked.result ≡ c.map_err.result = search rules in
    let w = refused_at o.next c.question-asked.result why (told ∙ c.in_err-map_err.was) in
    let q = rw (o.invariant.0, taken at.After-at-rec, w.0, c.as_chunks.ensures.front_len) at c.question-asked.ensures in
    rw (out, q, w.1)
    (going_stops c.args.tables.now.cards c.args.tables.now.rules c.args.exchange.bytes.now c.args.proof.now c.args.exchange.short o.left o.notes.claimed o.notes.asked o.notes.missing o.next o.invariant.1 (more at.In-loop-left)
    (λ z. omega (arith, q, z, number_positive why.reason)))

pub note-requires : goal.note-requires
note-requires c = (turn (goal.at.note-requires c).In_ok-map_err).notable

pub loop-left-preserved : goal.loop-left-preserved
loop-left-preserved c =
    let on = (turn (goal.at.loop-left-preserved c).In_ok-map_err).on c.note.ensures in
    (on.0, rw c.next-next.ensures on.1)

pub returns-then-not-is_paid : goal.returns-then-not-is_paid
returns-then-not-is_paid c = rw c.into.ensures (rw c.if-not-is_paid.true at (told (goal.at.returns-then-not-is_paid c).After-is_paid))

pub returns : goal.returns
returns c = rw c.if-not-is_paid.false at (told (goal.at.returns c).After-is_paid)
