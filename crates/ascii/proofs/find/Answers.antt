-- The wanted byte is in none of the first i eights.
use mathlib.Core.Path.{◌≡◌, sym, ◌∙◌, ap}
use mathlib.Core.List.{[]}
use Prim.Native.Nat.{◌*◌, ◌+◌, ◌/◌, ◌<◌}
use native.Mathlib.Omega.{arith}
use lib.ListN.{length, get_or, drop, length-drop}
use Rattle.std.specs.Simd.{first_chunks}
use Rattle.std.specs.Prelude.{position, ◌==◌}
use Rattle.ascii.proofs.Places.{found, missed, found_in, missed_in, position_here, position_nowhere}
use Rattle.ascii.proofs.find.Goals as goal
use Rattle.ascii.proofs.find.Goals.{After-first, After-first-2}

-- the eight that a turn asks, where it is within the eights
eight : (c : After-first) → c.first.result ≡ position (λ y. y == c.args.wanted) (get_or (first_chunks 8 (length c.args.text.now / 8) c.args.text.now) c.loop-i.i [])
eight c = rw c.as_chunks.ensures.front at c.first.ensures

within : (c : After-first) → c.loop-i.i < length c.args.text.now / 8
within c = omega (arith, c.loop-i-test.true, c.as_chunks.ensures.front_len)

-- what the eights leave is asked at last
all : (c : After-first-2) → length c.as_chunks.result.0.now ≡ c.loop-i.i
all c = omega arith

last : (c : After-first-2) → c.as_chunks.result.1.now ≡ drop (c.loop-i.i * 8) c.args.text.now
last c = let e : length c.args.text.now / 8 ≡ c.loop-i.i = omega (arith, all c, c.as_chunks.ensures.front_len) in rw e at c.as_chunks.ensures.back

asked : (c : After-first-2) → c.first-2.result ≡ position (λ y. y == c.args.wanted) (drop (c.loop-i.i * 8) c.args.text.now)
asked c = c.first-2.ensures ∙ ap (position (λ y. y == c.args.wanted)) (last c)

few : (c : After-first-2) → c.loop-i.i * 8 + length (drop (c.loop-i.i * 8) c.args.text.now) ≡ length c.args.text.now
few c = omega (arith, all c, c.as_chunks.ensures.front_len, length-drop (c.loop-i.i * 8) c.args.text.now)

pub returns-in-Some : goal.returns-in-Some
returns-in-Some c =
    let a = c.args in
    let t = (goal.at.returns-in-Some c).After-first in
    let (here, few) = found_in a.wanted a.text.now c.loop-i.i (within t) c.in-Some.n (sym (eight t) ∙ c.in-Some.is) in
    sym (position_here a.wanted a.text.now _ (c.loop-i.invariant ∙ ap (λ k. c.loop-i.i * 8 + k) here) (omega (arith, within t)))

pub loop-i-preserved : goal.loop-i-preserved
loop-i-preserved c =
    let a = c.args in
    let t = (goal.at.loop-i-preserved c).After-first in
    let past = missed_in a.wanted a.text.now c.loop-i.i (within t) (sym (eight t) ∙ c.in_default.is) in
    omega (arith, c.loop-i.invariant)

pub returns-in_err-first : goal.returns-in_err-first
returns-in_err-first c =
    let a = c.args in
    let t = (goal.at.returns-in_err-first c).After-first-2 in
    let none = missed a.wanted (drop (c.loop-i.i * 8) a.text.now) (sym (asked t) ∙ c.in_err-first.was) in
    c.from_residual.ensures ∙ sym (position_nowhere a.wanted a.text.now (c.loop-i.invariant ∙ omega (arith, none, few t)))

pub returns : goal.returns
returns c =
    let a = c.args in
    let t = (goal.at.returns c).After-first-2 in
    let (here, in_last) = found a.wanted (drop (c.loop-i.i * 8) a.text.now) _ (sym (asked t) ∙ c.in_ok-first.was) in
    rw (all t) (sym (position_here a.wanted a.text.now _ (c.loop-i.invariant ∙ ap (λ k. c.loop-i.i * 8 + k) here) (omega (arith, few t))))
