-- Each transfer of the exchange is tested; one that is asked at most once is met, and the count in the list is the one in the exchange.
use borrow.Author.Rules.{rules}
use native.Mathlib.Omega.{arith}
use Prim.Native.Nat.{ℕ}
use mathlib.Core.Path.{◌≡◌, ◌∙◌}
use mathlib.Core.Bool.{◌||◌}
use lib.Dec.{leb}
use lib.ListN.{length, get_or, take}
use Rattle.std.proofs.lemmas.Iterator.{YieldsList-from_slice, YieldsList-from_zip}
use Rattle.std.proofs.lemmas.Iterator.Search.{all_from_yields_List}
use Rattle.std.proofs.lemmas.List.{get_or-take, length-take}
use Rattle.model.specs.Transfers.{count, transfer_at, exchange_of}
use Rattle.model.proofs.Loops.{every_cong}
use Rattle.transfers.specs.declared.Transfer.{Transfer}
use Rattle.transfers.specs.View.{transfer_of, transfers_of}
use Rattle.transfers.proofs.Listing.{zeros, list_size_lem, count≡, count-some}
use Rattle.judge.proofs.Paying.{met_once}
use Rattle.judge.proofs.Zipping.{zipped}
use Rattle.judge.proofs.notes.Notes.all_met.Goals as goal

pub returns : goal.returns
returns c =
    let s = c.args.self.now in
    let e = s.gifts.exchange.bytes.now in
    let short = s.gifts.exchange.short in
    let list = c.read_list-list.result in
    let n = c.len-n.result in
    let n≡ = c.len-n.ensures.0 in
    let size = list_size_lem list e short c.read_list-list.ensures in
    let part = take n list in
    let long : length part ≡ n = omega (arith, length-take n list, size, c.len-n.ensures.1) in
    let counts : length s.asked ≡ 32 = search rules in
    let met = λ (t : Transfer) (asked : ℕ). leb asked 1 || leb asked (count (transfer_of t) (transfers_of part)) in
    rw (← n≡)
    (all_from_yields_List {s = c.zip-counts.result} (λ p. met p.0 p.1) c.all.new.self _ _ c.all.ensures.ran (YieldsList-from_zip (YieldsList-from_slice part (search rules)) (YieldsList-from_slice s.asked (search rules))) (λ x b q k. (search rules, search rules))
    ∙ zipped met zeros 0 n part s.asked long (omega (arith, counts, c.len-n.ensures.1))
    ∙ every_cong (λ j. met (get_or part j zeros) (get_or s.asked j 0)) (λ j. leb (get_or s.asked j 0) (count (transfer_at e j) (exchange_of e))) n
    (λ j l.
    rw (get_or-take n list j zeros l)
    (met_once _ _ (count-some list n j l (omega (arith, c.len-n.ensures.1, size))) ∙ rw (n≡, count≡ list e short c.read_list-list.ensures j (omega (arith, l, n≡))))))
