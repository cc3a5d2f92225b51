-- The chain: what holds when a record is taken up, that a record which meets its questions leads to the next one with one transfer
-- fewer, and what is answered where a record is refused and where the chain has ended.
use mathlib.Core.Path.{◌≡◌, refl, sym, ◌∙◌, ap, ap₂}
use mathlib.Core.Bool.{Bool, true, false, not, cond, ◌&&◌, ◌||◌}
use mathlib.Core.List.{List, [], ◌∷◌, ◌++◌}
use Prim.Native.Nat.{ℕ, zero, suc, ◌+◌, ◌-◌, ◌*◌, ◌/◌, ◌≤◌, ◌<◌}
use native.Mathlib.Omega.{arith}
use lib.Dec.{eqb}
use lib.ListN.{length, get_or, set, take, replicate, length-set, length-replicate, length-append}
use lib.Seq.{take-set-lt}
use borrow.Author.Tests.{eq-eqb, ne_eqb}
use Rattle.model.specs.Lists.{within}
use Rattle.model.specs.Questions.{Answer, ok, refused, done, Reply, ◌unless◌, in_order, and_then, first_unmet}
use Rattle.model.specs.Grammar.{Rule}
use Rattle.model.specs.Transfers.{Exchange, contained, transfer_at, exchange_of}
use Rattle.model.specs.Fairness.{prices_of}
use Rattle.model.specs.Proof.{record_at, next, claim, rule_number, cards, asked, marked, record_questions, chain, judge_chain}
use Rattle.model.proofs.Tests.{both_true, within-true}
use Rattle.model.proofs.Places.{up_to_length}
use Rattle.model.proofs.Soundness.{unclaimed, unclaimed_set, unclaimed_first}
use Rattle.rulebook.specs.Layout.{row_at}
use Rattle.rulebook.specs.View.{rule_count, row_price_count, book_of}
use Rattle.transfers.specs.View.{transfer_count}
use Rattle.rulebook.proofs.Books.{rules_small}
use Rattle.judge.specs.inner.Rows.{price_asked, prices_asked}
use Rattle.judge.specs.inner.Records.{is_claimable, is_linked, questions16to19, questions15to20}
use Rattle.judge.specs.declared.notes.Notes.{Notes}
use Rattle.judge.specs.inner.Notes.{Notable, Noted}
use Rattle.judge.specs.inner.Counts.{Room, Asks, is_paid}
use Rattle.judge.proofs.Paying.{no_counts, asks_none, asks_more, asks_swap, counts_room, paid≡}
use Rattle.model.proofs.Questions.{unmet_append, first_refuses}
use Rattle.judge.proofs.Issuers.{prices≡, rule_at_lem}
use Rattle.judge.proofs.Agreeing.{free, agrees}

-- ---- what a record says that meets its questions

pub record Passed (card_table rule_table : List ℕ) (e r : List ℕ) (marks : List Bool) (left records : ℕ) : Type 0 where
  pub claimable : is_claimable marks (transfer_count e) (claim r) ≡ true
  pub claim_bounds : (1 ≤ claim r) × (claim r ≤ transfer_count e)
  pub rule_bounds : (1 ≤ rule_number r) × (rule_number r ≤ rule_count rule_table)
  pub linked : is_linked left (next r) records ≡ true

cond-zero : (x : Bool) (q k : ℕ) → cond x q (suc k) ≡ 0 → (x ≡ true) × (q ≡ 0)
cond-zero true q k h = (refl, h)
cond-zero false q k h = absurd (omega arith)

append_zero : (q k : ℕ) → cond (eqb q 0) k q ≡ 0 → k ≡ 0
append_zero zero k h = h
append_zero (suc q) k h = let z : suc q ≡ 0 = rw (ne_eqb (suc q) 0 (λ e. omega arith)) at h in absurd (omega arith)

pub passed : (card_table rule_table : List ℕ) (e r : List ℕ) (marks : List Bool) (left records : ℕ) → first_unmet (questions15to20 card_table rule_table e r marks left records) ≡ 0 → Passed card_table rule_table e r marks left records
unfolding questions15to20 questions16to19
passed card_table rule_table e r marks left records h =
    let a = cond-zero (is_claimable marks (transfer_count e) (claim r)) _ 14 h in
    let b = cond-zero (within (rule_number r) (rule_count rule_table)) _ 15 a.1 in
    let rule = questions16to19 card_table (row_at rule_table (rule_number r)) r (transfer_at e (claim r - 1)) in
    let link = (20 unless is_linked left (next r) records) ∷ [] in
    record {
      claimable = a.0;
      claim_bounds = within-true (claim r) (transfer_count e) (both_true (within (claim r) (transfer_count e)) _ a.0).0;
      rule_bounds = within-true (rule_number r) (rule_count rule_table) b.0;
      linked = (cond-zero (is_linked left (next r) records) 0 19 (append_zero (first_unmet rule) (first_unmet link) (sym (unmet_append rule link tt) ∙ b.1))).0;
    }

-- ---- the chain

module _ (card_table rule_table : List ℕ) (e p : List ℕ) where
  abbrev n : ℕ
  n = transfer_count e

  abbrev records : ℕ
  records = length p / 12

  -- question 21, asked of the prices of the whole chain
  abbrev paying : Exchange → Reply
  paying P = in_order ((21 unless contained P (exchange_of e)) ∷ []) 0 (ok done)

  -- the model's answer from record i on
  abbrev answer_from : ℕ → List Bool → Exchange → ℕ → Reply
  answer_from left marks P i = and_then (chain (book_of card_table rule_table) (exchange_of e) p left i (take n marks) P) paying

  -- record i is taken up, `left` transfers being unclaimed
  pub record Going (left : ℕ) (marks : List Bool) (counts : List ℕ) (missing : Bool) (i : ℕ) : Type 0 where
    pub prices : Exchange
    pub few : length prices + left * 4 ≤ n * 4
    pub asks : Asks e prices no_counts counts (not missing)
    pub size : length marks ≡ 32
    pub unclaimed≡ : unclaimed (take n marks) ≡ left
    pub here : 0 < left → (1 ≤ i) × (i * 12 ≤ length p)
    pub same : answer_from left marks prices i ≡ judge_chain (book_of card_table rule_table) (exchange_of e) p

  first_marks : (k m : ℕ) → k ≤ m → take k (replicate m false) ≡ replicate k false
  first_marks zero m h = refl
  first_marks (suc k) zero h = absurd (omega arith)
  first_marks (suc k) (suc m) h = ap (λ (z : List Bool). false ∷ z) (first_marks k m (omega arith))

  module _ (short : length e ≤ 96) where
    X-length : length (exchange_of e) ≡ n
    unfolding exchange_of
    X-length = up_to_length (transfer_at e) n

    pub going_first : 12 ≤ length p → Going n (replicate 32 false) no_counts false 1
    unfolding judge_chain
    going_first h =
        let none = first_marks n 32 (omega arith) in record {
          prices = [];
          few = omega arith;
          asks = asks_none e no_counts;
          size = length-replicate 32 false;
          unclaimed≡ = ap unclaimed none ∙ unclaimed_first n;
          here = λ l. omega arith;
          same = rw (none, X-length);
        }

    -- the model's chain by the first unmet question over the bytes
    chain_step : (left i : ℕ) (marks : List Bool) (P : Exchange) → length marks ≡ 32 → 0 < left → unclaimed (take n marks) ≡ left
        → chain (book_of card_table rule_table) (exchange_of e) p left i (take n marks) P
        ≡ cond (eqb (first_unmet (questions15to20 card_table rule_table e (record_at p i) marks (left - 1) records)) 0)
        (chain (book_of card_table rule_table) (exchange_of e) p (left - 1) (next (record_at p i)) (marked (take n marks) (record_at p i)) (asked (book_of card_table rule_table) (record_at p i) ++ P))
        (refused (first_unmet (questions15to20 card_table rule_table e (record_at p i) marks (left - 1) records)) i)
    unfolding chain
    chain_step zero i marks P s h u = absurd (omega arith)
    chain_step (suc left) i marks P s h u =
        let b = book_of card_table rule_table in
        let r = record_at p i in
        let rest = chain b (exchange_of e) p left (next r) (marked (take n marks) r) (asked b r ++ P) in
        let d : suc left - 1 ≡ left = omega arith in
        rw d
        (first_refuses (record_questions b (exchange_of e) records r (take n marks)) i rest tt
        ∙ ap (λ (q : ℕ). cond (eqb q 0) rest (refused q i)) (agrees card_table rule_table e short r marks s left records u))

    module _ (left : ℕ) (marks : List Bool) (counts : List ℕ) (missing : Bool) (i : ℕ) (g : Going left marks counts missing i) where
      abbrev r : List ℕ
      r = record_at p i

      -- the number that the record's questions give
      abbrev q : ℕ
      q = first_unmet (questions15to20 card_table rule_table e r marks (left - 1) records)

      -- each count has room for the prices of one more record
      pub room : 0 < left → Room e 4 counts
      room l = counts_room e g.prices counts (not missing) 4 short g.asks (omega (arith, g.few))

      turn : 0 < left → chain (book_of card_table rule_table) (exchange_of e) p left i (take n marks) g.prices
          ≡ cond (eqb q 0) (chain (book_of card_table rule_table) (exchange_of e) p (left - 1) (next r) (marked (take n marks) r) (asked (book_of card_table rule_table) r ++ g.prices)) (refused q i)
      turn l = chain_step left i marks g.prices g.size l g.unclaimed≡

      -- a record that does not meet a question is refused
      pub going_stops : 0 < left → (q ≡ 0 → ⊥) → refused q i ≡ judge_chain (book_of card_table rule_table) (exchange_of e) p
      going_stops l h =
          let stopped : chain (book_of card_table rule_table) (exchange_of e) p left i (take n marks) g.prices ≡ refused q i = rw (ne_eqb q 0 h) at (turn l) in
          rw stopped at g.same

      -- the chain has ended
      pub going_ends : left ≤ 0 → cond (is_paid e counts missing) (ok done) (refused 21 0) ≡ judge_chain (book_of card_table rule_table) (exchange_of e) p
      unfolding chain
      going_ends l =
          let z : left ≡ 0 = omega arith in
          rw (paid≡ e g.prices counts missing short g.asks) (rw z at g.same)

      module _ (some : 0 < left) (met : q ≡ 0) where
        abbrev row : List ℕ
        row = row_at rule_table (rule_number r)

        abbrev ok_record : Passed card_table rule_table e r marks (left - 1) records
        ok_record = passed card_table rule_table e r marks (left - 1) records met

        -- the next record is taken up
        pub going_on : (after : List ℕ) (found : Bool) → Asks e (prices_asked row r) counts after found
            → Going (left - 1) (set marks (claim r - 1) true) after (missing || not found) (next r)
        going_on after found h = record {
          prices = prices_asked row r ++ g.prices;
          few = omega (arith, g.few, length-append (prices_asked row r) g.prices, up_to_length (price_asked row r) (row_price_count row));
          asks = asks_swap e g.prices (prices_asked row r) no_counts after _ (rw (both_found missing found) (asks_more e g.prices (prices_asked row r) no_counts counts after (not missing) found g.asks h));
          size = length-set marks (claim r - 1) true ∙ g.size;
          unclaimed≡ = ap unclaimed marks≡ ∙ omega (arith, g.unclaimed≡, unclaimed_set (take n marks) (claim r - 1) unmarked);
          here = λ l. next_here l;
          same = same_answer;
        }
          where
            both_found : (x y : Bool) → not (x || not y) ≡ (not x && y)
            both_found true y = refl
            both_found false true = refl
            both_found false false = refl

            claim-low : claim r - 1 < n
            claim-low = omega (arith, ok_record.claim_bounds)

            marks≡ : take n (set marks (claim r - 1) true) ≡ set (take n marks) (claim r - 1) true
            marks≡ = take-set-lt n marks (claim r - 1) true claim-low

            unmarked : get_or (take n marks) (claim r - 1) true ≡ false
            unmarked = free card_table rule_table e short r marks g.size ok_record.claimable

            next_here : 0 < left - 1 → (1 ≤ next r) × (next r * 12 ≤ length p)
            next_here l = let w = within-true (next r) records (rw (ne_eqb (left - 1) 0 (λ z. omega arith)) at ok_record.linked) in omega arith

            asked≡ : asked (book_of card_table rule_table) r ≡ prices_asked row r
            asked≡ =
                ap (λ (R : Rule). prices_of R (cards r)) (rule_at_lem card_table rule_table (rule_number r) ok_record.rule_bounds.0 ok_record.rule_bounds.1) ∙ prices≡ row r

            same_answer : answer_from (left - 1) (set marks (claim r - 1) true) (prices_asked row r ++ g.prices) (next r) ≡ judge_chain (book_of card_table rule_table) (exchange_of e) p
            same_answer =
                ap (λ (z : Answer Exchange). and_then z paying)
                (ap₂ (λ (m : List Bool) (P : Exchange). chain (book_of card_table rule_table) (exchange_of e) p (left - 1) (next r) m (P ++ g.prices)) marks≡ (sym (asked≡))
                ∙ sym (turn some ∙ rw (eq-eqb q 0 met)))
                ∙ g.same

-- ---- a turn of the loop

-- what is known of record r, record i of the chain, once it has met its questions
pub record Turn (card_table rule_table : List ℕ) (e p : List ℕ) (left : ℕ) (notes : Notes) (r : List ℕ) : Type 0 where
  pub notable : Notable r notes
  pub on : {after : Notes} → Noted rule_table r notes after
      → (after.gifts.exchange.bytes.now ≡ e) × Going card_table rule_table e p (left - 1) after.claimed after.asked after.missing (next r)

pub turn_facts : (card_table rule_table : List ℕ) (e p : List ℕ) → length e ≤ 96 → (left : ℕ) (notes : Notes) → notes.gifts.exchange.bytes.now ≡ e → (i : ℕ) (r : List ℕ)
    → Going card_table rule_table e p left notes.claimed notes.asked notes.missing i → 0 < left → r ≡ record_at p i
    → first_unmet (questions15to20 card_table rule_table e r notes.claimed (left - 1) (length p / 12)) ≡ 0
    → Turn card_table rule_table e p left notes r
turn_facts card_table rule_table e p short left notes e≡ i r g some r≡ met =
    let w = passed card_table rule_table e r notes.claimed (left - 1) (length p / 12) met in
    record {
      notable = record {
        claim_bounds = omega (arith, w.claim_bounds);
        rule_bounds = omega (arith, w.rule_bounds, rules_small rule_table);
        room = rw e≡ (room card_table rule_table e p short left notes.claimed notes.asked notes.missing i g some);
      };
      on = λ {after} h. (
        h.asked.exchange ∙ e≡,
        rw (h.claimed, h.asked.missing, r≡)
            (going_on card_table rule_table e p short left notes.claimed notes.asked notes.missing i g some (rw r≡ at met) after.asked h.asked.found (rw (e≡, r≡) at h.asked.asks)),
      );
    }
