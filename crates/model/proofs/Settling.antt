-- What a call that is not refused says, and that every fair covered exchange among the cards has a proof that settles it.
use mathlib.Core.Path.{◌≡◌, refl, sym, ◌∙◌}
use mathlib.Core.Bool.{Bool, true, false, ◌&&◌, cond}
use mathlib.Core.Logic.{◌≢◌}
use mathlib.Core.List.{List, [], ◌∷◌, ◌++◌}
use Prim.Native.Nat.{ℕ, zero, suc, ◌+◌, ◌*◌, ◌/◌, ◌≤◌}
use native.Mathlib.Omega.{arith}
use lib.Dec.{T, leb, leb→le, le→leb}
use lib.ListN.{length, replicate}
use Rattle.model.specs.Limits.{card_limit, kind_count, sum_limit, transfer_size, exchange_limit, record_size, proof_limit}
use Rattle.model.specs.Lists.{is_byte, every, first_failing, one_to}
use Rattle.model.specs.Questions.{Answer, ok, refused, Told, done, holding, Reply, Question, ◌unless◌, in_order, and_then}
use Rattle.model.specs.Book.{Book}
use Rattle.model.specs.Transfers.{Exchange, contained, transfer_at, exchange_of}
use Rattle.model.specs.Fairness.{Fair, is_proper, Among}
use Rattle.model.specs.Holdings.{State, gives, receives, Covered, is_covered, settled, sum_to, total}
use Rattle.model.specs.Proof.{record_at, next, asked, marked, record_questions, chain, judge_chain}
use Rattle.model.specs.Calls.{query, settle, account_questions, is_sized, ends_limited, judging, reply_to}
use Rattle.model.proofs.Tests.{T-eq, both, every_in}
use Rattle.model.proofs.Places.{up_to_length, every-one_to, in_one_to}
use Rattle.model.proofs.Questions.{in_order-ok, in_order-met, and_then_ok}
use Rattle.model.proofs.Soundness.{passed_fair}
use Rattle.model.proofs.Completeness.{Shaped, complete}
use Rattle.model.proofs.Sums.{sum_add, sum_part, given-is-received, covered→, →covered}

-- ---- a settlement that is not refused

pub record Settled (b : Book) (s : State) (e : List ℕ) : Type 0 where
  pub sized : T (is_sized transfer_size exchange_limit e)
  pub among : Among b (exchange_of e)
  pub is_fair : Fair b (exchange_of e)
  pub covered : Covered s (exchange_of e)

-- what questions 12 to 14 say of bytes that pass up to 21
pub record Judged (b : Book) (e p : List ℕ) (t : Told) : Type 0 where
  pub sized : T (is_sized transfer_size exchange_limit e)
  pub among : Among b (exchange_of e)
  pub judged : judge_chain b (exchange_of e) p ≡ ok t

pub judged-ok : (b : Book) (e p : List ℕ) (t : Told) → judging b e p ≡ ok t → Judged b e p t
unfolding judging
judged-ok b e p t h =
    let q12 = in_order-ok ((12 unless is_sized transfer_size exchange_limit e) ∷ []) 0 _ t h in
    let q13 = in_order-ok ((13 unless every (is_proper b) (exchange_of e)) ∷ []) (first_failing (is_proper b) 1 (exchange_of e)) _ t q12.1 in
    let q14 = in_order-ok ((14 unless is_sized record_size proof_limit p) ∷ []) 0 _ t q13.1 in
    record { sized = q12.0.0; among = q13.0.0; judged = q14.1 }

pub settled-ok : (b : Book) (s : State) (e p : List ℕ) (t : Told) → reply_to b s (settle e p) ≡ ok t → Settled b s e
unfolding reply_to
settled-ok b s e p t h =
    let j = and_then_ok (judging b e p) _ t h in
    let k = judged-ok b e p j.0 j.1 in
    let q = in_order-ok ((22 unless is_covered s (exchange_of e)) ∷ (23 unless ends_limited b s (exchange_of e)) ∷ []) 0 (ok done) t j.2 in
    record {
      sized = k.sized;
      among = k.among;
      is_fair = passed_fair b (exchange_of e) p j.0 k.among k.judged;
      covered = covered→ s (exchange_of e) q.0.0;
    }

-- judging and settling tell no more than that they are done
pub judging-done : (b : Book) (e p : List ℕ) (t : Told) → judging b e p ≡ ok t → t ≡ done
unfolding judge_chain
judging-done b e p t h =
    let j = and_then_ok (chain b (exchange_of e) p (length (exchange_of e)) 1 (replicate (length (exchange_of e)) false) []) _ t (judged-ok b e p t h).judged in
    let r = (in_order-ok ((21 unless contained j.0 (exchange_of e)) ∷ []) 0 (ok done) t j.2).1 in
    cc

pub only-done : (b : Book) (s : State) (e p : List ℕ) (t : Told) → reply_to b s (settle e p) ≡ ok t → t ≡ done
unfolding reply_to
only-done b s e p t h =
    let j = and_then_ok (judging b e p) _ t h in
    let q = in_order-ok ((22 unless is_covered s (exchange_of e)) ∷ (23 unless ends_limited b s (exchange_of e)) ∷ []) 0 (ok done) t j.2 in
    let r = q.1 in
    cc

-- a query that is not refused tells the holding
pub query_tells : (b : Book) (s : State) (c k : ℕ) (t : Told) → reply_to b s (query c k) ≡ ok t → t ≡ holding (s.held c k)
unfolding reply_to
query_tells b s c k t h = let r = (in_order-ok (account_questions b c k) 0 (ok (holding (s.held c k))) t h).1 in cc

-- ---- question 23, at every declared card and kind

module _ (b : Book) (s : State) (X : Exchange) where
  pub ends→ : T (ends_limited b s X) → (c k : ℕ) → 1 ≤ c → c ≤ length b.cards → 1 ≤ k → k ≤ kind_count → settled s X c k ≤ sum_limit
  ends→ h c k i j u w =
      let per-card = every_in (λ d. every (λ l. leb (settled s X d l) sum_limit) (one_to kind_count)) c (one_to (length b.cards)) (in_one_to c (length b.cards) i j) h in
      leb→le (settled s X c k) sum_limit (every_in (λ l. leb (settled s X c l) sum_limit) k (one_to kind_count) (in_one_to k kind_count u w) per-card)

  pub →ends : ((c k : ℕ) → 1 ≤ c → c ≤ length b.cards → 1 ≤ k → k ≤ kind_count → settled s X c k ≤ sum_limit) → T (ends_limited b s X)
  →ends f =
      every-one_to (λ c. every (λ k. leb (settled s X c k) sum_limit) (one_to kind_count)) (length b.cards) (λ c i j.
      every-one_to (λ k. leb (settled s X c k) sum_limit) kind_count (λ k u w.
      le→leb (settled s X c k) sum_limit (f c k i j u w)))

-- ---- no settlement creates tokens, so no holding passes the limit of its kind's sum

module _ (b : Book) (few : length b.cards ≤ card_limit) (s : State) (X : Exchange) (among : Among b X) (covered : Covered s X) where
  pub conserved : (k : ℕ) → sum_to (λ c. settled s X c k) card_limit ≡ total s k
  conserved k =
      let both_sides : (c : ℕ) → settled s X c k + gives c k X ≡ s.held c k + receives c k X = λ c. omega (arith, covered c k) in
      let p = sum_add (λ c. s.held c k + receives c k X) (λ c. s.held c k) (λ c. receives c k X) card_limit (λ c. refl) in
      let q = sum_add (λ c. s.held c k + receives c k X) (λ c. settled s X c k) (λ c. gives c k X) card_limit (λ c. sym (both_sides c)) in
      omega (arith, p, q, given-is-received b card_limit k X few among)

  ends_limited_lem : ((k : ℕ) → total s k ≤ sum_limit) → T (ends_limited b s X)
  ends_limited_lem limit = →ends b s X (λ c k i j u w. omega (arith, sum_part (λ d. settled s X d k) card_limit c i (omega arith), conserved k, limit k))

-- ---- a fair covered exchange settles

transfers : (e : List ℕ) → T (is_sized transfer_size exchange_limit e) → (1 ≤ length (exchange_of e)) × (length (exchange_of e) * transfer_size ≤ exchange_limit)
unfolding exchange_of
transfers e h =
    let p = both (leb transfer_size (length e) && leb (length e) exchange_limit) _ h in
    let q = both (leb transfer_size (length e)) _ p.0 in
    let low = leb→le transfer_size (length e) q.0 in
    let high = leb→le (length e) exchange_limit q.1 in
    let n = up_to_length (transfer_at e) (length e / transfer_size) in
    (omega arith, omega arith)

judging-met : (b : Book) (e p : List ℕ) → T (is_sized transfer_size exchange_limit e) → Among b (exchange_of e) → T (is_sized record_size proof_limit p)
    → judge_chain b (exchange_of e) p ≡ ok done → judging b e p ≡ ok done
unfolding judging
judging-met b e p size among size' h =
    in_order-met ((12 unless is_sized transfer_size exchange_limit e) ∷ []) 0 _ (size, tt)
    ∙ in_order-met ((13 unless every (is_proper b) (exchange_of e)) ∷ []) (first_failing (is_proper b) 1 (exchange_of e)) _ (among, tt)
    ∙ in_order-met ((14 unless is_sized record_size proof_limit p) ∷ []) 0 _ (size', tt)
    ∙ h

settle-met : (b : Book) (s : State) (e p : List ℕ) → judging b e p ≡ ok done → Covered s (exchange_of e) → T (ends_limited b s (exchange_of e))
    → reply_to b s (settle e p) ≡ ok done
unfolding reply_to
settle-met b s e p j c l =
    rw j (in_order-met ((22 unless is_covered s (exchange_of e)) ∷ (23 unless ends_limited b s (exchange_of e)) ∷ []) 0 (ok done) (→covered s (exchange_of e) c, (l, tt)))

pub settles : (b : Book) → Shaped b → (s : State) → ((k : ℕ) → total s k ≤ sum_limit) → (e : List ℕ) → T (is_sized transfer_size exchange_limit e)
    → Among b (exchange_of e) → Fair b (exchange_of e) → Covered s (exchange_of e) → (p : List ℕ) × T (every is_byte p) × (reply_to b s (settle e p) ≡ ok done)
settles b shaped s limit e size among f c =
    let n = transfers e size in
    let q = complete b shaped (exchange_of e) among n.0 n.1 f in
    let j = judging-met b e q.bytes size among q.sized q.passes in
    let l = ends_limited_lem b shaped.cards≤ s (exchange_of e) among c limit in
    (q.bytes, q.are_bytes, settle-met b s e q.bytes j c l)

-- ---- question 23

-- a refusal by a question below 22
abbrev Early : {A : Type 0} → Answer A → Type 0
Early (ok a) = Unit {0}
Early (refused n i) = n ≤ 21

early : {A : Type 0} (qs : List Question) (i : ℕ) (r : Answer A) → T (every (λ q. leb q.number 21) qs) → Early r → Early (in_order qs i r)
early [] i r h k = k
early (q ∷ qs) i r h k = let p = both (leb q.number 21) _ h in go q.met (early qs i r p.1 k) (leb→le q.number 21 p.0)
  where
    go : (x : Bool) → Early (in_order qs i r) → q.number ≤ 21 → Early (cond x (in_order qs i r) (refused q.number i))
    go true k l = k
    go false k l = l

early_chain : (b : Book) (X : Exchange) (p : List ℕ) (n i : ℕ) (m : List Bool) (P : Exchange) → Early (chain b X p n i m P)
unfolding chain
early_chain b X p zero i m P = tt
early_chain b X p (suc n) i m P =
    early (record_questions b X (length p / record_size) (record_at p i) m) i _ tt
    (early_chain b X p n (next (record_at p i)) (marked m (record_at p i)) (asked b (record_at p i) ++ P))

early_judging : (b : Book) (e p : List ℕ) → Early (judging b e p)
unfolding judging judge_chain
early_judging b e p =
    early ((12 unless is_sized transfer_size exchange_limit e) ∷ []) 0 _ tt
    (early ((13 unless every (is_proper b) (exchange_of e)) ∷ []) (first_failing (is_proper b) 1 (exchange_of e)) _ tt
    (early ((14 unless is_sized record_size proof_limit p) ∷ []) 0 _ tt
    (priced (chain b (exchange_of e) p (length (exchange_of e)) 1 (replicate (length (exchange_of e)) false) [])
    (early_chain b (exchange_of e) p (length (exchange_of e)) 1 (replicate (length (exchange_of e)) false) []))))
  where
    priced : (x : Answer Exchange) → Early x → Early (and_then x (λ P. in_order ((21 unless contained P (exchange_of e)) ∷ []) 0 (ok done)))
    priced (ok P) k = early ((21 unless contained P (exchange_of e)) ∷ []) 0 (ok done) tt tt
    priced (refused n i) k = k

pub never_23 : (b : Book) → length b.cards ≤ card_limit → (s : State) → ((k : ℕ) → total s k ≤ sum_limit) → (e p : List ℕ) (i : ℕ) → reply_to b s (settle e p) ≢ refused 23 i
unfolding reply_to
never_23 b few s limit e p i h = go (judging b e p) refl (early_judging b e p) h
  where
    last : (x y : Bool) → (T x → y ≡ true) → cond x (cond y (ok done) (refused 23 0)) (refused 22 0) ≢ refused 23 i
    last true y f q = let z : ◌≡◌ {A = ℕ} 0 1 = (let r = rw (f tt) at q in cc) in omega arith
    last false y f q = let z : ◌≡◌ {A = ℕ} 22 23 = cc in omega arith

    go : (x : Reply) → judging b e p ≡ x → Early x
        → and_then x (λ t. in_order ((22 unless is_covered s (exchange_of e)) ∷ (23 unless ends_limited b s (exchange_of e)) ∷ []) 0 (ok done)) ≢ refused 23 i
    go (ok t) j k q =
        last (is_covered s (exchange_of e)) (ends_limited b s (exchange_of e))
        (λ c. T-eq (ends_limited b s (exchange_of e)) (ends_limited_lem b few s (exchange_of e) (judged-ok b e p t j).among (covered→ s (exchange_of e) c) limit)) q
    go (refused n m) j k q = let z : n ≡ 23 = cc in omega arith
