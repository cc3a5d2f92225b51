-- Questions 8 and 9, and what issuing, redeeming and querying answer and leave once they are met.
use mathlib.Core.Path.{◌≡◌, refl, sym, ap, ap₂, ◌∙◌}
use mathlib.Core.Bool.{Bool, true, false, ◌&&◌, cond}
use mathlib.Core.List.{List, [], ◌∷◌, ◌++◌, map}
use Prim.Native.Nat.{ℕ, zero, suc, ◌+◌, ◌-◌, ◌*◌, ◌/◌, ◌≤◌, ◌<◌, min}
use native.Mathlib.Omega.{arith}
use lib.Dec.{eqb, leb, eqb→eq}
use lib.ListN.{length, get_or, set, take, drop, length-set}
use Rattle.std.specs.Simd.{first_chunks}
use Rattle.model.proofs.Chunks.{mapped_chunks}
use borrow.Author.Tests.{le-leb, lt-leb}
use Rattle.model.specs.Limits.{card_limit, kind_count, sum_limit, holding_count, number_most}
use Rattle.model.specs.Lists.{within, up_to}
use Rattle.model.specs.Grammar.{is_kind}
use Rattle.model.specs.Questions as model
use Rattle.model.specs.Questions.{Question, ◌unless◌, in_order}
use Rattle.model.specs.Book.{Book, declared}
use Rattle.model.specs.Holdings.{total, sum_to}
use Rattle.model.specs.Calls.{Call, issue, redeem, query, account_questions, amount, changed, reply_to, after}
use Rattle.model.proofs.Tests.{eq-T, eqb_same, within-true}
use Rattle.model.proofs.Places.{up_to_cong}
use Rattle.model.proofs.Sums.{sum_same, sum_zero, sum_part}
use Rattle.accounts.specs.Answered.{Answered, Declares, AnsweredFor}
use Rattle.accounts.specs.inner.Ranged.{Ranged}
use Rattle.accounts.specs.inner.Found.{found}
use Rattle.answers.specs.View.{number_of, reply_of}
use Rattle.answers.specs.declared.Reason.{Reason}
use Rattle.answers.specs.declared.Reason.TheVariants.{CardUndeclared, KindUnknown, SumExceeded, HoldingShort}
use Rattle.answers.specs.declared.Refusal.{Refusal}
use Rattle.answers.specs.declared.Told.{Told}
use Rattle.answers.specs.declared.Told.TheVariants.{Done, Holding}
use Rattle.std.specs.Prelude.{Result, Ok, Err}
use Rattle.std.specs.List.{sum, sum_by}
use Rattle.std.proofs.lemmas.List.{get_or-take, get_or-drop}
use Rattle.std.proofs.lemmas.List.Sums.{sum_by_push, sum-map}
use Rattle.accounts.specs.View.{place_of, state_from}
use Rattle.accounts.proofs.HoldingPlaces.{Fitting, held_fits, held_at, held-set}

-- ---- questions 8 and 9

-- a card of the engine and a kind, and where its holding is
pub record Known (n c k at : ℕ) : Type 0 where
  pub ranged : Ranged c k
  pub declared : within c (min n card_limit) ≡ true
  pub kind : within k kind_count ≡ true
  pub there : at ≡ place_of c k

-- what the two tests x and y make of questions 8 and 9
abbrev answer_by : ℕ → Bool → Bool → Result ℕ Reason
answer_by at x y = cond x (cond y (Ok at) (Err KindUnknown)) (Err CardUndeclared)

pub found_known : (n c k at : ℕ) → Ok at ≡ found n c k → Known n c k at
unfolding found
found_known n c k at e = go (within c (min n card_limit)) (within k kind_count) refl refl e
  where
    go : (x y : Bool) → within c (min n card_limit) ≡ x → within k kind_count ≡ y → Ok at ≡ answer_by (place_of c k) x y → Known n c k at
    go true true f g h =
        let p = within-true c (min n card_limit) f in
        let r = within-true k kind_count g in
        record { ranged = record { c_low = p.0; c_high = omega arith; k_low = r.0; k_high = r.1 }; declared = f; kind = g; there = cc }
    go true false f g h = cc
    go false y f g h = cc

module _ (n : ℕ) (b : Book) (few : Declares n b) where
  declared-is : (c : ℕ) → declared b c ≡ within c (min n card_limit)
  declared-is c = ap (within c) few

  module _ (c k : ℕ) (qs : List Question) (r : model.Reply) where
    account_refuses : (why : Reason) → Err why ≡ found n c k → in_order (account_questions b c k ++ qs) 0 r ≡ model.refused (number_of why) 0
    unfolding found
    account_refuses why f = rw (declared-is c) (go (within c (min n card_limit)) (within k kind_count) f)
      where
        go : (x y : Bool) → Err why ≡ answer_by (place_of c k) x y → cond x (cond y (in_order qs 0 r) (model.refused 9 0)) (model.refused 8 0) ≡ model.refused (number_of why) 0
        go true true h = cc
        go true false h = let e : why ≡ KindUnknown = cc in rw e
        go false y h = let e : why ≡ CardUndeclared = cc in rw e

    account_passes : (at : ℕ) → Known n c k at → in_order (account_questions b c k ++ qs) 0 r ≡ in_order qs 0 r
    account_passes at a = rw (declared-is c, a.declared, a.kind)

-- ---- what a call leaves

abbrev pub without_place : Reason → Refusal
without_place why = record { reason = why; place = 0 }

module _ (b : Book) (h : List ℕ) (call : Call) where
  -- a refused call leaves the holdings as they were
  refuses : (why : Reason) → reply_to b (state_from h) call ≡ model.refused (number_of why) 0 → Answered b h call (Err (without_place why)) h
  unfolding after
  refuses why f = record { answers = sym f; state = rw f; size = refl; refused = λ k. refl }

  -- a call that is not refused leaves those that it makes
  leaves : (t : model.Told) (r : Result Told Refusal) (h' : List ℕ) → reply_of r ≡ model.ok t → reply_to b (state_from h) call ≡ model.ok t
      → ((d j : ℕ) → (state_from h').held d j ≡ (changed (state_from h) call).held d j) → length h' ≡ length h → Answered b h call r h'
  unfolding after
  leaves t r h' e f s l = record {
    answers = e ∙ sym f;
    state = (λ i. record { held = λ d j. s d j i }) ∙ rw f;
    size = l;
    refused = λ k. absurd (rw e at k);
  }

-- a state that is changed at card c and kind k alone
at_one : (held target : ℕ → ℕ → ℕ) (c k v : ℕ) → v ≡ target c k → ((d j : ℕ) → (eqb c d && eqb k j) ≡ false → held d j ≡ target d j)
    → (d j : ℕ) → cond (eqb c d && eqb k j) v (held d j) ≡ target d j
at_one held target c k v h f d j = go (eqb c d) (eqb k j) refl refl (f d j)
  where
    go : (x y : Bool) → eqb c d ≡ x → eqb k j ≡ y → ((x && y) ≡ false → held d j ≡ target d j) → cond (x && y) v (held d j) ≡ target d j
    go true true p q g = h ∙ ap₂ target (eqb→eq c d (eq-T p)) (eqb→eq k j (eq-T q))
    go true false p q g = g refl
    go false y p q g = g refl

amount_here : (c k n : ℕ) → amount c k n c k ≡ n
amount_here c k n = rw (eqb_same c, eqb_same k) (omega arith)

amount-elsewhere : (c k n d j : ℕ) → (eqb c d && eqb k j) ≡ false → amount c k n d j ≡ 0
amount-elsewhere c k n d j e = rw e (omega arith)

module _ (n : ℕ) (h : List ℕ) (c k : ℕ) where
  abbrev sum_question : ℕ → List Question
  sum_question m = (10 unless leb (total (state_from h) k + m) sum_limit) ∷ []

  abbrev holding_question : ℕ → List Question
  holding_question m = (11 unless leb m ((state_from h).held c k)) ∷ []

  module _ (why : Reason) (f : Err why ≡ found n c k) where
    pub issue_unknown : (m : ℕ) → AnsweredFor n h (issue c k m) (Err (without_place why)) h
    unfolding reply_to
    issue_unknown m b l = refuses b h (issue c k m) why (account_refuses n b l c k (sum_question m) (model.ok model.done) why f)

    pub redeem_unknown : (m : ℕ) → AnsweredFor n h (redeem c k m) (Err (without_place why)) h
    unfolding reply_to
    redeem_unknown m b l = refuses b h (redeem c k m) why (account_refuses n b l c k (holding_question m) (model.ok model.done) why f)

    pub query_unknown : AnsweredFor n h (query c k) (Err (without_place why)) h
    unfolding reply_to
    query_unknown b l = refuses b h (query c k) why (account_refuses n b l c k [] (model.ok (model.holding ((state_from h).held c k))) why f)

  module _ (at : ℕ) (a : Known n c k at) where
    here : (state_from h).held c k ≡ get_or h at 0
    here = held_at h c k a.ranged ∙ ap (λ (i : ℕ). get_or h i 0) (sym a.there)

    pub query_told : AnsweredFor n h (query c k) (Ok (Holding (get_or h at 0))) h
    unfolding reply_to
    query_told b l =
        leaves b h (query c k) (model.holding ((state_from h).held c k)) (Ok (Holding (get_or h at 0))) h
        (ap (λ (x : ℕ). model.ok (model.holding x)) (sym here))
        (account_passes n b l c k [] (model.ok (model.holding ((state_from h).held c k))) at a)
        (λ d j. refl) refl

    module _ (m : ℕ) where
      pub issue_exceeds : sum_limit < total (state_from h) k + m → AnsweredFor n h (issue c k m) (Err (without_place SumExceeded)) h
      unfolding reply_to
      issue_exceeds o b l =
          refuses b h (issue c k m) SumExceeded
          (account_passes n b l c k (sum_question m) (model.ok model.done) at a ∙ rw (lt-leb (total (state_from h) k + m) sum_limit o))

      pub redeem-short : get_or h at 0 < m → AnsweredFor n h (redeem c k m) (Err (without_place HoldingShort)) h
      unfolding reply_to
      redeem-short o b l =
          refuses b h (redeem c k m) HoldingShort
          (account_passes n b l c k (holding_question m) (model.ok model.done) at a ∙ rw (here, lt-leb m (get_or h at 0) o))

      module _ (long : length h ≡ holding_count) where
        -- the holding there becomes v, and the call makes just that of it
        stored : (b : Book) (call : Call) (v : ℕ) → reply_to b (state_from h) call ≡ model.ok model.done → v ≡ (changed (state_from h) call).held c k
            → ((d j : ℕ) → (eqb c d && eqb k j) ≡ false → (state_from h).held d j ≡ (changed (state_from h) call).held d j)
            → Answered b h call (Ok Done) (set h at v)
        stored b call v f e g =
            leaves b h call model.done (Ok Done) (set h at v) refl f
            (λ d j. rw a.there (held-set h c k v long a.ranged d j) ∙ at_one (state_from h).held (changed (state_from h) call).held c k v e g d j)
            (length-set h at v)

        pub issue-done : total (state_from h) k + m ≤ sum_limit → AnsweredFor n h (issue c k m) (Ok Done) (set h at (get_or h at 0 + m))
        unfolding reply_to
        issue-done o b l =
            stored b (issue c k m) (get_or h at 0 + m)
            (account_passes n b l c k (sum_question m) (model.ok model.done) at a ∙ rw (le-leb (total (state_from h) k + m) sum_limit o))
            (omega (arith, here, amount_here c k m)) (λ x y e. omega (arith, amount-elsewhere c k m x y e))

        pub redeem-done : m ≤ get_or h at 0 → AnsweredFor n h (redeem c k m) (Ok Done) (set h at (get_or h at 0 - m))
        unfolding reply_to
        redeem-done o b l =
            stored b (redeem c k m) (get_or h at 0 - m)
            (account_passes n b l c k (holding_question m) (model.ok model.done) at a ∙ rw (here, le-leb m (get_or h at 0) o))
            (omega (arith, here, amount_here c k m)) (λ x y e. omega (arith, amount-elsewhere c k m x y e))

-- ---- the sum of a kind

-- the card's holding in its row, of the kind that is in the column
abbrev pub in_column : ℕ → List ℕ → ℕ
in_column column row = get_or row column 0

-- the sum over the rows is the sum over the cards
sum_rows : (f : ℕ → ℕ) (n : ℕ) → sum (up_to (λ i. f (suc i)) n) ≡ sum_to f n
unfolding sum_to
sum_rows f zero = refl
sum_rows f (suc n) = sum_by_push (λ x. x) (up_to (λ i. f (suc i)) n) (f (suc n)) ∙ ap (λ (s : ℕ). s + f (suc n)) (sum_rows f n)

column_total : (h : List ℕ) (k n : ℕ) → n ≤ card_limit → 1 ≤ k → k ≤ kind_count → sum (map (in_column (k - 1)) (first_chunks kind_count n h)) ≡ sum_to (λ c. (state_from h).held c k) n
column_total h k n m p q =
    ap sum (mapped_chunks (in_column (k - 1)) kind_count n h ∙ up_to_cong (λ i. in_column (k - 1) (take kind_count (drop (i * kind_count) h))) (λ i. (state_from h).held (suc i) k) n each)
    ∙ sum_rows (λ c. (state_from h).held c k) n
  where
    each : (i : ℕ) → i < n → in_column (k - 1) (take kind_count (drop (i * kind_count) h)) ≡ (state_from h).held (suc i) k
    each i l =
        let here : place_of (suc i) k ≡ i * kind_count + (k - 1) = omega arith in
        get_or-take kind_count (drop (i * kind_count) h) (k - 1) 0 (omega arith) ∙ get_or-drop (i * kind_count) h (k - 1) 0
        ∙ sym (held_at h (suc i) k (record { c_low = omega arith; c_high = omega arith; k_low = p; k_high = q }) ∙ ap (λ (j : ℕ). get_or h j 0) here)

sum_small : (f : ℕ → ℕ) (n : ℕ) → ((c : ℕ) → f c ≤ number_most) → sum_to f n ≤ n * number_most
unfolding sum_to
sum_small f zero l = omega arith
sum_small f (suc n) l = omega (arith, sum_small f n l, l (suc n))

pub total_small : (h : List ℕ) (k : ℕ) → Fitting h → total (state_from h) k < 1099511627776
total_small h k fits = omega (arith, sum_small (λ c. (state_from h).held c k) card_limit (λ c. held_fits h fits c k))

pub kind_rows : (h : List ℕ) (rows : List (List ℕ)) (k : ℕ) → length h ≡ holding_count → rows ≡ first_chunks kind_count (length h / kind_count) h → true ≡ is_kind k
    → sum_by (in_column (k - 1)) rows ≡ total (state_from h) k
kind_rows h rows k long cut e =
    let l = within-true k kind_count (sym e) in
    let count : length h / kind_count ≡ card_limit = omega arith in
    rw (cut, count) (sym (sum-map (in_column (k - 1)) (first_chunks kind_count card_limit h)) ∙ column_total h k card_limit (omega arith) l.0 l.1)

-- no card holds what is no kind
pub kind_none : (h : List ℕ) (k : ℕ) → false ≡ is_kind k → 0 ≡ total (state_from h) k
unfolding state_from
kind_none h k e = sym (sum_same (λ c. (state_from h).held c k) (λ c. 0) card_limit none ∙ sum_zero card_limit)
  where
    pick : (x : Bool) (n : ℕ) → ◌≡◌ {A = ℕ} (cond (x && false) n 0) 0
    pick true n = refl
    pick false n = refl

    none : (c : ℕ) → (state_from h).held c k ≡ 0
    none c = rw (← e) (pick (within c card_limit) (get_or h (place_of c k) 0))

-- a holding is a part of its kind's sum
pub held_part : (h : List ℕ) (n c k at : ℕ) → Known n c k at → get_or h at 0 ≤ total (state_from h) k
held_part h n c k at a = rw (a.there, ← held_at h c k a.ranged) (sum_part (λ d. (state_from h).held d k) card_limit c a.ranged.c_low a.ranged.c_high)
