-- Over every list of calls: by induction on the list, nothing is taken that is not there or comes with the same call, so the state that
-- the history gives moves call by call as each call says, and no kind's sum passes the limit.
use mathlib.Core.Path.{◌≡◌, refl, sym, ap, ◌∙◌, subst}
use mathlib.Core.Bool.{cond}
use mathlib.Core.List.{List, ◌∷◌}
use Prim.Native.Nat.{ℕ, ◌+◌, ◌≤◌}
use native.Mathlib.Omega.{arith}
use Rattle.model.specs.Limits.{card_limit, sum_limit}
use Rattle.model.specs.Questions.{ok, refused, Told, done, Reply}
use Rattle.model.specs.Book.{Book}
use Rattle.model.specs.Transfers.{exchange_of}
use Rattle.model.specs.Holdings.{State, MovedExactly, sum_to, total}
use Rattle.model.specs.Calls.{Call, issue, redeem, query, settle, reply_to, received_in, given_in, is_refused, changed, after}
use Rattle.model.specs.History.{History, start, ◌▸◌, issued, redeemed, received, given, state_by, not_refused, state_after, reply_after}
use Rattle.model.specs.Theorems.{Histories}
use Rattle.model.proofs.Sums.{sum_add, sum_zero, given-is-received}
use Rattle.model.proofs.Settling.{settled-ok, settles}
use Rattle.model.proofs.Completeness.{Shaped}
use Rattle.model.proofs.Conservation.{Suffices, suffices, changed-is, limit_kept}

-- no more was taken than had come
abbrev Natural : List Call → Type 0
Natural calls = (c k : ℕ) → redeemed calls c k + given calls c k ≤ issued calls c k + received calls c k

-- a call more, for which the state suffices
state-more : (calls : List Call) (call : Call) → Natural calls → Suffices (state_by calls) call
    → Natural (call ∷ calls) × (state_by (call ∷ calls) ≡ changed (state_by calls) call)
unfolding state_by
state-more calls call n h = (
  λ c k. omega (arith, n c k, h c k),
  λ i. record { held = λ c k. same c k i },
)
  where
    same : (c k : ℕ) → (state_by (call ∷ calls)).held c k ≡ (changed (state_by calls) call).held c k
    same c k = omega (arith, n c k, h c k, changed-is (record { held = (state_by calls).held }) call c k)

module _ (b : Book) where
  -- a call right after the list, by whether it is refused
  module _ (h : History) (call : Call) where
    reply_now : reply_to b (state_after b h) call ≡ reply_after b h call
    unfolding reply_after
    reply_now = refl

    refused_adds : (n i : ℕ) → reply_after b h call ≡ refused n i → not_refused b (h ▸ call) ≡ not_refused b h
    unfolding not_refused reply_after state_after
    refused_adds n i e = rw e

    ok_adds : (t : Told) → reply_after b h call ≡ ok t → not_refused b (h ▸ call) ≡ call ∷ not_refused b h
    unfolding not_refused reply_after state_after
    ok_adds t e = rw e

  -- what is shown of each list: `natural` is demand 3's, `limit` keeps question 23 from refusing, `even` makes sums of given and received equal
  pub record Kept (h : History) : Type 0 where
    pub natural : Natural (not_refused b h)
    pub limit : (k : ℕ) → total (state_after b h) k ≤ sum_limit
    pub even : (k : ℕ) → sum_to (λ c. given (not_refused b h) c k) card_limit ≡ sum_to (λ c. received (not_refused b h) c k) card_limit

  module _ (shaped : Shaped b) where
    -- a call gives over all cards what it receives
    even_call : (s : State) (call : Call) (t : Told) → reply_to b s call ≡ ok t → (k : ℕ) → sum_to (λ c. given_in call c k) card_limit ≡ sum_to (λ c. received_in call c k) card_limit
    even_call s (issue c j n) t h k = refl
    even_call s (redeem c j n) t h k = refl
    even_call s (query c j) t h k = refl
    even_call s (settle e p) t h k = given-is-received b card_limit k (exchange_of e) shaped.cards≤ (settled-ok b s e p t h).among

    module _ (h : History) (kept : Kept h) (call : Call) where
      module _ (t : Told) (e : reply_after b h call ≡ ok t) where
        now : reply_to b (state_after b h) call ≡ ok t
        now = reply_now h call ∙ e

        more : Natural (call ∷ not_refused b h) × (state_by (call ∷ not_refused b h) ≡ changed (state_after b h) call)
        unfolding state_after
        more = state-more (not_refused b h) call kept.natural (suffices b (state_after b h) call t now)

        state-ok : state_after b (h ▸ call) ≡ changed (state_after b h) call
        unfolding state_after
        state-ok = ap state_by (ok_adds h call t e) ∙ more.1

        kept-ok : Kept (h ▸ call)
        kept-ok = record {
          natural = subst Natural (sym (ok_adds h call t e)) more.0;
          limit = λ k. subst (λ (s : State). total s k ≤ sum_limit) (sym state-ok) (limit_kept b shaped.cards≤ (state_after b h) kept.limit call t now k);
          even = λ k. subst (λ (calls : List Call). sum_to (λ c. given calls c k) card_limit ≡ sum_to (λ c. received calls c k) card_limit) (sym (ok_adds h call t e)) (evens k);
        }
          where
            evens : (k : ℕ) → sum_to (λ c. given (call ∷ not_refused b h) c k) card_limit ≡ sum_to (λ c. received (call ∷ not_refused b h) c k) card_limit
            evens k = omega (
              arith,
              sum_add (λ c. given (call ∷ not_refused b h) c k) (λ c. given_in call c k) (λ c. given (not_refused b h) c k) card_limit (λ c. refl),
              sum_add (λ c. received (call ∷ not_refused b h) c k) (λ c. received_in call c k) (λ c. received (not_refused b h) c k) card_limit (λ c. refl),
              even_call (state_after b h) call t now k,
              kept.even k,
            )

      module _ (n i : ℕ) (e : reply_after b h call ≡ refused n i) where
        state-refused : state_after b (h ▸ call) ≡ state_after b h
        unfolding state_after
        state-refused = ap state_by (refused_adds h call n i e)

        kept-refused : Kept (h ▸ call)
        kept-refused = record {
          natural = subst Natural (sym (refused_adds h call n i e)) kept.natural;
          limit = λ k. subst (λ (s : State). total s k ≤ sum_limit) (sym state-refused) (kept.limit k);
          even = λ k. subst (λ (calls : List Call). sum_to (λ c. given calls c k) card_limit ≡ sum_to (λ c. received calls c k) card_limit) (sym (refused_adds h call n i e)) (kept.even k);
        }

      kept_more : Kept (h ▸ call)
      kept_more = go (reply_after b h call) refl
        where
          go : (r : Reply) → reply_after b h call ≡ r → Kept (h ▸ call)
          go (ok t) e = kept-ok t e
          go (refused n i) e = kept-refused n i e

      -- the state moves by the call
      step_kept : state_after b (h ▸ call) ≡ after b (state_after b h) call
      unfolding after
      step_kept = go (reply_after b h call) refl
        where
          go : (r : Reply) → reply_after b h call ≡ r → state_after b (h ▸ call) ≡ cond (is_refused (reply_to b (state_after b h) call)) (state_after b h) (changed (state_after b h) call)
          go (ok t) e = state-ok t e ∙ rw (reply_now h call ∙ e)
          go (refused n i) e = state-refused n i e ∙ rw (reply_now h call ∙ e)

    kept_first : Kept start
    unfolding state_after not_refused state_by
    kept_first = record { natural = λ c k. omega arith; limit = λ k. omega (arith, sum_zero card_limit); even = λ k. refl }

    pub kept : (h : History) → Kept h
    kept start = kept_first
    kept (h ▸ call) = kept_more h (kept h) call

    -- the state after a list moves call by call
    pub step : (h : History) (call : Call) → state_after b (h ▸ call) ≡ after b (state_after b h) call
    step h call = step_kept h (kept h) call

    -- ---- demand 3's parts, as far as they need no engine

    moved : (h : History) (e p : List ℕ) → reply_after b h (settle e p) ≡ ok done → MovedExactly (state_after b h) (exchange_of e) (state_after b (h ▸ settle e p))
    moved h e p r c k =
        let s = state-ok h (kept h) (settle e p) done r in
        let q = (settled-ok b (state_after b h) e p done (reply_now h (settle e p) ∙ r)).covered c k in
        rw s (omega arith)

    sums : (h : History) (k : ℕ) → total (state_after b h) k + sum_to (λ c. redeemed (not_refused b h) c k) card_limit ≡ sum_to (λ c. issued (not_refused b h) c k) card_limit
    unfolding state_after state_by
    sums h k =
        let calls = not_refused b h in
        let l = sum_add (λ c. redeemed calls c k + given calls c k) (λ c. redeemed calls c k) (λ c. given calls c k) card_limit (λ c. refl) in
        let r = sum_add (λ c. issued calls c k + received calls c k) (λ c. issued calls c k) (λ c. received calls c k) card_limit (λ c. refl) in
        let x = sum_add (λ c. issued calls c k + received calls c k) (λ c. (state_by calls).held c k) (λ c. redeemed calls c k + given calls c k) card_limit
        (λ c. omega (arith, (kept h).natural c k)) in
        omega (arith, l, r, x, (kept h).even k)

    pub histories : (h : History) → Histories b h
    unfolding reply_after
    histories h = record {
      natural = (kept h).natural;
      fair = λ e p r. (settled-ok b (state_after b h) e p done r).is_fair;
      covered = λ e p r. (settled-ok b (state_after b h) e p done r).covered;
      moved = moved h;
      sums = sums h;
      settles = λ e size among. (
        λ q. let s = settled-ok b (state_after b h) e q.0 done q.2 in (s.is_fair, s.covered),
        λ f. settles b shaped (state_after b h) (kept h).limit e size among f.0 f.1,
      );
    }
