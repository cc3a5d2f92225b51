-- Each call's effect on a kind's sum, for an arbitrary kind: settling keeps it, issuing and redeeming change it by their count.
use mathlib.Core.Path.{◌≡◌, refl, sym, ap, ap₂, ◌∙◌, subst}
use mathlib.Core.Bool.{Bool, true, false, ◌&&◌}
use mathlib.Core.Logic.{◌⊎◌, inl, inr}
use mathlib.Core.List.{List, [], ◌∷◌, ◌++◌}
use Prim.Native.Nat.{ℕ, ◌+◌, ◌-◌, ◌*◌, ◌≤◌}
use native.Mathlib.Omega.{arith}
use lib.Dec.{T, eqb, leb, eqb→eq, leb→le}
use lib.ListN.{length}
use Rattle.model.specs.Limits.{card_limit, sum_limit}
use Rattle.model.specs.Lists.{one_if}
use Rattle.model.specs.Questions.{ok, Told, done, ◌unless◌}
use Rattle.model.specs.Grammar.{is_kind}
use Rattle.model.specs.Book.{Book, declared}
use Rattle.model.specs.Transfers.{Exchange, exchange_of}
use Rattle.model.specs.Fairness.{is_proper, Among}
use Rattle.model.specs.Holdings.{State, receives, sum_to, total}
use Rattle.model.specs.Calls.{Call, issue, redeem, query, settle, account_questions, reply_to, amount, issues, redeems, received_in, given_in, changed, after}
use Rattle.model.proofs.Tests.{eq-T, eqb_same, within→, zero_or_more}
use Rattle.model.proofs.Questions.{in_order-ok}
use Rattle.model.proofs.Sums.{sum_add, sum_same, sum_point, and_scale, proper-receiver, proper-kind, with_side}
use Rattle.model.proofs.Settling.{settled-ok, conserved}

-- ---- a call that is not refused takes no more than what is held and what it brings

abbrev pub Suffices : State → Call → Type 0
Suffices s call = (d j : ℕ) → redeems call d j + given_in call d j ≤ s.held d j + (issues call d j + received_in call d j)

amount_le : (s : State) (c k n d j : ℕ) → n ≤ s.held c k → amount c k n d j ≤ s.held d j
amount_le s c k n d j h = go (eqb c d) (eqb k j) refl refl
  where
    go : (x y : Bool) → eqb c d ≡ x → eqb k j ≡ y → one_if (x && y) * n ≤ s.held d j
    go true true e f = omega (arith, subst (λ (z : ℕ). n ≤ z) (ap₂ s.held (eqb→eq c d (eq-T e)) (eqb→eq k j (eq-T f))) h)
    go true false e f = omega arith
    go false y e f = omega arith

pub suffices : (b : Book) (s : State) (call : Call) (t : Told) → reply_to b s call ≡ ok t → Suffices s call
unfolding reply_to
suffices b s (issue c k n) t h d j = omega arith
suffices b s (redeem c k n) t h d j =
    let q = in_order-ok (account_questions b c k ++ ((11 unless leb n (s.held c k)) ∷ [])) 0 (ok done) t h in
    omega (arith, amount_le s c k n d j (leb→le n (s.held c k) q.0.1.1.0))
suffices b s (query c k) t h d j = omega arith
suffices b s (settle e p) t h d j = omega (arith, (settled-ok b s e p t h).covered d j)

-- ---- and brings to declared cards and kinds alone

module _ (b : Book) (d j : ℕ) (unknown : T (declared b d) → T (is_kind j) → ⊥) where
  amount-none : (c k n : ℕ) → T (declared b c) → T (is_kind k) → amount c k n d j ≡ 0
  amount-none c k n u v = go (eqb c d) (eqb k j) refl refl
    where
      go : (x y : Bool) → eqb c d ≡ x → eqb k j ≡ y → one_if (x && y) * n ≡ 0
      go true true e f = absurd (unknown (rw (eqb→eq c d (eq-T e)) at u) (rw (eqb→eq k j (eq-T f)) at v))
      go true false e f = omega arith
      go false y e f = omega arith

  pub received_none : (X : Exchange) → Among b X → receives d j X ≡ 0
  received_none X h = go (zero_or_more (receives d j X))
    where
      go : (receives d j X ≡ 0) ⊎ (1 ≤ receives d j X) → receives d j X ≡ 0
      go (inl z) = z
      go (inr l) =
          let w = with_side (λ t. t.receiver) (is_proper b) d j X h l in
          absurd (unknown (rw w.1 at (proper-receiver b w.0 w.3)) (rw w.2 at (proper-kind b w.0 w.3)))

  pub brings_none : (s : State) (call : Call) (t : Told) → reply_to b s call ≡ ok t → issues call d j + received_in call d j ≡ 0
  unfolding reply_to
  brings_none s (issue c k n) t h =
      let q = in_order-ok (account_questions b c k ++ ((10 unless leb (total s k + n) sum_limit) ∷ [])) 0 (ok done) t h in
      omega (arith, amount-none c k n q.0.0 q.0.1.0)
  brings_none s (redeem c k n) t h = omega arith
  brings_none s (query c k) t h = omega arith
  brings_none s (settle e p) t h = omega (arith, received_none (exchange_of e) (settled-ok b s e p t h).among)

-- ---- the state afterwards, by what the call brings and takes

pub changed-is : (s : State) (call : Call) (d j : ℕ) → (changed s call).held d j ≡ (s.held d j + (issues call d j + received_in call d j)) - (redeems call d j + given_in call d j)
changed-is s (issue c k n) d j = omega arith
changed-is s (redeem c k n) d j = omega arith
changed-is s (query c k) d j = omega arith
changed-is s (settle e p) d j = omega arith

-- ---- the sums

pub after-ok : (b : Book) (s : State) (call : Call) (t : Told) → reply_to b s call ≡ ok t → after b s call ≡ changed s call
unfolding after
after-ok b s call t h = rw h

module _ (b : Book) (few : length b.cards ≤ card_limit) where
  -- an amount at a declared card is counted once
  amount_sum : (c j n k : ℕ) → T (declared b c) → sum_to (λ d. amount c j n d k) card_limit ≡ amount c j n c k
  amount_sum c j n k h =
      let w = within→ c (length b.cards) h in
      sum_same (λ d. amount c j n d k) (λ d. one_if (eqb c d) * (one_if (eqb j k) * n)) card_limit (λ d. and_scale (eqb c d) (eqb j k) n)
      ∙ sum_point c (one_if (eqb j k) * n) card_limit w.0 (omega arith)
      ∙ sym (ap (λ (x : Bool). one_if (x && eqb j k) * n) (eqb_same c))

  pub settling_keeps : (s : State) (e p : List ℕ) (k : ℕ) (t : Told) → reply_to b s (settle e p) ≡ ok t → total (changed s (settle e p)) k ≡ total s k
  settling_keeps s e p k t h = let q = settled-ok b s e p t h in conserved b few s (exchange_of e) q.among q.covered k

  pub issuing_adds : (s : State) (c j n k : ℕ) (t : Told) → reply_to b s (issue c j n) ≡ ok t → total (changed s (issue c j n)) k ≡ total s k + amount c j n c k
  unfolding reply_to
  issuing_adds s c j n k t h =
      let q = in_order-ok (account_questions b c j ++ ((10 unless leb (total s j + n) sum_limit) ∷ [])) 0 (ok done) t h in
      omega (arith, sum_add (λ d. s.held d k + amount c j n d k) (λ d. s.held d k) (λ d. amount c j n d k) card_limit (λ d. refl), amount_sum c j n k q.0.0)

  pub redeeming_takes : (s : State) (c j n k : ℕ) (t : Told) → reply_to b s (redeem c j n) ≡ ok t → total (changed s (redeem c j n)) k + amount c j n c k ≡ total s k
  unfolding reply_to
  redeeming_takes s c j n k t h =
      let q = in_order-ok (account_questions b c j ++ ((11 unless leb n (s.held c j)) ∷ [])) 0 (ok done) t h in
      let left = sum_add (λ d. s.held d k) (λ d. s.held d k - amount c j n d k) (λ d. amount c j n d k) card_limit (λ d. omega (arith, suffices b s (redeem c j n) t h d k)) in
      omega (arith, left, amount_sum c j n k q.0.0)

  -- ---- no kind's sum ever passes the limit

  issue_limit : (s : State) (c j n k : ℕ) (t : Told) → reply_to b s (issue c j n) ≡ ok t → total s k ≤ sum_limit → total s k + amount c j n c k ≤ sum_limit
  unfolding reply_to
  issue_limit s c j n k t h l =
      let q = in_order-ok (account_questions b c j ++ ((10 unless leb (total s j + n) sum_limit) ∷ [])) 0 (ok done) t h in
      go (eqb c c) (eqb j k) refl (leb→le (total s j + n) sum_limit q.0.1.1.0)
    where
      go : (x y : Bool) → eqb j k ≡ y → total s j + n ≤ sum_limit → total s k + one_if (x && y) * n ≤ sum_limit
      go true true f m = omega (arith, ap (total s) (eqb→eq j k (eq-T f)))
      go true false f m = omega arith
      go false y f m = omega arith

  pub limit_kept : (s : State) → ((k : ℕ) → total s k ≤ sum_limit) → (call : Call) (t : Told) → reply_to b s call ≡ ok t → (k : ℕ) → total (changed s call) k ≤ sum_limit
  limit_kept s l (issue c j n) t h k = omega (arith, issuing_adds s c j n k t h, issue_limit s c j n k t h (l k))
  limit_kept s l (redeem c j n) t h k = omega (arith, redeeming_takes s c j n k t h, l k)
  limit_kept s l (query c j) t h k = l k
  limit_kept s l (settle e p) t h k = omega (arith, settling_keeps s e p k t h, l k)
