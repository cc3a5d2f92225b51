-- Each refusal of a call has the number of a reason.
use mathlib.Core.Path.{◌≡◌, refl}
use mathlib.Core.Bool.{Bool, true, false, cond}
use mathlib.Core.List.{List, [], ◌∷◌, ◌++◌}
use Prim.Native.Nat.{ℕ, zero, suc, ◌+◌, ◌/◌}
use lib.Dec.{leb}
use lib.ListN.{length, replicate}
use Rattle.model.specs.Limits.{transfer_size, exchange_limit, record_size, proof_limit, sum_limit}
use Rattle.model.specs.Lists.{every, first_failing}
use Rattle.model.specs.Fairness.{is_proper}
use Rattle.model.specs.Questions.{Answer, ok, refused, done, holding, Question, ◌unless◌, in_order, and_then}
use Rattle.model.specs.Book.{Book}
use Rattle.model.specs.Transfers.{Exchange, contained, exchange_of}
use Rattle.model.specs.Proof.{record_at, next, marked, asked, record_questions, chain, judge_chain}
use Rattle.model.specs.Holdings.{State, total, is_covered}
use Rattle.model.specs.Calls.{Call, issue, redeem, query, settle, account_questions, is_sized, ends_limited, judging, reply_to}
use Rattle.answers.specs.View.{number_of}
use Rattle.answers.specs.declared.Reason.{Reason}
use Rattle.answers.specs.declared.Reason.TheVariants as reason

-- the number is a reason's
abbrev pub Numbers : ℕ → Type 0
Numbers n = (why : Reason) × (number_of why ≡ n)

-- a refusal has a reason's number
abbrev pub NamedBy : {A : Type 0} → Answer A → Type 0
NamedBy (ok a) = Unit {0}
NamedBy (refused n i) = Numbers n

pub record Named {A : Type 0} (answer : Answer A) : Type 0 where
  pub why : NamedBy answer

no_refusal : {A : Type 0} (a : A) → Named (ok a)
no_refusal a = record { why = tt }

-- so has each question
abbrev Reasons : List Question → Type 0
Reasons [] = Unit {0}
Reasons (q ∷ qs) = Numbers q.number × Reasons qs

ordered : {A : Type 0} (qs : List Question) (i : ℕ) (rest : Answer A) → Reasons qs → Named rest → Named (in_order qs i rest)
ordered [] i rest u n = n
ordered (q ∷ qs) i rest u n = elim q.met as (λ x. Named (cond x (in_order qs i rest) (refused q.number i))) [ true ↦ ordered qs i rest u.1 n | false ↦ record { why = u.0 } ]

-- a question alone
asked_alone : {A : Type 0} (n : ℕ) (x : Bool) (i : ℕ) (rest : Answer A) → Numbers n → Named rest → Named (in_order ((n unless x) ∷ []) i rest)
asked_alone n x i rest u r = ordered ((n unless x) ∷ []) i rest (u, tt) r

joined : {A B : Type 0} (a : Answer A) (f : A → Answer B) → Named a → ((x : A) → Named (f x)) → Named (and_then a f)
joined (ok a) f n g = g a
joined (refused k i) f n g = record { why = n.why }

chained : (b : Book) (X : Exchange) (p : List ℕ) (left i : ℕ) (m : List Bool) (P : Exchange) → Named (chain b X p left i m P)
unfolding chain
chained b X p zero i m P = no_refusal P
chained b X p (suc left) i m P =
    let claim : Numbers 15 = (reason.BadClaim, refl) in
    let rule : Numbers 16 = (reason.WrongRule, refl) in
    let cards : Numbers 17 = (reason.BadCards, refl) in
    let questions = record_questions b X (length p / record_size) (record_at p i) m in
    let reasons : Reasons questions = (claim, (claim, (rule, (rule, (rule, (cards, (cards, (cards, (cards, ((reason.BadPrice, refl), ((reason.ConditionUnmet, refl), ((reason.BadLink, refl), tt)))))))))))) in
    ordered questions i _ reasons (chained b X p left (next (record_at p i)) (marked m (record_at p i)) (asked b (record_at p i) ++ P))

judged : (b : Book) (e p : List ℕ) → Named (judging b e p)
unfolding judging judge_chain
judged b e p =
    asked_alone 12 (is_sized transfer_size exchange_limit e) 0 _ (reason.ExchangeSize, refl)
    (asked_alone 13 (every (is_proper b) (exchange_of e)) (first_failing (is_proper b) 1 (exchange_of e)) _ (reason.BadTransfer, refl)
    (asked_alone 14 (is_sized record_size proof_limit p) 0 _ (reason.ProofSize, refl)
    (joined (chain b (exchange_of e) p (length (exchange_of e)) 1 (replicate (length (exchange_of e)) false) []) _ (chained b (exchange_of e) p _ 1 _ [])
    (λ P. asked_alone 21 (contained P (exchange_of e)) 0 (ok done) (reason.PriceUnpaid, refl) (no_refusal done)))))

-- questions 8 and 9 before others
on_account : {A : Type 0} (b : Book) (c k : ℕ) (qs : List Question) (rest : Answer A) → Reasons qs → Named rest → Named (in_order (account_questions b c k ++ qs) 0 rest)
on_account b c k qs rest u n = ordered (account_questions b c k ++ qs) 0 rest ((reason.CardUndeclared, refl), ((reason.KindUnknown, refl), u)) n

pub replied : (b : Book) (s : State) (call : Call) → Named (reply_to b s call)
unfolding reply_to
replied b s (issue c k n) = on_account b c k ((10 unless leb (total s k + n) sum_limit) ∷ []) (ok done) ((reason.SumExceeded, refl), tt) (no_refusal done)
replied b s (redeem c k n) = on_account b c k ((11 unless leb n (s.held c k)) ∷ []) (ok done) ((reason.HoldingShort, refl), tt) (no_refusal done)
replied b s (query c k) = on_account b c k [] (ok (holding (s.held c k))) tt (no_refusal (holding (s.held c k)))
replied b s (settle e p) =
    joined (judging b e p) _ (judged b e p) (λ t.
    ordered ((22 unless is_covered s (exchange_of e)) ∷ (23 unless ends_limited b s (exchange_of e)) ∷ []) 0 (ok done) ((reason.NotCovered, refl), ((reason.HoldingExceeded, refl), tt)) (no_refusal done))
