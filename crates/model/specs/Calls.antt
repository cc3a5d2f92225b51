-- The calls on an opened engine: their questions in order, what they answer, and the state afterwards.
use Rattle.std.specs.Prelude.{Bool, true, false, ◌&&◌, cond, List, [], ◌∷◌, ◌++◌, ℕ, ◌+◌, ◌-◌, ◌*◌, ◌%◌, eqb, leb, length}
use Rattle.model.specs.Limits.{transfer_size, exchange_limit, record_size, proof_limit, sum_limit, kind_count}
use Rattle.model.specs.Lists.{every, first_failing, one_if, one_to}
use Rattle.model.specs.Questions.{ok, refused, done, holding, Reply, Question, ◌unless◌, in_order, and_then}
use Rattle.model.specs.Grammar.{is_kind}
use Rattle.model.specs.Book.{Book, declared}
use Rattle.model.specs.Transfers.{Exchange, exchange_of}
use Rattle.model.specs.Fairness.{is_proper}
use Rattle.model.specs.Holdings.{State, gives, receives, is_covered, settled, total}
use Rattle.model.specs.Proof.{judge_chain}

-- card, kind and count; card and kind; exchange and proof as bytes
pub data Call : Type 0 where
  issue redeem : ℕ → ℕ → ℕ → Call
  query : ℕ → ℕ → Call
  settle : List ℕ → List ℕ → Call

-- ---- the questions

-- "Is the card declared? 8. Is the kind 1 to 16? 9"
abbrev pub account_questions : Book → ℕ → ℕ → List Question
account_questions b c k = (8 unless declared b c) ∷ (9 unless is_kind k) ∷ []

-- one record or transfer at least, at most so many bytes, and a multiple of its size
abbrev pub is_sized : ℕ → ℕ → List ℕ → Bool
is_sized size limit s = (leb size (length s) && leb (length s) limit) && eqb (length s % size) 0

-- "Does every card end with at most 1,000,000,000 of each kind?"
abbrev pub ends_limited : Book → State → Exchange → Bool
ends_limited b s X = every (λ c. every (λ k. leb (settled s X c k) sum_limit) (one_to kind_count)) (one_to (length b.cards))

-- questions 12 to 21
unfoldable pub judging : Book → List ℕ → List ℕ → Reply
judging b e p =
    in_order ((12 unless is_sized transfer_size exchange_limit e) ∷ []) 0
    (in_order ((13 unless every (is_proper b) (exchange_of e)) ∷ []) (first_failing (is_proper b) 1 (exchange_of e))
    (in_order ((14 unless is_sized record_size proof_limit p) ∷ []) 0
    (judge_chain b (exchange_of e) p)))

-- "does every card, for every kind, have holding plus received at least equal to given?" 22, then 23
abbrev pub last_questions : Book → State → Exchange → Reply
last_questions b s X = in_order ((22 unless is_covered s X) ∷ (23 unless ends_limited b s X) ∷ []) 0 (ok done)

unfoldable pub reply_to : Book → State → Call → Reply
unfolding judging
reply_to b s (issue c k n) = in_order (account_questions b c k ++ ((10 unless leb (total s k + n) sum_limit) ∷ [])) 0 (ok done)
reply_to b s (redeem c k n) = in_order (account_questions b c k ++ ((11 unless leb n (s.held c k)) ∷ [])) 0 (ok done)
reply_to b s (query c k) = in_order (account_questions b c k) 0 (ok (holding (s.held c k)))
reply_to b s (settle e p) = and_then (judging b e p) (λ t. last_questions b s (exchange_of e))

-- ---- what a call that is not refused issues, redeems and moves, at card d and kind j

-- n at card c and kind k, 0 elsewhere
abbrev pub amount : ℕ → ℕ → ℕ → ℕ → ℕ → ℕ
amount c k n d j = one_if (eqb c d && eqb k j) * n

abbrev pub issues : Call → ℕ → ℕ → ℕ
issues (issue c k n) d j = amount c k n d j
issues (redeem c k n) d j = 0
issues (query c k) d j = 0
issues (settle e p) d j = 0

abbrev pub redeems : Call → ℕ → ℕ → ℕ
redeems (issue c k n) d j = 0
redeems (redeem c k n) d j = amount c k n d j
redeems (query c k) d j = 0
redeems (settle e p) d j = 0

-- the exchange that the call settles
abbrev pub exchange_in : Call → Exchange
exchange_in (issue c k n) = []
exchange_in (redeem c k n) = []
exchange_in (query c k) = []
exchange_in (settle e p) = exchange_of e

abbrev pub received_in : Call → ℕ → ℕ → ℕ
received_in call d j = receives d j (exchange_in call)

abbrev pub given_in : Call → ℕ → ℕ → ℕ
given_in call d j = gives d j (exchange_in call)

-- ---- the state afterwards

abbrev pub is_refused : Reply → Bool
is_refused (ok t) = false
is_refused (refused n i) = true

-- what a call that is not refused makes of the holdings
abbrev pub changed : State → Call → State
changed s (issue c k n) = record { held = λ d j. s.held d j + amount c k n d j }
changed s (redeem c k n) = record { held = λ d j. s.held d j - amount c k n d j }
changed s (query c k) = s
changed s (settle e p) = record { held = settled s (exchange_of e) }

-- a refused call changes no holding
unfoldable pub after : Book → State → Call → State
unfolding reply_to
after b s call = cond (is_refused (reply_to b s call)) s (changed s call)
