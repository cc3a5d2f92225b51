-- A line answered: the bytes of its words, and the answer printed.
use mathlib.Core.Path.{◌≡◌, refl, sym, ◌∙◌, ap}
use mathlib.Core.List.{List}
use mathlib.Core.Logic.{⊎_elim}
use Rattle.std.specs.Prelude.{Result}
use mathlib.Core.Bool.{Bool, true, false, ◌&&◌}
use Prim.Native.Nat.{ℕ, suc, ◌%◌, ◌≤◌, ◌<◌}
use native.Mathlib.Omega.{arith}
use native.Mathlib.Nat.{min-eq_left}
use lib.Dec.{eqb, leb}
use lib.ListN.{length, take, drop}
use lib.Seq.{take_all, take_at}
use borrow.Author.Tests.{lt-leb}
use Rattle.model.specs.Limits.{transfer_size, exchange_limit, record_size, proof_limit}
use Rattle.model.specs.Questions.{refused}
use Rattle.model.specs.Book.{Book}
use Rattle.model.specs.Holdings.{State}
use Rattle.model.specs.Calls.{Call, settle, is_sized, judging, reply_to, after}
use Rattle.model.proofs.Tests.{lt_or_ge}
use Rattle.answers.specs.declared.Refusal.{Refusal}
use Rattle.answers.specs.declared.Told.{Told}
use Rattle.settling.specs.Settles.{Settles}
use Rattle.commands.specs.Reader.{pair_bytes}
use Rattle.commands.specs.View.{Filled}
use Rattle.commands.proofs.Buffers.{filled_count}
use Rattle.engine.specs.View.{book_in, state_in}
use Rattle.engine.specs.Contract.{Answers}
use Rattle.engine.specs.declared.Engine.{Engine}
use Rattle.engine.proofs.CallLaws.{with_holdings, book-cards, called}
use Rattle.rulebook.specs.View.{card_count}
use Rattle.accounts.specs.Answered.{AnsweredFor}

-- ---- bytes in a buffer of one more than their limit

-- they are there, or there are too many of them on both sides
record Limited (limit : ℕ) (bytes there : List ℕ) : Type 0 where
  same : length bytes ≤ limit → there ≡ bytes
  over : limit < length bytes → limit < length there

limited : (limit : ℕ) (w buffer after : List ℕ) (n : ℕ) → length buffer ≡ suc limit → Filled (pair_bytes w) buffer after n → Limited limit (pair_bytes w) (take n after)
limited limit w buffer after n b f = record {
  same = λ l.
      let few : length (pair_bytes w) ≤ length buffer = omega arith in
      let all : take (length buffer) (pair_bytes w) ≡ pair_bytes w = take_all (length buffer) (pair_bytes w) few in
      let count : length (pair_bytes w) ≡ n = sym (f.counted ∙ min-eq_left few) in
      ap (take n) f.put ∙ rw all (take_at (pair_bytes w) (drop (length (pair_bytes w)) buffer) n count);
  over = λ l. omega (arith, filled_count f, f.counted);
}

too_many : (size limit : ℕ) (s : List ℕ) → limit < length s → is_sized size limit s ≡ false
too_many size limit s l = rw (lt-leb (length s) limit l) (unsized (leb size (length s)))
  where
    unsized : (t : Bool) → ((t && false) && eqb (length s % size) 0) ≡ false
    unsized true = refl
    unsized false = refl

-- ---- a settlement of such bytes is refused or is that of all of them

long_exchange : (b : Book) (e p : List ℕ) → exchange_limit < length e → judging b e p ≡ refused 12 0
unfolding judging
long_exchange b e p l = rw (too_many transfer_size exchange_limit e l)

module _ (b : Book) (e p x q : List ℕ) (f : Limited exchange_limit e x) (g : Limited proof_limit p q) where
  judged_proof : judging b e q ≡ judging b e p
  unfolding judging
  judged_proof = ⊎_elim
      (λ (l : proof_limit < length p). rw (too_many record_size proof_limit p l, too_many record_size proof_limit q (g.over l)))
      (λ (l : length p ≤ proof_limit). rw (g.same l))
      (lt_or_ge proof_limit (length p))

  module _ (s : State) where
    limited_reply : reply_to b s (settle x q) ≡ reply_to b s (settle e p)
    unfolding reply_to
    limited_reply = ⊎_elim
        (λ (l : exchange_limit < length e). rw (long_exchange b e p l, long_exchange b x q (f.over l)))
        (λ (l : length e ≤ exchange_limit). rw (f.same l, judged_proof))
        (lt_or_ge exchange_limit (length e))

    limited_after : after b s (settle x q) ≡ after b s (settle e p)
    unfolding after reply_to
    limited_after = ⊎_elim
        (λ (l : exchange_limit < length e). rw (long_exchange b e p l, long_exchange b x q (f.over l)))
        (λ (l : length e ≤ exchange_limit). rw (f.same l, judged_proof))
        (lt_or_ge exchange_limit (length e))

-- ---- a line over an engine

-- a call on the holdings, which asks of the book how many cards it has
pub performed : (e : Engine) (call : Call) (r : Result Told Refusal) (h : List ℕ) → AnsweredFor (card_count e.tables.cards) e.holdings call r h → Answers e call r (with_holdings e h)
performed e call r h a = called e call r h (a _ (book-cards e))

-- the settlement of what the buffers hold is that of the words
pub settled-words : (e : Engine) (v w x₀ x p₀ p : List ℕ) (n m : ℕ) (r : Result Told Refusal) (h : List ℕ) → length x₀ ≡ suc exchange_limit
    → length p₀ ≡ suc proof_limit → Filled (pair_bytes v) x₀ x n → Filled (pair_bytes w) p₀ p m
    → Settles e.tables e.holdings (take n x) (take m p) r h → Answers e (settle (pair_bytes v) (pair_bytes w)) r (with_holdings e h)
settled-words e v w x₀ x p₀ p n m r h i j f g s =
    let c = limited exchange_limit v x₀ x n i f in
    let d = limited proof_limit w p₀ p m j g in
    called e (settle (pair_bytes v) (pair_bytes w)) r h (record {
      answers = s.answers ∙ limited_reply (book_in e) _ _ _ _ c d (state_in e);
      state = s.state ∙ limited_after (book_in e) _ _ _ _ c d (state_in e);
      size = s.size;
      refused = s.refused;
    })
