-- There are runs: a call that is refused returns the engine that it was given, and any other that engine with the 512 numbers of the
-- state that it makes.
use mathlib.Core.Path.{◌≡◌, refl, sym, ap, ◌∙◌}
use mathlib.Core.List.{List, [], ◌∷◌}
use Prim.Native.Nat.{ℕ}
use native.Mathlib.Omega.{arith}
use lib.ListN.{length}
use Rattle.model.specs.Limits.{holding_count}
use Rattle.model.specs.Questions as model
use Rattle.model.specs.Calls.{reply_to, changed}
use Rattle.model.specs.History.{History, start, ◌▸◌}
use Rattle.model.proofs.Conservation.{after-ok}
use Rattle.std.specs.Prelude.{Result, Ok, Err}
use Rattle.answers.specs.View.{reply_of}
use Rattle.answers.specs.declared.Refusal.{Refusal}
use Rattle.answers.specs.declared.Told.{Told}
use Rattle.answers.specs.declared.Told.TheVariants.{Done, Holding}
use Rattle.rulebook.specs.Reads.{Reads}
use Rattle.rulebook.specs.declared.Tables.{Tables}
use Rattle.rulebook.proofs.Exists.{text_reads}
use Rattle.accounts.specs.View.{numbers_of}
use Rattle.accounts.proofs.HoldingNumbers.{numbers_length, numbers_changed}
use Rattle.engine.specs.View.{book_in, state_in}
use Rattle.engine.specs.Contract.{Opens, Answers}
use Rattle.engine.specs.Demand3.{Run, opened, called, EveryTextOpens, EveryCallAnswers, EveryListRuns}
use Rattle.engine.specs.declared.Engine.{Engine}
use Rattle.engine.proofs.Reasons.{Named, replied}
use Rattle.engine.proofs.CallLaws.{opens, opens_none, with_holdings, book-cards, refuses}

reply_telling : (t : model.Told) → (r : Result Told Refusal) × (reply_of r ≡ model.ok t)
reply_telling model.done = (Ok Done, refl)
reply_telling (model.holding n) = (Ok (Holding n), refl)

call_answers : EveryCallAnswers
call_answers e l call = go (reply_to (book_in e) (state_in e) call) (replied (book_in e) (state_in e) call) refl
  where
    go : (m : model.Reply) → Named m → reply_to (book_in e) (state_in e) call ≡ m → (r : Result Told Refusal) × (e' : Engine) × Answers e call r e'
    go (model.ok t) named q =
        let r = reply_telling t in
        let s = changed (state_in e) call in (
          r.0,
          with_holdings e (numbers_of s),
          record {
            answers = r.1 ∙ sym q;
            state = numbers_changed (book_in e) (omega (arith, book-cards e)) e.holdings call t q ∙ sym (after-ok (book_in e) (state_in e) call t q);
            book = refl;
            size = numbers_length s ∙ sym l;
            refused = λ k. absurd (rw r.1 at k);
          },
        )
    go (model.refused n i) named q = let r : Refusal = record { reason = named.why.0; place = i } in (Err r, e, refuses e call r (q ∙ ap (λ (k : ℕ). model.refused k i) (sym named.why.1)))

run_size : {text : List ℕ} {h : History} {rs : List (Result Told Refusal)} {e : Engine} → Run text h rs e → length e.holdings ≡ holding_count
run_size (opened o) = o.size
run_size (called run a) = a.size ∙ run_size run

text_opens : EveryTextOpens
text_opens text = let r = text_reads text in go r.0 r.1
  where
    go : (r : Result Tables Refusal) → Reads r text → (answer : Result (Unit {0}) Refusal) × (e : Engine) × Opens text answer e
    go (Ok t) h = (Ok tt, _, opens text t h)
    go (Err r) h = (Err r, _, opens_none text r h)

pub list_runs : EveryListRuns
list_runs text start = let o = text_opens text in ([], o.1, opened o.2)
list_runs text (h ▸ call) =
    let r = list_runs text h in
    let a = call_answers r.1 (run_size r.2) call in
    (a.0 ∷ r.0, a.1, called r.2 a.2)
