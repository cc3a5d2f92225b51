-- Exchanges of the same transfers, in whatever order: what a card gives and receives of a kind is the same in both.
use mathlib.Core.Path.{◌≡◌, sym, ◌∙◌}
use Prim.Native.Nat.{ℕ}
use native.Mathlib.Omega.{arith}
use Rattle.model.specs.Book.{Book}
use Rattle.model.specs.Transfers.{Transfer, Exchange, ◌~◌}
use Rattle.model.specs.Fairness.{Accepts, nothing, approved}
use Rattle.model.specs.Holdings.{on_side, along}
use Rattle.model.specs.Theorems.{OrderAside}
use Rattle.model.proofs.Permutations.{sum_same_transfers}

along-same : (side : Transfer → ℕ) (c k : ℕ) (X Y : Exchange) → X ~ Y → along side c k X ≡ along side c k Y
along-same side c k X Y h = sum_same_transfers (on_side side c k) X Y h

accepts_same : (b : Book) (c : ℕ) {W X Y : Exchange} → X ~ Y → Accepts b c W X → Accepts b c W Y
accepts_same b c h (nothing none e) = nothing (λ t g. sym (h t) ∙ none t g) e
accepts_same b c h (approved a o r x w) = approved a o r (λ t. sym (h t) ∙ x t) w

pub order_aside : OrderAside
order_aside = record {
  fair = λ b X Y h f. record {
    because = f.because;
    accepted = λ c d. accepts_same b c h (f.accepted c d);
    contained = λ t. omega (arith, h t, f.contained t);
  };
  covered = λ s X Y h v c k. omega (arith, along-same (λ t. t.giver) c k X Y h, along-same (λ t. t.receiver) c k X Y h, v c k);
  moved = λ s X Y h c k. omega (arith, along-same (λ t. t.giver) c k X Y h, along-same (λ t. t.receiver) c k X Y h);
}
