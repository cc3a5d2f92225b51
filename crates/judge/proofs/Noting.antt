-- Prices noted one after the other.
use mathlib.Core.Path.{◌≡◌, refl, sym, ◌∙◌}
use mathlib.Core.Bool.{Bool, true, false, not, ◌&&◌, ◌||◌}
use mathlib.Core.List.{[], ◌∷◌}
use Prim.Native.Nat.{ℕ, ◌+◌, ◌<◌}
use Rattle.model.specs.Lists.{up_to}
use Rattle.model.specs.Transfers.{Transfer}
use Rattle.model.proofs.Tests.{or_false_right}
use Rattle.judge.specs.declared.notes.Notes.{Notes}
use Rattle.judge.specs.inner.Counts.{Room}
use Rattle.judge.specs.inner.Notes.{Asked}
use Rattle.judge.proofs.Paying.{asks_none, price_room, price_more}

pub asked_none : (a : Notes) → Asked [] a a
asked_none a = record { exchange = refl; found = true; asks = asks_none _ _; missing = sym (or_false_right a.missing) }

both_missing : (m x y : Bool) → ((m || not x) || not y) ≡ (m || not (x && y))
both_missing true x y = refl
both_missing false true y = refl
both_missing false false y = refl

module _ (f : ℕ → Transfer) (i : ℕ) (a b : Notes) where
  pub asked_room : Asked (up_to f i) a b → Room a.gifts.exchange.bytes.now 4 a.asked → i < 4 → Room b.gifts.exchange.bytes.now 1 b.asked
  asked_room h r l = rw h.exchange (price_room _ f i _ _ _ h.asks r l)

  pub asked_more : (c : Notes) → Asked (up_to f i) a b → Asked (f i ∷ []) b c → Asked (up_to f (i + 1)) a c
  asked_more c h k = record {
    exchange = k.exchange ∙ h.exchange;
    found = h.found && k.found;
    asks = price_more _ f i _ _ _ h.asks _ _ (rw h.exchange at k.asks);
    missing = k.missing ∙ rw (h.missing) (both_missing a.missing h.found k.found);
  }
