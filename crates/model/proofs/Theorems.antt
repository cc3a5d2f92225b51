-- The proved statements of specs/Theorems.antt and specs/Swaps.antt, each with the file of its argument.
use mathlib.Core.List.{List}
use Prim.Native.Nat.{ℕ}
use Rattle.model.specs.Lists.{every}
use Rattle.model.specs.Questions.{done}
use Rattle.model.specs.Grammar.{rule, well_formed, is_variable}
use Rattle.model.specs.Opening.{opened_book}
use Rattle.model.specs.Fairness.{variables}
use Rattle.model.specs.Calls.{issue, redeem, settle}
use Rattle.model.specs.History.{state_after, reply_after}
use Rattle.model.specs.Theorems.{LinesRead, TextsCut, OpensExactly, RefusedAtFirst, GroupsRepeat, HyphensAside, Soundness, Completeness, FairnessDecided, CoveredTested, OrderAside, Conservation, EveryHistory, CountingIsPermutation}
use Rattle.model.specs.Swaps.{EverySwap}
use Rattle.model.proofs.Tests.{every_map}
use Rattle.model.proofs.Lines as Lines
use Rattle.model.proofs.Cuts as Cuts
use Rattle.model.proofs.Texts as Texts
use Rattle.model.proofs.Hyphens as Hyphens
use Rattle.model.proofs.RuleVariables.{rule_letters}
use Rattle.model.proofs.Permutations as Permutations
use Rattle.model.proofs.Orders as Orders
use Rattle.model.proofs.Soundness as Sound
use Rattle.model.proofs.Completeness as Complete
use Rattle.model.proofs.Deciding as Deciding
use Rattle.model.proofs.Sums as Sums
use Rattle.model.proofs.Settling as Settling
use Rattle.model.proofs.Conservation as Conserved
use Rattle.model.proofs.Histories as History
use Rattle.model.proofs.Swaps as Swaps

-- ---- the grammar

pub lines_read : LinesRead
lines_read = Lines.lines_read

pub texts_cut : TextsCut
texts_cut = Cuts.texts_cut

pub opens_exactly : OpensExactly
opens_exactly = Texts.opens_exactly

pub refused_at_first : RefusedAtFirst
refused_at_first = Texts.refused_at_first

pub groups_repeat : GroupsRepeat
groups_repeat = Texts.groups_repeat

pub hyphens_aside : HyphensAside
hyphens_aside = Hyphens.hyphens_aside

-- ---- proofs and fairness

pub soundness : Soundness
soundness = Sound.soundness

-- what every opened text leaves of a book
pub shaped : (text : List ℕ) → Complete.Shaped (opened_book text)
shaped text =
    let o = Texts.opened-book text in
    record {
      cards≤ = o.cards≤;
      rules≤ = o.rules≤;
      lettered = every_map (λ r. well_formed (rule r)) (λ r. every is_variable (variables r)) rule_letters (opened_book text).rules o.formed;
    }

pub completeness : Completeness
completeness text = Complete.complete (opened_book text) (shaped text)

pub fairness_decided : FairnessDecided
fairness_decided text = Deciding.decides (opened_book text) (shaped text).lettered

-- ---- covered

pub covered_tested : CoveredTested
covered_tested s X = (Sums.covered→ s X, Sums.→covered s X)

pub order_aside : OrderAside
order_aside = Orders.order_aside

-- ---- sums of a kind

pub conservation : Conservation
unfolding reply_after
conservation = record {
  settling = λ text s e p k h.
      rw (Conserved.after-ok (opened_book text) s (settle e p) done h) (Conserved.settling_keeps (opened_book text) (shaped text).cards≤ s e p k done h);
  issuing = λ text s c j n k h.
      rw (Conserved.after-ok (opened_book text) s (issue c j n) done h) (Conserved.issuing_adds (opened_book text) (shaped text).cards≤ s c j n k done h);
  redeeming = λ text s c j n k h.
      rw (Conserved.after-ok (opened_book text) s (redeem c j n) done h) (Conserved.redeeming_takes (opened_book text) (shaped text).cards≤ s c j n k done h);
  never23 = λ text h e p i.
      Settling.never_23 (opened_book text) (shaped text).cards≤ (state_after (opened_book text) h) (History.kept (opened_book text) (shaped text) h).limit e p i;
}

-- ---- histories

pub every_history : EveryHistory
every_history text h = History.histories (opened_book text) (shaped text) h

-- ---- counting

pub counting_is_permutation : CountingIsPermutation
counting_is_permutation = Permutations.counting_is_permutation

-- ---- the P cases

pub every_swap : EverySwap
every_swap = Swaps.every_swap
