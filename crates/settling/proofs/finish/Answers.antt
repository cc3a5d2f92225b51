-- Each return is the law of the question that refuses, or of all that pass.
use Rattle.answers.proofs.Exits.{exit}
use Rattle.settling.proofs.FinishLaws.{not_covered, exceeds, moved}
use Rattle.settling.proofs.finish.Goals as goal

pub returns-in_err-take_gifts : goal.returns-in_err-take_gifts
returns-in_err-take_gifts c =
    let lacks = c.in_err-take_gifts.ensures in
    rw (exit _ _ c.from_residual.ensures.1, lacks.0) (not_covered _ _ _ c.fits-holdings c.requires _ c.add_receipts.ensures lacks.1)

pub returns-then-not-limited : goal.returns-then-not-limited
returns-then-not-limited c = exceeds _ _ _ c.fits-holdings c.requires _ c.add_receipts.ensures _ c.in_ok-take_gifts.ensures c.if-not-limited.ensures

pub returns : goal.returns
returns c = moved _ _ _ c.fits-holdings c.requires _ c.add_receipts.ensures _ c.in_ok-take_gifts.ensures c.take_gifts.array_long c.told-holdings c.if-not-limited.ensures
