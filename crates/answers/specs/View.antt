-- The model's answer that an answer of the program is: document 01's number and place, or what is told.
use Rattle.std.specs.Prelude.{ℕ, Result, Ok, Err}
use Rattle.model.specs.Questions as model
use Rattle.answers.specs.declared.Reason.{Reason}
use Rattle.answers.specs.declared.Reason.TheVariants as reason
use Rattle.answers.specs.declared.Refusal.{Refusal}
use Rattle.answers.specs.declared.Told.{Told}
use Rattle.answers.specs.declared.Told.TheVariants as told

-- document 01's number of each reason
abbrev pub number_of : Reason → ℕ
number_of reason.TextTooLong = 1
number_of reason.NoForm = 2
number_of reason.TooManyCards = 3
number_of reason.BadCardNumber = 4
number_of reason.CardRepeated = 5
number_of reason.CardNotAbove = 6
number_of reason.TooManyRules = 7
number_of reason.CardUndeclared = 8
number_of reason.KindUnknown = 9
number_of reason.SumExceeded = 10
number_of reason.HoldingShort = 11
number_of reason.ExchangeSize = 12
number_of reason.BadTransfer = 13
number_of reason.ProofSize = 14
number_of reason.BadClaim = 15
number_of reason.WrongRule = 16
number_of reason.BadCards = 17
number_of reason.BadPrice = 18
number_of reason.ConditionUnmet = 19
number_of reason.BadLink = 20
number_of reason.PriceUnpaid = 21
number_of reason.NotCovered = 22
number_of reason.HoldingExceeded = 23
number_of reason.BadHoldings = 24

-- the number of the question that a line or a record does not meet; 0 where it meets each
abbrev pub unmet_of : Result (Unit {0}) Reason → ℕ
unmet_of (Ok done) = 0
unmet_of (Err why) = number_of why

-- a line or a record refused for a reason, with its number as the place
abbrev pub placed : ℕ → Result (Unit {0}) Reason → Result (Unit {0}) Refusal
placed n (Ok done) = Ok done
placed n (Err why) = Err (record { reason = why; place = n })

-- of an opening; `told` is what it tells where it is not refused
abbrev pub answer_of : {A : Type 0} → A → Result (Unit {0}) Refusal → model.Answer A
answer_of told (Ok _) = model.ok told
answer_of told (Err r) = model.refused (number_of r.reason) r.place

-- what a call tells
abbrev pub told_of : Told → model.Told
told_of told.Done = model.done
told_of (told.Holding count) = model.holding count

-- of a call
abbrev pub reply_of : Result Told Refusal → model.Reply
reply_of (Ok t) = model.ok (told_of t)
reply_of (Err r) = model.refused (number_of r.reason) r.place

-- of a call whose refusal is told by its number alone
abbrev pub numbered_of : Result Told ℕ → model.Reply
numbered_of (Ok t) = model.ok (told_of t)
numbered_of (Err number) = model.refused number 0

-- "0 or a refusal number, without place"
abbrev pub refusal_number : model.Reply → ℕ
refusal_number (model.ok told) = 0
refusal_number (model.refused number place) = number
