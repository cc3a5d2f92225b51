-- A program's transfers as the model's, and what is told of them.
use Rattle.std.specs.Prelude.{◌≡◌, List, map, ℕ, zero, suc, ◌/◌, length, get_or, Option, None, Some}
use Rattle.model.specs.Limits.{transfer_size, exchange_limit}
use Rattle.model.specs.Lists.{up_to}
use Rattle.model.specs.Transfers.{Transfer, Exchange, exchange_of, no_transfer}
use Rattle.transfers.specs.declared.Transfer as declared

abbrev pub transfer_of : declared.Transfer → Transfer
transfer_of t = record { giver = t.giver; kind = t.kind; receiver = t.receiver }

abbrev pub transfers_of : List declared.Transfer → Exchange
transfers_of list = map transfer_of list

-- how many transfers the bytes hold
abbrev pub transfer_count : List ℕ → ℕ
transfer_count e = length e / transfer_size

-- a number from 1 as a program tells it, which the model's 0 stands for when there is none
abbrev pub told : ℕ → Option ℕ
told zero = None
told (suc n) = Some (suc n)

-- as many as an exchange may have
abbrev pub list_size : ℕ
list_size = exchange_limit / transfer_size

-- 32 transfers: the exchange's first 32, then transfers of zeros
abbrev pub Listed : List ℕ → List declared.Transfer → Type 0
Listed e list = transfers_of list ≡ up_to (λ j. get_or (exchange_of e) j no_transfer) list_size
