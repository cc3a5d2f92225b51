-- The cases of document 01 that are marked P ("Swaps that tempt"), P8 as document 02 has it, and those that document 02 tells of card
-- lines, as the rows of one table, and what each row says.
use Rattle.std.specs.Prelude.{◌≡◌, true, false, List, [], ◌∷◌, ◌++◌, map, ℕ, ◌-◌}
use Prim.Native.Char.{code}
use Prim.Native.String.{String}
use Rattle.model.specs.Lists.{each, ascii}
use Rattle.model.specs.Questions.{ok, refused, done, Reply}
use Rattle.model.specs.CardNumbers.{luhn}
use Rattle.model.specs.Book.{Book, no_book}
use Rattle.model.specs.Opening.{opening}
use Rattle.model.specs.Transfers.{Transfer, Exchange}
use Rattle.model.specs.Fairness.{Fair}
use Rattle.model.specs.Calls.{Call, issue, settle, judging}
use Rattle.model.specs.History.{History, start, ◌▸◌, reply_after}

-- ---- the book

-- a text of these lines
abbrev pub lines : List String → List ℕ
lines ss = each (λ s. ascii s ++ ascii "\n") ss

-- book.txt
abbrev pub book_text : List ℕ
book_text =
    lines (
    "C 700056000016" ∷
    "C 700012000019" ∷
    "C 700012000027" ∷
    "G 1 2" ∷
    "R 1 A a < b C *" ∷
    "R 2 B a < b A *" ∷
    "R 3 C a < b B *" ∷
    "R 2 B a < a D * = a *" ∷
    "R 3 D a < b B *" ∷
    "R 1 B a < a D b ? 1 b" ∷
    "R 1 A a < b D *" ∷
    "R 2 D a < a A *" ∷ [])

abbrev pub A : ℕ
A = 1

abbrev pub B : ℕ
B = 2

abbrev pub C : ℕ
C = 3

abbrev pub D : ℕ
D = 4

-- 1 A 2: card 1 gives kind A to card 2
abbrev pub giving : ℕ → ℕ → ℕ → Transfer
giving m k n = record { giver = m; kind = k; receiver = n }

-- an exchange as bytes
abbrev pub bytes_of : Exchange → List ℕ
bytes_of [] = []
bytes_of (t ∷ X) = t.giver ∷ t.kind ∷ t.receiver ∷ bytes_of X

-- a proof record: next, transfer, rule, and the cards for a and b
abbrev pub proof_record : ℕ → ℕ → ℕ → ℕ → ℕ → List ℕ
proof_record next transfer rule a b = next ∷ transfer ∷ rule ∷ 0 ∷ a ∷ b ∷ 0 ∷ 0 ∷ 0 ∷ 0 ∷ 0 ∷ 0 ∷ []

abbrev pub digits : String → List ℕ
digits s = map (λ x. x - code "0") (ascii s)

-- ---- rows and what they say

pub data Row : Type 0 where
  passes_luhn fails_luhn : String → Row
  fair unfair : Exchange → Row
  judged : Exchange → List ℕ → ℕ → ℕ → Row
  replied : History → Call → Reply → Row
  opens_empty : List ℕ → Row
  opens_not : List ℕ → ℕ → ℕ → Row

-- over the book b
abbrev pub Says : Book → Row → Type 0
Says b (passes_luhn ds) = luhn (digits ds) ≡ true
Says b (fails_luhn ds) = luhn (digits ds) ≡ false
Says b (fair X) = Fair b X
Says b (unfair X) = Fair b X → ⊥
Says b (judged X p n i) = judging b (bytes_of X) p ≡ refused n i
Says b (replied h call r) = reply_after b h call ≡ r
Says b (opens_empty t) = opening t ≡ ok no_book
Says b (opens_not t n i) = opening t ≡ refused n i

-- ---- the table

-- P8's exchange, its proof by the rules 7, 8, 4, 5, and the issues of an A to card 1 and a B to card 2
abbrev pub swap8 : Exchange
swap8 = giving 1 A 2 ∷ giving 2 D 1 ∷ giving 2 B 3 ∷ giving 3 D 2 ∷ []

abbrev pub settle8 : Call
settle8 = settle (bytes_of swap8) (proof_record 2 1 7 2 2 ++ proof_record 3 2 8 1 0 ++ proof_record 4 3 4 3 0 ++ proof_record 0 4 5 2 2)

abbrev pub issues8 : History
issues8 = start ▸ issue 1 A 1 ▸ issue 2 B 1

abbrev pub swap6 : Exchange
swap6 = giving 3 D 2 ∷ giving 1 B 3 ∷ giving 2 B 3 ∷ []

abbrev pub table : List Row
table =
    -- P1, P2
    passes_luhn "700012000019" ∷
    fails_luhn "700012000018" ∷
    -- P3, P4: the ring, and without 3 C 1
    fair (giving 1 A 2 ∷ giving 2 B 3 ∷ giving 3 C 1 ∷ []) ∷
    unfair (giving 1 A 2 ∷ giving 2 B 3 ∷ []) ∷
    -- P5
    fair (giving 3 D 2 ∷ giving 1 B 3 ∷ []) ∷
    -- P6: one D pays twice; by the rules 5, 6, 4 it is 21
    unfair swap6 ∷
    judged swap6 (proof_record 2 1 5 2 1 ++ proof_record 3 2 6 3 2 ++ proof_record 0 3 4 3 0) 21 0 ∷
    -- P7: with a second 3 D 2
    fair (swap6 ++ (giving 3 D 2 ∷ [])) ∷
    -- P8: fair, and settled although card 2 holds no D; yet 22 while card 3 holds no D either
    fair swap8 ∷
    replied (issues8 ▸ issue 3 D 1) settle8 (ok done) ∷
    replied issues8 settle8 (refused 22 0) ∷
    -- P9: 2 B 1 by rule 4 with a = 1
    judged (giving 2 B 1 ∷ []) (proof_record 0 1 4 1 0) 19 1 ∷
    -- P10: 1 A 2 by rule 1 with a = 2, b = 1
    judged (giving 1 A 2 ∷ []) (proof_record 0 1 1 2 1) 18 1 ∷
    -- P11, P12
    opens_empty [] ∷
    opens_not (lines ("C 700012000019" ∷ "C 700012000019" ∷ [])) 5 2 ∷
    -- 02: the same card in printed groups; a leading, a trailing, a doubled hyphen
    opens_not (lines ("C 700012000019" ∷ "C 7000-1200-0019" ∷ [])) 5 2 ∷
    opens_not (lines ("C -700012000019" ∷ [])) 2 1 ∷
    opens_not (lines ("C 700012000019-" ∷ [])) 2 1 ∷
    opens_not (lines ("C 7000--12000019" ∷ [])) 2 1 ∷ []

abbrev pub EveryRow : Book → List Row → Type 0
EveryRow b [] = Unit {0}
EveryRow b (r ∷ rs) = Says b r × EveryRow b rs

-- one statement over the table: book.txt opens, and the rows say what is so of its book
abbrev pub EverySwap : Type 0
EverySwap = (b : Book) × (opening book_text ≡ ok b) × EveryRow b table
