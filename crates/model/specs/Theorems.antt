-- What is proved of the definitions, as named statements. `proofs/Theorems.antt` has a proof of each.
use Rattle.std.specs.Prelude.{◌≡◌, true, cond, ◌↔◌, ◌≢◌, ℕ, ◌+◌, ◌*◌, ◌≤◌, ◌<◌, T, eqb, length}
use mathlib.Core.List.{List, [], ◌∷◌, ◌++◌, Permᴰ}
use Rattle.std.proofs.Math.Option.{some}
use Prim.Native.Char.{code}
use Rattle.model.specs.Limits.{text_limit, card_limit, transfer_size, exchange_limit, record_size, proof_limit}
use Rattle.model.specs.Lists.{is_byte, every, each, ascii}
use Rattle.model.specs.Questions.{ok, refused, done}
use Rattle.model.specs.Grammar.{Rule, Line, card, group, rule, print_line, print_text, well_formed, InGrammar}
use Rattle.model.specs.Reader.{read_line, has_no_lf, cut}
use Rattle.model.specs.Book.{Book, no_book}
use Rattle.model.specs.Opening.{card_digits, with_line, add_line, add_lines, opening, opened_book}
use Rattle.model.specs.Transfers.{Exchange, ◌~◌, exchange_of}
use Rattle.model.specs.Fairness.{Fair, Among}
use Rattle.model.specs.Holdings.{State, Covered, is_covered, settled, MovedExactly, sum_to, total}
use Rattle.model.specs.Proof.{judge_chain}
use Rattle.model.specs.Calls.{issue, redeem, settle, is_sized, amount, reply_to, after}
use Rattle.model.specs.History.{History, ◌▸◌, issued, redeemed, received, given, not_refused, state_after, reply_after}
use Rattle.model.specs.Decision.{is_fair}

-- ---- The grammar, both ways

-- a line is read exactly if it is a printed well-formed line, and it is read back
abbrev pub LinesRead : Type 0
LinesRead = (w : List ℕ) (l : Line) → (read_line w ≡ some l) ↔ ((print_line l ≡ w) × T (well_formed l))

-- a text is cut at its LFs and nowhere else: the lines, each with its LF, and what follows the last one are the text
pub record CutAtLF (t : List ℕ) : Type 0 where
  pub whole : each (λ w. w ++ ascii "\n") (cut t).lines ++ (cut t).last ≡ t
  pub lines : T (every has_no_lf (cut t).lines)
  pub last : T (has_no_lf (cut t).last)

abbrev pub TextsCut : Type 0
TextsCut = (t : List ℕ) → CutAtLF t

-- an opening succeeds exactly if the text is in the grammar and meets questions 1 and 3 to 7
pub record Admitted (t : List ℕ) (b : Book) : Type 0 where
  pub lines : List Line
  pub grammar : InGrammar t lines
  pub short : length t ≤ text_limit
  pub limits : add_lines 1 no_book lines ≡ ok b

abbrev pub OpensExactly : Type 0
OpensExactly = (t : List ℕ) (b : Book) → (opening t ≡ ok b) ↔ Admitted t b

-- what is left of a text, with the lines above it in book b, fails in its first line i by question n
pub data FailsAt (i : ℕ) (b : Book) (rest : List ℕ) : ℕ → Type 0 where
  -- it begins with no well-formed line and its LF
  formless : rest ≢ [] → ((l : Line) (more : List ℕ) → T (well_formed l) → print_line l ++ ascii "\n" ++ more ≢ rest) → FailsAt i b rest 2
  -- it begins with one that does not meet question n
  unmet : {n : ℕ} (l : Line) (more : List ℕ) → T (well_formed l) → print_line l ++ ascii "\n" ++ more ≡ rest → add_line i b l ≡ refused n i → FailsAt i b rest n

-- question 1 comes first; then a refusal is at the first line that fails
pub data FirstFailure (t : List ℕ) : ℕ → ℕ → Type 0 where
  long : text_limit < length t → FirstFailure t 1 0
  line : {n : ℕ} {b : Book} (above : List Line) (rest : List ℕ) → length t ≤ text_limit → T (every well_formed above) → print_text above ++ rest ≡ t
      → add_lines 1 no_book above ≡ ok b → FailsAt (1 + length above) b rest n → FirstFailure t n (1 + length above)

abbrev pub RefusedAtFirst : Type 0
RefusedAtFirst = (t : List ℕ) (n i : ℕ) → opening t ≡ refused n i → FirstFailure t n i

-- "Repeating it changes nothing": what a group line says stays so, and a line that says what is so already leaves the book
pub record GroupsRepeat : Type 0 where
  pub said : (b : Book) (g m : ℕ) → (with_line b (group g m)).member g m ≡ true
  pub stays : (b : Book) (l : Line) (g m : ℕ) → b.member g m ≡ true → (with_line b l).member g m ≡ true
  pub repeated : (b : Book) (g m : ℕ) → b.member g m ≡ true → with_line b (group g m) ≡ b

-- ---- Hyphens

-- bytes without hyphens, as the enrolment page hands them on
abbrev pub without_hyphens : List ℕ → List ℕ
without_hyphens t = each (λ x. cond (eqb x (code "-")) [] (x ∷ [])) t

-- A text and the same text without its hyphens, which are those of its card lines.
pub record HyphensAside : Type 0 where
  -- a card line without hyphens is its digits in one printed group
  pub cards : (gs : List (List ℕ)) → without_hyphens (print_line (card gs)) ≡ print_line (card (card_digits gs ∷ []))
  -- no other line has a hyphen
  pub groups : (g m : ℕ) → without_hyphens (print_line (group g m)) ≡ print_line (group g m)
  pub rules : (r : Rule) → without_hyphens (print_line (rule r)) ≡ print_line (rule r)
  -- a text that opens, opens without its hyphens as the same book
  pub opens : (t : List ℕ) (b : Book) → opening t ≡ ok b → opening (without_hyphens t) ≡ ok b
  -- a text in the grammar, in which every hyphen has its place, opens if it is short enough for question 1 and opens without its hyphens
  pub back : (t : List ℕ) (lines : List Line) (b : Book) → InGrammar t lines → length t ≤ text_limit → opening (without_hyphens t) ≡ ok b → opening t ≡ ok b
  -- a text that is refused by another question than 1 and 2 is refused by it without its hyphens, at the same line
  pub refuses : (t : List ℕ) (n i : ℕ) → n ≢ 1 → n ≢ 2 → opening t ≡ refused n i → opening (without_hyphens t) ≡ refused n i

-- ---- Proofs and fairness

-- the bytes pass questions 15 to 21
abbrev pub Passes : Book → Exchange → List ℕ → Type 0
Passes b X p = judge_chain b X p ≡ ok done

abbrev pub Soundness : Type 0
Soundness = (b : Book) (X : Exchange) (p : List ℕ) → Among b X → Passes b X p → Fair b X

-- proof bytes that pass questions 14 to 21
pub record ProofOf (b : Book) (X : Exchange) : Type 0 where
  pub bytes : List ℕ
  pub are_bytes : T (every is_byte bytes)
  pub sized : T (is_sized record_size proof_limit bytes)
  pub passes : Passes b X bytes

-- A fair exchange of 1 to 32 transfers among the cards has a proof. The book is a text's, since a proof's bytes hold no more than its
-- limits: 32 cards, 56 rules, the variables a to h.
abbrev pub Completeness : Type 0
Completeness =
    (text : List ℕ) (X : Exchange) → Among (opened_book text) X → 1 ≤ length X → length X * transfer_size ≤ exchange_limit
    → Fair (opened_book text) X → ProofOf (opened_book text) X

abbrev pub FairnessDecided : Type 0
FairnessDecided = (text : List ℕ) (X : Exchange) → Among (opened_book text) X → T (is_fair (opened_book text) X) ↔ Fair (opened_book text) X

-- ---- Covered, and the order of the transfers

-- question 22's test of an exchange's transfers tells whether it is covered at every card and kind
abbrev pub CoveredTested : Type 0
CoveredTested = (s : State) (X : Exchange) → T (is_covered s X) ↔ Covered s X

-- the order of the transfers does not matter: of two exchanges of the same transfers, one is fair, or covered, if the other is, and both
-- leave the same holdings
pub record OrderAside : Type 0 where
  pub fair : (b : Book) (X Y : Exchange) → X ~ Y → Fair b X → Fair b Y
  pub covered : (s : State) (X Y : Exchange) → X ~ Y → Covered s X → Covered s Y
  pub moved : (s : State) (X Y : Exchange) → X ~ Y → (c k : ℕ) → settled s X c k ≡ settled s Y c k

-- ---- Sums of a kind

pub record Conservation : Type 0 where
  -- no settlement creates or destroys tokens
  pub settling : (text : List ℕ) (s : State) (e p : List ℕ) (k : ℕ) → reply_to (opened_book text) s (settle e p) ≡ ok done
      → total (after (opened_book text) s (settle e p)) k ≡ total s k
  -- other kinds stay: `amount c j n c k` is n where k is j, else 0
  pub issuing : (text : List ℕ) (s : State) (c j n k : ℕ) → reply_to (opened_book text) s (issue c j n) ≡ ok done
      → total (after (opened_book text) s (issue c j n)) k ≡ total s k + amount c j n c k
  pub redeeming : (text : List ℕ) (s : State) (c j n k : ℕ) → reply_to (opened_book text) s (redeem c j n) ≡ ok done
      → total (after (opened_book text) s (redeem c j n)) k + amount c j n c k ≡ total s k
  -- question 23 is never the first that is answered no
  pub never23 : (text : List ℕ) (h : History) (e p : List ℕ) (i : ℕ) → reply_after (opened_book text) h (settle e p) ≢ refused 23 i

-- ---- Histories

-- "It has a proof that settles it next if some bytes, sent as its proof with a settlement right after the list, meet no refusal."
abbrev pub HasSettlingProof : Book → State → List ℕ → Type 0
HasSettlingProof b s e = (p : List ℕ) × T (every is_byte p) × (reply_to b s (settle e p) ≡ ok done)

pub record Histories (b : Book) (h : History) : Type 0 where
  -- nothing is subtracted below zero
  pub natural : (c k : ℕ) → redeemed (not_refused b h) c k + given (not_refused b h) c k ≤ issued (not_refused b h) c k + received (not_refused b h) c k
  -- a settlement right after the list that is not refused was fair and covered, and moved exactly its transfers
  pub fair : (e p : List ℕ) → reply_after b h (settle e p) ≡ ok done → Fair b (exchange_of e)
  pub covered : (e p : List ℕ) → reply_after b h (settle e p) ≡ ok done → Covered (state_after b h) (exchange_of e)
  pub moved : (e p : List ℕ) → reply_after b h (settle e p) ≡ ok done → MovedExactly (state_after b h) (exchange_of e) (state_after b (h ▸ settle e p))
  -- sums are issued minus redeemed
  pub sums : (k : ℕ) → total (state_after b h) k + sum_to (λ c. redeemed (not_refused b h) c k) card_limit ≡ sum_to (λ c. issued (not_refused b h) c k) card_limit
  -- an exchange of 1 to 32 transfers among the cards has settling bytes exactly if it is fair and covered
  pub settles : (e : List ℕ) → T (is_sized transfer_size exchange_limit e) → Among b (exchange_of e)
      → HasSettlingProof b (state_after b h) e ↔ (Fair b (exchange_of e) × Covered (state_after b h) (exchange_of e))

-- for every text, refused ones too, and every list of calls
abbrev pub EveryHistory : Type 0
EveryHistory = (text : List ℕ) (h : History) → Histories (opened_book text) h

-- ---- Counting is permutation, as the library defines it

abbrev pub CountingIsPermutation : Type 0
CountingIsPermutation = (X Y : Exchange) → (X ~ Y) ↔ Permᴰ X Y
