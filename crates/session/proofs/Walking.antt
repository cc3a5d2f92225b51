-- A block walked from LF to LF: what it prints is what has been printed and what its rest prints.
use mathlib.Core.Path.{◌≡◌, refl, sym, ◌∙◌, ap, ap₂, subst}
use mathlib.Core.List.{List, ◌++◌, append_assoc, append-nil}
use mathlib.Core.Option.{Option}
use Prim.Native.Char.{code}
use Prim.Native.Nat.{ℕ, ◌+◌, ◌*◌, ◌≤◌}
use native.Mathlib.Omega.{arith}
use native.Mathlib.Nat.{zero-add}
use lib.Dec.{T}
use lib.ListN.{length, take, drop, length-take, length-drop, length-append}
use lib.Seq.{drop-drop, take-append-add, drop-append-add, length-take-le}
use Rattle.model.specs.Lists.{ascii}
use Rattle.model.specs.Book.{Book}
use Rattle.model.specs.Reader.{has_no_lf}
use Rattle.model.specs.Calls.{Call}
use Rattle.model.specs.Holdings.{State}
use Rattle.commands.specs.Grammar.{answer_size}
use Rattle.commands.specs.Dialects.{command_in}
use Rattle.commands.specs.View.{Printed}
use Rattle.commands.specs.declared.Dialect.{Dialect}
use Rattle.session.specs.Input.{answer_to, after_line}
use Rattle.session.specs.Blocks.{Progress, between_lines, line_room, block_says, after_block}
use Rattle.engine.specs.View.{book_in, state_in}
use Rattle.ascii.specs.Cut.{CutAt}
use Rattle.session.specs.inner.Parts.{PartKept, LineAnswered, progress_in, BlockAnswered}
use Rattle.session.specs.declared.Session.{Session}
use Rattle.session.proofs.Lines.{says_both, after_both, part_says_lem, part_after, line-says, line_after, kept_command}
use Rattle.session.proofs.Printing.{printed-front, printed_past, printed_all, printed_parts}

-- ---- from line to line

module _ (d : Dialect) (b : Book) (p : Progress) (block out₀ : List ℕ) where
  -- what was printed, with what the rest prints after the progress q, is what the block prints, and there is room for an answer to each byte
  pub record Walking (q : Progress) (out : List ℕ) (count : ℕ) (rest : List ℕ) : Type 0 where
    pub says : block_says d b p block ≡ take count out ++ block_says d b q rest
    pub after : after_block d b p block ≡ after_block d b q rest
    pub past : drop count out ≡ drop count out₀
    pub room : count + length rest * answer_size ≤ length out
    pub long : length out ≡ length out₀

  pub walking_none : length block * answer_size ≤ length out₀ → Walking p out₀ 0 block
  walking_none l = record { says = refl; after = refl; past = refl; room = omega arith; long = refl }

  module _ (q : Progress) (out : List ℕ) (count : ℕ) (rest : List ℕ) (w : Walking q out count rest) (short : length q.line ≤ line_room d) where
    -- a line more, answered after what was printed
    module _ (line next : List ℕ) (f : CutAt (code "\n") rest line next) where
      abbrev command : Option Call
      command = command_in d (take (line_room d) (q.line ++ line))

      abbrev answer : List ℕ
      answer = answer_to b q.state command

      abbrev after_it : Progress
      after_it = between_lines (after_line b q.state command)

      rest-says : block_says d b q rest ≡ answer ++ block_says d b after_it next
      rest-says =
          ap (block_says d b q) f.whole
          ∙ says_both d b q (line ++ ascii "\n") next
          ∙ rw (line-says d b q.state q.line line short f.first, line_after d b q.state q.line line short f.first)

      rest_after : after_block d b q rest ≡ after_block d b after_it next
      rest_after =
          ap (after_block d b q) f.whole ∙ after_both d b q (line ++ ascii "\n") next ∙ rw (line_after d b q.state q.line line short f.first)

      rest_length : length rest ≡ length line + 1 + length next
      rest_length = omega (arith, ap length f.whole, length-append (line ++ ascii "\n") next, length-append line (ascii "\n"))

      pub walking_more : (tail : List ℕ) (n : ℕ) → Printed answer_size answer (drop count out) tail n → Walking after_it (take count out ++ tail) (count + n) next
      walking_more tail n a = record {
        says = w.says ∙ ap (λ (l : List ℕ). take count out ++ l) rest-says ∙ sym (append_assoc (take count out) answer (block_says d b after_it next)) ∙ rw front;
        after = w.after ∙ rest_after;
        past =
            ap (λ (k : ℕ). drop (k + n) (take count out ++ tail)) (sym before)
            ∙ drop-append-add (take count out) tail n
            ∙ printed_past a enough
            ∙ ap (drop n) w.past
            ∙ drop-drop n count out₀;
        room = omega (arith, w.room, rest_length, a.counted, a.fits, longs);
        long = longs ∙ w.long;
      }
        where
          before : length (take count out) ≡ count
          before = length-take-le count out (omega (arith, w.room))

          enough : answer_size ≤ length (drop count out)
          enough = omega (arith, w.room, rest_length, length-drop count out)

          front : take count out ++ answer ≡ take (count + n) (take count out ++ tail)
          front = sym (
              ap (λ (k : ℕ). take (k + n) (take count out ++ tail)) (sym before)
              ∙ take-append-add (take count out) tail n
              ∙ ap (λ (l : List ℕ). take count out ++ l) (printed-front a enough)
              )

          longs : length (take count out ++ tail) ≡ length out
          longs = omega (arith, length-append (take count out) tail, printed_all a enough, before, length-drop count out, w.room)

    -- no LF is left
    module _ (plain : T (has_no_lf rest)) where
      pub walked_said : Printed (length out₀) (block_says d b p block) out₀ out count
      walked_said = printed_parts printed w.past (omega (arith, w.room, w.long)) w.long (omega (arith, w.room, w.long))
        where
          printed : take count out ≡ block_says d b p block
          printed = sym (w.says ∙ rw (part_says_lem d b q.state q.line rest short plain) (append-nil (take count out)))

      pub walked_after : after_block d b p block ≡ record { state = q.state; line = take (line_room d) (q.line ++ rest) }
      walked_after = w.after ∙ part_after d b q.state q.line rest short plain

-- ---- by a session, of which the buffer for a line has the room of the longest and one byte more

-- the session s' goes on for s where the progress q is
pub record GoesOn (s s' : Session) (q : Progress) : Type 0 where
  pub state : q.state ≡ state_in s'.engine
  pub dialect : s'.dialect ≡ s.dialect
  pub book : book_in s'.engine ≡ book_in s.engine

pub goes_on : (s : Session) (buffer : List ℕ) → GoesOn s s (progress_in s buffer)
goes_on s buffer = record { state = refl; dialect = refl; book = refl }

abbrev pub Walked : (s : Session) (buffer block out₀ : List ℕ) → Progress → List ℕ → ℕ → List ℕ → Type 0
Walked s buffer = Walking s.dialect (book_in s.engine) (progress_in s buffer)

module _ (s : Session) (buffer block out₀ : List ℕ) (line : length buffer ≡ line_room s.dialect) where
  -- a line that was answered
  answered-more : (q : Progress) (out : List ℕ) (count : ℕ) (rest part next : List ℕ) → Walked s buffer block out₀ q out count rest → length q.line ≤ line_room s.dialect → CutAt (code "\n") rest part next
      → (s₁ : Session) → GoesOn s s₁ q → (text tail : List ℕ) (s₂ : Session) (n : ℕ) → LineAnswered s₁ text (drop count out) s₂ tail n
      → command_in s.dialect (take (line_room s.dialect) (q.line ++ part)) ≡ command_in s.dialect text
      → Walked s buffer block out₀ (between_lines (state_in s₂.engine)) (take count out ++ tail) (count + n) next × GoesOn s s₂ (between_lines (state_in s₂.engine))
  answered-more q out count rest part next w short f s₁ g text tail s₂ n a same =
      let b = book_in s.engine in
      let command = command_in s.dialect (take (line_room s.dialect) (q.line ++ part)) in
      let said : Printed answer_size (answer_to b q.state command) (drop count out) tail n = rw (same, g.state, ← g.book, ← g.dialect) a.said in
      let left : after_line b q.state command ≡ state_in s₂.engine = rw (same, g.state, ← g.book, ← g.dialect) (sym a.state) in (
        subst (λ (t : State). Walked s buffer block out₀ (between_lines t) (take count out ++ tail) (count + n) next) left
            (walking_more s.dialect b (progress_in s buffer) block out₀ q out count rest w short part next f tail n said),
        record { state = refl; dialect = ap (λ (t : Session). t.dialect) a.others ∙ g.dialect; book = a.book ∙ g.book },
      )

  -- the first line, after what was kept of it
  pub first-answered : s.size ≤ length buffer → length block * answer_size ≤ length out₀ → (part next : List ℕ) → CutAt (code "\n") block part next
      → (s₁ : Session) (buffer₁ : List ℕ) → PartKept s buffer part s₁ buffer₁
      → (s₂ : Session) (out : List ℕ) (n : ℕ) → LineAnswered s₁ (take s₁.size buffer₁) out₀ s₂ out n
      → Walked s buffer block out₀ (between_lines (state_in s₂.engine)) out n next × GoesOn s s₂ (between_lines (state_in s₂.engine))
  first-answered few room part next f s₁ buffer₁ k s₂ out n a =
      let p = progress_in s buffer in
      let w = walking_none s.dialect (book_in s.engine) p block out₀ room in
      let g : GoesOn s s₁ p = record {
        state = ap (λ (t : Session). state_in t.engine) (sym k.others);
        dialect = ap (λ (t : Session). t.dialect) k.others;
        book = ap (λ (t : Session). book_in t.engine) k.others;
      } in
      let same : command_in s.dialect (take (line_room s.dialect) (p.line ++ part)) ≡ command_in s.dialect (take s₁.size buffer₁) = rw (k.bytes, line) in
      let z : 0 + n ≡ n = zero-add n in
      rw z at (answered-more p out₀ 0 block part next w (omega (arith, length-take s.size buffer)) f s₁ g (take s₁.size buffer₁) out s₂ n a same)

  -- a line that is read where it is
  pub line-answered : (s₁ : Session) (out : List ℕ) (count : ℕ) (rest part next : List ℕ) → CutAt (code "\n") rest part next
      → Walked s buffer block out₀ (between_lines (state_in s₁.engine)) out count rest × GoesOn s s₁ (between_lines (state_in s₁.engine))
      → (s₂ : Session) (tail : List ℕ) (n : ℕ) → LineAnswered s₁ part (drop count out) s₂ tail n
      → Walked s buffer block out₀ (between_lines (state_in s₂.engine)) (take count out ++ tail) (count + n) next × GoesOn s s₂ (between_lines (state_in s₂.engine))
  line-answered s₁ out count rest part next f w s₂ tail n a =
      answered-more (between_lines (state_in s₁.engine)) out count rest part next w.0 (omega arith) f s₁ w.1 part tail s₂ n a (kept_command s.dialect part)

  -- the rest kept
  pub block-answered : (q : Progress) (out : List ℕ) (count : ℕ) (rest : List ℕ) → Walked s buffer block out₀ q out count rest → T (has_no_lf rest)
      → (s₁ : Session) (buffer₁ : List ℕ) → GoesOn s s₁ q → q.line ≡ take s₁.size buffer₁ → s₁.size ≤ length buffer₁ → length buffer₁ ≡ length buffer
      → (s₂ : Session) (buffer₂ : List ℕ) → PartKept s₁ buffer₁ rest s₂ buffer₂ → BlockAnswered s buffer block out₀ s₂ buffer₂ out count
  block-answered q out count rest w plain s₁ buffer₁ g kept few long s₂ buffer₂ k =
      let b = book_in s.engine in
      let p = progress_in s buffer in
      let short : length q.line ≤ line_room s.dialect = omega (arith, ap length kept, length-take s₁.size buffer₁) in
      let state : q.state ≡ state_in s₂.engine = g.state ∙ ap (λ (t : Session). state_in t.engine) (sym k.others) in
      let bytes : take (line_room s.dialect) (q.line ++ rest) ≡ take s₂.size buffer₂ = rw (kept, k.bytes, long, line) in
      record {
        said = walked_said s.dialect b p block out₀ q out count rest w short plain;
        progress = walked_after s.dialect b p block out₀ q out count rest w short plain
            ∙ ap₂ (λ (t : State) (l : List ℕ). record { state = t; line = l }) state bytes;
        within = omega (arith, k.within);
        long = k.long ∙ long;
        dialect = ap (λ (t : Session). t.dialect) k.others ∙ g.dialect;
        book = ap (λ (t : Session). book_in t.engine) k.others ∙ g.book;
      }
