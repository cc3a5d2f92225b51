-- A word that ends at the first space; words that lie in a line.
use Rattle.std.proofs.Common.{◌≡◌, ◌∙◌, sym, ℕ, ◌+◌, ◌-◌, List, [], ◌++◌, length, take, drop, Option, Some, None, position, ◌==◌, Bool, true, false, cond, subst, Bor}
use Rattle.std.specs.Bool.{then_some}
use Rattle.std.proofs.lemmas.List.{take-append-drop}
use mathlib.Core.List.{append_assoc, append-nil}
use lib.Dec.{ltb}
use Rattle.model.specs.Lists.{until}
use Rattle.model.proofs.Places.{to_end}
use Rattle.model.proofs.Facts.{never}
use Prim.Native.Char.{code}
use mathlib.Core.Option.{some, none}
use borrow.Author.Tests.{lt-ltb}
use Rattle.ascii.proofs.Places.{found}
use Rattle.commands.specs.Reader.{Split, first_word}
use Rattle.commands.specs.inner.Parts.{split_of}
use Rattle.commands.specs.View.{LiesIn, WordsIn}
use Rattle.commands.specs.declared.Command.{Command}
use Rattle.commands.specs.declared.Command.TheVariants.{Issue, Redeem, Query, Settle}

pub word_found : (s : List ℕ) (r : Option ℕ) (n : ℕ) → r ≡ position (λ x. x == 32) s → r ≡ Some n
    → some (record { word = take n s; rest = take (length s - (n + 1)) (drop (n + 1) s) }) ≡ first_word s
unfolding first_word
word_found s r n p e = let (is, l) = found 32 s n (sym p ∙ e) in rw (to_end s (n + 1), is, lt-ltb n (length s) l)

-- ---- where words lie

word_lies : (n : ℕ) (s : List ℕ) → LiesIn (take n s) s
word_lies n s = ([], drop n s, sym (take-append-drop n s))

rest_lies : (n : ℕ) (s : List ℕ) → LiesIn (drop n s) s
rest_lies n s = (take n s, [], rw (append-nil (drop n s)) (sym (take-append-drop n s)))

lies_after : (n : ℕ) (line s : List ℕ) → LiesIn s (drop n line) → LiesIn s line
lies_after n line s (before, after, e) =
    (take n line ++ before, after, rw (append_assoc (take n line) before (s ++ after), ← e) (sym (take-append-drop n line)))

-- what is read of what follows a line's letter and its space
pub words_of_text : (line : List ℕ) (r : Option Command) → WordsIn (take (length line - 2) (drop 2 line)) r → WordsIn line r
words_of_text line (Some (Issue a n)) w = tt
words_of_text line (Some (Redeem a n)) w = tt
words_of_text line (Some (Query a)) w = tt
words_of_text line (Some (Settle e p)) w =
    let v = rw (to_end line 2) at w in
    (lies_after 2 line e.now v.0, lies_after 2 line p.now v.1)
words_of_text line None w = tt

split_lies : (s : List ℕ) (c : Split) → first_word s ≡ some c → LiesIn c.word s × LiesIn c.rest s
unfolding first_word
split_lies s c = go (ltb n (length s))
  where
    n : ℕ
    n = until (code " ") s

    go : (f : Bool) → cond f (some (record { word = take n s; rest = drop (n + 1) s })) none ≡ some c → LiesIn c.word s × LiesIn c.rest s
    go true e =
        let same : record { word = take n s; rest = drop (n + 1) s } ≡ c = cc in
        subst (λ (d : Split). LiesIn d.word s × LiesIn d.rest s) same (word_lies n s, rest_lies (n + 1) s)
    go false e = never (cc)

pub settled_in : (s : List ℕ) (e p : Bor (List ℕ)) (both : Bool) → first_word s ≡ some (split_of (e, p)) → WordsIn s (then_some both (Settle e p))
settled_in s e p true w = split_lies s (split_of (e, p)) w
settled_in s e p false w = tt
