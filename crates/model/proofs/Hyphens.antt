-- A text and the same text without its hyphens are answered alike: line by line, a card line without them says the same card in one
-- printed group, and no other line has any.
use mathlib.Core.Path.{◌≡◌, refl, sym, ◌∙◌, ap}
use mathlib.Core.Bool.{Bool, true, false, cond}
use mathlib.Core.List.{List, [], ◌∷◌, ◌++◌, map, flatten, append-nil, map-append}
use mathlib.Core.Logic.{◌≢◌}
use Prim.Native.Char.{code}
use Prim.Native.Nat.{ℕ, suc, ◌+◌, ◌≤◌}
use native.Mathlib.Omega.{arith}
use lib.Dec.{T, eqb, leb}
use lib.ListN.{length, length-append, length-map}
use Rattle.model.specs.Limits.{text_limit}
use Rattle.model.specs.Lists.{every, lacks, ascii}
use Rattle.model.specs.Questions.{Answer, ok, refused, and_then}
use Rattle.model.specs.Grammar.{Rule, Line, card, group, rule, digit, card_word, words, print_line, print_text, is_printed_group, well_formed, InGrammar}
use Rattle.model.specs.Book.{Book, no_book}
use Rattle.model.specs.Opening.{card_digits, add_line, add_lines, opening}
use Rattle.model.specs.Theorems.{without_hyphens, HyphensAside, formless, unmet, FirstFailure, long, line}
use Rattle.model.proofs.Tests.{and, both, every_append, ne_eqb}
use Rattle.model.proofs.Facts.{facts}
use Rattle.model.proofs.Words.{each_append, card-bytes}
use Rattle.model.proofs.PrintedGroups.{tail}
use Rattle.model.proofs.Absent.{joined_lack, digits_lack, group-lacks, rule-lacks}
use Rattle.model.proofs.Cuts.{ended}
use Rattle.model.proofs.Texts.{opened-by-lines, refused-by-line, opens_exactly, refused_at_first}

-- ---- what is left of a line

none-taken : (w : List ℕ) → T (lacks (code "-") w) → without_hyphens w ≡ w
none-taken [] h = refl
none-taken (x ∷ w) h = let f = simp facts at h in rw (ne_eqb x (code "-") f.0, none-taken w f.1)

group-same : (g m : ℕ) → without_hyphens (print_line (group g m)) ≡ print_line (group g m)
group-same g m = none-taken _ (joined_lack (code "-") (ascii " ") (simp facts (omega arith)) (words (group g m)) (group-lacks (code "-") (omega arith) g m))

rule-same : (r : Rule) → without_hyphens (print_line (rule r)) ≡ print_line (rule r)
rule-same r = none-taken _ (joined_lack (code "-") (ascii " ") (simp facts (omega arith)) (words (rule r)) (rule-lacks (code "-") (omega arith) (omega arith) r))

-- the line with its card's digits in one printed group
abbrev in_one : Line → Line
in_one (card gs) = card (card_digits gs ∷ [])
in_one (group g m) = group g m
in_one (rule r) = rule r

both_parts : (xs ys : List ℕ) → without_hyphens (xs ++ ys) ≡ without_hyphens xs ++ without_hyphens ys
both_parts xs ys = each_append (λ x. cond (eqb x (code "-")) [] (x ∷ [])) xs ys

digits_same : (ds : List ℕ) → without_hyphens (map digit ds) ≡ map digit ds
digits_same ds = none-taken (map digit ds) (digits_lack (code "-") (omega arith) ds)

-- a printed group, and what follows it
printed_then : (g r : List ℕ) (gs : List (List ℕ)) → without_hyphens r ≡ map digit (flatten gs) → without_hyphens (map digit g ++ r) ≡ map digit (flatten (g ∷ gs))
unfolding flatten
printed_then g r gs e = both_parts (map digit g) r ∙ rw (digits_same g, e) (sym (map-append digit g (flatten gs)))

tail-digits : (gs : List (List ℕ)) → without_hyphens (tail gs) ≡ map digit (flatten gs)
unfolding flatten
tail-digits [] = refl
tail-digits (g ∷ gs) = printed_then g (tail gs) gs (tail-digits gs)

word-digits : (gs : List (List ℕ)) → without_hyphens (card_word gs) ≡ map digit (card_digits gs)
unfolding flatten
word-digits [] = refl
word-digits (g ∷ gs) = printed_then g (tail gs) gs (tail-digits gs)

card-left : (gs : List (List ℕ)) → without_hyphens (print_line (card gs)) ≡ print_line (card (card_digits gs ∷ []))
card-left gs =
    ap without_hyphens (card-bytes gs)
    ∙ rw (word-digits gs, card-bytes (card_digits gs ∷ []), append-nil (map digit (card_digits gs)))

line-left : (l : Line) → without_hyphens (print_line l) ≡ print_line (in_one l)
line-left (card gs) = card-left gs
line-left (group g m) = group-same g m
line-left (rule r) = rule-same r

text_left : (ls : List Line) → without_hyphens (print_text ls) ≡ print_text (map in_one ls)
text_left [] = refl
text_left (l ∷ ls) =
    both_parts (print_line l ++ ascii "\n") (print_text ls)
    ∙ rw (both_parts (print_line l) (ascii "\n"), line-left l, text_left ls)

shorter : (t : List ℕ) → length (without_hyphens t) ≤ length t
shorter [] = omega arith
shorter (x ∷ t) = go (eqb x (code "-")) (shorter t)
  where
    go : (h : Bool) → length (without_hyphens t) ≤ length t → length (cond h [] (x ∷ []) ++ without_hyphens t) ≤ suc (length t)
    go true l = omega arith
    go false l = omega arith

-- ---- it is well formed and says the same card

line-formed : (l : Line) → T (well_formed l) → T (well_formed (in_one l))
unfolding flatten
line-formed (card []) h = absurd h
line-formed (card (g ∷ gs)) h =
    let f = simp facts at h in
    let all = every_append (λ d. leb d 9) g (flatten gs) f.1.0.1 (rest gs f.1.1) in
    simp facts (omega arith, ((omega (arith, length-append g (flatten gs)), all), tt))
  where
    rest : (gs : List (List ℕ)) → T (every is_printed_group gs) → T (every (λ d. leb d 9) (flatten gs))
    rest [] h = tt
    rest (g ∷ gs) h = let f = both (is_printed_group g) _ h in every_append _ g (flatten gs) (both (leb 1 (length g)) _ f.0).1 (rest gs f.1)
line-formed (group g m) h = h
line-formed (rule r) h = h

text_formed : (ls : List Line) → T (every well_formed ls) → T (every well_formed (map in_one ls))
text_formed [] h = tt
text_formed (l ∷ ls) h = let f = both (well_formed l) _ h in and (well_formed (in_one l)) _ (line-formed l f.0) (text_formed ls f.1)

line_taken : (i : ℕ) (b : Book) (l : Line) → add_line i b (in_one l) ≡ add_line i b l
unfolding add_line flatten
line_taken i b (card gs) = rw (append-nil (flatten gs))
line_taken i b (group g m) = refl
line_taken i b (rule r) = refl

lines-taken : (i : ℕ) (b : Book) (ls : List Line) → add_lines i b (map in_one ls) ≡ add_lines i b ls
unfolding add_lines
lines-taken i b [] = refl
lines-taken i b (l ∷ ls) = rw (line_taken i b l) (go (add_line i b l) (λ c. lines-taken (i + 1) c ls))
  where
    go : (a : Answer Book) → ((c : Book) → add_lines (i + 1) c (map in_one ls) ≡ add_lines (i + 1) c ls)
        → and_then a (λ c. add_lines (i + 1) c (map in_one ls)) ≡ and_then a (λ c. add_lines (i + 1) c ls)
    go (ok c) r = r c
    go (refused n j) r = refl

-- ---- a text that opens, and one that is refused at a line

alike : {t : List ℕ} {ls : List Line} → InGrammar t ls → length t ≤ text_limit → opening (without_hyphens t) ≡ opening t
alike {t} {ls} g l =
    let left : InGrammar (without_hyphens t) (map in_one ls) =
    record { printed = rw (← g.printed) (sym (text_left ls)); formed = text_formed ls g.formed } in
    opened-by-lines left (omega (arith, shorter t)) ∙ lines-taken 1 no_book ls ∙ sym (opened-by-lines g l)

-- a text of the lines `above`, line l and what follows it, without its hyphens
rest-left : (above : List Line) (l : Line) (more : List ℕ)
    → without_hyphens (print_text above ++ ended (print_line l) more) ≡ print_text (map in_one above) ++ ended (print_line (in_one l)) (without_hyphens more)
rest-left above l more =
    both_parts (print_text above) (ended (print_line l) more)
    ∙ rw (text_left above, both_parts (print_line l ++ ascii "\n") more, both_parts (print_line l) (ascii "\n"), line-left l)

alike_refused : {t : List ℕ} {n i : ℕ} → n ≢ 1 → n ≢ 2 → FirstFailure t n i → opening (without_hyphens t) ≡ refused n i
alike_refused no1 no2 (long l) = absurd (no1 refl)
alike_refused no1 no2 (line above rest l f p a (formless x y)) = absurd (no2 refl)
alike_refused {t} {n} no1 no2 (line {b = c} above rest l f p a (unmet k more w q r)) =
    let text : print_text above ++ ended (print_line k) more ≡ t = ap (λ (u : List ℕ). print_text above ++ u) q ∙ p in
    let left : without_hyphens t ≡ print_text (map in_one above) ++ ended (print_line (in_one k)) (without_hyphens more) = rw (← text) (rest-left above k more) in
    let short : length (without_hyphens t) ≤ text_limit = omega (arith, shorter t) in
    let refuses : add_line (1 + length (map in_one above)) c (in_one k) ≡ refused n (1 + length above) = rw (length-map above in_one) (line_taken (1 + length above) c k ∙ r) in
    ap opening left
    ∙ refused-by-line (map in_one above) (in_one k) (without_hyphens more) (text_formed above f) (line-formed k w) (lines-taken 1 no_book above ∙ a) refuses (rw left at short)

-- ---- the statement

pub hyphens_aside : HyphensAside
hyphens_aside = record {
  cards = card-left;
  groups = group-same;
  rules = rule-same;
  opens = λ t b e. let a = (opens_exactly t b).0 e in alike a.grammar a.short ∙ e;
  back = λ t ls b g l e. sym (alike g l) ∙ e;
  refuses = λ t n i no1 no2 e. alike_refused no1 no2 (refused_at_first t n i e);
}
