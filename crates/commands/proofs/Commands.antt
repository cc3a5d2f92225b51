-- Printed commands are read back, and what is read is a printed command: word by word, a word ending at the first space.
use mathlib.Core.Path.{◌≡◌, refl, sym, ◌∙◌, ap}
use mathlib.Core.Bool.{Bool, true, false, not, ◌&&◌, cond}
use mathlib.Core.List.{List, [], ◌∷◌, ◌++◌, append-nil}
use mathlib.Core.Option.{Option, none, some}
use Prim.Native.Char.{code}
use Prim.Native.Nat.{ℕ, suc, ◌+◌, ◌/◌, ◌%◌, ◌≤◌}
use native.Mathlib.Omega.{arith}
use native.Mathlib.Numerals.{add-one}
use lib.Dec.{T, eqb, leb, ltb, not_T, eqb→eq}
use lib.ListN.{length, take, drop, length-append}
use lib.Seq.{take-append_seam, drop-append-add, split_at}
use borrow.Author.Tests.{eqb-true, ne_eqb, lt-ltb, ltb-true}
use Rattle.model.specs.Lists.{every, until, each, is_byte}
use Rattle.model.proofs.Places.{until-there}
use Rattle.model.specs.Reader.{digit_of, is_digit}
use Rattle.model.specs.Calls.{Call, issue, redeem, query, settle}
use Rattle.model.proofs.Tests.{T-eq, eq-T, and, both, every_map}
use Rattle.model.proofs.Facts.{facts, never}
use Rattle.model.specs.Grammar.{decimal}
use Rattle.model.specs.Limits.{number_most}
use Rattle.commands.specs.Grammar.{hex_digit, hex_byte, hexadecimal, print_command, well_formed_call}
use Rattle.commands.specs.Reader.{then_read, read_number, is_hexadecimal, pair_bytes, Split, first_word, Numbered, first_number}
use Rattle.commands.specs.Reader.{read_two, read_three, read_settle, read_form, read_command}
use Rattle.commands.proofs.Decimals.{decimal-digits, number-printed, number-taken}
use Rattle.commands.proofs.Pairs.{word-printed, word-taken}

-- ---- words without a space

abbrev solid : ℕ → Bool
solid x = not (eqb x (code " "))

digit_solid : (x : ℕ) → T (is_digit x) → T (solid x)
unfolding digit_of
digit_solid x t = not_T (eqb x (code " ")) (λ h. rw (eqb→eq x (code " ") h) at t)

decimal_solid : (n : ℕ) → T (every solid (decimal n))
decimal_solid n = every_map is_digit solid digit_solid (decimal n) (decimal-digits n)

hex_solid : (d : ℕ) → T (solid (hex_digit d))
hex_solid d = go (leb d 9) refl
  where
    go : (f : Bool) → leb d 9 ≡ f → T (solid (hex_digit d))
    go true e = rw e (simp facts (omega arith))
    go false e = rw e (simp facts (omega arith))

bytes_solid : (bs : List ℕ) → T (every solid (each hex_byte bs))
bytes_solid [] = tt
bytes_solid (b ∷ bs) =
    and (solid (hex_digit (b / 16))) _ (hex_solid (b / 16)) (and (solid (hex_digit (b % 16))) _ (hex_solid (b % 16)) (bytes_solid bs))

hexadecimal_solid : (bs : List ℕ) → T (every solid (hexadecimal bs))
hexadecimal_solid [] = tt
hexadecimal_solid (b ∷ bs) = bytes_solid (b ∷ bs)

-- ---- printed, then read

until_space : (xs r : List ℕ) → T (every solid xs) → until (code " ") (xs ++ (code " " ∷ r)) ≡ length xs
unfolding until
until_space [] r t = refl
until_space (x ∷ xs) r t =
    let f = simp facts at t in
    rw (ne_eqb x (code " ") f.0, until_space xs r (both (solid x) _ t).1)

first_printed : (xs r : List ℕ) → T (every solid xs) → first_word (xs ++ (code " " ∷ r)) ≡ some (record { word = xs; rest = r })
unfolding first_word
first_printed xs r t =
    let s = xs ++ (code " " ∷ r) in
    let l = length-append xs (code " " ∷ r) in
    rw (until_space xs r t, lt-ltb (length xs) (length s) (omega arith), take-append_seam xs (code " " ∷ r), drop-append-add xs (code " " ∷ r) 1)

number_first : (n : ℕ) (r : List ℕ) → n ≤ number_most → first_number (decimal n ++ (code " " ∷ r)) ≡ some (record { value = n; rest = r })
unfolding first_number
number_first n r l = rw (first_printed (decimal n) r (decimal_solid n), number-printed n l)

number-last : (n : ℕ) → n ≤ number_most → read_number (decimal n ++ []) ≡ some n
number-last n l = rw (append-nil (decimal n)) (number-printed n l)

three_printed : (f : ℕ → ℕ → ℕ → Call) (m k n : ℕ) → m ≤ number_most → k ≤ number_most → n ≤ number_most
    → read_three f (decimal m ++ (code " " ∷ (decimal k ++ (code " " ∷ (decimal n ++ []))))) ≡ some (f m k n)
unfolding read_three
three_printed f m k n a b c = rw (number_first m _ a, number_first k _ b, number-last n c)

settle_printed : (e p : List ℕ) → T (every is_byte e) → T (every is_byte p)
    → read_settle (hexadecimal e ++ (code " " ∷ (hexadecimal p ++ []))) ≡ some (settle e p)
unfolding read_settle
settle_printed e p t u =
    let x = word-printed e t in
    let y = word-printed p u in
    rw (first_printed (hexadecimal e) (hexadecimal p ++ []) (hexadecimal_solid e), append-nil (hexadecimal p), T-eq _ x.0, T-eq _ y.0, x.1, y.1)

pub printed_read : (c : Call) → T (well_formed_call c) → read_command (print_command c) ≡ some c
unfolding read_command read_form read_two
printed_read (issue m k n) t = let l = simp facts at t in three_printed issue m k n l.0 l.1.0 l.1.1
printed_read (redeem m k n) t = let l = simp facts at t in three_printed redeem m k n l.0 l.1.0 l.1.1
printed_read (query m k) t = let l = simp facts at t in rw (number_first m (decimal k ++ []) l.0, number-last k l.1)
printed_read (settle e p) t = let f = both (every is_byte e) (every is_byte p) t in settle_printed e p f.0 f.1

-- ---- read, so printed

module _ {A B : Type 0} where
  -- what was read first, and what was made of it
  pub record Step (o : Option A) (f : A → Option B) (b : B) : Type 0 where
    pub value : A
    pub is : o ≡ some value
    pub then : f value ≡ some b

  step : (o : Option A) (f : A → Option B) (b : B) → then_read o f ≡ some b → Step o f b
  step none f b e = never (cc)
  step (some a) f b e = record { value = a; is = refl; then = e }

-- a word that is cut off, with its space and what follows it
cut-back : (s : List ℕ) (c : Split) → first_word s ≡ some c → c.word ++ (code " " ∷ c.rest) ≡ s
unfolding first_word
cut-back s c = go (ltb (until (code " ") s) (length s)) refl
  where
    n : ℕ
    n = until (code " ") s

    go : (f : Bool) → ltb n (length s) ≡ f → cond f (some (record { word = take n s; rest = drop (n + 1) s })) none ≡ some c
        → c.word ++ (code " " ∷ c.rest) ≡ s
    go true e h =
        let l = ltb-true n (length s) e in
        let z : record { word = take n s; rest = drop (n + 1) s } ≡ c = cc in
        rw (← z, add-one n) (ap (λ (x : ℕ). take n s ++ (x ∷ drop (suc n) s)) (sym (until-there (code " ") s l)) ∙ sym (split_at s n 0 l))
    go false e h = never (cc)

number-back : (s : List ℕ) (m : Numbered) → first_number s ≡ some m → (decimal m.value ++ (code " " ∷ m.rest) ≡ s) × (m.value ≤ number_most)
unfolding first_number
number-back s m e =
    let a = step (first_word s) _ m e in
    let b = step (read_number a.value.word) _ m a.then in
    let z : record { value = b.value; rest = a.value.rest } ≡ m = cc in
    let t = number-taken a.value.word b.value b.is in
    rw (← z) (rw t.0 (cut-back s a.value a.is), t.1)

-- what two and three numbers, or two words, print
abbrev Prints : ℕ → List ℕ → Call → Type 0
Prints x s c = (print_command c ≡ x ∷ code " " ∷ s) × T (well_formed_call c)

two_back : (s : List ℕ) (c : Call) → read_two s ≡ some c → Prints (code "H") s c
unfolding read_two
two_back s c e =
    let a = step (first_number s) _ c e in
    let b = step (read_number a.value.rest) _ c a.then in
    let m = number-back s a.value a.is in
    let k = number-taken a.value.rest b.value b.is in
    let z : query a.value.value b.value ≡ c = cc in
    rw (← z, append-nil (decimal b.value), k.0, m.0) (refl, simp facts (m.1, k.1))

-- three numbers, by their letter
module _ (x : ℕ) (f : ℕ → ℕ → ℕ → Call) (s : List ℕ) (c : Call)
    (prints : (m k n : ℕ) → print_command (f m k n) ≡ x ∷ code " " ∷ (decimal m ++ (code " " ∷ (decimal k ++ (code " " ∷ (decimal n ++ []))))))
    (formed : (m k n : ℕ) → m ≤ number_most → k ≤ number_most → n ≤ number_most → T (well_formed_call (f m k n))) where
  three_back : read_three f s ≡ some c → Prints x s c
  unfolding read_three
  three_back e =
      let a = step (first_number s) _ c e in
      let b = step (first_number a.value.rest) _ c a.then in
      let d = step (read_number b.value.rest) _ c b.then in
      let m = number-back s a.value a.is in
      let k = number-back a.value.rest b.value b.is in
      let n = number-taken b.value.rest d.value d.is in
      let z : f a.value.value b.value.value d.value ≡ c = cc in
      rw (← z) (prints _ _ _ ∙ rw (append-nil (decimal d.value), n.0, k.0, m.0), formed _ _ _ m.1 k.1 n.1)

settle-back : (s : List ℕ) (c : Call) → read_settle s ≡ some c → Prints (code "S") s c
unfolding read_settle
settle-back s c e = go (is_hexadecimal w && is_hexadecimal r) refl a.then
  where
    a : Step (first_word s) (λ c. cond (is_hexadecimal c.word && is_hexadecimal c.rest) (some (settle (pair_bytes c.word) (pair_bytes c.rest))) none) c
    a = step (first_word s) _ c e

    w : List ℕ
    w = a.value.word

    r : List ℕ
    r = a.value.rest

    go : (f : Bool) → (is_hexadecimal w && is_hexadecimal r) ≡ f → cond f (some (settle (pair_bytes w) (pair_bytes r))) none ≡ some c → Prints (code "S") s c
    go true t h =
        let g = both (is_hexadecimal w) (is_hexadecimal r) (eq-T t) in
        let x = word-taken w g.0 in
        let y = word-taken r g.1 in
        let z : settle (pair_bytes w) (pair_bytes r) ≡ c = cc in
        rw (← z, append-nil (hexadecimal (pair_bytes r)), x.0, y.0, cut-back s a.value a.is) (refl, and (every is_byte (pair_bytes w)) _ x.1 y.1)
    go false t h = never (cc)

form_back : (x : ℕ) (s : List ℕ) (c : Call) → read_form x s ≡ some c → Prints x s c
unfolding read_form
form_back x s c = go (eqb x (code "I")) (eqb x (code "D")) (eqb x (code "H")) (eqb x (code "S")) refl refl refl refl
  where
    go : (i d h s' : Bool) → eqb x (code "I") ≡ i → eqb x (code "D") ≡ d → eqb x (code "H") ≡ h → eqb x (code "S") ≡ s'
        → cond i (read_three issue s) (cond d (read_three redeem s) (cond h (read_two s) (cond s' (read_settle s) none))) ≡ some c → Prints x s c
    go true d h s' e₁ e₂ e₃ e₄ r =
        rw (eqb-true x (code "I") e₁) (three_back (code "I") issue s c (λ m k n. refl) (λ m k n a b c. simp facts (a, (b, c))) r)
    go false true h s' e₁ e₂ e₃ e₄ r =
        rw (eqb-true x (code "D") e₂) (three_back (code "D") redeem s c (λ m k n. refl) (λ m k n a b c. simp facts (a, (b, c))) r)
    go false false true s' e₁ e₂ e₃ e₄ r = rw (eqb-true x (code "H") e₃) (two_back s c r)
    go false false false true e₁ e₂ e₃ e₄ r = rw (eqb-true x (code "S") e₄) (settle-back s c r)
    go false false false false e₁ e₂ e₃ e₄ r = never (cc)

pub read_printed : (w : List ℕ) (c : Call) → read_command w ≡ some c → (print_command c ≡ w) × T (well_formed_call c)
unfolding read_command
read_printed [] c e = never (cc)
read_printed (x ∷ []) c e = never (cc)
read_printed (x ∷ y ∷ s) c e = go (eqb y (code " ")) refl e
  where
    go : (f : Bool) → eqb y (code " ") ≡ f → cond f (read_form x s) none ≡ some c → (print_command c ≡ x ∷ y ∷ s) × T (well_formed_call c)
    go true e r = rw (eqb-true y (code " ") e) (form_back x s c r)
    go false e r = never (cc)
