-- The reader of a command line by its bytes. It does not have to be believed: `Theorems.antt` states that, in every dialect, exactly the
-- printed well-formed commands of the dialect are read, and are read back; a dialect may have every command and a line of any length. Only
-- `pair_bytes` says more, as `unhex` takes any word: what a word gives that is no hexadecimal.
--
-- A place past a line's end has the byte 0, which is in no form.
use Rattle.std.specs.Prelude.{Bool, true, false, not, ◌&&◌, ◌||◌, cond, List, [], ◌∷◌, ℕ, ◌+◌, ◌-◌, ◌*◌, eqb, leb, ltb, length, get_or, take, drop}
use Rattle.std.proofs.Math.Option.{Option, none, some}
use Prim.Native.Char.{code}
use Rattle.model.specs.Lists.{every, eq_list, until, ascii}
use Rattle.model.specs.Reader.{between, digit_of, is_digit}
use Rattle.model.specs.Calls.{Call, issue, redeem, query, settle}
use Rattle.model.specs.Limits.{number_most}

-- what is read goes on; where nothing is, nothing is read
abbrev pub then_read : {A B : Type 0} → Option A → (A → Option B) → Option B
then_read none f = none
then_read (some a) f = f a

-- ---- numbers

-- the value of digits after the value v
unfoldable pub value_from : ℕ → List ℕ → ℕ
value_from v [] = v
value_from v (x ∷ xs) = value_from (v * 10 + digit_of x) xs

-- not empty, and no `0` in front of another byte
unfoldable pub is_plain : List ℕ → Bool
is_plain w = leb 1 (length w) && (leb (length w) 1 || not (eqb (get_or w 0 0) (code "0")))

unfoldable pub read_number : List ℕ → Option ℕ
read_number w = cond (is_plain w && (every is_digit w && leb (value_from 0 w) number_most)) (some (value_from 0 w)) none

-- ---- hexadecimal words

-- 0 to 15, else 16
unfoldable pub hex_of : ℕ → ℕ
hex_of x = cond (between "0" "9" x) (x - 48) (cond (between "a" "f" x) (x - 87) 16)

-- the byte of two digits, 256 where one is none
unfoldable pub pair_of : ℕ → ℕ → ℕ
pair_of x y = cond (ltb (hex_of x) 16 && ltb (hex_of y) 16) (hex_of x * 16 + hex_of y) 256

-- the bytes of the pairs of digits up to what is none
unfoldable pub pair_bytes : List ℕ → List ℕ
pair_bytes [] = []
pair_bytes (x ∷ []) = []
pair_bytes (x ∷ y ∷ w) = cond (ltb (pair_of x y) 256) (pair_of x y ∷ pair_bytes w) []

-- pairs of digits and nothing else
unfoldable pub is_pairs : List ℕ → Bool
is_pairs [] = true
is_pairs (x ∷ []) = false
is_pairs (x ∷ y ∷ w) = ltb (pair_of x y) 256 && is_pairs w

unfoldable pub is_hexadecimal : List ℕ → Bool
is_hexadecimal w = eq_list w (ascii "-") || (leb 1 (length w) && is_pairs w)

-- ---- words

-- what comes before the first space, and after it
pub record Split : Type 0 where
  pub word : List ℕ
  pub rest : List ℕ

unfoldable pub first_word : List ℕ → Option Split
first_word s = let n = until (code " ") s in cond (ltb n (length s)) (some (record { word = take n s; rest = drop (n + 1) s })) none

-- a number before the first space, and what follows it
pub record Numbered : Type 0 where
  pub value : ℕ
  pub rest : List ℕ

unfoldable pub first_number : List ℕ → Option Numbered
first_number s = then_read (first_word s) (λ c. then_read (read_number c.word) (λ n. some (record { value = n; rest = c.rest })))

-- ---- lines: what follows the letter and its space

unfoldable pub read_two : List ℕ → Option Call
read_two s = then_read (first_number s) (λ m. then_read (read_number m.rest) (λ k. some (query m.value k)))

unfoldable pub read_three : (ℕ → ℕ → ℕ → Call) → List ℕ → Option Call
read_three f s =
    then_read (first_number s) (λ m. then_read (first_number m.rest) (λ k. then_read (read_number k.rest) (λ n. some (f m.value k.value n))))

unfoldable pub read_settle : List ℕ → Option Call
read_settle s =
    then_read (first_word s)
    (λ c. cond (is_hexadecimal c.word && is_hexadecimal c.rest) (some (settle (pair_bytes c.word) (pair_bytes c.rest))) none)

unfoldable pub read_form : ℕ → List ℕ → Option Call
read_form x s =
    cond (eqb x (code "I")) (read_three issue s)
    (cond (eqb x (code "D")) (read_three redeem s)
    (cond (eqb x (code "H")) (read_two s)
    (cond (eqb x (code "S")) (read_settle s) none)))

unfoldable pub read_command : List ℕ → Option Call
read_command w = cond (eqb (get_or w 1 0) (code " ")) (read_form (get_or w 0 0) (drop 2 w)) none
