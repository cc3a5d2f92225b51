-- A text at a buffer's start, by the bytes up to its end and those after it.
use mathlib.Core.Path.{◌≡◌, sym, ◌∙◌, ap}
use mathlib.Core.List.{List, [], ◌++◌, append-nil}
use Prim.Native.Nat.{ℕ, ◌-◌, ◌≤◌}
use native.Mathlib.Omega.{arith}
use lib.ListN.{length, take, drop, take-append-drop, length-append, length-drop, drop_of_length-le}
use lib.Seq.{take_all, take_at, drop_at, length-take-le}
use Rattle.std.proofs.lemmas.List.{take-append-le, drop-append-le}
use borrow.Rule.Slice.PartMut.{put_mid}
use Rattle.commands.specs.View.{Printed}

module _ {room : ℕ} {text buffer after : List ℕ} {n : ℕ} where
  module _ (p : Printed room text buffer after n) (enough : room ≤ length buffer) where
    put_whole : after ≡ text ++ drop (length text) buffer
    put_whole = p.put ∙ rw (take_all (length buffer) text (omega (arith, p.fits)))

    pub printed-front : take n after ≡ text
    printed-front = ap (take n) put_whole ∙ take_at text (drop (length text) buffer) n (sym p.counted)

    pub printed_past : drop n after ≡ drop n buffer
    printed_past = ap (drop n) put_whole ∙ drop_at text (drop (length text) buffer) n (sym p.counted) ∙ rw p.counted

    pub printed_all : length after ≡ length buffer
    printed_all = omega (arith, p.fits, ap length put_whole, length-append text (drop (length text) buffer), length-drop (length text) buffer)

  pub printed_parts : take n after ≡ text → drop n after ≡ drop n buffer → n ≤ length buffer → length after ≡ length buffer → n ≤ room → Printed room text buffer after n
  printed_parts front past few long fits =
      let counted : n ≡ length text = sym (length-take-le n after (omega arith)) ∙ ap length front in
      record {
        put = sym (take-append-drop n after) ∙ rw (front, past, take_all (length buffer) text (omega arith), counted);
        counted = counted;
        fits = omega arith;
      }

-- a part written from a place on to the end
pub put_to_end : (a : ℕ) (xs ys : List ℕ) → put_mid a (length xs - a) xs ys ≡ take a xs ++ ys
put_to_end a xs ys =
    let none : drop (length xs - a) (drop a xs) ≡ [] = drop_of_length-le (drop a xs) {i = length xs - a} (omega (arith, length-drop a xs)) in
    ap (λ (l : List ℕ). take a xs ++ (ys ++ l)) none ∙ ap (λ (l : List ℕ). take a xs ++ l) (append-nil ys)

-- a text at the start of a buffer's first bytes
pub printed-first : (room : ℕ) {text buffer after : List ℕ} {n : ℕ} → room ≤ length buffer → Printed room text (take room buffer) after n
    → Printed room text buffer (after ++ drop room buffer) n
printed-first room {text} {buffer} {after} {n} l p = printed_parts front past (omega (arith, few)) long few
  where
    first : length (take room buffer) ≡ room
    first = length-take-le room buffer l

    enough : room ≤ length (take room buffer)
    enough = omega (arith, first)

    few : n ≤ room
    few = omega (arith, p.counted, p.fits)

    longs : length after ≡ room
    longs = printed_all p enough ∙ first

    front : take n (after ++ drop room buffer) ≡ text
    front = take-append-le n after (drop room buffer) (omega (arith, few, longs)) ∙ printed-front p enough

    past : drop n (after ++ drop room buffer) ≡ drop n buffer
    past =
        drop-append-le n after (drop room buffer) (omega (arith, few, longs))
        ∙ ap (λ (l : List ℕ). l ++ drop room buffer) (printed_past p enough)
        ∙ sym (drop-append-le n (take room buffer) (drop room buffer) (omega (arith, few, first)))
        ∙ ap (drop n) (take-append-drop room buffer)

    long : length (after ++ drop room buffer) ≡ length buffer
    long = omega (arith, length-append after (drop room buffer), longs, length-drop room buffer)
