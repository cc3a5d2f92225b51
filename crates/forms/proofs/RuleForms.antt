-- What a rule line says is what its parts say, one after another.
use mathlib.Core.Path.{◌≡◌, refl, sym, ◌∙◌, ap}
use mathlib.Core.Bool.{Bool, true, false}
use mathlib.Core.List.{List, [], ◌∷◌, ◌++◌, map, map-append}
use Prim.Native.Nat.{ℕ, zero, suc, ◌+◌, ◌*◌, ◌≤◌}
use native.Mathlib.Omega.{arith}
use lib.Dec.{eqb}
use lib.ListN.{length, drop, length-drop}
use lib.Seq.{get_or-drop, drop-drop}
use borrow.Author.Tests.{eq-eqb, eqb-true}
use Rattle.std.specs.Prelude.{Option, Some, None, if◌then◌else◌}
use Rattle.std.proofs.Common.{add-zero}
use Rattle.model.specs.Limits.{price_limit, condition_limit}
use Rattle.model.specs.Lists.{up_to}
use Rattle.model.specs.Reader.{leading, mark_at, has_price, price_at, price_width, price_count, has_condition, condition_at, condition_width, condition_count}
use Rattle.model.specs.Reader.{has_head, head_end, prices_end, rule_end, rule_read, is_rule_line}
use Rattle.model.proofs.Tests.{eqb_ne, ne_eqb, and-false_right}
use Rattle.letters.specs.Letters.{Read}
use Rattle.forms.specs.Forms.{price_said, condition_said, head_said, in_places, rule_form_in}
use Rattle.forms.specs.inner.Parts.{count_in, Leads}
use Rattle.forms.specs.declared.rules.Price.{Price}
use Rattle.forms.specs.declared.rules.Condition.{Condition}
use Rattle.forms.specs.declared.rules.Head.{Head}

-- ---- a part of a line is read where it is

price_from : (w : List ℕ) (p : ℕ) → has_price (drop p w) 0 ≡ has_price w p
unfolding has_price mark_at
price_from w p = simp (get_or-drop, add-zero)

price_at_from : (w : List ℕ) (p : ℕ) → price_at (drop p w) 0 ≡ price_at w p
unfolding price_at
price_at_from w p = simp get_or-drop

condition_from : (w : List ℕ) (p : ℕ) → has_condition (drop p w) 0 ≡ has_condition w p
unfolding has_condition mark_at
condition_from w p = simp (get_or-drop, add-zero)

condition_at_from : (w : List ℕ) (p : ℕ) → condition_at (drop p w) 0 ≡ condition_at w p
unfolding condition_at
condition_at_from w p = simp get_or-drop

-- ---- parts of one sort, one after another from the place p on

map_up_to : {A B : Type 0} (say : A → B) (f : ℕ → A) (n : ℕ) → up_to (λ i. say (f i)) n ≡ map say (up_to f n)
map_up_to say f zero = refl
map_up_to {B = B} say f (suc n) = ap (λ (r : List B). r ++ (say (f n) ∷ [])) (map_up_to say f n) ∙ sym (map-append say (up_to f n) (f n ∷ []))

module _ {A B : Type 0} (has : List ℕ → ℕ → Bool) (at : List ℕ → ℕ → A) (say : A → B) (width n : ℕ)
    (has_from : (w : List ℕ) (p : ℕ) → has (drop p w) 0 ≡ has w p) (at_from : (w : List ℕ) (p : ℕ) → at (drop p w) 0 ≡ at w p) (w : List ℕ) (p : ℕ) where
  abbrev count : ℕ
  count = leading (λ i. has w (p + i * width)) n

  has_there : (i : ℕ) → has (drop (i * width) (drop p w)) 0 ≡ has w (p + i * width)
  has_there i = ap (λ (v : List ℕ). has v 0) (drop-drop (i * width) p w) ∙ has_from w (p + i * width)

  at_there : (i : ℕ) → say (at (drop (i * width) (drop p w)) 0) ≡ say (at w (p + i * width))
  at_there i = ap (λ (v : List ℕ). say (at v 0)) (drop-drop (i * width) p w) ∙ ap say (at_from w (p + i * width))

  counted : count_in (λ v. has v 0) width n (drop p w) ≡ count
  counted j = leading (λ i. has_there i j) n

  pub record Led (found : List (Option B)) (rest : List ℕ) : Type 0 where
    pub says : found ≡ in_places n (map say (up_to (λ i. at w (p + i * width)) count))
    pub fits : count * width ≤ length (drop p w)
    pub left : rest ≡ drop (p + count * width) w

  pub led : {found : List (Option B)} {rest : List ℕ} → Leads (λ v. has v 0) (λ v. say (at v 0)) width n (drop p w) found rest → Led found rest
  led l = record {
    says =
        l.says ∙ (λ j. in_places n (up_to (λ i. at_there i j) (counted j)))
        ∙ ap (in_places n) (map_up_to say (λ i. at w (p + i * width)) count);
    fits = rw counted at l.fits;
    left = l.left ∙ ap (λ k. drop (k * width) (drop p w)) counted ∙ drop-drop (count * width) p w;
  }

-- ---- the line

module _ (w : List ℕ) where
  pub no_head : has_head w ≡ false → rule_form_in w ≡ None
  unfolding is_rule_line
  no_head e = rw e

  module _ {h : Head} {body : List ℕ} (head : Read (has_head w) (head_said (rule_read w)) (head_end w) w h body)
      {ps : List (Option Price)} {tail : List ℕ} (prices : Leads (λ v. has_price v 0) (λ v. price_said (price_at v 0)) price_width price_limit body ps tail)
      {cs : List (Option Condition)} {rest : List ℕ}
      (conditions : Leads (λ v. has_condition v 0) (λ v. condition_said (condition_at v 0)) condition_width condition_limit tail cs rest) where
    led_prices : Led has_price price_at price_said price_width price_limit price_from price_at_from w (head_end w) ps tail
    led_prices = led has_price price_at price_said price_width price_limit price_from price_at_from w (head_end w) (rw head.left at prices)

    led_conditions : Led has_condition condition_at condition_said condition_width condition_limit condition_from condition_at_from w (prices_end w) cs rest
    unfolding price_count
    led_conditions =
        led has_condition condition_at condition_said condition_width condition_limit condition_from condition_at_from w (prices_end w)
        (rw led_prices.left at conditions)

    size : rule_end w + length rest ≡ length w
    unfolding price_count condition_count
    size =
        let p : price_count w (head_end w) * price_width ≤ length (drop (head_end w) w) = led_prices.fits in
        let c : condition_count w (prices_end w) * condition_width ≤ length (drop (prices_end w) w) = led_conditions.fits in
        let r : length rest ≡ length (drop (rule_end w) w) = ap length led_conditions.left in
        let h = head.fits in
        omega (arith, h, p, c, r, length-drop (head_end w) w, length-drop (prices_end w) w, length-drop (rule_end w) w)

    pub form_is : (b : Bool) → b ≡ eqb (length rest) 0 → (if b then Some (record { head = h; prices = ps; conditions = cs }) else None) ≡ rule_form_in w
    unfolding is_rule_line rule_read price_count condition_count
    form_is true e =
        let none = eqb-true (length rest) 0 (sym e) in
        let p = led_prices in
        let c = led_conditions in
        rw (head.here, eq-eqb (rule_end w) (length w) (omega (arith, none, size)), head.says, p.says, c.says)
    form_is false e =
        let some = eqb_ne (length rest) 0 (sym e) in
        rw (ne_eqb (rule_end w) (length w) (λ z. some (omega (arith, z, size))), and-false_right (has_head w))
