-- The parts of a line: what is told of one that is there. Where a fact of these is missing, there is none.
use mathlib.Core.Path.{◌≡◌, refl, sym, ◌∙◌, ap}
use mathlib.Core.Bool.{Bool, true, false, not}
use mathlib.Core.List.{List}
use mathlib.Core.Logic.{◌≢◌, ◌⊎◌, inl, inr, ⊎_elim}
use Prim.Native.Char.{code}
use Prim.Native.Nat.{ℕ, ◌+◌, ◌-◌, ◌≤◌, ◌<◌}
use native.Mathlib.Omega.{arith}
use lib.Dec.{eqb, leb}
use lib.ListN.{length, get_or, take, drop, length-drop, get_or-eq_default}
use lib.Seq.{get_or-drop, drop-drop}
use Rattle.std.proofs.Common.{add-zero}
use Rattle.model.proofs.Letters.{variable_letter_lem}
use Rattle.model.proofs.Places.{to_end}
use Rattle.std.specs.Prelude.{Some, None, MatchOption, if◌then◌else◌}
use Rattle.std.specs.Bool.{then_some}
use Rattle.model.specs.Limits.{variable_count}
use Rattle.model.specs.Reader.{kind_of, variable_of, name_of, named, group_of, mark_at, has_price, price_at, price_width, has_condition, condition_at, condition_width}
use Rattle.model.specs.Reader.{number_width, number_at, owner_end, head_end, has_head, rule_read, is_group_line}
use Rattle.model.proofs.Tests.{eq-T, T-eq, eqb_ne, ne_eqb, never_true, lt_or_ge}
use borrow.Author.Tests.{leb-true, leb-false, eq-eqb, eqb-true, not-true, not-false}
use Rattle.std.specs.Borrow.{Bor}
use Rattle.letters.proofs.Numbers.{inside}
use Rattle.letters.specs.Letters.{variable_said, name_said, Read, Begins}
use Rattle.letters.specs.declared.names.Variable.{Variable}
use Rattle.letters.specs.declared.names.Name.{Name}
use Rattle.forms.specs.Forms.{price_said, condition_said, head_said, group_line_in}
use Rattle.forms.specs.declared.rules.Condition.TheVariants.{InGroup, SameIssuer}
use Rattle.model.proofs.Facts.{facts}

-- what a pattern calls the rest after k bytes
abbrev past : ℕ → List ℕ → List ℕ
past k w = take (length w - k) (drop k w)

-- `then_some`, as the definitions say it
pub chosen : {A : Type 0} (b : Bool) (x : A) → then_some b x ≡ (if b then Some x else None)
chosen true x = refl
chosen false x = refl

pub chosen_where : {A N : Type 0} (Y : A → Type 0) (b : Bool) (x : A) → (b ≡ false → N) → (b ≡ true → Y x) → MatchOption (then_some b x) N Y
chosen_where Y true x f g = g refl
chosen_where Y false x f g = f refl

-- ---- a price

pub record PriceHere (w : List ℕ) : Type 0 where
  pub space : get_or w 0 0 ≡ code " "
  pub sign : get_or w 1 0 ≡ code "<"
  pub giver_space : get_or w 2 0 ≡ code " "
  pub giver : variable_of (get_or w 3 0) < variable_count
  pub kind_space : get_or w 4 0 ≡ code " "
  pub kind : 1 ≤ kind_of (get_or w 5 0)
  pub receiver_space : get_or w 6 0 ≡ code " "
  pub receiver : name_of (get_or w 7 0) ≤ variable_count
  pub others : variable_of (get_or w 3 0) ≢ name_of (get_or w 7 0)

-- a line that ends before a price's last byte has none there
pub price_long : (w : List ℕ) → PriceHere w → price_width ≤ length w
unfolding name_of variable_of
price_long w p =
    ⊎_elim
    (λ l. let r = p.receiver in let none : 9 ≤ variable_count = rw (get_or-eq_default w 0 {n = 7} (omega arith)) at r in omega arith)
    (λ l. l)
    (lt_or_ge (length w) price_width)

module _ (w : List ℕ) where
  pub price_here : has_price w 0 ≡ true → PriceHere w
  unfolding has_price mark_at
  price_here e =
      let ((a, (b, c)), (d, (f, (g, (h, (i, j)))))) = simp facts at (eq-T e) in
      record { space = a; sign = b; giver_space = c; giver = d; kind = f; receiver = g; others = h; kind_space = i; receiver_space = j }

  pub no_price : (PriceHere w → ⊥) → has_price w 0 ≡ false
  no_price f = never_true _ (λ e. f (price_here e))

  pub is_price : PriceHere w → has_price w 0 ≡ true
  unfolding has_price mark_at
  is_price p =
      T-eq _ (simp facts ((p.space, (p.sign, p.giver_space)), (p.giver, (p.kind, (p.receiver, (p.others, (p.kind_space, p.receiver_space)))))))

  -- what its pattern finds, but for the giver and the receiver that may be the same
  pub price_begins : {g : Variable} {k : ℕ} {r : Name} (rest : Bor (List ℕ)) (d : Bool) → d ≡ not (eqb (variable_of (get_or w 3 0)) (name_of (get_or w 7 0)))
      → (variable_of (get_or w 3 0) ≢ name_of (get_or w 7 0) → PriceHere w) → rest.now ≡ drop price_width w
      → variable_said (variable_of (get_or w 3 0)) ≡ g → kind_of (get_or w 5 0) ≡ k → name_said (named (name_of (get_or w 7 0))) ≡ r
      → Begins (has_price w 0) (price_said (price_at w 0)) price_width w (if d then Some (record { giver = g; kind = k; receiver = r }, rest) else None)
  unfolding price_at
  price_begins rest true e here after a b c =
      let p = here (eqb_ne _ _ (not-true _ (sym e))) in
      record { here = is_price p; says = rw (a, b, c); fits = price_long w p; left = after }
  price_begins rest false e here after a b c = never_true _ (λ h. (price_here h).others (eqb-true _ _ (not-false _ (sym e))))

-- ---- a condition

pub record ConditionHere (w : List ℕ) : Type 0 where
  pub space : get_or w 0 0 ≡ code " "
  pub sign : ((get_or w 1 0 ≡ code "?") × (1 ≤ group_of (get_or w 3 0))) ⊎ ((get_or w 1 0 ≡ code "=") × (name_of (get_or w 3 0) ≤ variable_count))
  pub first_space : get_or w 2 0 ≡ code " "
  pub second_space : get_or w 4 0 ≡ code " "
  pub second : name_of (get_or w 5 0) ≤ variable_count

pub condition_long : (w : List ℕ) → ConditionHere w → condition_width ≤ length w
unfolding name_of variable_of
condition_long w p =
    ⊎_elim
    (λ l. let r = p.second in let none : 9 ≤ variable_count = rw (get_or-eq_default w 0 {n = 5} (omega arith)) at r in omega arith)
    (λ l. l)
    (lt_or_ge (length w) condition_width)

module _ (w : List ℕ) where
  pub condition_here : has_condition w 0 ≡ true → ConditionHere w
  unfolding has_condition mark_at
  condition_here e =
      let (signed, (b, c)) = simp facts at (eq-T e) in
      ⊎_elim
      (λ t. let ((a, (s, f)), g) = simp facts at t in record { space = a; sign = inl (s, g); first_space = f; second_space = b; second = c })
      (λ t. let ((a, (s, f)), g) = simp facts at t in record { space = a; sign = inr (s, g); first_space = f; second_space = b; second = c })
      signed

  pub no_condition : (ConditionHere w → ⊥) → has_condition w 0 ≡ false
  no_condition f = never_true _ (λ e. f (condition_here e))

  pub is_condition : ConditionHere w → has_condition w 0 ≡ true
  unfolding has_condition mark_at
  is_condition p =
      let signed =
      ⊎_elim
      (λ s. inl (simp facts ((p.space, (s.0, p.first_space)), s.1)))
      (λ s. inr (simp facts ((p.space, (s.0, p.first_space)), s.1)))
      p.sign in
      T-eq _ (simp facts (signed, (p.second_space, p.second)))

  -- what its two patterns find
  module _ (p : ConditionHere w) {n : Name} {rest : List ℕ} (after : rest ≡ drop condition_width w) (name : name_said (named (name_of (get_or w 5 0))) ≡ n) where
    pub group_read : {g : ℕ} → get_or w 1 0 ≡ code "?" → group_of (get_or w 3 0) ≡ g
        → Read (has_condition w 0) (condition_said (condition_at w 0)) condition_width w (InGroup g n) rest
    unfolding condition_at
    group_read e b = record { here = is_condition p; says = rw (eq-eqb _ _ e, b, name); fits = condition_long w p; left = after }

    pub issuer_read : {y : Name} → get_or w 1 0 ≡ code "=" → name_said (named (name_of (get_or w 3 0))) ≡ y
        → Read (has_condition w 0) (condition_said (condition_at w 0)) condition_width w (SameIssuer y n) rest
    unfolding condition_at
    issuer_read e b = record { here = is_condition p; says = rw (ne_eqb (get_or w 1 0) (code "?") (omega (arith, e)), b, name); fits = condition_long w p; left = after }

-- ---- a number m at the place k of a line, which v follows

pub record NumberHere (w : List ℕ) (k m : ℕ) (v : List ℕ) : Type 0 where
  pub some : 1 ≤ number_width w k
  pub says : m ≡ number_at w k
  pub left : v ≡ drop (k + number_width w k) w
  pub fits : k + number_width w k ≤ length w

module _ (w : List ℕ) (k : ℕ) where
  width_from : number_width (drop k w) 0 ≡ number_width w k
  unfolding number_width
  width_from = simp (get_or-drop, add-zero)

  number_from : number_at (drop k w) 0 ≡ number_at w k
  unfolding number_at
  number_from = simp (get_or-drop, add-zero)

  pub no_number : leb 1 (number_width (past k w) 0) ≡ false → number_width w k < 1
  no_number e = leb-false 1 _ (rw (to_end w k, width_from) at e)

  pub number_here : {m : ℕ} {v : List ℕ} → Read (leb 1 (number_width (past k w) 0)) (number_at (past k w) 0) (number_width (past k w) 0) (past k w) m v → NumberHere w k m v
  number_here r =
      let s = leb-true 1 _ (rw (to_end w k, width_from) at r.here) in
      record {
        some = s;
        says = rw (to_end w k, number_from) at r.says;
        left = (rw (to_end w k, width_from) at r.left) ∙ drop-drop (number_width w k) k w;
        fits = let l = rw (to_end w k, width_from) at r.fits in omega (arith, l, length-drop k w);
      }

-- ---- a rule line's head: v follows its owner

pub record HeadRest (v : List ℕ) : Type 0 where
  pub kind_space : get_or v 0 0 ≡ code " "
  pub kind : 1 ≤ kind_of (get_or v 1 0)
  pub receiver_space : get_or v 2 0 ≡ code " "
  pub receiver : variable_of (get_or v 3 0) < variable_count

pub rest_long : {v : List ℕ} → HeadRest v → 4 ≤ length v
rest_long {v} r = let b = variable_letter_lem (get_or v 3 0) (let l = r.receiver in omega arith) in inside v 3 (omega arith)

pub record HeadHere (w : List ℕ) : Type 0 where
  pub space : get_or w 1 0 ≡ code " "
  pub owner : 1 ≤ number_width w 2
  pub rest : HeadRest (drop (owner_end w) w)

module _ (w : List ℕ) where
  rest_at : (i : ℕ) → get_or (drop (owner_end w) w) i 0 ≡ get_or w (owner_end w + i) 0
  rest_at i = get_or-drop (owner_end w) w i 0

  rest_first : get_or (drop (owner_end w) w) 0 0 ≡ get_or w (owner_end w) 0
  rest_first = rest_at 0 ∙ ap (λ n. get_or w n 0) (add-zero (owner_end w))

  pub head_here : has_head w ≡ true → HeadHere w
  unfolding has_head
  head_here e =
      let (a, (b, (c, (d, (f, g))))) = simp facts at (eq-T e) in
      record {
        space = a;
        owner = b;
        rest = record { kind_space = rest_first ∙ c; kind = rw (rest_at 1) d; receiver_space = rest_at 2 ∙ f; receiver = rw (rest_at 3) g };
      }

  pub no_head : (HeadHere w → ⊥) → has_head w ≡ false
  no_head f = never_true _ (λ e. f (head_here e))

  pub is_head : HeadHere w → has_head w ≡ true
  unfolding has_head
  is_head p =
      let r = p.rest in
      T-eq _ (simp facts (p.space, (p.owner, (sym rest_first ∙ r.kind_space, (rw (← rest_at 1) r.kind, (sym (rest_at 2) ∙ r.receiver_space, rw (← rest_at 3) r.receiver))))))

  -- what its two patterns find
  pub head_read : {k m : ℕ} {v rest : List ℕ} {g : Variable} → get_or w 1 0 ≡ code " " → NumberHere w 2 m v → HeadRest v → rest ≡ drop 4 v
      → kind_of (get_or v 1 0) ≡ k → variable_said (variable_of (get_or v 3 0)) ≡ g
      → Read (has_head w) (head_said (rule_read w)) (head_end w) w (record { owner = m; kind = k; receiver = g }) rest
  unfolding rule_read
  head_read a n p after b c =
      let l = rest_long p in
      let size = ap length n.left in
      record {
        here = is_head (record { space = a; owner = n.some; rest = rw n.left at p });
        says = rw (← b, ← c, n.left, n.says, rest_at 1, rest_at 3) refl;
        fits = omega (arith, l, size, length-drop (owner_end w) w);
        left = after ∙ ap (λ (v : List ℕ). drop 4 v) n.left ∙ drop-drop 4 (owner_end w) w;
      }

-- ---- a group line

pub record GroupHere (w : List ℕ) : Type 0 where
  pub space : get_or w 1 0 ≡ code " "
  pub group : 1 ≤ group_of (get_or w 2 0)
  pub card_space : get_or w 3 0 ≡ code " "
  pub card : 1 ≤ number_width w 4
  pub ended : 4 + number_width w 4 ≡ length w

module _ (w : List ℕ) where
  pub group_here : is_group_line w ≡ true → GroupHere w
  unfolding is_group_line
  group_here e =
      let (a, (b, (c, (d, f)))) = simp facts at (eq-T e) in
      record { space = a; group = b; card_space = c; card = d; ended = f }

  pub is_group : GroupHere w → is_group_line w ≡ true
  unfolding is_group_line
  is_group p = T-eq _ (simp facts (p.space, (p.group, (p.card_space, (p.card, p.ended)))))

  pub no_group_line : (GroupHere w → ⊥) → None ≡ group_line_in w
  no_group_line f = rw (never_true _ (λ e. f (group_here e)))

  -- what its patterns find, but for what may follow m
  pub group_line_is : {g m : ℕ} {v : List ℕ} (b : Bool) → b ≡ eqb (length v) 0 → NumberHere w 4 m v → (4 + number_width w 4 ≡ length w → GroupHere w)
      → group_of (get_or w 2 0) ≡ g → (if b then Some (record { group = g; card = m }) else None) ≡ group_line_in w
  group_line_is {v = v} true e n here a =
      let none = eqb-true (length v) 0 (sym e) in
      let size = ap length n.left in
      let f = n.fits in
      let p = here (omega (arith, none, size, f, length-drop (4 + number_width w 4) w)) in
      rw (is_group p, a, n.says)
  group_line_is {v = v} false e n here a =
      no_group_line (λ p. let d = eqb_ne (length v) 0 (sym e) in let size = ap length n.left in let f = p.ended in d (omega (arith, size, f, length-drop (4 + number_width w 4) w)))
