-- A pair keeps the ranges of its left part, and single numbers where both parts do.
use Rattle.std.proofs.Common.{◌≡◌, ℕ, ℤ, pos, ◌+ℤ◌, ◌*ℤ◌, ◌≤ℤ◌, true, Option, Some, None, IfSome, refl, sym, ap, ◌∙◌}
use Rattle.ep_tame_numbers.proofs.Intervals.{one_end}
use Rattle.ep_int.proofs.Basics.{if_some-map}
use Rattle.std.proofs.Common.{subst, arith}
use Rattle.std.specs.Option.{option_and_then}
use Rattle.std.proofs.lemmas.Int.{ints, clamps}
use Rattle.ep_int.specs.declared.types.IntType.TheVariants.{I64}
use Rattle.ep_int.specs.declared.types.BinOp.{BinOp}
use Rattle.ep_int.specs.declared.types.BinOp.TheVariants.{Add, Mul}
use Rattle.ep_int.specs.Arith.{IsOfSomeType}
use Rattle.ep_range_laws.specs.Ranges.{Encloses, nearest_number}
use Rattle.ep_range_laws.proofs.Options.{then_if, default_if, always}
use Rattle.ep_range_laws.proofs.Corners.{product_up}
use Rattle.ep_range_laws.proofs.Comparisons.{le_trans}
use Rattle.ep_domain.specs.Domain.{Lawful}
use Rattle.ep_domain.specs.Common.{common_part, common_edges, may_pair}
use Rattle.ep_domain.specs.declared.num.Num.{Ghosts}
use Rattle.ep_domain.specs.declared.pair.Pair.{Pair}
use Rattle.ep_domain.specs.Pairs.{range_of, cut_to, narrowed, narrowed_both, narrowed_pair, cut_pair, cut_of, singles}
use Rattle.ep_domain.specs.Pairs.{single_at, single_of, join_of, widening_of, outcome_between, outcome_at, outcome_of}
use Rattle.ep_domain.specs.Laws.Narrowed.{shared_prop, cut_keeps, narrowed_keeps, edges_inside}
use Rattle.ep_domain.specs.Laws.Shared.{same_pair, nearest_of_some_type}
use Rattle.ep_tame_numbers.proofs.Parts.{KeepsRanges, KeepsSingles}

encloses_trans : (r s e : ℤ × ℤ) → Encloses r s → Encloses s e → Encloses r e
encloses_trans r s e h k = record { low = le_trans _ _ _ h.low k.low; high = le_trans _ _ _ k.high h.high }

left_encloses : (r s : ℤ × ℤ) → Encloses r (common_part r s)
left_encloses r s = record { low = omega (arith, ints, clamps); high = omega (arith, ints, clamps) }

abbrev sum_ends : ℤ × ℤ → ℤ × ℤ → ℤ × ℤ
sum_ends r s = (r.0 +ℤ s.0, r.1 +ℤ s.1)

abbrev scaled_ends : ℕ → ℤ × ℤ → ℤ × ℤ
scaled_ends k r = (r.0 *ℤ pos k, r.1 *ℤ pos k)

sums_enclose : (r s x y : ℤ × ℤ) → Encloses r x → Encloses s y → Encloses (sum_ends r s) (sum_ends x y)
sums_enclose r s x y h k =
    let a = h.low in let b = h.high in let c = k.low in let d = k.high in
    record { low = omega (arith, ints); high = omega (arith, ints) }

pub both_same : {N : Type 0} (j : N → N → N) (a b c : N) → a ≡ c → b ≡ c → j c c ≡ c → j a b ≡ c
both_same j a b c h k e = ap (λ x. j x b) h ∙ ap (j c) k ∙ e

module _ {A B : Type 0} (f : Ghosts A) (g : Ghosts B) (law : Lawful f.ops) (too : Lawful g.ops)
    (keeps : KeepsRanges f.ops) where
  -- anything of the right part
  abbrev Any : B → Type 0
  Any b = Unit {0}

  abbrev In : ℤ × ℤ → A → Type 0
  In r a = Encloses r (f.ops.range a)

  abbrev LeftIn : ℤ × ℤ → Pair A B f g → Type 0
  LeftIn r p = In r p.left × Any p.right

  range_in : (r : ℤ × ℤ) (p : Pair A B f g) → LeftIn r p → Encloses r (range_of p)
  range_in r p h =
      encloses_trans r (f.ops.range p.left) (range_of p) h.0 (left_encloses (f.ops.range p.left) (g.ops.range p.right))

  cut_part : (r : ℤ × ℤ) (a : A) (lo hi : ℤ) → In r a → IfSome (f.ops.cut a lo hi) (In r)
  cut_part r a lo hi h =
      if_some-map (λ c. Encloses (lo, hi) (f.ops.range c) × Encloses (f.ops.range a) (f.ops.range c)) (In r)
      (f.ops.cut a lo hi) (λ c k. encloses_trans r (f.ops.range a) (f.ops.range c) h k.1) (keeps.cut a lo hi)

  cut_ends : (a : A) (lo hi : ℤ) → IfSome (f.ops.cut a lo hi) (In (lo, hi))
  cut_ends a lo hi =
      if_some-map (λ c. Encloses (lo, hi) (f.ops.range c) × Encloses (f.ops.range a) (f.ops.range c)) (In (lo, hi))
      (f.ops.cut a lo hi) (λ c k. k.0) (keeps.cut a lo hi)

  any_cut : (b : B) (lo hi : ℤ) → IfSome (g.ops.cut b lo hi) Any
  any_cut b lo hi = always Any (g.ops.cut b lo hi) (λ c. tt)

  narrowed_in : (r : ℤ × ℤ) (a : A) (b : B) → In r a → IfSome (narrowed {f = f} {g = g} a b) (LeftIn r)
  narrowed_in r a b h =
      narrowed_keeps f g law too (In r) Any a b (λ lo hi. cut_part r a lo hi h) (λ lo hi. any_cut b lo hi)

  both_in : (r : ℤ × ℤ) (o : Option A) (n : Option B) → IfSome o (In r)
      → IfSome (narrowed_both {f = f} {g = g} o n) (LeftIn r)
  both_in r None n h = tt
  both_in r (Some a) None h = tt
  both_in r (Some a) (Some b) h = narrowed_in r a b h

  -- an operand, narrowed, is in its range
  operand_in : (p : Pair A B f g) → IfSome (common_edges f.ops g.ops p.left p.right)
      (λ e. IfSome (cut_to {f = f} {g = g} p.left p.right e) (LeftIn (range_of p)))
  operand_in p =
      if_some-map (λ e. (e.0 ≤ℤ e.1) × Encloses (range_of p) e)
      (λ e. IfSome (cut_to {f = f} {g = g} p.left p.right e) (LeftIn (range_of p)))
      (common_edges f.ops g.ops p.left p.right)
      (λ e h. cut_keeps f g law too (In (range_of p)) Any p.left p.right e
      (if_some-map (In (e.0, e.1)) (In (range_of p)) (f.ops.cut p.left e.0 e.1)
      (λ c k. encloses_trans (range_of p) (e.0, e.1) (f.ops.range c) (record { low = h.1.low; high = h.1.high }) k)
      (cut_ends p.left e.0 e.1)) (any_cut p.right e.0 e.1))
      (edges_inside f g law too p.left p.right (range_of p))

  narrowed_pair_in : (p : Pair A B f g) → IfSome (narrowed_pair p) (LeftIn (range_of p))
  narrowed_pair_in p = at (common_edges f.ops g.ops p.left p.right) (operand_in p)
    where
      at : (o : Option (ℤ × ℤ))
          → IfSome o (λ e. IfSome (cut_to {f = f} {g = g} p.left p.right e) (LeftIn (range_of p)))
          → IfSome (option_and_then (cut_to {f = f} {g = g} p.left p.right) o) (LeftIn (range_of p))
      at None h = tt
      at (Some e) h = h

  pub pair_cut : (p : Pair A B f g) (lo hi : ℤ) → IfSome (cut_of p lo hi)
      (λ c. Encloses (lo, hi) (range_of c) × Encloses (range_of p) (range_of c))
  pair_cut p lo hi =
      then_if (LeftIn (range_of p)) (λ c. Encloses (lo, hi) (range_of c) × Encloses (range_of p) (range_of c))
      (narrowed_pair p) (cut_pair lo hi) (narrowed_pair_in p) (λ c h. at c (f.ops.cut c.left lo hi)
      (g.ops.cut c.right lo hi) (cut_ends c.left lo hi) (cut_part (range_of p) c.left lo hi h.0))
    where
      both : (o : Option (Pair A B f g)) → IfSome o (LeftIn (lo, hi)) → IfSome o (LeftIn (range_of p))
          → IfSome o (λ c. Encloses (lo, hi) (range_of c) × Encloses (range_of p) (range_of c))
      both None h k = tt
      both (Some c) h k = (range_in (lo, hi) c h, range_in (range_of p) c k)

      at : (c : Pair A B f g) (o : Option A) (n : Option B) → IfSome o (In (lo, hi)) → IfSome o (In (range_of p))
          → IfSome (narrowed_both {f = f} {g = g} o n)
          (λ c. Encloses (lo, hi) (range_of c) × Encloses (range_of p) (range_of c))
      at c o n h k = both (narrowed_both o n) (both_in (lo, hi) o n h) (both_in (range_of p) o n k)

  -- ---- operators

  module _ (o : BinOp) (r s e : ℤ × ℤ)
      (go : (x y : A) → In r x → In s y → IfSome (f.ops.op o I64 x y).value (In e)) where
    between_in : (w : Option (ℤ × ℤ)) (x y : Option (Pair A B f g)) → IfSome x (LeftIn r) → IfSome y (LeftIn s)
        → IfSome (outcome_between o I64 w x y).value (LeftIn e)
    between_in w None y h k = tt
    between_in w (Some p) None h k = tt
    between_in w (Some p) (Some q) h k =
        both_in e (f.ops.op o I64 p.left q.left).value (g.ops.op o I64 p.right q.right).value
        (go p.left q.left h.0 k.0)

    at_in : (p q : Pair A B f g) (x y : Option (ℤ × ℤ))
        → IfSome x (λ d. IfSome (cut_to {f = f} {g = g} p.left p.right d) (LeftIn r))
        → IfSome y (λ d. IfSome (cut_to {f = f} {g = g} q.left q.right d) (LeftIn s))
        → IfSome (outcome_at o I64 p q x y).value (LeftIn e)
    at_in p q None y h k = tt
    at_in p q (Some c) None h k = tt
    at_in p q (Some c) (Some d) h k =
        between_in _ (cut_to {f = f} {g = g} p.left p.right c) (cut_to {f = f} {g = g} q.left q.right d) h k

  outcome_in : (o : BinOp) (p q : Pair A B f g) (e : ℤ × ℤ)
      → ((x y : A) → In (range_of p) x → In (range_of q) y → IfSome (f.ops.op o I64 x y).value (In e))
      → IfSome (outcome_of o I64 p q).value (λ c. Encloses e (range_of c))
  outcome_in o p q e go =
      if_some-map (LeftIn e) (λ c. Encloses e (range_of c)) (outcome_of o I64 p q).value (λ c h. range_in e c h)
      (at_in o (range_of p) (range_of q) e go p q (common_edges f.ops g.ops p.left p.right)
      (common_edges f.ops g.ops q.left q.right) (operand_in p) (operand_in q))

  pub pair_sum : (p q : Pair A B f g) → IfSome (outcome_of Add I64 p q).value
      (λ c. Encloses (sum_ends (range_of p) (range_of q)) (range_of c))
  pair_sum p q =
      outcome_in Add p q (sum_ends (range_of p) (range_of q)) (λ x y h k.
      if_some-map (In (sum_ends (f.ops.range x) (f.ops.range y))) (In (sum_ends (range_of p) (range_of q)))
      (f.ops.op Add I64 x y).value
      (λ c i. encloses_trans (sum_ends (range_of p) (range_of q)) (sum_ends (f.ops.range x) (f.ops.range y))
      (f.ops.range c) (sums_enclose (range_of p) (range_of q) (f.ops.range x) (f.ops.range y) h k) i)
      (keeps.sum x y))

  pub pair_product : (p q : Pair A B f g) (k : ℕ) → range_of q ≡ (pos k, pos k) → IfSome (outcome_of Mul I64 p q).value
      (λ c. Encloses (scaled_ends k (range_of p)) (range_of c))
  pair_product p q k d =
      outcome_in Mul p q (scaled_ends k (range_of p)) (λ x y h i.
      let o = one_end (f.ops.range y).0 (f.ops.range y).1 (pos k) (law.range_ends y).ordered
      (subst (λ (r : ℤ × ℤ). Encloses r (f.ops.range y)) d i) in
      if_some-map (In (scaled_ends k (f.ops.range x))) (In (scaled_ends k (range_of p))) (f.ops.op Mul I64 x y).value
      (λ c j. encloses_trans (scaled_ends k (range_of p)) (scaled_ends k (f.ops.range x)) (f.ops.range c)
      (record {
        low = product_up (range_of p).0 (f.ops.range x).0 k h.low;
        high = product_up (f.ops.range x).1 (range_of p).1 k h.high;
      }) j)
      (keeps.product x y k (same_pair (f.ops.range y).0 (f.ops.range y).1 (pos k) (pos k) o.0 o.1)))

-- ---- single numbers

module _ {A B : Type 0} (f : Ghosts A) (g : Ghosts B) where
  -- pairs of the same parts are the same
  same_pairs : (a : A) (b : B) (p : Lawful f.ops → Lawful g.ops → may_pair f.ops g.ops a b ≡ true) (c : A) (d : B)
      (q : Lawful f.ops → Lawful g.ops → may_pair f.ops g.ops c d ≡ true) → a ≡ c → b ≡ d
      → ◌≡◌ {A = Pair A B f g} (record { left = a; right = b; may_pair = p })
      (record { left = c; right = d; may_pair = q })
  same_pairs a b p c d q e h =
      let Goal : A → B → Type 0 =
      λ x y. (r : Lawful f.ops → Lawful g.ops → may_pair f.ops g.ops x y ≡ true)
      → ◌≡◌ {A = Pair A B f g} (record { left = a; right = b; may_pair = p })
      (record { left = x; right = y; may_pair = r }) in
      let base : Goal a b =
      λ r. ap (λ (m : Lawful f.ops → Lawful g.ops → may_pair f.ops g.ops a b ≡ true).
      (let s : Pair A B f g = record { left = a; right = b; may_pair = m } in s)) (shared_prop f g a b p r) in
      let one : Goal c b = subst (λ x. Goal x b) e base in
      let two : Goal c d = subst (λ y. Goal c y) h one in
      two q

module _ {A B : Type 0} (f : Ghosts A) (g : Ghosts B) (law : Lawful f.ops) (too : Lawful g.ops)
    (ks : KeepsSingles f.ops) (kt : KeepsSingles g.ops) where
  -- both parts are this number alone
  abbrev AreSingle : ℤ → Pair A B f g → Type 0
  AreSingle v p = (p.left ≡ f.ops.single v) × (p.right ≡ g.ops.single v)

  narrowed_single : (v : ℤ) (a : A) (b : B) → IsOfSomeType v → a ≡ f.ops.single v → b ≡ g.ops.single v
      → IfSome (narrowed {f = f} {g = g} a b) (AreSingle v)
  narrowed_single v a b i h k =
      narrowed_keeps f g law too (λ x. x ≡ f.ops.single v) (λ y. y ≡ g.ops.single v) a b
      (λ lo hi. subst (λ x. IfSome (f.ops.cut x lo hi) (λ y. y ≡ f.ops.single v)) (sym h) (ks.cut v lo hi i))
      (λ lo hi. subst (λ x. IfSome (g.ops.cut x lo hi) (λ y. y ≡ g.ops.single v)) (sym k) (kt.cut v lo hi i))

  single_parts : (v : ℤ) (i : IsOfSomeType v) → AreSingle v (single_at {f = f} {g = g} v i)
  single_parts v i =
      default_if (AreSingle v) (narrowed {f = f} {g = g} (f.ops.single v) (g.ops.single v)) (singles v i)
      (narrowed_single v (f.ops.single v) (g.ops.single v) i refl refl) (refl, refl)

  same_singles : (v : ℤ) (p q : Pair A B f g) → AreSingle v p → AreSingle v q → p ≡ q
  same_singles v p q h k =
      same_pairs f g p.left p.right p.may_pair q.left q.right q.may_pair (h.0 ∙ sym k.0) (h.1 ∙ sym k.1)

  joined_single : (v : ℤ) (p q : Pair A B f g) → IsOfSomeType v → AreSingle v p → AreSingle v q
      → AreSingle v (join_of p q)
  joined_single v p q i h k =
      default_if (AreSingle v) (narrowed (f.ops.join p.left q.left) (g.ops.join p.right q.right)) p
      (narrowed_single v (f.ops.join p.left q.left) (g.ops.join p.right q.right) i
      (both_same f.ops.join p.left q.left (f.ops.single v) h.0 k.0 (ks.join v i))
      (both_same g.ops.join p.right q.right (g.ops.single v) h.1 k.1 (kt.join v i))) h

  widened_single : (v : ℤ) (p q : Pair A B f g) → IsOfSomeType v → AreSingle v p → AreSingle v q
      → AreSingle v (widening_of p q)
  widened_single v p q i h k = (
    both_same f.ops.widen p.left q.left (f.ops.single v) h.0 k.0 (ks.widen v i),
    both_same g.ops.widen p.right q.right (g.ops.single v) h.1 k.1 (kt.widen v i),
  )

  abbrev single_pair : ℤ → Pair A B f g
  single_pair v = single_of {f = f} {g = g} v

  parts : (v : ℤ) → AreSingle (nearest_number v) (single_pair v)
  parts v = single_parts (nearest_number v) (nearest_of_some_type v)

  pub pair_joined : (v : ℤ) → join_of (single_pair v) (single_pair v) ≡ single_pair v
  pair_joined v =
      same_singles (nearest_number v) (join_of (single_pair v) (single_pair v)) (single_pair v)
      (joined_single (nearest_number v) (single_pair v) (single_pair v) (nearest_of_some_type v) (parts v) (parts v))
      (parts v)

  pub pair_widened : (v : ℤ) → widening_of (single_pair v) (single_pair v) ≡ single_pair v
  pair_widened v =
      same_singles (nearest_number v) (widening_of (single_pair v) (single_pair v)) (single_pair v)
      (widened_single (nearest_number v) (single_pair v) (single_pair v) (nearest_of_some_type v) (parts v) (parts v))
      (parts v)
