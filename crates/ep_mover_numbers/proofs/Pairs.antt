-- A pair keeps numbers that aren't negative where its left part does, if the right part is one number or has all.
use Rattle.std.proofs.Common.{◌≡◌, ℤ, pos, ◌≤ℤ◌, ◌⊎◌, inl, inr, Bool, true, false, cond, Option, Some, None, IfSome}
use Rattle.std.proofs.Common.{refl, sym, ap, ◌∙◌, subst, arith}
use Rattle.std.specs.Prelude.{IsTrue, IsSomeAnd, int_le}
use Rattle.std.specs.Option.{unwrap_or}
use Rattle.std.specs.Int.{int_min, int_max}
use Rattle.std.proofs.lemmas.Bool.{and_parts}
use Rattle.std.proofs.lemmas.Int.{ints, clamps}
use Rattle.ep_int.specs.declared.types.IntType.{IntType}
use Rattle.ep_int.specs.declared.types.IntType.TheVariants.{I64, U64}
use Rattle.ep_int.specs.declared.types.BinOp.{BinOp}
use Rattle.ep_int.specs.Types.{least_of, greatest_of, wrapped}
use Rattle.ep_int.specs.Arith.{int_eq}
use Rattle.ep_int.proofs.Basics.{if_some-map}
use Rattle.ep_range_laws.specs.Ranges.{IsRange, Encloses}
use Rattle.ep_range_laws.proofs.Options.{always, default_holds}
use Rattle.ep_range_laws.proofs.Comparisons.{between_true, from_between, le_self, le_trans, le_antisym}
use Rattle.ep_domain.specs.Domain.{Lawful, Holds}
use Rattle.ep_domain.specs.Common.{common_part, common_edges}
use Rattle.ep_domain.specs.declared.num.Num.{Ghosts}
use Rattle.ep_domain.specs.declared.pair.Pair.{Pair}
use Rattle.ep_domain.specs.Pairs.{holds_of, range_of, cut_to, narrowed, narrowed_both, narrowed_pair, settled, converted}
use Rattle.ep_domain.specs.Pairs.{conversion_of, outcome_between, outcome_at, outcome_of}
use Rattle.ep_domain.specs.Laws.Narrowed.{HoldsPair, BothSingle, range_ends, narrowed_keeps, narrowed_holds}
use Rattle.ep_domain.specs.Laws.PairOperators.{narrowed_has, narrowed_to_single}
use Rattle.ep_domain.specs.Laws.Shared.{same_pair}

encloses_trans : (r s e : ℤ × ℤ) → Encloses r s → Encloses s e → Encloses r e
encloses_trans r s e h k = record { low = le_trans _ _ _ h.low k.low; high = le_trans _ _ _ k.high h.high }

left_encloses : (r s : ℤ × ℤ) → Encloses r (common_part r s)
left_encloses r s = record { low = omega (arith, ints, clamps); high = omega (arith, ints, clamps) }

-- one number alone, or each number of some type
abbrev pub IsWide : ℤ × ℤ → Type 0
IsWide r = (r.0 ≡ r.1) ⊎ (r ≡ (least_of I64, greatest_of U64))

one_common : (r s : ℤ × ℤ) → s.0 ≡ s.1 → (common_part r s).0 ≤ℤ (common_part r s).1
    → (common_part r s).1 ≤ℤ (common_part r s).0
one_common r s e h = omega (arith, ints, clamps)

all_low : (a x l : ℤ) → l ≤ℤ x → a ≤ℤ int_max x l → a ≤ℤ x
all_low a x l h k = omega (arith, ints, clamps)

all_high : (b y g : ℤ) → y ≤ℤ g → int_min y g ≤ℤ b → y ≤ℤ b
all_high b y g h k = omega (arith, ints, clamps)

module _ {A B : Type 0} (f : Ghosts A) (g : Ghosts B) (law : Lawful f.ops) (too : Lawful g.ops)
    (cut : (a : A) (lo hi : ℤ) → IfSome (f.ops.cut a lo hi) (λ c. Encloses (f.ops.range a) (f.ops.range c)))
    (r : ℤ × ℤ) where
  abbrev Any : B → Type 0
  Any b = Unit {0}

  abbrev In : A → Type 0
  In a = Encloses r (f.ops.range a)

  abbrev LeftIn : Pair A B f g → Type 0
  LeftIn p = In p.left × Any p.right

  range_in : (p : Pair A B f g) → LeftIn p → Encloses r (range_of p)
  range_in p h =
      encloses_trans r (f.ops.range p.left) (range_of p) h.0 (left_encloses (f.ops.range p.left) (g.ops.range p.right))

  cut_part : (a : A) (lo hi : ℤ) → In a → IfSome (f.ops.cut a lo hi) In
  cut_part a lo hi h =
      if_some-map (λ c. Encloses (f.ops.range a) (f.ops.range c)) In (f.ops.cut a lo hi)
      (λ c k. encloses_trans r (f.ops.range a) (f.ops.range c) h k) (cut a lo hi)

  narrowed_in : (a : A) (b : B) → In a → IfSome (narrowed {f = f} {g = g} a b) LeftIn
  narrowed_in a b h =
      narrowed_keeps f g law too In Any a b (λ lo hi. cut_part a lo hi h)
      (λ lo hi. always Any (g.ops.cut b lo hi) (λ x. tt))

  both_in : (o : Option A) (n : Option B) → IfSome o In → IfSome (narrowed_both {f = f} {g = g} o n) LeftIn
  both_in None n h = tt
  both_in (Some a) None h = tt
  both_in (Some a) (Some b) h = narrowed_in a b h

  -- ---- operators

  module _ (o : BinOp) (t : IntType) (go : (x y : A) → IfSome (f.ops.op o t x y).value In) where
    between_in : (w : Option (ℤ × ℤ)) (x y : Option (Pair A B f g))
        → IfSome (outcome_between o t w x y).value LeftIn
    between_in w None y = tt
    between_in w (Some p) None = tt
    between_in w (Some p) (Some q) =
        both_in (f.ops.op o t p.left q.left).value (g.ops.op o t p.right q.right).value (go p.left q.left)

    at_in : (p q : Pair A B f g) (x y : Option (ℤ × ℤ)) → IfSome (outcome_at o t p q x y).value LeftIn
    at_in p q None y = tt
    at_in p q (Some c) None = tt
    at_in p q (Some c) (Some d) =
        between_in _ (cut_to {f = f} {g = g} p.left p.right c) (cut_to {f = f} {g = g} q.left q.right d)

    pub outcome_in : (p q : Pair A B f g) → IfSome (outcome_of o t p q).value (λ c. Encloses r (range_of c))
    outcome_in p q =
        if_some-map LeftIn (λ c. Encloses r (range_of c)) (outcome_of o t p q).value (λ c h. range_in c h)
        (at_in p q (common_edges f.ops g.ops p.left p.right) (common_edges f.ops g.ops q.left q.right))

  -- ---- conversions

  settled_has : (p : Pair A B f g) (z : ℤ) → IsTrue (holds_of p z) → IsTrue (holds_of (settled p) z)
  settled_has p z h = at (int_eq (range_of p).0 (range_of p).1)
    where
      at : (t : Bool) → IsTrue (holds_of (cond t (unwrap_or (narrowed_pair p) p) p) z)
      at true = default_holds (HoldsPair f g law too z) (narrowed_pair p) p (narrowed_has f g law too p z h)
      at false = h

  pub conversion_in : (p : Pair A B f g) (t : IntType) (z : ℤ) → IsTrue (holds_of (conversion_of p t) z)
      → In (f.ops.convert (settled p).left t) → Encloses r (range_of (conversion_of p t))
  conversion_in p t z e h =
      at (converted (settled p) t)
      (narrowed_in (f.ops.convert (settled p).left t) (g.ops.convert (settled p).right t) h)
      (λ i. (let k = and_parts _ _ (settled_has p z i) in
      narrowed_holds f g law too _ _ (wrapped t z) (law.convert_holds (settled p).left t z k.0)
      (too.convert_holds (settled p).right t z k.1))) e
    where
      at : (o : Option (Pair A B f g)) → IfSome o LeftIn
          → (IsTrue (holds_of p z) → IsSomeAnd o (HoldsPair f g law too (wrapped t z)))
          → IsTrue (holds_of (unwrap_or o p) z) → Encloses r (range_of (unwrap_or o p))
      at None h k e = absurd (k e)
      at (Some c) h k e = range_in c h

  pub settled_in : ((b : B) → IsWide (g.ops.range b)) → (p : Pair A B f g) → Encloses r (range_of p) → In (settled p).left
  settled_in wide p h = at (int_eq (range_of p).0 (range_of p).1) refl
    where
      alone : int_eq (range_of p).0 (range_of p).1 ≡ true → In (unwrap_or (narrowed_pair p) p).left
      alone e =
          let b = from_between _ _ _ _ e in
          let same = le_antisym (range_of p).0 (range_of p).1 b.0 b.1 in
          let q : range_of p ≡ ((range_of p).0, (range_of p).0) = same_pair _ _ _ _ refl (sym same) in
          let s = default_holds (BothSingle f g law too (range_of p).0) (narrowed_pair p) p
          (narrowed_to_single f g law too p (range_of p).0 q) in
          subst (Encloses r) (sym s.0) (subst (Encloses r) q h)

      more : (g.ops.range p.right).0 ≡ (g.ops.range p.right).1 → int_eq (range_of p).0 (range_of p).1 ≡ true
      more e =
          let o = range_ends f g law too p in
          between_true (range_of p).0 (range_of p).1 (range_of p).1 (range_of p).0 o.ordered
          (one_common (f.ops.range p.left) (g.ops.range p.right) e o.ordered)

      by_width : IsWide (g.ops.range p.right) → int_eq (range_of p).0 (range_of p).1 ≡ false → In p.left
      by_width (inl e) n = (let m = more e in absurd (cc))
      by_width (inr e) n =
          let o = law.range_ends p.left in
          let k : Encloses r (common_part (f.ops.range p.left) (least_of I64, greatest_of U64))
          = subst (λ s. Encloses r (common_part (f.ops.range p.left) s)) e h in
          record {
            low = all_low r.0 (f.ops.range p.left).0 (least_of I64) o.above k.low;
            high = all_high r.1 (f.ops.range p.left).1 (greatest_of U64) o.below k.high;
          }

      at : (b : Bool) → int_eq (range_of p).0 (range_of p).1 ≡ b → In (cond b (unwrap_or (narrowed_pair p) p) p).left
      at true e = alone e
      at false e = by_width (wide p.right) e
