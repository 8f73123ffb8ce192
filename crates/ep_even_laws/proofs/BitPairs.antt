-- A product of pairs by 1 has the strides of the other factor, where that of the left parts has them and the right
-- parts keep none.
use Rattle.std.proofs.Common.{◌≡◌, ℕ, ℤ, pos, true, false, cond, Option, Some, None, IsTrue, IfSome, IsSomeAnd}
use Rattle.ep_int.proofs.Basics.{if_some-map}
use Rattle.std.proofs.Common.{sym, ap, subst}
use Rattle.ep_int.specs.declared.types.IntType.TheVariants.{I64}
use Rattle.ep_int.specs.declared.types.BinOp.TheVariants.{Mul}
use Rattle.ep_domain.specs.Domain.{IsStride, Lawful}
use Rattle.ep_domain.specs.Common.{common_edges}
use Rattle.ep_domain.specs.declared.num.Num.{Ghosts}
use Rattle.ep_domain.specs.declared.pair.Pair.{Pair}
use Rattle.ep_domain.specs.Pairs.{cut_to, narrowed_both, outcome_between, outcome_at, outcome_of, has_stride_of}
use Rattle.ep_domain.specs.PairDomain.{pair_ops}
use Rattle.ep_domain.specs.Laws.Narrowed.{BothSingle, cut_keeps, narrowed_keeps}
use Rattle.ep_domain.specs.Laws.PairOperators.{edges_to_single}
use Rattle.ep_range_laws.proofs.Options.{to_if, always}
use Rattle.ep_alarm_laws.specs.Laws.{ProductsKeepStrides}

module _ {A B : Type 0} (f : Ghosts A) (g : Ghosts B) (law : Lawful f.ops) (too : Lawful g.ops)
    (keeps : f.ops.keeps_strides ≡ true) (none : g.ops.keeps_strides ≡ false) (products : ProductsKeepStrides f.ops)
    (r s : ℕ) (i : IsStride r s) where
  -- the stride of the left part, and anything of the right one
  abbrev HasIt : A → Type 0
  HasIt a = IsTrue (f.ops.has_stride a r s)

  abbrev Any : B → Type 0
  Any b = Unit {0}

  abbrev Has : Pair A B f g → Type 0
  Has p = HasIt p.left × Any p.right

  abbrev IsUnit : Pair A B f g → Type 0
  IsUnit = BothSingle f g law too (pos 1)

  cut_has : (p : Pair A B f g) → HasIt p.left → (e : ℤ × ℤ)
      → IfSome (cut_to {f = f} {g = g} p.left p.right e) Has
  cut_has p h e =
      cut_keeps f g law too HasIt Any p.left p.right e ((law.strides keeps).cut p.left e.0 e.1 r s i h)
      (always Any (g.ops.cut p.right e.0 e.1) (λ c. tt))

  both_has : (o : Option A) (n : Option B) → IfSome o HasIt → IfSome (narrowed_both {f = f} {g = g} o n) Has
  both_has None n h = tt
  both_has (Some a) None h = tt
  both_has (Some a) (Some b) h =
      narrowed_keeps f g law too HasIt Any a b (λ lo hi. (law.strides keeps).cut a lo hi r s i h)
      (λ lo hi. always Any (g.ops.cut b lo hi) (λ c. tt))

  between_has : (w : Option (ℤ × ℤ)) (x y : Option (Pair A B f g)) → IfSome x Has → IfSome y IsUnit
      → IfSome (outcome_between Mul I64 w x y).value Has
  between_has w None y h k = tt
  between_has w (Some p) None h k = tt
  between_has w (Some p) (Some q) h k =
      both_has (f.ops.op Mul I64 p.left q.left).value (g.ops.op Mul I64 p.right q.right).value
      (products p.left q.left r s i h.0 k.0)

  at_has : (p q : Pair A B f g) (x y : Option (ℤ × ℤ))
      → IfSome x (λ e. IfSome (cut_to {f = f} {g = g} p.left p.right e) Has)
      → IfSome y (λ e. IfSome (cut_to {f = f} {g = g} q.left q.right e) IsUnit)
      → IfSome (outcome_at Mul I64 p q x y).value Has
  at_has p q None y h k = tt
  at_has p q (Some e) None h k = tt
  at_has p q (Some e) (Some d) h k =
      between_has _ (cut_to {f = f} {g = g} p.left p.right e) (cut_to {f = f} {g = g} q.left q.right d) h k

  unit_cut : (q : Pair A B f g) (o : Option (ℤ × ℤ))
      → IsSomeAnd o (λ e. IsSomeAnd (cut_to {f = f} {g = g} q.left q.right e) IsUnit)
      → IfSome o (λ e. IfSome (cut_to {f = f} {g = g} q.left q.right e) IsUnit)
  unit_cut q None h = tt
  unit_cut q (Some e) h = to_if IsUnit (cut_to {f = f} {g = g} q.left q.right e) h

  left_stride : (p : Pair A B f g) → has_stride_of p r s ≡ f.ops.has_stride p.left r s
  left_stride p = ap (λ t. cond t (g.ops.has_stride p.right r s) (f.ops.has_stride p.left r s)) none

  pub left_product : (p q : Pair A B f g) → IsTrue (has_stride_of p r s)
      → (pair_ops {f = f} {g = g}).range q ≡ (pos 1, pos 1)
      → IfSome (outcome_of Mul I64 p q).value (λ c. IsTrue (has_stride_of c r s))
  left_product p q h e =
      if_some-map Has (λ c. IsTrue (has_stride_of c r s)) (outcome_of Mul I64 p q).value
      (λ c k. subst IsTrue (sym (left_stride c)) k.0)
      (at_has p q (common_edges f.ops g.ops p.left p.right) (common_edges f.ops g.ops q.left q.right)
      (always (λ x. IfSome (cut_to {f = f} {g = g} p.left p.right x) Has) (common_edges f.ops g.ops p.left p.right)
      (cut_has p (subst IsTrue (left_stride p) h)))
      (unit_cut q (common_edges f.ops g.ops q.left q.right) (edges_to_single f g law too Mul I64 q (pos 1) e)))

pub left_products : {A B : Type 0} (f : Ghosts A) (g : Ghosts B) → Lawful f.ops → Lawful g.ops
    → f.ops.keeps_strides ≡ true → g.ops.keeps_strides ≡ false → ProductsKeepStrides f.ops
    → ProductsKeepStrides (pair_ops {f = f} {g = g})
left_products f g law too keeps none products p q r s i h e =
    left_product f g law too keeps none products r s i p q h e
