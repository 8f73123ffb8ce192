-- Strides of pairs. A part whose domain keeps them keeps the same in a pair, and of the other part nothing is asked.
use Rattle.std.specs.Prelude.{◌≡◌, ℕ, ◌+◌, ◌*◌, ◌%◌, ◌<◌, ◌≤◌, ℤ, pos, ◌-ℤ◌, Bool, true, false, cond, ◌||◌, Option}
use Rattle.ep_int.proofs.Basics.{if_some-map}
use Rattle.std.specs.Prelude.{Some, None, IsTrue, IfSome, IsSomeAnd, refl}
use Rattle.std.proofs.Common.{arith, ap, sym, subst}
use Rattle.std.proofs.lemmas.Bool.{and_parts}
use Rattle.std.proofs.lemmas.Nat.{mod_below}
use Rattle.ep_int.specs.declared.types.IntType.{IntType}
use Rattle.ep_int.specs.declared.types.IntType.TheVariants.{I64}
use Rattle.ep_int.specs.declared.types.BinOp.{BinOp}
use Rattle.ep_int.specs.declared.types.BinOp.TheVariants.{Add, Sub, Mul}
use Rattle.ep_int.specs.Types.{residue}
use Rattle.ep_int.specs.Arith.{IsOfSomeType}
use Rattle.ep_int.proofs.Wrapping.{residue_below}
use Rattle.ep_range_laws.specs.Ranges.{nearest_number}
use Rattle.ep_domain.specs.Domain.{Ops, IsSingle, IsStride, KeepsStrides, Lawful}
use Rattle.ep_domain.specs.Common.{common_edges}
use Rattle.ep_domain.specs.declared.num.Num.{Ghosts}
use Rattle.ep_domain.specs.declared.pair.Pair.{Pair}
use Rattle.ep_domain.specs.Pairs.{holds_of, singles, single_at, single_of, cut_to, narrowed, narrowed_both}
use Rattle.ep_domain.specs.Pairs.{narrowed_pair, widening_of, cut_pair, outcome_between, outcome_at, has_stride_of}
use Rattle.ep_domain.specs.PairDomain.{pair_ops}
use Rattle.ep_range_laws.proofs.Options.{then_if, default_if, to_if, always}
use Rattle.ep_domain.specs.Laws.Narrowed.{BothSingle, cut_keeps, narrowed_keeps}
use Rattle.ep_domain.specs.Laws.Shared.{nearest_of_some_type, nearest_same}
use Rattle.ep_domain.specs.Laws.PairOperators.{edges_to_single}

-- what a domain promises of a fact on remainder, modulus and value
pub record KeepsAs {N : Type 0} (d : Ops N) (S : ℕ → ℕ → N → Type 0) : Type 0 where
  pub single : (v : ℤ) (s : ℕ) → IsOfSomeType v → 0 < s → s ≤ 65536 → S (residue s v) s (d.single v)
  pub join : (a b : N) (r s : ℕ) → IsStride r s → S r s a → S r s b → S r s (d.join a b)
  pub widen : (a b : N) (r s : ℕ) → IsStride r s → S r s a → S r s b → S r s (d.widen a b)
  pub cut : (a : N) (lo hi : ℤ) (r s : ℕ) → IsStride r s → S r s a → IfSome (d.cut a lo hi) (S r s)
  pub add : (a b : N) (r q s : ℕ) → IsStride r s → IsStride q s → S r s a → S q s b →
      IfSome (d.op Add I64 a b).value (S ((r + q) % s) s)
  pub sub : (a b : N) (r q s : ℕ) → IsStride r s → IsStride q s → S r s a → S q s b →
      IfSome (d.op Sub I64 a b).value (S (residue s (pos r -ℤ pos q)) s)
  pub mul : (a b : N) (s k : ℕ) → IsStride 0 s → IsSingle d b (pos (s * k)) → IfSome (d.op Mul I64 a b).value (S 0 s)

abbrev pub Nothing : {N : Type 0} → ℕ → ℕ → N → Type 0
Nothing r s a = Unit {0}

abbrev pub HasStride : {N : Type 0} → Ops N → ℕ → ℕ → N → Type 0
HasStride d r s a = IsTrue (d.has_stride a r s)

keeps_nothing : {N : Type 0} (d : Ops N) → KeepsAs d Nothing
keeps_nothing d = record {
  single = λ v s h p q. tt;
  join = λ a b r s i h k. tt;
  widen = λ a b r s i h k. tt;
  cut = λ a lo hi r s i h. always _ _ (λ c. tt);
  add = λ a b r q s i j h k. always _ _ (λ c. tt);
  sub = λ a b r q s i j h k. always _ _ (λ c. tt);
  mul = λ a b s k i h. always _ _ (λ c. tt);
}

keeps_strides : {N : Type 0} (d : Ops N) → KeepsStrides d → KeepsAs d (HasStride d)
keeps_strides d k = record {
  single = k.single;
  join = k.join;
  widen = k.widen;
  cut = k.cut;
  add = k.add;
  sub = k.sub;
  mul = k.mul;
}

from_keeps : {N : Type 0} (d : Ops N) → KeepsAs d (HasStride d) → KeepsStrides d
from_keeps d k = record {
  single = k.single;
  join = k.join;
  widen = k.widen;
  cut = k.cut;
  add = k.add;
  sub = k.sub;
  mul = k.mul;
}

sum_stride : (r q s : ℕ) → IsStride r s → IsStride ((r + q) % s) s
sum_stride r q s i = let b = i.below in record { below = mod_below (r + q) s (omega arith); small = i.small }

difference_stride : (r q s : ℕ) → IsStride r s → IsStride (residue s (pos r -ℤ pos q)) s
difference_stride r q s i = let b = i.below in
    record { below = residue_below s (pos r -ℤ pos q) (omega arith); small = i.small }

module _ {A B : Type 0} (f : Ghosts A) (g : Ghosts B) (law : Lawful f.ops) (too : Lawful g.ops)
    (S : ℕ → ℕ → A → Type 0) (T : ℕ → ℕ → B → Type 0) (ks : KeepsAs f.ops S) (kt : KeepsAs g.ops T) where
  abbrev Both : ℕ → ℕ → Pair A B f g → Type 0
  Both r s p = S r s p.left × T r s p.right

  narrowed_has : (a : A) (b : B) (r s : ℕ) → IsStride r s → S r s a → T r s b →
      IfSome (narrowed {f = f} {g = g} a b) (Both r s)
  narrowed_has a b r s i h k = narrowed_keeps f g law too (S r s) (T r s) a b (λ lo hi. ks.cut a lo hi r s i h)
      (λ lo hi. kt.cut b lo hi r s i k)

  both_has : (o : Option A) (n : Option B) (r s : ℕ) → IsStride r s → IfSome o (S r s) → IfSome n (T r s) →
      IfSome (narrowed_both {f = f} {g = g} o n) (Both r s)
  both_has None n r s i h k = tt
  both_has (Some a) None r s i h k = tt
  both_has (Some a) (Some b) r s i h k = narrowed_has a b r s i h k

  cut_has : (p : Pair A B f g) (r s : ℕ) → IsStride r s → Both r s p → (e : ℤ × ℤ) →
      IfSome (cut_to {f = f} {g = g} p.left p.right e) (Both r s)
  cut_has p r s i h e = cut_keeps f g law too (S r s) (T r s) p.left p.right e (ks.cut p.left e.0 e.1 r s i h.0)
      (kt.cut p.right e.0 e.1 r s i h.1)

  between_value : (o : BinOp) (t : IntType) (w : Option (ℤ × ℤ)) (X Y R : Pair A B f g → Type 0) →
      ((p q : Pair A B f g) → X p → Y q →
      IfSome (narrowed_both {f = f} {g = g} (f.ops.op o t p.left q.left).value
      (g.ops.op o t p.right q.right).value) R) →
      (po qo : Option (Pair A B f g)) → IfSome po X → IfSome qo Y → IfSome (outcome_between o t w po qo).value R
  between_value o t w X Y R go None qo h k = tt
  between_value o t w X Y R go (Some p) None h k = tt
  between_value o t w X Y R go (Some p) (Some q) h k = go p q h k

  at_value : (o : BinOp) (t : IntType) (X Y R : Pair A B f g → Type 0) →
      ((p q : Pair A B f g) → X p → Y q →
      IfSome (narrowed_both {f = f} {g = g} (f.ops.op o t p.left q.left).value
      (g.ops.op o t p.right q.right).value) R) →
      (p q : Pair A B f g) (eo ko : Option (ℤ × ℤ)) →
      IfSome eo (λ e. IfSome (cut_to {f = f} {g = g} p.left p.right e) X) →
      IfSome ko (λ e. IfSome (cut_to {f = f} {g = g} q.left q.right e) Y) →
      IfSome (outcome_at o t p q eo ko).value R
  at_value o t X Y R go p q None ko h k = tt
  at_value o t X Y R go p q (Some e) None h k = tt
  at_value o t X Y R go p q (Some e) (Some d) h k = between_value o t _ X Y R go _ _ h k

  single_has : (v : ℤ) (s : ℕ) (h : IsOfSomeType v) → 0 < s → s ≤ 65536 →
      Both (residue s v) s (single_at {f = f} {g = g} v h)
  single_has v s h p q =
      default_if (Both (residue s v) s) (narrowed (f.ops.single v) (g.ops.single v)) (singles v h)
      (narrowed_has _ _ (residue s v) s (record { below = residue_below s v p; small = q }) (ks.single v s h p q)
      (kt.single v s h p q)) (ks.single v s h p q, kt.single v s h p q)

  at_nearest : (v : ℤ) (s : ℕ) → IsOfSomeType v → 0 < s → s ≤ 65536 → Both (residue s v) s (single_of {f = f} {g = g} v)
  at_nearest v s h p q = subst (λ w. Both (residue s w) s (single_of {f = f} {g = g} v)) (nearest_same v h)
      (single_has (nearest_number v) s (nearest_of_some_type v) p q)

  widened_has : (p q : Pair A B f g) (r s : ℕ) → IsStride r s → Both r s p → Both r s q → Both r s (widening_of p q)
  widened_has p q r s i h k = (ks.widen p.left q.left r s i h.0 k.0, kt.widen p.right q.right r s i h.1 k.1)

  pair_keeps : KeepsAs (pair_ops {f = f} {g = g}) Both
  pair_keeps = record {
    single = at_nearest;
    join = λ p q r s i h k. default_if (Both r s) (narrowed (f.ops.join p.left q.left) (g.ops.join p.right q.right)) p
        (narrowed_has _ _ r s i (ks.join p.left q.left r s i h.0 k.0) (kt.join p.right q.right r s i h.1 k.1)) h;
    widen = widened_has;
    cut = λ p lo hi r s i h. then_if (Both r s) (Both r s) (narrowed_pair p) (cut_pair lo hi)
        (narrowed_has p.left p.right r s i h.0 h.1)
        (λ c k. both_has (f.ops.cut c.left lo hi) (g.ops.cut c.right lo hi) r s i (ks.cut c.left lo hi r s i k.0)
        (kt.cut c.right lo hi r s i k.1));
    add = λ p q r n s i j h k. at_value Add I64 (Both r s) (Both n s) (Both ((r + n) % s) s)
        (λ c d u v. both_has _ _ _ s (sum_stride r n s i) (ks.add c.left d.left r n s i j u.0 v.0)
        (kt.add c.right d.right r n s i j u.1 v.1)) p q _ _
        (always _ (common_edges f.ops g.ops p.left p.right) (cut_has p r s i h))
        (always _ (common_edges f.ops g.ops q.left q.right) (cut_has q n s j k));
    sub = λ p q r n s i j h k. at_value Sub I64 (Both r s) (Both n s) (Both (residue s (pos r -ℤ pos n)) s)
        (λ c d u v. both_has _ _ _ s (difference_stride r n s i) (ks.sub c.left d.left r n s i j u.0 v.0)
        (kt.sub c.right d.right r n s i j u.1 v.1)) p q _ _
        (always _ (common_edges f.ops g.ops p.left p.right) (cut_has p r s i h))
        (always _ (common_edges f.ops g.ops q.left q.right) (cut_has q n s j k));
    mul = λ p q s k i e. at_value Mul I64 (λ c. Unit {0}) (BothSingle f g law too (pos (s * k))) (Both 0 s)
        (λ c d u v. both_has _ _ 0 s i (ks.mul c.left d.left s k i v.0) (kt.mul c.right d.right s k i v.1)) p q _ _
        (always _ (common_edges f.ops g.ops p.left p.right)
        (λ e. always (λ (c : Pair A B f g). Unit {0}) (cut_to {f = f} {g = g} p.left p.right e) (λ c. tt)))
        (single_cut q (pos (s * k)) (common_edges f.ops g.ops q.left q.right)
        (edges_to_single f g law too Mul I64 q (pos (s * k)) e));
  }
    where
      single_cut : (q : Pair A B f g) (v : ℤ) (o : Option (ℤ × ℤ)) →
          IsSomeAnd o (λ e. IsSomeAnd (cut_to {f = f} {g = g} q.left q.right e) (BothSingle f g law too v)) →
          IfSome o (λ e. IfSome (cut_to {f = f} {g = g} q.left q.right e) (BothSingle f g law too v))
      single_cut q v None h = tt
      single_cut q v (Some e) h = to_if (BothSingle f g law too v) (cut_to {f = f} {g = g} q.left q.right e) h

-- two facts that come to the same
keeps_same : {N : Type 0} (d : Ops N) (S T : ℕ → ℕ → N → Type 0) → ((r s : ℕ) (a : N) → S r s a → T r s a) →
    ((r s : ℕ) (a : N) → T r s a → S r s a) → KeepsAs d S → KeepsAs d T
keeps_same d S T to from k = record {
  single = λ v s h p q. to _ s _ (k.single v s h p q);
  join = λ a b r s i h l. to r s _ (k.join a b r s i (from r s a h) (from r s b l));
  widen = λ a b r s i h l. to r s _ (k.widen a b r s i (from r s a h) (from r s b l));
  cut = λ a lo hi r s i h. if_some-map (S r s) (T r s) (d.cut a lo hi) (to r s) (k.cut a lo hi r s i (from r s a h));
  add = λ a b r q s i j h l. if_some-map (S ((r + q) % s) s) (T ((r + q) % s) s) (d.op Add I64 a b).value
      (to ((r + q) % s) s) (k.add a b r q s i j (from r s a h) (from q s b l));
  sub = λ a b r q s i j h l. if_some-map (S (residue s (pos r -ℤ pos q)) s) (T (residue s (pos r -ℤ pos q)) s)
      (d.op Sub I64 a b).value (to (residue s (pos r -ℤ pos q)) s) (k.sub a b r q s i j (from r s a h) (from q s b l));
  mul = λ a b s n i h. if_some-map (S 0 s) (T 0 s) (d.op Mul I64 a b).value (to 0 s) (k.mul a b s n i h);
}

module _ {A B : Type 0} (f : Ghosts A) (g : Ghosts B) (law : Lawful f.ops) (too : Lawful g.ops) where
  right_stride : g.ops.keeps_strides ≡ true → (r s : ℕ) (p : Pair A B f g) → has_stride_of p r s
      ≡ g.ops.has_stride p.right r s
  right_stride e r s p = ap (λ t. cond t (g.ops.has_stride p.right r s) (f.ops.has_stride p.left r s)) e

  left_stride : g.ops.keeps_strides ≡ false → (r s : ℕ) (p : Pair A B f g) → has_stride_of p r s
      ≡ f.ops.has_stride p.left r s
  left_stride e r s p = ap (λ t. cond t (g.ops.has_stride p.right r s) (f.ops.has_stride p.left r s)) e

  by_right : g.ops.keeps_strides ≡ true → KeepsStrides g.ops → KeepsStrides (pair_ops {f = f} {g = g})
  by_right e k =
      from_keeps (pair_ops {f = f} {g = g})
      (keeps_same (pair_ops {f = f} {g = g}) (λ r s p. Nothing r s p.left × HasStride g.ops r s p.right)
      (HasStride (pair_ops {f = f} {g = g}))
      (λ r s p h. subst IsTrue (sym (right_stride e r s p)) h.1)
      (λ r s p h. (tt, subst IsTrue (right_stride e r s p) h))
      (pair_keeps f g law too Nothing (HasStride g.ops) (keeps_nothing f.ops) (keeps_strides g.ops k)))

  by_left : g.ops.keeps_strides ≡ false → KeepsStrides f.ops → KeepsStrides (pair_ops {f = f} {g = g})
  by_left e k =
      from_keeps (pair_ops {f = f} {g = g})
      (keeps_same (pair_ops {f = f} {g = g}) (λ r s p. HasStride f.ops r s p.left × Nothing r s p.right)
      (HasStride (pair_ops {f = f} {g = g}))
      (λ r s p h. subst IsTrue (sym (left_stride e r s p)) h.0) (λ r s p h. (subst IsTrue (left_stride e r s p) h, tt))
      (pair_keeps f g law too (HasStride f.ops) Nothing (keeps_strides f.ops k) (keeps_nothing g.ops)))

  pub pair_strides : (g.ops.keeps_strides || f.ops.keeps_strides) ≡ true → KeepsStrides (pair_ops {f = f} {g = g})
  pair_strides e = at g.ops.keeps_strides refl e
    where
      at : (t : Bool) → g.ops.keeps_strides ≡ t → (t || f.ops.keeps_strides) ≡ true →
          KeepsStrides (pair_ops {f = f} {g = g})
      at true h k = by_right h (too.strides h)
      at false h k = by_left h (law.strides k)

  pub stride_holds : (p : Pair A B f g) (r s : ℕ) (z : ℤ) → IsStride r s → IsTrue (has_stride_of p r s) →
      IsTrue (holds_of p z) → residue s z ≡ r
  stride_holds p r s z i h k = at g.ops.keeps_strides refl
    where
      at : (t : Bool) → g.ops.keeps_strides ≡ t → residue s z ≡ r
      at true e = too.stride_holds p.right r s z i (subst IsTrue (right_stride e r s p) h) (and_parts _ _ k).1
      at false e = law.stride_holds p.left r s z i (subst IsTrue (left_stride e r s p) h) (and_parts _ _ k).0

  pub stride_divides : (p : Pair A B f g) (r s k : ℕ) → IsStride r (s * k) → IsTrue (has_stride_of p r (s * k)) →
      IsTrue (has_stride_of p (r % s) s)
  stride_divides p r s k i h = at g.ops.keeps_strides refl
    where
      at : (t : Bool) → g.ops.keeps_strides ≡ t → IsTrue (has_stride_of p (r % s) s)
      at true e = subst IsTrue (sym (right_stride e (r % s) s p))
          (too.stride_divides p.right r s k i (subst IsTrue (right_stride e r (s * k) p) h))
      at false e = subst IsTrue (sym (left_stride e (r % s) s p))
          (law.stride_divides p.left r s k i (subst IsTrue (left_stride e r (s * k) p) h))
