-- The laws of narrowing.
use Rattle.std.specs.Prelude.{◌≡◌, ℤ, ◌≤ℤ◌, Bool, true, false, Option, Some, None, IsTrue, IsSomeAnd, IfSome, refl}
use Rattle.std.proofs.Common.{arith, ap, sym, ◌∙◌, subst}
use Rattle.std.proofs.Props.{props}
use Rattle.std.proofs.lemmas.Int.{ints, clamps}
use Rattle.std.proofs.lemmas.Bool.{and_from}
use Rattle.ep_range_laws.specs.Ranges.{IsRange, LiesIn, Encloses}
use Rattle.ep_domain.specs.Domain.{Holds, IsSingle, Lawful}
use Rattle.ep_domain.specs.Common.{common_part, common_range, edges_between, common_edges, may_pair}
use Rattle.ep_domain.specs.declared.num.Num.{Ghosts}
use Rattle.ep_domain.specs.declared.pair.Pair.{Pair}
use Rattle.ep_domain.specs.Pairs.{pair_at, pair_of, holds_of, range_of, cut_to, narrowed, narrowed_both}
use Rattle.ep_domain.specs.Laws.Shared.{pair, same_pair, same_ends, held_shared, shared_single, shared_ends}
use Rattle.ep_domain.specs.Laws.Shared as shared
use Rattle.ep_range_laws.proofs.Options.{then_some, then_if, both_if, weaken, always}
use Rattle.ep_range_laws.proofs.Comparisons.{le_self, le_trans}

module _ {A B : Type 0} (f : Ghosts A) (g : Ghosts B) where
  pub shared_prop : (a : A) (b : B) → IsProp (Lawful f.ops → Lawful g.ops → may_pair f.ops g.ops a b ≡ true)
  shared_prop a b = Prim.hlevel props

  pub pair_some : (a : A) (b : B) (p : Lawful f.ops → Lawful g.ops → may_pair f.ops g.ops a b ≡ true) →
      may_pair f.ops g.ops a b ≡ true → pair_of {f = f} {g = g} a b
      ≡ Some (record { left = a; right = b; may_pair = p })
  pair_some a b p m = at _ refl m
    where
      at : (t : Bool) (e : may_pair f.ops g.ops a b ≡ t) → t ≡ true → pair_at {f = f} {g = g} a b t e
          ≡ Some (record { left = a; right = b; may_pair = p })
      at true e h = ap (λ (m : Lawful f.ops → Lawful g.ops → may_pair f.ops g.ops a b ≡ true). Some
          (let r : Pair A B f g = record { left = a; right = b; may_pair = m } in r)) (shared_prop a b (λ law too. e) p)
      at false e h = absurd cc

  pub pair_none : (a : A) (b : B) → may_pair f.ops g.ops a b ≡ false → pair_of {f = f} {g = g} a b ≡ None
  pair_none a b p = at _ refl
    where
      at : (t : Bool) (e : may_pair f.ops g.ops a b ≡ t) → pair_at {f = f} {g = g} a b t e ≡ None
      at true e = absurd cc
      at false e = refl

module _ {A B : Type 0} (f : Ghosts A) (g : Ghosts B) (law : Lawful f.ops) (too : Lawful g.ops) where
  abbrev pub HoldsPair : ℤ → Pair A B f g → Type 0
  HoldsPair z p = IsTrue (holds_of p z)

  -- both parts are single
  abbrev pub BothSingle : ℤ → Pair A B f g → Type 0
  BothSingle v p = IsSingle f.ops p.left v × IsSingle g.ops p.right v

  -- ---- a pair of two values

  pub common_holds : (a : A) (b : B) (z : ℤ) → Holds f.ops a z → Holds g.ops b z →
      LiesIn (common_range f.ops g.ops a b) z
  common_holds = shared.common_holds f.ops g.ops law too

  pub pair_holds : (a : A) (b : B) (z : ℤ) → Holds f.ops a z → Holds g.ops b z →
      IsSomeAnd (pair_of {f = f} {g = g} a b) (λ p. (p.left ≡ a) × (p.right ≡ b))
  pair_holds a b z p q = by_test _ refl (held_shared f.ops g.ops law too a b z p q)
    where
      by_test : (t : Bool) (e : may_pair f.ops g.ops a b ≡ t) → t ≡ true →
          IsSomeAnd (pair_at {f = f} {g = g} a b t e) (λ p. (p.left ≡ a) × (p.right ≡ b))
      by_test true e h = (refl, refl)
      by_test false e h = absurd cc

  pub pair_parts : (a : A) (b : B) → IfSome (pair_of {f = f} {g = g} a b) (λ p. (p.left ≡ a) × (p.right ≡ b))
  pair_parts a b = by_test _ refl
    where
      by_test : (t : Bool) (e : may_pair f.ops g.ops a b ≡ t) →
          IfSome (pair_at {f = f} {g = g} a b t e) (λ p. (p.left ≡ a) × (p.right ≡ b))
      by_test true e = (refl, refl)
      by_test false e = tt

  -- a range of one number: both parts hold it
  pub single_holds : (p : Pair A B f g) (v : ℤ) → range_of p ≡ pair v v → Holds f.ops p.left v × Holds g.ops p.right v
  single_holds p v e = shared_single f.ops g.ops law too p.left p.right v (p.may_pair law too) e

  both_single_range : (p : Pair A B f g) (v : ℤ) → BothSingle v p → range_of p ≡ pair v v
  both_single_range p v h = ap (λ r. common_part r (g.ops.range p.right)) h.0 ∙ ap (common_part (pair v v)) h.1
      ∙ at_one v
    where
      at_one : (v : ℤ) → common_part (pair v v) (pair v v) ≡ pair v v
      at_one v = same_pair _ _ _ _ (omega (arith, ints, clamps)) (omega (arith, ints, clamps))

  pub single_range : (p : Pair A B f g) (v : ℤ) → BothSingle v p → range_of p ≡ pair v v
  single_range = both_single_range

  pub range_ends : (p : Pair A B f g) → IsRange (range_of p).0 (range_of p).1
  range_ends p = shared_ends f.ops g.ops law too p.left p.right (p.may_pair law too)

  -- ---- edges and cuts

  pub edges_enclose : (a : A) (b : B) (r : ℤ × ℤ) (z : ℤ) → Holds f.ops a z → Holds g.ops b z → LiesIn r z →
      IsSomeAnd (edges_between f.ops g.ops a b r) (λ e. LiesIn e z)
  edges_enclose a b r z p q h =
      then_some (λ e. LiesIn e z) (λ e. LiesIn e z) (f.ops.edges a r.0 r.1) (λ s. g.ops.edges b s.0 s.1)
      (law.edges_enclose a r.0 r.1 z p (record { low = h.low; high = h.high }))
      (λ s k. too.edges_enclose b s.0 s.1 z q (record { low = k.low; high = k.high }))

  pub edges_inside : (a : A) (b : B) (r : ℤ × ℤ) →
      IfSome (edges_between f.ops g.ops a b r) (λ e. (e.0 ≤ℤ e.1) × Encloses r e)
  edges_inside a b r =
      then_if (λ e. (e.0 ≤ℤ e.1) × Encloses (pair r.0 r.1) e) (λ e. (e.0 ≤ℤ e.1) × Encloses r e)
      (f.ops.edges a r.0 r.1) (λ s. g.ops.edges b s.0 s.1)
      (law.edges_inside a r.0 r.1) (λ s k. inner s k (g.ops.edges b s.0 s.1) (too.edges_inside b s.0 s.1))
    where
      inner : (s : ℤ × ℤ) → (s.0 ≤ℤ s.1) × Encloses (pair r.0 r.1) s → (o : Option (ℤ × ℤ)) →
          IfSome o (λ e. (e.0 ≤ℤ e.1) × Encloses (pair s.0 s.1) e) → IfSome o (λ e. (e.0 ≤ℤ e.1) × Encloses r e)
      inner s k None h = tt
      inner s k (Some e) h = (
        h.0,
        record
            { low = le_trans _ _ _ k.1.low h.1.low; high = le_trans _ _ _ h.1.high k.1.high },
      )

  pub common_edges_ends : (a : A) (b : B) → IfSome (common_edges f.ops g.ops a b) (λ e. IsRange e.0 e.1)
  common_edges_ends a b = at _ (edges_inside a b (common_range f.ops g.ops a b))
    where
      at : (o : Option (ℤ × ℤ)) → IfSome o (λ e. (e.0 ≤ℤ e.1) × Encloses (common_range f.ops g.ops a b) e) →
          IfSome o (λ e. IsRange e.0 e.1)
      at None h = tt
      at (Some e) h =
          let i = law.range_ends a in let p = i.above in let q = i.below in let k = h.1.low in let l = h.1.high in
          record { above = omega (arith, ints, clamps); ordered = h.0; below = omega (arith, ints, clamps) }

  -- what a cut of either part keeps, of a number that both hold
  cut_holds : (P : A → Type 0) (Q : B → Type 0) (a : A) (b : B) (r : ℤ × ℤ) (z : ℤ) → Holds f.ops a z →
      Holds g.ops b z → LiesIn r z →
      IfSome (f.ops.cut a r.0 r.1) P → IfSome (g.ops.cut b r.0 r.1) Q →
      IsSomeAnd (cut_to {f = f} {g = g} a b r) (λ p. HoldsPair z p × P p.left × Q p.right)
  cut_holds P Q a b r z p q h k l =
      then_some (λ x. Holds f.ops x z × P x) _ (f.ops.cut a r.0 r.1) _
      (both_if (λ x. Holds f.ops x z) P (f.ops.cut a r.0 r.1)
      (law.cut_holds a r.0 r.1 z p (record { low = h.low; high = h.high })) k)
      (λ x i. then_some (λ y. Holds g.ops y z × Q y) _ (g.ops.cut b r.0 r.1) _
      (both_if (λ y. Holds g.ops y z) Q (g.ops.cut b r.0 r.1)
      (too.cut_holds b r.0 r.1 z q (record { low = h.low; high = h.high })) l)
      (λ y j. of_pair x y i j (pair_of x y) (pair_holds x y z i.0 j.0)))
    where
      of_pair : (x : A) (y : B) → Holds f.ops x z × P x → Holds g.ops y z × Q y → (o : Option (Pair A B f g)) →
          IsSomeAnd o (λ p. (p.left ≡ x) × (p.right ≡ y)) → IsSomeAnd o (λ p. HoldsPair z p × P p.left × Q p.right)
      of_pair x y i j None h = absurd h
      of_pair x y i j (Some p) h = (
        and_from _ _ (subst (λ x. Holds f.ops x z) (sym h.0) i.0)
            (subst (λ y. Holds g.ops y z) (sym h.1) j.0),
        subst P (sym h.0) i.1,
        subst Q (sym h.1) j.1,
      )

  pub cut_keeps : (P : A → Type 0) (Q : B → Type 0) (a : A) (b : B) (r : ℤ × ℤ) → IfSome (f.ops.cut a r.0 r.1) P →
      IfSome (g.ops.cut b r.0 r.1) Q →
      IfSome (cut_to {f = f} {g = g} a b r) (λ p. P p.left × Q p.right)
  cut_keeps P Q a b r k l =
      then_if P (λ p. P p.left × Q p.right) (f.ops.cut a r.0 r.1) _ k
      (λ x i. then_if Q (λ p. P p.left × Q p.right) (g.ops.cut b r.0 r.1) _ l
      (λ y j. of_pair x y i j (pair_of x y) (pair_parts x y)))
    where
      of_pair : (x : A) (y : B) → P x → Q y → (o : Option (Pair A B f g)) →
          IfSome o (λ p. (p.left ≡ x) × (p.right ≡ y)) → IfSome o (λ p. P p.left × Q p.right)
      of_pair x y i j None h = tt
      of_pair x y i j (Some p) h = (subst P (sym h.0) i, subst Q (sym h.1) j)

  -- ---- narrowing

  pub cut_keeps_number : (a : A) (b : B) (r : ℤ × ℤ) (z : ℤ) → Holds f.ops a z → Holds g.ops b z → LiesIn r z →
      IsSomeAnd (cut_to {f = f} {g = g} a b r) (HoldsPair z)
  cut_keeps_number a b r z p q h =
      weaken (λ p. HoldsPair z p × Unit {0} × Unit {0}) (HoldsPair z) (cut_to a b r)
      (cut_holds (λ x. Unit {0}) (λ x. Unit {0}) a b r z p q h
      (always (λ x. Unit {0}) (f.ops.cut a r.0 r.1) (λ x. tt))
      (always (λ x. Unit {0}) (g.ops.cut b r.0 r.1) (λ x. tt))) (λ p h. h.0)

  -- it keeps each number that both hold
  pub narrowed_holds : (a : A) (b : B) (z : ℤ) → Holds f.ops a z → Holds g.ops b z →
      IsSomeAnd (narrowed {f = f} {g = g} a b) (HoldsPair z)
  narrowed_holds a b z p q =
      then_some (λ e. LiesIn e z) (HoldsPair z) (common_edges f.ops g.ops a b) (cut_to a b)
      (edges_enclose a b _ z p q (common_holds a b z p q))
      (λ e h. cut_keeps_number a b e z p q h)

  -- what each cut of a part keeps, narrowing keeps
  pub narrowed_keeps : (P : A → Type 0) (Q : B → Type 0) (a : A) (b : B) → ((l h : ℤ) → IfSome (f.ops.cut a l h) P) →
      ((l h : ℤ) → IfSome (g.ops.cut b l h) Q) →
      IfSome (narrowed {f = f} {g = g} a b) (λ p. P p.left × Q p.right)
  narrowed_keeps P Q a b k l =
      then_if (λ e. Unit {0}) (λ p. P p.left × Q p.right) (common_edges f.ops g.ops a b) (cut_to a b)
      (always (λ e. Unit {0}) (common_edges f.ops g.ops a b) (λ e. tt))
      (λ e h. cut_keeps P Q a b e (k e.0 e.1) (l e.0 e.1))

  -- what the cuts of both parts keep, where the ranges have one number in common
  pub edges_single : (a : A) (b : B) (v : ℤ) → Holds f.ops a v → Holds g.ops b v → common_range f.ops g.ops a b
      ≡ pair v v → IsSomeAnd (common_edges f.ops g.ops a b)
      (λ r. IsSomeAnd (cut_to {f = f} {g = g} a b r) (BothSingle v))
  edges_single a b v p q e =
      weaken (λ r. LiesIn r v × ((r.0 ≤ℤ r.1) × Encloses (common_range f.ops g.ops a b) r))
      (λ r. IsSomeAnd (cut_to {f = f} {g = g} a b r) (BothSingle v)) (common_edges f.ops g.ops a b)
      (both_if (λ r. LiesIn r v) (λ r. (r.0 ≤ℤ r.1) × Encloses (common_range f.ops g.ops a b) r)
      (common_edges f.ops g.ops a b) (edges_enclose a b _ v p q (common_holds a b v p q)) (edges_inside a b _))
      (λ r h. at_range r (same_ends r v h.0 (subst (λ s. Encloses s r) e h.1.1)))
    where
      drop : (o : Option (Pair A B f g)) →
          IsSomeAnd o (λ p. HoldsPair v p × IsSingle f.ops p.left v × IsSingle g.ops p.right v) →
          IsSomeAnd o (BothSingle v)
      drop None h = h
      drop (Some p) h = (h.1, h.2)

      at_range : (r : ℤ × ℤ) → r ≡ pair v v → IsSomeAnd (cut_to {f = f} {g = g} a b r) (BothSingle v)
      at_range r d =
          subst (λ s. IsSomeAnd (cut_to {f = f} {g = g} a b s) (BothSingle v)) (sym d)
          (drop (cut_to a b (pair v v))
          (cut_holds (λ x. IsSingle f.ops x v) (λ y. IsSingle g.ops y v) a b (pair v v) v p q
          (record { low = le_self v; high = le_self v }) (law.cut_place a v) (too.cut_place b v)))

  -- where the ranges have one number in common, which both hold, both parts are then single
  pub narrowed_single : (a : A) (b : B) (v : ℤ) → Holds f.ops a v → Holds g.ops b v → common_range f.ops g.ops a b
      ≡ pair v v → IsSomeAnd (narrowed {f = f} {g = g} a b) (BothSingle v)
  narrowed_single a b v p q e =
      then_some (λ r. IsSomeAnd (cut_to {f = f} {g = g} a b r) (BothSingle v)) (BothSingle v)
      (common_edges f.ops g.ops a b) (cut_to a b) (edges_single a b v p q e) (λ r h. h)

  pub narrowed_both_holds : (o : Option A) (k : Option B) (z : ℤ) → IsSomeAnd o (λ a. Holds f.ops a z) →
      IsSomeAnd k (λ b. Holds g.ops b z) → IsSomeAnd (narrowed_both {f = f} {g = g} o k) (HoldsPair z)
  narrowed_both_holds None k z h l = absurd h
  narrowed_both_holds (Some a) None z h l = absurd l
  narrowed_both_holds (Some a) (Some b) z h l = narrowed_holds a b z h l

  -- two single parts stay single
  pub singles_narrowed : (a : A) (b : B) (v : ℤ) → IsSingle f.ops a v → IsSingle g.ops b v →
      IsSomeAnd (narrowed {f = f} {g = g} a b) (BothSingle v)
  singles_narrowed a b v p q =
      narrowed_single a b v (law.range_single a v p) (too.range_single b v q)
      (ap (λ r. common_part r (g.ops.range b)) p ∙ ap (common_part (pair v v)) q ∙ at_one v)
    where
      at_one : (v : ℤ) → common_part (pair v v) (pair v v) ≡ pair v v
      at_one v = same_pair _ _ _ _ (omega (arith, ints, clamps)) (omega (arith, ints, clamps))
