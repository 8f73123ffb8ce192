-- The reduced product of two lawful domains is a lawful domain.
use Rattle.std.specs.Prelude.{◌≡◌, ℕ, ℤ, ◌≤ℤ◌, ◌<ℤ◌, ◌⊎◌, Bool, true, false, cond, Option, Some, None, IsTrue, IfSome}
use Rattle.std.specs.Prelude.{IsSomeAnd, Result, Ok, Err, MatchResult, refl}
use Rattle.std.specs.Option.{option_and_then, unwrap_or}
use Rattle.std.proofs.Common.{arith, ap, sym, ◌∙◌, subst}
use Rattle.std.proofs.lemmas.Int.{ints, clamps}
use Rattle.std.proofs.lemmas.Bool.{and_parts, and_from}
use Rattle.ep_int.specs.declared.types.IntType.{IntType}
use Rattle.ep_int.specs.declared.types.BinOp.{BinOp}
use Rattle.ep_int.specs.declared.types.Undef.{Undef}
use Rattle.ep_int.specs.Types.{InRange, wrapped}
use Rattle.ep_int.specs.Arith.{int_eq, IsOfSomeType, arith_of}
use Rattle.ep_range_laws.specs.Ranges.{LiesIn, Encloses}
use Rattle.ep_range_laws.specs.Faults.{Takes}
use Rattle.ep_domain.specs.Domain.{Holds, IsSingle, ShowsPart, Lawful}
use Rattle.ep_domain.specs.Common.{common_part, sum_of_ranks}
use Rattle.ep_domain.specs.declared.num.Num.{Ghosts}
use Rattle.ep_domain.specs.declared.pair.Pair.{Pair}
use Rattle.ep_domain.specs.Pairs.{holds_of, range_of, tops, top_of, singles, single_at, single_of, is_within}
use Rattle.ep_domain.specs.Pairs.{narrowed, narrowed_both, narrowed_pair, join_of, settled, converted, conversion_of}
use Rattle.ep_domain.specs.Pairs.{outcome_of, edges_of, cut_pair, cut_of}
use Rattle.ep_domain.specs.PairDomain.{pair_ops}
use Rattle.ep_range_laws.proofs.Comparisons.{le_antisym}
use Rattle.ep_range_laws.proofs.Options.{then_some, then_none, default_holds, to_if, weaken}
use Rattle.ep_domain.specs.Laws.Shared.{pair, common_lies, eq_true, nearest_of_some_type, nearest_same, common_encloses}
use Rattle.ep_domain.specs.Laws.Narrowed.{HoldsPair, BothSingle, common_holds, single_holds, single_range, range_ends}
use Rattle.ep_domain.specs.Laws.Narrowed.{edges_enclose, edges_inside, narrowed_holds, narrowed_both_holds}
use Rattle.ep_domain.specs.Laws.Narrowed.{singles_narrowed}
use Rattle.ep_domain.specs.Laws.PairTops.{single_is_there}
use Rattle.ep_domain.specs.Laws.PairWidening.{widen_left, widen_right, widen_range_left, widen_range_right}
use Rattle.ep_domain.specs.Laws.PairWidening.{widen_changes, widen_falls, rank_bound}
use Rattle.ep_domain.specs.Laws.PairOperators.{outcome_holds, outcome_faults, outcome_shows, outcome_single}
use Rattle.ep_domain.specs.Laws.PairOperators.{filter_holds, filter_single, narrowed_has, narrowed_to_single}
use Rattle.ep_domain.specs.Laws.PairStrides.{pair_strides, stride_holds, stride_divides}

module _ {A B : Type 0} (f : Ghosts A) (g : Ghosts B) (law : Lawful f.ops) (too : Lawful g.ops) where
  top_holds : (t : IntType) (z : ℤ) → InRange t z → IsTrue (holds_of (top_of {f = f} {g = g} t) z)
  top_holds t z i =
      default_holds (HoldsPair f g law too z) (narrowed (f.ops.top t) (g.ops.top t)) (tops t)
      (narrowed_holds f g law too _ _ z (law.top_holds t z i) (too.top_holds t z i))

  single_parts : (v : ℤ) → IsOfSomeType v → BothSingle f g law too v (single_of {f = f} {g = g} v)
  single_parts v h = subst (λ w. BothSingle f g law too w (single_of {f = f} {g = g} v)) (nearest_same v h)
      (at_nearest _ (nearest_of_some_type v))
    where
      at_nearest : (w : ℤ) (i : IsOfSomeType w) → BothSingle f g law too w (single_at {f = f} {g = g} w i)
      at_nearest w i = default_holds (BothSingle f g law too w) (narrowed (f.ops.single w) (g.ops.single w))
          (singles w i) (single_is_there f g law too w i)

  parts_hold : (p : Pair A B f g) (v : ℤ) → BothSingle f g law too v p → IsTrue (holds_of p v)
  parts_hold p v h = and_from _ _ (law.range_single p.left v h.0) (too.range_single p.right v h.1)

  range_encloses : (p : Pair A B f g) (z : ℤ) → IsTrue (holds_of p z) → LiesIn (range_of p) z
  range_encloses p z h = let k = and_parts _ _ h in common_holds f g law too p.left p.right z k.0 k.1

  single_only : (v z : ℤ) → IsOfSomeType v → IsTrue (holds_of (single_of {f = f} {g = g} v) z) → z ≡ v
  single_only v z h k =
      let i = subst (λ r. LiesIn r z) (single_range f g law too (single_of {f = f} {g = g} v) v (single_parts v h))
      (range_encloses (single_of {f = f} {g = g} v) z k) in
      le_antisym z v i.high i.low

  within_range : (p q : Pair A B f g) → IsTrue (is_within p q) → Encloses (range_of q) (range_of p)
  within_range p q h = let k = and_parts _ _ h in
      common_encloses _ _ _ _ (law.within_range p.left q.left k.0) (too.within_range p.right q.right k.1)

  within_holds : (p q : Pair A B f g) (z : ℤ) → IsTrue (is_within p q) → IsTrue (holds_of p z) → IsTrue (holds_of q z)
  within_holds p q z h k =
      let i = and_parts _ _ h in let j = and_parts _ _ k in
      and_from _ _ (law.within_holds p.left q.left z i.0 j.0) (too.within_holds p.right q.right z i.1 j.1)

  joined_holds : (p q : Pair A B f g) (z : ℤ) → Holds f.ops (f.ops.join p.left q.left) z →
      Holds g.ops (g.ops.join p.right q.right) z → IsTrue (holds_of (join_of p q) z)
  joined_holds p q z h k = default_holds (HoldsPair f g law too z)
      (narrowed (f.ops.join p.left q.left) (g.ops.join p.right q.right)) p (narrowed_holds f g law too _ _ z h k)

  join_left : (p q : Pair A B f g) (z : ℤ) → IsTrue (holds_of p z) → IsTrue (holds_of (join_of p q) z)
  join_left p q z h = let k = and_parts _ _ h in joined_holds p q z (law.join_left _ _ z k.0) (too.join_left _ _ z k.1)

  join_right : (p q : Pair A B f g) (z : ℤ) → IsTrue (holds_of q z) → IsTrue (holds_of (join_of p q) z)
  join_right p q z h = let k = and_parts _ _ h in
      joined_holds p q z (law.join_right _ _ z k.0) (too.join_right _ _ z k.1)

  meet_holds : (p q : Pair A B f g) (z : ℤ) → IsTrue (holds_of p z) → IsTrue (holds_of q z) →
      IsSomeAnd (narrowed_both {f = f} {g = g} (f.ops.meet p.left q.left) (g.ops.meet p.right q.right))
      (λ c. IsTrue (holds_of c z))
  meet_holds p q z h k =
      let i = and_parts _ _ h in let j = and_parts _ _ k in
      narrowed_both_holds f g law too _ _ z (law.meet_holds p.left q.left z i.0 j.0)
      (too.meet_holds p.right q.right z i.1 j.1)

  -- ---- conversion

  settled_holds : (p : Pair A B f g) (z : ℤ) → IsTrue (holds_of p z) → IsTrue (holds_of (settled p) z)
  settled_holds p z h = at (int_eq (range_of p).0 (range_of p).1)
    where
      at : (t : Bool) → IsTrue (holds_of (cond t (unwrap_or (narrowed_pair p) p) p) z)
      at true = default_holds (HoldsPair f g law too z) (narrowed_pair p) p (narrowed_has f g law too p z h)
      at false = h

  conversion_holds : (p : Pair A B f g) (t : IntType) (z : ℤ) → IsTrue (holds_of p z) →
      IsTrue (holds_of (conversion_of p t) (wrapped t z))
  conversion_holds p t z h =
      let k = and_parts _ _ (settled_holds p z h) in
      default_holds (HoldsPair f g law too (wrapped t z)) (converted (settled p) t) p
      (narrowed_holds f g law too _ _ (wrapped t z) (law.convert_holds (settled p).left t z k.0)
      (too.convert_holds (settled p).right t z k.1))

  settled_single : (p : Pair A B f g) (v : ℤ) → range_of p ≡ pair v v → BothSingle f g law too v (settled p)
  settled_single p v e = at (int_eq (range_of p).0 (range_of p).1)
      (eq_true _ _ (ap (λ (r : ℤ × ℤ). r.0) e ∙ sym (ap (λ (r : ℤ × ℤ). r.1) e)))
    where
      at : (t : Bool) → t ≡ true → BothSingle f g law too v (cond t (unwrap_or (narrowed_pair p) p) p)
      at true h = default_holds (BothSingle f g law too v) (narrowed_pair p) p (narrowed_to_single f g law too p v e)
      at false h = absurd cc

  conversion_single : (p : Pair A B f g) (t : IntType) (v : ℤ) → range_of p ≡ pair v v → range_of (conversion_of p t)
      ≡ pair (wrapped t v) (wrapped t v)
  conversion_single p t v e =
      let s = settled_single p v e in
      single_range f g law too (conversion_of p t) (wrapped t v)
      (default_holds (BothSingle f g law too (wrapped t v)) (converted (settled p) t) p
      (singles_narrowed f g law too _ _ (wrapped t v) (law.convert_single (settled p).left t v s.0)
      (too.convert_single (settled p).right t v s.1)))

  -- ---- edges and cuts

  pub edges_of_inside : (p : Pair A B f g) (lo hi : ℤ) →
      IfSome (edges_of p lo hi) (λ e. (e.0 ≤ℤ e.1) × Encloses (pair lo hi) e)
  edges_of_inside p lo hi = at _ (edges_inside f g law too p.left p.right (common_part (range_of p) (pair lo hi)))
    where
      at : (o : Option (ℤ × ℤ)) → IfSome o (λ e. (e.0 ≤ℤ e.1) × Encloses (common_part (range_of p) (pair lo hi)) e) →
          IfSome o (λ e. (e.0 ≤ℤ e.1) × Encloses (pair lo hi) e)
      at None h = tt
      at (Some e) h = let a = h.1.low in let b =
          h.1.high in (h.0, record { low = omega (arith, ints, clamps); high = omega (arith, ints, clamps) })

  edges_of_enclose : (p : Pair A B f g) (lo hi z : ℤ) → IsTrue (holds_of p z) → LiesIn (pair lo hi) z →
      IsSomeAnd (edges_of p lo hi) (λ e. LiesIn e z)
  edges_of_enclose p lo hi z h k =
      let i = and_parts _ _ h in
      edges_enclose f g law too p.left p.right _ z i.0 i.1 (common_lies _ _ z (range_encloses p z h) k)

  cut_holds : (p : Pair A B f g) (lo hi z : ℤ) → IsTrue (holds_of p z) → LiesIn (pair lo hi) z →
      IsSomeAnd (cut_of p lo hi) (λ c. IsTrue (holds_of c z))
  cut_holds p lo hi z h k =
      then_some (HoldsPair f g law too z) (HoldsPair f g law too z) (narrowed_pair p) (cut_pair lo hi)
      (narrowed_has f g law too p z h)
      (λ c i. let j = and_parts _ _ i in
      narrowed_both_holds f g law too _ _ z (law.cut_holds c.left lo hi z j.0 k)
      (too.cut_holds c.right lo hi z j.1 k))

  both_at : (o : Option A) (n : Option B) (v : ℤ) → IfSome o (λ a. IsSingle f.ops a v) →
      IfSome n (λ b. IsSingle g.ops b v) → IfSome (narrowed_both {f = f} {g = g} o n) (λ c. range_of c ≡ pair v v)
  both_at None n v h k = tt
  both_at (Some a) None v h k = tt
  both_at (Some a) (Some b) v h k =
      to_if (λ c. range_of {f = f} {g = g} c ≡ pair v v) (narrowed {f = f} {g = g} a b)
      (weaken (BothSingle f g law too v) (λ c. range_of {f = f} {g = g} c ≡ pair v v) (narrowed {f = f} {g = g} a b)
      (singles_narrowed f g law too a b v h k) (λ c i. single_range f g law too c v i))

  cut_place : (p : Pair A B f g) (v : ℤ) → IfSome (cut_of p v v) (λ c. range_of c ≡ pair v v)
  cut_place p v = at (narrowed_pair p)
    where
      at : (o : Option (Pair A B f g)) → IfSome (option_and_then (cut_pair v v) o) (λ c. range_of c ≡ pair v v)
      at None = tt
      at (Some c) = both_at (f.ops.cut c.left v v) (g.ops.cut c.right v v) v (law.cut_place c.left v)
          (too.cut_place c.right v)

  cut_single : (p : Pair A B f g) (lo hi v : ℤ) → range_of p ≡ pair v v → LiesIn (pair lo hi) v →
      IsSomeAnd (cut_of p lo hi) (λ c. range_of c ≡ pair v v)
  cut_single p lo hi v e k =
      then_some (BothSingle f g law too v) (λ c. range_of c ≡ pair v v) (narrowed_pair p) (cut_pair lo hi)
      (narrowed_to_single f g law too p v e)
      (λ c h. both (f.ops.cut c.left lo hi) (g.ops.cut c.right lo hi) (law.cut_single c.left lo hi v h.0 k)
      (too.cut_single c.right lo hi v h.1 k))
    where
      both : (o : Option A) (n : Option B) → IsSomeAnd o (λ a. IsSingle f.ops a v) →
          IsSomeAnd n (λ b. IsSingle g.ops b v) →
          IsSomeAnd (narrowed_both {f = f} {g = g} o n) (λ c. range_of c ≡ pair v v)
      both None n h k = absurd h
      both (Some a) None h k = absurd k
      both (Some a) (Some b) h k = weaken (BothSingle f g law too v) (λ c. range_of {f = f} {g = g} c ≡ pair v v)
          (narrowed {f = f} {g = g} a b) (singles_narrowed f g law too a b v h k)
          (λ c i. single_range f g law too c v i)

  cut_single_away : (p : Pair A B f g) (lo hi v : ℤ) → range_of p ≡ pair v v → (v <ℤ lo) ⊎ (hi <ℤ v) → cut_of p lo hi
      ≡ None
  cut_single_away p lo hi v e k =
      then_none (BothSingle f g law too v) (narrowed_pair p) (cut_pair lo hi)
      (to_if (BothSingle f g law too v) (narrowed_pair p) (narrowed_to_single f g law too p v e))
      (λ c h. none (f.ops.cut c.left lo hi) (g.ops.cut c.right lo hi) (law.cut_single_away c.left lo hi v h.0 k))
    where
      none : (o : Option A) (n : Option B) → o ≡ None → narrowed_both {f = f} {g = g} o n ≡ None
      none None n h = refl
      none (Some a) n h = absurd cc

  shows : (o : BinOp) (t : IntType) (p q : Pair A B f g) → IsTrue (outcome_of o t p q).fault →
      ShowsPart (pair_ops {f = f} {g = g}) o t p q (outcome_of o t p q).shown
  shows o t p q e =
      let s = outcome_shows f g law too o t p q e in
      record {
        left = s.left;
        right = s.right;
        left_inside = s.left_inside;
        right_inside = s.right_inside;
        left_has = λ z i. s.left_has z;
        right_has = λ z i. s.right_has z;
        shows = s.shows;
      }

  op_single : (o : BinOp) (t : IntType) (p q : Pair A B f g) (x y : ℤ) → Takes o t x y → range_of p ≡ pair x x →
      range_of q ≡ pair y y →
      MatchResult (arith_of o t x y) (λ v. IsSomeAnd (outcome_of o t p q).value (λ c. range_of c ≡ pair v v))
      (λ _. (outcome_of o t p q).value ≡ None)
  op_single o t p q x y i h k = at (arith_of o t x y) (outcome_single f g law too o t p q x y i h k)
    where
      at : (w : Result ℤ Undef) → MatchResult w (λ v. IsSomeAnd (outcome_of o t p q).value (BothSingle f g law too v))
          (λ _. (outcome_of o t p q).value ≡ None) →
          MatchResult w (λ v. IsSomeAnd (outcome_of o t p q).value (λ c. range_of c ≡ pair v v))
          (λ _. (outcome_of o t p q).value ≡ None)
      at (Ok v) h = weaken (BothSingle f g law too v) (λ c. range_of c ≡ pair v v) (outcome_of o t p q).value h
          (λ c j. single_range f g law too c v j)
      at (Err u) h = h

  pub pair_lawful : Lawful (pair_ops {f = f} {g = g})
  pair_lawful = record {
    top_holds = top_holds;
    single_holds = λ v h. parts_hold (single_of {f = f} {g = g} v) v (single_parts v h);
    single_only = single_only;
    single_range = λ v h. single_range f g law too (single_of {f = f} {g = g} v) v (single_parts v h);
    range_ends = range_ends f g law too;
    range_encloses = range_encloses;
    range_single = λ p v e. let h = single_holds f g law too p v e in and_from _ _ h.0 h.1;
    within_holds = within_holds;
    within_range = within_range;
    join_left = join_left;
    join_right = join_right;
    widen_left = widen_left f g law too;
    widen_right = widen_right f g law too;
    widen_range_left = widen_range_left f g law too;
    widen_range_right = widen_range_right f g law too;
    widen_changes = λ p q h n. widen_changes f g law too h p q n;
    widen_falls = λ p q h e. widen_falls f g law too h p q e;
    rank_bound = rank_bound f g law too;
    meet_holds = meet_holds;
    op_holds = outcome_holds f g law too;
    op_faults = outcome_faults f g law too;
    op_shows = shows;
    op_single = op_single;
    convert_holds = conversion_holds;
    convert_single = conversion_single;
    filter_holds = filter_holds f g law too;
    filter_single = filter_single f g law too;
    edges_inside = edges_of_inside;
    edges_enclose = edges_of_enclose;
    cut_holds = cut_holds;
    cut_place = cut_place;
    cut_single = cut_single;
    cut_single_away = cut_single_away;
    stride_holds = stride_holds f g law too;
    stride_divides = stride_divides f g law too;
    strides = pair_strides f g law too;
  }

pub pair_laws : {A B : Type 0} {f : Ghosts A} {g : Ghosts B} (law : Lawful f.ops) (too : Lawful g.ops) →
    Lawful (pair_ops {f = f} {g = g})
pair_laws {f = f} {g = g} law too = pair_lawful f g law too

pub pair_height : {a b h k : ℕ} → a ≡ h → b ≡ k → sum_of_ranks a b ≡ sum_of_ranks h k
pair_height {b = b} {h = h} e d = ap (λ n. sum_of_ranks n b) e ∙ ap (sum_of_ranks h) d
