-- The laws of operators and comparisons of pairs.
use Rattle.std.specs.Prelude.{◌≡◌, ℤ, pos, ◌≤ℤ◌, true, false, ◌&&◌, Option, Some, None, Result, Ok, Err, IsTrue}
use Rattle.std.specs.Prelude.{IfSome, IsSomeAnd, MatchResult, is_some, is_err, refl}
use Rattle.std.specs.Option.{option_zip, unwrap_or}
use Rattle.std.proofs.Common.{ap}
use Rattle.std.proofs.lemmas.Bool.{and_parts, and_from}
use Rattle.ep_int.specs.declared.types.IntType.{IntType}
use Rattle.ep_int.specs.declared.types.BinOp.{BinOp}
use Rattle.ep_int.specs.declared.types.Cmp.{Cmp}
use Rattle.ep_int.specs.declared.types.Undef.{Undef}
use Rattle.ep_int.specs.Arith.{arith_of, compares}
use Rattle.ep_range_laws.specs.Ranges.{IsRange, LiesIn, Encloses}
use Rattle.ep_range_laws.specs.Faults.{Takes, MayFault, range_fault_of}
use Rattle.ep_domain.specs.Domain.{Holds, IsSingle, Lawful}
use Rattle.ep_domain.specs.Common.{common_edges}
use Rattle.ep_domain.specs.declared.num.Num.{Ghosts}
use Rattle.ep_domain.specs.declared.outcome.Outcome.{Outcome}
use Rattle.ep_domain.specs.declared.pair.Pair.{Pair}
use Rattle.ep_domain.specs.Pairs.{holds_of, range_of, cut_to, narrowed, narrowed_both, narrowed_pair, outcome_between}
use Rattle.ep_domain.specs.Pairs.{outcome_at, outcome_of, pairs_of, filter_between, filter_of}
use Rattle.ep_range_laws.proofs.Comparisons.{le_trans}
use Rattle.ep_range_laws.proofs.RangeFaults.{fault_is_found, fault_is_shown}
use Rattle.ep_domain.specs.Laws.Shared.{pair}
use Rattle.ep_domain.specs.Laws.Narrowed.{BothSingle, single_holds, range_ends, common_holds, edges_enclose}
use Rattle.ep_domain.specs.Laws.Narrowed.{edges_inside, edges_single, cut_keeps_number, narrowed_holds}
use Rattle.ep_domain.specs.Laws.Narrowed.{narrowed_single, narrowed_both_holds, singles_narrowed}

module _ {A B : Type 0} (f : Ghosts A) (g : Ghosts B) (law : Lawful f.ops) (too : Lawful g.ops) where
  Has : ℤ → Pair A B f g → Type 0
  Has z p = IsTrue (holds_of p z)

  -- what narrowing says of the common range of a value
  record Edges (p : Pair A B f g) (e : Option (ℤ × ℤ)) : Type 0 where
    inside : IfSome e (λ r. (r.0 ≤ℤ r.1) × Encloses (range_of p) r)
    each : (z : ℤ) → IsTrue (holds_of p z) → IsSomeAnd e (λ r. LiesIn r z)

  edges_of_pair : (p : Pair A B f g) → Edges p (common_edges f.ops g.ops p.left p.right)
  edges_of_pair p = record {
    inside = edges_inside f g law too p.left p.right _;
    each = λ z h. let k = and_parts _ _ h in
        edges_enclose f g law too p.left p.right _ z k.0 k.1 (common_holds f g law too p.left p.right z k.0 k.1);
  }

  cut_has : (p : Pair A B f g) (r : ℤ × ℤ) (z : ℤ) → IsTrue (holds_of p z) → LiesIn r z →
      IsSomeAnd (cut_to {f = f} {g = g} p.left p.right r) (λ c. IsTrue (holds_of c z))
  cut_has p r z h i = let k = and_parts _ _ h in cut_keeps_number f g law too p.left p.right r z k.0 k.1 i

  -- ---- each result is held, or there is a fault

  module _ (o : BinOp) (t : IntType) where
    between_holds : (x y : ℤ) → Takes o t x y → (r s : ℤ × ℤ) → LiesIn r x → LiesIn s y →
        (po qo : Option (Pair A B f g)) → IsSomeAnd po (λ c. IsTrue (holds_of c x)) →
        IsSomeAnd qo (λ c. IsTrue (holds_of c y)) →
        MatchResult (arith_of o t x y)
        (λ v. IsSomeAnd (outcome_between o t (range_fault_of o t r s) po qo).value (λ c. IsTrue (holds_of c v)))
        (λ _. IsTrue (outcome_between o t (range_fault_of o t r s) po qo).fault)
    between_holds x y i r s m n None qo h k = absurd h
    between_holds x y i r s m n (Some p) None h k = absurd k
    between_holds x y i r s m n (Some p) (Some q) h k =
        let a = and_parts _ _ h in let b = and_parts _ _ k in
        by_result (arith_of o t x y) refl (law.op_holds o t p.left q.left x y i a.0 b.0)
        (too.op_holds o t p.right q.right x y i a.1 b.1)
      where
        l : Outcome A
        l = f.ops.op o t p.left q.left

        u : Outcome B
        u = g.ops.op o t p.right q.right

        by_result : (w : Result ℤ Undef) → arith_of o t x y ≡ w →
            MatchResult w (λ v. IsSomeAnd l.value (λ c. Holds f.ops c v)) (λ _. IsTrue l.fault) →
            MatchResult w (λ v. IsSomeAnd u.value (λ c. Holds g.ops c v)) (λ _. IsTrue u.fault) →
            MatchResult w (λ v. IsSomeAnd (narrowed_both {f = f} {g = g} l.value u.value)
            (λ c. IsTrue (holds_of c v))) (λ _. ((l.fault && u.fault) && is_some (range_fault_of o t r s)) ≡ true)
        by_result (Ok v) e c d = narrowed_both_holds f g law too l.value u.value v c d
        by_result (Err w) e c d = and_from _ _ (and_from _ _ c d)
            (fault_is_shown o t r s (record { x = x; y = y; left = m; right = n; taken = i; undefined = ap is_err e }))

    at_holds : (p q : Pair A B f g) (x y : ℤ) → Takes o t x y → IsTrue (holds_of p x) → IsTrue (holds_of q y) →
        (eo ko : Option (ℤ × ℤ)) → IsSomeAnd eo (λ r. LiesIn r x) → IsSomeAnd ko (λ s. LiesIn s y) →
        MatchResult (arith_of o t x y) (λ v. IsSomeAnd (outcome_at o t p q eo ko).value (λ c. IsTrue (holds_of c v)))
        (λ _. IsTrue (outcome_at o t p q eo ko).fault)
    at_holds p q x y i h k None ko m n = absurd m
    at_holds p q x y i h k (Some r) None m n = absurd n
    at_holds p q x y i h k (Some r) (Some s) m n =
        between_holds x y i r s m n (cut_to p.left p.right r) (cut_to q.left q.right s) (cut_has p r x h m)
        (cut_has q s y k n)

    pub outcome_holds : (p q : Pair A B f g) (x y : ℤ) → Takes o t x y → IsTrue (holds_of p x) → IsTrue (holds_of q y) →
        MatchResult (arith_of o t x y) (λ v. IsSomeAnd (outcome_of o t p q).value (λ c. IsTrue (holds_of c v)))
        (λ _. IsTrue (outcome_of o t p q).fault)
    outcome_holds p q x y i h k = at_holds p q x y i h k _ _ ((edges_of_pair p).each x h) ((edges_of_pair q).each y k)

    -- ---- a fault and what it shows

    pub record Shown (p q : Pair A B f g) (w : Outcome (Pair A B f g)) : Type 0 where
      pub left : ℤ × ℤ
      pub right : ℤ × ℤ
      pub left_inside : Encloses (range_of p) left
      pub right_inside : Encloses (range_of q) right
      pub left_has : (z : ℤ) → IsTrue (holds_of p z) → LiesIn left z
      pub right_has : (z : ℤ) → IsTrue (holds_of q z) → LiesIn right z
      pub shows : range_fault_of o t left right ≡ Some w.shown
      pub faults : MayFault o t left right

    some_value : (r : Option (ℤ × ℤ)) → is_some r ≡ true → r ≡ Some (unwrap_or r (pos 0, pos 0))
    some_value None e = cc
    some_value (Some v) e = refl

    between_shows : (p q : Pair A B f g) (r s : ℤ × ℤ) → Edges p (Some r) → Edges q (Some s) →
        (po qo : Option (Pair A B f g)) → IsTrue (outcome_between o t (range_fault_of o t r s) po qo).fault →
        Shown p q (outcome_between o t (range_fault_of o t r s) po qo)
    between_shows p q r s h k None qo e = cc
    between_shows p q r s h k (Some c) None e = cc
    between_shows p q r s h k (Some c) (Some d) e =
        let found = (and_parts ((f.ops.op o t c.left d.left).fault && (g.ops.op o t c.right d.right).fault)
        (is_some (range_fault_of o t r s)) e).1 in
        let i = range_ends f g law too q in
        let is_range : IsRange s.0 s.1 =
        record {
          above = le_trans _ _ _ i.above k.inside.1.low;
          ordered = k.inside.0;
          below =
              le_trans _ _ _ k.inside.1.high i.below;
        } in
        record {
          left = r;
          right = s;
          left_inside = h.inside.1;
          right_inside = k.inside.1;
          left_has = h.each;
          right_has = k.each;
          shows = some_value (range_fault_of o t r s) found;
          faults = fault_is_found o t r s is_range found;
        }

    at_shows : (p q : Pair A B f g) (eo ko : Option (ℤ × ℤ)) → Edges p eo → Edges q ko →
        IsTrue (outcome_at o t p q eo ko).fault → Shown p q (outcome_at o t p q eo ko)
    at_shows p q None ko h k e = cc
    at_shows p q (Some r) None h k e = cc
    at_shows p q (Some r) (Some s) h k e =
        between_shows p q r s h k (cut_to p.left p.right r) (cut_to q.left q.right s) e

    pub outcome_shows : (p q : Pair A B f g) → IsTrue (outcome_of o t p q).fault → Shown p q (outcome_of o t p q)
    outcome_shows p q e = at_shows p q _ _ (edges_of_pair p) (edges_of_pair q) e

    inner : (r s : ℤ × ℤ) (z : ℤ) → Encloses r s → LiesIn s z → LiesIn r z
    inner r s z h k = record { low = le_trans _ _ _ h.low k.low; high = le_trans _ _ _ k.high h.high }

    pub outcome_faults : (p q : Pair A B f g) → IsTrue (outcome_of o t p q).fault →
        MayFault o t (range_of p) (range_of q)
    outcome_faults p q e =
        let s = outcome_shows p q e in let w = s.faults in
        record {
          x = w.x;
          y = w.y;
          left = inner _ _ _ s.left_inside w.left;
          right =
              inner _ _ _ s.right_inside w.right;
          taken = w.taken;
          undefined = w.undefined;
        }

    -- ---- single numbers

    Single : ℤ → Pair A B f g → Type 0
    Single v p = IsSingle f.ops p.left v × IsSingle g.ops p.right v

    between_single : (x y : ℤ) → Takes o t x y → (r : Option (ℤ × ℤ)) (po qo : Option (Pair A B f g)) →
        IsSomeAnd po (BothSingle f g law too x) → IsSomeAnd qo (BothSingle f g law too y) →
        MatchResult (arith_of o t x y) (λ v. IsSomeAnd (outcome_between o t r po qo).value (BothSingle f g law too v))
        (λ _. (outcome_between o t r po qo).value ≡ None)
    between_single x y i r None qo h k = absurd h
    between_single x y i r (Some p) None h k = absurd k
    between_single x y i r (Some p) (Some q) h k =
        by_result (arith_of o t x y) (law.op_single o t p.left q.left x y i h.0 k.0)
        (too.op_single o t p.right q.right x y i h.1 k.1)
      where
        both : (l : Option A) (u : Option B) (v : ℤ) → IsSomeAnd l (λ c. IsSingle f.ops c v) →
            IsSomeAnd u (λ c. IsSingle g.ops c v) →
            IsSomeAnd (narrowed_both {f = f} {g = g} l u) (BothSingle f g law too v)
        both None u v c d = absurd c
        both (Some a) None v c d = absurd d
        both (Some a) (Some b) v c d = singles_narrowed f g law too a b v c d

        none : (l : Option A) (u : Option B) → l ≡ None → narrowed_both {f = f} {g = g} l u ≡ None
        none None u e = refl
        none (Some a) u e = absurd cc

        by_result : (w : Result ℤ Undef) →
            MatchResult w (λ v. IsSomeAnd (f.ops.op o t p.left q.left).value (λ c. IsSingle f.ops c v))
            (λ _. (f.ops.op o t p.left q.left).value ≡ None) →
            MatchResult w (λ v. IsSomeAnd (g.ops.op o t p.right q.right).value (λ c. IsSingle g.ops c v))
            (λ _. (g.ops.op o t p.right q.right).value ≡ None) →
            MatchResult w (λ v. IsSomeAnd
            (narrowed_both {f = f} {g = g} (f.ops.op o t p.left q.left).value
            (g.ops.op o t p.right q.right).value) (BothSingle f g law too v))
            (λ _. narrowed_both {f = f} {g = g} (f.ops.op o t p.left q.left).value
            (g.ops.op o t p.right q.right).value ≡ None)
        by_result (Ok v) c d = both _ _ v c d
        by_result (Err w) c d = none _ _ c

    at_single : (p q : Pair A B f g) (x y : ℤ) → Takes o t x y → (eo ko : Option (ℤ × ℤ)) →
        IsSomeAnd eo (λ r. IsSomeAnd (cut_to {f = f} {g = g} p.left p.right r) (BothSingle f g law too x)) →
        IsSomeAnd ko (λ s. IsSomeAnd (cut_to {f = f} {g = g} q.left q.right s) (BothSingle f g law too y)) →
        MatchResult (arith_of o t x y) (λ v. IsSomeAnd (outcome_at o t p q eo ko).value (BothSingle f g law too v))
        (λ _. (outcome_at o t p q eo ko).value ≡ None)
    at_single p q x y i None ko h k = absurd h
    at_single p q x y i (Some r) None h k = absurd k
    at_single p q x y i (Some r) (Some s) h k = between_single x y i _ _ _ h k

    pub edges_to_single : (p : Pair A B f g) (v : ℤ) → range_of p ≡ pair v v →
        IsSomeAnd (common_edges f.ops g.ops p.left p.right)
        (λ r. IsSomeAnd (cut_to {f = f} {g = g} p.left p.right r) (BothSingle f g law too v))
    edges_to_single p v e = let h = single_holds f g law too p v e in
        edges_single f g law too p.left p.right v h.0 h.1 e

    pub outcome_single : (p q : Pair A B f g) (x y : ℤ) → Takes o t x y → range_of p ≡ pair x x → range_of q
        ≡ pair y y →
        MatchResult (arith_of o t x y) (λ v. IsSomeAnd (outcome_of o t p q).value (BothSingle f g law too v))
        (λ _. (outcome_of o t p q).value ≡ None)
    outcome_single p q x y i h k = at_single p q x y i _ _ (edges_to_single p x h) (edges_to_single q y k)

  -- ---- comparisons

  pairs_hold : (l : Option (A × A)) (u : Option (B × B)) (x y : ℤ) →
      IsSomeAnd l (λ c. Holds f.ops c.0 x × Holds f.ops c.1 y) →
      IsSomeAnd u (λ c. Holds g.ops c.0 x × Holds g.ops c.1 y) →
      IsSomeAnd (pairs_of {f = f} {g = g} l u) (λ c. IsTrue (holds_of c.0 x) × IsTrue (holds_of c.1 y))
  pairs_hold None u x y h k = absurd h
  pairs_hold (Some a) None x y h k = absurd k
  pairs_hold (Some a) (Some b) x y h k =
      zip (narrowed a.0 b.0) (narrowed a.1 b.1) (narrowed_holds f g law too a.0 b.0 x h.0 k.0)
      (narrowed_holds f g law too a.1 b.1 y h.1 k.1)
    where
      zip : (m n : Option (Pair A B f g)) → IsSomeAnd m (λ c. IsTrue (holds_of c x)) →
          IsSomeAnd n (λ c. IsTrue (holds_of c y)) →
          IsSomeAnd (option_zip m n) (λ c. IsTrue (holds_of c.0 x) × IsTrue (holds_of c.1 y))
      zip None n h k = absurd h
      zip (Some p) None h k = absurd k
      zip (Some p) (Some q) h k = (h, k)

  between_filters : (c : Cmp) (x y : ℤ) → compares c x y ≡ true → (po qo : Option (Pair A B f g)) →
      IsSomeAnd po (λ p. IsTrue (holds_of p x)) → IsSomeAnd qo (λ p. IsTrue (holds_of p y)) →
      IsSomeAnd (filter_between c po qo) (λ p. IsTrue (holds_of p.0 x) × IsTrue (holds_of p.1 y))
  between_filters c x y e None qo h k = absurd h
  between_filters c x y e (Some p) None h k = absurd k
  between_filters c x y e (Some p) (Some q) h k =
      let a = and_parts _ _ h in let b = and_parts _ _ k in
      pairs_hold _ _ x y (law.filter_holds c p.left q.left x y e a.0 b.0)
      (too.filter_holds c p.right q.right x y e a.1 b.1)

  pub narrowed_has : (p : Pair A B f g) (z : ℤ) → IsTrue (holds_of p z) →
      IsSomeAnd (narrowed_pair p) (λ c. IsTrue (holds_of c z))
  narrowed_has p z h = let k = and_parts _ _ h in narrowed_holds f g law too p.left p.right z k.0 k.1

  pub filter_holds : (c : Cmp) (p q : Pair A B f g) (x y : ℤ) → compares c x y ≡ true → IsTrue (holds_of p x) →
      IsTrue (holds_of q y) → IsSomeAnd (filter_of c p q) (λ w. IsTrue (holds_of w.0 x) × IsTrue (holds_of w.1 y))
  filter_holds c p q x y e h k = between_filters c x y e _ _ (narrowed_has p x h) (narrowed_has q y k)

  pub narrowed_to_single : (p : Pair A B f g) (v : ℤ) → range_of p ≡ pair v v →
      IsSomeAnd (narrowed_pair p) (BothSingle f g law too v)
  narrowed_to_single p v e = let h = single_holds f g law too p v e in
      narrowed_single f g law too p.left p.right v h.0 h.1 e

  between_single_filter : (c : Cmp) (x y : ℤ) → compares c x y ≡ false → (po qo : Option (Pair A B f g)) →
      IsSomeAnd po (BothSingle f g law too x) → IsSomeAnd qo (BothSingle f g law too y) → filter_between c po qo ≡ None
  between_single_filter c x y e None qo h k = refl
  between_single_filter c x y e (Some p) None h k = refl
  between_single_filter c x y e (Some p) (Some q) h k = at _ (law.filter_single c p.left q.left x y e h.0 k.0)
    where
      at : (l : Option (A × A)) → l ≡ None → pairs_of {f = f} {g = g} l (g.ops.filter c p.right q.right) ≡ None
      at None d = refl
      at (Some a) d = absurd cc

  pub filter_single : (c : Cmp) (p q : Pair A B f g) (x y : ℤ) → compares c x y ≡ false → range_of p ≡ pair x x →
      range_of q ≡ pair y y → filter_of c p q ≡ None
  filter_single c p q x y e h k =
      between_single_filter c x y e _ _ (narrowed_to_single p x h) (narrowed_to_single q y k)
