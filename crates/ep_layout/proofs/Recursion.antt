-- Recursion on the types of a table: deeper is no other, and a table that grows keeps what it has.
use Rattle.std.proofs.Common.{◌≡◌, ℕ, zero, suc, ◌+◌, ◌≤◌, ◌-◌, Bool, List, length, map, slice_get, Option, Some}
use Rattle.std.proofs.Common.{None, option_and_then, refl, ap, subst, inl, inr, arith, eq-zero-or-pos, if◌then◌else◌}
use Rattle.std.proofs.lemmas.Option.{slice_get_past}
use Rattle.ep_int.specs.declared.types.Scalar.TheVariants.{Int as Number, Pointer}
use Rattle.ep_layout.specs.declared.types.Ty.{Ty}
use Rattle.ep_layout.specs.declared.types.Ty.TheVariants.{Void, Int, Ptr, Array, Aggregate}
use Rattle.ep_layout.specs.Table.{Table, AggregateRow, MemberRow, TypeRules, at_each, at_whole, at_aggregate, at_type}
use Rattle.ep_layout.specs.Table.{at_depth, by_type, Grows}
use Rattle.ep_layout.proofs.Options.{and_then_some, and_then_is, map_some, map_is, at_each_more, at_each_other}

abbrev pub types_of : List MemberRow → List ℕ
types_of ms = map (λ (m : MemberRow). m.ty) ms

pub kept_by_itself : (t : Table) → Grows t t
kept_by_itself t = record {
  model = refl;
  types = λ n ty h. h;
  aggregates = λ a g h. (g, h, refl, λ ms q. q);
  deeper = omega arith;
}

module _ {A : Type 0} (r : TypeRules A) where
  -- values at parts that are kept keep the value at the whole
  pub at_whole_more : (f g : ℕ → Option A) → ((n : ℕ) (x : A) → f n ≡ Some x → g n ≡ Some x) → (u : Bool) (ns : List ℕ) (x : A) → at_whole r f u ns ≡ Some x → at_whole r g u ns ≡ Some x
  at_whole_more f g k u ns x h =
      let s = map_some _ (at_each f ns) x h in
      rw (at_each_more f g k ns s.0 s.1) (ap Some s.2)

  pub at_aggregate_some : (f : ℕ → Option A) (g : AggregateRow) (x : A) → at_aggregate r f g ≡ Some x → (ms : List MemberRow) × (g.members ≡ Some ms) × (at_whole r f g.is_union (types_of ms) ≡ Some x)
  at_aggregate_some f g x h = and_then_some _ g.members x h

  pub at_aggregate_at : (f : ℕ → Option A) (g : AggregateRow) (ms : List MemberRow) (x : A) → g.members ≡ Some ms → at_whole r f g.is_union (types_of ms) ≡ Some x → at_aggregate r f g ≡ Some x
  at_aggregate_at f g ms x e h = rw e h

  pub at_aggregate_more : (f g : ℕ → Option A) → ((n : ℕ) (x : A) → f n ≡ Some x → g n ≡ Some x) → (row : AggregateRow) (x : A) → at_aggregate r f row ≡ Some x → at_aggregate r g row ≡ Some x
  at_aggregate_more f g k row x h =
      let s = at_aggregate_some f row x h in
      at_aggregate_at g row s.0 x s.1 (at_whole_more f g k row.is_union (types_of s.0) x s.2)

  pub at_type_more : (t u : Table) → Grows t u → (f g : ℕ → Option A) → ((n : ℕ) (x : A) → f n ≡ Some x → g n ≡ Some x) → (ty : Ty) (x : A) → at_type r t f ty ≡ Some x → at_type r u g ty ≡ Some x
  at_type_more t u grows f g k Void x h = h
  at_type_more t u grows f g k (Int i) x h = h
  at_type_more t u grows f g k (Ptr e) x h = h
  at_type_more t u grows f g k (Array e n) x h = let s = map_some _ (f e) x h in rw (k e s.0 s.1) (ap Some s.2)
  at_type_more t u grows f g k (Aggregate a) x h =
      let s = and_then_some _ (slice_get t.aggregates a) x h in
      let m = at_aggregate_some f s.0 x s.2 in
      let new = grows.aggregates a s.0 s.1 in
      let whole : at_whole r g new.0.is_union (types_of m.0) ≡ Some x = rw new.2 (at_whole_more f g k s.0.is_union (types_of m.0) x m.2) in
      rw new.1 (at_aggregate_at g new.0 m.0 x (new.3 m.0 m.1) whole)

  -- a table that grows keeps what it has
  pub at_depth_grows : (t u : Table) → Grows t u → (k n : ℕ) (x : A) → at_depth r t k n ≡ Some x → at_depth r u k n ≡ Some x
  unfolding at_depth
  at_depth_grows t u grows zero n x h = absurd cc
  at_depth_grows t u grows (suc k) n x h =
      let s = and_then_some _ (slice_get t.types n) x h in
      rw (grows.types n s.0 s.1) (at_type_more t u grows (at_depth r t k) (at_depth r u k) (at_depth_grows t u grows k) s.0 x s.2)

  pub at_depth_suc : (t : Table) (k n : ℕ) (x : A) → at_depth r t k n ≡ Some x → at_depth r t (suc k) n ≡ Some x
  unfolding at_depth
  at_depth_suc t zero n x h = absurd cc
  at_depth_suc t (suc k) n x h =
      let s = and_then_some _ (slice_get t.types n) x h in
      rw s.1 (at_type_more t t (kept_by_itself t) (at_depth r t k) (at_depth r t (suc k)) (at_depth_suc t k) s.0 x s.2)

  -- deeper is no other
  pub at_depth_more : (t : Table) (m k n : ℕ) (x : A) → k ≤ m → at_depth r t k n ≡ Some x → at_depth r t m n ≡ Some x
  unfolding at_depth
  at_depth_more t zero k n x l h = let e : k ≡ zero = omega arith in subst (λ (j : ℕ). at_depth r t j n ≡ Some x) e h
  at_depth_more t (suc m) k n x l h = elim (eq-zero-or-pos (suc m - k)) [
    | inl e ↦ let same : k ≡ suc m = omega arith in subst (λ (j : ℕ). at_depth r t j n ≡ Some x) same h
    | inr p ↦ at_depth_suc t m n x (at_depth_more t m k n x (omega arith) h)
  ]

  pub by_type_grows : (t u : Table) → Grows t u → (n : ℕ) (x : A) → by_type r t n ≡ Some x → by_type r u n ≡ Some x
  by_type_grows t u grows n x h = at_depth_more u (length u.types + length u.completed) (length t.types + length t.completed) n x grows.deeper (at_depth_grows t u grows _ n x h)

-- a number past the types has none
pub at_depth_past : {A : Type 0} (r : TypeRules A) (t : Table) (k n : ℕ) → length t.types ≤ n → at_depth r t k n ≡ None
unfolding at_depth
at_depth_past r t zero n l = refl
at_depth_past r t (suc k) n l = ap (option_and_then (at_type r t (at_depth r t k))) (slice_get_past t.types n l)

-- what has a value by one recursion has one by every other
module _ {A B : Type 0} (r : TypeRules A) (q : TypeRules B) where
  pub at_whole_other : (f : ℕ → Option A) (g : ℕ → Option B) → ((n : ℕ) (x : A) → f n ≡ Some x → (y : B) × (g n ≡ Some y)) → (u : Bool) (ns : List ℕ) (x : A) → at_whole r f u ns ≡ Some x → (y : B) × (at_whole q g u ns ≡ Some y)
  at_whole_other f g k u ns x h =
      let s = map_some _ (at_each f ns) x h in
      let ys = at_each_other f g k ns s.0 s.1 in
      ((if u then q.union else q.struct) ys.0, map_is _ (at_each g ns) ys.0 ys.1)

  pub at_aggregate_other : (f : ℕ → Option A) (g : ℕ → Option B) → ((n : ℕ) (x : A) → f n ≡ Some x → (y : B) × (g n ≡ Some y)) → (row : AggregateRow) (x : A) → at_aggregate r f row ≡ Some x → (y : B) × (at_aggregate q g row ≡ Some y)
  at_aggregate_other f g k row x h =
      let s = at_aggregate_some r f row x h in
      let y = at_whole_other f g k row.is_union (types_of s.0) x s.2 in
      (y.0, at_aggregate_at q g row s.0 y.0 s.1 y.1)

  pub at_type_other : (t : Table) (f : ℕ → Option A) (g : ℕ → Option B) → ((n : ℕ) (x : A) → f n ≡ Some x → (y : B) × (g n ≡ Some y)) → (ty : Ty) (x : A) → at_type r t f ty ≡ Some x → (y : B) × (at_type q t g ty ≡ Some y)
  at_type_other t f g k Void x h = absurd cc
  at_type_other t f g k (Int i) x h = (q.scalar (Number i), refl)
  at_type_other t f g k (Ptr e) x h = (q.scalar Pointer, refl)
  at_type_other t f g k (Array e n) x h =
      let s = map_some _ (f e) x h in
      let y = k e s.0 s.1 in
      (q.array n y.0, map_is _ (g e) y.0 y.1)
  at_type_other t f g k (Aggregate a) x h =
      let s = and_then_some _ (slice_get t.aggregates a) x h in
      let y = at_aggregate_other f g k s.0 x s.2 in
      (y.0, and_then_is _ (slice_get t.aggregates a) s.0 y.0 s.1 y.1)

  pub at_depth_other : (t : Table) (k n : ℕ) (x : A) → at_depth r t k n ≡ Some x → (y : B) × (at_depth q t k n ≡ Some y)
  unfolding at_depth
  at_depth_other t zero n x h = absurd cc
  at_depth_other t (suc k) n x h =
      let s = and_then_some _ (slice_get t.types n) x h in
      let y = at_type_other t (at_depth r t k) (at_depth q t k) (at_depth_other t k) s.0 x s.2 in
      (y.0, and_then_is _ (slice_get t.types n) s.0 y.0 s.1 y.1)
