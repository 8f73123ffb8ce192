-- In a table that was built each type but void and incomplete aggregates has a value, so recursion on a type is an equation.
use Rattle.std.proofs.Common.{◌≡◌, ℕ, suc, ◌+◌, ◌≤◌, Bool, true, false, List, [], ◌∷◌, ◌++◌, length, map, slice_get}
use Rattle.ep_int.proofs.Basics.{is_some-some}
use Rattle.std.proofs.Common.{slice_set, Option, Some, None, option_and_then, is_some, refl, sym, ◌∙◌, ap, subst, inl}
use Rattle.std.proofs.Common.{inr, arith, length-append, true≢false, if◌then◌else◌}
use Rattle.ep_int.specs.declared.types.Scalar.TheVariants.{Int as Number, Pointer}
use Rattle.ep_layout.specs.declared.types.Ty.{Ty}
use Rattle.ep_layout.specs.declared.types.Ty.TheVariants.{Void, Int, Ptr, Array, Aggregate}
use Rattle.ep_layout.specs.declared.types.LayoutStop.TheVariants.{Incomplete}
use Rattle.ep_layout.specs.Table.{Table, AggregateRow, MemberRow, TypeRules, IsBuilt, Grows, at_each, at_whole}
use Rattle.ep_layout.specs.Table.{at_type, at_depth, by_type, layout_rules, layout_of, layout_with, is_completed}
use Rattle.ep_layout.specs.Table.{type_stop, members_stop, with_type, declared, completed_with, empty, laid_out}
use Rattle.ep_layout.specs.Table.{struct_members, union_members}
use Rattle.ep_layout.specs.Table.IsBuilt.{start, type_more, aggregate_more, members_more}
use Rattle.ep_layout.proofs.Options.{and_then_some, and_then_is, map_some, map_is, same_some, some_or_none}
use Rattle.ep_layout.proofs.Options.{at_each_more, at_each_other, get_push, get_front, get_last}
use Rattle.ep_layout.proofs.Options.{get_set, get_set_same, get_set_other}
use Rattle.ep_layout.proofs.Recursion.{types_of, at_aggregate_some, at_aggregate_at, at_depth_grows, at_depth_suc}
use Rattle.ep_layout.proofs.Recursion.{at_depth_more, by_type_grows, at_depth_other}

---- growing

pub grows_with_type : (t : Table) (ty : Ty) → Grows t (with_type t ty)
grows_with_type t ty = record {
  model = refl;
  types = λ n s h. get_front t.types ty s n h;
  aggregates = λ a g h. (g, h, refl, λ ms q. q);
  deeper = omega (arith, length-append t.types (ty ∷ []));
}

pub grows_declared : (t : Table) (tag : List ℕ) (u : Bool) → Grows t (declared t tag u)
grows_declared t tag u = record {
  model = refl;
  types = λ n s h. h;
  aggregates = λ a g h. (g, get_front t.aggregates _ g a h, refl, λ ms q. q);
  deeper = omega arith;
}

-- a table in which an aggregate has got its members
abbrev pub with_members : Table → ℕ → AggregateRow → List MemberRow → Table
with_members t a g ms = record t {
  aggregates = slice_set t.aggregates a (record g { members = Some ms });
  completed = t.completed ++ a ∷ [];
}

pub completed_is : (t : Table) (a : ℕ) (g : AggregateRow) (members : List (List ℕ × ℕ)) → slice_get t.aggregates a ≡ Some g → completed_with t a members ≡ with_members t a g (laid_out t g.is_union members)
completed_is t a g members h = rw h refl

set_row : (t : Table) (a : ℕ) (g : AggregateRow) (ms : List MemberRow) → slice_get t.aggregates a ≡ Some g → g.members ≡ None → (b : ℕ) (row : AggregateRow) → slice_get t.aggregates b ≡ Some row
    → (h : AggregateRow) × (slice_get (with_members t a g ms).aggregates b ≡ Some h) × (h.is_union ≡ row.is_union) × ((q : List MemberRow) → row.members ≡ Some q → h.members ≡ Some q)
set_row t a g ms here none_yet b row there = elim (get_set_other t.aggregates a b (record g { members = Some ms }) row there) [
  | inl e ↦
      let is_g : row ≡ g = same_some row g (slice_get t.aggregates b) there (subst (λ (k : ℕ). slice_get t.aggregates k ≡ Some g) (sym e) here) in
      let new = subst (λ (k : ℕ). slice_get (with_members t a g ms).aggregates k ≡ Some (record g { members = Some ms })) (sym e) (get_set_same t.aggregates a (record g { members = Some ms }) g here) in
      let none : row.members ≡ None = ap (λ (x : AggregateRow). x.members) is_g ∙ none_yet in
      (record g { members = Some ms }, new, ap (λ (x : AggregateRow). x.is_union) (sym is_g), λ q h. absurd (none_some q (sym none ∙ h)))
  | inr p ↦ (row, p, refl, λ q h. h)
]
  where
    none_some : (q : List MemberRow) → None ≡ Some q → ⊥
    none_some q h = cc

pub grows_with_members : (t : Table) (a : ℕ) (g : AggregateRow) (ms : List MemberRow) → slice_get t.aggregates a ≡ Some g → g.members ≡ None → Grows t (with_members t a g ms)
grows_with_members t a g ms here none_yet = record {
  model = refl;
  types = λ n s h. h;
  aggregates = set_row t a g ms here none_yet;
  deeper = omega (arith, length-append t.completed (a ∷ []));
}

---- what has a value

-- not void, and not an aggregate without members
abbrev pub is_sized : Table → Ty → Bool
is_sized t Void = false
is_sized t (Int i) = true
is_sized t (Ptr e) = true
is_sized t (Array e n) = true
is_sized t (Aggregate a) = is_completed t a

pub record IsLaid {A : Type 0} (r : TypeRules A) (t : Table) : Type 0 where
  pub types : (n : ℕ) (ty : Ty) → slice_get t.types n ≡ Some ty → is_sized t ty ≡ true → (x : A) × (by_type r t n ≡ Some x)
  pub members : (a : ℕ) (g : AggregateRow) (ms : List MemberRow) → slice_get t.aggregates a ≡ Some g → g.members ≡ Some ms → (xs : List A) × (at_each (by_type r t) (types_of ms) ≡ Some xs)

types_struct : (t : Table) (members : List (List ℕ × ℕ)) (e : ℕ) → types_of (struct_members t e members) ≡ map (λ m. m.1) members
types_struct t [] e = refl
types_struct t (m ∷ more) e = ap (λ (ns : List ℕ). m.1 ∷ ns) (types_struct t more _)

types_union : (members : List (List ℕ × ℕ)) → types_of (union_members members) ≡ map (λ m. m.1) members
types_union [] = refl
types_union (m ∷ more) = ap (λ (ns : List ℕ). m.1 ∷ ns) (types_union more)

pub types_of_laid_out : (t : Table) (u : Bool) (members : List (List ℕ × ℕ)) → types_of (laid_out t u members) ≡ map (λ m. m.1) members
types_of_laid_out t true members = types_union members
types_of_laid_out t false members = types_struct t members 0

completed_members : (o : Option AggregateRow) → is_some (option_and_then (λ (g : AggregateRow). g.members) o) ≡ true → (g : AggregateRow) × (ms : List MemberRow) × (o ≡ Some g) × (g.members ≡ Some ms)
completed_members None h = absurd (true≢false (sym h))
completed_members (Some g) h = let s = is_some-some g.members h in (g, s.0, refl, s.1)

-- the value of an aggregate one deeper than its members
pub whole_at : {A : Type 0} (r : TypeRules A) (f : ℕ → Option A) (u : Bool) (ns : List ℕ) (xs : List A) → at_each f ns ≡ Some xs → at_whole r f u ns ≡ Some ((if u then r.union else r.struct) xs)
whole_at r f u ns xs h = map_is _ (at_each f ns) xs h

module _ {A : Type 0} (r : TypeRules A) where
  type_at : (t : Table) (k n : ℕ) (ty : Ty) (x : A) → slice_get t.types n ≡ Some ty → at_type r t (at_depth r t k) ty ≡ Some x → at_depth r t (suc k) n ≡ Some x
  unfolding at_depth
  type_at t k n ty x e h = and_then_is _ (slice_get t.types n) ty x e h

  aggregate_at : (t : Table) (k n a : ℕ) (g : AggregateRow) (ms : List MemberRow) (xs : List A) → slice_get t.types n ≡ Some (Aggregate a) → slice_get t.aggregates a ≡ Some g → g.members ≡ Some ms → at_each (at_depth r t k) (types_of ms) ≡ Some xs
      → at_depth r t (suc k) n ≡ Some ((if g.is_union then r.union else r.struct) xs)
  aggregate_at t k n a g ms xs e f m h =
      type_at t k n (Aggregate a) _ e (and_then_is _ (slice_get t.aggregates a) g _ f (at_aggregate_at r (at_depth r t k) g ms _ m (whole_at r (at_depth r t k) g.is_union (types_of ms) xs h)))

  type_is : (t : Table) (k n : ℕ) (x : A) → at_depth r t (suc k) n ≡ Some x → (ty : Ty) × (slice_get t.types n ≡ Some ty) × (at_type r t (at_depth r t k) ty ≡ Some x)
  unfolding at_depth
  type_is t k n x h = and_then_some _ (slice_get t.types n) x h

-- the new members of an aggregate have values
pub new_members : {A : Type 0} (r : TypeRules A) (t : Table) (u : Bool) (members : List (List ℕ × ℕ)) → members_stop t u members ≡ None → (xs : List A) × (at_each (by_type r t) (types_of (laid_out t u members)) ≡ Some xs)
new_members r t u members h =
    let s = some_or_none (layout_with t u members) in
    elim s [
      | inl l ↦
          let ls = map_some _ (at_each (layout_of t) (map (λ m. m.1) members)) l.0 l.1 in
          let ys = at_each_other (layout_of t) (by_type r t) (at_depth_other (layout_rules t.model) r t (length t.types + length t.completed)) (map (λ m. m.1) members) ls.0 ls.1 in
          (ys.0, rw (types_of_laid_out t u members) ys.1)
      | inr n ↦ absurd (stopped n)
    ]
  where
    stopped : layout_with t u members ≡ None → ⊥
    stopped n = let e : members_stop t u members ≡ Some Incomplete = rw n refl in cc

-- a new array's elements have values
pub new_elements : {A : Type 0} (r : TypeRules A) (t : Table) (e n : ℕ) → type_stop t (Array e n) ≡ None → (x : A) × (by_type r t e ≡ Some x)
new_elements r t e n h =
    let s = some_or_none (layout_of t e) in
    elim s [
      | inl l ↦ at_depth_other (layout_rules t.model) r t (length t.types + length t.completed) e l.0 l.1
      | inr q ↦ absurd (stopped q)
    ]
  where
    stopped : layout_of t e ≡ None → ⊥
    stopped q = let i : type_stop t (Array e n) ≡ Some Incomplete = rw q refl in cc

---- each way of growing keeps that

module _ {A : Type 0} (r : TypeRules A) where
  laid_start : (t : Table) → t.types ≡ [] → t.aggregates ≡ [] → IsLaid r t
  laid_start t no_types none = record {
    types = λ n ty h s. absurd (nothing n ty (subst (λ (l : List Ty). slice_get l n ≡ Some ty) no_types h));
    members = λ a g ms h m. absurd (no_row a g (subst (λ (l : List AggregateRow). slice_get l a ≡ Some g) none h));
  }
    where
      nothing : (n : ℕ) (ty : Ty) → slice_get [] n ≡ Some ty → ⊥
      nothing n ty h = cc

      no_row : (a : ℕ) (g : AggregateRow) → slice_get [] a ≡ Some g → ⊥
      no_row a g h = cc

  -- what a table has, a table that grew from it has
  kept_types : (t u : Table) → Grows t u → IsLaid r t → (n : ℕ) (ty : Ty) → slice_get t.types n ≡ Some ty → is_sized t ty ≡ true → (x : A) × (by_type r u n ≡ Some x)
  kept_types t u grows laid n ty h s = let x = laid.types n ty h s in (x.0, by_type_grows r t u grows n x.0 x.1)

  kept_members : (t u : Table) → Grows t u → IsLaid r t → (a : ℕ) (g : AggregateRow) (ms : List MemberRow) → slice_get t.aggregates a ≡ Some g → g.members ≡ Some ms → (xs : List A) × (at_each (by_type r u) (types_of ms) ≡ Some xs)
  kept_members t u grows laid a g ms h m =
      let xs = laid.members a g ms h m in
      (xs.0, at_each_more (by_type r t) (by_type r u) (by_type_grows r t u grows) (types_of ms) xs.0 xs.1)

  depth_is : (t : Table) (k d n : ℕ) (x : A) → d ≡ k → at_depth r t k n ≡ Some x → at_depth r t d n ≡ Some x
  depth_is t k d n x e h = subst (λ (j : ℕ). at_depth r t j n ≡ Some x) (sym e) h

  -- the last type has a value one deeper than what was there
  new_type : (t : Table) (ty : Ty) → IsLaid r t → type_stop t ty ≡ None → is_sized t ty ≡ true → (x : A) × (at_depth r (with_type t ty) (suc (length t.types + length t.completed)) (length t.types) ≡ Some x)
  new_type t Void laid fits h = absurd (true≢false (sym h))
  new_type t (Int i) laid fits h = (r.scalar (Number i), type_at r (with_type t (Int i)) _ _ (Int i) _ (get_last t.types (Int i)) refl)
  new_type t (Ptr e) laid fits h = (r.scalar Pointer, type_at r (with_type t (Ptr e)) _ _ (Ptr e) _ (get_last t.types (Ptr e)) refl)
  new_type t (Array e n) laid fits h =
      let x = new_elements r t e n fits in
      let u = with_type t (Array e n) in
      let y = at_depth_grows r t u (grows_with_type t (Array e n)) _ e x.0 x.1 in
      (r.array n x.0, type_at r u _ _ (Array e n) _ (get_last t.types (Array e n)) (map_is _ (at_depth r u _ e) x.0 y))
  new_type t (Aggregate a) laid fits h =
      let g = completed_members (slice_get t.aggregates a) h in
      let xs = laid.members a g.0 g.1 g.2 g.3 in
      let u = with_type t (Aggregate a) in
      let ys = at_each_more (by_type r t) (at_depth r u _) (at_depth_grows r t u (grows_with_type t (Aggregate a)) _) (types_of g.1) xs.0 xs.1 in
      (_, aggregate_at r u _ _ a g.0 g.1 xs.0 (get_last t.types (Aggregate a)) g.2 g.3 ys)

  laid_with_type : (t : Table) (ty : Ty) → IsLaid r t → type_stop t ty ≡ None → IsLaid r (with_type t ty)
  laid_with_type t ty laid fits = record {
    types = λ n s h q. elim (get_push t.types ty s n h) [
      | inl old ↦ kept_types t (with_type t ty) (grows_with_type t ty) laid n s old (sized_before s q)
      | inr new ↦ at_new n s new.0 new.1 q
    ];
    members = kept_members t (with_type t ty) (grows_with_type t ty) laid;
  }
    where
      sized_before : (s : Ty) → is_sized (with_type t ty) s ≡ true → is_sized t s ≡ true
      sized_before Void q = q
      sized_before (Int i) q = q
      sized_before (Ptr e) q = q
      sized_before (Array e n) q = q
      sized_before (Aggregate a) q = q

      deep : length (t.types ++ ty ∷ []) + length t.completed ≡ suc (length t.types + length t.completed)
      deep = omega (arith, length-append t.types (ty ∷ []))

      at_new : (n : ℕ) (s : Ty) → n ≡ length t.types → ty ≡ s → is_sized (with_type t ty) s ≡ true → (x : A) × (by_type r (with_type t ty) n ≡ Some x)
      at_new n s e same q =
          let p : is_sized t ty ≡ true = subst (λ (v : Ty). is_sized t v ≡ true) (sym same) (sized_before s q) in
          let x = new_type t ty laid fits p in
          let there = subst (λ (k : ℕ). at_depth r (with_type t ty) (suc (length t.types + length t.completed)) k ≡ Some x.0) (sym e) x.1 in
          (x.0, depth_is (with_type t ty) _ _ n x.0 deep there)

  laid_declared : (t : Table) (tag : List ℕ) (u : Bool) → IsLaid r t → IsLaid r (declared t tag u)
  laid_declared t tag u laid = record {
    types = λ n s h q. kept_types t (declared t tag u) (grows_declared t tag u) laid n s h (sized_before s q);
    members = λ a g ms h m. elim (get_push t.aggregates (row) g a h) [
      | inl old ↦ kept_members t (declared t tag u) (grows_declared t tag u) laid a g ms old m
      | inr new ↦ absurd (none_some ms (ap (λ (x : AggregateRow). x.members) new.1 ∙ m))
    ];
  }
    where
      row : AggregateRow
      row = record { tag = tag; is_union = u; members = None }

      none_some : (q : List MemberRow) → None ≡ Some q → ⊥
      none_some q h = cc

      before : (a : ℕ) → is_completed (declared t tag u) a ≡ true → is_completed t a ≡ true
      before a q =
          let g = completed_members (slice_get (declared t tag u).aggregates a) q in
          elim (get_push t.aggregates row g.0 a g.2) [
            | inl old ↦ rw old (rw g.3 refl)
            | inr new ↦ absurd (none_some g.1 (ap (λ (x : AggregateRow). x.members) new.1 ∙ g.3))
          ]

      sized_before : (s : Ty) → is_sized (declared t tag u) s ≡ true → is_sized t s ≡ true
      sized_before Void q = q
      sized_before (Int i) q = q
      sized_before (Ptr e) q = q
      sized_before (Array e n) q = q
      sized_before (Aggregate a) q = before a q

  -- members that an aggregate has after another one was completed
  members_then : (t : Table) (a : ℕ) (g : AggregateRow) (ms : List MemberRow) → Grows t (with_members t a g ms) → (xs : List A) → at_each (by_type r t) (types_of ms) ≡ Some xs → IsLaid r t
      → (b : ℕ) (h : AggregateRow) (q : List MemberRow) → slice_get (with_members t a g ms).aggregates b ≡ Some h → h.members ≡ Some q
      → (ys : List A) × (at_each (at_depth r (with_members t a g ms) (length t.types + length t.completed)) (types_of q) ≡ Some ys)
  members_then t a g ms grows xs new laid b h q there m =
      elim (get_set t.aggregates a b (record g { members = Some ms }) h there) [
        | inl p ↦
            let same : ms ≡ q = some_is (ap (λ (x : AggregateRow). x.members) p.1 ∙ m) in
            (xs, subst (λ (l : List MemberRow). at_each (at_depth r (with_members t a g ms) (length t.types + length t.completed)) (types_of l) ≡ Some xs) same (up ms xs new))
        | inr old ↦ let ys = laid.members b h q old m in (ys.0, up q ys.0 ys.1)
      ]
    where
      some_is : {x y : List MemberRow} → Some x ≡ Some y → x ≡ y
      some_is e = cc

      up : (l : List MemberRow) (ys : List A) → at_each (by_type r t) (types_of l) ≡ Some ys → at_each (at_depth r (with_members t a g ms) (length t.types + length t.completed)) (types_of l) ≡ Some ys
      up l ys e = at_each_more (by_type r t) (at_depth r (with_members t a g ms) (length t.types + length t.completed)) (at_depth_grows r t (with_members t a g ms) grows _) (types_of l) ys e

  types_then : (t u : Table) → Grows t u → u.types ≡ t.types → IsLaid r t
      → ((b : ℕ) (h : AggregateRow) (q : List MemberRow) → slice_get u.aggregates b ≡ Some h → h.members ≡ Some q → (ys : List A) × (at_each (at_depth r u (length t.types + length t.completed)) (types_of q) ≡ Some ys))
      → suc (length t.types + length t.completed) ≤ length u.types + length u.completed
      → (n : ℕ) (s : Ty) → slice_get u.types n ≡ Some s → is_sized u s ≡ true → (x : A) × (by_type r u n ≡ Some x)
  types_then t u grows same laid after deeper n Void h q = absurd (true≢false (sym q))
  types_then t u grows same laid after deeper n (Int i) h q = (_, at_depth_more r u _ (suc (length t.types + length t.completed)) n _ deeper (type_at r u _ n (Int i) _ h refl))
  types_then t u grows same laid after deeper n (Ptr e) h q = (_, at_depth_more r u _ (suc (length t.types + length t.completed)) n _ deeper (type_at r u _ n (Ptr e) _ h refl))
  types_then t u grows same laid after deeper n (Array e c) h q = kept_types t u grows laid n (Array e c) (subst (λ (l : List Ty). slice_get l n ≡ Some (Array e c)) same h) refl
  types_then t u grows same laid after deeper n (Aggregate b) h q =
      let g = completed_members (slice_get u.aggregates b) q in
      let xs = after b g.0 g.1 g.2 g.3 in
      (_, at_depth_more r u _ (suc (length t.types + length t.completed)) n _ deeper (aggregate_at r u _ n b g.0 g.1 xs.0 h g.2 g.3 xs.1))

  laid_with_members : (t : Table) (a : ℕ) (g : AggregateRow) (members : List (List ℕ × ℕ)) → slice_get t.aggregates a ≡ Some g → g.members ≡ None → members_stop t g.is_union members ≡ None → IsLaid r t
      → IsLaid r (with_members t a g (laid_out t g.is_union members))
  laid_with_members t a g members here none_yet fits laid =
      let ms : List MemberRow = laid_out t g.is_union members in
      let u : Table = with_members t a g ms in
      let grows : Grows t u = grows_with_members t a g ms here none_yet in
      let new = new_members r t g.is_union members fits in
      let after = members_then t a g ms grows new.0 new.1 laid in
      record {
        types = types_then t u grows refl laid after (omega (arith, length-append t.completed (a ∷ [])));
        members = λ b h q there m. let xs = after b h q there m in (xs.0, at_each_more (at_depth r u (length t.types + length t.completed)) (by_type r u) (λ n x p. at_depth_more r u _ (length t.types + length t.completed) n x grows.deeper p) (types_of q) xs.0 xs.1);
      }

  pub laid : (t : Table) → IsBuilt t → IsLaid r t
  laid t (start m) = laid_start (empty m) refl refl
  laid t (type_more s ty b known new fits) = laid_with_type s ty (laid s b) fits
  laid t (aggregate_more s tag u b) = laid_declared s tag u (laid s b)
  laid t (members_more s a g members b here none_yet known fits) =
      subst (IsLaid r) (sym (completed_is s a g members here)) (laid_with_members s a g members here none_yet fits (laid s b))

  sized_of_some : (t : Table) (f : ℕ → Option A) (ty : Ty) (x : A) → at_type r t f ty ≡ Some x → is_sized t ty ≡ true
  sized_of_some t f Void x h = absurd (none_some x h)
    where
      none_some : (x : A) → None ≡ Some x → ⊥
      none_some x h = cc
  sized_of_some t f (Int i) x h = refl
  sized_of_some t f (Ptr e) x h = refl
  sized_of_some t f (Array e n) x h = refl
  sized_of_some t f (Aggregate a) x h =
      let s = and_then_some _ (slice_get t.aggregates a) x h in
      let m = at_aggregate_some r f s.0 x s.2 in
      rw s.1 (rw m.1 refl)

  nothing : (x : A) → None ≡ Some x → ⊥
  nothing x h = cc

  deep : (t : Table) (k n : ℕ) → at_depth r t (suc k) n ≡ option_and_then (at_type r t (at_depth r t k)) (slice_get t.types n)
  unfolding at_depth
  deep t k n = refl

  -- Recursion on a type: a type's value is that of its sort, from the values of its parts.
  pub by_type_is : (t : Table) → IsBuilt t → (n : ℕ) → by_type r t n ≡ option_and_then (at_type r t (by_type r t)) (slice_get t.types n)
  by_type_is t b n = both (by_type r t n) (at_depth r t (suc (length t.types + length t.completed)) n) (at_depth_suc r t _ n) back ∙ deep t (length t.types + length t.completed) n
    where
      both : (o p : Option A) → ((x : A) → o ≡ Some x → p ≡ Some x) → ((x : A) → p ≡ Some x → (y : A) × (o ≡ Some y)) → o ≡ p
      both None None f g = refl
      both None (Some x) f g = let y = g x refl in absurd (nothing y.0 y.1)
      both (Some x) p f g = sym (f x refl)

      back : (x : A) → at_depth r t (suc (length t.types + length t.completed)) n ≡ Some x → (y : A) × (by_type r t n ≡ Some y)
      back x h = let s = type_is r t _ n x h in (laid t b).types n s.0 s.1 (sized_of_some t _ s.0 x s.2)
