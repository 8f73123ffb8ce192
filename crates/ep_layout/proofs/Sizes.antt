-- Sizes and alignments of the types of a table that was built.
use Rattle.std.proofs.Common.{◌≡◌, ℕ, zero, suc, ◌+◌, ◌*◌, ◌<◌, ◌≤◌, Bool, true, false, List, [], ◌∷◌, length, map}
use Rattle.std.proofs.Common.{slice_get, slice_set, Option, Some, None, option_and_then, refl, sym, ◌∙◌, ap, subst}
use Rattle.std.proofs.Common.{inl, inr, arith, length-append, if◌then◌else◌, nat_lt}
use Rattle.std.proofs.lemmas.Bool.Decides.{nat_tests}
use Rattle.std.proofs.lemmas.List.Elements.{All-nil, All-cons, All-head, All-tail}
use Rattle.std.specs.List.{All}
use Rattle.ep_int.specs.declared.types.Model.{Model}
use Rattle.ep_int.specs.declared.types.Scalar.{Scalar}
use Rattle.ep_int.specs.declared.types.Scalar.TheVariants.{Int as Number, Pointer}
use Rattle.ep_int.specs.declared.types.IntType.TheVariants.{I8, U8, I16, U16, I32, U32, I64, U64}
use Rattle.ep_int.specs.declared.types.Model.TheVariants.{Ilp32, Lp64}
use Rattle.ep_int.specs.Types.{size_of}
use Rattle.ep_layout.specs.declared.types.Ty.{Ty}
use Rattle.ep_layout.specs.declared.types.Ty.TheVariants.{Void, Int, Ptr, Array, Aggregate}
use Rattle.ep_layout.specs.declared.types.LayoutStop.TheVariants.{TooLarge}
use Rattle.ep_layout.specs.Layout.{Layout, most_bytes, scalar_layout, array_layout, greatest_align}
use Rattle.ep_layout.specs.Table.{Table, AggregateRow, MemberRow, TypeRules, IsBuilt, Grows, at_each, at_whole}
use Rattle.ep_layout.specs.Table.{at_aggregate, at_type, at_depth, by_type, layout_rules, layout_of, layout_with}
use Rattle.ep_layout.specs.Table.{names_known, type_stop, members_stop, with_type, declared, laid_out, stop_at_size}
use Rattle.ep_layout.specs.Table.IsBuilt.{start, type_more, aggregate_more, members_more}
use Rattle.ep_layout.specs.Extents.{IsExtent, extent_of}
use Rattle.ep_layout.proofs.Options.{and_then_some, map_some, same_some, at_each_some, get_push, get_set}
use Rattle.ep_layout.proofs.Recursion.{types_of, at_whole_more, at_aggregate_some, at_aggregate_at, by_type_grows}
use Rattle.ep_layout.proofs.Laid.{grows_with_type, grows_declared, grows_with_members, with_members, completed_is}
use Rattle.ep_layout.proofs.Laid.{laid, by_type_is, types_of_laid_out, whole_at, new_elements, new_members}

-- what holds of all values by recursion: of scalars, and of arrays, structs and unions where it holds of their parts
pub record IsKept {A : Type 0} (r : TypeRules A) (P : A → Type 0) : Type 0 where
  pub scalar : (w : Scalar) → P (r.scalar w)
  pub array : (n : ℕ) (x : A) → P x → P (r.array n x)
  pub struct : (xs : List A) → All P xs → P (r.struct xs)
  pub union : (xs : List A) → All P xs → P (r.union xs)

module _ {A : Type 0} (r : TypeRules A) (P : A → Type 0) (k : IsKept r P) where
  each_kept : (f : ℕ → Option A) → ((n : ℕ) (x : A) → f n ≡ Some x → P x) → (ns : List ℕ) (xs : List A) → at_each f ns ≡ Some xs → All P xs
  each_kept f h [] xs e = let p : [] ≡ xs = cc in subst (All P) p (All-nil P)
  each_kept f h (n ∷ ns) xs e =
      let s = at_each_some f n ns xs e in
      subst (All P) s.4 (All-cons P s.0 s.1 (h n s.0 s.2) (each_kept f h ns s.1 s.3))

  pub whole_kept : (f : ℕ → Option A) → ((n : ℕ) (x : A) → f n ≡ Some x → P x) → (u : Bool) (ns : List ℕ) (x : A) → at_whole r f u ns ≡ Some x → P x
  whole_kept f h true ns x e = let s = map_some r.union (at_each f ns) x e in subst P s.2 (k.union s.0 (each_kept f h ns s.0 s.1))
  whole_kept f h false ns x e = let s = map_some r.struct (at_each f ns) x e in subst P s.2 (k.struct s.0 (each_kept f h ns s.0 s.1))

  pub aggregate_kept : (f : ℕ → Option A) → ((n : ℕ) (x : A) → f n ≡ Some x → P x) → (g : AggregateRow) (x : A) → at_aggregate r f g ≡ Some x → P x
  aggregate_kept f h g x e = let m = at_aggregate_some r f g x e in whole_kept f h g.is_union (types_of m.0) x m.2

  type_kept : (t : Table) (f : ℕ → Option A) → ((n : ℕ) (x : A) → f n ≡ Some x → P x) → (ty : Ty) (x : A) → at_type r t f ty ≡ Some x → P x
  type_kept t f h Void x e = absurd cc
  type_kept t f h (Int i) x e = let p : r.scalar (Number i) ≡ x = cc in subst P p (k.scalar (Number i))
  type_kept t f h (Ptr d) x e = let p : r.scalar Pointer ≡ x = cc in subst P p (k.scalar Pointer)
  type_kept t f h (Array d n) x e = let s = map_some (r.array n) (f d) x e in subst P s.2 (k.array n s.0 (h d s.0 s.1))
  type_kept t f h (Aggregate a) x e =
      let s = and_then_some _ (slice_get t.aggregates a) x e in
      aggregate_kept f h s.0 x s.2

  pub kept_at_depth : (t : Table) (d n : ℕ) (x : A) → at_depth r t d n ≡ Some x → P x
  unfolding at_depth
  kept_at_depth t zero n x e = absurd cc
  kept_at_depth t (suc d) n x e =
      let s = and_then_some _ (slice_get t.types n) x e in
      type_kept t (at_depth r t d) (kept_at_depth t d) s.0 x s.2

  pub kept_by_type : (t : Table) (n : ℕ) (x : A) → by_type r t n ≡ Some x → P x
  kept_by_type t n x e = kept_at_depth t (length t.types + length t.completed) n x e

---- alignments

pub record IsAligned (l : Layout) : Type 0 where
  pub positive : 0 < l.align
  pub within : l.align ≤ 8

pub size_of_scalar : (m : Model) (w : Scalar) → (0 < size_of m w) × (size_of m w ≤ 8)
size_of_scalar m (Number I8) = (omega arith, omega arith)
size_of_scalar m (Number U8) = (omega arith, omega arith)
size_of_scalar m (Number I16) = (omega arith, omega arith)
size_of_scalar m (Number U16) = (omega arith, omega arith)
size_of_scalar m (Number I32) = (omega arith, omega arith)
size_of_scalar m (Number U32) = (omega arith, omega arith)
size_of_scalar m (Number I64) = (omega arith, omega arith)
size_of_scalar m (Number U64) = (omega arith, omega arith)
size_of_scalar Ilp32 Pointer = (omega arith, omega arith)
size_of_scalar Lp64 Pointer = (omega arith, omega arith)

greatest_within : (ls : List Layout) → All IsAligned ls → (0 < greatest_align ls) × (greatest_align ls ≤ 8)
greatest_within [] h = (omega arith, omega arith)
greatest_within (l ∷ more) h =
    let here = All-head IsAligned l more h in
    let there = greatest_within more (All-tail IsAligned l more h) in
    (omega (arith, here.positive, there.0), omega (arith, here.within, there.1))

aligned_rules : (m : Model) → IsKept (layout_rules m) IsAligned
aligned_rules m = record {
  scalar = λ w. let s = size_of_scalar m w in record { positive = s.0; within = s.1 };
  array = λ n x h. record { positive = h.positive; within = h.within };
  struct = λ xs h. let s = greatest_within xs h in record { positive = s.0; within = s.1 };
  union = λ xs h. let s = greatest_within xs h in record { positive = s.0; within = s.1 };
}

pub aligned : (t : Table) (n : ℕ) (l : Layout) → layout_of t n ≡ Some l → IsAligned l
aligned t n l e = kept_by_type (layout_rules t.model) IsAligned (aligned_rules t.model) t n l e

pub layout_grows : (t u : Table) → Grows t u → (n : ℕ) (l : Layout) → layout_of t n ≡ Some l → layout_of u n ≡ Some l
layout_grows t u grows n l h = subst (λ (m : Model). by_type (layout_rules m) u n ≡ Some l) (sym grows.model) (by_type_grows (layout_rules t.model) t u grows n l h)

---- what a table names is there

pub known_later : (t u : Table) → Grows t u → (ty : Ty) → names_known t ty ≡ true → length t.types ≤ length u.types → length t.aggregates ≤ length u.aggregates → names_known u ty ≡ true
known_later t u grows Void h p q = refl
known_later t u grows (Int i) h p q = refl
known_later t u grows (Ptr e) h p q = grind (arith, nat_tests)
known_later t u grows (Array e n) h p q = grind (arith, nat_tests)
known_later t u grows (Aggregate a) h p q = grind (arith, nat_tests)

pub length_set : {X : Type 0} (xs : List X) (i : ℕ) (x : X) → length (slice_set xs i x) ≡ length xs
length_set [] i x = refl
length_set (y ∷ ys) zero x = refl
length_set (y ∷ ys) (suc i) x = ap suc (length_set ys i x)

pub known : (t : Table) → IsBuilt t → (n : ℕ) (ty : Ty) → slice_get t.types n ≡ Some ty → names_known t ty ≡ true
known t (start m) n ty h = absurd cc
known t (type_more s new b here fresh fits) n ty h = elim (get_push s.types new ty n h) [
  | inl old ↦ known_later s (with_type s new) (grows_with_type s new) ty (known s b n ty old) (omega (arith, length-append s.types (new ∷ []))) (omega arith)
  | inr p ↦ subst (λ (v : Ty). names_known (with_type s new) v ≡ true) p.1 (known_later s (with_type s new) (grows_with_type s new) new here (omega (arith, length-append s.types (new ∷ []))) (omega arith))
]
known t (aggregate_more s tag u b) n ty h = known_later s (declared s tag u) (grows_declared s tag u) ty (known s b n ty h) (omega arith) (omega (arith, length-append s.aggregates ((record { tag = tag; is_union = u; members = None }) ∷ [])))
known t (members_more s a g members b here none_yet there fits) n ty h =
    let v = with_members s a g (laid_out s g.is_union members) in
    let e = completed_is s a g members here in
    let p : slice_get v.types n ≡ Some ty = subst (λ (w : Table). slice_get w.types n ≡ Some ty) e h in
    let q = known_later s v (grows_with_members s a g (laid_out s g.is_union members) here none_yet) ty (known s b n ty p) (omega arith) (omega (arith, length_set s.aggregates a (record g { members = Some (laid_out s g.is_union members) }))) in
    subst (λ (w : Table). names_known w ty ≡ true) (sym e) q

-- a pointer comes behind what it points to
pub target_before : (t : Table) → IsBuilt t → (n e : ℕ) → slice_get t.types n ≡ Some (Ptr e) → e < n
target_before t (start m) n e h = absurd cc
target_before t (type_more s new b here fresh fits) n e h = elim (get_push s.types new (Ptr e) n h) [
  | inl old ↦ target_before s b n e old
  | inr p ↦
      let k : names_known s (Ptr e) ≡ true = subst (λ (v : Ty). names_known s v ≡ true) p.1 here in
      subst (λ (j : ℕ). e < j) (sym p.0) (grind (arith, nat_tests))
]
target_before t (aggregate_more s tag u b) n e h = target_before s b n e h
target_before t (members_more s a g members b here none_yet there fits) n e h =
    let v = with_members s a g (laid_out s g.is_union members) in
    let p : slice_get v.types n ≡ Some (Ptr e) =
    subst (λ (w : Table). slice_get w.types n ≡ Some (Ptr e)) (completed_is s a g members here) h in
    target_before s b n e p

---- sizes

pub record IsSmall (t : Table) : Type 0 where
  pub arrays : (n e c : ℕ) (l : Layout) → slice_get t.types n ≡ Some (Array e c) → layout_of t e ≡ Some l → c * l.size ≤ most_bytes
  pub aggregates : (a : ℕ) (g : AggregateRow) (l : Layout) → slice_get t.aggregates a ≡ Some g → at_aggregate (layout_rules t.model) (layout_of t) g ≡ Some l → l.size ≤ most_bytes

not_past_by : (n : ℕ) (b : Bool) → nat_lt most_bytes n ≡ b → (if b then Some TooLarge else None) ≡ None → n ≤ most_bytes
not_past_by n true e h = absurd cc
not_past_by n false e h = grind (arith, nat_tests)

pub not_past : (n : ℕ) → stop_at_size n ≡ None → n ≤ most_bytes
not_past n h = not_past_by n (nat_lt most_bytes n) refl h

elements_fit : (t : Table) (e n : ℕ) (l : Layout) → type_stop t (Array e n) ≡ None → layout_of t e ≡ Some l → n * l.size ≤ most_bytes
elements_fit t e n l fits h = not_past (n * l.size) (rw h at fits)

whole_fits : (t : Table) (u : Bool) (members : List (List ℕ × ℕ)) (l : Layout) → members_stop t u members ≡ None → layout_with t u members ≡ Some l → l.size ≤ most_bytes
whole_fits t u members l fits h = not_past l.size (rw h at fits)

-- a part that had a layout has the same one later
same_layout : (t u : Table) → Grows t u → (e : ℕ) (k l : Layout) → layout_of t e ≡ Some k → layout_of u e ≡ Some l → k ≡ l
same_layout t u grows e k l h q = same_some k l (layout_of u e) (layout_grows t u grows e k h) q

-- what an aggregate whose members have layouts has now, it had before
pub aggregate_was : {A : Type 0} (r : TypeRules A) (f g : ℕ → Option A) → ((n : ℕ) (x : A) → f n ≡ Some x → g n ≡ Some x) → (row : AggregateRow) (x : A)
    → ((ms : List MemberRow) → row.members ≡ Some ms → (xs : List A) × (at_each f (types_of ms) ≡ Some xs)) → at_aggregate r g row ≡ Some x → at_aggregate r f row ≡ Some x
aggregate_was r f g more row x had h =
    let m = at_aggregate_some r g row x h in
    let xs = had m.0 m.1 in
    let y = whole_at r f row.is_union (types_of m.0) xs.0 xs.1 in
    let z = at_whole_more r f g more row.is_union (types_of m.0) _ y in
    let e = same_some _ x (at_whole r g row.is_union (types_of m.0)) z m.2 in
    at_aggregate_at r f row m.0 x m.1 (y ∙ ap Some e)

pub element_laid : (t : Table) → IsBuilt t → (n e c : ℕ) → slice_get t.types n ≡ Some (Array e c) → (l : Layout) × (layout_of t e ≡ Some l)
element_laid t b n e c h =
    let x = (laid (layout_rules t.model) t b).types n (Array e c) h refl in
    let y = map_some (array_layout c) (layout_of t e) x.0 (sym (by_type_is (layout_rules t.model) t b n ∙ ap (option_and_then (at_type (layout_rules t.model) t (layout_of t))) h) ∙ x.1) in
    (y.0, y.1)

arrays_fit : (t u : Table) → Grows t u → IsBuilt t → IsSmall t → (n e c : ℕ) (l : Layout) → slice_get t.types n ≡ Some (Array e c) → layout_of u e ≡ Some l → c * l.size ≤ most_bytes
arrays_fit t u grows b s n e c l h q =
    let k = element_laid t b n e c h in
    subst (λ (v : Layout). c * v.size ≤ most_bytes) (same_layout t u grows e k.0 l k.1 q) (s.arrays n e c k.0 h k.1)

rows_fit : (t : Table) (g : ℕ → Option Layout) → ((n : ℕ) (l : Layout) → layout_of t n ≡ Some l → g n ≡ Some l) → IsBuilt t → IsSmall t → (a : ℕ) (row : AggregateRow) (l : Layout)
    → slice_get t.aggregates a ≡ Some row → at_aggregate (layout_rules t.model) g row ≡ Some l → l.size ≤ most_bytes
rows_fit t g more b s a row l h q =
    s.aggregates a row l h (aggregate_was (layout_rules t.model) (layout_of t) g more row l (λ ms m. (laid (layout_rules t.model) t b).members a row ms h m) q)

small_with_type : (t : Table) (ty : Ty) → IsBuilt t → type_stop t ty ≡ None → IsSmall t → IsSmall (with_type t ty)
small_with_type t ty b fits s = record {
  arrays = λ n e c l h q. elim (get_push t.types ty (Array e c) n h) [
    | inl old ↦ arrays_fit t (with_type t ty) (grows_with_type t ty) b s n e c l old q
    | inr new ↦ new_fits e c l (subst (λ (v : Ty). type_stop t v ≡ None) new.1 fits) q
  ];
  aggregates = rows_fit t (layout_of (with_type t ty)) (layout_grows t (with_type t ty) (grows_with_type t ty)) b s;
}
  where
    new_fits : (e c : ℕ) (l : Layout) → type_stop t (Array e c) ≡ None → layout_of (with_type t ty) e ≡ Some l → c * l.size ≤ most_bytes
    new_fits e c l fits q =
        let k = new_elements (layout_rules t.model) t e c fits in
        let same = same_layout t (with_type t ty) (grows_with_type t ty) e k.0 l k.1 q in
        subst (λ (v : Layout). c * v.size ≤ most_bytes) same (elements_fit t e c k.0 fits k.1)

small_declared : (t : Table) (tag : List ℕ) (u : Bool) → IsBuilt t → IsSmall t → IsSmall (declared t tag u)
small_declared t tag u b s = record {
  arrays = λ n e c l h q. arrays_fit t (declared t tag u) (grows_declared t tag u) b s n e c l h q;
  aggregates = λ a g l h q. elim (get_push t.aggregates (record { tag = tag; is_union = u; members = None }) g a h) [
    | inl old ↦ rows_fit t (layout_of (declared t tag u)) (layout_grows t (declared t tag u) (grows_declared t tag u)) b s a g l old q
    | inr new ↦ absurd (nothing g l (sym (ap (λ (x : AggregateRow). x.members) new.1)) q)
  ];
}
  where
    nothing : (g : AggregateRow) (l : Layout) → g.members ≡ None → at_aggregate (layout_rules t.model) (layout_of (declared t tag u)) g ≡ Some l → ⊥
    nothing g l e q = let m = at_aggregate_some (layout_rules t.model) (layout_of (declared t tag u)) g l q in some_none m.0 (sym e ∙ m.1)
      where
        some_none : (ms : List MemberRow) → None ≡ Some ms → ⊥
        some_none ms h = cc

pub layout_there : (t : Table) (u : Bool) (members : List (List ℕ × ℕ)) → members_stop t u members ≡ None → (l : Layout) × (layout_with t u members ≡ Some l)
layout_there t u members fits =
    let xs = new_members (layout_rules t.model) t u members fits in
    let types = types_of_laid_out t u members in
    (_, whole_at (layout_rules t.model) (layout_of t) u (map (λ m. m.1) members) xs.0 (subst (λ (ns : List ℕ). at_each (layout_of t) ns ≡ Some xs.0) types xs.1))

small_with_members : (t : Table) (a : ℕ) (g : AggregateRow) (members : List (List ℕ × ℕ)) → slice_get t.aggregates a ≡ Some g → g.members ≡ None → members_stop t g.is_union members ≡ None → IsBuilt t → IsSmall t
    → IsSmall (with_members t a g (laid_out t g.is_union members))
small_with_members t a g members here none_yet fits b s =
    let u : Table = with_members t a g (laid_out t g.is_union members) in
    let grows : Grows t u = grows_with_members t a g (laid_out t g.is_union members) here none_yet in
    record {
      arrays = λ n e c l h q. arrays_fit t u grows b s n e c l h q;
      aggregates = λ k row l h q. elim (get_set t.aggregates a k (record g { members = Some (laid_out t g.is_union members) }) row h) [
        | inl p ↦ completed_fits l (subst (λ (v : AggregateRow). at_aggregate (layout_rules t.model) (layout_of u) v ≡ Some l) (sym p.1) q)
        | inr old ↦ rows_fit t (layout_of u) (layout_grows t u grows) b s k row l old q
      ];
    }
  where
    completed_fits : (l : Layout) → at_aggregate (layout_rules t.model) (layout_of (with_members t a g (laid_out t g.is_union members))) (record g { members = Some (laid_out t g.is_union members) }) ≡ Some l → l.size ≤ most_bytes
    completed_fits l q =
        let k = layout_there t g.is_union members fits in
        let before : at_whole (layout_rules t.model) (layout_of t) g.is_union (types_of (laid_out t g.is_union members)) ≡ Some k.0 = rw (types_of_laid_out t g.is_union members) k.1 in
        let after = at_whole_more (layout_rules t.model) (layout_of t) (layout_of (with_members t a g (laid_out t g.is_union members))) (layout_grows t (with_members t a g (laid_out t g.is_union members)) (grows_with_members t a g (laid_out t g.is_union members) here none_yet)) g.is_union (types_of (laid_out t g.is_union members)) k.0 before in
        let same : k.0 ≡ l = same_some k.0 l _ after q in
        subst (λ (v : Layout). v.size ≤ most_bytes) same (whole_fits t g.is_union members k.0 fits k.1)

pub small : (t : Table) → IsBuilt t → IsSmall t
small t (start m) = record { arrays = λ n e c l h q. absurd (no_type n e c h); aggregates = λ a g l h q. absurd (no_row a g h) }
  where
    no_type : (n e c : ℕ) → slice_get [] n ≡ Some (Array e c) → ⊥
    no_type n e c h = cc

    no_row : (a : ℕ) (g : AggregateRow) → slice_get [] a ≡ Some g → ⊥
    no_row a g h = cc
small t (type_more s ty b there new fits) = small_with_type s ty b fits (small s b)
small t (aggregate_more s tag u b) = small_declared s tag u b (small s b)
small t (members_more s a g members b here none_yet there fits) =
    subst IsSmall (sym (completed_is s a g members here)) (small_with_members s a g members here none_yet fits b (small s b))

type_fits : (t : Table) → IsBuilt t → (n : ℕ) (ty : Ty) (l : Layout) → slice_get t.types n ≡ Some ty → at_type (layout_rules t.model) t (layout_of t) ty ≡ Some l → l.size ≤ most_bytes
type_fits t b n Void l h q = absurd cc
type_fits t b n (Int i) l h q = let e : scalar_layout t.model (Number i) ≡ l = cc in let s = size_of_scalar t.model (Number i) in subst (λ (v : Layout). v.size ≤ most_bytes) e (omega (arith, s.1))
type_fits t b n (Ptr d) l h q = let e : scalar_layout t.model Pointer ≡ l = cc in let s = size_of_scalar t.model Pointer in subst (λ (v : Layout). v.size ≤ most_bytes) e (omega (arith, s.1))
type_fits t b n (Array d c) l h q = let s = map_some (array_layout c) (layout_of t d) l q in subst (λ (v : Layout). v.size ≤ most_bytes) s.2 ((small t b).arrays n d c s.0 h s.1)
type_fits t b n (Aggregate a) l h q = let s = and_then_some _ (slice_get t.aggregates a) l q in (small t b).aggregates a s.0 l s.1 s.2

-- the layouts of a table that was built fit
pub layout_fits : (t : Table) → IsBuilt t → (n : ℕ) (l : Layout) → layout_of t n ≡ Some l → IsExtent (extent_of l)
layout_fits t b n l h =
    let s = and_then_some (at_type (layout_rules t.model) t (layout_of t)) (slice_get t.types n) l (sym (by_type_is (layout_rules t.model) t b n) ∙ h) in
    let a = aligned t n l h in
    record { size = type_fits t b n s.0 l s.1 s.2; positive = a.positive; align = a.within }
