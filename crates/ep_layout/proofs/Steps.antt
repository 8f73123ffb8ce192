-- One step of the walk over a type's leaves.
use Rattle.std.proofs.Common.{◌≡◌, ℕ, zero, suc, ◌+◌, ◌*◌, ◌<◌, ◌≤◌, Bool, true, false, List, [], ◌∷◌, ◌++◌, length}
use Rattle.std.proofs.Common.{drop, slice_get, Option, Some, None, option_map, option_and_then, unwrap_or, refl, sym}
use Rattle.std.proofs.Common.{◌∙◌, ap, subst, arith, nat_lt, append_assoc, if◌then◌else◌}
use Rattle.std.specs.List.{All}
use Rattle.std.proofs.lemmas.Bool.Decides.{nat_tests}
use Rattle.std.proofs.lemmas.List.Elements.{All-nil, All-cons, All-head, All-tail, All-push}
use Rattle.ep_int.specs.declared.types.Model.{Model}
use Rattle.ep_int.specs.declared.types.Scalar.TheVariants.{Int as Number, Pointer}
use Rattle.ep_int.specs.Types.{size_of}
use Rattle.ep_layout.specs.declared.types.Leaf.{Leaf}
use Rattle.ep_layout.specs.declared.types.Ty.{Ty}
use Rattle.ep_layout.specs.declared.types.Ty.TheVariants.{Void, Int, Ptr, Array, Aggregate}
use Rattle.ep_layout.specs.declared.table.leaves.Task.{Task}
use Rattle.ep_layout.specs.declared.table.leaves.Task.TheVariants.{Object, Elements, Members}
use Rattle.ep_layout.specs.Layout.{Layout, AreLeavesFrom, shifted, repeated, most_bytes, struct_layout, union_layout}
use Rattle.ep_layout.specs.Layout.{array_layout}
use Rattle.ep_layout.specs.Table.{Table, AggregateRow, MemberRow, IsBuilt, TypeRules, at_each, at_type, at_aggregate}
use Rattle.ep_layout.specs.Table.{by_type, layout_rules, layout_of, known_layout, leaves, size, members_of, is_union}
use Rattle.ep_layout.specs.Pending.{RowFits, TaskFits, IsStep, task_leaves, pending, rows_leaves, step_rules, steps}
use Rattle.ep_layout.specs.Pending.{steps_of_all, rows_steps, task_steps, pending_steps}
use Rattle.ep_layout.proofs.Options.{map_some, map_is, and_then_is, at_each_some}
use Rattle.ep_layout.proofs.Recursion.{types_of, at_aggregate_at}
use Rattle.ep_layout.proofs.Laid.{laid, by_type_is, whole_at}
use Rattle.ep_layout.proofs.Sizes.{known, element_laid, size_of_scalar, layout_fits}
use Rattle.ep_layout.proofs.Ordered.{leaves_ordered}
use Rattle.ep_layout.proofs.Rows.{placed, known_of, leaves_of, type_there, rows_leaves_are, rows_fit, whole_leaves}
use Rattle.ep_layout.proofs.Rows.{whole_end, shifted_none, append_none}

---- tasks

module _ (t : Table) where
  pending_push : (ts : List Task) (k : Task) → pending t (ts ++ k ∷ []) ≡ task_leaves t k ++ pending t ts
  pending_push [] k = sym (append_none (task_leaves t k))
  pending_push (j ∷ ts) k = ap (λ (l : List Leaf). l ++ task_leaves t j) (pending_push ts k) ∙ append_assoc (task_leaves t k) (pending t ts) (task_leaves t j)

  steps_push : (ts : List Task) (k : Task) → pending_steps t (ts ++ k ∷ []) ≡ task_steps t k + pending_steps t ts
  steps_push [] k = omega arith
  steps_push (j ∷ ts) k = omega (arith, steps_push ts k)

  pub none_pushed : (task : Task) (out : List Leaf) (ts : List Task) → task_leaves t task ≡ [] → 0 < task_steps t task → All (TaskFits t) ts → IsStep t task out ts out ts
  none_pushed task out ts e p fit = record { leaves = sym (ap (λ (l : List Leaf). out ++ (l ++ pending t ts)) e); fit = fit; fewer = omega (arith, p) }

  pub leaf_pushed : (task : Task) (out after : List Leaf) (f : Leaf) (ts : List Task) → after ≡ out ++ f ∷ [] → task_leaves t task ≡ f ∷ [] → 0 < task_steps t task → All (TaskFits t) ts → IsStep t task out ts after ts
  leaf_pushed task out after f ts a e p fit = record {
    leaves = ap (λ (l : List Leaf). l ++ pending t ts) a ∙ append_assoc out (f ∷ []) (pending t ts) ∙ sym (ap (λ (l : List Leaf). out ++ (l ++ pending t ts)) e);
    fit = fit;
    fewer = omega (arith, p);
  }

  pub one_pushed : (task k : Task) (out : List Leaf) (ts later : List Task) → later ≡ ts ++ k ∷ [] → task_leaves t task ≡ task_leaves t k → TaskFits t k → task_steps t k < task_steps t task → All (TaskFits t) ts → IsStep t task out ts out later
  one_pushed task k out ts later a e fits less fit = record {
    leaves = ap (λ (l : List Task). out ++ pending t l) a ∙ ap (λ (l : List Leaf). out ++ l) (pending_push ts k ∙ ap (λ (l : List Leaf). l ++ pending t ts) (sym e));
    fit = subst (All (TaskFits t)) (sym a) (All-push (TaskFits t) ts k fit fits);
    fewer = omega (arith, ap (pending_steps t) a, steps_push ts k, less);
  }

  pub two_pushed : (task k j : Task) (out : List Leaf) (ts mid later : List Task) → mid ≡ ts ++ k ∷ [] → later ≡ mid ++ j ∷ [] → task_leaves t task ≡ task_leaves t j ++ task_leaves t k → TaskFits t k → TaskFits t j
      → task_steps t j + task_steps t k < task_steps t task → All (TaskFits t) ts → IsStep t task out ts out later
  two_pushed task k j out ts mid later a b e fits there less fit = record {
    leaves = ap (λ (l : List Task). out ++ pending t l) b ∙ ap (λ (l : List Leaf). out ++ l) (pending_push mid j ∙ ap (λ (l : List Task). task_leaves t j ++ pending t l) a ∙ ap (λ (l : List Leaf). task_leaves t j ++ l) (pending_push ts k) ∙ sym (append_assoc (task_leaves t j) (task_leaves t k) (pending t ts)) ∙ ap (λ (l : List Leaf). l ++ pending t ts) (sym e));
    fit = subst (All (TaskFits t)) (sym b) (All-push (TaskFits t) mid j (subst (All (TaskFits t)) (sym a) (All-push (TaskFits t) ts k fit fits)) there);
    fewer = omega (arith, ap (pending_steps t) b, steps_push mid j, ap (pending_steps t) a, steps_push ts k, less);
  }

---- lists of leaves

shifted_append : (k : ℕ) (xs ys : List Leaf) → shifted k (xs ++ ys) ≡ shifted k xs ++ shifted k ys
shifted_append k [] ys = refl
shifted_append k (f ∷ xs) ys = ap (λ (l : List Leaf). (record f { offset = k + f.offset }) ∷ l) (shifted_append k xs ys)

shifted_twice : (k j : ℕ) (xs : List Leaf) → shifted k (shifted j xs) ≡ shifted (k + j) xs
shifted_twice k j [] = refl
shifted_twice k j (f ∷ xs) =
    let e : k + (j + f.offset) ≡ k + j + f.offset = omega arith in
    ap (λ (i : ℕ). (record f { offset = i }) ∷ shifted k (shifted j xs)) e ∙ ap (λ (l : List Leaf). (record f { offset = k + j + f.offset }) ∷ l) (shifted_twice k j xs)

repeated_none : (n s : ℕ) (xs : List Leaf) → xs ≡ [] → repeated n s xs ≡ []
repeated_none zero s xs e = refl
repeated_none (suc n) s xs e = ap (λ (l : List Leaf). l ++ shifted s (repeated n s xs)) e ∙ ap (shifted s) (repeated_none n s xs e)

---- objects

type_value : {A : Type 0} (r : TypeRules A) (t : Table) → IsBuilt t → (n : ℕ) (ty : Ty) → slice_get t.types n ≡ Some ty → by_type r t n ≡ at_type r t (by_type r t) ty
type_value r t b n ty h = by_type_is r t b n ∙ ap (option_and_then (at_type r t (by_type r t))) h

abbrev OptionLeaves : Option Layout → List Leaf
OptionLeaves o = unwrap_or (option_map (λ (l : Layout). l.leaves) o) []

pub void_step : (t : Table) → IsBuilt t → (n offset : ℕ) → slice_get t.types n ≡ Some Void → (task_leaves t (Object n offset) ≡ []) × (0 < task_steps t (Object n offset))
void_step t b n offset h =
    let e : steps t n ≡ 2 = ap (λ (o : Option ℕ). unwrap_or o 2) (type_value step_rules t b n Void h) in
    (ap (λ (o : Option Layout). shifted offset (OptionLeaves o)) (type_value (layout_rules t.model) t b n Void h), omega (arith, e))

pub number_step : (t : Table) → IsBuilt t → (n offset : ℕ) (i : _) → slice_get t.types n ≡ Some (Int i) → (task_leaves t (Object n offset) ≡ (record { offset = offset; what = Number i }) ∷ []) × (0 < task_steps t (Object n offset))
number_step t b n offset i h =
    let e : steps t n ≡ 1 = ap (λ (o : Option ℕ). unwrap_or o 2) (type_value step_rules t b n (Int i) h) in
    let z : offset + 0 ≡ offset = omega arith in
    (ap (λ (o : Option Layout). shifted offset (OptionLeaves o)) (type_value (layout_rules t.model) t b n (Int i) h) ∙ ap (λ (k : ℕ). (let f : Leaf = record { offset = k; what = Number i } in f) ∷ []) z, omega (arith, e))

pub pointer_step : (t : Table) → IsBuilt t → (n offset d : ℕ) → slice_get t.types n ≡ Some (Ptr d) → (task_leaves t (Object n offset) ≡ (record { offset = offset; what = Pointer }) ∷ []) × (0 < task_steps t (Object n offset))
pointer_step t b n offset d h =
    let e : steps t n ≡ 1 = ap (λ (o : Option ℕ). unwrap_or o 2) (type_value step_rules t b n (Ptr d) h) in
    let z : offset + 0 ≡ offset = omega arith in
    (ap (λ (o : Option Layout). shifted offset (OptionLeaves o)) (type_value (layout_rules t.model) t b n (Ptr d) h) ∙ ap (λ (k : ℕ). (let f : Leaf = record { offset = k; what = Pointer } in f) ∷ []) z, omega (arith, e))

-- a task gives way to another one
pub record IsInstead (t : Table) (task k : Task) : Type 0 where
  pub leaves : task_leaves t task ≡ task_leaves t k
  pub fits : TaskFits t k
  pub fewer : task_steps t k < task_steps t task

element_steps : (t : Table) → IsBuilt t → (n d c : ℕ) → slice_get t.types n ≡ Some (Array d c) → steps t n ≡ 2 + c * (1 + steps t d)
element_steps t b n d c h =
    let x = (laid step_rules t b).types n (Array d c) h refl in
    let y = map_some (step_rules.array c) (by_type step_rules t d) x.0 (sym (type_value step_rules t b n (Array d c) h) ∙ x.1) in
    ap (λ (o : Option ℕ). unwrap_or o 2) x.1 ∙ sym y.2 ∙ ap (λ (o : Option ℕ). 2 + c * (1 + unwrap_or o 2)) (sym y.1)

pub array_instead : (t : Table) → IsBuilt t → (n offset d c : ℕ) → slice_get t.types n ≡ Some (Array d c) → TaskFits t (Object n offset) → IsInstead t (Object n offset) (Elements d offset c)
array_instead t b n offset d c h fits =
    let l = element_laid t b n d c h in
    let whole : layout_of t n ≡ Some (array_layout c l.0) = type_value (layout_rules t.model) t b n (Array d c) h ∙ map_is (array_layout c) (layout_of t d) l.0 l.1 in
    let size_is : (known_layout t n).size ≡ c * l.0.size = ap (λ (k : Layout). k.size) (known_of t n (array_layout c l.0) whole) in
    let part : (known_layout t d).size ≡ l.0.size = ap (λ (k : Layout). k.size) (known_of t d l.0 l.1) in
    let same : c * (known_layout t d).size ≡ c * l.0.size = ap (λ (k : ℕ). c * k) part in
    record {
      leaves = ap (shifted offset) (leaves_of t n (array_layout c l.0) whole ∙ ap (λ (k : ℕ). repeated c k l.0.leaves) (sym part) ∙ ap (repeated c (known_layout t d).size) (sym (leaves_of t d l.0 l.1)));
      fits = record { type = type_there t d l.0 l.1; end = omega (arith, fits.end, size_is, same) };
      fewer = omega (arith, element_steps t b n d c h);
    }

rows_steps_are : (t : Table) (ms : List MemberRow) (ws : List ℕ) → at_each (by_type step_rules t) (types_of ms) ≡ Some ws → steps_of_all ws ≡ rows_steps t ms
rows_steps_are t [] ws h = let e : [] ≡ ws = cc in ap steps_of_all (sym e)
rows_steps_are t (m ∷ ms) ws h =
    let s = at_each_some (by_type step_rules t) m.ty (types_of ms) ws h in
    let here : steps t m.ty ≡ s.0 = ap (λ (o : Option ℕ). unwrap_or o 2) s.2 in
    let rest = rows_steps_are t ms s.1 s.3 in
    let all : steps_of_all (s.0 ∷ s.1) ≡ steps_of_all ws = ap steps_of_all s.4 in
    omega (arith, here, rest, all)

choose_steps : (u : Bool) (ws : List ℕ) → (if u then step_rules.union else step_rules.struct) ws ≡ 2 + steps_of_all ws
choose_steps true ws = refl
choose_steps false ws = refl

whole_is : (u : Bool) (ls : List Layout) → ((if u then union_layout else struct_layout) ls).leaves ≡ whole_leaves u ls
whole_is true ls = refl
whole_is false ls = refl

whole_ends : (u : Bool) (ls : List Layout) → whole_end u ls ≤ ((if u then union_layout else struct_layout) ls).size
whole_ends true ls = omega arith
whole_ends false ls = omega arith

abbrev MembersAt : Table → ℕ → Option AggregateRow → List MemberRow
MembersAt t a o = unwrap_or (option_and_then (λ (g : AggregateRow). g.members) o) []

there : (t : Table) → IsBuilt t → (n a : ℕ) → slice_get t.types n ≡ Some (Aggregate a) → a < length t.aggregates
there t b n a h = let p : nat_lt a (length t.aggregates) ≡ true = known t b n (Aggregate a) h in grind (arith, nat_tests)

-- the members of the aggregate at a
abbrev OfMembers : Table → ℕ → ℕ → ℕ → Bool → List MemberRow → Type 0
OfMembers t n a offset u ms = (shifted offset (leaves t n) ≡ shifted offset (rows_leaves t u ms)) × All (RowFits t offset) ms × (1 + rows_steps t ms < steps t n)

no_members : (t : Table) → IsBuilt t → (n a offset : ℕ) (u : Bool) → slice_get t.types n ≡ Some (Aggregate a) → option_and_then (at_aggregate step_rules (by_type step_rules t)) (slice_get t.aggregates a) ≡ None → option_and_then (at_aggregate (layout_rules t.model) (layout_of t)) (slice_get t.aggregates a) ≡ None → OfMembers t n a offset u []
no_members t b n a offset u h no_steps no_layout =
    let e : steps t n ≡ 2 = ap (λ (o : Option ℕ). unwrap_or o 2) (type_value step_rules t b n (Aggregate a) h ∙ no_steps) in
    (ap (λ (o : Option Layout). shifted offset (OptionLeaves o)) (type_value (layout_rules t.model) t b n (Aggregate a) h ∙ no_layout), All-nil (RowFits t offset), omega (arith, e))

some_members : (t : Table) → IsBuilt t → (n a offset : ℕ) (g : AggregateRow) (ms : List MemberRow) → slice_get t.types n ≡ Some (Aggregate a) → TaskFits t (Object n offset) → slice_get t.aggregates a ≡ Some g → g.members ≡ Some ms → OfMembers t n a offset g.is_union ms
some_members t b n a offset g ms h fits here has =
    let p = placed t b a g ms here has in
    let whole : layout_of t n ≡ Some ((if g.is_union then union_layout else struct_layout) p.layouts) = type_value (layout_rules t.model) t b n (Aggregate a) h
    ∙ and_then_is (at_aggregate (layout_rules t.model) (layout_of t)) (slice_get t.aggregates a) g _ here (at_aggregate_at (layout_rules t.model) (layout_of t) g ms _ has (whole_at (layout_rules t.model) (layout_of t) g.is_union (types_of ms) p.layouts p.each)) in
    let ws = (laid step_rules t b).members a g ms here has in
    let count : steps t n ≡ (if g.is_union then step_rules.union else step_rules.struct) ws.0 = ap (λ (o : Option ℕ). unwrap_or o 2) (type_value step_rules t b n (Aggregate a) h
    ∙ and_then_is (at_aggregate step_rules (by_type step_rules t)) (slice_get t.aggregates a) g _ here (at_aggregate_at step_rules (by_type step_rules t) g ms _ has (whole_at step_rules (by_type step_rules t) g.is_union (types_of ms) ws.0 ws.1))) in
    let size_is = ap (λ (k : Layout). k.size) (known_of t n ((if g.is_union then union_layout else struct_layout) p.layouts) whole) in (
      ap (shifted offset) (leaves_of t n _ whole ∙ whole_is g.is_union p.layouts ∙ rows_leaves_are t g.is_union ms p),
      rows_fit t g.is_union ms offset p (omega (arith, fits.end, size_is, whole_ends g.is_union p.layouts)),
      omega (arith, count, choose_steps g.is_union ws.0, rows_steps_are t ms ws.0 ws.1),
    )

of_members : (t : Table) → IsBuilt t → (n a offset : ℕ) → slice_get t.types n ≡ Some (Aggregate a) → TaskFits t (Object n offset) → (o : Option AggregateRow) → slice_get t.aggregates a ≡ o
    → OfMembers t n a offset (unwrap_or (option_map (λ (g : AggregateRow). g.is_union) o) false) (unwrap_or (option_and_then (λ (g : AggregateRow). g.members) o) [])
of_members t b n a offset h fits None e = no_members t b n a offset false h (ap (option_and_then (at_aggregate step_rules (by_type step_rules t))) e) (ap (option_and_then (at_aggregate (layout_rules t.model) (layout_of t))) e)
of_members t b n a offset h fits (Some g) e = by_members g.members refl
  where
    by_members : (o : Option (List MemberRow)) → g.members ≡ o → OfMembers t n a offset g.is_union (unwrap_or o [])
    by_members None q = no_members t b n a offset g.is_union h (rw e (rw q refl)) (rw e (rw q refl))
    by_members (Some ms) q = some_members t b n a offset g ms h fits e q

pub aggregate_instead : (t : Table) → IsBuilt t → (n offset a : ℕ) → slice_get t.types n ≡ Some (Aggregate a) → TaskFits t (Object n offset) → IsInstead t (Object n offset) (Members a offset 0)
aggregate_instead t b n offset a h fits =
    let p = of_members t b n a offset h fits (slice_get t.aggregates a) refl in
    record { leaves = p.0; fits = (there t b n a h, p.1); fewer = p.2 }

---- elements

-- leaves inside no bytes are none
none_inside : (m : Model) (xs : List Leaf) → AreLeavesFrom m 0 0 xs → xs ≡ []
none_inside m [] h = refl
none_inside m (f ∷ xs) h = absurd (past m (f.offset + size_of m f.what) xs (let p = size_of_scalar m f.what in omega (arith, p.0)) h.2)
  where
    past : (m : Model) (e : ℕ) (xs : List Leaf) → 0 < e → AreLeavesFrom m e 0 xs → ⊥
    past m e [] p h = omega arith
    past m e (f ∷ xs) p h = past m (f.offset + size_of m f.what) xs (let p = size_of_scalar m f.what in omega (arith, p.0)) h.2

pub known_size : (t : Table) (n : ℕ) → unwrap_or (size t n) 0 ≡ (known_layout t n).size
known_size t n = by_option (layout_of t n)
  where
    by_option : (o : Option Layout) → unwrap_or (option_map (λ (l : Layout). l.size) o) 0 ≡ (unwrap_or o (record { size = 0; align = 1; leaves = [] })).size
    by_option None = refl
    by_option (Some l) = refl

pub no_bytes : (t : Table) (ty offset count : ℕ) → unwrap_or (size t ty) 0 ≡ 0 → task_leaves t (Elements ty offset count) ≡ []
no_bytes t ty offset count e =
    let none : leaves t ty ≡ [] = none_inside t.model (leaves t ty) (subst (λ (k : ℕ). AreLeavesFrom t.model 0 k (leaves t ty)) e (leaves_ordered t ty)) in
    ap (shifted offset) (repeated_none count (known_layout t ty).size (leaves t ty) none)

pub no_elements : (t : Table) (ty offset count : ℕ) → count ≡ 0 → task_leaves t (Elements ty offset count) ≡ []
no_elements t ty offset count e = ap (λ (k : ℕ). task_leaves t (Elements ty offset k)) e

pub elements_step : (t : Table) (ty offset count size rest : ℕ) → size ≡ (known_layout t ty).size → count ≡ suc rest → TaskFits t (Elements ty offset count)
    → (task_leaves t (Elements ty offset count) ≡ task_leaves t (Object ty offset) ++ task_leaves t (Elements ty (offset + size) rest)) × TaskFits t (Elements ty (offset + size) rest) × TaskFits t (Object ty offset)
    × (task_steps t (Object ty offset) + task_steps t (Elements ty (offset + size) rest) < task_steps t (Elements ty offset count))
elements_step t ty offset count size rest same e fits =
    let k : ℕ = (known_layout t ty).size in
    let product : count * k ≡ k + rest * k = ap (λ (n : ℕ). n * k) e ∙ omega arith in
    let work : count * (1 + steps t ty) ≡ 1 + steps t ty + rest * (1 + steps t ty) = ap (λ (n : ℕ). n * (1 + steps t ty)) e ∙ omega arith in (
      ap (λ (n : ℕ). shifted offset (repeated n k (leaves t ty))) e ∙ shifted_append offset (leaves t ty) (shifted k (repeated rest k (leaves t ty))) ∙ ap (λ (l : List Leaf). shifted offset (leaves t ty) ++ l) (shifted_twice offset k (repeated rest k (leaves t ty)) ∙ ap (λ (j : ℕ). shifted (offset + j) (repeated rest k (leaves t ty))) (sym same)),
      record { type = fits.type; end = omega (arith, fits.end, product, same) },
      record { type = fits.type; end = omega (arith, fits.end, product) },
      omega (arith, work),
    )

---- members

drop_here : (ms : List MemberRow) (n : ℕ) (m : MemberRow) → slice_get ms n ≡ Some m → drop n ms ≡ m ∷ drop (n + 1) ms
drop_here [] n m h = absurd cc
drop_here (k ∷ ms) zero m h = let e : k ≡ m = cc in ap (λ (j : MemberRow). j ∷ ms) e
drop_here (k ∷ ms) (suc n) m h = let e : suc (n + 1) ≡ suc n + 1 = omega arith in drop_here ms n m h ∙ ap (λ (j : ℕ). m ∷ drop j (k ∷ ms)) e

drop_past : (ms : List MemberRow) (n : ℕ) → slice_get ms n ≡ None → drop n ms ≡ []
drop_past [] zero h = refl
drop_past [] (suc n) h = refl
drop_past (k ∷ ms) zero h = absurd cc
drop_past (k ∷ ms) (suc n) h = drop_past ms n h

row_fits : (P : MemberRow → Type 0) (ms : List MemberRow) (n : ℕ) (m : MemberRow) → slice_get ms n ≡ Some m → All P ms → P m
row_fits P [] n m h q = absurd cc
row_fits P (k ∷ ms) zero m h q = let e : k ≡ m = cc in subst P e (All-head P k ms q)
row_fits P (k ∷ ms) (suc n) m h q = row_fits P ms n m h (All-tail P k ms q)

pub members_end : (t : Table) (a offset n : ℕ) → slice_get (members_of t a) n ≡ None → task_leaves t (Members a offset n) ≡ []
members_end t a offset n h = ap (λ (ms : List MemberRow). shifted offset (rows_leaves t (is_union t a) ms)) (drop_past (members_of t a) n h)

pub member_fits : (t : Table) (a offset n : ℕ) (m : MemberRow) → slice_get (members_of t a) n ≡ Some m → TaskFits t (Members a offset n) → TaskFits t (Object m.ty (offset + m.offset))
member_fits t a offset n m h fits = let f = row_fits (RowFits t offset) (members_of t a) n m h fits.1 in record { type = f.type; end = omega (arith, f.end) }

pub union_instead : (t : Table) (a offset n : ℕ) (m : MemberRow) → slice_get (members_of t a) n ≡ Some m → is_union t a ≡ true → TaskFits t (Members a offset n) → IsInstead t (Members a offset n) (Object m.ty (offset + m.offset))
union_instead t a offset n m h u fits =
    let d = drop_here (members_of t a) n m h in
    record {
      leaves = ap (λ (ms : List MemberRow). shifted offset (rows_leaves t (is_union t a) ms)) d ∙ ap (λ (b : Bool). shifted offset (rows_leaves t b (m ∷ drop (n + 1) (members_of t a)))) u ∙ ap (shifted offset) (append_none (shifted m.offset (leaves t m.ty))) ∙ shifted_twice offset m.offset (leaves t m.ty);
      fits = member_fits t a offset n m h fits;
      fewer = omega (arith, ap (rows_steps t) d);
    }

pub struct_step : (t : Table) (a offset n : ℕ) (m : MemberRow) → slice_get (members_of t a) n ≡ Some m → is_union t a ≡ false
    → (task_leaves t (Members a offset n) ≡ task_leaves t (Object m.ty (offset + m.offset)) ++ task_leaves t (Members a offset (n + 1)))
    × (task_steps t (Object m.ty (offset + m.offset)) + task_steps t (Members a offset (n + 1)) < task_steps t (Members a offset n))
struct_step t a offset n m h u =
    let d = drop_here (members_of t a) n m h in
    let rest : List MemberRow = drop (n + 1) (members_of t a) in (
      ap (λ (ms : List MemberRow). shifted offset (rows_leaves t (is_union t a) ms)) d ∙ ap (λ (b : Bool). shifted offset (rows_leaves t b (m ∷ rest))) u ∙ shifted_append offset (shifted m.offset (leaves t m.ty)) (rows_leaves t false rest)
          ∙ ap (λ (l : List Leaf). l ++ shifted offset (rows_leaves t false rest)) (shifted_twice offset m.offset (leaves t m.ty)) ∙ ap (λ (b : Bool). shifted (offset + m.offset) (leaves t m.ty) ++ shifted offset (rows_leaves t b rest)) (sym u),
      omega (arith, ap (rows_steps t) d),
    )

---- the walk

pub walk_begins : (t : Table) → IsBuilt t → (n : ℕ) (out : List Leaf) (ts : List Task) → n < length t.types → out ≡ [] → ts ≡ Object n 0 ∷ [] → (out ++ pending t ts ≡ leaves t n) × All (TaskFits t) ts
walk_begins t b n out ts l e q = (
  ap (λ (xs : List Leaf). xs ++ pending t ts) e ∙ ap (pending t) q ∙ shifted_none (leaves t n),
  subst (All (TaskFits t)) (sym q) (All-cons (TaskFits t) (Object n 0) [] (record { type = l; end = by_option (layout_of t n) refl }) (All-nil (TaskFits t))),
)
  where
    by_option : (o : Option Layout) → layout_of t n ≡ o → 0 + (unwrap_or o (record { size = 0; align = 1; leaves = [] })).size ≤ most_bytes
    by_option None h = omega arith
    by_option (Some k) h = omega (arith, (layout_fits t b n k h).size)

pub all_popped : (P : Task → Type 0) (ts rest : List Task) (k : Task) → ts ≡ rest ++ k ∷ [] → All P ts → (P k) × All P rest
all_popped P ts rest k e h = split rest (subst (All P) e h)
  where
    split : (xs : List Task) → All P (xs ++ k ∷ []) → (P k) × All P xs
    split [] q = (All-head P k [] q, All-nil P)
    split (x ∷ xs) q = let s = split xs (All-tail P x (xs ++ k ∷ []) q) in (s.0, All-cons P x xs (All-head P x (xs ++ k ∷ []) q) s.1)

pub steps_popped : (t : Table) (ts rest : List Task) (k : Task) → ts ≡ rest ++ k ∷ [] → pending_steps t ts ≡ task_steps t k + pending_steps t rest
steps_popped t ts rest k e = ap (pending_steps t) e ∙ steps_push t rest k

pub pending_popped : (t : Table) (ts rest : List Task) (k : Task) (out after all : List Leaf) (later : List Task) → ts ≡ rest ++ k ∷ [] → out ++ pending t ts ≡ all → IsStep t k out rest after later → after ++ pending t later ≡ all
pending_popped t ts rest k out after all later e h s = s.leaves ∙ ap (λ (l : List Leaf). out ++ l) (sym (ap (pending t) e ∙ pending_push t rest k)) ∙ h
