-- Parts of objects lie in their blocks, behind one another, and have leaves of them.
use Rattle.std.proofs.Common.{◌≡◌, ℕ, zero, suc, ◌+◌, ◌*◌, ◌<◌, ◌≤◌, nat_eq, nat_lt, Bool, true, false, true≢false}
use Rattle.std.proofs.lemmas.Bool.{or_cases}
use Rattle.std.proofs.lemmas.Bool.{and_from, or_left, or_right}
use Rattle.std.proofs.Common.{cond, ◌||◌, if◌then◌else◌, List, [], ◌∷◌, ◌++◌, slice_get, Option, Some, option_map}
use Rattle.std.proofs.Common.{option_and_then, unwrap_or, refl, sym, ap, ◌∙◌, subst, inl, inr, arith}
use Rattle.std.specs.List.{list_any}
use Rattle.std.specs.Int.{next_multiple_of}
use Rattle.std.proofs.lemmas.Bool.Decides.{nat_tests}
use Rattle.std.proofs.lemmas.Bool.{and_parts, eqb-true}
use Rattle.ep_int.specs.declared.types.Scalar.{Scalar}
use Rattle.ep_layout.specs.declared.types.Leaf.{Leaf}
use Rattle.ep_layout.specs.declared.types.Ty.TheVariants as rows
use Rattle.ep_layout.specs.Layout.{Layout, array_layout, end_of, first_leaves, greatest_size, leaves_after, repeated}
use Rattle.ep_layout.specs.Layout.{shifted, struct_layout, union_layout}
use Rattle.ep_layout.specs.Table.{AggregateRow, Grows, IsBuilt, MemberRow, Table, at_aggregate, at_each, is_union}
use Rattle.ep_layout.specs.Table.{layout_of, layout_rules, members_of, size}
use Rattle.ep_layout.proofs.Options.{and_then_some, at_each_more, at_each_some, map_some, same_some}
use Rattle.ep_layout.proofs.PlacingLemmas.{end_rises}
use Rattle.ep_layout.proofs.Recursion.{types_of}
use Rattle.ep_layout.proofs.Rows.{RowsAt, placed, type_there}
use Rattle.ep_layout.proofs.Sizes.{element_laid, layout_grows}
use Rattle.ep_core.specs.Program.{Block}
use Rattle.ep_core.specs.WellFormed.{is_leaf_at, is_same_scalar}
use Rattle.ep_core.proofs.Sorts.{never}
use Rattle.ep_typing.specs.declared.types.CType.{CType}
use Rattle.ep_typing.specs.Types.{bound_of, element_of, is_aggregate, is_array, number_in, size_of_type, type_of}
use Rattle.ep_elaboration.specs.Declarators.{Object}
use Rattle.ep_elaboration.specs.Given.{element_at, first_member, given_members, member_object, part_at}
use Rattle.ep_well_formed_laws.specs.Numbers.{IsTable, type_number}
use Rattle.ep_well_formed_laws.proofs.Additions.{type_number_stays}
use Rattle.ep_well_formed_laws.proofs.Extents.{layout_at, same_size}
use Rattle.ep_well_formed_laws.proofs.Parts.{aggregate_row, array_is_of, number_again}
use Rattle.ep_well_formed_laws.proofs.Tests.{either_way, if_not, if_so}

-- ---- leaves in lists

abbrev pub has_leaf : List Leaf → ℕ → Scalar → Bool
has_leaf ls o w = list_any (is_leaf_at o w) ls

leaf_front : (o : ℕ) (w : Scalar) (xs ys : List Leaf) → has_leaf xs o w ≡ true → has_leaf (xs ++ ys) o w ≡ true
leaf_front o w [] ys h = never h
leaf_front o w (x ∷ xs) ys h = elim (or_cases (is_leaf_at o w x) (has_leaf xs o w) h) [
  | inl e ↦ or_left (is_leaf_at o w x) (has_leaf (xs ++ ys) o w) e
  | inr e ↦ or_right (is_leaf_at o w x) (has_leaf (xs ++ ys) o w) (leaf_front o w xs ys e)
]

leaf_back : (o : ℕ) (w : Scalar) (xs ys : List Leaf) → has_leaf ys o w ≡ true → has_leaf (xs ++ ys) o w ≡ true
leaf_back o w [] ys h = h
leaf_back o w (x ∷ xs) ys h = or_right (is_leaf_at o w x) (has_leaf (xs ++ ys) o w) (leaf_back o w xs ys h)

leaf_shifted : (k o : ℕ) (w : Scalar) (xs : List Leaf) → has_leaf xs o w ≡ true
    → has_leaf (shifted k xs) (k + o) w ≡ true
leaf_shifted k o w [] h = never h
leaf_shifted k o w (x ∷ xs) h = elim (or_cases (is_leaf_at o w x) (has_leaf xs o w) h) [
  | inl e ↦
      let p = and_parts (nat_eq x.offset o) (is_same_scalar x.what w) e in
      let same : x.offset ≡ o = eqb-true x.offset o p.0 in
      or_left (is_leaf_at (k + o) w (record x { offset = k + x.offset })) (has_leaf (shifted k xs) (k + o) w)
      (and_from (nat_eq (k + x.offset) (k + o)) (is_same_scalar x.what w) (here same) p.1)
  | inr e ↦ or_right (is_leaf_at (k + o) w (record x { offset = k + x.offset })) (has_leaf (shifted k xs) (k + o) w)
      (leaf_shifted k o w xs e)
]
  where
    here : x.offset ≡ o → nat_eq (k + x.offset) (k + o) ≡ true
    here e = let f : k + x.offset ≡ k + o = omega (arith, e) in grind (arith, nat_tests)

leaf_repeated : (n step : ℕ) (xs : List Leaf) (i o : ℕ) (w : Scalar) → i < n → has_leaf xs o w ≡ true
    → has_leaf (repeated n step xs) (i * step + o) w ≡ true
leaf_repeated zero step xs i o w l h = absurd (omega (arith, l))
leaf_repeated (suc n) step xs zero o w l h =
    let e : o ≡ 0 * step + o = omega arith in
    leaf_front (0 * step + o) w xs (shifted step (repeated n step xs)) (subst (λ (j : ℕ). has_leaf xs j w ≡ true) e h)
leaf_repeated (suc n) step xs (suc i) o w l h =
    let e : step + (i * step + o) ≡ suc i * step + o = omega arith in
    leaf_back (suc i * step + o) w xs (shifted step (repeated n step xs))
    (subst (λ (j : ℕ). has_leaf (shifted step (repeated n step xs)) j w ≡ true) e
    (leaf_shifted step (i * step + o) w (repeated n step xs) (leaf_repeated n step xs i o w (omega (arith, l)) h)))

-- ---- an object in its block

pub record InBlock (t : Table) (bs : List Block) (x : Object) (l : Layout) : Type 0 where
  pub number : ℕ
  pub has : type_number t x.ty ≡ Some number
  pub laid : layout_of t number ≡ Some l
  pub block : Block
  pub here : slice_get bs x.block ≡ Some block
  pub is_global : block.global ≡ true
  pub whole : Layout
  pub whole_laid : layout_of t block.ty ≡ Some whole
  pub leaves : (o : ℕ) (w : Scalar) → has_leaf l.leaves o w ≡ true → has_leaf whole.leaves (x.offset + o) w ≡ true

pub in_block_later : (t u : Table) (bs : List Block) (x : Object) (l : Layout) → Grows t u → IsBuilt u
    → InBlock t bs x l → InBlock u bs x l
in_block_later t u bs x l g b h = record {
  number = h.number;
  has = type_number_stays t u g b x.ty h.number h.has;
  laid = layout_grows t u g h.number l h.laid;
  block = h.block;
  here = h.here;
  is_global = h.is_global;
  whole = h.whole;
  whole_laid = layout_grows t u g h.block.ty h.whole h.whole_laid;
  leaves = h.leaves;
}

-- a part of an object, so many bytes behind its begin
part_in : (t : Table) (bs : List Block) (x y : Object) (l k : Layout) (n at : ℕ) → InBlock t bs x l → y.block ≡ x.block
    → y.offset ≡ x.offset + at → type_number t y.ty ≡ Some n → layout_of t n ≡ Some k
    → ((o : ℕ) (w : Scalar) → has_leaf k.leaves o w ≡ true → has_leaf l.leaves (at + o) w ≡ true) → InBlock t bs y k
part_in t bs x y l k n at h b f number laid leaf = record {
  number = n;
  has = number;
  laid = laid;
  block = h.block;
  here = subst (λ (j : ℕ). slice_get bs j ≡ Some h.block) (sym b) h.here;
  is_global = h.is_global;
  whole = h.whole;
  whole_laid = h.whole_laid;
  leaves = λ o w q.
      let e : x.offset + (at + o) ≡ y.offset + o = omega (arith, f) in
      subst (λ (j : ℕ). has_leaf h.whole.leaves j w ≡ true) e (h.leaves (at + o) w (leaf o w q));
}

-- ---- parts behind one another

-- Where the parts of a list lie: from the end of those before this one on.
pub record PartFits (t : Table) (bs : List Block) (x y : Object) (l : Layout) (from : ℕ → ℕ) (i : ℕ) : Type 0 where
  pub layout : Layout
  pub inside : InBlock t bs y layout
  pub block : y.block ≡ x.block
  pub begins : x.offset + from i ≤ y.offset
  pub ends : y.offset + layout.size ≤ x.offset + from (suc i)

-- as long as the table grows
pub record Spread (t : Table) (bs : List Block) (x : Object) (l : Layout) : Type 0 where
  pub from : ℕ → ℕ
  pub part : (u : Table) → Grows t u → IsTable u → (i : ℕ) (y : Object) → part_at u x i ≡ Some y
      → PartFits u bs x y l from i
  pub size : (i : ℕ) → from i ≤ l.size

-- ---- elements

times_up : (a b s : ℕ) → a ≤ b → a * s ≤ b * s
times_up zero b s l = omega arith
times_up (suc a) zero s l = absurd (omega (arith, l))
times_up (suc a) (suc b) s l =
    let r : a * s ≤ b * s = times_up a b s (omega (arith, l)) in
    let e : suc a * s ≡ s + a * s = omega arith in
    let f : suc b * s ≡ s + b * s = omega arith in omega (arith, r, e, f)

element_from : (k step : ℕ) → ℕ → ℕ
element_from k step i = cond (nat_lt i k) (i * step) (k * step)

from_before : (k step i : ℕ) → i < k → element_from k step i ≡ i * step
unfolding element_from
from_before k step i l = let e : nat_lt i k ≡ true = grind (arith, nat_tests) in rw e refl

from_next : (k step i : ℕ) → i < k → element_from k step (suc i) ≡ suc i * step
unfolding element_from
from_next k step i l = by (nat_lt (suc i) k) refl
  where
    by : (b : Bool) → nat_lt (suc i) k ≡ b → cond b (suc i * step) (k * step) ≡ suc i * step
    by true q = refl
    by false q = let e : k ≡ suc i = grind (arith, nat_tests) in ap (λ (j : ℕ). j * step) e

from_small : (k step i : ℕ) → element_from k step i ≤ k * step
unfolding element_from
from_small k step i = by (nat_lt i k) refl
  where
    by : (b : Bool) → nat_lt i k ≡ b → cond b (i * step) (k * step) ≤ k * step
    by true q = times_up i k step (grind (arith, nat_tests))
    by false q = omega arith

-- the layout of an array is that of its elements, so often
array_laid : (t : Table) → IsBuilt t → (n e k : ℕ) (l m : Layout) → slice_get t.types n ≡ Some (rows.Array e k)
    → layout_of t n ≡ Some l
    → layout_of t e ≡ Some m → l ≡ array_layout k m
array_laid t b n e k l m row laid element =
    let p = sym (layout_at t b n (rows.Array e k) row) ∙ laid in
    let q : option_map (array_layout k) (Some m)
    ≡ Some l = subst (λ (o : Option Layout). option_map (array_layout k) o ≡ Some l) element p in
    let same : array_layout k m ≡ l = cc in sym same

pub some_object : (x y : Object) → Some x ≡ Some y → x ≡ y
some_object x y e = cc

same_row : (e k f j : ℕ) → Some (rows.Array e k) ≡ Some (rows.Array f j) → (e ≡ f) × (k ≡ j)
same_row e k f j z = (cc, cc)

element_part_fits : (u : Table) (bs : List Block) (x : Object) (l : Layout) → IsTable u → (v : InBlock u bs x l)
    → is_array x.ty ≡ true
    → (e k : ℕ) (m : Layout) → slice_get u.types v.number ≡ Some (rows.Array e k) → layout_of u e ≡ Some m
    → l ≡ array_layout k m
    → (i : ℕ) (y : Object) → part_at u x i ≡ Some y → PartFits u bs x y l (element_from k m.size) i
element_part_fits u bs x l b v a e k m row element same i y p =
    let s = array_is_of u b x.ty v.number a v.has in
    let r = same_row s.0 s.1 e k (sym s.2.row ∙ row) in
    let ty : element_of u x.ty ≡ type_of u e = s.2.element ∙ ap (type_of u) r.0 in
    let bound : bound_of u x.ty ≡ k = s.2.bound ∙ r.1 in
    let number : type_number u (type_of u e) ≡ Some e =
    subst (λ (j : ℕ). type_number u (type_of u j) ≡ Some j) r.0 s.2.has in
    let sized : size u e ≡ Some m.size = ap (option_map (λ (z : Layout). z.size)) element in
    let unit : unwrap_or (size_of_type u (element_of u x.ty)) 0 ≡ m.size =
    ap (λ (c : CType). unwrap_or (size_of_type u c) 0) ty
    ∙ ap (λ (o : Option ℕ). unwrap_or o 0) (same_size u b.built (type_of u e) e number ∙ sized) in
    let at : element_at u x i ≡ Some y = sym (if_so (is_array x.ty) (element_at u x i) _ a) ∙ p in
    elim (either_way (nat_lt i (bound_of u x.ty)) _ _ (Some y) at) [
      | inl q ↦
          let is = some_object _ y q.1 in
          let less : i < k = below_bound (bound_of u x.ty) q.0 bound in
          let offset : y.offset ≡ x.offset + i * m.size =
          sym (ap (λ (z : Object). z.offset) is) ∙ ap (λ (j : ℕ). x.offset + i * j) unit in
          let start = from_before k m.size i less in
          let next = from_next k m.size i less in
          let more : suc i * m.size ≡ m.size + i * m.size = omega arith in
          record {
            layout = m;
            inside = part_in u bs x y l m e (i * m.size) v (sym (ap (λ (z : Object). z.block) is)) offset
                (ap (type_number u) (sym (ap (λ (z : Object). z.ty) is) ∙ ty) ∙ number) element
                (λ o w h. subst (λ (z : Layout). has_leaf z.leaves (i * m.size + o) w ≡ true) (sym same)
                (leaf_repeated k m.size m.leaves i o w less h));
            block = sym (ap (λ (z : Object). z.block) is);
            begins = omega (arith, offset, start);
            ends = omega (arith, offset, next, more);
          }
      | inr q ↦ absurd (let z = q.1 in cc)
    ]
  where
    below_bound : (n : ℕ) → nat_lt i n ≡ true → n ≡ k → i < k
    below_bound n h f = let l : i < n = grind (arith, nat_tests) in omega (arith, l, f)

array_spread : (t : Table) (bs : List Block) (x : Object) (l : Layout) → IsTable t → InBlock t bs x l
    → is_array x.ty ≡ true
    → Spread t bs x l
unfolding in_block_later
array_spread t bs x l h q a =
    let r = array_is_of t h x.ty q.number a q.has in
    let m = element_laid t h.built q.number r.0 r.1 r.2.row in
    let same = array_laid t h.built q.number r.0 r.1 l m.0 r.2.row q.laid m.1 in
    record {
      from = element_from r.1 m.0.size;
      part = λ u g b i y p. element_part_fits u bs x l b (in_block_later t u bs x l g b.built q) a r.0 r.1 m.0
          (g.types q.number (rows.Array r.0 r.1) r.2.row) (layout_grows t u g r.0 m.0 m.1) same i y p;
      size = λ i. let f = from_small r.1 m.0.size i in
          let z : l.size ≡ r.1 * m.0.size = ap (λ (j : Layout). j.size) same in omega (arith, f, z);
    }

-- ---- members

-- the end of the first members, when those before end at e
end_at : ℕ → List Layout → ℕ → ℕ
end_at e ls zero = e
end_at e [] (suc i) = e
end_at e (l ∷ ls) (suc i) = end_at (next_multiple_of e l.align + l.size) ls i

end_inside : (e : ℕ) (ls : List Layout) (i : ℕ) → end_at e ls i ≤ end_of e ls
unfolding end_at
end_inside e ls zero = end_rises ls e
end_inside e [] (suc i) = omega arith
end_inside e (l ∷ ls) (suc i) = end_inside (next_multiple_of e l.align + l.size) ls i

-- a member of a struct, and one of a union
record IsMemberAt (t : Table) (whole : List Leaf) (m : MemberRow) (before after : ℕ) : Type 0 where
  layout : Layout
  laid : layout_of t m.ty ≡ Some layout
  begins : before ≤ m.offset
  ends : m.offset + layout.size ≤ after
  leaf : (o : ℕ) (w : Scalar) → has_leaf layout.leaves o w ≡ true → has_leaf whole (m.offset + o) w ≡ true

struct_member : (t : Table) (ms : List MemberRow) (e : ℕ) (ls : List Layout) (i : ℕ) (m : MemberRow)
    → at_each (layout_of t) (types_of ms) ≡ Some ls
    → RowsAt false e ls ms → slice_get ms i ≡ Some m
    → IsMemberAt t (leaves_after e ls) m (end_at e ls i) (end_at e ls (suc i))
unfolding end_at
struct_member t [] e ls i m h p q = absurd cc
struct_member t (x ∷ ms) e [] i m h p q = absurd p
struct_member t (x ∷ ms) e (l ∷ ls) zero m h p q =
    let s = at_each_some (layout_of t) x.ty (types_of ms) (l ∷ ls) h in
    let same : s.0 ≡ l = (let z = s.4 in cc) in
    let is : x ≡ m = cc in
    let offset : m.offset ≡ next_multiple_of e l.align = subst
    (λ (y : MemberRow). y.offset ≡ next_multiple_of e l.align) is p.0 in
    record {
      layout = l;
      laid = subst (λ (y : MemberRow). layout_of t y.ty ≡ Some l) is (s.2 ∙ ap (λ (z : Layout). Some z) same);
      begins = omega (arith, offset);
      ends = omega (arith, offset);
      leaf = λ o w k. subst (λ (j : ℕ). has_leaf (leaves_after e (l ∷ ls)) (j + o) w ≡ true) (sym offset)
          (leaf_front (next_multiple_of e l.align + o) w (shifted (next_multiple_of e l.align) l.leaves)
          (leaves_after (next_multiple_of e l.align + l.size) ls)
          (leaf_shifted (next_multiple_of e l.align) o w l.leaves k));
    }
struct_member t (x ∷ ms) e (l ∷ ls) (suc i) m h p q =
    let s = at_each_some (layout_of t) x.ty (types_of ms) (l ∷ ls) h in
    let more : s.1 ≡ ls = (let z = s.4 in cc) in
    let f : ℕ = next_multiple_of e l.align + l.size in
    let r = struct_member t ms f ls i m (s.3 ∙ ap (λ (z : List Layout). Some z) more) p.1 q in
    record {
      layout = r.layout;
      laid = r.laid;
      begins = r.begins;
      ends = r.ends;
      leaf = λ o w k. leaf_back (m.offset + o) w (shifted (next_multiple_of e l.align) l.leaves) (leaves_after f ls)
          (r.leaf o w k);
    }

first_size : List Layout → ℕ
first_size [] = 0
first_size (l ∷ ls) = l.size

union_from : List Layout → ℕ → ℕ
union_from ls zero = 0
union_from ls (suc i) = first_size ls

union_member : (t : Table) (ms : List MemberRow) (ls : List Layout) (i : ℕ) (m : MemberRow)
    → at_each (layout_of t) (types_of ms) ≡ Some ls
    → RowsAt true 0 ls ms → slice_get (first_member ms) i ≡ Some m
    → IsMemberAt t (first_leaves ls) m (union_from ls i) (union_from ls (suc i))
unfolding union_from first_size
union_member t [] ls i m h p q = absurd cc
union_member t (x ∷ ms) [] i m h p q = absurd p
union_member t (x ∷ ms) (l ∷ ls) zero m h p q =
    let s = at_each_some (layout_of t) x.ty (types_of ms) (l ∷ ls) h in
    let same : s.0 ≡ l = (let z = s.4 in cc) in
    let is : x ≡ m = cc in
    let offset : m.offset ≡ 0 = subst (λ (y : MemberRow). y.offset ≡ 0) is p.0 in
    record {
      layout = l;
      laid = subst (λ (y : MemberRow). layout_of t y.ty ≡ Some l) is (s.2 ∙ ap (λ (z : Layout). Some z) same);
      begins = omega arith;
      ends = omega (arith, offset);
      leaf = λ o w k.
          let e : o ≡ m.offset + o = omega (arith, offset) in subst (λ (j : ℕ). has_leaf l.leaves j w ≡ true) e k;
    }
union_member t (x ∷ ms) (l ∷ ls) (suc i) m h p q = absurd cc

union_small : (ls : List Layout) (i : ℕ) → union_from ls i ≤ greatest_size ls
unfolding union_from first_size
union_small ls zero = omega arith
union_small [] (suc i) = omega arith
union_small (l ∷ ls) (suc i) = omega arith

-- ---- aggregates

-- where the members that a list gives values lie
aggregate_from : Bool → List Layout → ℕ → ℕ
aggregate_from true ls = union_from ls
aggregate_from false ls = end_at 0 ls

-- an aggregate with a layout is completed
record IsCompleted (t : Table) (a : ℕ) (l : Layout) : Type 0 where
  row : AggregateRow
  here : slice_get t.aggregates a ≡ Some row
  members : List MemberRow
  are : row.members ≡ Some members
  layouts : List Layout
  each : at_each (layout_of t) (types_of members) ≡ Some layouts
  rows : RowsAt row.is_union 0 layouts members
  is : (if row.is_union then union_layout else struct_layout) layouts ≡ l

completed : (t : Table) → IsBuilt t → (n a : ℕ) (l : Layout) → slice_get t.types n ≡ Some (rows.Aggregate a)
    → layout_of t n ≡ Some l
    → IsCompleted t a l
completed t b n a l row laid =
    let p = sym (layout_at t b n (rows.Aggregate a) row) ∙ laid in
    let s = and_then_some (at_aggregate (layout_rules t.model) (layout_of t)) (slice_get t.aggregates a) l p in
    let q = and_then_some _ s.0.members l s.2 in
    let r = map_some (if s.0.is_union then union_layout else struct_layout) (at_each (layout_of t) (types_of q.0)) l
    (by s.0.is_union q.0 q.2) in
    let v = placed t b a s.0 q.0 s.1 q.1 in
    let same : v.layouts ≡ r.0 = same_some v.layouts r.0 (at_each (layout_of t) (types_of q.0)) v.each r.1 in
    record {
      row = s.0;
      here = s.1;
      members = q.0;
      are = q.1;
      layouts = r.0;
      each = r.1;
      rows = subst (λ (ls : List Layout). RowsAt s.0.is_union 0 ls q.0) same v.rows;
      is = r.2;
    }
  where
    by : (u : Bool) (ms : List MemberRow)
        → option_map (if u then (layout_rules t.model).union else (layout_rules t.model).struct)
        (at_each (layout_of t) (types_of ms)) ≡ Some l
        → option_map (if u then union_layout else struct_layout) (at_each (layout_of t) (types_of ms)) ≡ Some l
    by true ms e = e
    by false ms e = e

member_is : (u : Table) (ms : List MemberRow) (ls : List Layout) (l : Layout) (q : Bool) (i : ℕ) (m : MemberRow)
    → at_each (layout_of u) (types_of ms) ≡ Some ls → RowsAt q 0 ls ms
    → (if q then union_layout else struct_layout) ls ≡ l
    → slice_get (if q then first_member ms else ms) i ≡ Some m
    → IsMemberAt u l.leaves m (aggregate_from q ls i) (aggregate_from q ls (suc i))
unfolding aggregate_from
member_is u ms ls l true i m each row same e =
    subst (λ (z : Layout). IsMemberAt u z.leaves m (union_from ls i) (union_from ls (suc i))) same
    (union_member u ms ls i m each row e)
member_is u ms ls l false i m each row same e =
    subst (λ (z : Layout). IsMemberAt u z.leaves m (end_at 0 ls i) (end_at 0 ls (suc i))) same
    (struct_member u ms 0 ls i m each row e)

member_part_fits : (u : Table) (bs : List Block) (x : Object) (l : Layout) → IsTable u → (v : InBlock u bs x l)
    → (union : Bool)
    (ms : List MemberRow) (ls : List Layout) → is_union u (number_in x.ty.base) ≡ union
    → members_of u (number_in x.ty.base) ≡ ms
    → at_each (layout_of u) (types_of ms) ≡ Some ls → RowsAt union 0 ls ms
    → (if union then union_layout else struct_layout) ls ≡ l
    → is_array x.ty ≡ false → (i : ℕ) (y : Object) → part_at u x i ≡ Some y
    → PartFits u bs x y l (aggregate_from union ls) i
member_part_fits u bs x l b v union ms ls is are each row same a i y p =
    let at : option_map (member_object u x) (slice_get (given_members u (number_in x.ty.base)) i) ≡ Some y =
    sym (if_not (is_array x.ty) (element_at u x i) _ a) ∙ p in
    let m = map_some (member_object u x) (slice_get (given_members u (number_in x.ty.base)) i) y at in
    let among : slice_get (if union then first_member ms else ms) i ≡ Some m.0 =
    subst (λ (q : Bool). slice_get (if q then first_member ms else ms) i ≡ Some m.0) is
    (subst (λ (zs : List MemberRow). slice_get (if is_union u (number_in x.ty.base) then first_member zs else zs) i
    ≡ Some m.0) are m.1) in
    made m.0 m.2 (member_is u ms ls l union i m.0 each row same among)
  where
    made : (m : MemberRow) → member_object u x m ≡ y
        → IsMemberAt u l.leaves m (aggregate_from union ls i) (aggregate_from union ls (suc i))
        → PartFits u bs x y l (aggregate_from union ls) i
    made m e k =
        let n : type_number u (type_of u m.ty)
        ≡ Some m.ty = number_again u b m.ty (type_there u m.ty k.layout k.laid) in
        let offset : y.offset ≡ x.offset + m.offset = sym (ap (λ (z : Object). z.offset) e) in
        let block : y.block ≡ x.block = sym (ap (λ (z : Object). z.block) e) in
        record {
          layout = k.layout;
          inside = part_in u bs x y l k.layout m.ty m.offset v block offset
              (ap (type_number u) (sym (ap (λ (z : Object). z.ty) e)) ∙ n) k.laid k.leaf;
          block = block;
          begins = (let f = k.begins in omega (arith, offset, f));
          ends = (let f = k.ends in omega (arith, offset, f));
        }

aggregate_small : (q : Bool) (ls : List Layout) (l : Layout) (i : ℕ)
    → (if q then union_layout else struct_layout) ls ≡ l
    → aggregate_from q ls i ≤ l.size
unfolding aggregate_from
aggregate_small true ls l i e =
    let f = union_small ls i in let g : (union_layout ls).size
    ≡ l.size = ap (λ (z : Layout). z.size) e in omega (arith, f, g)
aggregate_small false ls l i e =
    let f = end_inside 0 ls i in let g : (struct_layout ls).size
    ≡ l.size = ap (λ (z : Layout). z.size) e in omega (arith, f, g)

aggregate_spread : (t : Table) (bs : List Block) (x : Object) (l : Layout) → IsTable t → InBlock t bs x l
    → is_aggregate x.ty ≡ true
    → is_array x.ty ≡ false → Spread t bs x l
aggregate_spread t bs x l h q g a =
    let n = number_in x.ty.base in
    let c = completed t h.built q.number n l (aggregate_row t x.ty q.number g q.has) q.laid in
    record {
      from = aggregate_from c.row.is_union c.layouts;
      part = λ u grows b i y p.
          let r = grows.aggregates n c.row c.here in
          let union : is_union u n ≡ c.row.is_union =
          ap (λ (o : Option AggregateRow). unwrap_or (option_map (λ (z : AggregateRow). z.is_union) o) false) r.1
          ∙ r.2 in
          let members : members_of u n ≡ c.members =
          ap (λ (o : Option AggregateRow). unwrap_or (option_and_then (λ (z : AggregateRow). z.members) o) []) r.1
          ∙ ap (λ (o : Option (List MemberRow)). unwrap_or o []) (r.3 c.members c.are) in
          member_part_fits u bs x l b (in_block_later t u bs x l grows b.built q) c.row.is_union c.members c.layouts
          union members
          (at_each_more (layout_of t) (layout_of u) (layout_grows t u grows) (types_of c.members) c.layouts c.each)
          c.rows c.is a i y p;
      size = λ i. aggregate_small c.row.is_union c.layouts l i c.is;
    }

-- an object that has parts
pub spread : (t : Table) (bs : List Block) (x : Object) (l : Layout) → IsTable t → InBlock t bs x l
    → (is_array x.ty || is_aggregate x.ty) ≡ true → Spread t bs x l
spread t bs x l h q p = by (is_array x.ty) refl
  where
    by : (b : Bool) → is_array x.ty ≡ b → Spread t bs x l
    by true a = array_spread t bs x l h q a
    by false a = elim (or_cases (is_array x.ty) (is_aggregate x.ty) p) [
      | inl r ↦ absurd (true≢false (sym r ∙ a))
      | inr r ↦ aggregate_spread t bs x l h q r a
    ]
