-- Names, numbers, parts of objects, addresses, casts and sizes are what their types say.
use Rattle.std.proofs.Common.{◌≡◌, ℕ, zero, suc, ◌<◌, ◌≤◌, ◌==◌, nat_eq, Bool, true, false, true≢false, cond, ◌&&◌}
use Rattle.ep_typing.specs.SameTypes.{int_itself}
use Rattle.ep_int.proofs.Basics.{nat_eq-self}
use Rattle.std.proofs.lemmas.Bool.{not-false}
use Rattle.std.proofs.lemmas.Bool.{and_from, or_left, or_right}
use Rattle.std.proofs.lemmas.Option.{slice_get_within}
use Rattle.std.proofs.Common.{◌||◌, not, if◌then◌else◌, List, [], ◌∷◌, ◌++◌, length, map, find, slice_get, Option}
use Rattle.std.proofs.Common.{Some, None, option_map, option_and_then, unwrap_or, bytes_eq, codes, int_le, Result, Ok}
use Rattle.std.proofs.Common.{Err, refl, sym, ap, ◌∙◌, subst, ◌⊎◌, inl, inr, arith, pos}
use Rattle.std.specs.List.{list_any}
use Rattle.std.proofs.lemmas.Bool.Decides.{nat_tests}
use Rattle.std.proofs.lemmas.Bool.{and_parts}
use Rattle.std.proofs.lemmas.Int.{ints}
use Rattle.ep_int.specs.declared.types.IntType.{IntType}
use Rattle.ep_int.specs.declared.types.IntType.TheVariants.{I8, U8, I16, U16, I32, U32, I64, U64}
use Rattle.ep_int.specs.declared.types.Model.{Model}
use Rattle.ep_int.specs.declared.types.Model.TheVariants.{Ilp32, Lp64}
use Rattle.ep_int.specs.declared.types.Scalar.TheVariants as scalars
use Rattle.ep_int.specs.Types.{bytes_of, pointer_bytes, wrapped}
use Rattle.ep_int.specs.Arith.{is_in_range}
use Rattle.ep_ast.specs.declared.expressions.Literal.{Literal}
use Rattle.ep_ast.specs.Mark as mark
use Rattle.ep_layout.specs.declared.types.Ty.{Ty}
use Rattle.ep_layout.specs.declared.types.Ty.TheVariants as rows
use Rattle.ep_layout.specs.Layout.{Layout}
use Rattle.ep_layout.specs.Table.{AggregateRow, MemberRow, Table, aggregate_layout, at_aggregate, at_each}
use Rattle.ep_layout.specs.Table.{elements_of, layout_of, layout_rules, member_named, members_of, size}
use Rattle.ep_layout.proofs.Options.{and_then_some, at_each_some, map_some}
use Rattle.ep_layout.proofs.Recursion.{types_of}
use Rattle.ep_layout.proofs.Rows.{placed, type_there}
use Rattle.ep_layout.proofs.Sizes.{known, layout_fits, small}
use Rattle.ep_core.specs.Program as core
use Rattle.ep_core.specs.Program.{Block, Expr, Place}
use Rattle.ep_core.specs.WellFormed as formed
use Rattle.ep_core.specs.WellFormed.{has_sort, has_member, integer, is_array_of, has_bound}
use Rattle.ep_core.specs.WellFormed.{is_same_scalar, pointer_to as pointing, int_type_of, is_number, is_length}
use Rattle.ep_core.specs.WellFormed.{place_has, has_scalar, is_sort, sort_of, some_type, is_int}
use Rattle.ep_core.proofs.Sorts.{never}
use Rattle.ep_typing.specs.declared.types.Base.{Base}
use Rattle.ep_typing.specs.declared.types.Base.TheVariants as bases
use Rattle.ep_typing.specs.declared.types.CType.{CType}
use Rattle.ep_typing.specs.Results.{needed}
use Rattle.ep_typing.specs.Types.{base_size, bound_of, element_of, int_of, is_aggregate, is_aggregate_base, is_array}
use Rattle.ep_typing.specs.Types.{is_array_base, is_int_base, is_integer, is_pointer, is_scalar, is_void}
use Rattle.ep_typing.specs.Types.{is_void_base, number_in, number_type, pointer_to, scalar_of, size_of_type}
use Rattle.ep_typing.specs.Types.{size_type, target, type_of, void_type, whole}
use Rattle.ep_typing.specs.Env as env
use Rattle.ep_typing.specs.Env.{Env, Meaning, Signature, entry, look_up}
use Rattle.ep_typing.specs.Operand.{Callee, Operand, Value, as_type, declared, function, int_value, is_mixed, loaded}
use Rattle.ep_typing.specs.Operand.{place, plain_value, value, value_of, input, output}
use Rattle.ep_typing.specs.Operators.{moved, unary_operated}
use Rattle.ep_typing.specs.Parts.{address_of, addressed, an_operand, built_in, casted, element_behind, element_in}
use Rattle.ep_typing.specs.Parts.{element_of_array, ends, indexable, indexed, is_array_object, meant, member_at}
use Rattle.ep_typing.specs.Parts.{member_of, named, named_callee, numbered, pointed, selected}
use Rattle.ep_typing.specs.Parts.{sized, type_sized, unary_of_value, unary_typed}
use Rattle.ep_well_formed_laws.specs.Numbers.{HasNumber, IsMade, IsTable, may_be, type_number, number_of_base}
use Rattle.ep_well_formed_laws.specs.Environments.{CanName, IsPlaced}
use Rattle.ep_well_formed_laws.specs.Operands.{IsCallee, OperandFits, PlaceFits, ValueFits}
use Rattle.ep_well_formed_laws.proofs.Tables.{base_again, row_at, target_number, type_of_number}
use Rattle.ep_well_formed_laws.proofs.Extents.{array_is, same_size, size_is_length}
use Rattle.ep_well_formed_laws.proofs.Tests.{after, both_not, either_way, given, if_not, if_so, int_is}
use Rattle.ep_well_formed_laws.proofs.Tests.{needed_is, some_type_is, type_below}
use Rattle.ep_well_formed_laws.proofs.Tests.{unless}
use Rattle.ep_well_formed_laws.proofs.Values.{as_type_fits, int_fits, null_fits, number_fits, pointer_fits}
use Rattle.ep_well_formed_laws.proofs.Values.{same_number, scalar_is, self_may_be, target_made, to_type_fits}
use Rattle.ep_well_formed_laws.proofs.Operators.{moved_fits, number_is, unary_fits, wrapped_fits}

-- ---- what stands at the number of a type

no_star : (c : CType) → is_pointer c ≡ false → (n : ℕ) (t : Table) → type_number t c ≡ Some n
    → number_of_base t c.base ≡ Some n
no_star c p n t h = subst (λ (d : CType). type_number t d ≡ Some n) (sym (base_again c p)) h

-- a test of types that are no pointers
pub of_base : (c : CType) (b : Bool) → (if is_pointer c then false else b) ≡ true → (is_pointer c ≡ false) × (b ≡ true)
of_base c b h = elim (either_way (is_pointer c) false b true h) [ inl p ↦ never p.1 | inr p ↦ (p.0, p.1) ]

pub array_row : (t : Table) (c : CType) (n : ℕ) → is_array c ≡ true → type_number t c ≡ Some n
    → (number_in c.base ≡ n) × (e : ℕ) × (k : ℕ) × (slice_get t.types n ≡ Some (rows.Array e k))
array_row t c n a h =
    let s = of_base c (is_array_base c.base) a in by c.base s.1 (no_star c s.0 n t h)
  where
    by : (b : Base) → is_array_base b ≡ true → number_of_base t b ≡ Some n
        → (number_in b ≡ n) × (e : ℕ) × (k : ℕ) × (slice_get t.types n ≡ Some (rows.Array e k))
    by bases.Void p q = never p
    by (bases.Int i) p q = never p
    by (bases.Array m) p q =
        let s = array_is m n (slice_get t.types m) q in
        (s.0, s.1, s.2, subst (λ (j : ℕ). slice_get t.types j ≡ Some (rows.Array s.1 s.2)) s.0 s.3)
    by (bases.Aggregate a) p q = never p

pub aggregate_row : (t : Table) (c : CType) (n : ℕ) → is_aggregate c ≡ true → type_number t c ≡ Some n
    → slice_get t.types n ≡ Some (rows.Aggregate (number_in c.base))
aggregate_row t c n a h =
    let s = of_base c (is_aggregate_base c.base) a in by c.base s.1 (no_star c s.0 n t h)
  where
    by : (b : Base) → is_aggregate_base b ≡ true → number_of_base t b ≡ Some n
        → slice_get t.types n ≡ Some (rows.Aggregate (number_in b))
    by bases.Void p q = never p
    by (bases.Int i) p q = never p
    by (bases.Array m) p q = never p
    by (bases.Aggregate a) p q = row_at t (rows.Aggregate a) n q

pub integer_row : (t : Table) (c : CType) (n : ℕ) → is_integer c ≡ true → type_number t c ≡ Some n
    → slice_get t.types n ≡ Some (rows.Int (int_of c))
integer_row t c n a h =
    let s = of_base c (is_int_base c.base) a in by c.base s.1 (no_star c s.0 n t h)
  where
    by : (b : Base) → is_int_base b ≡ true → number_of_base t b ≡ Some n
        → slice_get t.types n ≡ Some (rows.Int (int_of (whole b)))
    by bases.Void p q = never p
    by (bases.Int i) p q = row_at t (rows.Int i) n q
    by (bases.Array m) p q = never p
    by (bases.Aggregate a) p q = never p

-- what is made and isn't void is in the table
pub numbered_if : (t : Table) (c : CType) → IsMade t c → is_void c ≡ false → HasNumber t c
numbered_if t c (inl e) p = let q : is_void void_type ≡ false = subst (λ (d : CType). is_void d ≡ false) e p in never (sym q)
numbered_if t c (inr h) p = h

pub array_not_void : (c : CType) → is_array c ≡ true → is_void c ≡ false
array_not_void c h =
    let s = of_base c (is_array_base c.base) h in rw s.0 (by c.base s.1)
  where
    by : (b : Base) → is_array_base b ≡ true → is_void (whole b) ≡ false
    by bases.Void p = never p
    by (bases.Int i) p = refl
    by (bases.Array m) p = refl
    by (bases.Aggregate a) p = refl

pub aggregate_not_void : (c : CType) → is_aggregate c ≡ true → is_void c ≡ false
aggregate_not_void c h =
    let s = of_base c (is_aggregate_base c.base) h in rw s.0 (by c.base s.1)
  where
    by : (b : Base) → is_aggregate_base b ≡ true → is_void (whole b) ≡ false
    by bases.Void p = never p
    by (bases.Int i) p = refl
    by (bases.Array m) p = refl
    by (bases.Aggregate a) p = refl

pub scalar_not_void : (c : CType) → is_scalar c ≡ true → is_void c ≡ false
scalar_not_void c h = elim (scalar_is c h) [
  | inl p ↦ rw p refl
  | inr p ↦ let s = of_base c (is_int_base c.base) p.1 in rw p.0 (by c.base s.1)
]
  where
    by : (b : Base) → is_int_base b ≡ true → is_void (whole b) ≡ false
    by bases.Void p = never p
    by (bases.Int i) p = refl
    by (bases.Array m) p = never p
    by (bases.Aggregate a) p = never p

not_aggregate : (c : CType) → is_aggregate c ≡ true → (is_pointer c ≡ false) × (is_integer c ≡ false)
not_aggregate c h =
    let s = of_base c (is_aggregate_base c.base) h in (s.0, rw s.0 (by c.base s.1))
  where
    by : (b : Base) → is_aggregate_base b ≡ true → is_int_base b ≡ false
    by bases.Void p = refl
    by (bases.Int i) p = never p
    by (bases.Array m) p = refl
    by (bases.Aggregate a) p = refl

-- what is no pointer, void, array or aggregate is an integer
pub integer_left : (c : CType) → is_pointer c ≡ false → is_void c ≡ false → is_array c ≡ false → is_aggregate c ≡ false
    → is_integer c ≡ true
integer_left c p v a g = rw p (by c.base (rw p at v) (rw p at a) (rw p at g))
  where
    by : (b : Base) → is_void_base b ≡ false → is_array_base b ≡ false → is_aggregate_base b ≡ false → is_int_base b ≡ true
    by bases.Void v a g = absurd (true≢false v)
    by (bases.Int i) v a g = refl
    by (bases.Array m) v a g = absurd (true≢false a)
    by (bases.Aggregate m) v a g = absurd (true≢false g)

-- ---- elements and members

-- one of these members
abbrev pub IsAmong : MemberRow → List MemberRow → Type 0
IsAmong m [] = ⊥
IsAmong m (x ∷ xs) = (x ≡ m) ⊎ IsAmong m xs

pub found_among : (p : MemberRow → Bool) (xs : List MemberRow) (m : MemberRow) → find p xs ≡ Some m → IsAmong m xs
found_among p [] m h = absurd cc
found_among p (x ∷ xs) m h = by (p x) h (found_among p xs m)
  where
    by : (b : Bool) → cond b (Some x) (find p xs) ≡ Some m → (find p xs ≡ Some m → IsAmong m xs)
        → (x ≡ m) ⊎ IsAmong m xs
    by true q f = inl cc
    by false q f = inr (f q)

pub got_among : (xs : List MemberRow) (i : ℕ) (m : MemberRow) → slice_get xs i ≡ Some m → IsAmong m xs
got_among [] i m h = absurd cc
got_among (x ∷ xs) zero m h = inl cc
got_among (x ∷ xs) (suc i) m h = inr (got_among xs i m h)

any_among : (q : MemberRow → Bool) (xs : List MemberRow) (m : MemberRow) → IsAmong m xs → q m ≡ true
    → list_any q xs ≡ true
any_among q [] m h e = absurd h
any_among q (x ∷ xs) m (inl p) e = or_left (q x) (list_any q xs) (subst (λ (y : MemberRow). q y ≡ true) (sym p) e)
any_among q (x ∷ xs) m (inr h) e = or_right (q x) (list_any q xs) (any_among q xs m h e)

laid_among : (t : Table) (xs : List MemberRow) (ls : List Layout) (m : MemberRow) → at_each (layout_of t) (types_of xs) ≡ Some ls
    → IsAmong m xs → (l : Layout) × (layout_of t m.ty ≡ Some l)
laid_among t [] ls m h e = absurd e
laid_among t (x ∷ xs) ls m h (inl p) =
    let s = at_each_some (layout_of t) x.ty (types_of xs) ls h in
    (s.0, subst (λ (y : MemberRow). layout_of t y.ty ≡ Some s.0) p s.2)
laid_among t (x ∷ xs) ls m h (inr e) =
    let s = at_each_some (layout_of t) x.ty (types_of xs) ls h in laid_among t xs s.1 m s.3 e

-- a member of an aggregate has a layout
pub member_laid : (t : Table) → IsTable t → (a : ℕ) (m : MemberRow) → IsAmong m (members_of t a)
    → (l : Layout) × (layout_of t m.ty ≡ Some l)
member_laid t h a m e = by_row (slice_get t.aggregates a) refl e
  where
    by_members : (g : AggregateRow) → slice_get t.aggregates a ≡ Some g → (o : Option (List MemberRow)) → g.members ≡ o
        → IsAmong m (unwrap_or o []) → (l : Layout) × (layout_of t m.ty ≡ Some l)
    by_members g q None r e = absurd e
    by_members g q (Some ms) r e =
        let p = placed t h.built a g ms q r in laid_among t ms p.layouts m p.each e

    by_row : (o : Option AggregateRow) → slice_get t.aggregates a ≡ o
        → IsAmong m (unwrap_or (option_and_then (λ (g : AggregateRow). g.members) o) [])
        → (l : Layout) × (layout_of t m.ty ≡ Some l)
    by_row None q e = absurd e
    by_row (Some g) q e = by_members g q g.members refl e

below_row : (xs : List Ty) (n : ℕ) → n < length xs → (ty : Ty) × (slice_get xs n ≡ Some ty)
below_row [] n l = absurd (omega (arith, l))
below_row (x ∷ xs) zero l = (x, refl)
below_row (x ∷ xs) (suc n) l = below_row xs n (omega (arith, l))

-- the type of a number of the table has this number
pub number_again : (t : Table) → IsTable t → (n : ℕ) → n < length t.types → type_number t (type_of t n) ≡ Some n
number_again t h n l = let r = below_row t.types n l in type_of_number t h.built n r.0 r.1

pub member_number : (t : Table) → IsTable t → (a : ℕ) (m : MemberRow) → IsAmong m (members_of t a)
    → type_number t (type_of t m.ty) ≡ Some m.ty
member_number t h a m e =
    let l = member_laid t h a m e in number_again t h m.ty (type_there t m.ty l.0 l.1)

-- an array's elements and bound
pub record IsArrayOf (t : Table) (c : CType) (n e k : ℕ) : Type 0 where
  pub number : type_number t c ≡ Some n
  pub row : slice_get t.types n ≡ Some (rows.Array e k)
  pub element : element_of t c ≡ type_of t e
  pub bound : bound_of t c ≡ k
  pub has : type_number t (type_of t e) ≡ Some e

pub array_is_of : (t : Table) → IsTable t → (c : CType) (n : ℕ) → is_array c ≡ true → type_number t c ≡ Some n
    → (e : ℕ) × (k : ℕ) × IsArrayOf t c n e k
array_is_of t h c n a q =
    let r = array_row t c n a q in
    let of : elements_of t (number_in c.base) ≡ Some (r.1, r.2) = rw (r.0, r.3) refl in
    let k = known t h.built n (rows.Array r.1 r.2) r.3 in
    let l : r.1 < length t.types = grind (arith, nat_tests) in (
      r.1,
      r.2,
      record {
        number = q;
        row = r.3;
        element = ap (λ (o : Option (ℕ × ℕ)). type_of t (unwrap_or (option_map (λ (p : ℕ × ℕ). p.0) o) 0)) of;
        bound = ap (λ (o : Option (ℕ × ℕ)). unwrap_or (option_map (λ (p : ℕ × ℕ). p.1) o) 0) of;
        has = number_again t h r.1 l;
      },
    )

member_test : (m : MemberRow) → (m.offset == m.offset && m.ty == m.ty) ≡ true
member_test m = and_from _ _ (eqb_self m.offset) (eqb_self m.ty)
  where
    eqb_self : (n : ℕ) → (n == n) ≡ true
    eqb_self n = grind (arith, nat_tests)

small_in_range : (m : Model) (n : ℕ) → n ≤ 65536 → is_in_range (size_type m) (pos n) ≡ true
small_in_range Ilp32 n l = and_from (int_le (pos 0) (pos n)) (int_le (pos n) (pos 4294967295)) (grind (arith, ints)) (grind (arith, ints))
small_in_range Lp64 n l = and_from (int_le (pos 0) (pos n)) (int_le (pos n) (pos 18446744073709551615)) (grind (arith, ints)) (grind (arith, ints))

-- no type has more than 65,536 bytes
pub size_at_most : (t : Table) → IsTable t → (c : CType) (n : ℕ) → size_of_type t c ≡ Some n → n ≤ 65536
size_at_most t h c n e = elim (either_way (is_pointer c) _ _ (Some n) e) [
  | inl p ↦ pointer t.model p.1
  | inr p ↦ by c.base p.1
]
  where
    pointer : (m : Model) → Some (pointer_bytes m) ≡ Some n → n ≤ 65536
    pointer Ilp32 q = let e : 4 ≡ n = cc in omega (arith, e)
    pointer Lp64 q = let e : 8 ≡ n = cc in omega (arith, e)

    number : (i : IntType) → Some (bytes_of i) ≡ Some n → n ≤ 65536
    number I8 q = let e : 1 ≡ n = cc in omega (arith, e)
    number U8 q = let e : 1 ≡ n = cc in omega (arith, e)
    number I16 q = let e : 2 ≡ n = cc in omega (arith, e)
    number U16 q = let e : 2 ≡ n = cc in omega (arith, e)
    number I32 q = let e : 4 ≡ n = cc in omega (arith, e)
    number U32 q = let e : 4 ≡ n = cc in omega (arith, e)
    number I64 q = let e : 8 ≡ n = cc in omega (arith, e)
    number U64 q = let e : 8 ≡ n = cc in omega (arith, e)

    by : (b : Base) → base_size t b ≡ Some n → n ≤ 65536
    by bases.Void q = absurd cc
    by (bases.Int i) q = number i q
    by (bases.Array m) q =
        let s = map_some (λ (l : Layout). l.size) (layout_of t m) n q in
        let b : s.0.size ≤ 65536 = (layout_fits t h.built m s.0 s.1).size in omega (arith, b, s.2)
    by (bases.Aggregate a) q =
        let s = map_some (λ (l : Layout). l.size) (aggregate_layout t a) n q in
        let r = and_then_some (at_aggregate (layout_rules t.model) (layout_of t)) (slice_get t.aggregates a) s.0 s.1 in
        let b : s.0.size ≤ 65536 = (small t h.built).aggregates a r.0 s.0 r.1 r.2 in omega (arith, b, s.2)

-- ---- among these types and blocks

module _ (t : Table) (bs : List Block) (fs : List Signature) (seen : List ℕ) (table : IsTable t) (some : 0 < length t.types) where
  abbrev S : Expr → formed.Sort → Bool
  S = has_sort t bs seen

  abbrev P : Place → ℕ → Bool
  P = place_has t bs seen

  abbrev F : Value → Type 0
  F = ValueFits t bs seen

  abbrev O : Operand → Type 0
  O = OperandFits t bs fs seen

  -- a place of a type of this number
  pub place_of_number : (p : Place) (c : CType) (n : ℕ) → type_number t c ≡ Some n → P p n ≡ true → PlaceFits t bs seen p c
  place_of_number p c n h q = record {
    made = inr (n, h);
    has = λ ty m. subst (λ (j : ℕ). P p j ≡ true) (same_number n ty (rw h at m)) q;
  }

  pub has_number : (p : Place) (c : CType) (n : ℕ) → PlaceFits t bs seen p c → type_number t c ≡ Some n → P p n ≡ true
  has_number p c n h q = h.has n (rw q (self_may_be n))

  -- ---- elements

  element_has : (p : Place) (n e k unit : ℕ) (i : Expr) (j : IntType) → slice_get t.types n ≡ Some (rows.Array e k)
      → P p n ≡ true → size t e ≡ Some unit → S i (integer j) ≡ true → P (core.element p k unit i) e ≡ true
  element_has p n e k unit i j r h z q =
      and_from _ _ (and_from _ _ (and_from _ _ (and_from _ _ (table.arrays n e k r) (size_is_length t table e unit z))
      (number_is t bs seen table some (size t e) unit z))
      (some_type_is t bs seen (λ u. is_array_of u e && has_bound u k) (P p) n (slice_get_within t.types n _ r)
      (rw r (and_from _ _ (nat_eq-self e) (nat_eq-self k))) h)) (int_is t bs seen i j q)

  pub element_fits : (p : Place) (c : CType) (unit : ℕ) (i : Expr) (j : IntType) → PlaceFits t bs seen p c
      → is_array c ≡ true → size_of_type t (element_of t c) ≡ Some unit → S i (integer j) ≡ true
      → PlaceFits t bs seen (core.element p (bound_of t c) unit i) (element_of t c)
  element_fits p c unit i j h a z q =
      let m = numbered_if t c h.made (array_not_void c a) in
      let r = array_is_of t table c m.0 a m.1 in
      let s : size t r.0 ≡ Some unit =
      sym (same_size t table.built (type_of t r.0) r.0 r.2.has)
      ∙ subst (λ (d : CType). size_of_type t d ≡ Some unit) r.2.element z in
      subst (λ (k : ℕ). PlaceFits t bs seen (core.element p k unit i) (element_of t c)) (sym r.2.bound)
      (subst (PlaceFits t bs seen (core.element p r.1 unit i)) (sym r.2.element)
      (place_of_number (core.element p r.1 unit i) (type_of t r.0) r.0 r.2.has
      (element_has p m.0 r.0 r.1 unit i j r.2.row (has_number p c m.0 h m.1) s q)))

  -- ---- members

  pub member_fits : (p : Place) (c : CType) (m : MemberRow) → PlaceFits t bs seen p c → is_aggregate c ≡ true
      → IsAmong m (members_of t (number_in c.base)) → PlaceFits t bs seen (core.member p m.offset) (type_of t m.ty)
  member_fits p c m h a e =
      let n = numbered_if t c h.made (aggregate_not_void c a) in
      let r = aggregate_row t c n.0 a n.1 in
      place_of_number (core.member p m.offset) (type_of t m.ty) m.ty (member_number t table (number_in c.base) m e)
      (some_type_is t bs seen (λ u. has_member t u m.offset m.ty) (P p) n.0 (slice_get_within t.types n.0 _ r)
      (rw r (any_among _ (members_of t (number_in c.base)) m e (member_test m))) (has_number p c n.0 h n.1))

  -- ---- values of objects

  decayed_fits : (p : Place) (c : CType) → PlaceFits t bs seen p c → is_array c ≡ true
      → F (plain_value (core.addr_of p) (pointer_to (element_of t c)))
  decayed_fits p c h a =
      let m = numbered_if t c h.made (array_not_void c a) in
      let r = array_is_of t table c m.0 a m.1 in
      to_type_fits t bs seen some (core.addr_of p) (element_of t c)
      (subst (IsMade t) (sym r.2.element) (inr (r.0, r.2.has)))
      (subst (λ (d : CType). (ty : ℕ) → may_be (type_number t d) ty ≡ true → S (core.addr_of p) (pointing ty) ≡ true)
      (sym r.2.element)
      (λ ty k. or_right (P p ty) _ (some_type_is t bs seen (λ u. is_array_of u ty) (P p) m.0 (slice_get_within t.types m.0 _ r.2.row)
      (rw r.2.row (subst (λ (j : ℕ). nat_eq r.0 j ≡ true) (same_number r.0 ty (rw r.2.has at k)) (nat_eq-self r.0)))
      (has_number p c m.0 h m.1))))

  aggregate_fits : (p : Place) (c : CType) → is_aggregate c ≡ true → F (plain_value (core.addr_of p) c)
  aggregate_fits p c a =
      let s = not_aggregate c a in record {
        number = λ q. both_not (is_integer c) q s.1;
        made = λ q. both_not (is_pointer c) q s.0;
        points = λ q ty m. both_not (is_pointer c) q s.0;
      }

  pointer_row_is : (c : CType) (m ty : ℕ) → is_pointer c ≡ true → m ≡ ty
      → (has_scalar (Some (rows.Ptr m)) (scalar_of c) && is_sort (sort_of (Some (rows.Ptr m))) (pointing ty)) ≡ true
  pointer_row_is c m ty q e =
      let what : scalar_of c ≡ scalars.Pointer = if_so (is_pointer c) scalars.Pointer (scalars.Int (int_of c)) q in
      and_from _ _ (ap (is_same_scalar scalars.Pointer) what) (subst (λ (j : ℕ). nat_eq m j ≡ true) e (nat_eq-self m))

  integer_row_is : (c : CType) → is_pointer c ≡ false
      → (has_scalar (Some (rows.Int (int_of c))) (scalar_of c) && is_sort (sort_of (Some (rows.Int (int_of c)))) (integer (int_of c)))
      ≡ true
  integer_row_is c q =
      let what : scalar_of c ≡ scalars.Int (int_of c) = if_not (is_pointer c) scalars.Pointer (scalars.Int (int_of c)) q in
      and_from _ _ (ap (is_same_scalar (scalars.Int (int_of c))) what ∙ int_itself (int_of c)) (int_itself (int_of c))

  pointer_loaded : (p : Place) (c : CType) → PlaceFits t bs seen p c → is_pointer c ≡ true
      → F (plain_value (core.load (scalar_of c) p) c)
  pointer_loaded p c h q =
      let n = numbered_if t c h.made (rw q refl) in
      let s = target_number t c n.0 q n.1 in
      pointer_fits t bs seen some (core.load (scalar_of c) p) c q (inr (s.0, s.1))
      (λ ty m. some_type_is t bs seen (λ u. has_scalar u (scalar_of c) && is_sort (sort_of u) (pointing ty)) (P p) n.0
      (slice_get_within t.types n.0 _ s.2)
      (rw s.2 (pointer_row_is c s.0 ty q (same_number s.0 ty (rw s.1 at m))))
      (has_number p c n.0 h n.1))

  integer_loaded : (p : Place) (c : CType) → PlaceFits t bs seen p c → is_integer c ≡ true → is_pointer c ≡ false
      → is_void c ≡ false → F (plain_value (core.load (scalar_of c) p) c)
  integer_loaded p c h q r v =
      let n = numbered_if t c h.made v in
      let s = integer_row t c n.0 q n.1 in
      number_fits t bs seen some (core.load (scalar_of c) p) c q
      (some_type_is t bs seen (λ u. has_scalar u (scalar_of c) && is_sort (sort_of u) (integer (int_of c))) (P p) n.0
      (slice_get_within t.types n.0 _ s) (rw s (integer_row_is c r))
      (has_number p c n.0 h n.1))

  loaded_fits : (p : Place) (c : CType) → PlaceFits t bs seen p c → is_void c ≡ false → F (loaded t p c)
  loaded_fits p c h v = by_array (is_array c) refl
    where
      by_pointer : (b : Bool) → is_pointer c ≡ b → is_array c ≡ false → is_aggregate c ≡ false
          → F (plain_value (core.load (scalar_of c) p) c)
      by_pointer true q a g = pointer_loaded p c h q
      by_pointer false q a g = integer_loaded p c h (integer_left c q v a g) q v

      by_aggregate : (b : Bool) → is_aggregate c ≡ b → is_array c ≡ false
          → F (if b then plain_value (core.addr_of p) c else plain_value (core.load (scalar_of c) p) c)
      by_aggregate true q a = aggregate_fits p c q
      by_aggregate false q a = by_pointer (is_pointer c) refl a q

      by_array : (b : Bool) → is_array c ≡ b → F (loaded t p c)
      by_array true q = subst F (sym (if_so (is_array c) _ _ q)) (decayed_fits p c h q)
      by_array false q = subst F (sym (if_not (is_array c) _ _ q)) (by_aggregate (is_aggregate c) refl q)

  pub value_fits : (x : Operand) (v : Value) → O x → value_of t x ≡ Ok v → F v
  unfolding value_of
  value_fits (place p c) v h e =
      let s = unless (is_void c) 33 (Ok (loaded t p c)) v e in
      let same : loaded t p c ≡ v = (let q = s.1 in cc) in subst F same (loaded_fits p c h s.0)
  value_fits (value u) v h e = let same : u ≡ v = cc in subst F same h
  value_fits (function f) v h e = absurd cc

  pub operand_fits : (r : Result Value ℕ) (x : Operand) → ((v : Value) → r ≡ Ok v → F v) → an_operand r ≡ Ok x → O x
  operand_fits (Ok v) x f e = let same : value v ≡ x = cc in subst O same (f v refl)
  operand_fits (Err k) x f e = absurd cc

  -- ---- addresses

  address_has : (p : Place) (ty : ℕ) → P p ty ≡ true → S (address_of p) (pointing ty) ≡ true
  address_has (core.block b) ty h = or_left _ _ h
  address_has (core.deref e) ty h = or_left (P (core.deref e) ty) _ h
  address_has (core.member p offset) ty h = or_left (P (core.member p offset) ty) _ h
  address_has (core.element p bound unit i) ty h =
      let k : Bool = some_type t bs seen (λ u. is_array_of u ty && has_bound u bound) (P p) in
      let n : Bool = is_number (size t ty) unit in
      let j : Bool = is_int (int_type_of i) (S i) in
      let a = and_parts (((is_length bound && is_length unit) && n) && k) j h in
      let b = and_parts ((is_length bound && is_length unit) && n) k a.0 in
      let c = and_parts (is_length bound && is_length unit) n b.0 in
      let d = and_parts (is_length bound) (is_length unit) c.0 in
      and_from ((is_length unit && n) && (P p ty || some_type t bs seen (λ u. is_array_of u ty) (P p))) j
      (and_from (is_length unit && n) _ (and_from (is_length unit) n d.1 c.1) (or_right (P p ty) _ (any_kind p bound ty b.1))) a.1
    where
      any_kind : (p : Place) (bound ty : ℕ) → some_type t bs seen (λ u. is_array_of u ty && has_bound u bound) (P p) ≡ true
          → some_type t bs seen (λ u. is_array_of u ty) (P p) ≡ true
      any_kind p bound ty h =
          let s = type_below t bs seen (λ u. is_array_of u ty && has_bound u bound) (P p) h in
          some_type_is t bs seen (λ u. is_array_of u ty) (P p) s.0 s.3 (and_parts _ _ s.1).0 s.2

  pub addressed_fits : (x y : Operand) → O x → addressed x ≡ Ok y → O y
  unfolding addressed
  addressed_fits (place p c) y h e =
      let same : value (plain_value (address_of p) (pointer_to c)) ≡ y = cc in
      subst O same (to_type_fits t bs seen some (address_of p) c h.made (λ ty m. address_has p ty (h.has ty m)))
  addressed_fits (value v) y h e = absurd cc
  addressed_fits (function f) y h e = absurd cc

  pub pointed_fits : (v : Value) (y : Operand) → F v → pointed v ≡ Ok y → O y
  unfolding pointed
  pointed_fits v y h e =
      let g = given (is_pointer v.ty) (place (core.deref v.expr) (target v.ty)) y 32 e in
      subst O g.1 (record { made = h.made g.0; has = h.points g.0 })

  pub unary_typed_fits : (m : ℕ) (x y : Operand) → O x → unary_typed t m x ≡ Ok y → O y
  unfolding unary_typed
  unary_typed_fits m x y h e = elim (either_way (m == mark.ampersand) _ _ (Ok y) e) [
    | inl p ↦ addressed_fits x y h p.1
    | inr p ↦
        let v = after (value_of t x) (unary_of_value m) y p.1 in
        elim (either_way (m == mark.star) _ _ (Ok y) v.2) [
          | inl q ↦ pointed_fits v.0 y (value_fits x v.0 h v.1) q.1
          | inr q ↦ operand_fits (unary_operated m v.0) y (λ w r. unary_fits t bs seen table some m v.0 w (value_fits x v.0 h v.1) r) q.1
        ]
  ]

  -- ---- indices

  pub indexable_fits : (x u : Operand) → O x → indexable t x ≡ Ok u → O u
  unfolding indexable
  indexable_fits x u h e = elim (either_way (is_array_object x) _ _ (Ok u) e) [
    | inl p ↦ let same : x ≡ u = (let q = p.1 in cc) in subst O same h
    | inr p ↦ operand_fits (value_of t x) u (λ v r. value_fits x v h r) p.1
  ]

  -- what stands before an index: an array in place, or no place
  abbrev pub IsIndexed : Operand → Type 0
  IsIndexed (place p c) = is_array c ≡ true
  IsIndexed (value v) = Unit {0}
  IsIndexed (function f) = Unit {0}

  pub indexable_is : (x u : Operand) → indexable t x ≡ Ok u → IsIndexed u
  unfolding indexable
  indexable_is x u e = elim (either_way (is_array_object x) _ _ (Ok u) e) [
    | inl p ↦ let same : x ≡ u = (let q = p.1 in cc) in subst IsIndexed same (object x p.0)
    | inr p ↦ of_value (value_of t x) u p.1
  ]
    where
      object : (x : Operand) → is_array_object x ≡ true → IsIndexed x
      object (place p c) h = h
      object (value v) h = tt
      object (function f) h = tt

      of_value : (r : Result Value ℕ) (u : Operand) → an_operand r ≡ Ok u → IsIndexed u
      of_value (Ok v) u h = let same : value v ≡ u = cc in subst IsIndexed same tt
      of_value (Err k) u h = absurd cc

  pub indexed_fits : (u : Operand) (v : Value) (y : Operand) → O u → IsIndexed u → F v → indexed t u v ≡ Ok y → O y
  unfolding indexed element_of_array element_behind
  indexed_fits (place p c) v y h a k e = elim (either_way (is_integer v.ty) _ _ (Ok y) e) [
    | inl q ↦
        let z = after (needed 33 (size_of_type t (element_of t c))) _ y q.1 in
        let same : element_in t p c v z.0 ≡ y = (let r = z.2 in cc) in
        subst O same (element_fits p c z.0 v.expr (int_of v.ty) h a (needed_is 33 _ z.0 z.1) (k.number q.0))
    | inr q ↦ absurd (let r = q.1 in cc)
  ]
  indexed_fits (value u) v y h a k e = elim (either_way (is_pointer u.ty && is_integer v.ty) _ _ (Ok y) e) [
    | inl q ↦
        let s = and_parts (is_pointer u.ty) (is_integer v.ty) q.0 in
        let w = after (moved t u v false) pointed y q.1 in
        pointed_fits w.0 y (moved_fits t bs seen table some u v false w.0 h k s.0 s.1 w.1).0 w.2
    | inr q ↦ absurd (let r = q.1 in cc)
  ]
  indexed_fits (function f) v y h a k e = absurd cc

  -- ---- selections

  pub selected_fits : (x : Operand) (n : List ℕ) (y : Operand) → O x → selected t x n ≡ Ok y → O y
  unfolding selected member_of
  selected_fits (place p c) n y h e = elim (either_way (is_aggregate c) _ _ (Ok y) e) [
    | inl q ↦
        let m = after (needed 40 (member_named t (number_in c.base) n)) _ y q.1 in
        let same : member_at t p m.0 ≡ y = (let r = m.2 in cc) in
        subst O same (member_fits p c m.0 h q.0 (found_among _ (members_of t (number_in c.base)) m.0 (needed_is 40 _ m.0 m.1)))
    | inr q ↦ absurd (let r = q.1 in cc)
  ]
  selected_fits (value v) n y h e = absurd cc
  selected_fits (function f) n y h e = absurd cc

  -- ---- casts and sizes

  pub casted_fits : (c : CType) (v w : Value) → F v → HasNumber t c → casted c v ≡ Ok w → F w
  unfolding casted
  casted_fits c v w h k e =
      let a = unless (not (is_scalar c && is_scalar v.ty)) 32 _ w e in
      let b = unless (is_mixed c v) 34 _ w a.1 in
      let s = and_parts (is_scalar c) (is_scalar v.ty) (not-false _ a.0) in
      let same : plain_value (as_type c v) c ≡ w = (let q = b.1 in cc) in
      subst F same (as_type_fits t bs seen some c v h s.0 s.1 b.0 (target_made t c k))

  pub type_sized_fits : (c : CType) (w : Value) → type_sized t c ≡ Ok w → F w
  unfolding type_sized
  type_sized_fits c w e =
      let n = after (needed 33 (size_of_type t c)) _ w e in
      let i = size_type t.model in
      let same : int_value (core.const i (pos n.0)) i ≡ w = (let q = n.2 in cc) in
      subst F same (int_fits t bs seen some (core.const i (pos n.0)) i
      (and_from _ _ (int_itself i) (small_in_range t.model n.0 (size_at_most t table c n.0 (needed_is 33 _ n.0 n.1)))))

  pub sized_fits : (x : Operand) (w : Value) → sized t x ≡ Ok w → F w
  unfolding sized
  sized_fits (place p c) w e = type_sized_fits c w e
  sized_fits (value v) w e = type_sized_fits v.ty w e
  sized_fits (function f) w e = absurd cc

  -- ---- numbers and names

  pub numbered_fits : (m : Model) (n : Literal) → O (numbered m n)
  numbered_fits m n =
      let i = number_type m n in
      int_fits t bs seen some (core.const i (wrapped i (pos n.value))) i
      (and_from _ _ (int_itself i) (wrapped_fits i (pos n.value)))

  abbrev Each : List (List ℕ × Operand) → Type 0
  Each [] = Unit {0}
  Each (e ∷ es) = O e.1 × Each es

  entry_fits : (n : List ℕ) (es : List (List ℕ × Operand)) (x : Operand) → Each es → entry n es ≡ Some x → O x
  entry_fits n [] x h e = absurd cc
  entry_fits n (y ∷ es) x h e = by (bytes_eq n y.0) e (entry_fits n es x h.1)
    where
      by : (b : Bool) → cond b (Some y.1) (entry n es) ≡ Some x → (entry n es ≡ Some x → O x) → O x
      by true q f = let same : y.1 ≡ x = cc in subst O same h.0
      by false q f = f q

  both_each : (xs ys : List (List ℕ × Operand)) → Each xs → Each ys → Each (xs ++ ys)
  both_each [] ys h k = k
  both_each (x ∷ xs) ys h k = (h.0, both_each xs ys h.1 k)

  callees_fit : (begin : List ℕ) (f : IntType → Callee) → ((i : IntType) → IsCallee fs (f i))
      → (es : List (List ℕ × IntType)) → Each (map (named_callee begin f) es)
  callees_fit begin f g [] = tt
  callees_fit begin f g (e ∷ es) = (g e.1, callees_fit begin f g es)

  built_in_fits : Each built_in
  built_in_fits = (
    null_fits t bs seen some,
    (
      tt,
      (
        tt,
        (
          tt,
          (
            tt,
            both_each (map (named_callee (codes "ep_in_") input) ends) (map (named_callee (codes "ep_out_") output) ends)
                (callees_fit (codes "ep_in_") input (λ i. tt) ends) (callees_fit (codes "ep_out_") output (λ i. tt) ends),
          ),
        ),
      ),
    ),
  )

  -- a variable's place
  variable_fits : (b : ℕ) (c : CType) → IsPlaced t bs fs (env.variable b c) → CanName bs seen (env.variable b c)
      → PlaceFits t bs seen (core.block b) c
  variable_fits b c h k =
      place_of_number (core.block b) c h.0.ty h.2 (and_from _ _ k (rw h.1 (nat_eq-self h.0.ty)))

  pub meant_fits : (o : Option Meaning) (q : Option Operand) (x : Operand)
      → ((m : Meaning) → o ≡ Some m → IsPlaced t bs fs m × CanName bs seen m) → ((y : Operand) → q ≡ Some y → O y)
      → meant o q ≡ Ok x → O x
  meant_fits (Some (env.variable b c)) q x f g e =
      let same : place (core.block b) c ≡ x = cc in
      let h = f (env.variable b c) refl in subst O same (variable_fits b c h.0 h.1)
  meant_fits (Some (env.function n)) q x f g e =
      let same : function (declared n) ≡ x = cc in subst O same (f (env.function n) refl).0
  meant_fits (Some (env.type_name c)) q x f g e = absurd cc
  meant_fits None q x f g e = g x (needed_is 30 q x e)

  pub named_fits : (G : Env) (n : List ℕ) (x : Operand)
      → ((m : Meaning) → look_up n G.scopes ≡ Some m → IsPlaced t bs fs m × CanName bs seen m) → named G n ≡ Ok x → O x
  unfolding named
  named_fits G n x f e =
      meant_fits (look_up n G.scopes) (entry n built_in) x f (λ y q. entry_fits n built_in y built_in_fits q) e
