-- The bit-fields of a body lie in units that are members of their types, in an aggregate that is then completed.
use Rattle.std.proofs.Common.{◌≡◌, ℕ, zero, suc, ◌+◌, ◌-◌, ◌≤◌, nat_eq, nat_le, Bool, true, false, ◌&&◌}
use Rattle.std.proofs.Common.{if◌then◌else◌, List, [], ◌∷◌, ◌++◌, length, length-append, map, slice_get, Option, Some}
use Rattle.std.proofs.Common.{None, is_some, refl, sym, ap, ◌∙◌, subst, arith}
use Rattle.std.specs.List.{list_all}
use Rattle.std.proofs.lemmas.Bool.{and_from, and_parts, eqb-true, le-leb, leb-true}
use Rattle.std.proofs.lemmas.Bool.Decides.{nat_tests}
use Rattle.std.proofs.lemmas.Option.{slice_get_within}
use Rattle.ep_int.proofs.Basics.{append-assoc, slice_get-append}
use Rattle.ep_int.specs.declared.types.IntType.{IntType}
use Rattle.ep_int.specs.Types.{bits_of}
use Rattle.ep_layout.specs.declared.types.Ty.TheVariants as rows
use Rattle.ep_layout.specs.Table.{AggregateRow, MemberRow, Table, completed_with, is_completed, is_type, laid_out}
use Rattle.ep_layout.specs.Table.{members_of, struct_members, union_members}
use Rattle.ep_layout.proofs.Laid.{completed_is, with_members}
use Rattle.ep_layout.proofs.Options.{get_last, get_set_same}
use Rattle.ep_core.proofs.Sorts.{never}
use Rattle.ep_bitfield.specs.declared.field.Field.{Field}
use Rattle.ep_bitfield.specs.Bits.{is_field, is_unit_type}
use Rattle.ep_bitfield.specs.Units.{UnitsSoFar, is_entry, no_units, packed_from, shares}
use Rattle.ep_bitfield.proofs.Packs.{field_from, same_unit_type, shares_is}
use Rattle.ep_typing.specs.declared.types.FieldRow.{FieldRow}
use Rattle.ep_typing.specs.Env.{NamedFields}
use Rattle.ep_elaboration.specs.Aggregates.{Entry, Named, a_field, a_member, begins_unit, fields_in, fields_with}
use Rattle.ep_elaboration.specs.Aggregates.{members_in, members_with, named_field, packed_as, unit_name}
use Rattle.ep_elaboration.specs.FieldStatements.{part_of_unit}
use Rattle.ep_well_formed_laws.specs.Environments.{AreFieldsOf, IsFieldOf, IsFieldsOf}

-- ---- what a body declares

-- a member's type is there; a bit-field is of a type of units, whose number it has, and has bits if it has a name
abbrev pub IsEntryOf : Table → Entry → Type 0
IsEntryOf t (a_member n ty) = is_type t ty ≡ true
IsEntryOf t (a_field n ty i w) =
    (slice_get t.types ty ≡ Some (rows.Int i)) × (is_entry (i, w) ≡ true) × (is_some n ≡ true → 1 ≤ w)

abbrev pub AreKnown : Table → Named → Type 0
AreKnown t [] = Unit {0}
AreKnown t (e ∷ es) = IsEntryOf t e × AreKnown t es

-- its members and those behind them
abbrev fields_behind : UnitsSoFar → Named → List Field
fields_behind r es = map (λ (p : ℕ × Field). p.1) (packed_from r (map packed_as es))

type_there : (t : Table) (n : ℕ) (i : IntType) → slice_get t.types n ≡ Some (rows.Int i) → is_type t n ≡ true
type_there t n i h = let l = slice_get_within t.types n (rows.Int i) h in grind (arith, nat_tests)

known_with : (t : Table) (es : Named) (fs : List Field) → AreKnown t es
    → list_all (λ (m : List ℕ × ℕ). is_type t m.1) (members_with es fs) ≡ true
known_with t [] fs h = refl
known_with t (e ∷ es) [] h = refl
known_with t (a_member n ty ∷ es) (f ∷ fs) h = and_from _ _ h.0 (known_with t es fs h.1)
known_with t (a_field n ty i w ∷ es) (f ∷ fs) h = by (begins_unit f) (known_with t es fs h.1)
  where
    by : (b : Bool) → list_all (λ (m : List ℕ × ℕ). is_type t m.1) (members_with es fs) ≡ true
        → list_all (λ (m : List ℕ × ℕ). is_type t m.1)
        (if b then (unit_name, ty) ∷ members_with es fs else members_with es fs) ≡ true
    by true k = and_from _ _ (type_there t ty i h.0.0) k
    by false k = k

pub members_known : (t : Table) (es : Named) → AreKnown t es
    → list_all (λ (m : List ℕ × ℕ). is_type t m.1) (members_in es) ≡ true
members_known t es h = known_with t es (fields_behind no_units es) h

-- ---- units among members

abbrev Members : Type 0
Members = List (List ℕ × ℕ)

record HasUnit (t : Table) (ms : Members) (f : FieldRow) : Type 0 where
  member : List ℕ × ℕ
  here : slice_get ms f.unit ≡ Some member
  integer : slice_get t.types member.1 ≡ Some (rows.Int f.t)
  room : is_field (part_of_unit f) ≡ true

abbrev HaveUnits : Table → Members → NamedFields → Type 0
HaveUnits t ms [] = Unit {0}
HaveUnits t ms (x ∷ xs) = HasUnit t ms x.1 × HaveUnits t ms xs

both_have : (t : Table) (ms : Members) (xs ys : NamedFields) → HaveUnits t ms xs → HaveUnits t ms ys
    → HaveUnits t ms (xs ++ ys)
both_have t ms [] ys h k = k
both_have t ms (x ∷ xs) ys h k = (h.0, both_have t ms xs ys h.1 k)

abbrev row_of : ℕ → Field → FieldRow
row_of u f = record { unit = u; t = f.t; used = f.used; width = f.width }

named_has : (t : Table) (ms : Members) (u : ℕ) (n : Option (List ℕ)) (f : Field)
    → (is_some n ≡ true → HasUnit t ms (row_of u f)) → HaveUnits t ms (named_field u n f)
named_has t ms u None f h = tt
named_has t ms u (Some n) f h = (h refl, tt)

-- The unit that is open has a bit, and is the last of the members so far.
record IsLastUnit (t : Table) (r : UnitsSoFar) (ms : Members) : Type 0 where
  used : r.is_open ≡ true → 1 ≤ r.used
  kind : r.is_open ≡ true → is_unit_type r.t ≡ true
  some : r.is_open ≡ true → 1 ≤ length ms
  last : r.is_open ≡ true
      → (m : List ℕ × ℕ) × (slice_get ms (length ms - 1) ≡ Some m) × (slice_get t.types m.1 ≡ Some (rows.Int r.t))

got_there : (ms more : Members) (m : List ℕ × ℕ) → slice_get (ms ++ m ∷ more) (length ms) ≡ Some m
got_there [] more m = refl
got_there (x ∷ ms) more m = got_there ms more m

one_longer : (ms : Members) (m : List ℕ × ℕ) → length (ms ++ m ∷ []) ≡ length ms + 1
one_longer ms m = length-append ms (m ∷ [])

-- one member more stands before what is behind
moved_on : (t : Table) (ms : Members) (m : List ℕ × ℕ) (es : Named) (fs : List Field)
    → HaveUnits t ((ms ++ m ∷ []) ++ members_with es fs) (fields_with (length (ms ++ m ∷ [])) es fs)
    → HaveUnits t (ms ++ m ∷ members_with es fs) (fields_with (length ms + 1) es fs)
moved_on t ms m es fs h =
    subst (λ (k : ℕ). HaveUnits t (ms ++ m ∷ members_with es fs) (fields_with k es fs)) (one_longer ms m)
    (subst (λ (xs : Members). HaveUnits t xs (fields_with (length (ms ++ m ∷ [])) es fs))
    (append-assoc ms (m ∷ []) (members_with es fs)) h)

by_begin : (t : Table) (ms : Members) (n : Option (List ℕ)) (ty : ℕ) (i : IntType) (w : ℕ) (es : Named) (f : Field)
    (fs : List Field) (b : Bool) → begins_unit f ≡ b
    → (b ≡ true → HaveUnits t (ms ++ (unit_name, ty) ∷ members_with es fs)
    (named_field (length ms) n f ++ fields_with (length ms + 1) es fs))
    → (b ≡ false → HaveUnits t (ms ++ members_with es fs)
    (named_field (length ms - 1) n f ++ fields_with (length ms) es fs))
    → HaveUnits t (ms ++ members_with (a_field n ty i w ∷ es) (f ∷ fs))
    (fields_with (length ms) (a_field n ty i w ∷ es) (f ∷ fs))
by_begin t ms n ty i w es f fs true q begins goes = rw q (begins refl)
by_begin t ms n ty i w es f fs false q begins goes = rw q (goes refl)

-- the row in which a bit-field has begun a unit
abbrev begun_by : UnitsSoFar → IntType → ℕ → UnitsSoFar
begun_by r i w = record { begun = r.begun + 1; is_open = true; unit = r.begun; t = i; used = w }

no_unit : (t : Table) (r : UnitsSoFar) (ms : Members) → IsLastUnit t (record r { is_open = false }) ms
no_unit t r ms = record {
  used = λ o. never o;
  kind = λ o. never o;
  some = λ o. never o;
  last = λ o. never o;
}

module _ (t : Table) where
  -- what stands behind these members, in this row of units
  abbrev Behind : Members → UnitsSoFar → Named → Type 0
  Behind ms r es =
      HaveUnits t (ms ++ members_with es (fields_behind r es)) (fields_with (length ms) es (fields_behind r es))

  -- and where this bit-field stands first, before which the row is another
  abbrev FieldFirst : Members → Entry → Named → Field → UnitsSoFar → Type 0
  FieldFirst ms e es f next =
      HaveUnits t (ms ++ members_with (e ∷ es) (f ∷ fields_behind next es))
      (fields_with (length ms) (e ∷ es) (f ∷ fields_behind next es))

  -- a bit-field without bits ends its unit
  ends : (ms : Members) (r : UnitsSoFar) (n : Option (List ℕ)) (ty : ℕ) (i : IntType) (w : ℕ) (es : Named)
      → nat_eq w 0 ≡ true → (is_some n ≡ true → 1 ≤ w) → Behind ms (record r { is_open = false }) es
      → FieldFirst ms (a_field n ty i w) es (record { t = i; used = 0; width = w }) (record r { is_open = false })
  ends ms r n ty i w es z named later =
      let f : Field = record { t = i; used = 0; width = w } in
      let fs = fields_behind (record r { is_open = false }) es in
      let no : w ≡ 0 = eqb-true w 0 z in
      by_begin t ms n ty i w es f fs false (none w no) (λ b. never b)
      (λ b. both_have t (ms ++ members_with es fs) (named_field (length ms - 1) n f) (fields_with (length ms) es fs)
      (named_has t (ms ++ members_with es fs) (length ms - 1) n f
      (λ s. (let some = named s in absurd (omega (arith, no, some))))) later)
    where
      none : (w : ℕ) → w ≡ 0 → nat_le 1 w ≡ false
      none w e = grind (arith, nat_tests)

  -- one that goes on in the open unit lies in the last member
  goes : (ms : Members) (r : UnitsSoFar) (n : Option (List ℕ)) (ty : ℕ) (i : IntType) (w : ℕ) (es : Named)
      → IsLastUnit t r ms → is_entry (i, w) ≡ true → (is_some n ≡ true → 1 ≤ w) → shares r (i, w) ≡ true
      → (IsLastUnit t (record r { used = r.used + w }) ms → Behind ms (record r { used = r.used + w }) es)
      → FieldFirst ms (a_field n ty i w) es (record { t = i; used = r.used; width = w })
      (record r { used = r.used + w })
  goes ms r n ty i w es last fits named q later =
      let f : Field = record { t = i; used = r.used; width = w } in
      let fs = fields_behind (record r { used = r.used + w }) es in
      let s = shares_is r (i, w) q in
      let parts = and_parts (is_unit_type i) (nat_le w (bits_of i)) fits in
      let same : r.t ≡ i = same_unit_type r.t i (last.kind s.open_unit) parts.0 s.same in
      let m = last.last s.open_unit in
      by_begin t ms n ty i w es f fs false (not_first r.used (nat_le 1 w) (last.used s.open_unit)) (λ b. never b)
      (λ b. both_have t (ms ++ members_with es fs) (named_field (length ms - 1) n f) (fields_with (length ms) es fs)
      (named_has t (ms ++ members_with es fs) (length ms - 1) n f
      (λ has. record {
        member = m.0;
        here = slice_get-append ms (members_with es fs) (length ms - 1) m.0 m.1;
        integer = subst (λ (j : IntType). slice_get t.types m.0.1 ≡ Some (rows.Int j)) same m.2;
        room = field_from i r.used w parts.0 (named has) s.room;
      }))
      (later (record {
        used = λ o. (let u = last.used o in omega (arith, u));
        kind = last.kind;
        some = last.some;
        last = last.last;
      })))
    where
      not_first : (k : ℕ) (b : Bool) → 1 ≤ k → (nat_eq k 0 && b) ≡ false
      not_first k b l = let e : nat_eq k 0 ≡ false = grind (arith, nat_tests) in rw e refl

  -- one that begins a unit is a member more
  begins : (ms : Members) (r : UnitsSoFar) (n : Option (List ℕ)) (ty : ℕ) (i : IntType) (w : ℕ) (es : Named)
      → slice_get t.types ty ≡ Some (rows.Int i) → is_entry (i, w) ≡ true → nat_eq w 0 ≡ false
      → (IsLastUnit t (begun_by r i w) (ms ++ (unit_name, ty) ∷ [])
      → Behind (ms ++ (unit_name, ty) ∷ []) (begun_by r i w) es)
      → FieldFirst ms (a_field n ty i w) es (record { t = i; used = 0; width = w }) (begun_by r i w)
  begins ms r n ty i w es there fits z later =
      let f : Field = record { t = i; used = 0; width = w } in
      let fs = fields_behind (begun_by r i w) es in
      let m : List ℕ × ℕ = (unit_name, ty) in
      let some = some_bits w z in
      let parts = and_parts (is_unit_type i) (nat_le w (bits_of i)) fits in
      let longer = one_longer ms m in
      by_begin t ms n ty i w es f fs true (le-leb 1 w some)
      (λ b. both_have t (ms ++ m ∷ members_with es fs) (named_field (length ms) n f) (fields_with (length ms + 1) es fs)
      (named_has t (ms ++ m ∷ members_with es fs) (length ms) n f
      (λ has. record {
        member = m;
        here = got_there ms (members_with es fs) m;
        integer = there;
        room = field_from i 0 w parts.0 some (room_for w (bits_of i) parts.1);
      }))
      (moved_on t ms m es fs (later (record {
        used = λ o. some;
        kind = λ o. parts.0;
        some = λ o. omega (arith, longer);
        last = λ o. (m, at_last (length ms) (length (ms ++ m ∷ [])) longer (get_last ms m), there);
      }))))
      (λ b. never (sym b))
    where
      some_bits : (k : ℕ) → nat_eq k 0 ≡ false → 1 ≤ k
      some_bits zero e = never (sym e)
      some_bits (suc k) e = omega arith

      room_for : (w n : ℕ) → nat_le w n ≡ true → nat_le (0 + w) n ≡ true
      room_for w n h = let l : w ≤ n = leb-true w n h in le-leb (0 + w) n (omega (arith, l))

      at_last : (n k : ℕ) → k ≡ n + 1 → slice_get (ms ++ (unit_name, ty) ∷ []) n ≡ Some (unit_name, ty)
          → slice_get (ms ++ (unit_name, ty) ∷ []) (k - 1) ≡ Some (unit_name, ty)
      at_last n k e h =
          let same : n ≡ k - 1 = omega (arith, e) in
          subst (λ (j : ℕ). slice_get (ms ++ (unit_name, ty) ∷ []) j ≡ Some (unit_name, ty)) same h

  -- by the three ways in which a row goes on
  any_way : (ms : Members) (r : UnitsSoFar) (n : Option (List ℕ)) (ty : ℕ) (i : IntType) (w : ℕ) (es : Named)
      → IsEntryOf t (a_field n ty i w) → IsLastUnit t r ms
      → ((us : Members) (next : UnitsSoFar) → IsLastUnit t next us → Behind us next es) → Behind ms r (a_field n ty i w ∷ es)
  any_way ms r n ty i w es h last later = split (nat_eq w 0) refl (shares r (i, w)) refl
    where
      split : (a : Bool) → nat_eq w 0 ≡ a → (b : Bool) → shares r (i, w) ≡ b
          → FieldFirst ms (a_field n ty i w) es
          (record { t = i; used = if a then 0 else if b then r.used else 0; width = w })
          (if a then record r { is_open = false } else if b then record r { used = r.used + w } else begun_by r i w)
      split true p b q = ends ms r n ty i w es p h.2 (later ms (record r { is_open = false }) (no_unit t r ms))
      split false p true q = goes ms r n ty i w es last h.1 h.2 q (λ l. later ms (record r { used = r.used + w }) l)
      split false p false q =
          begins ms r n ty i w es h.0 h.1 p (λ l. later (ms ++ (unit_name, ty) ∷ []) (begun_by r i w) l)

  -- the bit-fields behind some members have their units
  units_behind : (es : Named) (ms : Members) (r : UnitsSoFar) → AreKnown t es → IsLastUnit t r ms → Behind ms r es
  units_behind [] ms r h last = tt
  units_behind (a_member n ty ∷ es) ms r h last =
      moved_on t ms (n, ty) es (fields_behind (record r { is_open = false }) es)
      (units_behind es (ms ++ (n, ty) ∷ []) (record r { is_open = false }) h.1 (no_unit t r (ms ++ (n, ty) ∷ [])))
  units_behind (a_field n ty i w ∷ es) ms r h last =
      any_way ms r n ty i w es h.0 last (λ us next l. units_behind es us next h.1 l)

  have_units : (es : Named) → AreKnown t es → HaveUnits t (members_in es) (fields_in es)
  have_units es h = units_behind es [] no_units h (no_unit t no_units [])

-- ---- members with their offsets

struct_get : (t : Table) (ms : Members) (e k : ℕ) (m : List ℕ × ℕ) → slice_get ms k ≡ Some m
    → (x : MemberRow) × (slice_get (struct_members t e ms) k ≡ Some x) × (x.ty ≡ m.1)
struct_get t [] e k m h = absurd cc
struct_get t (y ∷ ms) e zero m h = let same : y ≡ m = cc in (_, refl, ap (λ (p : List ℕ × ℕ). p.1) same)
struct_get t (y ∷ ms) e (suc k) m h = struct_get t ms _ k m h

union_get : (ms : Members) (k : ℕ) (m : List ℕ × ℕ) → slice_get ms k ≡ Some m
    → (x : MemberRow) × (slice_get (union_members ms) k ≡ Some x) × (x.ty ≡ m.1)
union_get [] k m h = absurd cc
union_get (y ∷ ms) zero m h = let same : y ≡ m = cc in (_, refl, ap (λ (p : List ℕ × ℕ). p.1) same)
union_get (y ∷ ms) (suc k) m h = union_get ms k m h

laid_get : (t : Table) (u : Bool) (ms : Members) (k : ℕ) (m : List ℕ × ℕ) → slice_get ms k ≡ Some m
    → (x : MemberRow) × (slice_get (laid_out t u ms) k ≡ Some x) × (x.ty ≡ m.1)
laid_get t true ms k m h = union_get ms k m h
laid_get t false ms k m h = struct_get t ms 0 k m h

module _ (t : Table) (a : ℕ) (g : AggregateRow) (ms : Members) (here : slice_get t.aggregates a ≡ Some g) where
  completed_members : members_of (with_members t a g (laid_out t g.is_union ms)) a ≡ laid_out t g.is_union ms
  completed_members =
      rw (get_set_same t.aggregates a (record g { members = Some (laid_out t g.is_union ms) }) g here) refl

  now_completed : is_completed (with_members t a g (laid_out t g.is_union ms)) a ≡ true
  now_completed =
      rw (get_set_same t.aggregates a (record g { members = Some (laid_out t g.is_union ms) }) g here) refl

  completed_field : (f : FieldRow) → HasUnit t ms f → IsFieldOf (with_members t a g (laid_out t g.is_union ms)) a f
  completed_field f h =
      let x = laid_get t g.is_union ms f.unit h.member h.here in
      record {
        member = x.0;
        here = ap (λ (rs : List MemberRow). slice_get rs f.unit) completed_members ∙ x.1;
        integer = subst (λ (k : ℕ). slice_get t.types k ≡ Some (rows.Int f.t)) (sym x.2) h.integer;
        room = h.room;
      }

  completed_fields : (ns : NamedFields) → HaveUnits t ms ns
      → AreFieldsOf (with_members t a g (laid_out t g.is_union ms)) a ns
  completed_fields [] h = tt
  completed_fields (x ∷ ns) h = (completed_field x.1 h.0, completed_fields ns h.1)

-- where a body is closed, its aggregate is completed, and its bit-fields have units
pub closed_fields : (t : Table) (a : ℕ) (g : AggregateRow) (es : Named) → slice_get t.aggregates a ≡ Some g
    → AreKnown t es → IsFieldsOf (completed_with t a (members_in es)) a (fields_in es)
closed_fields t a g es here h =
    subst (λ (u : Table). IsFieldsOf u a (fields_in es)) (sym (completed_is t a g (members_in es) here)) (record {
      completed = now_completed t a g (members_in es) here;
      units = completed_fields t a g (members_in es) here (fields_in es) (have_units t es h);
    })
