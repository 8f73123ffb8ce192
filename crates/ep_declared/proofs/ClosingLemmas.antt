-- What a body comes to at its end: its members, units among them, and its bit-fields.
use Rattle.std.proofs.Common.{◌≡◌, ℕ, suc, ◌+◌, ◌-◌, ◌<◌, ◌≤◌, nat_eq, Bool, true, false, true≢false, List, [], ◌∷◌, ◌++◌}
use Rattle.std.proofs.Common.{length, map, drop, drop-cons, get_or, bytes_eq, Option, Some, None, Result, Ok, Err, refl}
use Rattle.std.proofs.Common.{append_assoc, sym, ap, ◌∙◌, subst, inl, inr, arith, if◌then◌else◌}
use Rattle.std.proofs.lemmas.Bool.{and_from, and_parts, eqb-true, or_left, or_right}
use Rattle.std.proofs.lemmas.List.{append-nil, drop_all, length-append, length-map, nil_from_length}
use Rattle.std.specs.Global.{Vec}
use Rattle.std.specs.List.{list_all}
use Rattle.ep_int.proofs.Basics.{bytes_eq-equal}
use Rattle.ep_int.specs.declared.types.IntType.{IntType}
use Rattle.ep_ast.specs.declared.refusals.Refusal.{Refusal}
use Rattle.ep_layout.specs.declared.types.LayoutStop.{LayoutStop}
use Rattle.ep_layout.specs.declared.types.LayoutStop.TheVariants as stops
use Rattle.ep_layout.specs.Stops.{IsStop}
use Rattle.ep_layout.specs.Table.{Table, completed_with, is_type, members_stop}
use Rattle.ep_layout.specs.Views.{named_view}
use Rattle.ep_bitfield.specs.declared.field.Field.{Field}
use Rattle.ep_bitfield.specs.Units.{behind, no_units, packed, packed_from}
use Rattle.ep_typing.specs.declared.types.Base.TheVariants as bases
use Rattle.ep_typing.specs.declared.types.CType.{CType}
use Rattle.ep_typing.specs.declared.types.FieldRow.{FieldRow}
use Rattle.ep_typing.specs.Env.{Env, NamedFields, entry as named_entry}
use Rattle.ep_typing.specs.Results.{at}
use Rattle.ep_typing.specs.Types.{whole, with_c_type}
use Rattle.ep_elaboration.specs.Aggregates as rule
use Rattle.ep_operands.specs.Refinement.{Stops}
use Rattle.ep_declared.specs.declared.entries.Entry.{Entry}
use Rattle.ep_declared.specs.Entries.{are_distinct, entry, field_of, name_of, own_fields, own_members, type_of}
use Rattle.ep_declared.specs.Entries.{unit_number, IsFree}
use Rattle.ep_declared.specs.Open.{AreTypes}
use Rattle.ep_declared.specs.Stopped.{halted}
use Rattle.ep_declared.proofs.EntryLemmas.{bytes_eq-itself, first_distinct, is_name, named_is, rest_distinct}

-- ---- one entry after another

pub members_step : (e : rule.Entry) (es : rule.Named) (f : Field) (fs : List Field)
    → rule.members_with (e ∷ es) (f ∷ fs) ≡ own_members e f ++ rule.members_with es fs
members_step (rule.a_member n ty) es f fs = refl
members_step (rule.a_field n ty t w) es f fs = of (rule.begins_unit f)
  where
    of : (b : Bool)
        → (if b then (rule.unit_name, ty) ∷ rule.members_with es fs else rule.members_with es fs)
        ≡ (if b then (rule.unit_name, ty) ∷ [] else []) ++ rule.members_with es fs
    of true = refl
    of false = refl

plus_zero : (k : ℕ) → k ≡ k + 0
plus_zero k = omega arith

pub fields_step : (k : ℕ) (e : rule.Entry) (es : rule.Named) (f : Field) (fs : List Field)
    → rule.fields_with k (e ∷ es) (f ∷ fs)
    ≡ own_fields k e f ++ rule.fields_with (k + length (own_members e f)) es fs
fields_step k (rule.a_member n ty) es f fs = refl
fields_step k (rule.a_field n ty t w) es f fs = of (rule.begins_unit f)
  where
    of : (b : Bool)
        → (if b then rule.named_field k n f ++ rule.fields_with (k + 1) es fs
        else rule.named_field (k - 1) n f ++ rule.fields_with k es fs)
        ≡ rule.named_field (if b then k else k - 1) n f
        ++ rule.fields_with (k + length {A = List ℕ × ℕ} (if b then (rule.unit_name, ty) ∷ [] else [])) es fs
    of true = refl
    of false = ap (λ (j : ℕ). rule.named_field (k - 1) n f ++ rule.fields_with j es fs) (plus_zero k)

-- ---- names of bit-fields are new

entry_behind : (n : List ℕ) (xs ys : NamedFields) → named_entry n xs ≡ None → named_entry n ys ≡ None
    → named_entry n (xs ++ ys) ≡ None
entry_behind n [] ys h k = k
entry_behind n (x ∷ xs) ys h k = of (bytes_eq n x.0) h (λ p. entry_behind n xs ys p k)
  where
    of : (b : Bool) → (if b then Some x.1 else named_entry n xs) ≡ None
        → (named_entry n xs ≡ None → named_entry n (xs ++ ys) ≡ None)
        → (if b then Some x.1 else named_entry n (xs ++ ys)) ≡ None
    of true h g = absurd cc
    of false h g = g h

own_free : (n : List ℕ) (k : ℕ) (e : rule.Entry) (f : Field) (es : rule.Named)
    → rule.is_taken_name (name_of e) es ≡ false → rule.is_declared n es ≡ true
    → named_entry n (own_fields k e f) ≡ None
own_free n k (rule.a_member m ty) f es h d = refl
own_free n k (rule.a_field None ty t w) f es h d = refl
own_free n k (rule.a_field (Some m) ty t w) f es h d = of (bytes_eq n m) refl
  where
    row : FieldRow
    row = record { unit = unit_number k f; t = f.t; used = f.used; width = f.width }

    of : (b : Bool) → bytes_eq n m ≡ b → (if b then Some row else None) ≡ None
    of false q = refl
    of true q =
        let same : n ≡ m = bytes_eq-equal n m q in
        absurd (true≢false (sym d ∙ ap (λ (t : List ℕ). rule.is_declared t es) same ∙ h))

-- of what is left no name is that of a bit-field so far
abbrev pub AreFree : NamedFields → rule.Named → Type 0
AreFree ns es = (n : List ℕ) → rule.is_declared n es ≡ true → named_entry n ns ≡ None

pub free_now : (ns : NamedFields) (e : rule.Entry) (es : rule.Named) → AreFree ns (e ∷ es) → IsFree (name_of e) ns
free_now ns e es h = of (name_of e) refl
  where
    of : (o : Option (List ℕ)) → name_of e ≡ o → IsFree o ns
    of None p = tt
    of (Some n) p =
        let it : rule.is_named n e ≡ true = named_is n e ∙ ap (λ (o : Option (List ℕ)). is_name o n) p ∙ bytes_eq-itself n in
        h n (or_left (rule.is_named n e) (rule.is_declared n es) it)

pub free_behind : (ns : NamedFields) (k : ℕ) (e : rule.Entry) (f : Field) (es : rule.Named) → are_distinct (e ∷ es) ≡ true
    → AreFree ns (e ∷ es) → AreFree (ns ++ own_fields k e f) es
free_behind ns k e f es d h n q =
    entry_behind n ns (own_fields k e f) (h n (or_right (rule.is_named n e) (rule.is_declared n es) q))
    (own_free n k e f es (first_distinct e es d) q)

-- ---- the walk over all entries

-- what was done and what is left is all
pub record IsOnWay (es : rule.Named) (fs : List Field) (members : List (Vec ℕ × ℕ)) (names : NamedFields)
    (left : rule.Named) (fields : List Field) : Type 0 where
  pub members_left : named_view members ++ rule.members_with left fields ≡ rule.members_with es fs
  pub names_left : names ++ rule.fields_with (length members) left fields ≡ rule.fields_with 0 es fs
  pub free : AreFree names left
  pub distinct : are_distinct left ≡ true

pub way_begins : (es : rule.Named) (fs : List Field) (members : List (Vec ℕ × ℕ)) (names : NamedFields)
    → are_distinct es ≡ true → members ≡ [] → names ≡ [] → IsOnWay es fs members names es fs
way_begins es fs members names d e f = record {
  members_left = ap (λ (ms : List (Vec ℕ × ℕ)). named_view ms ++ rule.members_with es fs) e;
  names_left = ap (λ (ms : List (Vec ℕ × ℕ)). names ++ rule.fields_with (length ms) es fs) e
      ∙ ap (λ (ns : NamedFields). ns ++ rule.fields_with 0 es fs) f;
  free = λ n q. ap (named_entry n) f;
  distinct = d;
}

grown_length : (ms ns : List (Vec ℕ × ℕ)) (more : List (List ℕ × ℕ)) → named_view ns ≡ named_view ms ++ more
    → length ns ≡ length ms + length more
grown_length ms ns more e =
    sym (length-map ns (λ (m : Vec ℕ × ℕ). (m.0.items, m.1))) ∙ ap length e ∙ length-append (named_view ms) more
    ∙ ap (λ (k : ℕ). k + length more) (length-map ms (λ (m : Vec ℕ × ℕ). (m.0.items, m.1)))

pub way_goes : (es : rule.Named) (fs : List Field) (ms ns : List (Vec ℕ × ℕ)) (names now : NamedFields) (e : rule.Entry)
    (left : rule.Named) (f : Field) (fields : List Field) → IsOnWay es fs ms names (e ∷ left) (f ∷ fields)
    → named_view ns ≡ named_view ms ++ own_members e f → now ≡ names ++ own_fields (length ms) e f
    → IsOnWay es fs ns now left fields
way_goes es fs ms ns names now e left f fields w p q = record {
  members_left =
      ap (λ (xs : List (List ℕ × ℕ)). xs ++ rule.members_with left fields) p
      ∙ append_assoc (named_view ms) (own_members e f) (rule.members_with left fields)
      ∙ ap (λ (xs : List (List ℕ × ℕ)). named_view ms ++ xs) (sym (members_step e left f fields))
      ∙ w.members_left;
  names_left =
      ap (λ (k : ℕ). now ++ rule.fields_with k left fields) (grown_length ms ns (own_members e f) p)
      ∙ ap (λ (xs : NamedFields). xs ++ rule.fields_with (length ms + length (own_members e f)) left fields) q
      ∙ append_assoc names (own_fields (length ms) e f)
      (rule.fields_with (length ms + length (own_members e f)) left fields)
      ∙ ap (λ (xs : NamedFields). names ++ xs) (sym (fields_step (length ms) e left f fields))
      ∙ w.names_left;
  free = subst (λ (xs : NamedFields). AreFree xs left) (sym q) (free_behind names (length ms) e f left w.distinct w.free);
  distinct = rest_distinct e left w.distinct;
}

-- where it stands in lists
module _ (i : ℕ) (es : List Entry) (fs : List (ℕ × Field)) (e : Entry) (d : ℕ × Field) (lt : i < length es)
    (same : length fs ≡ length es) (is : e ≡ get_or es i e) where
  entries_front : map entry (drop i es) ≡ entry e ∷ map entry (drop (i + 1) es)
  entries_front =
      let more : suc i ≡ i + 1 = omega arith in
      ap (map entry) (drop-cons es i e lt ∙ ap (λ (y : Entry). y ∷ drop (suc i) es) (sym is))
      ∙ ap (λ (n : ℕ). entry e ∷ map entry (drop n es)) more

  fields_front : map field_of (drop i fs) ≡ (get_or fs i d).1 ∷ map field_of (drop (i + 1) fs)
  fields_front =
      let more : suc i ≡ i + 1 = omega arith in
      let there : i < length fs = omega (arith, lt, same) in
      ap (map field_of) (drop-cons fs i d there) ∙ ap (λ (n : ℕ). (get_or fs i d).1 ∷ map field_of (drop n fs)) more

  module _ (ms : List (Vec ℕ × ℕ)) (names : NamedFields)
      (w : IsOnWay (map entry es) (map field_of fs) ms names (map entry (drop i es)) (map field_of (drop i fs))) where
    here : IsOnWay (map entry es) (map field_of fs) ms names (entry e ∷ map entry (drop (i + 1) es))
        ((get_or fs i d).1 ∷ map field_of (drop (i + 1) fs))
    here =
        subst (λ (gs : List Field). IsOnWay (map entry es) (map field_of fs) ms names (entry e ∷ map entry (drop (i + 1) es)) gs) fields_front
        (subst (λ (xs : rule.Named). IsOnWay (map entry es) (map field_of fs) ms names xs (map field_of (drop i fs))) entries_front w)

    pub is_free : IsFree (name_of (entry e)) names
    is_free = free_now names (entry e) (map entry (drop (i + 1) es)) here.free

    pub goes_on : (ns : List (Vec ℕ × ℕ)) (now : NamedFields) → named_view ns ≡ named_view ms ++ own_members (entry e) (get_or fs i d).1
        → now ≡ names ++ own_fields (length ms) (entry e) (get_or fs i d).1
        → IsOnWay (map entry es) (map field_of fs) ns now (map entry (drop (i + 1) es)) (map field_of (drop (i + 1) fs))
    goes_on ns now p q =
        way_goes (map entry es) (map field_of fs) ms ns names now (entry e) (map entry (drop (i + 1) es)) (get_or fs i d).1
        (map field_of (drop (i + 1) fs)) here p q

module _ (i : ℕ) (es : List Entry) (fs : List (ℕ × Field)) (ms : List (Vec ℕ × ℕ)) (names : NamedFields)
    (le : length es ≤ i)
    (w : IsOnWay (map entry es) (map field_of fs) ms names (map entry (drop i es)) (map field_of (drop i fs))) where
  ended : IsOnWay (map entry es) (map field_of fs) ms names [] (map field_of (drop i fs))
  ended = subst (λ (xs : List Entry). IsOnWay (map entry es) (map field_of fs) ms names (map entry xs) (map field_of (drop i fs))) (drop_all i es le) w

  pub members_all : named_view ms ≡ rule.members_with (map entry es) (map field_of fs)
  members_all = sym (append-nil (named_view ms)) ∙ ended.members_left

  pub names_all : names ≡ rule.fields_with 0 (map entry es) (map field_of fs)
  names_all = sym (append-nil names) ∙ ended.names_left

-- ---- as many fields as entries

packed_length : (r : _) (es : List (IntType × ℕ)) → length (packed_from r es) ≡ length es
packed_length r [] = refl
packed_length r (e ∷ es) = ap suc (packed_length (behind r e) es)

pub as_many : (es : List Entry) (list : List (IntType × ℕ)) (fields : List (ℕ × Field))
    → list ≡ map rule.packed_as (map entry es) → fields ≡ packed list → length fields ≡ length es
as_many es list fields p q =
    ap length q ∙ packed_length no_units list ∙ ap length p ∙ length-map (map entry es) rule.packed_as
    ∙ length-map es entry

pub fields_are : (es : rule.Named) (list : List (IntType × ℕ)) (fields : List (ℕ × Field))
    → list ≡ map rule.packed_as es → fields ≡ packed list → map field_of fields ≡ rule.fields_packed es
fields_are es list fields p q =
    ap (map field_of) q ∙ ap (λ (xs : List (IntType × ℕ)). map field_of (packed xs)) p

-- ---- types of members

pub members_types : (t : Table) (es : rule.Named) (fs : List Field) → AreTypes t es
    → list_all (λ (m : List ℕ × ℕ). is_type t m.1) (rule.members_with es fs) ≡ true
members_types t [] fs h = refl
members_types t (e ∷ es) [] h = refl
members_types t (rule.a_member n ty ∷ es) (f ∷ fs) h =
    let p = and_parts (is_type t ty) (list_all (λ e. is_type t (type_of e)) es) h in
    and_from (is_type t ty) (list_all (λ (m : List ℕ × ℕ). is_type t m.1) (rule.members_with es fs)) p.0
    (members_types t es fs p.1)
members_types t (rule.a_field n ty u w ∷ es) (f ∷ fs) h =
    let p = and_parts (is_type t ty) (list_all (λ e. is_type t (type_of e)) es) h in
    of (rule.begins_unit f) p.0 (members_types t es fs p.1)
  where
    of : (b : Bool) → is_type t ty ≡ true
        → list_all (λ (m : List ℕ × ℕ). is_type t m.1) (rule.members_with es fs) ≡ true
        → list_all (λ (m : List ℕ × ℕ). is_type t m.1)
        (if b then (rule.unit_name, ty) ∷ rule.members_with es fs else rule.members_with es fs) ≡ true
    of true g k =
        and_from (is_type t ty) (list_all (λ (m : List ℕ × ℕ). is_type t m.1) (rule.members_with es fs)) g k
    of false g k = k

-- ---- a body is closed

abbrev pub closed_in : CType → Env → Result (CType × Env) Refusal
closed_in c G = Ok (c, G)

module _ (l : ℕ) (G : Env) (a : ℕ) (u : Bool) (es : rule.Named) where
  of_members : (ms : List (List ℕ × ℕ)) → ms ≡ rule.members_in es
      → at l (rule.closed_with G a es ms (members_stop G.types u ms)) ≡ at l (rule.closed G a u es)
  of_members ms e = ap (λ (ns : List (List ℕ × ℕ)). at l (rule.closed_with G a es ns (members_stop G.types u ns))) e

  pub no_members : (ms : List (List ℕ × ℕ)) → ms ≡ rule.members_in es → ms ≡ []
      → at l (rule.closed G a u es) ≡ Err (record { kind = 9; line = l; word = 0 })
  no_members ms e f =
      sym (of_members ms e)
      ∙ ap (λ (ns : List (List ℕ × ℕ)). at l (rule.closed_with G a es ns (members_stop G.types u ns))) f

  stops_at : (ms : List (List ℕ × ℕ)) (o : Option LayoutStop) (e : LayoutStop) → (ms ≡ [] → ⊥) → IsStop o e
      → Stops (at l (rule.closed_with G a es ms o)) (halted l e)
  stops_at [] o e some h = absurd (some refl)
  stops_at (m ∷ ms) o stops.Incomplete some (inl h) = absurd cc
  stops_at (m ∷ ms) o stops.Incomplete some (inr h) = rw h refl
  stops_at (m ∷ ms) o stops.TooLarge some (inl h) = absurd cc
  stops_at (m ∷ ms) o stops.TooLarge some (inr h) = rw h refl
  stops_at (m ∷ ms) o stops.Memory some h = tt

  pub closed_stops : (ms : List (List ℕ × ℕ)) (e : LayoutStop) → ms ≡ rule.members_in es → (ms ≡ [] → ⊥)
      → IsStop (members_stop G.types u ms) e → Stops (at l (rule.closed G a u es)) (halted l e)
  closed_stops ms e p some h =
      subst (λ (r : Result (CType × Env) Refusal). Stops r (halted l e)) (of_members ms p)
      (stops_at ms (members_stop G.types u ms) e some h)

  gives : (ms : List (List ℕ × ℕ)) → (ms ≡ [] → ⊥) → (c : CType) (t v : Table) (fs : List (ℕ × NamedFields))
      → t ≡ completed_with G.types a ms → fs ≡ rule.with_fields G.fields a es → c ≡ whole (bases.Aggregate a)
      → v ≡ with_c_type t c → at l (rule.closed_with G a es ms None) ≡ closed_in c (record G { types = v; fields = fs })
  gives [] some c t v fs p q r s = absurd (some refl)
  gives (m ∷ ms) some c t v fs p q r s =
      ap (λ (x : Table). closed_in (whole (bases.Aggregate a)) (record G {
        types = with_c_type x (whole (bases.Aggregate a));
        fields = rule.with_fields G.fields a es;
      })) (sym p)
      ∙ ap (λ (xs : List (ℕ × NamedFields)). closed_in (whole (bases.Aggregate a)) (record G {
        types = with_c_type t (whole (bases.Aggregate a));
        fields = xs;
      })) (sym q)
      ∙ ap (λ (d : CType). closed_in d (record G { types = with_c_type t d; fields = fs })) (sym r)
      ∙ ap (λ (x : Table). closed_in c (record G { types = x; fields = fs })) (sym s)

  pub closed_gives : (ms : List (List ℕ × ℕ)) (c : CType) (t v : Table) (fs : List (ℕ × NamedFields))
      → ms ≡ rule.members_in es → (ms ≡ [] → ⊥) → members_stop G.types u ms ≡ None → t ≡ completed_with G.types a ms
      → fs ≡ rule.with_fields G.fields a es → c ≡ whole (bases.Aggregate a) → v ≡ with_c_type t c
      → at l (rule.closed G a u es) ≡ closed_in c (record G { types = v; fields = fs })
  closed_gives ms c t v fs e some fits p q r s =
      sym (of_members ms e) ∙ ap (λ (o : Option LayoutStop). at l (rule.closed_with G a es ms o)) fits
      ∙ gives ms some c t v fs p q r s

pub none_there : (ms : List (Vec ℕ × ℕ)) → nat_eq (length ms) 0 ≡ true → named_view ms ≡ []
none_there ms h = ap named_view (nil_from_length ms (eqb-true (length ms) 0 h))

pub some_there : (ms : List (Vec ℕ × ℕ)) → nat_eq (length ms) 0 ≡ false → named_view ms ≡ [] → ⊥
some_there [] h e = cc
some_there (m ∷ ms) h e = cc
