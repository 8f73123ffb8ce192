-- Fields that share a unit have no bit in common.
use Rattle.std.proofs.Common.{◌≡◌, ℕ, ◌+◌, ◌<◌, ◌≤◌, Bool, true, false, ◌&&◌, nat_eq, nat_le, List, [], ◌∷◌}
use Rattle.std.proofs.Common.{◌++◌, length, drop, if◌then◌else◌, refl, sym, ap, ◌∙◌, arith}
use Rattle.std.proofs.lemmas.List.{append-nil, drop_all}
use Rattle.std.specs.List.{list_all, AllByRecursion}
use Rattle.std.proofs.lemmas.Bool.{and_from, and_parts, eqb-true, le-leb, leb-true}
use Rattle.ep_int.specs.declared.types.IntType.{IntType}
use Rattle.ep_int.specs.declared.types.IntType.TheVariants.{I8, U8, I16, U16, I32, U32, I64, U64}
use Rattle.ep_int.specs.Types.{bits_of}
use Rattle.ep_core.proofs.Sorts.{never}
use Rattle.ep_bitfield.specs.declared.field.Field.{Field}
use Rattle.ep_bitfield.specs.declared.units.Row.{Row}
use Rattle.ep_bitfield.specs.Bits.{is_field, is_unit_type}
use Rattle.ep_bitfield.specs.Units.{are_entries, behind, is_entry, no_units, open_number, packed, packed_from, placed}
use Rattle.ep_bitfield.specs.Units.{shares, AreApart, IsInUnit, LiesBehind}

-- the type of a unit of so many bits
abbrev type_of_bits : ℕ → IntType
type_of_bits n = if nat_eq n 8 then U8 else if nat_eq n 16 then U16 else U32

unit_type_again : (t : IntType) → is_unit_type t ≡ true → type_of_bits (bits_of t) ≡ t
unit_type_again I8 h = never h
unit_type_again U8 h = refl
unit_type_again I16 h = never h
unit_type_again U16 h = refl
unit_type_again I32 h = never h
unit_type_again U32 h = refl
unit_type_again I64 h = never h
unit_type_again U64 h = never h

pub same_unit_type : (t u : IntType) → is_unit_type t ≡ true → is_unit_type u ≡ true → nat_eq (bits_of t) (bits_of u) ≡ true
    → t ≡ u
same_unit_type t u h k e =
    sym (unit_type_again t h) ∙ ap type_of_bits (eqb-true (bits_of t) (bits_of u) e) ∙ unit_type_again u k

-- what an entry and a row are, by the three ways in which they go on
module _ (P : Row → ℕ × Field → Type 0) (r : Row) (e : IntType × ℕ) where
  way_on : (nat_eq e.1 0 ≡ true
      → P (record r { is_open = false }) (open_number r, record { t = e.0; used = 0; width = e.1 }))
      → (shares r e ≡ true
      → P (record r { used = r.used + e.1 }) (r.unit, record { t = e.0; used = r.used; width = e.1 }))
      → P (record { begun = r.begun + 1; is_open = true; unit = r.begun; t = e.0; used = e.1 })
      (r.begun, record { t = e.0; used = 0; width = e.1 }) → P (behind r e) (placed r e)
  way_on ends goes begins = split (nat_eq e.1 0) refl (shares r e) refl
    where
      split : (a : Bool) → nat_eq e.1 0 ≡ a → (b : Bool) → shares r e ≡ b
          → P (if a then record r { is_open = false } else if b then record r { used = r.used + e.1 }
          else record { begun = r.begun + 1; is_open = true; unit = r.begun; t = e.0; used = e.1 }) (
            if a then open_number r else if b then r.unit else r.begun,
            record { t = e.0; used = if a then 0 else if b then r.used else 0; width = e.1 },
          )
      split true p b q = ends p
      split false p true q = goes q
      split false p false q = begins

no_bits : {A : Type 0} (n : ℕ) → nat_eq n 0 ≡ true → 1 ≤ n → A
no_bits n e h = let z : n ≡ 0 = eqb-true n 0 e in absurd (omega (arith, z, h))

pub record Shares (r : Row) (e : IntType × ℕ) : Type 0 where
  pub open_unit : r.is_open ≡ true
  pub same : nat_eq (bits_of r.t) (bits_of e.0) ≡ true
  pub room : nat_le (r.used + e.1) (bits_of e.0) ≡ true

pub shares_is : (r : Row) (e : IntType × ℕ) → shares r e ≡ true → Shares r e
shares_is r e h =
    let all = and_parts r.is_open _ h in
    let rest = and_parts (nat_eq (bits_of r.t) (bits_of e.0)) _ all.1 in
    record { open_unit = all.0; same = rest.0; room = rest.1 }

-- ---- each field is in its unit

pub field_from : (t : IntType) (used width : ℕ) → is_unit_type t ≡ true → 1 ≤ width → nat_le (used + width) (bits_of t) ≡ true
    → is_field (record { t = t; used = used; width = width }) ≡ true
field_from t used width h some room =
    and_from (is_unit_type t) (nat_le 1 width && nat_le (used + width) (bits_of t)) h
    (and_from (nat_le 1 width) (nat_le (used + width) (bits_of t)) (le-leb 1 width some) room)

entry_inside : (r : Row) (e : IntType × ℕ) → is_entry e ≡ true → IsInUnit (placed r e)
entry_inside r e h =
    let parts = and_parts (is_unit_type e.0) (nat_le e.1 (bits_of e.0)) h in
    way_on (λ next x. IsInUnit x) r e (λ p some. no_bits e.1 p some)
    (λ q some. field_from e.0 r.used e.1 parts.0 some (shares_is r e q).room)
    (λ some. field_from e.0 0 e.1 parts.0 some
    (let fits : e.1 ≤ bits_of e.0 = leb-true e.1 (bits_of e.0) parts.1 in
    le-leb (0 + e.1) (bits_of e.0) (omega (arith, fits))))

all_inside : (r : Row) (es : List (IntType × ℕ)) → are_entries es ≡ true → AllByRecursion IsInUnit (packed_from r es)
all_inside r [] h = tt
all_inside r (e ∷ es) h =
    let parts = and_parts (is_entry e) (list_all is_entry es) h in
    (entry_inside r e parts.0, all_inside (behind r e) es parts.1)

pub packed_inside : (es : List (IntType × ℕ)) → are_entries es ≡ true → AllByRecursion IsInUnit (packed es)
packed_inside es h = all_inside no_units es h

-- ---- fields of one unit are apart

-- the open unit has begun, and is a unit
record IsRow (r : Row) : Type 0 where
  pub number : r.is_open ≡ true → r.unit < r.begun
  pub kind : r.is_open ≡ true → is_unit_type r.t ≡ true

-- a field of a unit that has begun; where that is the open one, it is among its used bits
record IsBefore (a : ℕ × Field) (r : Row) : Type 0 where
  pub number : a.0 < r.begun
  pub part : r.is_open ≡ true → a.0 ≡ r.unit → (a.1.t ≡ r.t) × (a.1.used + a.1.width ≤ r.used)

row_behind : (r : Row) (e : IntType × ℕ) → IsRow r → is_entry e ≡ true → IsRow (behind r e)
row_behind r e good h =
    way_on (λ next x. IsRow next) r e (λ p. record { number = λ o. never o; kind = λ o. never o })
    (λ q. record { number = good.number; kind = good.kind })
    (record {
      number = λ o. omega arith;
      kind = λ o. (and_parts (is_unit_type e.0) (nat_le e.1 (bits_of e.0)) h).0;
    })

entry_type : (r : Row) (e : IntType × ℕ) → IsRow r → is_entry e ≡ true → shares r e ≡ true → r.t ≡ e.0
entry_type r e good h q =
    let s = shares_is r e q in
    same_unit_type r.t e.0 (good.kind s.open_unit) (and_parts (is_unit_type e.0) (nat_le e.1 (bits_of e.0)) h).0 s.same

-- a field that is before an entry is before all behind it
still_before : (a : ℕ × Field) (r : Row) (e : IntType × ℕ) → IsRow r → is_entry e ≡ true → IsBefore a r
    → LiesBehind a (placed r e) × IsBefore a (behind r e)
still_before a r e good h b =
    way_on (λ next x. LiesBehind a x × IsBefore a next) r e
    (λ p. (λ s m k. no_bits e.1 p k, record { number = b.number; part = λ o. never o }))
    (λ q. (
      λ s m k. (let i = b.part (shares_is r e q).open_unit s in (i.0 ∙ entry_type r e good h q, i.1)),
      record { number = b.number; part = λ o s. (let i = b.part o s in (i.0, let j = i.1 in omega (arith, j))) },
    )) (
      λ s m k. (let n = b.number in absurd (omega (arith, n, s))),
      record {
        number = let n = b.number in omega (arith, n);
        part = λ o s. (let n = b.number in absurd (omega (arith, n, s)));
      },
    )

own_before : (r : Row) (e : IntType × ℕ) → IsRow r → is_entry e ≡ true → 1 ≤ (placed r e).1.width
    → IsBefore (placed r e) (behind r e)
own_before r e good h =
    way_on (λ next x. 1 ≤ x.1.width → IsBefore x next) r e (λ p some. no_bits e.1 p some)
    (λ q some. record {
      number = good.number (shares_is r e q).open_unit;
      part = λ o s. (sym (entry_type r e good h q), omega arith);
    })
    (λ some. record { number = omega arith; part = λ o s. (refl, omega arith) })

all_behind : (a : ℕ × Field) (r : Row) (es : List (IntType × ℕ)) → IsRow r → (1 ≤ a.1.width → IsBefore a r)
    → are_entries es ≡ true → AllByRecursion (LiesBehind a) (packed_from r es)
all_behind a r [] good b h = tt
all_behind a r (e ∷ es) good b h =
    let parts = and_parts (is_entry e) (list_all is_entry es) h in (
      λ s m k. (still_before a r e good parts.0 (b m)).0 s m k,
      all_behind a (behind r e) es (row_behind r e good parts.0) (λ m. (still_before a r e good parts.0 (b m)).1) parts.1,
    )

all_apart : (r : Row) (es : List (IntType × ℕ)) → IsRow r → are_entries es ≡ true → AreApart (packed_from r es)
all_apart r [] good h = tt
all_apart r (e ∷ es) good h =
    let parts = and_parts (is_entry e) (list_all is_entry es) h in
    let next = row_behind r e good parts.0 in (
      all_behind (placed r e) (behind r e) es next (own_before r e good parts.0) parts.1,
      all_apart (behind r e) es next parts.1,
    )

pub packed_apart : (es : List (IntType × ℕ)) → are_entries es ≡ true → AreApart (packed es)
packed_apart es h = all_apart no_units es (record { number = λ o. never o; kind = λ o. never o }) h

-- where the walk ends
pub walk_end : (list : List (IntType × ℕ)) (i : ℕ) (r : Row) (fields : List (ℕ × Field)) → length list ≤ i
    → fields ++ packed_from r (drop i list) ≡ packed list → fields ≡ packed list
walk_end list i r fields h e =
    sym (append-nil fields) ∙ ap (λ es. fields ++ packed_from r es) (sym (drop_all i list h)) ∙ e
