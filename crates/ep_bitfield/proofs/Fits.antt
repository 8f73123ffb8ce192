-- The statements that read and write a bit-field are well formed.
use Rattle.std.proofs.Common.{◌≡◌, ℕ, ◌+◌, ◌^◌, ◌<◌, ◌≤◌, pos, Bool, true, false, cond, ◌&&◌, List, [], ◌∷◌}
use Rattle.std.proofs.Common.{Option, Some, None, slice_get, sym, refl, subst, arith, inl, inr}
use Rattle.std.specs.List.{list_any, filter}
use Rattle.std.proofs.lemmas.Bool.{and_from, or_cases, or_left, or_right}
use Rattle.std.proofs.lemmas.Int.{ints}
use Rattle.ep_int.specs.declared.types.IntType.{IntType}
use Rattle.ep_int.specs.declared.types.IntType.TheVariants.{U32}
use Rattle.ep_int.specs.declared.types.Scalar.TheVariants.{Int}
use Rattle.ep_int.specs.declared.types.Order.TheVariants.{Big}
use Rattle.ep_int.specs.Arith.{is_in_range}
use Rattle.ep_int.specs.Types.{bits_of}
use Rattle.ep_layout.specs.declared.types.Ty.{Ty}
use Rattle.ep_layout.specs.declared.types.Ty.TheVariants as rows
use Rattle.ep_core.specs.Program.{Place, Expr, load, convert, assign, Dest, Program}
use Rattle.ep_core.specs.WellFormed.{has_scalar, has_sort, has_type, integer, is_same_type, is_sort, place_has}
use Rattle.ep_core.specs.WellFormed.{simple_fits, sort_of, type_numbers}
use Rattle.ep_core.proofs.Sorts.{never, same_type}
use Rattle.ep_typing.specs.SameTypes.{int_itself}
use Rattle.ep_bitfield.specs.declared.field.Field.{Field}
use Rattle.ep_bitfield.specs.Accesses.{as_scalar, field_number, from_highest, new_number, ones, ones_beside, unit_number}
use Rattle.ep_bitfield.specs.Laws.{is_number, is_place_of, ReadingsFit, WritingsFit}
use Rattle.ep_bitfield.proofs.Masks.{ones_small}
use Rattle.ep_bitfield.proofs.Runs.{IsPart, is_part, shift_inside}

-- ---- types that are among those of a program

-- what is kept and passes is kept by another test and passes another
any_kept : (keep test keep' test' : ℕ → Bool) (xs : List ℕ)
    → ((x : ℕ) → keep x ≡ true → test x ≡ true → (keep' x ≡ true) × (test' x ≡ true))
    → list_any test (filter keep xs) ≡ true → list_any test' (filter keep' xs) ≡ true
any_kept keep test keep' test' [] go h = never h
any_kept keep test keep' test' (x ∷ xs) go h =
    split (keep x) (go x) h (any_kept keep test keep' test' xs go)
  where
    past : (b : Bool) → list_any test' (filter keep' xs) ≡ true
        → list_any test' (cond b (x ∷ filter keep' xs) (filter keep' xs)) ≡ true
    past true h = or_right (test' x) (list_any test' (filter keep' xs)) h
    past false h = h

    here : (b : Bool) → b ≡ true → test' x ≡ true
        → list_any test' (cond b (x ∷ filter keep' xs) (filter keep' xs)) ≡ true
    here true e h = or_left (test' x) (list_any test' (filter keep' xs)) h
    here false e h = never e

    split : (b : Bool) → (b ≡ true → test x ≡ true → (keep' x ≡ true) × (test' x ≡ true))
        → list_any test (cond b (x ∷ filter keep xs) (filter keep xs)) ≡ true
        → (list_any test (filter keep xs) ≡ true → list_any test' (filter keep' xs) ≡ true)
        → list_any test' (cond (keep' x) (x ∷ filter keep' xs) (filter keep' xs)) ≡ true
    split true go h later = elim (or_cases (test x) (list_any test (filter keep xs)) h) [
      | inl a ↦ let both = go refl a in here (keep' x) both.0 both.1
      | inr b ↦ past (keep' x) (later b)
    ]
    split false go h later = past (keep' x) (later h)

-- a type of which a number is a scalar
int_row : (u : Option Ty) (t : IntType) → has_scalar u (Int t) ≡ true → u ≡ Some (rows.Int t)
int_row (Some (rows.Int s)) t h = let same : s ≡ t = same_type s t h in subst (λ r. Some (rows.Int s) ≡ Some (rows.Int r)) same refl
int_row (Some (rows.Ptr ty)) t h = never h
int_row (Some rows.Void) t h = never h
int_row (Some (rows.Array ty n)) t h = never h
int_row (Some (rows.Aggregate a)) t h = never h
int_row None t h = never h

small_number : (n : ℕ) → n < 2 ^ 32 → is_in_range U32 (pos n) ≡ true
small_number n h = grind (arith, ints)

module _ (p : Program) (here : ℕ) (result : Option ℕ) (seen : List ℕ) where
  typed : (e : Expr) (ty : ℕ) (t : IntType) → slice_get p.types.types ty ≡ Some (rows.Int t)
      → has_sort p.types p.blocks seen e (integer t) ≡ true → has_type p.types p.blocks seen e ty ≡ true
  typed e ty t is h = rw is h

  load_fits : (a : Place) (t : IntType) → is_place_of p seen t a ≡ true
      → has_sort p.types p.blocks seen (load (Int t) a) (integer t) ≡ true
  load_fits a t h =
      any_kept (λ ty. has_scalar (slice_get p.types.types ty) (Int t)) (place_has p.types p.blocks seen a)
      (λ ty. has_scalar (slice_get p.types.types ty) (Int t)
      && is_sort (sort_of (slice_get p.types.types ty)) (integer t)) (place_has p.types p.blocks seen a)
      (type_numbers p.types p.blocks seen)
      (λ ty k l. (both (slice_get p.types.types ty) k (int_row (slice_get p.types.types ty) t k), l)) h
    where
      both : (u : Option Ty) → has_scalar u (Int t) ≡ true → u ≡ Some (rows.Int t)
          → (has_scalar u (Int t) && is_sort (sort_of u) (integer t)) ≡ true
      both u k e = and_from (has_scalar u (Int t)) (is_sort (sort_of u) (integer t)) k
          (subst (λ u. is_sort (sort_of u) (integer t) ≡ true) (sym e) (int_itself t))

  assign_fits : (a : Place) (t : IntType) (e : Expr) → is_place_of p seen t a ≡ true
      → has_sort p.types p.blocks seen e (integer t) ≡ true
      → simple_fits p here result (assign (Int t) a e) seen ≡ true
  assign_fits a t e h k =
      any_kept (λ ty. has_scalar (slice_get p.types.types ty) (Int t)) (place_has p.types p.blocks seen a)
      (λ ty. has_scalar (slice_get p.types.types ty) (Int t))
      (λ ty. place_has p.types p.blocks seen a ty && has_type p.types p.blocks seen e ty)
      (type_numbers p.types p.blocks seen)
      (λ ty i l. (
        i,
        and_from (place_has p.types p.blocks seen a ty) (has_type p.types p.blocks seen e ty) l
            (typed e ty t (int_row (slice_get p.types.types ty) t i) k),
      )) h

  module _ (unit : Place) (f : Field) (s : ℕ) (h : IsPart f) (inside : s + f.width ≤ bits_of f.t)
      (there : is_place_of p seen f.t unit ≡ true) where
    abbrev has_u32 : Expr → Bool
    has_u32 e = has_sort p.types p.blocks seen e (integer U32)

    few : f.width ≤ 32
    few = let most = h.unit in omega (arith, inside, most)

    shift_small : is_in_range U32 (pos s) ≡ true
    shift_small = let most = h.unit in small_number s (omega (arith, inside, most))

    mask_small : is_in_range U32 (pos (ones f.width)) ≡ true
    mask_small = small_number (ones f.width) (ones_small f.width few)

    unit_fits : has_u32 (unit_number unit f.t) ≡ true
    unit_fits = load_fits unit f.t there

    field_fits : has_u32 (field_number unit f s) ≡ true
    field_fits =
        and_from _ _ (and_from (has_u32 (unit_number unit f.t)) (is_in_range U32 (pos s)) unit_fits shift_small)
        mask_small

    new_fits : (new : Expr) → is_number p seen new ≡ true → has_u32 (new_number unit f new s) ≡ true
    new_fits new k =
        let beside_small : is_in_range U32 (pos (ones_beside f.width s)) ≡ true =
        small_number (ones_beside f.width s) (omega arith) in
        and_from _ _
        (and_from (has_u32 (unit_number unit f.t)) (is_in_range U32 (pos (ones_beside f.width s))) unit_fits beside_small)
        (and_from _ _ (and_from (is_number p seen new) (is_in_range U32 (pos (ones f.width))) k mask_small) shift_small)

    read_fits : (to : Dest) (t : IntType) → to.what ≡ Int t → is_place_of p seen t to.place ≡ true
        → simple_fits p here result (assign to.what to.place (as_scalar to.what (field_number unit f s))) seen ≡ true
    read_fits to t e k =
        subst (λ w. simple_fits p here result (assign w to.place (as_scalar w (field_number unit f s))) seen ≡ true) (sym e)
        (assign_fits to.place t (convert t (field_number unit f s)) k
        (and_from (is_same_type t t) (has_u32 (field_number unit f s)) (int_itself t) field_fits))

    write_fits : (new : Expr) → is_number p seen new ≡ true
        → simple_fits p here result (assign (Int f.t) unit (as_scalar (Int f.t) (new_number unit f new s))) seen ≡ true
    write_fits new k =
        assign_fits unit f.t (convert f.t (new_number unit f new s)) there
        (and_from (is_same_type f.t f.t) (has_u32 (new_number unit f new s)) (int_itself f.t) (new_fits new k))

-- ---- whole statements

pub reading_fits : ReadingsFit
reading_fits p here result seen in_loop l unit f to t h there e k =
    let part = is_part f h in
    and_from _ _
    (and_from _ true
    (read_fits p here result seen unit f (from_highest f) part (shift_inside Big f part) there to t e k) refl)
    (and_from _ true (read_fits p here result seen unit f f.used part part.inside there to t e k) refl)

pub writing_fits : WritingsFit
writing_fits p here result seen in_loop l unit f new h there k =
    let part = is_part f h in
    and_from _ _
    (and_from _ true
    (write_fits p here result seen unit f (from_highest f) part (shift_inside Big f part) there new k) refl)
    (and_from _ true (write_fits p here result seen unit f f.used part part.inside there new k) refl)
