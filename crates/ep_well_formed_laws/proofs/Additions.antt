-- What comes into a table: types, aggregates, members.
use Rattle.std.proofs.Common.{◌≡◌, ℕ, zero, suc, ◌<◌, true, [], ◌∷◌, ◌++◌, length, slice_get, Option, Some, None}
use Rattle.ep_layout.proofs.Basics.{grows-trans}
use Rattle.std.proofs.lemmas.Option.{slice_get_within}
use Rattle.std.proofs.Common.{option_and_then, unwrap_or, refl, sym, ap, ◌∙◌, subst, inl, inr, arith}
use Rattle.std.proofs.lemmas.Bool.Decides.{nat_tests}
use Rattle.ep_layout.specs.declared.types.Ty.{Ty}
use Rattle.ep_layout.specs.declared.types.Ty.TheVariants.{Void, Int, Ptr, Array, Aggregate}
use Rattle.ep_layout.specs.SameTypes.{is_same_type, same_itself}
use Rattle.ep_layout.specs.Table.{Table, Grows, IsBuilt, names_known, number_of, type_added, type_stop}
use Rattle.ep_layout.specs.Table.IsBuilt.{type_more}
use Rattle.ep_layout.proofs.Options.{get_push}
use Rattle.ep_layout.proofs.Positions.{position_push}
use Rattle.ep_layout.proofs.Laid.{grows_with_type}
use Rattle.ep_layout.proofs.Recursion.{kept_by_itself}
use Rattle.ep_core.specs.WellFormed.{is_length}
use Rattle.ep_typing.specs.declared.types.Base.{Base}
use Rattle.ep_typing.specs.declared.types.Base.TheVariants as bases
use Rattle.ep_typing.specs.declared.types.CType.{CType}
use Rattle.ep_typing.specs.Types.{base_number, c_type_number, known_number, pointer_number, with_base, with_c_type}
use Rattle.ep_typing.specs.Types.{with_pointers}
use Rattle.ep_well_formed_laws.specs.Numbers.{HasNumber, IsTable, array_number, number_behind, number_of_base}
use Rattle.ep_well_formed_laws.specs.Numbers.{type_number}
use Rattle.ep_well_formed_laws.proofs.Tables.{behind_first, behind_none, number_at, row_at}

-- ---- growing, one step after another

-- ---- numbers stay

module _ (t u : Table) (g : Grows t u) (b : IsBuilt u) where
  pub number_stays : (ty : Ty) (n : ℕ) → number_of t ty ≡ Some n → number_of u ty ≡ Some n
  number_stays ty n h = number_at u b n ty (g.types n ty (row_at t ty n h))

  base_stays : (c : Base) (n : ℕ) → number_of_base t c ≡ Some n → number_of_base u c ≡ Some n
  base_stays bases.Void n h = number_stays Void n h
  base_stays (bases.Int i) n h = number_stays (Int i) n h
  base_stays (bases.Array m) n h = by_row (slice_get t.types m) refl h
    where
      by_row : (o : Option Ty) → slice_get t.types m ≡ o → array_number m o ≡ Some n → number_of_base u (bases.Array m) ≡ Some n
      by_row None q k = absurd cc
      by_row (Some Void) q k = absurd cc
      by_row (Some (Int i)) q k = absurd cc
      by_row (Some (Ptr e)) q k = absurd cc
      by_row (Some (Array e c)) q k = ap (array_number m) (g.types m (Array e c) q) ∙ k
      by_row (Some (Aggregate a)) q k = absurd cc
  base_stays (bases.Aggregate a) n h = number_stays (Aggregate a) n h

  pub behind_stays : (o o' : Option ℕ) → ((n : ℕ) → o ≡ Some n → o' ≡ Some n) → (k n : ℕ) → number_behind t o k ≡ Some n
      → number_behind u o' k ≡ Some n
  behind_stays o o' f zero n h = f n h
  behind_stays o o' f (suc k) n h = by_target (number_behind t o k) refl h (λ m q. behind_stays o o' f k m q)
    where
      by_target : (x : Option ℕ) → number_behind t o k ≡ x → option_and_then (λ m. number_of t (Ptr m)) x ≡ Some n
          → ((m : ℕ) → number_behind t o k ≡ Some m → number_behind u o' k ≡ Some m) → number_behind u o' (suc k) ≡ Some n
      by_target None q e r = absurd cc
      by_target (Some m) q e r =
          ap (option_and_then (λ j. number_of u (Ptr j))) (r m q) ∙ number_stays (Ptr m) n e

  pub type_number_stays : (c : CType) (n : ℕ) → type_number t c ≡ Some n → type_number u c ≡ Some n
  type_number_stays c n h = behind_stays (number_of_base t c.base) (number_of_base u c.base) (base_stays c.base) c.stars n h

  pub has_number_stays : (c : CType) → HasNumber t c → HasNumber u c
  has_number_stays c h = (h.0, type_number_stays c h.0 h.1)

-- ---- one type

pub record Added (t u : Table) (ty : Ty) : Type 0 where
  pub table : IsTable u
  pub grows : Grows t u
  pub number : ℕ
  pub has : number_of u ty ≡ Some number
  pub rows : u.aggregates ≡ t.aggregates

new_arrays : (t : Table) (ty : Ty) → IsTable t → ((e k : ℕ) → ty ≡ Array e k → is_length k ≡ true)
    → (n e k : ℕ) → slice_get (t.types ++ ty ∷ []) n ≡ Some (Array e k) → is_length k ≡ true
new_arrays t ty h f n e k q = elim (get_push t.types ty (Array e k) n q) [
  | inl old ↦ h.arrays n e k old
  | inr p ↦ f e k p.1
]

pub added : (t : Table) (ty : Ty) → IsTable t → names_known t ty ≡ true → type_stop t ty ≡ None
    → ((e k : ℕ) → ty ≡ Array e k → is_length k ≡ true) → Added t (type_added t ty) ty
added t ty h known fits long = by_number (number_of t ty) refl
  where
    by_number : (o : Option ℕ) → number_of t ty ≡ o → Added t (type_added t ty) ty
    by_number None q = rw q (record {
      table = record {
        built = type_more t ty h.built known q fits;
        arrays = new_arrays t ty h long;
        bodies = h.bodies;
      };
      grows = grows_with_type t ty;
      number = length t.types;
      has = position_push (is_same_type ty) t.types ty q (same_itself ty);
      rows = refl;
    })
    by_number (Some n) q = rw q (record { table = h; grows = kept_by_itself t; number = n; has = q; rows = refl })

-- ---- a type of C

-- the array or the aggregate of a base is there
abbrev pub IsKnownBase : Table → Base → Type 0
IsKnownBase t bases.Void = Unit {0}
IsKnownBase t (bases.Int i) = Unit {0}
IsKnownBase t (bases.Array n) = number_of_base t (bases.Array n) ≡ Some n
IsKnownBase t (bases.Aggregate a) = a < length t.aggregates

pub record Comes (t u : Table) (o : Option ℕ) (number : ℕ) : Type 0 where
  pub table : IsTable u
  pub grows : Grows t u
  pub has : o ≡ Some number
  pub rows : u.aggregates ≡ t.aggregates

known_of : (t : Table) (ty : Ty) (n : ℕ) → number_of t ty ≡ Some n → known_number t ty ≡ n
known_of t ty n h = ap (λ (o : Option ℕ). unwrap_or o 0) h

abbrev comes_added : (t : Table) (ty : Ty) → Added t (type_added t ty) ty
    → Comes t (type_added t ty) (number_of (type_added t ty) ty) (known_number (type_added t ty) ty)
comes_added t ty a = record {
  table = a.table;
  grows = a.grows;
  has = a.has ∙ ap (λ (n : ℕ). Some n) (sym (known_of (type_added t ty) ty a.number a.has));
  rows = a.rows;
}

base_comes : (t : Table) (b : Base) → IsTable t → IsKnownBase t b
    → Comes t (with_base t b) (number_of_base (with_base t b) b) (base_number (with_base t b) b)
base_comes t bases.Void h k = comes_added t Void (added t Void h refl refl (λ e n q. absurd cc))
base_comes t (bases.Int i) h k = comes_added t (Int i) (added t (Int i) h refl refl (λ e n q. absurd cc))
base_comes t (bases.Array n) h k = record { table = h; grows = kept_by_itself t; has = k; rows = refl }
base_comes t (bases.Aggregate a) h k =
    comes_added t (Aggregate a) (added t (Aggregate a) h (grind (arith, nat_tests)) refl (λ e n q. absurd cc))

pub pointers_come : (t : Table) (n stars : ℕ) → IsTable t → n < length t.types
    → Comes t (with_pointers t n stars) (number_behind (with_pointers t n stars) (Some n) stars)
    (pointer_number (with_pointers t n stars) n stars)
unfolding with_pointers pointer_number
pointers_come t n zero h l = record { table = h; grows = kept_by_itself t; has = refl; rows = refl }
pointers_come t n (suc k) h l =
    let u = type_added t (Ptr n) in
    let a = added t (Ptr n) h (grind (arith, nat_tests)) refl (λ e m q. absurd cc) in
    let m : ℕ = known_number u (Ptr n) in
    let is : number_of u (Ptr n) ≡ Some m = (comes_added t (Ptr n) a).has in
    let r = pointers_come u m k a.table (slice_get_within u.types m (Ptr n) (row_at u (Ptr n) m is)) in
    let v = with_pointers u m k in
    let later : number_of v (Ptr n) ≡ Some m = number_stays u v r.grows r.table.built (Ptr n) m is in
    record {
      table = r.table;
      grows = grows-trans t u v a.grows r.grows;
      has = behind_first v (Some n) k ∙ ap (λ (o : Option ℕ). number_behind v o k) later ∙ r.has
          ∙ ap (λ (j : ℕ). Some (pointer_number v j k)) (sym (known_of v (Ptr n) m later));
      rows = r.rows ∙ a.rows;
    }

pub base_below : (t : Table) (b : Base) (n : ℕ) → number_of_base t b ≡ Some n → n < length t.types
base_below t bases.Void n h = slice_get_within t.types n Void (row_at t Void n h)
base_below t (bases.Int i) n h = slice_get_within t.types n (Int i) (row_at t (Int i) n h)
base_below t (bases.Array m) n h = by_row (slice_get t.types m) refl h
  where
    by_row : (o : Option Ty) → slice_get t.types m ≡ o → array_number m o ≡ Some n → n < length t.types
    by_row None q k = absurd cc
    by_row (Some Void) q k = absurd cc
    by_row (Some (Int i)) q k = absurd cc
    by_row (Some (Ptr e)) q k = absurd cc
    by_row (Some (Array e c)) q k =
        let same : m ≡ n = cc in subst (λ (j : ℕ). j < length t.types) same (slice_get_within t.types m (Array e c) q)
    by_row (Some (Aggregate a)) q k = absurd cc
base_below t (bases.Aggregate a) n h = slice_get_within t.types n (Aggregate a) (row_at t (Aggregate a) n h)

-- a number that a type has is the one that the definition finds
pub base_number_is : (t : Table) (b : Base) (n : ℕ) → number_of_base t b ≡ Some n → base_number t b ≡ n
base_number_is t bases.Void n h = known_of t Void n h
base_number_is t (bases.Int i) n h = known_of t (Int i) n h
base_number_is t (bases.Array m) n h = by_row (slice_get t.types m) h
  where
    by_row : (o : Option Ty) → array_number m o ≡ Some n → m ≡ n
    by_row None k = absurd cc
    by_row (Some Void) k = absurd cc
    by_row (Some (Int i)) k = absurd cc
    by_row (Some (Ptr e)) k = absurd cc
    by_row (Some (Array e c)) k = cc
    by_row (Some (Aggregate a)) k = absurd cc
base_number_is t (bases.Aggregate a) n h = known_of t (Aggregate a) n h

pointers_are : (t : Table) (k n m : ℕ) → number_behind t (Some n) k ≡ Some m → pointer_number t n k ≡ m
unfolding pointer_number
pointers_are t zero n m h = cc
pointers_are t (suc k) n m h = by_first (number_of t (Ptr n)) refl (sym (behind_first t (Some n) k) ∙ h)
    (λ j e. pointers_are t k j m e)
  where
    by_first : (o : Option ℕ) → number_of t (Ptr n) ≡ o → number_behind t o k ≡ Some m
        → ((j : ℕ) → number_behind t (Some j) k ≡ Some m → pointer_number t j k ≡ m)
        → pointer_number t (known_number t (Ptr n)) k ≡ m
    by_first None q e r = absurd (let bad = sym (behind_none t k) ∙ e in cc)
    by_first (Some j) q e r = ap (λ (i : ℕ). pointer_number t i k) (known_of t (Ptr n) j q) ∙ r j e

pub c_number_is : (t : Table) (c : CType) (n : ℕ) → type_number t c ≡ Some n → c_type_number t c ≡ n
c_number_is t c n h = by_base (number_of_base t c.base) refl h
  where
    by_base : (o : Option ℕ) → number_of_base t c.base ≡ o → number_behind t o c.stars ≡ Some n → c_type_number t c ≡ n
    by_base None q e = absurd (let bad = sym (behind_none t c.stars) ∙ e in cc)
    by_base (Some m) q e =
        ap (λ (i : ℕ). pointer_number t i c.stars) (base_number_is t c.base m q) ∙ pointers_are t c.stars m n e

pub type_comes : (t : Table) (c : CType) → IsTable t → IsKnownBase t c.base
    → Comes t (with_c_type t c) (type_number (with_c_type t c) c) (c_type_number (with_c_type t c) c)
type_comes t c h k =
    let u = with_base t c.base in
    let b = base_comes t c.base h k in
    let m : ℕ = base_number u c.base in
    let r = pointers_come u m c.stars b.table (base_below u c.base m b.has) in
    let v = with_c_type t c in
    let is : type_number v c ≡ Some (pointer_number v m c.stars) =
    ap (λ (o : Option ℕ). number_behind v o c.stars) (base_stays_here u v r.grows r.table.built c.base m b.has) ∙ r.has in
    record {
      table = r.table;
      grows = grows-trans t u v b.grows r.grows;
      has = is ∙ ap (λ (n : ℕ). Some n) (sym (c_number_is v c _ is));
      rows = r.rows ∙ b.rows;
    }
  where
    base_stays_here : (u v : Table) → Grows u v → IsBuilt v → (b : Base) (n : ℕ) → number_of_base u b ≡ Some n
        → number_of_base v b ≡ Some n
    base_stays_here u v g b c n h = type_number_stays u v g b (record { base = c; stars = 0 }) n h
