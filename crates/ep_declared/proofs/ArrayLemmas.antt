-- Types of arrays come into a table.
use Rattle.std.proofs.Common.{◌≡◌, ℕ, zero, suc, ◌<◌, ◌≤◌, true, List, [], ◌∷◌, length, drop}
use Rattle.ep_core.proofs.Tables.{more_types}
use Rattle.ep_typing.proofs.Order.{at_ok}
use Rattle.std.proofs.Common.{drop-cons, get_or, unwrap_or, Option, Some, None, Result, Ok, Err, inl, inr, refl, sym}
use Rattle.std.proofs.Common.{ap, ◌∙◌, subst, arith}
use Rattle.std.proofs.lemmas.Bool.Decides.{nat_tests}
use Rattle.std.proofs.lemmas.List.{drop_all, length_push}
use Rattle.std.specs.Prelude.{OnOk}
use Rattle.ep_ast.specs.declared.refusals.Refusal.{Refusal}
use Rattle.ep_ast.specs.declared.refusals.Halt.{Halt}
use Rattle.ep_ast.specs.declared.refusals.Halt.TheVariants as halts
use Rattle.ep_layout.specs.declared.types.LayoutStop.{LayoutStop}
use Rattle.ep_layout.specs.declared.types.LayoutStop.TheVariants as stops
use Rattle.ep_layout.specs.declared.types.Ty.{Ty}
use Rattle.ep_layout.specs.declared.types.Ty.TheVariants as rows
use Rattle.ep_layout.specs.SameTypes.{is_same_type}
use Rattle.ep_layout.specs.Stops.{IsStop}
use Rattle.ep_layout.specs.Table.{Table, names_known, number_of, type_added, type_stop, with_type}
use Rattle.ep_layout.proofs.Positions.{position_is}
use Rattle.ep_typing.specs.declared.types.Base.{Base}
use Rattle.ep_typing.specs.declared.types.Base.TheVariants as bases
use Rattle.ep_typing.specs.declared.types.CType.{CType}
use Rattle.ep_typing.specs.Results.{◌>>=◌, at}
use Rattle.ep_typing.specs.Types.{base_number, c_type_number, known_number, pointer_number, whole, with_base}
use Rattle.ep_typing.specs.Types.{with_c_type, with_pointers}
use Rattle.ep_elaboration.specs.Declarators.{array_of, arrays_of, made}
use Rattle.ep_operands.specs.Refinement.{Stops}
use Rattle.ep_scopes.specs.Known.{IsKnown, IsKnownBase}
use Rattle.ep_declared.specs.Stopped.{halted}
use Rattle.ep_declared.proofs.Growth.{IsMore, more_added, more_on, pointers_more, type_known, type_more}

-- ---- numbers of types lie in the table

pub some_row : (t : Table) (ty : Ty) (n : ℕ) → number_of t ty ≡ Some n → n < length t.types
some_row t ty n h = let p = position_is (is_same_type ty) t.types n h in p.1

pub numbered_inside : (t : Table) (ty : Ty) (o : Option ℕ) → number_of t ty ≡ o → 0 < length t.types
    → unwrap_or o 0 < length t.types
numbered_inside t ty None e h = h
numbered_inside t ty (Some n) e h = some_row t ty n e

known_inside : (t : Table) (ty : Ty) → 0 < length t.types → known_number t ty < length t.types
known_inside t ty h = numbered_inside t ty (number_of t ty) refl h

pointer_inside : (t : Table) → 0 < length t.types → (n k : ℕ) → n < length t.types
    → pointer_number t n k < length t.types
unfolding pointer_number
pointer_inside t h n zero l = l
pointer_inside t h n (suc k) l = pointer_inside t h (known_number t (rows.Ptr n)) k (known_inside t (rows.Ptr n) h)

base_inside : (t : Table) (b : Base) → 0 < length t.types → IsKnownBase t b → base_number t b < length t.types
base_inside t bases.Void h k = known_inside t rows.Void h
base_inside t (bases.Int i) h k = known_inside t (rows.Int i) h
base_inside t (bases.Array n) h k = k
base_inside t (bases.Aggregate a) h k = known_inside t (rows.Aggregate a) h

type_inside : (t : Table) (c : CType) → 0 < length t.types → IsKnown t c → c_type_number t c < length t.types
type_inside t c h k = pointer_inside t h (base_number t c.base) c.stars (base_inside t c.base h k)

added_some : (t u : Table) (ty : Ty) (o : Option ℕ) → number_of t ty ≡ o → type_added t ty ≡ u → 0 < length u.types
added_some t u ty None e h =
    let same : with_type t ty ≡ u = rw e at h in
    subst (λ (v : Table). 0 < length v.types) same (omega (arith, length_push t.types ty))
added_some t u ty (Some n) e h =
    let same : t ≡ u = rw e at h in
    let l = some_row t ty n e in
    subst (λ (v : Table). 0 < length v.types) same (omega (arith, l))

some_added : (t : Table) (ty : Ty) → 0 < length (type_added t ty).types
some_added t ty = added_some t (type_added t ty) ty (number_of t ty) refl refl

some_base : (t : Table) (b : Base) → IsKnownBase t b → 0 < length (with_base t b).types
some_base t bases.Void k = some_added t rows.Void
some_base t (bases.Int i) k = some_added t (rows.Int i)
some_base t (bases.Array n) k = omega (arith, k)
some_base t (bases.Aggregate a) k = some_added t (rows.Aggregate a)

some_type : (t : Table) (c : CType) → IsKnown t c → 0 < length (with_c_type t c).types
some_type t c k =
    let u : Table = with_base t c.base in
    let v : Table = with_pointers u (base_number u c.base) c.stars in
    omega (arith, some_base t c.base k, more_types u v (pointers_more u (base_number u c.base) c.stars).grows)

-- a type that came into the table
pub added_inside : (t : Table) (c : CType) → IsKnown t c → c_type_number (with_c_type t c) c < length (with_c_type t
    c).types
added_inside t c k =
    type_inside (with_c_type t c) c (some_type t c k) (type_known t (with_c_type t c) (type_more t c).grows c k)

-- ---- one array

abbrev pub array_in : ℕ → Table → Result (CType × Table) Refusal
array_in n t = Ok (whole (bases.Array n), t)

pub array_made : (l : ℕ) (t u : Table) (ty : Ty) (n : ℕ) → type_stop t ty ≡ None → u ≡ type_added t ty
    → number_of u ty ≡ Some n
    → at l (made t ty (type_stop t ty)) ≡ array_in n u
array_made l t u ty n e f g =
    ap (λ (s : Option LayoutStop). at l (made t ty s)) e
    ∙ ap (λ (v : Table). array_in (known_number v ty) v) (sym f)
    ∙ ap (λ (o : Option ℕ). array_in (unwrap_or o 0) u) g

pub made_stops : (l : ℕ) (t : Table) (ty : Ty) (o : Option LayoutStop) (e : LayoutStop) → IsStop o e
    → Stops (at l (made t ty o)) (halted l e)
made_stops l t ty o stops.Incomplete (inl h) = absurd cc
made_stops l t ty o stops.Incomplete (inr h) = rw h refl
made_stops l t ty o stops.TooLarge (inl h) = absurd cc
made_stops l t ty o stops.TooLarge (inr h) = rw h refl
made_stops l t ty o stops.Memory h = tt

pub array_inside : (u : Table) (n : ℕ) → n < length u.types → c_type_number u (whole (bases.Array n)) < length u.types
unfolding pointer_number
array_inside u n h = h

pub row_known : (t u : Table) (c : CType) (e n : ℕ) → u ≡ with_c_type t c → e ≡ c_type_number u c → IsKnown t c
    → names_known u (rows.Array e n) ≡ true
row_known t u c e n p q k =
    let l : e < length u.types = rw (q, p) (added_inside t c k) in
    grind (arith, nat_tests)

pub array_of_is : (l : ℕ) (t u : Table) (c : CType) (e n : ℕ) → u ≡ with_c_type t c → e ≡ c_type_number u c
    → at l (made u (rows.Array e n) (type_stop u (rows.Array e n))) ≡ at l (array_of t c n)
unfolding array_of
array_of_is l t u c e n p q =
    ap (λ (j : ℕ). at l (made u (rows.Array j n) (type_stop u (rows.Array j n)))) q
    ∙ ap (λ (v : Table). at l (made v (rows.Array (c_type_number v c) n) (type_stop v (rows.Array (c_type_number v c)
    n)))) p

pub grown_twice : {T E : Type 0} (r : Result T E) (t u v : Table) (c : CType) (ty : Ty) → u ≡ with_c_type t c
    → OnOk r (v ≡ type_added u ty)
    → OnOk r (IsMore t v)
grown_twice (Ok x) t u v c ty p q =
    let one : IsMore t u = subst (IsMore t) (sym p) (type_more t c) in
    let two : IsMore u v = subst (IsMore u) (sym q) (more_added u ty) in
    more_on t u v one two
grown_twice (Err e) t u v c ty p q = tt

-- ---- arrays of arrays

pub at_err : {A : Type 0} (l : ℕ) (r : Result A ℕ) (e : Refusal) → at l r ≡ Err e → (k : ℕ) × (r ≡ Err k) × (e
    ≡ record { kind = k; line = l; word = 0 })
at_err l (Ok x) e h = absurd cc
at_err l (Err k) e h = (k, refl, cc)

abbrev pub typed_in : CType → Table → Result (CType × Table) ℕ
typed_in c t = Ok (c, t)

module _ (t : Table) (c : CType) (l : ℕ) where
  stops_all : (i : ℕ) (ns : List ℕ) (k : ℕ) → arrays_of t c (drop i ns) ≡ Err k → arrays_of t c ns ≡ Err k
  unfolding arrays_of
  stops_all zero ns k h = h
  stops_all (suc i) [] k h = h
  stops_all (suc i) (n ∷ ns) k h = rw (stops_all i ns k h) refl

  module _ (i m : ℕ) (ns : List ℕ) (d : CType) (u : Table) (more : m ≡ suc i) (lt : i < length ns)
      (h : arrays_of t c (drop m ns) ≡ typed_in d u) where
    one_more : arrays_of t c (drop i ns) ≡ array_of u d (get_or ns i 0)
    unfolding arrays_of
    one_more =
        ap (arrays_of t c) (drop-cons ns i 0 lt ∙ ap (λ (j : ℕ). get_or ns i 0 ∷ drop j ns) (sym more))
        ∙ ap (λ (r : Result (CType × Table) ℕ). r >>= (λ p. array_of p.1 p.0 (get_or ns i 0))) h

    pub array_stops : (e : Halt) → Stops (at l (array_of u d (get_or ns i 0))) e → Stops (at l (arrays_of t c ns)) e
    array_stops halts.Memory k = tt
    array_stops (halts.Refused r) k =
        let p = at_err l (array_of u d (get_or ns i 0)) r k in
        ap (at l) (stops_all i ns p.0 (one_more ∙ p.1)) ∙ ap Err (sym p.2)

    pub array_more : (e : CType) (v : Table) → at l (array_of u d (get_or ns i 0)) ≡ Ok (e, v)
        → arrays_of t c (drop i ns) ≡ typed_in e v
    array_more e v k = one_more ∙ at_ok l (array_of u d (get_or ns i 0)) (e, v) k

pub no_arrays : (t u : Table) (c : CType) (ns : List ℕ) (i : ℕ) → length ns ≤ i → u ≡ with_c_type t c
    → arrays_of t c (drop i ns) ≡ typed_in c u
unfolding arrays_of
no_arrays t u c ns i le e = ap (arrays_of t c) (drop_all i ns le) ∙ ap (λ (v : Table). typed_in c v) (sym e)
