-- The result of a call goes to its place, converted; and main's result is compared at its end.
use Rattle.std.proofs.Common.{◌≡◌, ℕ, pos, Bool, true, ◌&&◌, nat_eq, List, [], ◌++◌, slice_get, Option, Some, None}
use Rattle.ep_evaluation.proofs.Final.{if_has}
use Rattle.std.proofs.Common.{option_and_then, option_to_list, refl, sym, ap, subst}
use Rattle.std.specs.List.{list_all}
use Rattle.std.proofs.lemmas.Bool.{and_parts}
use Rattle.ep_int.specs.declared.types.IntType.{IntType}
use Rattle.ep_int.specs.declared.types.Order.{Order}
use Rattle.ep_int.specs.declared.types.Scalar.{Scalar}
use Rattle.ep_int.specs.declared.types.Scalar.TheVariants.{Int, Pointer}
use Rattle.ep_int.specs.Types.{wrapped}
use Rattle.ep_int.specs.Memory.{Memory, Value as Datum, int, pointer, has, faults, loaded, stored}
use Rattle.ep_layout.specs.Table.{Table}
use Rattle.ep_layout.specs.declared.types.Ty.{Ty}
use Rattle.ep_layout.specs.declared.types.Ty.TheVariants as ty
use Rattle.ep_domain.specs.Domain.{Ops}
use Rattle.ep_pointers.specs.Value.{one_target}
use Rattle.ep_cells.specs.States.{Known}
use Rattle.ep_cells.specs.Meaning.{Memories}
use Rattle.ep_core.specs.Program.{Place, Dest, Block, Function, Program}
use Rattle.ep_core.specs.Exec.{State, on, leaves, with_number, model, size_at, address, received}
use Rattle.ep_core.specs.Runs.{Side, left, right}
use Rattle.ep_core.specs.Typed.{ValueFits}
use Rattle.ep_core.specs.WellFormed.{has_scalar, ty_at, place_has, can_take, takes_result, holds_scalar, block_type}
use Rattle.ep_core.specs.WellFormed.{result_type, blocks_fit}
use Rattle.ep_core.proofs.Sorts.{type_where, same_scalar}
use Rattle.ep_core.proofs.Bytes.{loaded_fits}
use Rattle.ep_pass.specs.Laws.{ConcretisesTyped, ConcretisesTypedBeside, Meets, meet, MeetsAlone, meet_alone}
use Rattle.ep_equalities.specs.declared.pair.Mode.{Mode}
use Rattle.ep_equalities.specs.declared.pair.Mode.TheVariants.{Both}
use Rattle.ep_evaluation.specs.Given.{alone}
use Rattle.ep_evaluation.specs.Evaluation.{pointer_given, load_means}
use Rattle.ep_evaluation.specs.Evaluation.{place as place_means}
use Rattle.ep_evaluation.specs.Laws.{Machine, sizes_of, IsKept, Sound, ExpressionsHold, PlacesHold}
use Rattle.ep_evaluation.proofs.General.{none_left, number_found}
use Rattle.ep_evaluation.proofs.Leaves.{block_sound}
use Rattle.ep_evaluation.proofs.LoadWhole.{load_sound}
use Rattle.ep_evaluation.proofs.Conversions.{convert_sound}
use Rattle.ep_transfers.specs.Calls.{loaded_result, received_as, result_step}
use Rattle.ep_transfers.specs.Laws.{memories, StandsFor, CellLaws}
use Rattle.ep_transfers.proofs.Evaluated.{pair_of, kept_both, kept_beside, alike_beside, Evaluated}
use Rattle.ep_transfers.proofs.Plain.{Stores, both_store, alone_store}
use Rattle.ep_transfers.proofs.Stored.{place_is}

-- ---- what takes a result is of its sort

pub data AreTaken : Scalar → Scalar → Type 0 where
  numbers : (u t : IntType) → AreTaken (Int u) (Int t)
  pointers : AreTaken Pointer Pointer

are_taken : (t : Table) (bs : List Block) (seen : List ℕ) (any : Bool) (r u : Option Ty) (same : Bool) (v w : Scalar)
    → has_scalar r v ≡ true → has_scalar u w ≡ true → can_take t bs seen any r u same ≡ true
    → AreTaken v w
are_taken t bs seen any (Some (ty.Int a)) (Some (ty.Int b)) same v w h i e =
    subst (λ z. AreTaken z w) (same_scalar (Int a) v h)
    (subst (λ z. AreTaken (Int a) z) (same_scalar (Int b) w i) (numbers a b))
are_taken t bs seen any (Some (ty.Ptr a)) (Some (ty.Ptr b)) same v w h i e =
    subst (λ z. AreTaken z w) (same_scalar Pointer v h)
    (subst (λ z. AreTaken Pointer z) (same_scalar Pointer w i) pointers)
are_taken t bs seen any (Some (ty.Int a)) (Some (ty.Ptr b)) same v w h i e = absurd (cc)
are_taken t bs seen any (Some (ty.Ptr a)) (Some (ty.Int b)) same v w h i e = absurd (cc)
are_taken t bs seen any None u same v w h i e = absurd (cc)
are_taken t bs seen any (Some ty.Void) u same v w h i e = absurd (cc)
are_taken t bs seen any (Some (ty.Array a b)) u same v w h i e = absurd (cc)
are_taken t bs seen any (Some (ty.Aggregate a)) u same v w h i e = absurd (cc)
are_taken t bs seen any (Some (ty.Int a)) None same v w h i e = absurd (cc)
are_taken t bs seen any (Some (ty.Int a)) (Some ty.Void) same v w h i e = absurd (cc)
are_taken t bs seen any (Some (ty.Int a)) (Some (ty.Array b c)) same v w h i e = absurd (cc)
are_taken t bs seen any (Some (ty.Int a)) (Some (ty.Aggregate b)) same v w h i e = absurd (cc)
are_taken t bs seen any (Some (ty.Ptr a)) None same v w h i e = absurd (cc)
are_taken t bs seen any (Some (ty.Ptr a)) (Some ty.Void) same v w h i e = absurd (cc)
are_taken t bs seen any (Some (ty.Ptr a)) (Some (ty.Array b c)) same v w h i e = absurd (cc)
are_taken t bs seen any (Some (ty.Ptr a)) (Some (ty.Aggregate b)) same v w h i e = absurd (cc)

module _ {N : Type 0} (D : Ops N) (laws : CellLaws D) (p : Program) (ord : Side → Order)
    (fit : blocks_fit p.types p.blocks ≡ true)
    (exprs : ExpressionsHold D p ord) (plcs : PlacesHold D p ord) where
  -- ---- the result is read, and converted

  -- what a machine reads there
  abbrev pub read_result : ℕ × Scalar → Side → Machine
  read_result r s m = loaded (ord s) (model (ord s) p) (size_at (ord s) p r.0) m r.1 r.0 0

  abbrev pub read_as : ℕ × Scalar → (taker : Scalar) → Side → Machine
  read_as r (Int t) s m = with_number (read_result r s m) (λ z. has (int (wrapped t z)))
  read_as r Pointer s m = read_result r s m

  read_sound : (r : ℕ × Scalar) → Sound D p ord r.1 (read_result r)
      (load_means D (sizes_of p.blocks) r.1 (λ m k. pointer_given D (one_target r.0 (D.single (pos 0))) m))
  read_sound r =
      load_sound D laws.domain laws.reads p ord r.1 (λ s m. has (pointer r.0 0))
      (λ m k. pointer_given D (one_target r.0 (D.single (pos 0))) m)
      (block_sound D laws.domain p ord r.0 (λ s m. has (pointer r.0 0)) (λ s m. refl))

  pub result_is : (r : ℕ × Scalar) (k : Known N) (m : Memories) → IsKept D p ord k m → (mode : Mode)
      → Evaluated D p ord mode k m r.1 (read_result r) (loaded_result D p mode r k)
  result_is r k m kept mode = record {
    holds = (read_sound r).gives k m kept mode;
    fits = (read_sound r).fits k
        kept.state mode;
  }

  taken_is : (b : ℕ) (v w : Scalar) → AreTaken v w → (k : Known N) (m : Memories) → IsKept D p ord k m → (mode : Mode)
      → Evaluated D p ord mode k m w (read_as (b, v) w) (received_as D p v w mode (loaded_result D p mode (b, v) k))
  taken_is b _ _ (numbers u t) k m kept mode =
      let s = convert_sound D laws.domain p ord u t (read_result (b, Int u))
      (load_means D (sizes_of p.blocks) (Int u) (λ m k. pointer_given D (one_target b (D.single (pos 0))) m))
      (λ s m fits v e. if_has (read_result (b, Int u) s m) (ValueFits p (Int u)) v
      (loaded_fits p (ord s) (model (ord s) p) (size_at (ord s) p b) m (Int u) b 0 fits) e)
      (read_sound (b, Int u)) in
      record { holds = s.gives k m kept mode; fits = s.fits k kept.state mode }
  taken_is b _ _ pointers k m kept mode = result_is (b, Pointer) k m kept mode

  -- ---- it goes to its place

  taker_stores : (v w : Scalar) → AreTaken v w → (b : ℕ) (c : Bool) (a : Place) (i : Side) (l n : ℕ) (s : State)
      → Stores D laws p ord fit (ord i) w on n s (address (ord i) p a s.memory) (read_as (b, v) w i s.memory)
      (received (ord i) p (Some (b, v)) (Some (record { what = w; cast = c; place = a })) l n s)
  taker_stores _ _ (numbers u t) b c a i l n s q o x ea ev es =
      let f = number_found (read_result (b, Int u) i s.memory) (λ z. has (int (wrapped t z))) x ev in
      let same : x ≡ int (wrapped t f.0) = let e : has (int (wrapped t f.0)) ≡ has x = f.2 in cc in
      rw (f.1, ea, es) (ap (λ d. leaves on n (stored_in d)) (sym same))
    where
      stored_in : Datum → State
      stored_in d = record s { memory = stored (ord i) p.types.model s.memory (Int t) q o d }
  taker_stores _ _ pointers b c a i l n s q o x ea ev es = rw (ev, ea, es) refl

  module _ (f : Function) (holds : list_all (holds_scalar p.types p.blocks) (option_to_list f.result) ≡ true) where
    -- the sorts of what is given and of what takes it
    record IsTaken (r : ℕ × Scalar) (d : Dest) (seen : List ℕ) : Type 0 where
      place_type : ℕ
      placed : place_has p.types p.blocks seen d.place place_type ≡ true
      taken : AreTaken r.1 d.what

    typed_taken : (r : ℕ × Scalar) → holds_scalar p.types p.blocks r ≡ true → (d : Dest) (seen : List ℕ) (o : Option ℕ)
        → block_type (slice_get p.blocks r.0) ≡ o → takes_result p.types p.blocks seen o (Some d) ≡ true → IsTaken r d
        seen
    typed_taken r h d seen None e t = absurd (cc)
    typed_taken r h d seen (Some ty) e t =
        let s = type_where p.types p.blocks seen (λ u. has_scalar u d.what)
        (λ u. can_take p.types p.blocks seen d.cast (ty_at p.types p.blocks seen ty)
        (ty_at p.types p.blocks seen u) (nat_eq ty u)
        && place_has p.types p.blocks seen d.place u) t in
        let q = and_parts (can_take p.types p.blocks seen d.cast (ty_at p.types p.blocks seen ty)
        (ty_at p.types p.blocks seen s.0) (nat_eq ty s.0))
        (place_has p.types p.blocks seen d.place s.0) s.2 in
        record {
          place_type = s.0;
          placed = q.1;
          taken = are_taken p.types p.blocks seen d.cast (ty_at p.types p.blocks seen ty)
              (ty_at p.types p.blocks seen s.0) (nat_eq ty s.0) r.1 d.what
              (subst (λ z. has_scalar (option_and_then (slice_get p.types.types) z) r.1 ≡ true) e h) s.1 q.0;
        }

    given_scalar : (r : ℕ × Scalar) → f.result ≡ Some r → holds_scalar p.types p.blocks r ≡ true
    given_scalar r e =
        (and_parts (holds_scalar p.types p.blocks r) true (subst (λ o. list_all (holds_scalar p.types p.blocks)
        (option_to_list o) ≡ true) e holds)).0

    abbrev S : Known N → Memory → Memory → Type 0
    S = StandsFor D p ord

    pub result_sound : (d : Option Dest) (seen : List ℕ) → takes_result p.types p.blocks seen
        (result_type p.blocks f.result) d ≡ true → (k : Known N)
        (x y : State) → ConcretisesTyped p S k x y → (result_step D p Both f d k).faults ≡ [] → (l n j : ℕ)
        → Meets p S on (result_step D p Both f d k).next n j (received (ord left) p f.result d l n x)
        (received (ord right) p f.result d l j y)
    result_sound None seen h k x y kept q l n j = meet kept.stands
    result_sound (Some d) seen h k x y kept q l n j = by_result f.result refl h q
      where
        by_result : (o : Option (ℕ × Scalar)) → f.result ≡ o → takes_result p.types p.blocks seen
            (result_type p.blocks o) (Some d) ≡ true
            → (result_step D p Both (record f { result = o }) (Some d) k).faults ≡ []
            → Meets p S on (result_step D p Both (record f { result = o }) (Some d) k).next n j
            (received (ord left) p o (Some d) l n x)
            (received (ord right) p o (Some d) l j y)
        by_result None e h q = absurd (cc)
        by_result (Some r) e h q =
            let m = memories x.memory y.memory in
            let i = kept_both D p ord k x y kept in
            let t = typed_taken r (given_scalar r e) d seen (block_type (slice_get p.blocks r.0)) refl h in
            let v = received_as D p r.1 d.what Both (loaded_result D p Both r k) in
            let to = place_means D (sizes_of p.blocks) d.place Both k in
            let g = none_left (v.faults ++ to.faults) _ q in
            let fs = none_left v.faults to.faults g.0 in
            both_store D laws p ord fit d.what k (λ i. address (ord i) p d.place) (read_as r d.what) to v fs.1 fs.0 x
            y kept.stands i
            (place_is D laws p ord fit exprs plcs seen d.place t.place_type t.placed k m i Both)
            (taken_is r.0 r.1 d.what t.taken k m i Both) g.1 on n j _ _
            (taker_stores r.1 d.what t.taken r.0 d.cast d.place left l n x)
            (taker_stores r.1 d.what t.taken r.0 d.cast d.place right l j y)

    pub result_alone : (i : Side) (d : Option Dest) (seen : List ℕ) → takes_result p.types p.blocks seen
        (result_type p.blocks f.result) d ≡ true
        → (k : Known N) (x y : State) → ConcretisesTypedBeside p S i k x y → (result_step D p (alone i) f d k).faults ≡ [] →
        (l n : ℕ)
        → MeetsAlone p S i on (result_step D p (alone i) f d k).next n y (received (ord i) p f.result d l n x)
    result_alone left None seen h k x y kept q l n = meet_alone kept.stands
    result_alone right None seen h k x y kept q l n = meet_alone kept.stands
    result_alone i (Some d) seen h k x y kept q l n = by_result f.result refl h q
      where
        by_result : (o : Option (ℕ × Scalar)) → f.result ≡ o → takes_result p.types p.blocks seen
            (result_type p.blocks o) (Some d) ≡ true
            → (result_step D p (alone i) (record f { result = o }) (Some d) k).faults ≡ []
            → MeetsAlone p S i on (result_step D p (alone i) (record f { result = o }) (Some d) k).next n y
            (received (ord i) p o (Some d) l n x)
        by_result None e h q = absurd (cc)
        by_result (Some r) e h q =
            let m = pair_of i x.memory y.memory in
            let c = kept_beside D p ord i k x y kept in
            let t = typed_taken r (given_scalar r e) d seen (block_type (slice_get p.blocks r.0)) refl h in
            let v = received_as D p r.1 d.what (alone i) (loaded_result D p (alone i) r k) in
            let to = place_means D (sizes_of p.blocks) d.place (alone i) k in
            let g = none_left (v.faults ++ to.faults) _ q in
            let fs = none_left v.faults to.faults g.0 in
            alone_store D laws p ord fit d.what k (λ i. address (ord i) p d.place) (read_as r d.what) to v fs.1 fs.0 i
            x y
            (alike_beside D p ord i k x y kept) c
            (place_is D laws p ord fit exprs plcs seen d.place t.place_type t.placed k m c (alone i))
            (taken_is r.0 r.1 d.what t.taken k m c (alone i)) g.1 on n _
            (taker_stores r.1 d.what t.taken r.0 d.cast d.place i l n x)
