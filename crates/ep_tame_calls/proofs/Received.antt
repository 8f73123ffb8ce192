-- Results of calls in good states.
use Rattle.std.proofs.Common.{◌≡◌, ℕ, pos, Bool, true, false, ◌&&◌, ◌||◌, not, List, [], ◌∷◌, ◌++◌, slice_get, Option, Some}
use Rattle.std.proofs.Common.{None, option_map, refl, sym, ap, ◌∙◌, subst, nat_eq, ◌⊎◌, inl, inr}
use Rattle.std.specs.Prelude.{option_to_list}
use Rattle.std.specs.List.{list_all}
use Rattle.std.proofs.lemmas.Bool.{and_parts, or_left, or_right, or_cases, eq-eqb, eqb-true, not-true, both_ways}
use Rattle.ep_int.specs.declared.types.Order.{Order}
use Rattle.ep_int.specs.declared.types.IntType.{IntType}
use Rattle.ep_int.specs.declared.types.Scalar.{Scalar}
use Rattle.ep_int.specs.declared.types.Scalar.TheVariants.{Int, Pointer}
use Rattle.ep_int.specs.Memory.{contains}
use Rattle.ep_layout.specs.declared.types.Ty.{Ty}
use Rattle.ep_layout.specs.declared.types.Ty.TheVariants as ty
use Rattle.ep_layout.specs.Table.{IsBuilt, target_of}
use Rattle.ep_domain.specs.Domain.{Ops, Lawful}
use Rattle.ep_pointers.specs.Value.{one_target}
use Rattle.ep_cells.specs.declared.cell.Value.{Value}
use Rattle.ep_cells.specs.declared.cell.Value.TheVariants.{Num, Ptr}
use Rattle.ep_cells.specs.States.{Known}
use Rattle.ep_core.specs.Program.{Dest, block, Block, Function, Program}
use Rattle.ep_core.specs.Exec.{first_of}
use Rattle.ep_core.specs.Runs.{Side, left, is_global}
use Rattle.ep_core.specs.WellFormed.{is_well_formed, blocks_fit, holds_scalar, has_scalar, block_type, result_type}
use Rattle.ep_core.specs.WellFormed.{takes_result, can_take, place_has, ty_at, is_named}
use Rattle.ep_core.proofs.Operands.{sizes as blocks_of, fits_at}
use Rattle.ep_core.proofs.Sorts.{never, type_where, same_scalar}
use Rattle.ep_equalities.specs.declared.pair.Mode.TheVariants.{Both}
use Rattle.ep_evaluation.specs.Given.{Given}
use Rattle.ep_evaluation.specs.Evaluation.{number, place, pointer_given, convert_side}
use Rattle.ep_evaluation.specs.Laws.{SideFits, sizes_of}
use Rattle.ep_pass.specs.States as states
use Rattle.ep_transfers.specs.Taken.{AreTaken, numbers, pointers}
use Rattle.ep_transfers.specs.Transfers.{sizes, assigned}
use Rattle.ep_transfers.specs.Calls.{loaded_result, received_as, result_step}
use Rattle.ep_transfers.specs.Cells.{cell_ops, told_of, when_known}
use Rattle.ep_transfers.specs.WaitingLaws.{WaitingHolds}
use Rattle.ep_transfers.proofs.WaitingStays.{each_waits}
use Rattle.ep_alarm_laws.proofs.Safe.{plain_honest}
use Rattle.ep_kinds.specs.Tame.{are_tame_types, is_tame_place, is_tame_dest}
use Rattle.ep_tame_laws.specs.Tamely.{IfReached, AreAmong, result_block, TransferIsGood}
use Rattle.ep_tame_laws.proofs.Main.{OwnBlock, own_block}
use Rattle.ep_tame_places.specs.Places.{PointsTo, LiesAt}
use Rattle.ep_tame_places.specs.Laws.{PlaceLaws}
use Rattle.ep_tame_accesses.specs.Laws.{AccessesAreOfObjects}
use Rattle.ep_tame_cells.specs.Shape.{IsCovered}
use Rattle.ep_tame_states.specs.States.{ValueHas, IsInBlock, IsGood}
use Rattle.ep_tame_twins.specs.Twins.{IsTwin}
use Rattle.ep_tame_twins.specs.Laws.{TwinLaws}
use Rattle.ep_tame_twins.proofs.Alike.{one_twin, same_of}
use Rattle.ep_tame_twins.proofs.LoadsAlike.{spots_of}
use Rattle.ep_tame_twins.proofs.LoadsNear.{CanLoad, load_twin, load_points}
use Rattle.ep_tame_twins.proofs.Parts.{scalar_type}
use Rattle.ep_tame_changes.specs.Laws.{BlocksKeepGood}
use Rattle.ep_tame_writes.specs.Laws.{CanGoTo, AssignmentsKeepGood}
use Rattle.ep_tame_ops.proofs.GuardsPass.{told_pass}
use Rattle.ep_tame_calls.proofs.CallKinds.{results_undefined}
use Rattle.ep_tame_calls.proofs.Own.{pointer_at, own_lies, points_inside, number_inside}

-- a number goes to a number, and a pointer to a pointer of its type
pub record IsTaken (same : Bool) (v w : Scalar) : Type 0 where
  pub taken : AreTaken v w
  pub alike : w ≡ Pointer → same ≡ true

number_apart : {A : Type 0} (t : IntType) → Int t ≡ Pointer → A
number_apart t e = absurd cc

is_taken : (p : Program) (seen : List ℕ) (o n : Option Ty) (same : Bool) (v w : Scalar) → has_scalar o v ≡ true
    → has_scalar n w ≡ true → can_take p.types p.blocks seen false o n same ≡ true → IsTaken same v w
is_taken p seen (Some (ty.Int a)) (Some (ty.Int b)) same v w h i e =
    let x = same_scalar (Int a) v h in
    let y = same_scalar (Int b) w i in
    record {
      taken = subst (λ z. AreTaken z w) x (subst (λ z. AreTaken (Int a) z) y (numbers a b));
      alike = λ q. number_apart b (y ∙ q);
    }
is_taken p seen (Some (ty.Ptr a)) (Some (ty.Ptr b)) same v w h i e =
    let x = same_scalar Pointer v h in
    let y = same_scalar Pointer w i in
    record {
      taken = subst (λ z. AreTaken z w) x (subst (λ z. AreTaken Pointer z) y pointers);
      alike = λ q. e;
    }
is_taken p seen (Some (ty.Int a)) (Some (ty.Ptr b)) same v w h i e = never e
is_taken p seen (Some (ty.Int a)) (Some (ty.Array b c)) same v w h i e = never e
is_taken p seen (Some (ty.Int a)) (Some (ty.Aggregate b)) same v w h i e = never e
is_taken p seen (Some (ty.Int a)) (Some ty.Void) same v w h i e = never e
is_taken p seen (Some (ty.Int a)) None same v w h i e = never e
is_taken p seen (Some (ty.Ptr a)) (Some (ty.Int b)) same v w h i e = never e
is_taken p seen (Some (ty.Ptr a)) (Some (ty.Array b c)) same v w h i e = never e
is_taken p seen (Some (ty.Ptr a)) (Some (ty.Aggregate b)) same v w h i e = never e
is_taken p seen (Some (ty.Ptr a)) (Some ty.Void) same v w h i e = never e
is_taken p seen (Some (ty.Ptr a)) None same v w h i e = never e
is_taken p seen (Some (ty.Array a c)) n same v w h i e = never h
is_taken p seen (Some (ty.Aggregate a)) n same v w h i e = never h
is_taken p seen (Some ty.Void) n same v w h i e = never h
is_taken p seen None n same v w h i e = never h

reached_as : {S : Type 0} (P Q : S → Type 0) → ((s : S) → P s → Q s) → (o : Option S) → IfReached P o → IfReached Q o
reached_as P Q go None h = tt
reached_as P Q go (Some s) h = go s h

module _ {N : Type 0} (D : Ops N) (law : Lawful D) (p : Program) (formed : is_well_formed p ≡ true)
    (built : IsBuilt p.types) (tame : are_tame_types p.types ≡ true) (ord : Side → Order) (places : PlaceLaws D p)
    (access : AccessesAreOfObjects D p) where
  fit : blocks_fit p.types p.blocks ≡ true
  fit = blocks_of p formed

  -- ---- the result of a function, whose block is there

  module _ (h k : Known N) (live res : List ℕ) (g : IsGood D p ord h live res k) (r : ℕ × Scalar)
      (there : contains r.0 res ≡ true) (own : OwnBlock p r) where
    abbrev near : List ℕ
    near = r.0 ∷ []

    can_load : CanLoad D p ord near live k
    can_load = record {
      state = g.state;
      shape = g.shape;
      named = λ b n. by_name b (or_cases (is_global (slice_get p.blocks b)) (contains b near) n);
      points = g.points;
    }
      where
        by_name : (b : ℕ) → (is_global (slice_get p.blocks b) ≡ true) ⊎ (contains b near ≡ true)
            → IsCovered p k.cells b
        by_name b (inl e) = g.named b (or_left (is_global (slice_get p.blocks b)) (contains b live) e)
        by_name b (inr e) =
            g.results b (subst (λ c. contains c res ≡ true) (sym (eqb-true b r.0 (or_false (nat_eq b r.0) e))) there)
          where
            or_false : (t : Bool) → (t || false) ≡ true → t ≡ true
            or_false true e = refl
            or_false false e = never e

    abbrev address : Given N
    address = pointer_given D (one_target r.0 (D.single (pos 0))) Both

    address_twin : IsTwin address
    address_twin = record { equal = refl; alike = refl }

    lies : ValueHas (LiesAt D p near (block r.0) own.of_block.ty) address.pair.left.value
    lies = (
      own_lies D p places near r.0 own.of_block own.there
          (or_right (is_global (slice_get p.blocks r.0)) (contains r.0 near)
          (or_left (nat_eq r.0 r.0) false (eq-eqb r.0 r.0 refl))),
      tt,
    )

    pub loaded_twin : IsTwin (loaded_result D p Both r k)
    loaded_twin =
        load_twin D p ord built tame fit places access near live k can_load r.1 own.of_block.ty
        (scalar_type p.types own.of_block.ty r.1 own.holds) (block r.0) address address_twin lies

    loaded_points : (ty : ℕ) → target_of p.types own.of_block.ty ≡ Some ty
        → ValueHas (PointsTo D p live ty) (loaded_result D p Both r k).pair.left.value
    loaded_points ty target =
        load_points D p ord built tame fit places access near live k can_load r.1 own.of_block.ty
        (scalar_type p.types own.of_block.ty r.1 own.holds) (block r.0) address address_twin lies ty target

    -- as what takes it has it

    received_twin : (v w : Scalar) → AreTaken v w → (x : Given N) → IsTwin x → IsTwin (received_as D p v w Both x)
    received_twin _ _ (numbers a b) x t = one_twin D (convert_side D (Some a) b) x x.faults t
    received_twin _ _ pointers x t = t

    received_points : (v w : Scalar) → AreTaken v w → (P : ℕ → N → Type 0) (x : Given N)
        → (w ≡ Pointer → ValueHas P x.pair.left.value) → ValueHas P (received_as D p v w Both x).pair.left.value
    received_points _ _ (numbers a b) P x go = number_has (number D x.pair.left)
      where
        number_has : (o : Option N) → ValueHas P (option_map (λ n. Num (D.convert n b)) o)
        number_has None = tt
        number_has (Some n) = tt
    received_points _ _ pointers P x go = go refl

    module _ (twins : TwinLaws D p ord) (writes : AssignmentsKeepGood D p ord) (seen : List ℕ)
        (among : AreAmong seen live) (d : Dest) (tame_d : is_tame_dest p.types (Some d) ≡ true) (u : ℕ)
        (of : has_scalar (slice_get p.types.types u) d.what ≡ true)
        (placed : place_has p.types p.blocks seen d.place u ≡ true)
        (is : IsTaken (nat_eq own.of_block.ty u) r.1 d.what) where
      abbrev v : Given N
      v = received_as D p r.1 d.what Both (loaded_result D p Both r k)

      abbrev to : Given N
      to = place D (sizes D p) d.place Both k

      fits : SideFits D p ord k d.what v.pair.left
      fits = (each_waits D law p ord formed).received r.0 r.1 d.what is.taken k g.state Both left

      along : (ty : ℕ) → target_of p.types u ≡ Some ty → ValueHas (PointsTo D p live ty) v.pair.left.value
      along ty target =
          received_points r.1 d.what is.taken (PointsTo D p live ty) (loaded_result D p Both r k)
          (λ q. loaded_points ty (ap (target_of p.types) (eqb-true own.of_block.ty u (is.alike q)) ∙ target))

      can_go : CanGoTo D p live k u d.what v.pair.left
      can_go = record {
        sort = fits.sort;
        rising = fits.rising;
        form = fits.form;
        inside = number_inside D p d.what v.pair.left.value fits.sort (λ q. at_pointer q (slice_get p.types.types u) refl of);
        along = along;
      }
        where
          at_pointer : d.what ≡ Pointer → (o : Option Ty) → slice_get p.types.types u ≡ o → has_scalar o d.what ≡ true
              → ValueHas (IsInBlock D p) v.pair.left.value
          at_pointer q None e i = never i
          at_pointer q (Some ty.Void) e i = never i
          at_pointer q (Some (ty.Int a)) e i = number_apart a (same_scalar (Int a) d.what i ∙ q)
          at_pointer q (Some (ty.Ptr a)) e i =
              points_inside D p live a v.pair.left.value (along a (rw e refl))
          at_pointer q (Some (ty.Array a n)) e i = never i
          at_pointer q (Some (ty.Aggregate a)) e i = never i

      pub received_good : IfReached (IsGood D p ord h live res)
          (assigned D (sizes D p) Both d.what to.pair v.pair k).next
      received_good =
          let t = twins.places seen live res among d.place u placed
          (and_parts (not d.cast) (is_tame_place p.types d.place) tame_d).1 h k g in
          let t2 = received_twin r.1 d.what is.taken (loaded_result D p Both r k) loaded_twin in
          writes h k live res u d.what to.pair v.pair g (scalar_type p.types u d.what of) t.twin.alike
          (same_of D to t.twin) t2.alike (same_of D v t2)
          (spots_of D p ord built tame fit places access live res h k g d.what u (scalar_type p.types u d.what of)
          d.place to.pair.left (t.lies u placed)) can_go

  -- ---- the whole step

  module _ (twins : TwinLaws D p ord) (changes : BlocksKeepGood D p ord) (writes : AssignmentsKeepGood D p ord)
      (seen : List ℕ) (h s : Known N) (live res : List ℕ) (among : AreAmong seen live) where
    abbrev Good : Known N → Type 0
    Good = IsGood D p ord h live res

    with_result : (f : Function) (r : ℕ × Scalar) → holds_scalar p.types p.blocks r ≡ true → (d : Dest) → (o : Option ℕ)
        → block_type (slice_get p.blocks r.0) ≡ o
        → takes_result p.types p.blocks seen o (Some d) ≡ true → is_tame_dest p.types (Some d) ≡ true
        → IsGood D p ord h live (r.0 ∷ res) s
        → IfReached Good (result_step D p Both (record f { result = Some r }) (Some d) s).next
    with_result f r holds d None e takes tame_d g = never takes
    with_result f r holds d (Some t) e takes tame_d g =
        let own = own_block p r holds in
        let same = some_is t own.of_block.ty (sym e ∙ ap block_type own.there) in
        let u = type_where p.types p.blocks seen (λ u. has_scalar u d.what)
        (λ u. can_take p.types p.blocks seen d.cast (ty_at p.types p.blocks seen t) (ty_at p.types p.blocks seen u)
        (nat_eq t u) && place_has p.types p.blocks seen d.place u) takes in
        let q = and_parts (can_take p.types p.blocks seen d.cast (ty_at p.types p.blocks seen t)
        (ty_at p.types p.blocks seen u.0) (nat_eq t u.0)) (place_has p.types p.blocks seen d.place u.0) u.2 in
        let no_cast = not-true d.cast (and_parts (not d.cast) (is_tame_place p.types d.place) tame_d).0 in
        let can = subst (λ c. can_take p.types p.blocks seen false (ty_at p.types p.blocks seen c)
        (ty_at p.types p.blocks seen u.0) (nat_eq c u.0) ≡ true) same
        (subst (λ b. can_take p.types p.blocks seen b (ty_at p.types p.blocks seen t)
        (ty_at p.types p.blocks seen u.0) (nat_eq t u.0) ≡ true) no_cast q.0) in
        reached_as (IsGood D p ord h live (r.0 ∷ res)) Good (λ j i. changes.result_goes (r.0 ∷ []) h j live res i)
        (assigned D (sizes D p) Both d.what (place D (sizes D p) d.place Both s).pair
        (received_as D p r.1 d.what Both (loaded_result D p Both r s)).pair s).next
        (received_good h s live (r.0 ∷ res) g r (or_left (nat_eq r.0 r.0) (contains r.0 res) (eq-eqb r.0 r.0 refl)) own
        twins writes seen among d tame_d u.0 u.1 q.1
        (is_taken p seen (slice_get p.types.types own.of_block.ty) (slice_get p.types.types u.0)
        (nat_eq own.of_block.ty u.0) r.1 d.what own.holds u.1 can))
      where
        some_is : (a b : ℕ) → Some a ≡ Some b → a ≡ b
        some_is a b e = cc

    by_result : (f : Function) (d : Dest) → (o : Option (ℕ × Scalar))
        → list_all (holds_scalar p.types p.blocks) (option_to_list o) ≡ true
        → takes_result p.types p.blocks seen (result_type p.blocks o) (Some d) ≡ true
        → is_tame_dest p.types (Some d) ≡ true
        → IsGood D p ord h live (first_of (option_to_list o) ++ res) s
        → IfReached Good (result_step D p Both (record f { result = o }) (Some d) s).next
    by_result f d None holds takes tame_d g = tt
    by_result f d (Some r) holds takes tame_d g =
        with_result f r (and_parts (holds_scalar p.types p.blocks r) true holds).0 d
        (block_type (slice_get p.blocks r.0)) refl takes tame_d g

    pub result_good : (k : ℕ) (f : Function) → slice_get p.functions k ≡ Some f → (d : Option Dest)
        → takes_result p.types p.blocks seen (result_type p.blocks f.result) d ≡ true → is_tame_dest p.types d ≡ true
        → IsGood D p ord h live (result_block f ++ res) s
        → TransferIsGood Good ((cell_ops D p ord).result states.Both f d s)
    result_good k f at d takes tame_d g = record {
      faults =
          results_undefined false d ((cell_ops D p ord).result states.Both f d s).faults
          ((plain_honest D law p ord formed built).result states.Both k f at d seen takes s);
      next =
          subst (λ t. IfReached Good (told_of D (when_known t (result_step D p Both f d s))).next)
          (sym (told_pass D law p ord s g.state)) (by_dest d takes tame_d);
    }
      where
        by_dest : (d : Option Dest) → takes_result p.types p.blocks seen (result_type p.blocks f.result) d ≡ true
            → is_tame_dest p.types d ≡ true → IfReached Good (result_step D p Both f d s).next
        by_dest None takes tame_d = changes.result_goes (result_block f) h s live res g
        by_dest (Some d) takes tame_d = by_result f d f.result (fits_at p formed k f at).1 takes tame_d g
