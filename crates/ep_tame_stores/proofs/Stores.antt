-- Assignments, inputs and returns.
use Rattle.std.proofs.Common.{◌≡◌, pos, true, false, ◌&&◌, not, ◌⊎◌, inl, inr, List, [], ◌∷◌, ℕ, ⊎_elim}
use Rattle.std.proofs.Common.{slice_get, Option, Some, None, refl, sym, ap, ◌∙◌, subst, nat_eq}
use Rattle.std.specs.Prelude.{option_and_then, option_to_list}
use Rattle.std.specs.List.{list_all}
use Rattle.std.proofs.lemmas.Bool.{and_parts, or_left, or_right, or_cases, eqb-true, eq-eqb}
use Rattle.ep_int.specs.declared.types.IntType.{IntType}
use Rattle.ep_int.specs.declared.types.Order.{Order}
use Rattle.ep_int.specs.declared.types.Scalar.{Scalar}
use Rattle.ep_int.specs.declared.types.Scalar.TheVariants.{Pointer}
use Rattle.ep_int.specs.Memory.{contains}
use Rattle.ep_int.specs.Types.{size_of}
use Rattle.ep_layout.specs.Table.{IsBuilt, scalar_of, target_of}
use Rattle.ep_layout.proofs.Sizes.{size_of_scalar}
use Rattle.ep_domain.specs.Domain.{Ops, Lawful}
use Rattle.ep_cells.specs.States.{Known, IsOfSort}
use Rattle.ep_cell_ranges.specs.Spots.{Spot}
use Rattle.ep_core.specs.Program.{Place, block, Expr, Dest, Simple, nothing, eval, assign, clear, copy_aggregate}
use Rattle.ep_core.specs.Program.{copy_bytes, fill, input, output, read_bytes, write_bytes, returns, Block}
use Rattle.ep_core.specs.Program.{Program}
use Rattle.ep_core.specs.Exec.{first_of}
use Rattle.ep_core.specs.Runs.{Side, left, is_global}
use Rattle.ep_core.specs.WellFormed.{Sort, has_sort, has_type, place_has, has_scalar, sort_of}
use Rattle.ep_core.specs.WellFormed.{result_type, result_fits, simple_fits, blocks_fit, is_well_formed, block_type}
use Rattle.ep_core.specs.WellFormed.{is_main, is_named, block_has, takes_input, holds_scalar}
use Rattle.ep_core.specs.Typed.{scalar_of as scalar_of_sort}
use Rattle.ep_core.proofs.Operands.{fits_at}
use Rattle.ep_core.proofs.Sorts.{never, type_where, typed_where, sort_scalar, number_scalar}
use Rattle.ep_equalities.specs.declared.pair.Mode.TheVariants as pair_mode
use Rattle.ep_equalities.specs.declared.pair.PairValue.{PairValue}
use Rattle.ep_equalities.specs.declared.pair.SideValue.{SideValue}
use Rattle.ep_evaluation.specs.Given.{Given}
use Rattle.ep_evaluation.specs.Evaluation.{expression, place, pointer, targets_of}
use Rattle.ep_evaluation.specs.Laws.{sizes_of, SideFits}
use Rattle.ep_evaluation.proofs.Gathered.{evaluation_laws}
use Rattle.ep_pass.specs.States.{Both}
use Rattle.ep_transfers.specs.Places.{places_of}
use Rattle.ep_transfers.specs.Transfers.{sizes, simple_step, taken_in, returned, assigned, input_pair, to_block}
use Rattle.ep_transfers.specs.Cells.{when_known}
use Rattle.ep_alarm_laws.specs.Laws.{ProductsKeepStrides}
use Rattle.ep_alarm_laws.proofs.Safe.{plain_honest}
use Rattle.ep_kinds.specs.Tame.{are_tame_types, is_tame_expr, is_tame_place, is_tame_dest, is_tame_value}
use Rattle.ep_kinds.specs.Tame.{is_tame_simple}
use Rattle.ep_tame_laws.specs.Tamely.{IfReached, AreAmong, is_result_of_main}
use Rattle.ep_tame_laws.proofs.Parts.{scalar_size}
use Rattle.ep_tame_numbers.specs.Offsets.{KeepsOffsets}
use Rattle.ep_tame_places.specs.Places.{PointsTo, LiesAt}
use Rattle.ep_tame_places.specs.Laws.{PlaceLaws}
use Rattle.ep_tame_places.proofs.Steps.{place_laws_of}
use Rattle.ep_tame_accesses.specs.Laws.{HasObject, EachSpot, AccessesAreOfObjects}
use Rattle.ep_tame_accesses.proofs.Accesses.{accesses_of}
use Rattle.ep_tame_states.specs.States.{ValueHas, IsGood}
use Rattle.ep_tame_states.proofs.Gathered.{state_laws_of}
use Rattle.ep_tame_twins.specs.Twins.{ExprTwin}
use Rattle.ep_tame_twins.specs.Laws.{TwinLaws}
use Rattle.ep_tame_twins.proofs.Alike.{same_of}
use Rattle.ep_tame_twins.proofs.Expressions.{twin_laws_of}
use Rattle.ep_tame_twins.proofs.Parts.{scalar_type}
use Rattle.ep_tame_twins.proofs.Values.{targets_have}
use Rattle.ep_tame_ops.proofs.GuardsPass.{told_pass}
use Rattle.ep_tame_writes.specs.Laws.{CanGoTo}
use Rattle.ep_tame_writes.specs.Stands.{HasPlace, MayStand, CanStay, IsNumberType}
use Rattle.ep_tame_writes.proofs.Placed.{each_spot_as}
use Rattle.ep_tame_writes.proofs.Assignments.{object_place, object_takes, assigned_places, TakesPair, assignments_keep_good}
use Rattle.ep_tame_stores.specs.Laws.{is_store, StoresKeepGood}
use Rattle.ep_tame_stores.proofs.MainResult.{main_number}
use Rattle.ep_tame_stores.proofs.StatementKinds.{is_output, faults_of_simple}
use Rattle.ep_tame_stores.proofs.Values.{sort_of_target, value_inside}

module _ {N : Type 0} (D : Ops N) (law : Lawful D) (p : Program) (built : IsBuilt p.types)
    (tame : are_tame_types p.types ≡ true) (fit : blocks_fit p.types p.blocks ≡ true) (places : PlaceLaws D p)
    (access : AccessesAreOfObjects D p) (ord : Side → Order) (twins : TwinLaws D p ord) (seen live res : List ℕ)
    (among : AreAmong seen live) (h k : Known N) (g : IsGood D p ord h live res k) where
  abbrev Good : Known N → Type 0
  Good = IsGood D p ord h live res

  abbrev gives : Expr → Given N
  gives e = (expression D (sizes_of p.blocks) e).gives pair_mode.Both k

  abbrev reach : Place → Given N
  reach a = place D (sizes_of p.blocks) a pair_mode.Both k

  -- ---- what is evaluated goes to places of its type

  fits : (e : Expr) (x : Sort) → has_sort p.types p.blocks seen e x ≡ true
      → SideFits D p ord k (scalar_of_sort x) (gives e).pair.left
  fits e x s = ((evaluation_laws D law).expressions p ord fit seen e x s).fits k g.state pair_mode.Both left

  along_type : (e : Expr) (u : ℕ) (x : Sort) → sort_of (slice_get p.types.types u) ≡ Some x → ExprTwin D p seen live e k
      → has_sort p.types p.blocks seen e x ≡ true → (ty : ℕ) → target_of p.types u ≡ Some ty
      → ValueHas (PointsTo D p live ty) (gives e).pair.left.value
  along_type e u x sort twin s ty target =
      twin.points ty
      (subst (λ z. has_sort p.types p.blocks seen e z ≡ true) (sort_of_target p.types u ty x target sort) s)

  can_go : (e : Expr) (u : ℕ) (w : Scalar) (x : Sort) → has_scalar (slice_get p.types.types u) w ≡ true
      → sort_of (slice_get p.types.types u) ≡ Some x → has_sort p.types p.blocks seen e x ≡ true
      → ExprTwin D p seen live e k → CanGoTo D p live k u w (gives e).pair.left
  can_go e u w x kind sort s twin =
      let is = scalar_type p.types u w kind in
      let f : SideFits D p ord k w (gives e).pair.left =
      subst (λ z. SideFits D p ord k z (gives e).pair.left)
      (sym (sort_scalar (slice_get p.types.types u) w x kind sort)) (fits e x s) in
      record {
        sort = f.sort;
        rising = f.rising;
        form = f.form;
        inside =
            value_inside D p live u w (gives e).pair.left.value is f.sort
            (λ ty target. along_type e u x sort twin s ty target);
        along = λ ty target. along_type e u x sort twin s ty target;
      }

  -- ---- the places of an address

  spots_there : (others : List ℕ) (a : Place) (u : ℕ) (w : Scalar) (x : PairValue N) → scalar_of p.types u ≡ Some w
      → ValueHas (LiesAt D p others a u) x.left.value
      → EachSpot (HasObject p others u) (places_of D (sizes D p) (size_of k.model w) (size_of k.model w) x).left
  spots_there others a u w x is l =
      access others a u (size_of k.model w) (size_of k.model w) (targets_of D (sizes_of p.blocks) (pointer D x.left))
      (scalar_size p.types built u w is ∙ ap (λ d. Some (size_of d w)) (sym g.state.model))
      (size_of_scalar k.model w).0
      (targets_have D (sizes_of p.blocks) (LiesAt D p others a u) x.left.value l)

  -- ---- assignments

  assign_next : (w : Scalar) (a : Place) (e : Expr) (u : ℕ) → has_scalar (slice_get p.types.types u) w ≡ true
      → (place_has p.types p.blocks seen a u && has_type p.types p.blocks seen e u) ≡ true
      → (is_tame_place p.types a && is_tame_expr p.types e) ≡ true
      → IfReached Good (assigned D (sizes D p) pair_mode.Both w (reach a).pair (gives e).pair k).next
  assign_next w a e u kind typed own =
      let is = scalar_type p.types u w kind in
      let q = and_parts (place_has p.types p.blocks seen a u) (has_type p.types p.blocks seen e u) typed in
      let n = and_parts (is_tame_place p.types a) (is_tame_expr p.types e) own in
      let x = typed_where p.types p.blocks seen e u q.1 in
      let to = twins.places seen live res among a u q.0 n.0 h k g in
      let v = twins.expressions seen live res among e x.0 x.2 n.1 h k g in
      assignments_keep_good D law p built tame fit places ord h k live res u w (reach a).pair (gives e).pair g is
      to.twin.alike (same_of D (reach a) to.twin) v.twin.alike (same_of D (gives e) v.twin)
      (spots_there live a u w (reach a).pair is (to.lies u q.0)) (can_go e u w x.0 kind x.1 x.2 v)

  -- ---- inputs: a number

  input_next : (t : IntType) (d : Dest) (u : ℕ)
      → (has_scalar (slice_get p.types.types u) d.what && not (has_scalar (slice_get p.types.types u) Pointer)) ≡ true
      → place_has p.types p.blocks seen d.place u ≡ true → is_tame_place p.types d.place ≡ true
      → IfReached Good (assigned D (sizes D p) pair_mode.Both d.what (reach d.place).pair
      (input_pair D pair_mode.Both t d.what) k).next
  input_next t d u kind typed own =
      let is = scalar_type p.types u d.what (and_parts (has_scalar (slice_get p.types.types u) d.what) _ kind).0 in
      let num = number_scalar (slice_get p.types.types u) d.what kind in
      let to = twins.places seen live res among d.place u typed own h k g in
      let v = input_pair D pair_mode.Both t d.what in
      assignments_keep_good D law p built tame fit places ord h k live res u d.what (reach d.place).pair v g is
      to.twin.alike (same_of D (reach d.place) to.twin) refl refl
      (spots_there live d.place u d.what (reach d.place).pair is (to.lies u typed))
      (record {
        sort = subst (λ w. IsOfSort w v.left.value) (sym num.1) tt;
        rising = tt;
        form = tt;
        inside = tt;
        along = λ ty target. tt;
      })

  -- ---- returns: the block of a result, which has a place, but no name

  module _ (b : ℕ) (w : Scalar) (in_res : contains b res ≡ true) (x : Block) (there : slice_get p.blocks b ≡ Some x)
      (kind : has_scalar (slice_get p.types.types x.ty) w ≡ true)
      (number : is_result_of_main p b ≡ true → IsNumberType w) where
    abbrev alone : List ℕ
    alone = b ∷ []

    is_scalar : scalar_of p.types x.ty ≡ Some w
    is_scalar = scalar_type p.types x.ty w kind

    own_named : is_named p.types p.blocks alone b ≡ true
    own_named =
        or_right (is_global (slice_get p.blocks b)) (contains b alone)
        (or_left (nat_eq b b) false (eq-eqb b b refl))

    own_lies : LiesAt D p alone (block b) x.ty b (D.single (pos 0))
    own_lies =
        places.of_block alone b x.ty own_named
        (ap (λ o. block_has p.types p.blocks alone o x.ty) there ∙ eq-eqb x.ty x.ty refl)

    abbrev HoldsResult : ℕ → Type 0
    HoldsResult c = (contains c res ≡ true) × (is_result_of_main p c ≡ true → IsNumberType w)

    own_result : HoldsResult b
    own_result = (in_res, number)

    held_by : (c : ℕ) → is_named p.types p.blocks alone c ≡ true
        → (is_named p.types p.blocks live c ≡ true) ⊎ HoldsResult c
    held_by c n =
        ⊎_elim (λ s. inl (or_left (is_global (slice_get p.blocks c)) (contains c live) s))
        (λ s. inr (⊎_elim (λ e. subst HoldsResult (sym (eqb-true c b e)) own_result) (λ e. never e)
        (or_cases (nat_eq c b) false s)))
        (or_cases (is_global (slice_get p.blocks c)) (contains c alone) n)

    result_place : (q : Spot) → HasObject p alone x.ty q → HasPlace p live res (IsNumberType w) w q
    result_place q o =
        let one = object_place p built tame fit alone x.ty w is_scalar q o res (IsNumberType w) in
        record {
          of_block = one.of_block;
          there = one.there;
          held = held_by q.0 o.named;
          inside = one.inside;
          what = one.what;
        }

    result_takes : (e : Expr) → CanGoTo D p live k x.ty w (gives e).pair.left → (gives e).pair.left ≡ (gives e).pair.right
        → (q : Spot) → HasObject p alone x.ty q
        → HasPlace p live res (IsNumberType w) w q
        × (MayStand D p live (gives e).pair.left.value q × MayStand D p live (gives e).pair.right.value q)
    result_takes e can same q o = (
      result_place q o,
      (
        object_takes p built tame fit alone x.ty w is_scalar q o D live (gives e).pair.left.value can.along,
        object_takes p built tame fit alone x.ty w is_scalar q o D live (gives e).pair.right.value
            (subst (λ (y : SideValue N). (ty : ℕ) → target_of p.types x.ty ≡ Some ty
            → ValueHas (PointsTo D p live ty) y.value) same can.along),
      ),
    )

    return_next : (e : Expr) → has_type p.types p.blocks seen e x.ty ≡ true → is_tame_expr p.types e ≡ true
        → IfReached Good (assigned D (sizes D p) pair_mode.Both w (to_block D pair_mode.Both b) (gives e).pair k).next
    return_next e typed tamed =
        let s = typed_where p.types p.blocks seen e x.ty typed in
        let v = twins.expressions seen live res among e s.0 s.2 tamed h k g in
        let can = can_go e x.ty w s.0 kind s.1 s.2 v in
        let l : CanStay D p k w (gives e).pair.left = record {
          of_cells = record { sort = can.sort; rising = can.rising; inside = can.inside };
          form = can.form;
        } in
        let r = subst (CanStay D p k w) v.twin.alike l in
        let to = to_block D pair_mode.Both b in
        let equal_v = same_of D (gives e) v.twin in
        let qs = (places_of D (sizes D p) (size_of k.model w) (size_of k.model w) to).left in
        assigned_places D law p places ord h k live res w to (gives e).pair g refl refl equal_v l r
        (each_spot_as (HasObject p alone x.ty)
        (TakesPair D law p places ord h k live res w to (gives e).pair g refl refl equal_v l r)
        (result_takes e can v.twin.alike) qs
        (spots_there alone (block b) x.ty w to is_scalar (own_lies, tt)))

  return_by : is_well_formed p ≡ true → (r : Option (ℕ × Scalar))
      → list_all (holds_scalar p.types p.blocks) (option_to_list r) ≡ true
      → AreAmong (first_of (option_to_list r)) res → (e : Option Expr)
      → result_fits p.types p.blocks seen (result_type p.blocks r) e ≡ true → is_tame_value p.types e ≡ true
      → IfReached Good (returned D p pair_mode.Both r e k).next
  return_by formed r holds in_res None typed own = g
  return_by formed None holds in_res (Some e) typed own = tt
  return_by formed (Some r) holds in_res (Some e) typed own =
      by_block (slice_get p.blocks r.0) refl (and_parts (holds_scalar p.types p.blocks r) true holds).0 typed
    where
      by_block : (o : Option Block) → slice_get p.blocks r.0 ≡ o
          → has_scalar (option_and_then (slice_get p.types.types) (block_type o)) r.1 ≡ true
          → result_fits p.types p.blocks seen (block_type o) (Some e) ≡ true
          → IfReached Good
          (assigned D (sizes D p) pair_mode.Both r.1 (to_block D pair_mode.Both r.0) (gives e).pair k).next
      by_block None there kind typed = never kind
      by_block (Some x) there kind typed =
          return_next r.0 r.1 (in_res r.0 (or_left (nat_eq r.0 r.0) false (eq-eqb r.0 r.0 refl))) x there kind
          (main_number p r.0 x there formed r.1 kind) e typed own

  -- ---- all of them

  input_by : (t : IntType) (d : Option Dest) → takes_input p.types p.blocks seen d ≡ true
      → is_tame_dest p.types d ≡ true → IfReached Good (taken_in D p pair_mode.Both t d k).next
  input_by t None typed own = g
  input_by t (Some d) typed own =
      let u = type_where p.types p.blocks seen (λ o. has_scalar o d.what && not (has_scalar o Pointer))
      (place_has p.types p.blocks seen d.place) typed in
      input_next t d u.0 u.1 u.2 (and_parts (not d.cast) (is_tame_place p.types d.place) own).1

  store_next : is_well_formed p ≡ true → (here : ℕ) (r : Option (ℕ × Scalar))
      → list_all (holds_scalar p.types p.blocks) (option_to_list r) ≡ true
      → AreAmong (first_of (option_to_list r)) res → (w : Simple) → is_store w ≡ true
      → simple_fits p here (result_type p.blocks r) w seen ≡ true → is_tame_simple p.types w ≡ true
      → IfReached Good (simple_step D p pair_mode.Both r w k).next
  store_next formed here r holds in_res (assign w a e) store typed own =
      let u = type_where p.types p.blocks seen (λ o. has_scalar o w)
      (λ ty. place_has p.types p.blocks seen a ty && has_type p.types p.blocks seen e ty) typed in
      assign_next w a e u.0 u.1 u.2 own
  store_next formed here r holds in_res (input t d) store typed own = input_by t d typed own
  store_next formed here r holds in_res (returns e) store typed own = return_by formed r holds in_res e typed own
  store_next formed here r holds in_res nothing store typed own = never store
  store_next formed here r holds in_res (eval e) store typed own = never store
  store_next formed here r holds in_res (clear a ty) store typed own = never store
  store_next formed here r holds in_res (copy_aggregate a b ty) store typed own = never store
  store_next formed here r holds in_res (copy_bytes a b n) store typed own = never store
  store_next formed here r holds in_res (fill a e n) store typed own = never store
  store_next formed here r holds in_res (output t e) store typed own = never store
  store_next formed here r holds in_res (read_bytes e n) store typed own = never store
  store_next formed here r holds in_res (write_bytes e n) store typed own = never store

no_output : (w : Simple) → is_store w ≡ true → is_output w ≡ false
no_output (assign w a e) store = refl
no_output (input t d) store = refl
no_output (returns e) store = refl
no_output nothing store = never store
no_output (eval e) store = never store
no_output (clear a ty) store = never store
no_output (copy_aggregate a b ty) store = never store
no_output (copy_bytes a b n) store = never store
no_output (fill a e n) store = never store
no_output (output t e) store = never store
no_output (read_bytes e n) store = never store
no_output (write_bytes e n) store = never store

pub stores_keep_good : {N : Type 0} (D : Ops N) → Lawful D → KeepsOffsets D → ProductsKeepStrides D → (p : Program)
    → is_well_formed p ≡ true → IsBuilt p.types → are_tame_types p.types ≡ true → (ord : Side → Order)
    → StoresKeepGood D p ord
stores_keep_good {N = N} D law keeps products p formed built tame ord here f at w store seen typed own h s live res among in_res g =
    let four = and_parts _ (is_main (slice_get p.functions p.main)) formed in
    let three = and_parts _ _ four.0 in
    let two = and_parts _ _ three.0 in
    let fit = (and_parts (blocks_fit p.types p.blocks) _ two.0).0 in
    let places = place_laws_of D law keeps products p built tame fit in
    let states = state_laws_of D law p places ord fit in
    let access = accesses_of D p places in
    let twins = twin_laws_of D p ord built tame fit keeps places access states in
    record {
      faults =
          faults_of_simple false p.types w own (no_output w store) _
          ((plain_honest D law p ord formed built).simple Both here f at w seen typed s);
      next =
          subst (λ t. IfReached (IsGood D p ord h live res)
          (when_known t (simple_step D p pair_mode.Both f.result w s)).next) (sym (told_pass D law p ord s g.state))
          (store_next D law p built tame fit places access ord twins seen live res among h s g formed here f.result
          (fits_at p formed here f at).1 in_res w store typed own);
    }
