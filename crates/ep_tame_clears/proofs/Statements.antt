-- The statement that clears an object.
use Rattle.std.proofs.Common.{◌≡◌, ℕ, zero, suc, ◌<◌, Bool, true, false, List, Option, Some, None, refl, sym}
use Rattle.std.proofs.Common.{ap, subst, arith, slice_get}
use Rattle.std.specs.Prelude.{is_some, unwrap_or}
use Rattle.std.proofs.lemmas.Bool.{and_parts}
use Rattle.ep_int.specs.declared.types.Order.{Order}
use Rattle.ep_int.specs.declared.types.Scalar.{Scalar}
use Rattle.ep_layout.specs.Table.{IsBuilt, size, leaves}
use Rattle.ep_domain.specs.Domain.{Ops, Lawful}
use Rattle.ep_cells.specs.States.{Known}
use Rattle.ep_core.specs.Program.{Place, clear, Program}
use Rattle.ep_core.specs.Runs.{Side}
use Rattle.ep_core.specs.WellFormed.{place_has, blocks_fit, is_well_formed, is_main}
use Rattle.ep_core.proofs.Sorts.{never}
use Rattle.ep_equalities.specs.Same.{is_same}
use Rattle.ep_equalities.specs.declared.pair.Mode.TheVariants as pair_mode
use Rattle.ep_equalities.specs.declared.pair.PairValue.{PairValue}
use Rattle.ep_equalities.specs.declared.pair.SideValue.{SideValue}
use Rattle.ep_evaluation.specs.Accesses.{spots}
use Rattle.ep_evaluation.specs.Given.{Given}
use Rattle.ep_evaluation.specs.Evaluation.{place, pointer, targets_of}
use Rattle.ep_evaluation.specs.Laws.{sizes_of}
use Rattle.ep_pass.specs.States.{Both}
use Rattle.ep_transfers.specs.Places.{places_of, has_places}
use Rattle.ep_transfers.specs.Transfers.{sizes, cleared, cleared_bytes, if_goes_on, simple_step}
use Rattle.ep_transfers.specs.Cells.{when_known}
use Rattle.ep_alarm_laws.specs.Laws.{ProductsKeepStrides}
use Rattle.ep_alarm_laws.proofs.Safe.{plain_honest}
use Rattle.ep_kinds.specs.Tame.{are_tame_types, is_tame_place}
use Rattle.ep_tame_laws.specs.Tamely.{IfReached, AreAmong}
use Rattle.ep_tame_numbers.specs.Offsets.{KeepsOffsets}
use Rattle.ep_tame_places.specs.Places.{LiesAt}
use Rattle.ep_tame_places.specs.Laws.{PlaceLaws}
use Rattle.ep_tame_places.proofs.Steps.{place_laws_of}
use Rattle.ep_tame_accesses.specs.Laws.{HasObject, EachSpot}
use Rattle.ep_tame_accesses.proofs.Accesses.{accesses_of, spots_have}
use Rattle.ep_tame_states.specs.States.{ValueHas, IsGood}
use Rattle.ep_tame_states.proofs.Gathered.{state_laws_of}
use Rattle.ep_tame_twins.specs.Laws.{TwinLaws}
use Rattle.ep_tame_twins.proofs.Alike.{same_of}
use Rattle.ep_tame_twins.proofs.Expressions.{twin_laws_of}
use Rattle.ep_tame_twins.proofs.Values.{targets_have}
use Rattle.ep_tame_ops.proofs.GuardsPass.{told_pass}
use Rattle.ep_tame_stores.proofs.StatementKinds.{faults_of_simple}
use Rattle.ep_tame_clears.specs.Laws.{ClearsKeepGood}
use Rattle.ep_tame_clears.proofs.Clears.{cleared_good}
use Rattle.ep_tame_clears.proofs.Empty.{IsUncut, none_good}
use Rattle.ep_tame_clears.proofs.Edges.{edge_uncut}

-- the size of what has one
pub sized : (o : Option ℕ) → is_some o ≡ true → (n : ℕ) × (o ≡ Some n)
sized None h = never h
sized (Some n) h = (n, refl)

module _ {N : Type 0} (D : Ops N) (law : Lawful D) (p : Program) (built : IsBuilt p.types)
    (tame : are_tame_types p.types ≡ true) (fit : blocks_fit p.types p.blocks ≡ true) (places : PlaceLaws D p)
    (others : List ℕ) (a : Place) (ty : ℕ) (x : PairValue N) (same : x.left ≡ x.right)
    (l : ValueHas (LiesAt D p others a ty) x.left.value) where
  -- at each place of an address stands an object; one without bytes cuts no leaf
  pub objects_left : (n : ℕ) → size p.types ty ≡ Some n → 0 < n
      → EachSpot (HasObject p others ty) (places_of D (sizes D p) n 1 x).left
  objects_left n sz some =
      accesses_of D p places others a ty n 1 (targets_of D (sizes_of p.blocks) (pointer D x.left)) sz some
      (targets_have D (sizes_of p.blocks) (LiesAt D p others a ty) x.left.value l)

  pub objects_right : (n : ℕ) → size p.types ty ≡ Some n → 0 < n
      → EachSpot (HasObject p others ty) (places_of D (sizes D p) n 1 x).right
  objects_right n sz some =
      subst (λ (s : SideValue N). EachSpot (HasObject p others ty)
      (spots D (sizes D p) n 1 (targets_of D (sizes D p) (pointer D s)))) same (objects_left n sz some)

  pub edges_left : size p.types ty ≡ Some 0 → EachSpot (IsUncut p) (places_of D (sizes D p) 0 1 x).left
  edges_left sz =
      spots_have D p others a ty 0 1 (IsUncut p) (edge_uncut D law p built tame fit others a ty sz)
      (targets_of D (sizes_of p.blocks) (pointer D x.left))
      (targets_have D (sizes_of p.blocks) (LiesAt D p others a ty) x.left.value l)

  pub edges_right : size p.types ty ≡ Some 0 → EachSpot (IsUncut p) (places_of D (sizes D p) 0 1 x).right
  edges_right sz =
      subst (λ (s : SideValue N). EachSpot (IsUncut p)
      (spots D (sizes D p) 0 1 (targets_of D (sizes D p) (pointer D s)))) same (edges_left sz)

module _ {N : Type 0} (D : Ops N) (law : Lawful D) (p : Program) (built : IsBuilt p.types)
    (tame : are_tame_types p.types ≡ true) (fit : blocks_fit p.types p.blocks ≡ true) (places : PlaceLaws D p)
    (ord : Side → Order) (twins : TwinLaws D p ord) (seen live res : List ℕ) (among : AreAmong seen live)
    (h k : Known N) (g : IsGood D p ord h live res k) where
  abbrev Good : Known N → Type 0
  Good = IsGood D p ord h live res

  abbrev reach : Place → Given N
  reach a = place D (sizes_of p.blocks) a pair_mode.Both k

  goes_on : (b : Bool) (j : Known N) → Good j → IfReached Good (if_goes_on b j)
  goes_on true j i = i
  goes_on false j i = tt

  module _ (a : Place) (ty : ℕ) (typed : place_has p.types p.blocks seen a ty ≡ true)
      (own : is_tame_place p.types a ≡ true) where
    abbrev to : PairValue N
    to = (reach a).pair

    alike : to.left ≡ to.right
    alike = (twins.places seen live res among a ty typed own h k g).twin.alike

    lies : ValueHas (LiesAt D p live a ty) to.left.value
    lies = (twins.places seen live res among a ty typed own h k g).lies ty typed

    bytes_good : (n : ℕ) → size p.types ty ≡ Some n
        → IfReached Good (cleared D (sizes D p) pair_mode.Both n (leaves p.types ty) to k).next
    bytes_good zero sz =
        goes_on (has_places pair_mode.Both (places_of D (sizes D p) 0 1 to))
        (cleared_bytes D (sizes D p) pair_mode.Both 0 (leaves p.types ty) (is_same D to)
        (places_of D (sizes D p) 0 1 to) 0 k)
        (none_good D law p places ord h live res (places_of D (sizes D p) 0 1 to)
        (edges_left D law p built tame fit places live a ty to alike lies sz)
        (edges_right D law p built tame fit places live a ty to alike lies sz) k g)
    bytes_good (suc n) sz =
        let some : 0 < suc n = omega arith in
        goes_on (has_places pair_mode.Both (places_of D (sizes D p) (suc n) 1 to))
        (cleared_bytes D (sizes D p) pair_mode.Both (suc n) (leaves p.types ty) (is_same D to)
        (places_of D (sizes D p) (suc n) 1 to) (suc n) k)
        (cleared_good D law p built tame fit places ord h live res ty (suc n) sz (places_of D (sizes D p) (suc n) 1 to)
        (objects_left D law p built tame fit places live a ty to alike lies (suc n) sz some)
        (objects_right D law p built tame fit places live a ty to alike lies (suc n) sz some) (is_same D to)
        (same_of D (reach a) (twins.places seen live res among a ty typed own h k g).twin) (suc n) refl some k g)

    pub clear_next : is_some (size p.types ty) ≡ true → (r : Option (ℕ × Scalar))
        → IfReached Good (simple_step D p pair_mode.Both r (clear a ty) k).next
    clear_next there r =
        let n = sized (size p.types ty) there in
        subst (λ m. IfReached Good (cleared D (sizes D p) pair_mode.Both m (leaves p.types ty) to k).next)
        (sym (ap (λ o. unwrap_or o 0) n.1)) (bytes_good n.0 n.1)

pub clears_keep_good : {N : Type 0} (D : Ops N) → Lawful D → KeepsOffsets D → ProductsKeepStrides D → (p : Program)
    → is_well_formed p ≡ true → IsBuilt p.types → are_tame_types p.types ≡ true → (ord : Side → Order)
    → ClearsKeepGood D p ord
clears_keep_good D law keeps products p formed built tame ord here f at a ty seen typed own h s live res among g =
    let four = and_parts _ (is_main (slice_get p.functions p.main)) formed in
    let three = and_parts _ _ four.0 in
    let two = and_parts _ _ three.0 in
    let fit = (and_parts (blocks_fit p.types p.blocks) _ two.0).0 in
    let places = place_laws_of D law keeps products p built tame fit in
    let states = state_laws_of D law p places ord fit in
    let twins = twin_laws_of D p ord built tame fit keeps places (accesses_of D p places) states in
    let q = and_parts (place_has p.types p.blocks seen a ty) (is_some (size p.types ty)) typed in
    record {
      faults =
          faults_of_simple false p.types (clear a ty) own refl _
          ((plain_honest D law p ord formed built).simple Both here f at (clear a ty) seen typed s);
      next =
          subst (λ t. IfReached (IsGood D p ord h live res)
          (when_known t (simple_step D p pair_mode.Both f.result (clear a ty) s)).next)
          (sym (told_pass D law p ord s g.state))
          (clear_next D law p built tame fit places ord twins seen live res among h s g a ty q.0 own q.1 f.result);
    }
