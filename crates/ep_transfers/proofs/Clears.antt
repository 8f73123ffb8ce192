-- Clears: 0 or null goes to each leaf of a place, and every other byte of it becomes undefined.
use Rattle.std.proofs.Common.{◌≡◌, ℕ, ◌+◌, true, ◌&&◌, List, [], ◌∷◌, Option, None, is_some, refl, sym, ap, subst}
use Rattle.ep_evaluation.proofs.Tests.{runs_alone}
use Rattle.ep_transfers.proofs.Kills.{leaves_rise}
use Rattle.std.proofs.lemmas.Bool.{and_parts}
use Rattle.ep_int.specs.declared.types.Model.{Model}
use Rattle.ep_int.specs.declared.types.Order.{Order}
use Rattle.ep_int.specs.declared.types.Scalar.{Scalar}
use Rattle.ep_int.specs.Memory.{Memory, pointer, has, range_fault}
use Rattle.ep_layout.specs.declared.types.Leaf.{Leaf}
use Rattle.ep_layout.specs.Table as table
use Rattle.ep_layout.proofs.Ordered.{leaves_ordered}
use Rattle.ep_domain.specs.Domain.{Ops}
use Rattle.ep_cells.specs.Kill.{AreLeavesIn}
use Rattle.ep_cells.specs.States.{Known}
use Rattle.ep_cells.specs.Meaning.{In}
use Rattle.ep_core.specs.Program.{Place, clear, Program}
use Rattle.ep_core.specs.Exec.{State, on, leaves, uncounted, address, does, remembers, size_at}
use Rattle.ep_core.specs.Runs.{Side, left, right}
use Rattle.ep_core.specs.WellFormed.{place_has, blocks_fit}
use Rattle.ep_pass.specs.Laws.{ConcretisesTyped, ConcretisesTypedBeside, Meets, meet, MeetsAlone, meet_alone}
use Rattle.ep_equalities.specs.declared.pair.Mode.TheVariants.{Both}
use Rattle.ep_equalities.specs.Same.{is_same}
use Rattle.ep_evaluation.specs.Given.{alone}
use Rattle.ep_evaluation.specs.Evaluation.{place as place_means}
use Rattle.ep_cell_ranges.specs.Spots.{Spot}
use Rattle.ep_cell_ranges.specs.Laws.{BlurEachLaws}
use Rattle.ep_evaluation.specs.Laws.{Machine, sizes_of, ExpressionsHold, PlacesHold}
use Rattle.ep_evaluation.proofs.General.{none_left}
use Rattle.ep_transfers.specs.Transfers.{if_goes_on, cleared_bytes, simple_step}
use Rattle.ep_transfers.specs.Laws.{memories, StandsFor, CellLaws}
use Rattle.ep_transfers.specs.Runs.{bytes_of}
use Rattle.ep_transfers.proofs.Evaluated.{pair_of, kept_both, kept_beside, alike_beside, stands_beside}
use Rattle.ep_transfers.proofs.Stored.{place_is}
use Rattle.ep_transfers.proofs.RunPlaces.{no_range_fault, run_places, at, has_all}
use Rattle.ep_transfers.proofs.RunSteps.{spot_on}
use Rattle.ep_transfers.proofs.RunSpots.{both_spotted, alone_spotted}
use Rattle.ep_transfers.proofs.Fills.{own}
use Rattle.ep_transfers.proofs.ClearGoes.{clear_of, cleared_on}
use Rattle.ep_transfers.proofs.ClearNone.{clear_stands}

does_clear : (o : Order) (p : Program) (r : Option (ℕ × Scalar)) (a : Place) (ty l c : ℕ) (s : State) (b q : ℕ)
    → address o p a s.memory ≡ has (pointer b q) → range_fault (size_at o p b) q (bytes_of p ty) ≡ None
    → does o p uncounted r (clear a ty) l c s
    ≡ leaves on c (remembers (clear_of p.types.model (table.leaves p.types ty) (b, q) (bytes_of p ty) s.memory) s)
does_clear o p r a ty l c s b q f g = rw (f, g) refl

type_leaves : (p : Program) (ty : ℕ) → AreLeavesIn p.types.model 0 (bytes_of p ty) (table.leaves p.types ty)
type_leaves p ty = leaves_rise p.types.model 0 (bytes_of p ty) (table.leaves p.types ty) (leaves_ordered p.types ty)

clear_beside : (os : Order × Order) (d : Model) (ls : List Leaf) (q : Spot) (n : ℕ) (i : Side) (m o : Memory)
    → cleared_on os d ls (λ s. q) n (alone i) (pair_of i m o) ≡ pair_of i (clear_of d ls q n m) o
clear_beside os d ls q n left m o = refl
clear_beside os d ls q n right m o = refl

module _ {N : Type 0} (D : Ops N) (laws : CellLaws D) (blurs : BlurEachLaws D) (p : Program) (ord : Side → Order)
    (fit : blocks_fit p.types p.blocks ≡ true) (exprs : ExpressionsHold D p ord) (plcs : PlacesHold D p ord)
    (r : Option (ℕ × Scalar)) (a : Place) (ty : ℕ) where
  abbrev n : ℕ
  n = bytes_of p ty

  abbrev ls : List Leaf
  ls = table.leaves p.types ty

  pub clear_sound : (seen : List ℕ)
      → (place_has p.types p.blocks seen a ty && is_some (table.size p.types ty)) ≡ true
      → (k : Known N) (x y : State) → ConcretisesTyped p (StandsFor D p ord) k x y
      → (simple_step D p Both r (clear a ty) k).faults ≡ [] → (l c e : ℕ)
      → Meets p (StandsFor D p ord) on (simple_step D p Both r (clear a ty) k).next c e
      (does (ord left) p uncounted r (clear a ty) l c x) (does (ord right) p uncounted r (clear a ty) l e y)
  clear_sound seen h k x y kept q l c e =
      let m = memories x.memory y.memory in
      let i = kept_both D p ord k x y kept in
      let t = and_parts (place_has p.types p.blocks seen a ty) (is_some (table.size p.types ty)) h in
      let to = place_means D (sizes_of p.blocks) a Both k in
      let f : Side → Machine = λ s. address (ord s) p a in
      let ea = place_is D laws p ord fit exprs plcs seen a ty t.0 k m i Both in
      let z = none_left to.faults _ q in
      let quiet = z.1 in
      let places = run_places D laws p ord fit k m n Both f to ea z.0 quiet in
      let al = at D laws p ord fit k m n Both f to ea z.0 quiet left refl in
      let ar = at D laws p ord fit k m n Both f to ea z.0 quiet right refl in
      let spots = spot_on (al.block, al.offset) (ar.block, ar.offset) in
      let next = cleared_bytes D (sizes_of p.blocks) Both n ls (is_same D to.pair) places n k in
      let s = clear_stands D laws blurs p ord (sizes_of p.blocks) ls spots n (type_leaves p ty) Both (is_same D to.pair)
      places (both_spotted D laws p ord fit k m n f to ea z.0 quiet) k m (i.state, i.holds) in
      subst (λ (o : Option (Known N)). Meets p (StandsFor D p ord) on o c e
      (does (ord left) p uncounted r (clear a ty) l c x) (does (ord right) p uncounted r (clear a ty) l e y))
      (sym (ap (λ t. if_goes_on t next) (has_all D laws p ord fit k m n Both f to ea z.0 quiet)))
      (rw (
        does_clear (ord left) p r a ty l c x al.block al.offset al.address
            (no_range_fault (size_at (ord left) p al.block) al.offset n al.inside),
        does_clear (ord right) p r a ty l e y ar.block ar.offset ar.address
            (no_range_fault (size_at (ord right) p ar.block) ar.offset n ar.inside),
      )
      (meet (record {
        memories = record { state = s.0; holds = s.1 };
        inputs = kept.stands.inputs;
        outputs = kept.stands.outputs;
      })))

  pub clear_alone : (i : Side) (seen : List ℕ)
      → (place_has p.types p.blocks seen a ty && is_some (table.size p.types ty)) ≡ true
      → (k : Known N) (x y : State) → ConcretisesTypedBeside p (StandsFor D p ord) i k x y
      → (simple_step D p (alone i) r (clear a ty) k).faults ≡ [] → (l c : ℕ)
      → MeetsAlone p (StandsFor D p ord) i on (simple_step D p (alone i) r (clear a ty) k).next c y
      (does (ord i) p uncounted r (clear a ty) l c x)
  clear_alone i seen h k x y kept q l c =
      let m = pair_of i x.memory y.memory in
      let j = kept_beside D p ord i k x y kept in
      let t = and_parts (place_has p.types p.blocks seen a ty) (is_some (table.size p.types ty)) h in
      let to = place_means D (sizes_of p.blocks) a (alone i) k in
      let f : Side → Machine = λ s. address (ord s) p a in
      let ea = place_is D laws p ord fit exprs plcs seen a ty t.0 k m j (alone i) in
      let z = none_left to.faults _ q in
      let quiet = z.1 in
      let places = run_places D laws p ord fit k m n (alone i) f to ea z.0 quiet in
      let al = at D laws p ord fit k m n (alone i) f to ea z.0 quiet i (runs_alone i) in
      let spot : Spot = (al.block, al.offset) in
      let next = cleared_bytes D (sizes_of p.blocks) (alone i) n ls (is_same D to.pair) places n k in
      let new = clear_of p.types.model ls spot n x.memory in
      let s = clear_stands D laws blurs p ord (sizes_of p.blocks) ls (λ s. spot) n (type_leaves p ty) (alone i)
      (is_same D to.pair) places (alone_spotted D laws p ord fit k m n f to i ea z.0 quiet (is_same D to.pair))
      k m (j.state, j.holds) in
      let holds : In D next (pair_of i new y.memory) = subst (λ o. In D next o)
      (clear_beside (ord left, ord right) p.types.model ls spot n i x.memory y.memory) s.1 in
      subst (λ (o : Option (Known N)). MeetsAlone p (StandsFor D p ord) i on o c y
      (does (ord i) p uncounted r (clear a ty) l c x))
      (sym (ap (λ t. if_goes_on t next) (has_all D laws p ord fit k m n (alone i) f to ea z.0 quiet)))
      (rw (does_clear (ord i) p r a ty l c x al.block al.offset
      (own i f x.memory y.memory (has (pointer al.block al.offset)) al.address)
      (no_range_fault (size_at (ord i) p al.block) al.offset n al.inside))
      (meet_alone (stands_beside D p ord i next (remembers new x) y
      (record {
        inputs = (alike_beside D p ord i k x y kept).inputs;
        outputs = (alike_beside D p ord i k x y kept).outputs;
      }) s.0 holds)))
