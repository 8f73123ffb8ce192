-- The places of a run of bytes in a state that stands for one pair of memories alone: without a fault, the one place of
-- each running machine.
use Rattle.std.proofs.Common.{◌≡◌, ℕ, ◌+◌, ◌<◌, ◌≤◌, true, false, nat_lt, cond, [], ◌∷◌, slice_get, Option, Some}
use Rattle.ep_single_given.proofs.Loads.{block_there}
use Rattle.std.proofs.Common.{None, refl, ap, ◌∙◌, arith}
use Rattle.std.specs.Prelude.{Bool}
use Rattle.std.specs.Option.{option_map}
use Rattle.std.proofs.lemmas.Bool.{ltb-false}
use Rattle.std.proofs.lemmas.Option.{slice_get-map}
use Rattle.ep_alarms.specs.declared.types.AlarmKind.TheVariants.{U5, U6}
use Rattle.ep_int.specs.declared.types.Order.{Order}
use Rattle.ep_int.specs.declared.types.Scalar.TheVariants.{Pointer}
use Rattle.ep_int.specs.Memory.{pointer as into_block, bounds, has, range_fault}
use Rattle.ep_domain.specs.Domain.{Ops, Lawful}
use Rattle.ep_cells.specs.States.{Known}
use Rattle.ep_cells.specs.Meaning.{Memories}
use Rattle.ep_core.specs.Program.{Block, Program}
use Rattle.ep_core.specs.Exec.{block_size, size_at}
use Rattle.ep_core.specs.Runs.{Side, left, right}
use Rattle.ep_core.specs.WellFormed.{blocks_fit}
use Rattle.ep_equalities.specs.declared.pair.Mode.{Mode}
use Rattle.ep_evaluation.specs.Given.{Given, runs, on, shown_if, faults_on}
use Rattle.ep_evaluation.specs.Accesses.{spots, bounds_of}
use Rattle.ep_evaluation.specs.Evaluation.{pointer, targets_of, is_null}
use Rattle.ep_evaluation.specs.Laws.{Machine, memory_of, sizes_of, Holds}
use Rattle.ep_evaluation.proofs.Basics.{faults_on-none}
use Rattle.ep_evaluation.proofs.General.{reliable_none}
use Rattle.ep_cell_ranges.specs.Spots.{Spot}
use Rattle.ep_transfers.specs.Places.{Places, at_side, is_some_place, is_one, has_places, on_all, places_of}
use Rattle.ep_transfers.specs.Places.{range_faults}
use Rattle.ep_transfers.proofs.Assigned.{on_all_by}
use Rattle.ep_transfers.proofs.Rooms.{small}
use Rattle.ep_single_places.specs.Laws.{IsOneInto}
use Rattle.ep_single_given.specs.Laws.{IsOneGiven}
use Rattle.ep_single_given.proofs.Given.{no_faults}
use Rattle.ep_single_runs.specs.Laws.{IsOneRun}
use Rattle.ep_single_runs.proofs.Places.{runs_are_one}

-- a run that isn't outside of its block is inside
pub in_range : (size q n : ℕ) → range_fault size q n ≡ None → q + n ≤ size
in_range size q n e = ltb-false size (q + n) (by (nat_lt size (q + n)) e)
  where
    by : (t : Bool) → cond t (Some bounds) None ≡ None → t ≡ false
    by true e = absurd (let d : Some bounds ≡ None = e in cc)
    by false e = refl

within : (x y : ℕ) → x ≤ y → y ≤ 65536 → x ≤ 65536
within x y h i = omega (arith, h, i)

module _ {N : Type 0} (D : Ops N) (law : Lawful D) (p : Program) (ord : Side → Order) (k : Known N) (m : Memories)
    (mode : Mode) (f : Side → Machine) (to : Given N) (h : Holds D p ord Pointer (λ s. f s (memory_of s m)) k m mode to)
    (one : IsOneGiven D mode to) (n : ℕ) (some : 0 < n) where
  -- a machine finds n bytes there
  pub record IsRunAt (s : Side) (q : Spot) : Type 0 where
    pub address : f s (memory_of s m) ≡ has (into_block q.0 q.1)
    pub inside : q.1 + n ≤ size_at (ord s) p q.0

  abbrev pub run_places : Places
  run_places = places_of D (sizes_of p.blocks) n 1 to.pair

  pub into : (s : Side) (q : Spot) → runs mode s ≡ true → IsRunAt s q → IsOneInto D (on to.pair s).value q.0 q.1
  into s q r a = record {
    one = one.each s r;
    allowed = (h.held (reliable_none mode to.faults one.quiet) s r (into_block q.0 q.1) a.address).value;
  }

  of_block : (s : Side) (q : Spot) → IsRunAt s q → slice_get (sizes_of p.blocks) q.0 ≡ Some (size_at (ord s) p q.0)
  of_block s q a =
      slice_get-map (λ (y : Block). y.size) p.blocks q.0
      ∙ block_there (ord s) p (slice_get p.blocks q.0) q.1 n a.inside some

  -- it ends in the first 65,536 bytes
  pub ends : blocks_fit p.types p.blocks ≡ true → (s : Side) (q : Spot) → IsRunAt s q → q.1 + n ≤ 65536
  ends fit s q a =
      within (q.1 + n) (size_at (ord s) p q.0) a.inside (small p fit q.0 (size_at (ord s) p q.0) (of_block s q a))

  run_of : (s : Side) (q : Spot) → runs mode s ≡ true → IsRunAt s q
      → IsOneRun D (sizes_of p.blocks) n (on to.pair s) q.0 q.1
  run_of s q r a =
      runs_are_one D law (sizes_of p.blocks) n (on to.pair s) q.0 q.1 (size_at (ord s) p q.0) (into s q r a) some
      (of_block s q a) a.inside

  side_places : (s : Side)
      → at_side run_places s ≡ spots D (sizes_of p.blocks) n 1
      (targets_of D (sizes_of p.blocks) (pointer D (on to.pair s)))
  side_places left = refl
  side_places right = refl

  pub place_is : (s : Side) (q : Spot) → runs mode s ≡ true → IsRunAt s q → at_side run_places s ≡ q ∷ []
  place_is s q r a = side_places s ∙ (run_of s q r a).place

  module _ (at : Side → Spot) (all : (s : Side) → runs mode s ≡ true → IsRunAt s (at s)) where
    pub quiet : range_faults D (sizes_of p.blocks) mode n to.pair ≡ []
    quiet =
        no_faults (faults_on mode U6 (λ s. shown_if (is_null D (sizes_of p.blocks) (pointer D (on to.pair s)))))
        (faults_on mode U5 (λ s. bounds_of D (sizes_of p.blocks) n
        (targets_of D (sizes_of p.blocks) (pointer D (on to.pair s)))))
        (faults_on-none mode U6 (λ s. shown_if (is_null D (sizes_of p.blocks) (pointer D (on to.pair s))))
        (λ s r. ap shown_if (run_of s (at s) r (all s r)).not_null))
        (faults_on-none mode U5 (λ s. bounds_of D (sizes_of p.blocks) n
        (targets_of D (sizes_of p.blocks) (pointer D (on to.pair s))))
        (λ s r. (run_of s (at s) r (all s r)).inside))

    pub there : has_places mode run_places ≡ true
    there =
        on_all_by mode (λ s. is_some_place (at_side run_places s))
        (λ s r. ap is_some_place (place_is s (at s) r (all s r)))

    pub all_one : on_all mode (λ s. is_one (at_side run_places s)) ≡ true
    all_one = on_all_by mode (λ s. is_one (at_side run_places s)) (λ s r. ap is_one (place_is s (at s) r (all s r)))
