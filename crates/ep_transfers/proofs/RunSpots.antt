-- The places of a run that the machines have where an access lists no fault.
use Rattle.std.proofs.Common.{◌≡◌, ℕ, Bool, true, [], refl, subst}
use Rattle.ep_evaluation.proofs.Tests.{runs_alone}
use Rattle.ep_int.specs.declared.types.Order.{Order}
use Rattle.ep_int.specs.declared.types.Scalar.TheVariants.{Pointer}
use Rattle.ep_domain.specs.Domain.{Ops}
use Rattle.ep_cells.specs.States.{Known}
use Rattle.ep_cells.specs.Meaning.{Memories}
use Rattle.ep_core.specs.Program.{Program}
use Rattle.ep_core.specs.Runs.{Side, left, right}
use Rattle.ep_core.specs.WellFormed.{blocks_fit}
use Rattle.ep_equalities.specs.declared.pair.Mode.TheVariants.{Both}
use Rattle.ep_equalities.specs.Same.{is_same}
use Rattle.ep_evaluation.specs.Given.{Given, alone}
use Rattle.ep_cell_ranges.specs.Spots.{Spot}
use Rattle.ep_evaluation.specs.Laws.{Machine, sizes_of}
use Rattle.ep_evaluation.proofs.Spots.{Among}
use Rattle.ep_transfers.specs.Places.{Places, at_side, range_faults}
use Rattle.ep_transfers.specs.Laws.{CellLaws}
use Rattle.ep_transfers.proofs.Rooms.{EndBy}
use Rattle.ep_transfers.proofs.Evaluated.{Evaluated}
use Rattle.ep_transfers.proofs.RunPlaces.{run_places, At, at, one_place}
use Rattle.ep_transfers.proofs.RunSteps.{RunSpotted, spot_on}
use Rattle.ep_transfers.proofs.RunWaits.{not_both, only_runs}

module _ {N : Type 0} (D : Ops N) (laws : CellLaws D) (p : Program) (ord : Side → Order)
    (fit : blocks_fit p.types p.blocks ≡ true) (k : Known N) (m : Memories) (n : ℕ) (f : Side → Machine)
    (to : Given N) where
  -- on both sides
  module _ (e : Evaluated D p ord Both k m Pointer f to) (none : to.faults ≡ [])
      (quiet : range_faults D (sizes_of p.blocks) Both n to.pair ≡ []) where
    abbrev left_at : At D laws p ord fit k m n Both f to e none quiet left
    left_at = at D laws p ord fit k m n Both f to e none quiet left refl

    abbrev right_at : At D laws p ord fit k m n Both f to e none quiet right
    right_at = at D laws p ord fit k m n Both f to e none quiet right refl

    abbrev both_at : Side → Spot
    both_at = spot_on (left_at.block, left_at.offset) (right_at.block, right_at.offset)

    pub both_spotted : RunSpotted Both (is_same D to.pair) n
        (run_places D laws p ord fit k m n Both f to e none quiet)
        (spot_on (left_at.block, left_at.offset) (right_at.block, right_at.offset))
    both_spotted = record {
      among = λ s r. among s;
      ends = λ s r. ends s;
      one = λ z t. one_place D laws.domain p ord k m f to e none t left_at.block left_at.offset right_at.block
          right_at.offset left_at.address right_at.address;
    }
      where
        among : (s : Side) → Among (both_at s)
            (at_side (run_places D laws p ord fit k m n Both f to e none quiet) s)
        among left = left_at.among
        among right = right_at.among

        ends : (s : Side) → EndBy 65536 n (at_side (run_places D laws p ord fit k m n Both f to e none quiet) s)
        ends left = left_at.ends
        ends right = right_at.ends

  -- on one
  module _ (i : Side) (e : Evaluated D p ord (alone i) k m Pointer f to) (none : to.faults ≡ [])
      (quiet : range_faults D (sizes_of p.blocks) (alone i) n to.pair ≡ []) where
    abbrev one_at : At D laws p ord fit k m n (alone i) f to e none quiet i
    one_at = at D laws p ord fit k m n (alone i) f to e none quiet i (runs_alone i)

    abbrev one_places : Places
    one_places = run_places D laws p ord fit k m n (alone i) f to e none quiet

    pub alone_spotted : (same : Bool) → RunSpotted (alone i) same n one_places (λ s. (one_at.block, one_at.offset))
    alone_spotted same = record {
      among = λ s r. subst (λ z. Among (one_at.block, one_at.offset) (at_side one_places z)) (only_runs i s r)
          one_at.among;
      ends = λ s r. subst (λ z. EndBy 65536 n (at_side one_places z)) (only_runs i s r) one_at.ends;
      one = λ z t. absurd (not_both i z);
    }
