-- A byte that is put out, in steps.
use Rattle.std.specs.Prelude.{◌≡◌, ℕ, Bool, List, ◌++◌}
use Rattle.ep_int.specs.declared.types.IntType.TheVariants.{U8}
use Rattle.ep_int.specs.declared.types.Scalar.TheVariants.{Int}
use Rattle.ep_bitslice.specs.declared.cell.Side.{Side as CellSide}
use Rattle.ep_domain.specs.Domain.{Ops}
use Rattle.ep_cells.specs.States.{Known}
use Rattle.ep_cell_ranges.specs.Spots.{Spot}
use Rattle.ep_equalities.specs.declared.pair.Fault.{Fault}
use Rattle.ep_equalities.specs.declared.pair.Mode.{Mode}
use Rattle.ep_evaluation.specs.Accesses.{reads_of, joined_reads, form_of_reads, is_unset, is_mixed, are_shared}
use Rattle.ep_eval_loads.specs.declared.loads.SideReads.{SideReads}
use Rattle.ep_transfers.specs.Places.{Places, has_values}
use Rattle.ep_transfers.specs.Transfers.{byte_pair, byte_faults, differs_if}

-- what a side reads of a byte at these places
pub record AreReads {N : Type 0} (D : Ops N) (k : Known N) (s : CellSide) (qs : List Spot) (r : SideReads N) : Type 0
  where
    pub side : r.side ≡ record {
      value = joined_reads D (reads_of D k s (Int U8) qs);
      form = form_of_reads (reads_of D k s (Int U8) qs);
    }
    pub unset : r.unset ≡ is_unset (reads_of D k s (Int U8) qs)
    pub mixed : r.mixed ≡ is_mixed (reads_of D k s (Int U8) qs)
    pub shared : r.shared ≡ are_shared k s (Int U8) qs

module _ {N : Type 0} (D : Ops N) (m : Mode) (same : Bool) (k : Known N) (p : Places) (byte : ℕ) where
  -- each running side has one
  abbrev pub goes_on : Bool
  goes_on = has_values m (byte_pair D m same k p byte)

  -- the faults of reading it and of putting it out
  abbrev pub next_faults : List Fault
  next_faults = byte_faults D m k p byte ++ differs_if D goes_on m (byte_pair D m same k p byte)
