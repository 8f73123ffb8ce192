-- Memories in which parts that no pointer has lie in no place.
use Rattle.std.proofs.Common.{ℕ}
use Rattle.ep_int.specs.declared.types.Model.{Model}
use Rattle.ep_cells.specs.Meaning.{Memories}
use Rattle.ep_core.specs.Runs.{Side, left, right}
use Rattle.ep_equalities.specs.declared.pair.Mode.{Mode}
use Rattle.ep_equalities.specs.declared.pair.Mode.TheVariants.{Both, Left, Right}
use Rattle.ep_cell_ranges.specs.Spots.{Spot}
use Rattle.ep_transfers.proofs.Alike.{AreAlike, alike_itself}
use Rattle.ep_transfers.proofs.Patches.{eased_memory, eased_alike}

-- the running sides, of n bytes at these places
module _ (d : Model) (at : Side → Spot) (n : ℕ) where
  abbrev pub eased_on : Mode → Memories → Memories
  eased_on Both m = record {
    left = eased_memory d (at left).0 (at left).1 n m.left;
    right = eased_memory d (at right).0 (at right).1 n m.right;
  }
  eased_on Left m = record { left = eased_memory d (at left).0 (at left).1 n m.left; right = m.right }
  eased_on Right m = record { left = m.left; right = eased_memory d (at right).0 (at right).1 n m.right }

  pub eased_first : (mode : Mode) (m : Memories) → AreAlike d m (eased_on mode m)
  eased_first Both m = record {
    left = eased_alike d (at left).0 (at left).1 n m.left;
    right = eased_alike d (at right).0 (at right).1 n m.right;
  }
  eased_first Left m = record {
    left = eased_alike d (at left).0 (at left).1 n m.left;
    right = alike_itself d m.right;
  }
  eased_first Right m = record {
    left = alike_itself d m.left;
    right = eased_alike d (at right).0 (at right).1 n m.right;
  }
