-- What holds of each running machine, from what holds of one, or of both.
use Rattle.std.proofs.Common.{◌≡◌, true, false, []}
use Rattle.ep_int.specs.declared.types.Order.{Order}
use Rattle.ep_int.specs.declared.types.Scalar.TheVariants.{Pointer}
use Rattle.ep_int.specs.Memory.{Memory, Value as Datum, pointer, has}
use Rattle.ep_domain.specs.Domain.{Ops, Lawful}
use Rattle.ep_cells.specs.States.{Known}
use Rattle.ep_cells.specs.Meaning.{Memories}
use Rattle.ep_cell_ranges.specs.Spots.{Spot}
use Rattle.ep_core.specs.Program.{Program}
use Rattle.ep_core.specs.Runs.{Side, left, right}
use Rattle.ep_equalities.specs.declared.pair.Mode.{Mode}
use Rattle.ep_equalities.specs.declared.pair.Mode.TheVariants.{Both, Left, Right}
use Rattle.ep_equalities.specs.Same.{is_same}
use Rattle.ep_evaluation.specs.Given.{Given, alone, runs}
use Rattle.ep_evaluation.specs.Laws.{Machine, memory_of}
use Rattle.ep_transfers.proofs.Evaluated.{pair_of, Evaluated}
use Rattle.ep_transfers.proofs.RunPlaces.{one_place}

pub of_both : (P : Side → Type 0) → P left → P right → (s : Side) → runs Both s ≡ true → P s
of_both P a b left r = a
of_both P a b right r = b

-- what a machine finds in its own memory, beside the other's
pub beside : (i : Side) (f : Side → Machine) (m n : Memory) (u : Datum) → f i m ≡ has u → (s : Side)
    → runs (alone i) s ≡ true → f s (memory_of s (pair_of i m n)) ≡ has u
beside left f m n u h left r = h
beside left f m n u h right r = absurd (let d : false ≡ true = r in cc)
beside right f m n u h left r = absurd (let d : false ≡ true = r in cc)
beside right f m n u h right r = h

-- the same address on both sides
pub one_spot : {N : Type 0} (D : Ops N) (law : Lawful D) (p : Program) (ord : Side → Order) (k : Known N)
    (m : Memories) (mode : Mode) → mode ≡ Both → (f : Side → Machine) (to : Given N)
    → Evaluated D p ord mode k m Pointer f to → to.faults ≡ [] → is_same D to.pair ≡ true → (q r : Spot)
    → f left m.left ≡ has (pointer q.0 q.1) → f right m.right ≡ has (pointer r.0 r.1) → q ≡ r
one_spot D law p ord k m Both b f to e none t q r hl hr =
    one_place D law p ord k m f to e none t q.0 q.1 r.0 r.1 hl hr
one_spot D law p ord k m Left b f to e none t q r hl hr = absurd (cc)
one_spot D law p ord k m Right b f to e none t q r hl hr = absurd (cc)
