-- What is read by a Shared cell of the same place and size is the same on both sides.
use Rattle.std.proofs.Common.{◌≡◌, ℕ, true, false, Option, Some, None, refl}
use Rattle.ep_bitslice.proofs.Joining.{side_back}
use Rattle.std.proofs.lemmas.Bool.{and_parts, eqb-true}
use Rattle.ep_int.specs.declared.types.Order.{Order}
use Rattle.ep_int.specs.declared.types.Scalar.{Scalar}
use Rattle.ep_int.specs.Types.{size_of}
use Rattle.ep_int.specs.Memory.{Value as Datum, has, bytes_from, value_of_bytes}
use Rattle.ep_bitslice.specs.declared.cell.Side.TheVariants as cell_side
use Rattle.ep_bitslice.specs.Bits.{side_number}
use Rattle.ep_domain.specs.Domain.{Ops, Lawful}
use Rattle.ep_cells.specs.declared.cell.Cell.{Cell}
use Rattle.ep_cells.specs.Cells.{is_same_side}
use Rattle.ep_cells.specs.Look.{cell_at}
use Rattle.ep_cells.specs.States.{Known}
use Rattle.ep_cells.specs.Meaning.{Memories}
use Rattle.ep_reads.specs.Read.{is_exact, read}
use Rattle.ep_core.specs.Program.{Program}
use Rattle.ep_core.specs.Runs.{Side}
use Rattle.ep_cell_ranges.specs.Shared.{is_shared_cell}
use Rattle.ep_cell_ranges.proofs.Shareds.{by_cell}
use Rattle.ep_evaluation.specs.Laws.{IsKept}

module _ {N : Type 0} (D : Ops N) (law : Lawful D) where
  module _ (p : Program) (ord : Side → Order) (k : Known N) (m : Memories) (kept : IsKept D p ord k m) (w : Scalar)
      (b q : ℕ) where
    by_look : (o : Option (Cell N)) → cell_at k.model cell_side.Left b q k.cells ≡ o → is_shared_cell k w q o ≡ true
        → (read D k cell_side.Left b q w).maybe ≡ false → (u v : Datum)
        → value_of_bytes k.orders.0 w (bytes_from m.left b q (size_of k.model w)) ≡ has u
        → value_of_bytes k.orders.1 w (bytes_from m.right b q (size_of k.model w)) ≡ has v → u ≡ v
    by_look None at e s u v f g = absurd (let z : false ≡ true = e in cc)
    by_look (Some x) at e s u v f g =
        let r = and_parts (is_exact k.model w q x) (is_same_side x.side cell_side.Shared) e in
        by_cell D law k m w b q x kept.state.cells kept.holds at r.0
        (side_back x.side cell_side.Shared (eqb-true (side_number x.side) (side_number cell_side.Shared) r.1))
        (rw (at, r.0) at s) u v f g

    -- a sure read by a Shared cell
    pub shared_same : is_shared_cell k w q (cell_at k.model cell_side.Left b q k.cells) ≡ true
        → (read D k cell_side.Left b q w).maybe ≡ false
        → (u v : Datum) → value_of_bytes k.orders.0 w (bytes_from m.left b q (size_of k.model w)) ≡ has u
        → value_of_bytes k.orders.1 w (bytes_from m.right b q (size_of k.model w)) ≡ has v → u ≡ v
    shared_same e s u v f g = by_look (cell_at k.model cell_side.Left b q k.cells) refl e s u v f g
