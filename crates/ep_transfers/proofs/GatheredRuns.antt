-- The laws of statements that touch runs of bytes, of each lawful domain.
use Rattle.std.proofs.Common.{◌≡◌, true}
use Rattle.ep_int.specs.declared.types.Order.{Order}
use Rattle.ep_domain.specs.Domain.{Ops, Lawful}
use Rattle.ep_core.specs.Program.{clear, fill, read_bytes, write_bytes, Program}
use Rattle.ep_core.specs.Runs.{Side}
use Rattle.ep_core.specs.WellFormed.{blocks_fit}
use Rattle.ep_core.proofs.Operands.{sizes}
use Rattle.ep_cell_ranges.specs.Laws.{BlurLaws, BlurEachLaws}
use Rattle.ep_cell_ranges.proofs.Blurs.{of_blurs, of_blurs_each}
use Rattle.ep_evaluation.specs.Laws.{ExpressionsHold, PlacesHold}
use Rattle.ep_evaluation.proofs.Gathered.{evaluation_laws}
use Rattle.ep_transfers.specs.Laws.{CellLaws}
use Rattle.ep_transfers.specs.Statements.{Each}
use Rattle.ep_transfers.specs.Runs.{RunsHold}
use Rattle.ep_transfers.proofs.Gathered.{cell_laws}
use Rattle.ep_transfers.proofs.Whole.{simple_holds}
use Rattle.ep_transfers.proofs.BytesOut.{write_sound, write_alone}
use Rattle.ep_transfers.proofs.Fills.{fill_sound, fill_alone}
use Rattle.ep_transfers.proofs.Clears.{clear_sound, clear_alone}
use Rattle.ep_transfers.proofs.BytesIn.{read_sound, read_alone}

module _ {N : Type 0} (D : Ops N) (p : Program) (ord : Side → Order) (fit : blocks_fit p.types p.blocks ≡ true)
    (laws : CellLaws D) (blur : BlurLaws D) (blurs : BlurEachLaws D) (exprs : ExpressionsHold D p ord)
    (plcs : PlacesHold D p ord) where
  runs_hold : RunsHold D p ord
  runs_hold = record {
    fill_holds = λ a e n. simple_holds D p ord (fill a e n)
        (λ here f at seen h l c d s x y kept q. fill_sound D laws blur p ord fit exprs plcs f.result a e n seen h s x y
        kept q l c d)
        (λ i here f at seen h l c s x y kept q. fill_alone D laws blur p ord fit exprs plcs f.result a e n i seen h s x
        y kept q l c);
    clear_holds = λ a ty. simple_holds D p ord (clear a ty)
        (λ here f at seen h l c d s x y kept q. clear_sound D laws blurs p ord fit exprs plcs f.result a ty seen h s x y
        kept q l c d)
        (λ i here f at seen h l c s x y kept q. clear_alone D laws blurs p ord fit exprs plcs f.result a ty i seen h s x
        y kept q l c);
    read_holds = λ e n. simple_holds D p ord (read_bytes e n)
        (λ here f at seen h l a d s x y kept q. read_sound D laws p ord fit exprs plcs f.result e n seen h s x y kept
        q l a d)
        (λ i here f at seen h l a s x y kept q. absurd (read_alone D laws p ord fit exprs plcs f.result e n i s q));
    write_holds = λ e n. simple_holds D p ord (write_bytes e n)
        (λ here f at seen h l a d s x y kept q. write_sound D laws p ord fit exprs plcs f.result e n seen h s x y kept
        q l a d)
        (λ i here f at seen h l a s x y kept q. absurd (write_alone D laws p ord fit exprs plcs f.result e n i s q));
  }

pub each_run : {N : Type 0} (D : Ops N) → Lawful D → Each (RunsHold D)
each_run D law p ord formed =
    runs_hold D p ord (sizes p formed) (cell_laws D law) (of_blurs D law) (of_blurs_each D law)
    ((evaluation_laws D law).expressions p ord) ((evaluation_laws D law).places p ord)
