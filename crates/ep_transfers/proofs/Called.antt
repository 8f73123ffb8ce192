-- The laws of calls up to their bodies, as the record of laws asks them.
use Rattle.std.proofs.Common.{◌≡◌, true}
use Rattle.ep_int.specs.declared.types.Order.{Order}
use Rattle.ep_domain.specs.Domain.{Ops, Lawful}
use Rattle.ep_core.specs.Program.{Program}
use Rattle.ep_core.specs.Exec.{on}
use Rattle.ep_core.specs.Runs.{Side, left, right}
use Rattle.ep_core.specs.WellFormed.{blocks_fit, is_well_formed}
use Rattle.ep_core.proofs.Operands.{sizes, fits_at}
use Rattle.ep_pass.specs.States.{Both}
use Rattle.ep_pass.specs.Laws.{passes}
use Rattle.ep_evaluation.specs.Given.{alone}
use Rattle.ep_evaluation.specs.Laws.{ExpressionsHold, PlacesHold}
use Rattle.ep_evaluation.proofs.Gathered.{evaluation_laws}
use Rattle.ep_transfers.specs.Calls.{arguments_step}
use Rattle.ep_transfers.specs.Cells.{mode_of}
use Rattle.ep_transfers.specs.Laws.{CellLaws}
use Rattle.ep_transfers.specs.Statements.{Each}
use Rattle.ep_transfers.specs.CallLaws.{ArgumentsHold}
use Rattle.ep_transfers.proofs.Gathered.{cell_laws}
use Rattle.ep_transfers.proofs.Passing.{arguments_both, arguments_one}
use Rattle.ep_transfers.proofs.Whole.{both_by, alone_by, beside_state}

module _ {N : Type 0} (D : Ops N) (p : Program) (ord : Side → Order) where
  arguments_hold : is_well_formed p ≡ true → blocks_fit p.types p.blocks ≡ true → CellLaws D → ExpressionsHold D p ord
      → PlacesHold D p ord → ArgumentsHold D p ord
  arguments_hold formed fit laws exprs plcs = record {
    sound = λ k f at es seen typed l n m s x y kept q.
        both_by D p ord s kept.stands.memories.state (arguments_step D p (mode_of Both) f es s) on n m
        (passes (ord left) p f es l n x) (passes (ord right) p f es l m y)
        (λ q. arguments_both D laws p ord fit exprs plcs f es seen (fits_at p formed k f at).0 typed s x y kept q l n
        m) q;
    alone = λ i k f at es seen typed l n s x y kept q.
        alone_by D p ord s (beside_state D p ord i s x y kept) i (arguments_step D p (alone i) f es s) on n y
        (passes (ord i) p f es l n x)
        (λ q. arguments_one D laws p ord fit exprs plcs f es seen (fits_at p formed k f at).0 typed s x y i kept q l
        n) q;
  }

pub each_call : {N : Type 0} (D : Ops N) → Lawful D → Each (ArgumentsHold D)
each_call D law p ord formed =
    arguments_hold D p ord formed (sizes p formed) (cell_laws D law) ((evaluation_laws D law).expressions p ord)
    ((evaluation_laws D law).places p ord)
