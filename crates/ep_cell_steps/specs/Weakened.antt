-- The parts that a weak write changes.
use Rattle.std.specs.Prelude.{ℕ, Bool, List}
use Rattle.ep_int.specs.declared.types.Model.{Model}
use Rattle.ep_domain.specs.Domain.{Ops}
use Rattle.ep_cells.specs.declared.cell.Cell.{Cell}
use Rattle.ep_cells.specs.Cells.{place_of}
use Rattle.ep_shared_parts.specs.declared.parts.Part.{Part}
use Rattle.ep_shared_parts.specs.declared.parts.Edit.{Edit}
use Rattle.ep_shared_parts.specs.declared.uses.Use.{Use}
use Rattle.ep_bicells.specs.declared.changes.Step.TheVariants.{WeakWrite}
use Rattle.ep_bicells.specs.Steps.{after_step, IsPlan}
use Rattle.ep_bicells.proofs.Looking.{Reaches}

pub record AreWeakened {N : Type 0} (D : Ops N) (d : Model) (c : Cell N) (stays : Bool) (us : List Use) (ps : List (Part
    (Cell N))) (es : List (Edit (Cell N))) : Type 0 where
  pub from : ℕ
  pub last : ℕ
  pub reaches : Reaches (place_of d c) from last
  pub plan : IsPlan (after_step D d (WeakWrite c stays)) from last us ps es
