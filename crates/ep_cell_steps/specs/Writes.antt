-- The parts that a write changes.
use Rattle.std.specs.Prelude.{◌≡◌, ℕ, suc, ◌<◌, List, [], ◌∷◌, ◌++◌, length, get_or}
use Rattle.ep_int.specs.declared.types.Model.{Model}
use Rattle.ep_domain.specs.Domain.{Ops}
use Rattle.ep_cells.specs.declared.cell.Cell.{Cell}
use Rattle.ep_cells.specs.Cells.{place_of}
use Rattle.ep_cells.specs.Write.{written}
use Rattle.ep_shared_parts.specs.declared.parts.Part.{Part}
use Rattle.ep_shared_parts.specs.declared.parts.Edit.{Edit}
use Rattle.ep_shared_parts.specs.declared.uses.Use.{Use}
use Rattle.ep_bicells.specs.declared.changes.Step.TheVariants.{Write}
use Rattle.ep_shared_parts.specs.Spread.{outlines, parts_to}
use Rattle.ep_shared_parts.specs.Mentions.{number_of}
use Rattle.ep_bicells.specs.Steps.{after_step, IsPlan}
use Rattle.ep_bicells.proofs.Looking.{Reaches}

-- First the parts without what is overwritten, and last the one that takes the new cell.
pub record AreWritten {N : Type 0} (D : Ops N) (d : Model) (c : Cell N) (us : List Use) (ps : List (Part (Cell N)))
    (es : List (Edit (Cell N))) : Type 0 where
  pub before : List (Edit (Cell N))
  pub end : Edit (Cell N)
  pub are : es ≡ before ++ end ∷ []
  pub from : ℕ
  pub last : ℕ
  pub reaches : Reaches (place_of d c) from last
  pub plan : IsPlan (after_step D d (Write (place_of d c))) from last us ps before
  pub within : end.at < length ps
  pub there : suc end.at ≡ parts_to (number_of c) (outlines number_of ps)
  pub start : end.part.start ≡ (get_or ps end.at end.part).start
  pub items : end.part.items.value.items ≡ written d c (get_or ps end.at end.part).items.value.items
