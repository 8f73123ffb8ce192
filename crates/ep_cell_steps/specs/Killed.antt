-- The parts that a killed block changes.
use Rattle.std.specs.Prelude.{◌≡◌, ℕ, ◌<◌, false, List, length, get_or}
use Rattle.std.specs.List.{list_any}
use Rattle.ep_int.specs.declared.types.Model.{Model}
use Rattle.ep_bitslice.specs.declared.cell.Side.{Side}
use Rattle.ep_domain.specs.Domain.{Ops}
use Rattle.ep_cells.specs.declared.cell.Cell.{Cell}
use Rattle.ep_cells.specs.Cells.{IsIn}
use Rattle.ep_cells.specs.Kill.{has_target}
use Rattle.ep_shared_parts.specs.declared.parts.Part.{Part}
use Rattle.ep_shared_parts.specs.declared.parts.Edit.{Edit}
use Rattle.ep_shared_parts.specs.declared.uses.Use.{Use}
use Rattle.ep_bicells.specs.declared.changes.Step.TheVariants.{Kill}
use Rattle.ep_shared_parts.specs.Mentions.{number_at}
use Rattle.ep_shared_parts.specs.Plans.{is_edited}
use Rattle.ep_bicells.specs.Steps.{after_step, IsPlan}

-- no pointer of a list is into the block
abbrev pub ArePointless : {N : Type 0} → (block : ℕ) → List (Cell N) → Type 0
ArePointless b cs = list_any (λ c. has_target b c.value) cs ≡ false

-- a part that isn't edited has no pointer into the block
abbrev pub FindsPointers : {N : Type 0} → (block : ℕ) → List (Part (Cell N)) → List (Edit (Cell N)) → Type 0
FindsPointers {N} b ps es = (i : ℕ) (q : Part (Cell N)) → i < length ps → is_edited i es ≡ false
    → ArePointless b (get_or ps i q).items.value.items

pub record AreKilled {N : Type 0} (D : Ops N) (d : Model) (s : Side) (b : ℕ) (us : List Use) (ps : List (Part (Cell N)))
    (es : List (Edit (Cell N))) : Type 0 where
  pub plan : IsPlan (after_step D d (Kill s b)) (number_at b 0) (number_at b 4294967295) us ps es
  pub pointers : FindsPointers b ps es

-- offsets are numbers of 32 bits
abbrev pub AreShort : {N : Type 0} → List (Cell N) → Type 0
AreShort {N} cs = (x : Cell N) → IsIn x cs → x.offset < 4294967296
