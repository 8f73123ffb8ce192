-- The parts that a step changes.
use Rattle.std.specs.Prelude.{◌≡◌, ℕ, ◌≤◌, List}
use Rattle.ep_int.specs.declared.types.Model.{Model}
use Rattle.ep_domain.specs.Domain.{Ops}
use Rattle.ep_cells.specs.declared.cell.Cell.{Cell}
use Rattle.ep_cells.specs.declared.place.ByteRange.{ByteRange}
use Rattle.ep_cells.specs.Cells.{place_of}
use Rattle.ep_shared_parts.specs.declared.parts.Part.{Part}
use Rattle.ep_shared_parts.specs.declared.parts.Edit.{Edit}
use Rattle.ep_shared_parts.specs.declared.uses.Use.{Use}
use Rattle.ep_bicells.specs.declared.changes.Step.{Step}
use Rattle.ep_bicells.specs.declared.changes.Step.TheVariants.{Write, WeakWrite, Kill, Blur, Split, Cross, Unshare}
use Rattle.ep_bicells.specs.declared.changes.Step.TheVariants.{Lack, Reshare}
use Rattle.ep_shared_parts.specs.Mentions.{number_at, number_of, IsNoted}
use Rattle.ep_shared_parts.specs.Plans.{AreEdits, Covers}
use Rattle.ep_bicells.specs.Steps.{after_step}
use Rattle.ep_bicells.proofs.Looking.{Reaches}
use Rattle.ep_cell_steps.specs.Killed.{FindsPointers}

-- from the number of a cell up to it
abbrev pub IsAlone : {N : Type 0} → Cell N → (from last : ℕ) → Type 0
IsAlone x from last = (from ≡ number_of x) × (last ≡ number_of x)

-- from the number of the first cell that may touch a place up to that of the last
abbrev pub IsReached : ByteRange → (from last : ℕ) → Type 0
IsReached p from last = Reaches p from last

-- from which number and up to which one a step may touch cells, but for pointers into a killed block
abbrev pub AreReached : {N : Type 0} → Model → Step N → (from last : ℕ) → Type 0
AreReached d (Write p) from last = IsReached p from last
AreReached d (WeakWrite c stays) from last = IsReached (place_of d c) from last
AreReached d (Kill s b) from last = (from ≡ number_at b 0) × (last ≡ number_at b 4294967295)
AreReached d (Blur p) from last = IsReached p from last
AreReached d (Split s x) from last = IsAlone x from last
AreReached d (Cross x) from last = IsAlone x from last
AreReached d (Unshare p) from last = IsReached p from last
AreReached d (Lack x) from last = IsAlone x from last
AreReached d (Reshare l r) from last = IsAlone l from last

-- a part that isn't edited has no pointer into a killed block
abbrev pub FindsTargets : {N : Type 0} → Step N → List (Part (Cell N)) → List (Edit (Cell N)) → Type 0
FindsTargets (Write p) ps es = Unit {0}
FindsTargets (WeakWrite c stays) ps es = Unit {0}
FindsTargets (Kill s b) ps es = FindsPointers b ps es
FindsTargets (Blur p) ps es = Unit {0}
FindsTargets (Split s x) ps es = Unit {0}
FindsTargets (Cross x) ps es = Unit {0}
FindsTargets (Unshare p) ps es = Unit {0}
FindsTargets (Lack x) ps es = Unit {0}
FindsTargets (Reshare l r) ps es = Unit {0}

-- the parts with forms that mention what a step may touch, and those with pointers into a killed block
pub record AreElsewhere {N : Type 0} (D : Ops N) (d : Model) (step : Step N) (from last : ℕ) (us : List Use) (ps : List
    (Part (Cell N))) (es : List (Edit (Cell N))) : Type 0 where
  pub edits : AreEdits (after_step D d step) ps es
  pub users : (u : Use) → IsNoted us u → from ≤ u.of → u.of ≤ last → Covers number_of u.by u.by ps es
  pub targets : FindsTargets step ps es
