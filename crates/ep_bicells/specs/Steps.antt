-- Changes of the cells that touch a place, and what a plan of them has.
use Rattle.std.specs.Prelude.{ℕ, ◌≤◌, if◌then◌else◌, List, [], ◌∷◌, map, Option, Some, None}
use Rattle.std.specs.Option.{option_map}
use Rattle.ep_int.specs.declared.types.Model.{Model}
use Rattle.ep_bitslice.specs.declared.cell.Side.{Side}
use Rattle.ep_domain.specs.Domain.{Ops}
use Rattle.ep_cells.specs.declared.cell.Cell.{Cell}
use Rattle.ep_cells.specs.declared.place.ByteRange.{ByteRange}
use Rattle.ep_cells.specs.Cells.{place_of, touches, parts_of, put_all, each_becomes}
use Rattle.ep_cells.specs.Forms.{Fate, reformed}
use Rattle.ep_cells.specs.Write.{left_by_write, fate_by_write}
use Rattle.ep_cells.specs.Weaken.{left_by_weak_write, fate_by_weak_write}
use Rattle.ep_cells.specs.Kill.{left_by_kill, fate_by_kill}
use Rattle.ep_cells.specs.Reshare.{left_by_reshare, fate_by_reshare}
use Rattle.ep_reads.specs.Split.{is_name_of, left_by_split, fate_by_split}
use Rattle.ep_reads.specs.Unify.{left_by_crossing, fate_by_crossing}
use Rattle.ep_cell_ranges.specs.Ranges.{left_by_blur}
use Rattle.ep_cell_rows.specs.Parts.{fate_by_unsharing}
use Rattle.ep_shared_parts.specs.declared.parts.Part.{Part}
use Rattle.ep_shared_parts.specs.declared.parts.Edit.{Edit}
use Rattle.ep_shared_parts.specs.declared.uses.Use.{Use}
use Rattle.ep_bicells.specs.declared.changes.Step.{Step}
use Rattle.ep_bicells.specs.declared.changes.Step.TheVariants.{Write, WeakWrite, Kill, Blur, Split, Cross, Unshare}
use Rattle.ep_bicells.specs.declared.changes.Step.TheVariants.{Lack, Reshare}
use Rattle.ep_shared_parts.specs.Mentions.{number_of, IsNoted}
use Rattle.ep_shared_parts.specs.Plans.{AreEdits, Covers}

-- ---- one cell

-- mentions of it go on as mentions of what is on this side, or go
abbrev pub fate_to : {N : Type 0} → Option Side → Cell N → Fate
fate_to o x n = if is_name_of n x then option_map (λ r. record n { side = r }) o else Some n

-- a Shared cell that is met comes apart
abbrev pub left_by_unsharing : {N : Type 0} → Model → ByteRange → Cell N → List (Cell N)
left_by_unsharing d p x = if touches p (place_of d x) then parts_of x else x ∷ []

-- ---- steps

-- what is left of a cell after a step
abbrev pub left_by_step : {N : Type 0} → Ops N → Model → Step N → Cell N → List (Cell N)
left_by_step D d (Write p) = left_by_write d p
left_by_step D d (WeakWrite c stays) = left_by_weak_write D d c stays
left_by_step D d (Kill s b) = left_by_kill s b
left_by_step D d (Blur p) = left_by_blur D d p
left_by_step D d (Split s x) = left_by_split s x
left_by_step D d (Cross x) = left_by_crossing x
left_by_step D d (Unshare p) = left_by_unsharing d p
left_by_step D d (Lack x) = left_by_crossing x
left_by_step D d (Reshare l r) = left_by_reshare l

-- the names by which mentions of cells go on after a step
abbrev pub fate_of_step : {N : Type 0} → Model → Step N → Fate
fate_of_step d (Write p) = fate_by_write p
fate_of_step d (WeakWrite c stays) = fate_by_weak_write (place_of d c)
fate_of_step d (Kill s b) = fate_by_kill s b
fate_of_step d (Blur p) = fate_by_weak_write p
fate_of_step d (Split s x) = fate_by_split s x
fate_of_step d (Cross x) = fate_by_crossing x
fate_of_step d (Unshare p) = fate_by_unsharing p
fate_of_step d (Lack x) = fate_to None x
fate_of_step d (Reshare l r) = fate_by_reshare l r

-- the cells after a step
abbrev pub after_step : {N : Type 0} → Ops N → Model → Step N → List (Cell N) → List (Cell N)
after_step D d step cs = map (reformed (fate_of_step d step)) (each_becomes (left_by_step D d step) cs)

-- the same with new cells, whose forms mention cells as they were before the step
abbrev pub changed_by : {N : Type 0} → Ops N → Model → Step N → (new cells : List (Cell N)) → List (Cell N)
changed_by D d step new cs =
    map (reformed (fate_of_step d step)) (put_all new (each_becomes (left_by_step D d step) cs))

-- Edited are the parts with cells from `from` to `last`, and those of the cells whose forms mention such.
pub record IsPlan {N : Type 0} (h : List (Cell N) → List (Cell N)) (from last : ℕ) (us : List Use) (ps : List (Part
    (Cell N))) (es : List (Edit (Cell N))) : Type 0 where
  pub edits : AreEdits h ps es
  pub place : Covers number_of from last ps es
  pub users : (u : Use) → IsNoted us u → from ≤ u.of → u.of ≤ last → Covers number_of u.by u.by ps es
