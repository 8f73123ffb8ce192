-- Changes of cells of which the rules of cells have only the case of one cell: a place of n bytes gets new cells, or
-- may have been written in some way (this project's rules, after Miné 2006). And what becomes of forms that are not yet
-- those of cells.
use Rattle.std.specs.Prelude.{if◌then◌else◌, List, [], ◌∷◌, map, Option}
use Rattle.std.specs.Option.{option_map_or}
use Rattle.ep_int.specs.declared.types.Model.{Model}
use Rattle.ep_bitslice.specs.declared.cell.Side.{Side as CellSide}
use Rattle.ep_bitslice.specs.declared.cell.Side.TheVariants.{Left, Right, Shared}
use Rattle.ep_bitslice.specs.declared.segment.Segment.{Segment}
use Rattle.ep_domain.specs.Domain.{Ops}
use Rattle.ep_cells.specs.declared.cell.Cell.{Cell}
use Rattle.ep_cells.specs.declared.place.ByteRange.{ByteRange}
use Rattle.ep_cells.specs.Cells.{place_of, touches, share_memory, parts_of, put_all, each_becomes}
use Rattle.ep_cells.specs.Both.{cell_like}
use Rattle.ep_cells.specs.Forms.{form_after, reformed}
use Rattle.ep_cells.specs.Write.{left_by_write, fate_by_write}
use Rattle.ep_cells.specs.Weaken.{blurred, fate_by_weak_write}
use Rattle.ep_cells.specs.States.{Known}
use Rattle.ep_reads.specs.Split.{cut_cells, fate_by_split, split_like, split}

-- other cells of the same machines
abbrev pub with_cells : {N : Type 0} → Known N → List (Cell N) → Known N
with_cells k cs = record k { cells = cs }

-- the bits of a number, where they are known
abbrev pub Form : Type 0
Form = Option (List Segment)

-- What becomes of a form that isn't yet that of a cell.
abbrev pub Reform : Type 0
Reform = Form → Form

abbrev pub with_form : {N : Type 0} → Reform → Cell N → Cell N
with_form g c = record c { form = g c.form }

-- ---- cells that lie partly in a place are split on its sides, the left first

-- the same bytes of another side
abbrev pub on_cell_side : CellSide → ByteRange → ByteRange
on_cell_side s p = record p { side = s }

module _ {N : Type 0} (D : Ops N) where
  -- what becomes of a form by the split of each cell, one after the other, each as it is now
  abbrev pub form_by_like : CellSide → Cell N → List (Cell N) → Reform
  form_by_like s x cs f = option_map_or (λ y. form_after (fate_by_split s y) f) (cell_like x cs) f

  abbrev pub form_by_splits : Known N → CellSide → List (Cell N) → List (Cell N) → Reform
  form_by_splits k s [] cs f = f
  form_by_splits k s (x ∷ xs) cs f = form_by_splits k s xs (split_like D k s x cs) (form_by_like s x cs f)

  abbrev pub form_by_split : ByteRange → Known N → Reform
  form_by_split p k f = form_by_splits k p.side (cut_cells k.model p k.cells) k.cells f

  -- a place of one side
  abbrev pub split_at : ByteRange → Known N → Known N
  split_at p k = with_cells k (split D k p)

  -- a place of one side, or of both
  abbrev pub cut_on : CellSide → ByteRange → Known N → Known N
  cut_on Left p k = split_at p k
  cut_on Right p k = split_at p k
  cut_on Shared p k = split_at (on_cell_side Right p) (split_at (on_cell_side Left p) k)

  abbrev pub cut : ByteRange → Known N → Known N
  cut p k = cut_on p.side p k

  -- and what becomes of a form by that
  abbrev pub form_by_cut_on : CellSide → ByteRange → Known N → Reform
  form_by_cut_on Left p k f = form_by_split p k f
  form_by_cut_on Right p k f = form_by_split p k f
  form_by_cut_on Shared p k f =
      form_by_split (on_cell_side Right p) (split_at (on_cell_side Left p) k) (form_by_split (on_cell_side Left p) k f)

  abbrev pub form_by_cut : ByteRange → Known N → Reform
  form_by_cut p k f = form_by_cut_on p.side p k f

  -- ---- new cells in a place of which no cell lies partly in it: of one cell, what `written` is

  abbrev pub overwritten : ByteRange → List (Cell N) → Known N → Known N
  overwritten p new k =
      with_cells k (map (reformed (fate_by_write p)) (put_all new (each_becomes (left_by_write k.model p) k.cells)))

  -- new cells in a place, whose forms are those before
  abbrev pub replaced : ByteRange → List (Cell N) → Known N → Known N
  replaced p new k = overwritten p (map (with_form (form_by_cut p k)) new) (cut p k)

  -- what becomes of a form by that
  abbrev pub form_by_replace : ByteRange → Known N → Reform
  form_by_replace p k f = form_after (fate_by_write p) (form_by_cut p k f)

  -- ---- a place that may have been written, in whatever way

  -- a part of a cell, where its side may have been written
  abbrev pub blurred_part : CellSide → Cell N → List (Cell N)
  blurred_part s x = if share_memory s x.side then blurred D x x.what else x ∷ []

  -- A cell that has bytes in the place is parted, and each part may have any value.
  abbrev pub left_by_blur : Model → ByteRange → Cell N → List (Cell N)
  left_by_blur d p x = if touches p (place_of d x) then each_becomes (blurred_part p.side) (parts_of x) else x ∷ []

  abbrev pub blurred_at : ByteRange → Known N → Known N
  blurred_at p k =
      with_cells k (map (reformed (fate_by_weak_write p)) (each_becomes (left_by_blur k.model p) k.cells))
