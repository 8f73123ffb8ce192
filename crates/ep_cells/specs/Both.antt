-- What two states both say: join, widening, inclusion.
use Rattle.std.specs.Prelude.{Bool, true, false, ◌&&◌, ◌||◌, not, if◌then◌else◌, List, [], ◌∷◌, Option, Some, None}
use Rattle.std.specs.Option.{option_map_or}
use Rattle.std.specs.List.{list_all}
use Rattle.ep_bitslice.specs.declared.segment.Segment.{Segment}
use Rattle.ep_domain.specs.Domain.{Ops}
use Rattle.ep_pointers.specs.Value.{pointers, together, is_within}
use Rattle.ep_cells.specs.declared.cell.Cell.{Cell}
use Rattle.ep_cells.specs.declared.cell.Value.{Value}
use Rattle.ep_cells.specs.declared.cell.Value.TheVariants.{Num, Ptr}
use Rattle.ep_cells.specs.Cells.{is_same_cell}
use Rattle.ep_cells.specs.Forms.{have_same_form, common_form}

-- ---- join and widening: f is that of the domain

-- The value of either. No value is none of either's.
abbrev pub value_of_both : {N : Type 0} → (N → N → N) → Option (Value N) → Option (Value N) → Option (Value N)
value_of_both f None v = v
value_of_both f (Some u) None = Some u
value_of_both f (Some (Num a)) (Some (Num b)) = Some (Num (f a b))
value_of_both f (Some (Ptr p)) (Some (Ptr q)) = Some (Ptr (pointers (p.null || q.null) (together f p.targets
    q.targets)))
value_of_both f (Some (Num a)) (Some (Ptr q)) = Some (Num a)
value_of_both f (Some (Ptr p)) (Some (Num b)) = Some (Ptr p)

abbrev pub cell_of_both : {N : Type 0} → (N → N → N) → Cell N → Cell N → Cell N
cell_of_both f x y = record x {
  value = value_of_both f x.value y.value;
  maybe = x.maybe || y.maybe;
  form = common_form x.form y.form;
}

-- cell by cell, of states that have cells of the same sides, places and types
abbrev pub cells_of_both : {N : Type 0} → (N → N → N) → List (Cell N) → List (Cell N) → List (Cell N)
cells_of_both f [] ys = []
cells_of_both f (x ∷ xs) [] = []
cells_of_both f (x ∷ xs) (y ∷ ys) = cell_of_both f x y ∷ cells_of_both f xs ys

abbrev pub joined : {N : Type 0} → Ops N → List (Cell N) → List (Cell N) → List (Cell N)
joined D xs ys = cells_of_both D.join xs ys

abbrev pub widened : {N : Type 0} → Ops N → List (Cell N) → List (Cell N) → List (Cell N)
widened D xs ys = cells_of_both D.widen xs ys

-- ---- inclusion

-- no value, or one within the other's
abbrev pub is_value_within : {N : Type 0} → Ops N → Option (Value N) → Option (Value N) → Bool
is_value_within D None v = true
is_value_within D (Some u) None = false
is_value_within D (Some (Num a)) (Some (Num b)) = D.within a b
is_value_within D (Some (Ptr p)) (Some (Ptr q)) = is_within D p q
is_value_within D (Some (Num a)) (Some (Ptr q)) = false
is_value_within D (Some (Ptr p)) (Some (Num b)) = false

-- the second has no form, or both have the same
abbrev pub is_form_kept : Option (List Segment) → Option (List Segment) → Bool
is_form_kept f None = true
is_form_kept f (Some g) = have_same_form f (Some g)

abbrev pub is_cell_within : {N : Type 0} → Ops N → Cell N → Cell N → Bool
is_cell_within D x y =
    is_value_within D x.value y.value && ((not x.maybe || y.maybe) && is_form_kept x.form y.form)

-- the cell of the same side, place and type
abbrev pub cell_like : {N : Type 0} → Cell N → List (Cell N) → Option (Cell N)
cell_like y [] = None
cell_like y (x ∷ xs) = if is_same_cell x y then Some x else cell_like y xs

-- the first state has each cell of the second, within it
abbrev pub are_within : {N : Type 0} → Ops N → List (Cell N) → List (Cell N) → Bool
are_within D xs ys = list_all (λ y. option_map_or (λ x. is_cell_within D x y) (cell_like y xs) false) ys
