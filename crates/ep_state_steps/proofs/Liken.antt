-- The cell like another, if there is one.
use Rattle.std.proofs.Common.{◌≡◌, true, List, Some, None, sym, ◌∙◌, ap, subst}
use Rattle.std.specs.Option.{option_map_or}
use Rattle.ep_bitslice.specs.declared.cell.Side.{Side}
use Rattle.ep_domain.specs.Domain.{Ops}
use Rattle.ep_cells.specs.declared.cell.Cell.{Cell}
use Rattle.ep_cells.specs.Cells.{IsIn, share_memory}
use Rattle.ep_cells.specs.Both.{cell_like}
use Rattle.ep_cells.specs.States.{Known}
use Rattle.ep_cells.proofs.Both.{alike_same}
use Rattle.ep_reads.specs.Split.{split_cell, split_like}
use Rattle.ep_reads.specs.Unify.{crossed_cell, crossed_like}
use Rattle.ep_reads.proofs.Splits.{first_like}
use Rattle.ep_state_steps.specs.Ones.{Has}

pub like_in : {N : Type 0} (x y : Cell N) (cs : List (Cell N)) → Some y ≡ cell_like x cs → IsIn y cs
like_in x y cs e = (first_like x cs y (sym e)).is_in

pub like_has : {N : Type 0} (s : Side) (x y : Cell N) (cs : List (Cell N)) → Some y ≡ cell_like x cs → Has s x → Has s y
like_has s x y cs e h =
    subst (λ (t : Side). share_memory s t ≡ true) (sym (alike_same y x (first_like x cs y (sym e)).same).side) h

pub none_crossed : {N : Type 0} (D : Ops N) (k : Known N) (x : Cell N) → None ≡ cell_like x k.cells
    → k ≡ record k { cells = crossed_like D k x k.cells }
none_crossed D k x e =
    ap (λ o. record k { cells = option_map_or (λ y. crossed_cell D k y k.cells) o k.cells }) e

pub some_crossed : {N : Type 0} (D : Ops N) (k after : Known N) (x y : Cell N) → Some y ≡ cell_like x k.cells
    → after ≡ record k { cells = crossed_cell D k y k.cells } → after ≡ record k { cells = crossed_like D k x k.cells }
some_crossed D k after x y e h =
    h ∙ ap (λ o. record k { cells = option_map_or (λ y. crossed_cell D k y k.cells) o k.cells }) e

pub none_split : {N : Type 0} (D : Ops N) (k : Known N) (s : Side) (x : Cell N) → None ≡ cell_like x k.cells
    → k ≡ record k { cells = split_like D k s x k.cells }
none_split D k s x e =
    ap (λ o. record k { cells = option_map_or (λ y. split_cell D k s y k.cells) o k.cells }) e

pub some_split : {N : Type 0} (D : Ops N) (k after : Known N) (s : Side) (x y : Cell N) → Some y ≡ cell_like x k.cells
    → after ≡ record k { cells = split_cell D k s y k.cells } → after ≡ record k { cells = split_like D k s x k.cells }
some_split D k after s x y e h =
    h ∙ ap (λ o. record k { cells = option_map_or (λ y. split_cell D k s y k.cells) o k.cells }) e
