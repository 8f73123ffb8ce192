-- Two states after a turn in which Shared cells came apart (this project's rules).
use Rattle.std.specs.Prelude.{◌≡◌, List, ◌++◌}
use Rattle.ep_int.specs.declared.types.Model.{Model}
use Rattle.ep_cells.specs.declared.cell.Cell.{Cell}
use Rattle.ep_cells.specs.States.{Known}
use Rattle.ep_reads.specs.Single.{facing, either}
use Rattle.ep_state_steps.specs.Ones.{parted_at}

-- what faces the cells zs faced the cells xs, or faces one of the cells ls
abbrev pub FacesMore : {N : Type 0} → Model → (xs zs ls : List (Cell N)) → Type 0
FacesMore d xs zs ls = facing d zs ≡ either (facing d xs) (facing d ls)

-- Cells of the first state that face the cells ts came apart, and then those of the second that face the cells us or
-- some that came apart. Those that came apart then are the cells ms.
pub record IsTurned {N : Type 0} (k l : Known N) (ts us : List (Cell N)) (kz lz : Known N) (ms : List (Cell N)) : Type 0
  where
    pub more : List (Cell N)
    pub first : kz ≡ parted_at (facing k.model ts) k
    pub first_faces : FacesMore k.model k.cells kz.cells more
    pub second : lz ≡ parted_at (facing l.model (us ++ more)) l
    pub second_faces : FacesMore l.model l.cells lz.cells ms
