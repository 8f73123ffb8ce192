-- The cells that may touch a place, among others.
use Rattle.std.specs.Prelude.{◌≡◌, false, List, ◌++◌}
use Rattle.ep_int.specs.declared.types.Model.{Model}
use Rattle.ep_cells.specs.declared.cell.Cell.{Cell}
use Rattle.ep_cells.specs.declared.place.ByteRange.{ByteRange}
use Rattle.ep_cells.specs.Cells.{place_of, touches, IsIn}

-- those before them and behind them don't
pub record IsAbout {N : Type 0} (d : Model) (p : ByteRange) (cs window : List (Cell N)) : Type 0 where
  pub before : List (Cell N)
  pub behind : List (Cell N)
  pub whole : cs ≡ before ++ (window ++ behind)
  pub below : (x : Cell N) → IsIn x before → touches p (place_of d x) ≡ false
  pub above : (x : Cell N) → IsIn x behind → touches p (place_of d x) ≡ false
