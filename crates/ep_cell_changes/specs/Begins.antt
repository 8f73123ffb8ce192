-- Cells of a list in order that begin in a range of a block.
use Rattle.std.specs.Prelude.{◌≡◌, ℕ, ◌<◌, ◌≤◌, Bool, ◌&&◌, ◌||◌, nat_eq, nat_lt, List, ◌++◌}
use Rattle.ep_cells.specs.declared.cell.Cell.{Cell}
use Rattle.ep_cells.specs.States.{Each}

-- whether a cell begins before an offset of a block
abbrev pub begins_before : {N : Type 0} → (block offset : ℕ) → Cell N → Bool
begins_before b q c = nat_lt c.block b || (nat_eq c.block b && nat_lt c.offset q)

-- a cell begins from an offset of a block on, and before another
pub record BeginsIn {N : Type 0} (b from end : ℕ) (c : Cell N) : Type 0 where
  pub block : c.block ≡ b
  pub low : from ≤ c.offset
  pub high : c.offset < end

abbrev pub IsOutside : {N : Type 0} → (b from end : ℕ) → Cell N → Type 0
IsOutside b from end c = BeginsIn b from end c → ⊥

-- ws is a part of cs, outside of which no cell begins there
pub record IsWindow {N : Type 0} (b from end : ℕ) (cs ws : List (Cell N)) : Type 0 where
  pub before : List (Cell N)
  pub after : List (Cell N)
  pub all : cs ≡ before ++ (ws ++ after)
  pub none_before : Each (IsOutside b from end) before
  pub none_after : Each (IsOutside b from end) after
