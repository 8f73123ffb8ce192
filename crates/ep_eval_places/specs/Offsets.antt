-- Offsets into a block.
use Rattle.std.specs.Prelude.{ℕ, ℤ, pos, int_le, unsigned_abs, max, if◌then◌else◌, List, [], ◌∷◌}
use Rattle.ep_pointers.specs.Value.{Target}

-- the number, or the nearest one from 0 to the size
abbrev pub nearest_offset : (size : ℕ) → ℤ → ℕ
nearest_offset size z = if int_le z (pos 0) then 0 else if int_le (pos size) z then size else unsigned_abs z

-- the greatest number of a block of these
abbrev pub count_to : {N : Type 0} → List (Target N) → ℕ
count_to [] = 0
count_to (t ∷ ts) = max t.0 (count_to ts)
