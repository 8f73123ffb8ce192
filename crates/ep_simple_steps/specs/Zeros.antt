-- Scalars of a place that become 0 or null.
use Rattle.std.specs.Prelude.{◌≡◌, ℕ, ◌+◌, ◌-◌, ◌<◌, ◌&&◌, nat_le, nat_lt, List, Some, IsTrue, if◌then◌else◌}
use Rattle.std.specs.List.{list_any}
use Rattle.ep_int.specs.declared.types.Model.{Model}
use Rattle.ep_int.specs.Types.{size_of}
use Rattle.ep_int.specs.Memory.{Byte, Memory, filled, undefined, number}
use Rattle.ep_layout.specs.declared.types.Leaf.{Leaf}
use Rattle.ep_layout.specs.Layout.{Layout}
use Rattle.ep_layout.specs.Table.{Table, layout_of}
use Rattle.ep_core.specs.Exec.{is_in_leaf}
use Rattle.ep_machine.specs.declared.setting.Setting.{Setting}
use Rattle.ep_machine.specs.Settings.{program_in}

-- the bytes of a place in which these leaves are 0 or null, and all other bytes are undefined
abbrev pub zeros_in : Setting → List Leaf → (k : ℕ) → Byte
zeros_in m fs k = if list_any (is_in_leaf m.order (program_in m) k) fs then number 0 else undefined

-- the bytes of a place from one offset on and before another become 0; where there are none, nothing changes
abbrev pub run_zeroed : Model → Memory → (block here from to : ℕ) → Memory
run_zeroed d m b q from to = if nat_lt from to then filled d m b (q + from) (to - from) 0 else m

-- each byte of a layout is one of a scalar
abbrev pub IsFull : Model → Layout → Type 0
IsFull d l = (k : ℕ) → k < l.size
    → IsTrue (list_any (λ f. nat_le f.offset k && nat_lt k (f.offset + size_of d f.what)) l.leaves)

-- each byte of a type is one of a scalar, if the type has a size
abbrev pub IsSolid : Table → (ty : ℕ) → Type 0
IsSolid t ty = (l : Layout) → layout_of t ty ≡ Some l → IsFull t.model l
