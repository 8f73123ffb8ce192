-- Inputs that go to places.
use Rattle.std.proofs.Common.{◌≡◌, ℕ, pos, Option, Some, None, sym, subst}
use Rattle.std.specs.Prelude.{IfSome}
use Rattle.std.specs.Option.{option_map}
use Rattle.ep_int.specs.declared.types.IntType.{IntType}
use Rattle.ep_int.specs.Memory.{Memory, Value, int}
use Rattle.ep_int.specs.Types.{wrapped}
use Rattle.ep_core.specs.declared.tree.Dest.{Dest}
use Rattle.ep_core.specs.Exec.{converted}
use Rattle.ep_core.specs.Typed.{InputFits, ValueFits}
use Rattle.ep_core.specs.View.{dest_view}
use Rattle.ep_machine.specs.declared.setting.Setting.{Setting}
use Rattle.ep_machine.specs.Settings.{program_in}

pub input_fits : (m : Setting) (x : Memory) (t : IntType) (dest : Option Dest) (v : ℕ) (w : Value)
    → w ≡ int (wrapped t (pos v)) → InputFits m.order (program_in m) x t (option_map dest_view dest)
    → IfSome dest (λ d. ValueFits (program_in m) d.what (converted d.what w))
input_fits m x t None v w e h = tt
input_fits m x t (Some d) v w e h =
    subst (λ w. ValueFits (program_in m) d.what (converted d.what w)) (sym e) (h.1 v)
