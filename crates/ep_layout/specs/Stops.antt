-- The error of a call that may also want memory.
use Rattle.std.specs.Prelude.{◌≡◌, ◌⊎◌, Option, Some}
use Rattle.ep_layout.specs.declared.types.LayoutStop.{LayoutStop}
use Rattle.ep_layout.specs.declared.types.LayoutStop.TheVariants.{Memory}

-- want of memory, or the reason that there is
abbrev pub IsStop : Option LayoutStop → LayoutStop → Type 0
IsStop reason e = (e ≡ Memory) ⊎ (reason ≡ Some e)
