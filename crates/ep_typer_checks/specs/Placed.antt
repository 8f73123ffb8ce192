-- Functions by their places in a program.
use Rattle.std.specs.Prelude.{◌≡◌, ℕ, ◌==◌, if◌then◌else◌, false, List, [], ◌∷◌, ◌++◌, Option, Some, None, slice_get}
use Rattle.std.specs.Prelude.{slice_index}
use Rattle.std.specs.Option.{option_map}
use Rattle.ep_int.specs.Memory.{contains}
use Rattle.ep_core.specs.declared.program.Function as code
use Rattle.ep_core.specs.Program as core
use Rattle.ep_core.specs.View.{function_view}
use Rattle.ep_elaboration.specs.Functions.{Defined}
use Rattle.ep_elaboration.specs.Programs.{renumbered}

-- the place of a function in a table of places
abbrev pub place : (places : List ℕ) → ℕ → ℕ
place places f = slice_index places f

abbrev pub renumbered_function : (ℕ → ℕ) → core.Function → core.Function
renumbered_function to f = record f { body = renumbered to f.body }

abbrev pub renumbered_if : (ℕ → ℕ) → Option core.Function → List core.Function
renumbered_if to None = []
renumbered_if to (Some f) = renumbered_function to f ∷ []

-- ---- functions by their numbers

abbrev pub held : Option (Option code.Function) → Option core.Function
held None = None
held (Some o) = option_map function_view o

-- what a table has at a number
abbrev pub slot : List (Option code.Function) → ℕ → Option core.Function
slot slots f = held (slice_get slots f)

abbrev pub function_in : Option Defined → Option core.Function
function_in o = option_map (λ (d : Defined). d.function) o

-- what is there, or a function of this number
abbrev pub or_defined : Option core.Function → ℕ → Defined → Option core.Function
or_defined (Some g) f d = Some g
or_defined None f d = if d.number == f then Some d.function else None

-- none of these numbers comes twice, and none is among those before
abbrev pub AreOnce : (before : List ℕ) → List ℕ → Type 0
AreOnce before [] = Unit {0}
AreOnce before (f ∷ fs) = (contains f before ≡ false) × AreOnce (before ++ f ∷ []) fs
