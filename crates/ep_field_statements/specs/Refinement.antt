-- What code returned is what a definition states that may state nothing.
use Rattle.std.specs.Prelude.{◌≡◌, Option, Some, None, Result, Ok, Err}
use Rattle.ep_ast.specs.declared.refusals.Refusal.{Refusal}
use Rattle.ep_ast.specs.declared.refusals.Halt.{Halt}
use Rattle.ep_ast.specs.declared.refusals.Halt.TheVariants as halts

-- what was returned, seen by view, is what is stated, if something is; or memory is wanted
abbrev pub RefinesIf : {X Y : Type 0} → (X → Y) → Option (Result Y Refusal) → Result (Option X) Halt → Type 0
RefinesIf view stated (Ok None) = stated ≡ None
RefinesIf view stated (Ok (Some x)) = stated ≡ Some (Ok (view x))
RefinesIf view stated (Err halts.Memory) = Unit {0}
RefinesIf view stated (Err (halts.Refused r)) = stated ≡ Some (Err r)
