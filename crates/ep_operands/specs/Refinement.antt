-- What code returned is what a definition states: the same value, the same refusal, or want of memory.
use Rattle.std.specs.Prelude.{◌≡◌, ℕ, Result, Ok, Err}
use Rattle.ep_ast.specs.declared.refusals.Refusal.{Refusal}
use Rattle.ep_ast.specs.declared.refusals.Halt.{Halt}
use Rattle.ep_ast.specs.declared.refusals.Halt.TheVariants as halts
use Rattle.ep_typing.specs.Results.{at_statement}

-- want of memory, or the refusal that is stated
abbrev pub Stops : {Y : Type 0} → Result Y Refusal → Halt → Type 0
Stops stated halts.Memory = Unit {0}
Stops stated (halts.Refused r) = stated ≡ Err r

-- what was returned, seen by view, is what is stated
abbrev pub Refines : {X Y : Type 0} → (X → Y) → Result Y Refusal → Result X Halt → Type 0
Refines view stated (Ok x) = stated ≡ Ok (view x)
Refines view stated (Err e) = Stops stated e

-- the same, where a bit-field that may not stand there is named on this line
abbrev pub halt_at : (line : ℕ) → Halt → Halt
halt_at l halts.Memory = halts.Memory
halt_at l (halts.Refused r) = halts.Refused (at_statement l r)
