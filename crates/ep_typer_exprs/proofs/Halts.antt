-- Halts whose refusal of a bit-field is named on the line of a statement.
use Rattle.std.proofs.Common.{◌≡◌, ℕ, ap}
use Rattle.std.specs.Prelude.{Result, Ok, Err}
use Rattle.ep_ast.specs.declared.refusals.Refusal.{Refusal}
use Rattle.ep_ast.specs.declared.refusals.Halt.{Halt}
use Rattle.ep_ast.specs.declared.refusals.Halt.TheVariants as halts
use Rattle.ep_typing.specs.Results.{on_statement}
use Rattle.ep_operands.specs.Refinement.{Stops, Refines, halt_at}

-- where a halt stops as is stated, it does so on the statement's line too
pub stops_on_statement : {Y : Type 0} (l : ℕ) (stated : Result Y Refusal) (h : Halt) → Stops stated h
    → Stops (on_statement l stated) (halt_at l h)
stops_on_statement l stated halts.Memory s = tt
stops_on_statement l stated (halts.Refused r) s = ap (on_statement l) s

-- what is stated without an offence is so on every line
pub states_on_statement : {Y : Type 0} (l : ℕ) (stated : Result Y Refusal) (y : Y) → stated ≡ Ok y
    → on_statement l stated ≡ Ok y
states_on_statement l stated y e = ap (on_statement l) e

-- what code that names a bit-field on this line returns
abbrev pub answered_at : {X : Type 0} → (line : ℕ) → Result X Halt → Result X Halt
answered_at l (Ok x) = Ok x
answered_at l (Err h) = Err (halt_at l h)

pub refines_on_statement : {X Y : Type 0} (view : X → Y) (l : ℕ) (stated : Result Y Refusal) (r : Result X Halt)
    → Refines view stated r → Refines view (on_statement l stated) (answered_at l r)
refines_on_statement view l stated (Ok x) h = ap (on_statement l) h
refines_on_statement view l stated (Err e) h = stops_on_statement l stated e h
