-- What code that adds to an environment returned, and what it left, is what a definition states.
use Rattle.std.specs.Prelude.{◌≡◌, Result, Ok, Err}
use Rattle.ep_ast.specs.declared.refusals.Refusal.{Refusal}
use Rattle.ep_ast.specs.declared.refusals.Halt.{Halt}
use Rattle.ep_ast.specs.declared.refusals.Halt.TheVariants as halts
use Rattle.ep_operands.specs.Refinement.{Stops}

-- what was returned with the environment behind it, seen by view, is what is stated
abbrev pub RefinesIn : {X Y E : Type 0} → (X → Y) → Result (Y × E) Refusal → (after : E) → Result X Halt → Type 0
RefinesIn view stated after (Ok x) = stated ≡ Ok (view x, after)
RefinesIn view stated after (Err e) = Stops stated e

-- the same of what gives nothing but the environment
abbrev pub Adds : {X E : Type 0} → Result E Refusal → (after : E) → Result X Halt → Type 0
Adds stated after (Ok x) = stated ≡ Ok after
Adds stated after (Err e) = Stops stated e

-- what holds where code didn't want memory
abbrev pub OnAnswer : {X : Type 0} → Result X Halt → Type 0 → Type 0
OnAnswer (Ok x) P = P
OnAnswer (Err (halts.Refused r)) P = P
OnAnswer (Err halts.Memory) P = Unit {0}
