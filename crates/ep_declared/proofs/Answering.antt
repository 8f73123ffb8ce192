-- What holds where code didn't want memory, from one call to the next.
use Rattle.std.proofs.Common.{Result, Ok, Err}
use Rattle.ep_ast.specs.declared.refusals.Halt.{Halt}
use Rattle.ep_ast.specs.declared.refusals.Halt.TheVariants as halts
use Rattle.ep_declared.specs.Refinement.{OnAnswer}

pub on_answer : {X : Type 0} (r : Result X Halt) (P Q : Type 0) → (P → Q) → OnAnswer r P → OnAnswer r Q
on_answer (Ok x) P Q f h = f h
on_answer (Err (halts.Refused r)) P Q f h = f h
on_answer (Err halts.Memory) P Q f h = tt

-- what a call's refusal is handed on as
pub on_stop : (X Y : Type 0) (e : Halt) (P Q : Type 0) → (P → Q) → OnAnswer {X = X} (Err e) P
    → OnAnswer {X = Y} (Err e) Q
on_stop X Y (halts.Refused r) P Q f h = f h
on_stop X Y halts.Memory P Q f h = tt

-- what holds anyway
pub answered : {X : Type 0} (r : Result X Halt) (P : Type 0) → P → OnAnswer r P
answered (Ok x) P h = h
answered (Err (halts.Refused r)) P h = h
answered (Err halts.Memory) P h = tt
