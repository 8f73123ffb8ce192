-- Values behind those that are there already.
use Rattle.std.specs.Prelude.{Result, Ok, Err}
use Rattle.ep_ast.specs.declared.refusals.Refusal.{Refusal}
use Rattle.ep_core.specs.Program.{What}
use Rattle.ep_elaboration.specs.Given.{Given, one_given}

-- what comes by one step, by the operation that joins it to what is done
abbrev pub behind : {M : Type 0} → (both : M → M → M) → M → Result M Refusal → Result M Refusal
behind both done (Ok m) = Ok (both done m)
behind both done (Err r) = Err r

-- the same with the environment after it
abbrev pub all_behind : {M E : Type 0} → (both : M → M → M) → M → Result (M × E) Refusal → Result (M × E) Refusal
all_behind both done (Ok p) = Ok (both done p.0, p.1)
all_behind both done (Err r) = Err r

-- one statement and no more
abbrev pub alone : Result What Refusal → Result Given Refusal
alone (Ok w) = Ok (one_given w)
alone (Err r) = Err r
