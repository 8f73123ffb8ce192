-- What the checks of a whole program answer, and its parts in code as those of the definition.
use Rattle.std.specs.Prelude.{ℕ, Bool, true, false, not, ◌||◌, ◌==◌, List, Option, slice_index, slice_index_or}
use Rattle.std.specs.Prelude.{Result, Ok}
use Rattle.ep_ast.specs.Kind as kinds
use Rattle.ep_ast.specs.declared.refusals.Refusal.{Refusal}
use Rattle.ep_typing.specs.Results.{◌>>=◌, at, needed}
use Rattle.ep_elaboration.specs.Functions.{Defined}
use Rattle.ep_elaboration.specs.Calls.{Call}
use Rattle.ep_typer_checks.specs.declared.bodies.Main.{Main}
use Rattle.ep_typer_checks.specs.declared.checks.CallOrder.{CallOrder}

-- a check answers nothing but that it passes
abbrev pub passed : {X : Type 0} → X → Bool
passed x = true

abbrev pub main : Main → ℕ × ℕ
main m = (m.number, m.line)

-- the number and the line of main, or 36
abbrev pub main_in : Option Defined → Result (ℕ × ℕ) Refusal
main_in o = at 1 (needed kinds.no_main o) >>= (λ d. Ok (d.number, d.function.line))

-- of what the checks answer, the number of main
abbrev pub number_in : Result Defined Refusal → Result ℕ Refusal
number_in r = r >>= (λ d. Ok d.number)

abbrev pub main_number : CallOrder → ℕ
main_number c = c.main

-- a call of a function without a flag
abbrev pub has_none : (flags : List Bool) → Call → Bool
has_none flags c = not (slice_index_or flags c.callee false)

-- a call of main, or one whose ends have one label
abbrev pub closes_at : (labels : List ℕ) → (main caller callee : ℕ) → Bool
closes_at labels main f g = g == main || slice_index labels g == slice_index labels f

abbrev pub closes : (labels : List ℕ) → (main : ℕ) → Call → Bool
closes labels main c = closes_at labels main c.caller c.callee
