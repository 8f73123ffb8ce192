-- What is proved of whole programs.
use Rattle.std.specs.Prelude.{◌≡◌, ℕ, Bool, true, List, [], ◌∷◌, ◌++◌, Some, None, Result, Ok, Err}
use Rattle.ep_ast.specs.Kind as kinds
use Rattle.ep_int.specs.declared.types.Model.{Model}
use Rattle.ep_ast.specs.declared.orders.NamedOrder.{NamedOrder}
use Rattle.ep_ast.specs.declared.refusals.Refusal.{Refusal}
use Rattle.ep_ast.specs.Statement.{Function, Item, functions_by_order}
use Rattle.ep_core.specs.Program.{Program}
use Rattle.ep_core.specs.WellFormed.{is_well_formed}
use Rattle.ep_typing.specs.Env.{Env, entry}
use Rattle.ep_typing.specs.Results.{◌>>=◌}
use Rattle.ep_typing.specs.Offences.{refusal}
use Rattle.ep_elaboration.specs.Functions.{Defined, file_names, number_of_function}
use Rattle.ep_elaboration.specs.FunctionSteps.{arms_agree, functions_defined}
use Rattle.ep_elaboration.specs.Functions.{numbers_of}
use Rattle.ep_elaboration.specs.Programs.{Sofar, begun}
use Rattle.ep_elaboration.specs.ProgramSteps.{elaborated, items}

-- What a source means in a data model is a well-formed program.
abbrev pub ProgramsFit : Type 0
ProgramsFit = (m : Model) (is : List Item) (p : Program) → elaborated m is ≡ Ok p → is_well_formed p ≡ true

-- Behind items, and behind the functions of a first arm there, no function has a name that isn't seen. So it is in the
-- second arm alone that a function is compared with one whose name isn't seen.
abbrev pub AllAreSeen : Type 0
AllAreSeen = (m : Model) (is : List Item) (s : Sofar) (fs : List Function) (a : List Defined × Env) (t : List ℕ)
    → items (begun m) is ≡ Ok s → functions_defined s.env (numbers_of s.defined) fs ≡ Ok a
    → entry t (file_names a.1) ≡ None → number_of_function a.1.functions t ≡ None

-- whether two arms agree behind a text
abbrev pub agree_behind : Model → List Item → (first second : List Function) → Result Bool Refusal
agree_behind m is fs gs = do
  s ← items (begun m) is
  Ok (arms_agree s.env (numbers_of s.defined) fs gs)

-- Where arms agree, there may be a function of another type in the second one, for a head that can't stand by itself is
-- taken for alike. It is refused there (redeclared).
abbrev pub ArmsMayDiffer : Type 0
ArmsMayDiffer = (m : Model) × (is : List Item) × (o : NamedOrder) × (first second : List Function) × (line : ℕ)
    × (agree_behind m is first second ≡ Ok true)
    × (items (begun m) (is ++ functions_by_order 1 o first (Some second) ∷ []) ≡ Err (refusal kinds.redeclared line))
