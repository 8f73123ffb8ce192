-- What the code keeps of functions, seen as what the definitions speak of.
use Rattle.std.specs.Prelude.{◌≡◌, ℕ, Bool, false, if◌then◌else◌, List, Option, Some, None, Result, Ok, Err}
use Rattle.std.specs.Prelude.{slice_get, unwrap_or}
use Rattle.std.specs.Global.{Vec}
use Rattle.ep_ast.specs.Kind as kinds
use Rattle.ep_ast.specs.declared.refusals.Refusal.{Refusal}
use Rattle.ep_ast.specs.declared.refusals.Halt.{Halt}
use Rattle.ep_int.specs.Memory.{contains}
use Rattle.ep_layout.specs.Table.{Table}
use Rattle.ep_typing.specs.declared.types.CType.{CType}
use Rattle.ep_typing.specs.Env.{Signature}
use Rattle.ep_typing.specs.Types.{element_of, is_aggregate, is_array, is_void, pointer_to}
use Rattle.ep_operands.specs.Refinement.{Stops}
use Rattle.ep_elaboration.specs.Functions as rule
use Rattle.ep_scopes.specs.declared.env.FunctionType.{FunctionType}
use Rattle.ep_typer_functions.specs.declared.done.Done.{Done}

abbrev pub has_body : Done → ℕ → Bool
has_body d n = unwrap_or (slice_get d.marks.items n) false

-- the functions that have a body are these
abbrev pub AreDone : Done → List ℕ → Type 0
AreDone d ns = (n : ℕ) → contains n ns ≡ has_body d n

-- ---- parameters

abbrev pub counts_of : Option (Vec ℕ) → Option (List ℕ)
counts_of None = None
counts_of (Some v) = Some v.items

-- a parameter of an array type is a pointer to its elements
abbrev pub adjusted : Table → CType → CType
adjusted t c = if is_array c then pointer_to (element_of t c) else c

-- incomplete_type: void. struct_by_value: an aggregate.
abbrev pub passable_type : CType → Result CType ℕ
passable_type c =
    if is_void c then Err kinds.incomplete_type else if is_aggregate c then Err kinds.struct_by_value else Ok c

-- ---- heads

abbrev pub headed : FunctionType → rule.Headed
headed t = record { result = t.result; params = t.params.items }

abbrev pub signature : List ℕ → FunctionType → Signature
signature name t = record { name = name; params = t.params.items; result = t.result }

-- ---- functions by their names

-- that something is stated, or for what it stops
abbrev pub Foretells : {X A : Type 0} → Result X Refusal → Result A Halt → Type 0
Foretells {X = X} stated (Ok a) = (x : X) × (stated ≡ Ok x)
Foretells stated (Err e) = Stops stated e
