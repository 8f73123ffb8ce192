-- What a declarator declares, and its kinds in order: C11 6.7.6, 6.7.6.2 and 6.7p3.
use Rattle.std.specs.Prelude.{ℕ, Bool, if◌then◌else◌, ◌||◌, List, [], ◌∷◌, ◌++◌, length, Option, Some, None, is_some}
use Rattle.std.specs.Prelude.{Result, Ok, Err, pos}
use Rattle.ep_ast.specs.Kind as kinds
use Rattle.ep_ast.specs.declared.refusals.Refusal.{Refusal}
use Rattle.ep_ast.specs.Expression as source
use Rattle.ep_ast.specs.Declaration.{Declarator}
use Rattle.ep_layout.specs.declared.types.Ty.{Ty}
use Rattle.ep_layout.specs.declared.types.Ty.TheVariants as rows
use Rattle.ep_layout.specs.declared.types.LayoutStop.{LayoutStop}
use Rattle.ep_layout.specs.declared.types.LayoutStop.TheVariants as stops
use Rattle.ep_layout.specs.Table.{Table, type_added, type_stop}
use Rattle.ep_core.specs.Program as core
use Rattle.ep_typing.specs.declared.types.Base.TheVariants as bases
use Rattle.ep_typing.specs.declared.types.CType.{CType}
use Rattle.ep_typing.specs.Results.{◌>>=◌, at, needed, on_statement}
use Rattle.ep_typing.specs.Types.{c_type_number, known_number, size_of_type, whole, with_c_type, with_stars}
use Rattle.ep_typing.specs.Env.{Env, Meaning, Scope, variable, type_name, entry}
use Rattle.ep_typing.specs.Names.{mentioned}
use Rattle.ep_typing.specs.Operand.{Value, value_of}
use Rattle.ep_typing.specs.Constant.{count_in, count_of}
use Rattle.ep_typing.specs.Parts.{built_in}
use Rattle.ep_typing.specs.Typing.{typed}

-- ---- bounds

-- array_bound: not a constant from 1 to 65,536, whatever else it is (C11 6.7.6.2p1 and this project's limit)
abbrev pub counted : Result Value ℕ → Result ℕ ℕ
counted (Ok v) = needed kinds.array_bound (count_of v)
counted (Err k) = Err kinds.array_bound

-- a bound is an expression of its own; a missing one is array_bound, on the line of the declared name
unfoldable pub bound : Env → ℕ → Option source.Expr → Result (ℕ × Env) Refusal
bound G l None = at l (Err kinds.array_bound)
bound G l (Some e) = do
  x ← on_statement l (typed (mentioned G e) e)
  n ← at l (counted (value_of (mentioned G e).types x))
  Ok (n, mentioned G e)

-- the bounds from left to right
unfoldable pub bounds : Env → ℕ → List (Option source.Expr) → Result (List ℕ × Env) Refusal
bounds G l [] = Ok ([], G)
bounds G l (b ∷ bs) = do
  r ← bound G l b
  q ← bounds r.1 l bs
  Ok (r.0 ∷ q.0, q.1)

-- the bounds of an object, where a list that gives its first values gives the first bound if that is missing (C11
-- 6.7.9p22)
unfoldable pub object_bounds : Env → ℕ → (listed : Option ℕ) → List (Option source.Expr) → Result (List ℕ × Env) Refusal
object_bounds G l (Some n) (None ∷ bs) = do
  k ← at l (needed kinds.array_bound (count_in (pos n)))
  q ← bounds G l bs
  Ok (k ∷ q.0, q.1)
object_bounds G l listed bs = bounds G l bs

-- ---- array types

-- incomplete_type: elements without a size. too_large: past 65,536 bytes.
abbrev pub stop_kind : LayoutStop → ℕ
stop_kind stops.Incomplete = kinds.incomplete_type
stop_kind stops.TooLarge = kinds.too_large
stop_kind stops.Memory = 0

abbrev pub made : Table → Ty → Option LayoutStop → Result (CType × Table) ℕ
made t row (Some s) = Err (stop_kind s)
made t row None = let u = type_added t row in Ok (whole (bases.Array (known_number u row)), u)

-- an array of so many of these comes into the table (C11 6.7.6.2p1)
unfoldable pub array_of : Table → CType → ℕ → Result (CType × Table) ℕ
array_of t c n = let u = with_c_type t c in let row = rows.Array (c_type_number u c) n in made u row (type_stop u row)

-- the last bound is that of the innermost elements
unfoldable pub arrays_of : Table → CType → List ℕ → Result (CType × Table) ℕ
arrays_of t c [] = Ok (c, with_c_type t c)
arrays_of t c (n ∷ ns) = do
  r ← arrays_of t c ns
  array_of r.1 r.0 n

-- ---- names

-- redeclared: a name that its scope has, or a built-in one (C11 6.7p3 and this project's rule)
abbrev pub is_taken : List ℕ → List Scope → Bool
is_taken t [] = is_some (entry t built_in)
is_taken t (s ∷ ss) = is_some (entry t s.names) || is_some (entry t built_in)

abbrev pub name_in : List Scope → List ℕ → Meaning → List Scope
name_in [] t x = []
name_in (s ∷ ss) t x = record s { names = s.names ++ (t, x) ∷ [] } ∷ ss

abbrev pub with_name : Env → List ℕ → Meaning → Env
with_name G t x = record G { scopes = name_in G.scopes t x }

abbrev pub with_types : Env → Table → Env
with_types G t = record G { types = t }

abbrev pub with_block : Env → core.Block → Env
with_block G b = record G { blocks = G.blocks ++ b ∷ [] }

-- ---- objects

-- an object, or a part of one: its place, and how many bytes behind the start of which block it lies
pub record Object : Type 0 where
  pub place : core.Place
  pub block : ℕ
  pub offset : ℕ
  pub ty : CType

-- a variable with a block of its own
abbrev pub object_of : Env → (global : Bool) → List ℕ → CType → (size : ℕ) → Object × Env
object_of G global t c n = let b = length G.blocks in (
  record { place = core.block b; block = b; offset = 0; ty = c },
  with_name (with_block G (record { size = n; ty = c_type_number G.types c; global = global })) t (variable b c),
)

unfoldable pub sized_object : Env → (global : Bool) → List ℕ → CType × Table → Result (Object × Env) ℕ
sized_object G global t r = do
  n ← needed kinds.incomplete_type (size_of_type r.1 r.0)
  Ok (object_of (with_types G r.1) global t r.0 n)

-- at the declarator of an object the lowest of redeclared, incomplete_type and too_large
unfoldable pub declared_object : Env → (global : Bool) → List ℕ → CType → List ℕ → Result (Object × Env) ℕ
declared_object G global t c ns =
    if is_taken t G.scopes then Err kinds.redeclared else arrays_of G.types c ns >>= sized_object G global t

-- an object by its declarator, the type of the words before it, and how many values a list gives it
unfoldable pub object_declared : Env → (global : Bool) → (listed : Option ℕ) → CType → Declarator
    → Result (Object × Env) Refusal
object_declared G global listed c d = do
  r ← object_bounds G d.line listed d.bounds
  at d.line (declared_object r.1 global d.name (with_stars c (length d.stars)) r.0)

-- ---- typedefs

abbrev pub named_type_of : Env → List ℕ → CType × Table → Result Env ℕ
named_type_of G t r = Ok (with_name (with_types G r.1) t (type_name r.0))

-- a typedef names a type, which needs no size unless it is an array (C11 6.7.8)
unfoldable pub declared_type : Env → List ℕ → CType → List ℕ → Result Env ℕ
declared_type G t c ns =
    if is_taken t G.scopes then Err kinds.redeclared else arrays_of G.types c ns >>= named_type_of G t
