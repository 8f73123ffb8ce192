-- Items one after another, and the checks of the whole: what a program means, or the first offence (C11 6.9, and this
-- project's rules).
use Rattle.std.specs.Prelude.{List, [], ◌∷◌, ◌++◌, length}
use Rattle.std.specs.Prelude.{Result, Ok, true}
use Rattle.ep_ast.specs.declared.refusals.Refusal.{Refusal}
use Rattle.ep_ast.specs.Declaration.{Declarator, to_specs}
use Rattle.ep_typing.specs.declared.types.CType.{CType}
use Rattle.ep_typing.specs.Results.{◌>>=◌, at, needed}
use Rattle.ep_typing.specs.Types.{with_stars}
use Rattle.ep_typing.specs.Env.{Env}
use Rattle.ep_int.specs.declared.types.Model.{Model}
use Rattle.ep_ast.specs.Statement.{Item, typedefs, defines, declares_all, completes, functions_by_order}
use Rattle.ep_elaboration.specs.Declarators.{bounds, declared_type}
use Rattle.ep_elaboration.specs.Aggregates.{body_declared, specs_declared}
use Rattle.ep_elaboration.specs.Declarations.{declaration}
use Rattle.ep_elaboration.specs.Functions.{Defined, numbers_of, prototype}
use Rattle.ep_elaboration.specs.Calls.{CallSite, calls_of, function_depth}
use Rattle.ep_elaboration.specs.Programs.{Sofar, begun, with_env, with_defined, functions_in, call_sites_of, main_of}
use Rattle.ep_elaboration.specs.Programs.{all_have_bodies, none_recurs, not_too_deep, all_fit, order_of, program_of}
use Rattle.ep_elaboration.specs.FunctionSteps.{function_defined, arms_defined}
use Rattle.ep_ast.specs.Kind as kinds
use Rattle.ep_core.specs.Program as core
use Rattle.ep_ast.specs.Statement as tree

-- a typedef, by its declarator and the type of the words before it
unfoldable pub type_declared : Env → CType → Declarator → Result Env Refusal
type_declared G c d = do
  r ← bounds G d.line d.bounds
  at d.line (declared_type r.1 d.name (with_stars c (length d.stars)) r.0)

unfoldable pub types_declared : Env → CType → List Declarator → Result Env Refusal
types_declared G c [] = Ok G
types_declared G c (d ∷ ds) = do
  H ← type_declared G c d
  types_declared H c ds

unfoldable pub item : Sofar → Item → Result Sofar Refusal
item s (typedefs t) = do
  c ← specs_declared s.env [] [] (to_specs t.specs)
  G ← types_declared c.1 c.0 t.declarators
  Ok (with_env s G)
item s (defines f) = do
  r ← function_defined s.env (numbers_of s.defined) f
  Ok (with_defined s (r.0 ∷ [], r.1))
item s (tree.prototype h) = do
  G ← prototype s.env (numbers_of s.defined) h
  Ok (with_env s G)
item s (declares_all d) = do
  m ← declaration s.env true true d
  Ok (record s { env = m.1; values = s.values ++ m.0.values })
item s (completes a) = do
  c ← body_declared s.env [] a
  Ok (with_env s c.1)
item s (functions_by_order l o fs gs) = do
  r ← arms_defined s.env (numbers_of s.defined) l o fs (functions_in gs)
  Ok (with_defined s r)

unfoldable pub items : Sofar → List Item → Result Sofar Refusal
items s [] = Ok s
items s (i ∷ is) = do
  u ← item s i
  items u is

-- no_main: no body of main. The checks stand in this order: no_main, no_definition, recursion, call_depth, too_large.
unfoldable pub checked : Sofar → List CallSite → Result Defined Refusal
checked s ps = do
  m ← at 1 (needed kinds.no_main (main_of s.defined))
  bodies ← all_have_bodies s.defined (calls_of ps)
  acyclic ← none_recurs s m.number (calls_of ps)
  shallow ← at m.function.line (not_too_deep (function_depth ps (length s.env.functions) m.number))
  small ← at 1 (all_fit s.env.blocks)
  Ok m

-- What a program means in a data model, or the first offence: in the order of the text, then of the checks.
unfoldable pub elaborated : Model → List Item → Result core.Program Refusal
elaborated m is = do
  s ← items (begun m) is
  d ← checked s (call_sites_of s is)
  Ok (program_of s d.number (order_of s (calls_of (call_sites_of s is))))
