-- Whole programs, by rules without an order. C11 6.9, and this project's checks.
use Rattle.std.specs.Prelude.{◌≡◌, [], ◌∷◌, ◌++◌, ℕ, Bool, true, List, Option, Ok, length}
use Rattle.ep_ast.specs.Kind as kinds
use Rattle.ep_core.specs.Program as core
use Rattle.ep_ast.specs.Statement as tree
use Rattle.ep_ast.specs.Declaration.{Aggregate, Declaration, Head, Typedef, to_specs}
use Rattle.ep_ast.specs.Statement.{Function, Item, completes, declares_all, defines, functions_by_order, typedefs}
use Rattle.ep_ast.specs.declared.orders.NamedOrder.{NamedOrder}
use Rattle.ep_elaboration.specs.Calls.{CallSite, calls_of, function_depth}
use Rattle.ep_elaboration.specs.Declarations.{Made}
use Rattle.ep_elaboration.specs.Functions.{Defined, numbers_of}
use Rattle.ep_elaboration.specs.Programs.{Sofar, all_fit, all_have_bodies, begun, functions_in, main_of, none_recurs}
use Rattle.ep_elaboration.specs.Programs.{not_too_deep, order_of, call_sites_of, program_of, with_defined, with_env}
use Rattle.ep_elaboration.specs.DeclaratorRules.{MeansBody, MeansSpecs, MeansTypedefs}
use Rattle.ep_elaboration.specs.FunctionRules.{MeansArms, MeansDefinition, MeansPrototype}
use Rattle.ep_elaboration.specs.GivenRules.{MeansDeclaration}
use Rattle.ep_int.specs.declared.types.Model.{Model}
use Rattle.ep_typing.specs.Env.{Env}
use Rattle.ep_typing.specs.Results.{needed}
use Rattle.ep_typing.specs.declared.types.CType.{CType}

-- what stands at file scope (C11 6.9)
pub data MeansItem : Sofar → Item → Sofar → Type 0 where
  item_typedefs : {s : Sofar} {t : Typedef} (c : CType × Env) (H : Env) → MeansSpecs s.env [] [] (to_specs t.specs) c
      → MeansTypedefs c.1 c.0 t.declarators H → MeansItem s (typedefs t) (with_env s H)
  item_defines : {s : Sofar} {f : Function} (d : Defined × Env) → MeansDefinition s.env (numbers_of s.defined) f d
      → MeansItem s (defines f) (with_defined s (d.0 ∷ [], d.1))
  item_prototype : {s : Sofar} {h : Head} (H : Env) → MeansPrototype s.env (numbers_of s.defined) h H
      → MeansItem s (tree.prototype h) (with_env s H)
  item_declares : {s : Sofar} {d : Declaration} (m : Made × Env) → MeansDeclaration s.env true true d m
      → MeansItem s (declares_all d) (record s { env = m.1; values = s.values ++ m.0.values })
  item_completes : {s : Sofar} {a : Aggregate} (c : CType × Env) → MeansBody s.env [] a c
      → MeansItem s (completes a) (with_env s c.1)
  item_arms : {s : Sofar} {l : ℕ} {o : NamedOrder} {fs : List Function} {gs : Option (List Function)}
      (d : List Defined × Env)
      → MeansArms s.env (numbers_of s.defined) l o fs (functions_in gs) d
      → MeansItem s (functions_by_order l o fs gs) (with_defined s d)

-- the text of a program
pub data MeansItems : Sofar → List Item → Sofar → Type 0 where
  no_items : {s : Sofar} → MeansItems s [] s
  more_items : {s : Sofar} {i : Item} {is : List Item} (u v : Sofar) → MeansItem s i u → MeansItems u is v
      → MeansItems s (i ∷ is) v

-- the checks of the whole program
pub data IsSound : Sofar → List CallSite → Defined → Type 0 where
  is_sound : {s : Sofar} {ps : List CallSite} (m : Defined) (bodies acyclic shallow small : Bool)
      → needed kinds.no_main (main_of s.defined) ≡ Ok m → all_have_bodies s.defined (calls_of ps) ≡ Ok bodies
      → none_recurs s m.number (calls_of ps) ≡ Ok acyclic
      → not_too_deep (function_depth ps (length s.env.functions) m.number) ≡ Ok shallow
      → all_fit s.env.blocks ≡ Ok small → IsSound s ps m

-- a whole program in a data model
pub data MeansProgram : Model → List Item → core.Program → Type 0 where
  is_program : {m : Model} {is : List Item} (s : Sofar) (d : Defined) → MeansItems (begun m) is s
      → IsSound s (call_sites_of s is) d
      → MeansProgram m is (program_of s d.number (order_of s (calls_of (call_sites_of s is))))
