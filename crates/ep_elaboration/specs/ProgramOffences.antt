-- For what items and programs are refused: the first offence in each, where what stands before it means something.
-- C11 6.9.
use Rattle.std.specs.Prelude.{◌≡◌, [], ◌∷◌, ℕ, Bool, true, List, Option, Ok, Err, length}
use Rattle.ep_ast.specs.Kind as kinds
use Rattle.ep_ast.specs.Statement as tree
use Rattle.ep_ast.specs.Declaration.{Aggregate, Declaration, Head, Typedef, to_specs}
use Rattle.ep_ast.specs.Statement.{Function, Item, completes, declares_all, defines, functions_by_order, typedefs}
use Rattle.ep_ast.specs.declared.orders.NamedOrder.{NamedOrder}
use Rattle.ep_ast.specs.declared.refusals.Refusal.{Refusal}
use Rattle.ep_elaboration.specs.Calls.{CallSite, calls_of, function_depth}
use Rattle.ep_elaboration.specs.Functions.{Defined, numbers_of}
use Rattle.ep_elaboration.specs.Programs.{Sofar, all_fit, all_have_bodies, begun, functions_in, main_of, none_recurs}
use Rattle.ep_elaboration.specs.Programs.{not_too_deep, call_sites_of}
use Rattle.ep_elaboration.specs.DeclaratorRules.{MeansSpecs}
use Rattle.ep_elaboration.specs.DeclaratorOffences.{BodyOffends, SpecsOffend, TypedefsOffend}
use Rattle.ep_elaboration.specs.FunctionOffences.{ArmsOffend, DefinitionOffends, PrototypeOffends}
use Rattle.ep_elaboration.specs.GivenOffences.{DeclarationOffends}
use Rattle.ep_int.specs.declared.types.Model.{Model}
use Rattle.ep_typing.specs.Env.{Env}
use Rattle.ep_typing.specs.Results.{needed}
use Rattle.ep_typing.specs.declared.types.CType.{CType}
use Rattle.ep_typing.specs.Offences.{refusal}
use Rattle.ep_elaboration.specs.ProgramRules.{MeansItem, MeansItems}

pub data ItemOffends : Sofar → Item → Refusal → Type 0 where
  in_typedef_specs : {s : Sofar} {t : Typedef} {r : Refusal} → SpecsOffend s.env [] [] (to_specs t.specs) r
      → ItemOffends s (typedefs t) r
  in_typedefs : {s : Sofar} {t : Typedef} {r : Refusal} (c : CType × Env)
      → MeansSpecs s.env [] [] (to_specs t.specs) c → TypedefsOffend c.1 c.0 t.declarators r
      → ItemOffends s (typedefs t) r
  in_definition : {s : Sofar} {f : Function} {r : Refusal} → DefinitionOffends s.env (numbers_of s.defined) f r
      → ItemOffends s (defines f) r
  in_item_prototype : {s : Sofar} {h : Head} {r : Refusal} → PrototypeOffends s.env (numbers_of s.defined) h r
      → ItemOffends s (tree.prototype h) r
  in_global_declaration : {s : Sofar} {d : Declaration} {r : Refusal} → DeclarationOffends s.env true true d r
      → ItemOffends s (declares_all d) r
  in_aggregate : {s : Sofar} {a : Aggregate} {r : Refusal} → BodyOffends s.env [] a r → ItemOffends s (completes a) r
  in_arms : {s : Sofar} {l : ℕ} {o : NamedOrder} {fs : List Function} {gs : Option (List Function)} {r : Refusal}
      → ArmsOffend s.env (numbers_of s.defined) l o fs (functions_in gs) r
      → ItemOffends s (functions_by_order l o fs gs) r

pub data ItemsOffend : Sofar → List Item → Refusal → Type 0 where
  in_first_item : {s : Sofar} {i : Item} {is : List Item} {r : Refusal} → ItemOffends s i r → ItemsOffend s (i ∷ is) r
  in_later_item : {s : Sofar} {i : Item} {is : List Item} {r : Refusal} (u : Sofar) → MeansItem s i u
      → ItemsOffend u is r → ItemsOffend s (i ∷ is) r

pub data UnsoundBy : Sofar → List CallSite → Refusal → Type 0 where
  no_main : {s : Sofar} {ps : List CallSite} {kind : ℕ} → needed kinds.no_main (main_of s.defined) ≡ Err kind
      → UnsoundBy s ps (refusal kind 1)
  no_body : {s : Sofar} {ps : List CallSite} {r : Refusal} (m : Defined) → needed kinds.no_main (main_of s.defined)
      ≡ Ok m
      → all_have_bodies s.defined (calls_of ps) ≡ Err r → UnsoundBy s ps r
  recursion : {s : Sofar} {ps : List CallSite} {r : Refusal} (m : Defined) (bodies : Bool)
      → needed kinds.no_main (main_of s.defined) ≡ Ok m → all_have_bodies s.defined (calls_of ps) ≡ Ok bodies
      → none_recurs s m.number (calls_of ps) ≡ Err r → UnsoundBy s ps r
  too_deep : {s : Sofar} {ps : List CallSite} {kind : ℕ} (m : Defined) (bodies acyclic : Bool)
      → needed kinds.no_main (main_of s.defined) ≡ Ok m → all_have_bodies s.defined (calls_of ps) ≡ Ok bodies
      → none_recurs s m.number (calls_of ps) ≡ Ok acyclic
      → not_too_deep (function_depth ps (length s.env.functions) m.number) ≡ Err kind
      → UnsoundBy s ps (refusal kind m.function.line)
  too_large : {s : Sofar} {ps : List CallSite} {kind : ℕ} (m : Defined) (bodies acyclic shallow : Bool)
      → needed kinds.no_main (main_of s.defined) ≡ Ok m → all_have_bodies s.defined (calls_of ps) ≡ Ok bodies
      → none_recurs s m.number (calls_of ps) ≡ Ok acyclic
      → not_too_deep (function_depth ps (length s.env.functions) m.number) ≡ Ok shallow
      → all_fit s.env.blocks ≡ Err kind → UnsoundBy s ps (refusal kind 1)

pub data ProgramOffends : Model → List Item → Refusal → Type 0 where
  in_text : {m : Model} {is : List Item} {r : Refusal} → ItemsOffend (begun m) is r → ProgramOffends m is r
  in_checks : {m : Model} {is : List Item} {r : Refusal} (s : Sofar) → MeansItems (begun m) is s
      → UnsoundBy s (call_sites_of s is) r → ProgramOffends m is r
