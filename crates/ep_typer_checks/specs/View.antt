-- What the walk through a text adds.
use Rattle.std.specs.Prelude.{◌≡◌, ℕ, suc, List, [], ◌++◌, map, Option, None, Some}
use Rattle.std.specs.Global.{Vec}
use Rattle.std.specs.Option.{option_map}
use Rattle.ep_ast.specs.declared.statements.FunctionTree.{FunctionTree}
use Rattle.ep_ast.specs.Declaration.{Value, single, listed}
use Rattle.ep_ast.specs.Expression as source
use Rattle.ep_ast.specs.Statement as tree
use Rattle.ep_call_graph.specs.declared.places.CallSite.{CallSite}
use Rattle.ep_call_graph.specs.View.{call_sites}
use Rattle.ep_elaboration.specs.Calls as rule
use Rattle.ep_elaboration.specs.Programs.{function_number}
use Rattle.ep_typing.specs.Env.{Env}

-- the number of a name, or 0
abbrev pub number : Env → List ℕ → ℕ
number G t = function_number G.functions t

-- a statement of the function of this number, where callees go by their numbers
abbrev pub call_site : (number : List ℕ → ℕ) → (caller : ℕ) → rule.Stand → rule.CallSite
call_site number f s = record {
  caller = f;
  depth = s.depth;
  line = s.line;
  callee = option_map number s.callee;
}

abbrev pub calls_none : (caller depth : ℕ) → rule.CallSite
calls_none f d = record { caller = f; depth = d; line = 0; callee = None }

-- what an initialiser gives counts as a statement
abbrev pub given : (depth : ℕ) → Value → rule.Stand
given d (single e) = rule.call_in d e
given d (listed l vs) = rule.calls_none d

-- an expression as a statement, or an empty one
abbrev pub evaluated : (depth : ℕ) → Option source.Expr → rule.Stand
evaluated d None = rule.calls_none d
evaluated d (Some e) = rule.evaluation d e

-- a statement without those in it
abbrev pub itself : (depth : ℕ) → tree.Stmt → rule.Stand
itself d (tree.evaluate l e) = evaluated d e
itself d s = rule.calls_none d

-- the statements in a statement that stands at this depth
abbrev pub inner : (depth : ℕ) → tree.Stmt → List rule.Stand
inner d (tree.block l ps) = rule.stands_in_parts d ps
inner d (tree.evaluate l e) = []
inner d (tree.if_then l e s) = rule.stands d s
inner d (tree.if_else l e s u) = rule.stands d s ++ rule.stands d u
inner d (tree.while_loop l e s) = rule.stands d s
inner d (tree.do_loop l s e) = rule.stands d s
inner d (tree.for_loop l f e g s) = rule.first_stands (suc d) f ++ rule.stands d s
inner d (tree.break_loop l) = []
inner d (tree.continue_loop l) = []
inner d (tree.return_value l e) = []

-- a statement with the name of its function
abbrev pub call_site_of : (number : List ℕ → ℕ) → rule.Placed → rule.CallSite
call_site_of number p = call_site number (number p.0) p.1

-- these statements come behind the others
pub record Adds {X : Type 0} (shown : X → rule.CallSite) (old new : List CallSite) (more : List X) : Type 0 where
  pub items : call_sites new ≡ call_sites old ++ map shown more

-- functions by byte order
abbrev pub in_arms : List tree.Function → Option (Vec FunctionTree) → List rule.Placed
in_arms fs gs = rule.conditionals fs ++ (rule.in_functions 1 fs ++ rule.in_arm (option_map tree.functions_of gs))
