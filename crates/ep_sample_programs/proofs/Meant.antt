-- Each sample means a program.
use Rattle.std.proofs.Common.{◌≡◌, ℕ, List, [], ◌∷◌, ◌++◌, Some, Result, Ok, Err, true, false}
use Rattle.std.proofs.Common.{refl, ap, ◌∙◌}
use Rattle.ep_int.specs.declared.types.Model.TheVariants.{Ilp32}
use Rattle.ep_int.proofs.Basics.{some-injective}
use Rattle.ep_ast.specs.Kind as kinds
use Rattle.ep_ast.specs.declared.refusals.Refusal.{Refusal}
use Rattle.ep_ast.specs.Statement.{Part, to_parts, defines, Item}
use Rattle.ep_layout.specs.Table.{at_depth}
use Rattle.ep_core.specs.Program as core
use Rattle.ep_typing.specs.Env.{Env}
use Rattle.ep_typing.specs.Results.{◌>>=◌}
use Rattle.ep_elaboration.specs.Declarations.{Line}
use Rattle.ep_elaboration.specs.Statements.{parts, left, to_core, blocks_behind}
use Rattle.ep_elaboration.specs.Functions.{Defined, Typed, defined_of}
use Rattle.ep_elaboration.specs.Calls.{CallSite, calls_of}
use Rattle.ep_elaboration.specs.Programs.{Sofar, begun, with_defined, program_of, order_of, call_sites_of}
use Rattle.ep_elaboration.specs.ProgramSteps.{item, items}
use Rattle.ep_elaboration.specs.Programs.{none_breaks}
use Rattle.ep_elaboration.specs.ProgramRules.{MeansProgram, is_program, IsSound, is_sound}
use Rattle.ep_elaboration.proofs.Opened.{program}
use Rattle.ep_elaboration.proofs.ProgramOrder.{means_items}
use Rattle.ep_sample_trees.specs.Tree.{swaps, objects, fields_parts, tree_of}
use Rattle.ep_sample_trees.specs.Tree as tree
use Rattle.ep_sample_programs.proofs.Bodies.{behind_swaps, in_main, with_objects, behind, int, body}
use Rattle.ep_sample_programs.proofs.Checks.{AreSites, calls, all_bodies, no_recursion, is_shallow}
use Rattle.ep_sample_programs.proofs.Sites.{sites}

-- ---- what a sample comes to, where its body comes to these lines

abbrev typed : List Line × Env → Typed
typed a = record {
  number = 1;
  head = record { result = int; params = [] };
  body = record { line = 9; locals = blocks_behind 0 a.1; stmts = to_core a.0 };
}

abbrev defined : List Part → Typed → Defined
defined ps t = defined_of (tree.main_of ps) 2 t

abbrev made : List Part → List Line × Env → Sofar
made ps a = with_defined behind_swaps (defined ps (typed a) ∷ [], left a.1)

-- what `main` comes to by what its body does
abbrev typed_from : Result (List Line × Env) Refusal → Result (Typed × Env) Refusal
typed_from r = r >>= (λ a. Ok (typed a, left a.1))

abbrev defined_from : List Part → Result (Typed × Env) Refusal → Result (Defined × Env) Refusal
defined_from ps r = r >>= (λ t. Ok (defined ps t.0, t.1))

abbrev with_body : List Part → Result (List Line × Env) Refusal → Result Sofar Refusal
with_body ps r = defined_from ps (typed_from r) >>= (λ d. Ok (with_defined behind_swaps (d.0 ∷ [], d.1)))

first_item : item (begun Ilp32) swaps ≡ Ok behind_swaps
unfolding program at_depth behind_swaps
first_item = refl

second_item : (ps : List Part)
    → item behind_swaps (defines (tree.main_of ps)) ≡ with_body ps (parts in_main int false (to_parts ps))
unfolding program at_depth behind_swaps in_main
second_item ps = refl

both_items : (s u v : Sofar) (i j : Item) → item s i ≡ Ok u → item u j ≡ Ok v → items s (i ∷ j ∷ []) ≡ Ok v
unfolding items
both_items s u v i j e f = rw e (rw f refl)

all_items : (ps : List Part) (a : List Line × Env) → parts in_main int false (to_parts ps) ≡ Ok a
    → items (begun Ilp32) (swaps ∷ defines (tree.main_of ps) ∷ []) ≡ Ok (made ps a)
all_items ps a e =
    both_items (begun Ilp32) behind_swaps (made ps a) swaps (defines (tree.main_of ps)) first_item
    (second_item ps ∙ ap (with_body ps) e)

-- ---- the checks

sound : (ps : List Part) (ls : List Line) (cs : List CallSite) → AreSites cs
    → IsSound (made ps (ls, with_objects)) cs (defined ps (typed (ls, with_objects)))
unfolding program at_depth behind_swaps in_main with_objects
sound ps ls cs s =
    is_sound (defined ps (typed (ls, with_objects))) true true true true refl
    (ap (none_breaks kinds.no_definition) (all_bodies (calls_of cs) (calls s)))
    (ap (none_breaks kinds.recursion) (no_recursion (calls_of cs) (calls s)))
    (rw (is_shallow s) refl)
    refl

-- ---- the whole

of_lines : (start n : ℕ) (ls : List Line)
    → parts in_main int false (to_parts (objects ++ fields_parts start 13 n)) ≡ Ok (ls, with_objects)
    → (p : core.Program) × MeansProgram Ilp32 (tree_of start n) p
of_lines start n ls e =
    let ps = objects ++ fields_parts start 13 n in
    let s = made ps (ls, with_objects) in
    let d = defined ps (typed (ls, with_objects)) in
    let cs = call_sites_of s (tree_of start n) in (
      program_of s d.number (order_of s (calls_of cs)),
      is_program s d (means_items (begun Ilp32) (tree_of start n) s (all_items ps (ls, with_objects) e))
          (sound ps ls cs (sites start n)),
    )

lines : (r : Result (List Line × Env) Refusal) → behind r ≡ Some with_objects
    → (ls : List Line) × (r ≡ Ok (ls, with_objects))
lines (Ok a) e = (a.0, ap (λ (F : Env). Ok (a.0, F)) (some-injective e))
lines (Err r) e = absurd cc

pub means : (start fields : ℕ) → (p : core.Program) × MeansProgram Ilp32 (tree_of start fields) p
means start fields =
    let b = lines (parts in_main int false (to_parts (objects ++ fields_parts start 13 fields))) (body start fields) in
    of_lines start fields b.0 b.1
