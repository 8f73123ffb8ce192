-- What the readers of functions, items and programs answer.
use Rattle.std.specs.Prelude.{◌≡◌, ℕ, Bool, List, [], ◌∷◌, Option, Some, None, Result, Ok, Err}
use Rattle.std.specs.Global.{Vec}
use Rattle.std.specs.Option.{option_map}
use Rattle.ep_ast.specs.Kind as kinds
use Rattle.ep_ast.specs.declared.orders.NamedOrder.{NamedOrder}
use Rattle.ep_ast.specs.declared.refusals.Refusal.{Refusal}
use Rattle.ep_ast.specs.declared.refusals.Halt.{Halt}
use Rattle.ep_ast.specs.declared.refusals.Halt.TheVariants as halts
use Rattle.ep_ast.specs.declared.statements.FunctionTree.{FunctionTree}
use Rattle.ep_ast.specs.declared.statements.ItemTree.{ItemTree}
use Rattle.ep_ast.specs.declared.statements.ProgramTree.{ProgramTree}
use Rattle.ep_ast.specs.Token.{Tok, mark}
use Rattle.ep_ast.specs.Declaration.{Declarator, Spec, Aggregate, Declaration, Head}
use Rattle.ep_ast.specs.Statement as tree
use Rattle.ep_ast.specs.Statement.{Function, Item, function_of, functions_of, item_of, program_of}
use Rattle.ep_ast.specs.Mark.{semicolon}
use Rattle.ep_ast.specs.DeclarationGrammar as grammar
use Rattle.ep_ast.specs.DeclarationGrammar.{at_file_scope, Specified, Aggregated, Declares, Headed}
use Rattle.ep_ast.specs.Reading.{Takes, Stops}
use Rattle.ep_ast.specs.ProgramGrammar.{Typedefs, Defines, Functions, OtherFunctions, OneItem, Programs}
use Rattle.ep_ast.specs.Depth.{brackets_past, in_function, in_functions, in_item, too_deep}
use Rattle.ep_reading.specs.declared.measured.Measured.{Measured}
use Rattle.ep_reading.specs.Measured.{Shows, ShowsAll}

-- ---- trees

abbrev pub ShowsFunction : Measured FunctionTree → Function → Type 0
ShowsFunction k f = Shows function_of in_function k f

abbrev pub ShowsFunctions : Measured (Vec FunctionTree) → List Function → Type 0
ShowsFunctions k fs = ShowsAll function_of in_function k fs

abbrev pub ShowsOther : Measured (Option (Vec FunctionTree)) → Option (List Function) → Type 0
ShowsOther k fs = Shows (option_map functions_of) in_functions k fs

abbrev pub ShowsItem : Measured ItemTree → Item → Type 0
ShowsItem k i = Shows item_of in_item k i

abbrev pub ShowsItems : Measured (Vec ItemTree) → List Item → Type 0
ShowsItems k is = ShowsAll item_of in_item k is

-- the item is kept, and these are the names of types behind it
abbrev pub MakesTypes : (after : List ℕ → Bool) → Measured ItemTree → Item × (List ℕ → Bool) → Type 0
MakesTypes after k v = ShowsItem k v.0 × (v.1 ≡ after)

-- the tree of a program, or a refusal for what is too deep in it
abbrev pub IsWhole : List Item → Result ProgramTree Refusal → Type 0
IsWhole is (Ok t) = (program_of t ≡ is) × (too_deep is ≡ None)
IsWhole is (Err r) = (r.kind ≡ kinds.nesting) × (r.word ≡ 0) × (too_deep is ≡ Some r.line)

-- ---- arms

-- from behind an `#if` of this line and order to behind its `#endif`
pub data Arms (is_type : List ℕ → Bool) (line : ℕ) (order : NamedOrder) : List Tok → List Tok → Item → Type 0 where
  arms : {xs ys zs : List Tok} {fs : List Function} {gs : Option (List Function)} → Functions is_type xs ys fs
      → OtherFunctions is_type ys zs gs
      → Arms is_type line order xs zs (tree.functions_by_order line order fs gs)

-- ---- items

-- an item that begins with the words of a declaration
pub data Worded (is_type : List ℕ → Bool) : List Tok → List Tok → Item → Type 0 where
  defines : {xs ys : List Tok} {f : Function} → Defines is_type xs ys f → Worded is_type xs ys (tree.defines f)
  prototype : {l c : ℕ} {xs ys : List Tok} {h : Head} → c ≡ semicolon → Headed is_type xs (mark l c ∷ ys) h
      → Worded is_type xs ys (tree.prototype h)
  declares : {xs ys : List Tok} {d : Declaration} → Declares is_type at_file_scope xs ys d
      → Worded is_type xs ys (tree.declares_all d)
  completes : {l c : ℕ} {xs ys : List Tok} {a : Aggregate} → c ≡ semicolon → Aggregated is_type xs (mark l c ∷ ys) a
      → Worded is_type xs ys (tree.completes a)

-- from behind the word `typedef` of this line, with the names that are types after it
pub data NewTypes (before : List ℕ → Bool) (line : ℕ) : List Tok → List Tok → Item × (List ℕ → Bool) → Type 0 where
  new_types : {after : List ℕ → Bool} {xs ys zs : List Tok} {ss : List Spec} {ds : List Declarator}
      → Specified before grammar.in_typedef xs ys ss → Typedefs before after ys zs ds
      → NewTypes before line xs zs (tree.typedefs (record { line = line; specs = ss; declarators = ds }), after)

-- an item with the names that are types after it
abbrev pub Itemed : (before : List ℕ → Bool) → List Tok → List Tok → Item × (List ℕ → Bool) → Type 0
Itemed before xs ys v = OneItem before v.1 xs ys v.0

-- ---- programs

-- the tokens to their end
pub data Whole : List Tok → List Tok → List Item → Type 0 where
  whole : {xs : List Tok} {is : List Item} → Programs xs is → Whole xs [] is

-- these items are all, or the tokens are refused
abbrev pub ReadsAll : List Tok → Result (Measured (Vec ItemTree)) Halt → Type 0
ReadsAll xs (Ok k) = (is : List Item) × ShowsItems k is × Takes Whole xs is []
ReadsAll xs (Err e) = Stops Whole xs e

-- whatever tree the tokens are, there is too much in it inside one another, or too many brackets are open
abbrev pub NoneFits : List Tok → Type 0
NoneFits ts = (is : List Item) → Programs ts is → brackets_past 0 ts ≡ None → too_deep is ≡ None → ⊥

-- the same refusal, perhaps with another line
abbrev pub IsMoved : Halt → Halt → Type 0
IsMoved (halts.Refused f) (halts.Refused g) = (g.kind ≡ f.kind) × (g.word ≡ f.word)
IsMoved halts.Memory halts.Memory = Unit {0}
IsMoved _ _ = ⊥
