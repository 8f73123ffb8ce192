-- The grammar of whole programs, with one case for each rule: C11 6.9, less what this project leaves out, and this
-- project's functions by byte order.
use Rattle.std.specs.Prelude.{◌≡◌, ℕ, Bool, true, ◌||◌, Option, Some, None, List, [], ◌∷◌}
use Rattle.std.specs.Str.{bytes_eq}
use Rattle.ep_ast.specs.declared.orders.NamedOrder.{NamedOrder}
use Rattle.ep_ast.specs.Token.{Tok, word, mark, other, end_if, line_of}
use Rattle.ep_ast.specs.Declaration.{Declarator, Spec, Aggregate, Declaration, Head}
use Rattle.ep_ast.specs.Statement as tree
use Rattle.ep_ast.specs.Statement.{Function, Block, Item}
use Rattle.ep_ast.specs.Mark.{typedef_word, comma, semicolon}
use Rattle.ep_ast.specs.TypeWords.{is_built_in_type}
use Rattle.ep_ast.specs.DeclarationGrammar.{at_file_scope, in_typedef, Specified, Declared, Aggregated, Declares}
use Rattle.ep_ast.specs.DeclarationGrammar.{Headed, are_named}
use Rattle.ep_ast.specs.StatementGrammar.{IsIf, Blocks}

-- one name more is a type
abbrev pub with_name : (List ℕ → Bool) → List ℕ → List ℕ → Bool
with_name is_type text x = is_type x || bytes_eq text x

-- Names of types, with commas between them, up to and with the semicolon: each is one from the end of its declarator
-- on.
pub data Typedefs : (before after : List ℕ → Bool) → List Tok → List Tok → List Declarator → Type 0 where
  last_typedef : {is_type : List ℕ → Bool} {l c : ℕ} {xs ys : List Tok} {d : Declarator} → c ≡ semicolon
      → Declared is_type xs (mark l c ∷ ys) d → Typedefs is_type (with_name is_type d.name) xs ys (d ∷ [])
  next_typedef : {is_type after : List ℕ → Bool} {l c : ℕ} {xs ys zs : List Tok} {d : Declarator} {ds : List Declarator}
      → c ≡ comma
      → Declared is_type xs (mark l c ∷ ys) d → Typedefs (with_name is_type d.name) after ys zs ds
      → Typedefs is_type after xs zs (d ∷ ds)

pub data Defines (is_type : List ℕ → Bool) : List Tok → List Tok → Function → Type 0 where
  function : {xs ys zs : List Tok} {h : Head} {b : Block} → are_named h.params ≡ true
      → Headed is_type xs ys h → Blocks is_type ys zs b
      → Defines is_type xs zs (record { line = h.line; head = h; body = b })

-- as many functions as there are before an `#else` or `#endif`
pub data Functions (is_type : List ℕ → Bool) : List Tok → List Tok → List Function → Type 0 where
  before_else : {l : ℕ} {xs : List Tok} → Functions is_type (other l ∷ xs) (other l ∷ xs) []
  before_end : {l : ℕ} {xs : List Tok} → Functions is_type (end_if l ∷ xs) (end_if l ∷ xs) []
  more_functions : {xs ys zs : List Tok} {f : Function} {fs : List Function} → Defines is_type xs ys f
      → Functions is_type ys zs fs → Functions is_type xs zs (f ∷ fs)

-- what stands from `#else` on, if there is one, up to and with the `#endif`
pub data OtherFunctions (is_type : List ℕ → Bool) : List Tok → List Tok → Option (List Function) → Type 0 where
  no_other : {l : ℕ} {xs : List Tok} → OtherFunctions is_type (end_if l ∷ xs) xs None
  another : {l m : ℕ} {xs ys : List Tok} {fs : List Function} → Functions is_type xs (end_if m ∷ ys) fs
      → OtherFunctions is_type (other l ∷ xs) ys (Some fs)

-- an item of file scope, with the names that are types before it and after it
pub data OneItem : (before after : List ℕ → Bool) → List Tok → List Tok → Item → Type 0 where
  typedefs : {is_type after : List ℕ → Bool} {l c : ℕ} {xs ys zs : List Tok} {ss : List Spec} {ds : List Declarator}
      → c ≡ typedef_word
      → Specified is_type in_typedef xs ys ss → Typedefs is_type after ys zs ds
      → OneItem is_type after (word l c ∷ xs) zs (tree.typedefs (record { line = l; specs = ss; declarators = ds }))
  defines : {is_type : List ℕ → Bool} {xs ys : List Tok} {f : Function} → Defines is_type xs ys f
      → OneItem is_type is_type xs ys (tree.defines f)
  prototype : {is_type : List ℕ → Bool} {l c : ℕ} {xs ys : List Tok} {h : Head} → c ≡ semicolon
      → Headed is_type xs (mark l c ∷ ys) h → OneItem is_type is_type xs ys (tree.prototype h)
  declares : {is_type : List ℕ → Bool} {xs ys : List Tok} {d : Declaration} → Declares is_type at_file_scope xs ys d
      → OneItem is_type is_type xs ys (tree.declares_all d)
  completes : {is_type : List ℕ → Bool} {l c : ℕ} {xs ys : List Tok} {a : Aggregate} → c ≡ semicolon
      → Aggregated is_type xs (mark l c ∷ ys) a → OneItem is_type is_type xs ys (tree.completes a)
  arms : {is_type : List ℕ → Bool} {t : Tok} {o : NamedOrder} {xs ys zs : List Tok} {fs : List Function}
      {gs : Option (List Function)} → IsIf t o
      → Functions is_type xs ys fs → OtherFunctions is_type ys zs gs
      → OneItem is_type is_type (t ∷ xs) zs (tree.functions_by_order (line_of t) o fs gs)

pub data Items : (List ℕ → Bool) → List Tok → List Item → Type 0 where
  no_items : {is_type : List ℕ → Bool} → Items is_type [] []
  more_items : {is_type after : List ℕ → Bool} {xs ys : List Tok} {i : Item} {is : List Item}
      → OneItem is_type after xs ys i → Items after ys is → Items is_type xs (i ∷ is)

-- The tokens are a program, and this is its tree.
abbrev pub Programs : List Tok → List Item → Type 0
Programs ts is = Items is_built_in_type ts is
