-- The trees of the sources that are generated as samples. This project's rules; C11 6.9.
use Rattle.std.specs.Prelude.{ℕ, zero, suc, ◌+◌, List, [], ◌∷◌, ◌++◌, Some, None}
use Rattle.ep_ast.specs.declared.orders.NamedOrder.TheVariants.{Little}
use Rattle.ep_ast.specs.Expression as expressions
use Rattle.ep_ast.specs.Expression.{Expr, TypeName, to_exprs}
use Rattle.ep_ast.specs.Declaration as declarations
use Rattle.ep_ast.specs.Declaration.{Init, Spec, Param, Head}
use Rattle.ep_ast.specs.Statement.{Function, Item, Part, states, evaluate, return_value, declares_in, defines}
use Rattle.ep_ast.specs.Statement.{functions_by_order}
use Rattle.ep_ast.specs.Mark.{ampersand, bar, equal, left_shift, right_shift, int_word}
use Rattle.ep_sample.specs.Sample.{next_of, shift_of}
use Rattle.ep_sample_trees.specs.Names.{x, y, h, b, v, swap, main, uint8, uint16, uint32, ep_in_u32, ep_out_u32}
use Rattle.ep_sample_trees.specs.Names.{ep_out_u16, ep_read, ep_write, literal, by_kind}

-- ---- expressions on a line

abbrev pub id : (line : ℕ) → List ℕ → Expr
id l t = expressions.id l t

abbrev pub number : (line value : ℕ) → Expr
number l n = expressions.number l (literal n)

abbrev pub shift : (line : ℕ) → List ℕ → (operator by : ℕ) → Expr
shift l t c n = expressions.binary l c (id l t) (number l n)

abbrev pub both_shifts : (line : ℕ) → List ℕ → (right left : ℕ) → Expr
both_shifts l t m n = expressions.binary l bar (shift l t right_shift m) (shift l t left_shift n)

abbrev pub type_name : (line : ℕ) → List ℕ → TypeName
type_name l t = record { line = l; words = expressions.typedef_name l t ∷ []; stars = [] }

abbrev pub call : (line : ℕ) → List ℕ → List Expr → Expr
call l f es = expressions.call l (id l f) (to_exprs es)

abbrev pub assign : (line : ℕ) → (place value : Expr) → Expr
assign l e u = expressions.assign l equal e u

-- ---- statements on a line

abbrev pub does : (line : ℕ) → Expr → Part
does l e = states (evaluate l (Some e))

abbrev pub gives : (line : ℕ) → Expr → Part
gives l e = states (return_value l (Some e))

-- ---- before the fields

abbrev pub typed : (line : ℕ) → List ℕ → List Spec
typed l t = declarations.plain (expressions.typedef_name l t) ∷ []

abbrev pub v_param : ℕ → Param
v_param l = record { line = l; words = expressions.typedef_name l uint16 ∷ []; stars = []; name = Some v; bounds = [] }

abbrev pub swap_head : ℕ → Head
swap_head l = record {
  line = l;
  specs = typed l uint16;
  stars = [];
  name = swap;
  params = Some (declarations.some_params l (v_param l ∷ []));
}

abbrev pub swap_giving : (line : ℕ) → Expr → Function
swap_giving l e = record { line = l; head = swap_head l; body = record { line = l; parts = gives l e ∷ [] } }

abbrev pub swapped_value : ℕ → Expr
swapped_value l = expressions.cast l (type_name l uint16) (both_shifts l v 8 8)

abbrev pub object : (line : ℕ) → List ℕ → Init
object l t = record {
  line = l;
  declarator = record { line = l; stars = []; name = t; bounds = [] };
  value = None;
}

-- an array of one element
abbrev pub array : (line : ℕ) → List ℕ → Init
array l t = record {
  line = l;
  declarator = record { line = l; stars = []; name = t; bounds = Some (number l 1) ∷ [] };
  value = None;
}

abbrev pub declares : (line : ℕ) → (type : List ℕ) → List Init → Part
declares l t is = declares_in (record { line = l; specs = typed l t; inits = is })

abbrev pub objects : List Part
objects =
    declares 10 uint32 (object 10 x ∷ object 10 y ∷ []) ∷ declares 11 uint16 (object 11 h ∷ [])
    ∷ declares 12 uint8 (array 12 b ∷ []) ∷ []

-- ---- the three kinds of fields, from a line on

abbrev pub turned_parts : (line : ℕ) → List Part
turned_parts l =
    does l (assign l (id l x) (call l ep_in_u32 []))
    ∷ does (l + 1) (assign (l + 1) (id (l + 1) y) (both_shifts (l + 1) x 8 24))
    ∷ does (l + 1 + 1) (call (l + 1 + 1) ep_out_u32 (id (l + 1 + 1) y ∷ [])) ∷ []

abbrev pub swapped_parts : (line : ℕ) → List Part
swapped_parts l =
    does l (call l ep_read (expressions.unary l ampersand (id l h) ∷ number l 2 ∷ []))
    ∷ does (l + 1) (assign (l + 1) (id (l + 1) h) (call (l + 1) swap (id (l + 1) h ∷ [])))
    ∷ does (l + 1 + 1) (call (l + 1 + 1) ep_out_u16 (id (l + 1 + 1) h ∷ [])) ∷ []

abbrev pub byte_parts : (line shift : ℕ) → List Part
byte_parts l n =
    does l (assign l (id l x) (call l ep_in_u32 []))
    ∷ does (l + 1) (assign (l + 1) (expressions.index (l + 1) (id (l + 1) b) (number (l + 1) 0))
    (expressions.cast (l + 1) (type_name (l + 1) uint8) (shift (l + 1) x right_shift n)))
    ∷ does (l + 1 + 1) (call (l + 1 + 1) ep_write (id (l + 1 + 1) b ∷ number (l + 1 + 1) 1 ∷ [])) ∷ []

abbrev pub field_parts : (seed line : ℕ) → List Part
field_parts s l = by_kind s (turned_parts l) (swapped_parts l) (byte_parts l (shift_of s))

-- so many fields, each by the seed that follows the one before, and the end
abbrev pub fields_parts : (seed line fields : ℕ) → List Part
fields_parts s l zero = gives l (number l 0) ∷ []
fields_parts s l (suc n) = field_parts (next_of s) l ++ fields_parts (next_of s) (l + 1 + 1 + 1) n

-- ---- the whole program

abbrev pub swaps : Item
swaps =
    functions_by_order 3 Little (swap_giving 4 (swapped_value 4) ∷ []) (Some (swap_giving 6 (id 6 v) ∷ []))

abbrev pub main_head : Head
main_head = record {
  line = 8;
  specs = declarations.plain (expressions.word 8 int_word) ∷ [];
  stars = [];
  name = main;
  params = Some (declarations.void 8);
}

abbrev pub main_of : List Part → Function
main_of ps = record { line = 8; head = main_head; body = record { line = 9; parts = ps } }

-- the tree of a sample
abbrev pub tree_of : (start fields : ℕ) → List Item
tree_of start fields = swaps ∷ defines (main_of (objects ++ fields_parts start 13 fields)) ∷ []
