-- Worked cases of the grammar of declarations, statements and programs.
use Rattle.std.proofs.Common.{◌≡◌, ℕ, suc, zero, ◌+◌, true, false, List, [], ◌∷◌, Some, None, refl, arith}
use Rattle.std.specs.Prelude.{codes}
use Rattle.ep_ast.specs.declared.expressions.Literal.{Literal}
use Rattle.ep_ast.specs.Token.{Tok, name, number, mark, word, if_big, end_if}
use Rattle.ep_ast.specs.Expression as expressions
use Rattle.ep_ast.specs.Expression.{Expr}
use Rattle.ep_ast.specs.Declaration as declarations
use Rattle.ep_ast.specs.Declaration.{Declarator, Member, to_members, to_specs}
use Rattle.ep_ast.specs.Statement as tree
use Rattle.ep_ast.specs.Statement.{Stmt}
use Rattle.ep_ast.specs.Mark.{left_paren, right_paren, left_brace, right_brace, comma, semicolon, colon, else_word}
use Rattle.ep_ast.specs.Mark.{if_word, int_word, return_word, struct_word, typedef_word, void_word}
use Rattle.ep_ast.specs.TypeWords.{plain_word, type_name, no_stars, is_built_in_type, AreStars}
use Rattle.ep_ast.specs.Grammar.{Derives, expr, bin, operand, tighter, casts_not, unary_not, suffixed_not, names}
use Rattle.ep_ast.specs.Grammar.{numbers, assigns_not, chooses_not}
use Rattle.ep_ast.specs.DeclarationGrammar.{declares, Declared, no_bounds, type_word, more_specs, no_specs, specified}
use Rattle.ep_ast.specs.DeclarationGrammar.{Specified, in_aggregate, members, last_member, tagged, whole_field}
use Rattle.ep_ast.specs.DeclarationGrammar.{named_field, unnamed_field, last_field, next_field, Fields}
use Rattle.ep_ast.specs.DeclarationGrammar.{Given, single, listed, last_with_comma, without, last_init, variables}
use Rattle.ep_ast.specs.DeclarationGrammar.{void_alone, head}
use Rattle.ep_ast.specs.StatementGrammar.{in_parens, nothing, something, InParens, States, evaluate, choose, no_else}
use Rattle.ep_ast.specs.StatementGrammar.{else_too, give_back, statement, no_parts, more_parts, braces}
use Rattle.ep_ast.specs.ProgramGrammar as program
use Rattle.ep_ast.specs.ProgramGrammar.{Programs, OneItem, Items, with_name}
use Rattle.ep_ast.specs.Depth.{in_field, in_stmt, brackets_past}

abbrev x : List ℕ
x = codes "x"

abbrev as_level_number : Literal → ℕ → Expr
as_level_number n l = expressions.number l n

x_at : (n k : ℕ) (ts : List Tok) → n + k ≡ 11 → Derives is_built_in_type (bin k) (name 1 x ∷ ts) ts (expressions.id 1 x)
x_at zero k ts e = operand (omega arith) (casts_not (unary_not (suffixed_not (names refl))))
x_at (suc n) k ts e = tighter (omega arith) (x_at n (k + 1) ts (omega arith))

x_as_expr : (ts : List Tok) → Derives is_built_in_type expr (name 1 x ∷ ts) ts (expressions.id 1 x)
x_as_expr ts = assigns_not (chooses_not (x_at 10 1 ts refl))

number_at : (v : Literal) (n k : ℕ) (ts : List Tok) → n + k ≡ 11
    → Derives is_built_in_type (bin k) (number 1 v ∷ ts) ts (expressions.number 1 v)
number_at v zero k ts e = operand (omega arith) (casts_not (unary_not (suffixed_not numbers)))
number_at v (suc n) k ts e = tighter (omega arith) (number_at v n (k + 1) ts (omega arith))

abbrev nought : Literal
nought = record { value = 0; decimal = false; unsigned = false; longs = 0 }

number_as_expr : (v : Literal) (ts : List Tok)
    → Derives is_built_in_type expr (number 1 v ∷ ts) ts (expressions.number 1 v)
number_as_expr v ts = assigns_not (chooses_not (number_at v 10 1 ts refl))

abbrev x_declared : Declarator
x_declared = record { line = 1; stars = []; name = x; bounds = [] }

no_star : (ts : List Tok) → AreStars (name 1 x ∷ ts) (name 1 x ∷ ts) []
no_star ts = record { stars = no_stars; over = refl }

x_before_semicolon : (ts : List Tok) → Declared is_built_in_type (name 1 x ∷ mark 1 semicolon ∷ ts)
    (mark 1 semicolon ∷ ts) x_declared
x_before_semicolon ts = declares refl (no_star (mark 1 semicolon ∷ ts)) (no_bounds (λ e. omega (arith, e)))

abbrev int_spec : declarations.Spec
int_spec = declarations.plain (expressions.word 1 int_word)

int_in : (ts : List Tok) → Specified is_built_in_type in_aggregate (word 1 int_word ∷ name 1 x ∷ ts) (name 1 x ∷ ts)
    (int_spec ∷ [])
int_in ts = specified refl (more_specs (type_word (plain_word refl) tt) (no_specs refl))

-- `struct x { int x; };`
abbrev int_member : Member
int_member = declarations.member 1 (to_specs (int_spec ∷ [])) (declarations.whole x_declared ∷ [])

structure : Programs (word 1 struct_word ∷ name 1 x ∷ mark 1 left_brace ∷ word 1 int_word ∷ name 1 x ∷
    mark 1 semicolon ∷ mark 1 right_brace ∷ mark 1 semicolon ∷ [])
    (tree.completes (declarations.aggregate 1 struct_word (Some x) (to_members (int_member ∷ []))) ∷ [])
structure =
    program.more_items (program.completes refl (tagged refl refl
    (last_member refl (members (int_in (mark 1 semicolon ∷ mark 1 right_brace ∷ mark 1 semicolon ∷ []))
    (last_field refl (whole_field (x_before_semicolon (mark 1 right_brace ∷ mark 1 semicolon ∷ []))
    (λ e. omega (arith, e)))))))) program.no_items

-- `x : 3, : 0;`
abbrev three : Literal
three = record { value = 3; decimal = true; unsigned = false; longs = 0 }

bit_fields : (ts : List Tok) → Fields is_built_in_type
    (name 1 x ∷ mark 1 colon ∷ number 1 three ∷ mark 1 comma ∷ mark 2 colon ∷ number 1 nought ∷ mark 1 semicolon ∷ ts)
    ts (declarations.bits 1 (Some x) (expressions.number 1 three) ∷
    declarations.bits 2 None (expressions.number 1 nought) ∷ [])
bit_fields ts =
    next_field refl (named_field refl refl (number_as_expr three
    (mark 1 comma ∷ mark 2 colon ∷ number 1 nought ∷ mark 1 semicolon ∷ ts)))
    (last_field refl (unnamed_field refl (number_as_expr nought (mark 1 semicolon ∷ ts))))

-- `{x,}`
trailing_comma : Given is_built_in_type (mark 1 left_brace ∷ name 1 x ∷ mark 1 comma ∷ mark 1 right_brace ∷ []) []
    (declarations.listed 1 (declarations.to_values (declarations.single (expressions.id 1 x) ∷ [])))
trailing_comma = listed refl (last_with_comma refl refl (single (x_as_expr (mark 1 comma ∷ mark 1 right_brace ∷ []))))

-- `if (x) if (x) ; else ;`: the `else` belongs to the inner `if`
x_in_parens : (ts : List Tok) → InParens is_built_in_type (mark 1 left_paren ∷ name 1 x ∷ mark 1 right_paren ∷ ts) ts
    (expressions.id 1 x)
x_in_parens ts = in_parens refl refl (x_as_expr (mark 1 right_paren ∷ ts))

abbrev empty : Stmt
empty = tree.evaluate 1 None

semicolon_alone : (ts : List Tok) → States is_built_in_type (mark 1 semicolon ∷ ts) ts empty
semicolon_alone ts = evaluate (nothing refl)

nearest_if : States is_built_in_type
    (word 1 if_word ∷ mark 1 left_paren ∷ name 1 x ∷ mark 1 right_paren ∷ word 1 if_word ∷ mark 1 left_paren ∷
    name 1 x ∷ mark 1 right_paren ∷ mark 1 semicolon ∷ word 1 else_word ∷ mark 1 semicolon ∷ []) []
    (tree.if_then 1 (expressions.id 1 x) (tree.if_else 1 (expressions.id 1 x) empty empty))
nearest_if =
    choose {o = None} refl (x_in_parens (word 1 if_word ∷ mark 1 left_paren ∷ name 1 x ∷ mark 1 right_paren ∷
    mark 1 semicolon ∷ word 1 else_word ∷ mark 1 semicolon ∷ []))
    (choose {o = Some empty} refl (x_in_parens (mark 1 semicolon ∷ word 1 else_word ∷ mark 1 semicolon ∷ []))
    (semicolon_alone (word 1 else_word ∷ mark 1 semicolon ∷ [])) (else_too refl (semicolon_alone [])))
    (no_else tt)

-- `typedef int x; x y;`
abbrev y : List ℕ
y = codes "y"

typedef_name : Programs (word 1 typedef_word ∷ word 1 int_word ∷ name 1 x ∷ mark 1 semicolon ∷ name 1 x ∷ name 1 y ∷
    mark 1 semicolon ∷ [])
    (tree.typedefs (record { line = 1; specs = int_spec ∷ []; declarators = x_declared ∷ [] })
    ∷ tree.declares_all (record {
      line = 1;
      specs = declarations.plain (expressions.typedef_name 1 x) ∷ [];
      inits =
          record { line = 1; declarator = record { line = 1; stars = []; name = y; bounds = [] }; value = None } ∷ [];
    }) ∷
    [])
typedef_name =
    program.more_items (program.typedefs refl (specified refl
    (more_specs (type_word (plain_word refl) tt) (no_specs refl)))
    (program.last_typedef refl (x_before_semicolon (name 1 x ∷ name 1 y ∷ mark 1 semicolon ∷ []))))
    (program.more_items (program.declares (variables (specified refl
    (more_specs (type_word (type_name refl) tt) (no_specs refl)))
    (last_init refl (without (declares refl (record { stars = no_stars; over = refl })
    (no_bounds (λ e. omega (arith, e)))) (λ e. omega (arith, e))))))
    program.no_items)

-- `int x(void) { return 0; }`
function : Programs (word 1 int_word ∷ name 1 x ∷ mark 1 left_paren ∷ word 1 void_word ∷ mark 1 right_paren ∷
    mark 1 left_brace ∷ word 1 return_word ∷ number 1 nought ∷ mark 1 semicolon ∷ mark 1 right_brace ∷ [])
    (tree.defines (record {
      line = 1;
      head = record { line = 1; specs = int_spec ∷ []; stars = []; name = x; params = Some (declarations.void 1) };
      body = record { line = 1; parts = tree.states (tree.return_value 1 (Some (expressions.number 1 nought))) ∷ [] };
    }) ∷ [])
function =
    program.more_items (program.defines (program.function refl
    (head refl refl (specified refl (more_specs (type_word (plain_word refl) tt) (no_specs refl)))
    (no_star (mark 1 left_paren ∷ word 1 void_word ∷ mark 1 right_paren ∷ mark 1 left_brace ∷ word 1 return_word ∷
    number 1 nought ∷ mark 1 semicolon ∷ mark 1 right_brace ∷ [])) (void_alone refl refl))
    (braces refl
    (more_parts (statement (give_back refl (something refl
    (number_as_expr nought (mark 1 semicolon ∷ mark 1 right_brace ∷ [])))))
    (no_parts refl)))))
    program.no_items

-- ---- nesting

abbrev inside : ℕ → Stmt
inside zero = empty
inside (suc n) = tree.if_then 3 (expressions.id 1 x) (inside n)

-- 63 around one, and 64
inside_64 : in_stmt (inside 63) ≡ None
inside_64 = refl

inside_65 : in_stmt (inside 64) ≡ Some 3
inside_65 = refl

-- so many operators inside one another
abbrev over : ℕ → Expr
over zero = expressions.id 1 x
over (suc n) = expressions.unary 1 32 (over n)

abbrev deep_statement : Stmt
deep_statement = tree.evaluate 4 (Some (over 65))

-- the width of a bit-field, by the line of its name
width_line : in_field (declarations.bits 4 (Some x) (over 65)) ≡ Some 4
width_line = refl

-- a loop begins before its body, whose line counts where the loop's own test is not too deep
do_first_line : in_stmt (tree.do_loop 3 deep_statement (over 65)) ≡ Some 3
do_first_line = refl

body_of_do_line : in_stmt (tree.do_loop 3 deep_statement (over 64)) ≡ Some 4
body_of_do_line = refl

for_first_line : in_stmt (tree.for_loop 3 (tree.evaluates None) None (Some (over 65)) deep_statement) ≡ Some 3
for_first_line = refl

-- and before a variable that is declared in its parentheses
abbrev deep_variable : declarations.Declaration
deep_variable = record {
  line = 5;
  specs = [];
  inits = record {
    line = 5;
    declarator = record { line = 5; stars = []; name = x; bounds = [] };
    value = Some (declarations.single (over 65));
  } ∷ [];
}

for_before_variable : in_stmt (tree.for_loop 3 (tree.declares deep_variable) (Some (over 65)) None deep_statement) ≡ Some 3
for_before_variable = refl

variable_of_for : in_stmt (tree.for_loop 3 (tree.declares deep_variable) (Some (over 64)) None deep_statement) ≡ Some 5
variable_of_for = refl

abbrev many : Tok → ℕ → List Tok → List Tok
many t zero ts = ts
many t (suc n) ts = t ∷ many t n ts

-- 60 brackets and 4 byte orders, and one more
open_64 : brackets_past 0 (many (mark 1 left_brace) 60 (many (if_big 2) 4 [])) ≡ None
open_64 = refl

open_65 : brackets_past 0 (many (mark 1 left_brace) 60 (many (if_big 2) 4 (mark 3 left_paren ∷ []))) ≡ Some 3
open_65 = refl

-- an `#endif` closes one, whatever it is
closed_by_any : brackets_past 0 (many (mark 1 left_brace) 64 (end_if 2 ∷ mark 3 left_paren ∷ [])) ≡ None
closed_by_any = refl
