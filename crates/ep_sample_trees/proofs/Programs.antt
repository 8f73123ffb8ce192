-- The programs of samples, derived.
use Rattle.std.proofs.Common.{◌≡◌, ℕ, true, false, List, [], ◌∷◌, ◌++◌, refl, arith}
use Rattle.ep_ast.specs.Token.{Tok, name, number, mark, word, other, end_if}
use Rattle.ep_ast.specs.Expression.{Expr}
use Rattle.ep_ast.specs.Expression as expressions
use Rattle.ep_ast.specs.Declaration as declarations
use Rattle.ep_ast.specs.Statement.{Part}
use Rattle.ep_ast.specs.Mark.{left_brace, right_brace, left_bracket, right_bracket, equal, comma}
use Rattle.ep_ast.specs.Mark.{semicolon, int_word, return_word, void_word}
use Rattle.ep_ast.specs.TypeWords.{is_built_in_type, plain_word}
use Rattle.ep_ast.specs.TypeWords as words
use Rattle.ep_ast.specs.DeclarationGrammar.{Specified, specified, more_specs, no_specs, type_word, Context, in_block}
use Rattle.ep_ast.specs.DeclarationGrammar.{at_file_scope, head, some, last_param, void_alone, no_bounds, bound, Declares}
use Rattle.ep_ast.specs.DeclarationGrammar.{variables, Initialised, without, last_init, next_init, begins_spec, Declared}
use Rattle.ep_ast.specs.DeclarationGrammar as grammar
use Rattle.ep_ast.specs.StatementGrammar.{braces, statement, give_back, something, no_parts, more_parts, declaration, little}
use Rattle.ep_ast.specs.ProgramGrammar.{Programs, Defines, function, more_functions, before_else, before_end, another, arms}
use Rattle.ep_ast.specs.ProgramGrammar.{more_items, no_items, defines}
use Rattle.ep_sample_trees.specs.Names.{x, y, h, b, v, swap, main, uint8, uint16, uint32, literal}
use Rattle.ep_sample_trees.specs.Tokens as tokens
use Rattle.ep_sample_trees.specs.Tokens.{tokens_of}
use Rattle.ep_sample_trees.specs.Tree as trees
use Rattle.ep_sample_trees.specs.Tree.{tree_of}
use Rattle.ep_sample_trees.proofs.Expressions.{Reads, whole, a_name, a_number, both_in_parens, one_word, no_star, a_cast}
use Rattle.ep_sample_trees.proofs.Fields.{Body, fields}

-- ---- the function of each order

a_type : (k : Context) (l : ℕ) (t : List ℕ) (m : ℕ) (u : List ℕ) (ts : List Tok) → is_built_in_type t ≡ true
    → is_built_in_type u ≡ false
    → Specified is_built_in_type k (name l t ∷ name m u ∷ ts) (name m u ∷ ts) (trees.typed l t)
a_type k l t m u ts e f = specified refl (more_specs (type_word (words.type_name e) tt) (no_specs f))

swap_giving : (l : ℕ) (e : Expr) (xs : List Tok) (ts : List Tok) → Reads (xs ++ tokens.ends l ∷ mark l right_brace ∷ ts) (tokens.ends l ∷ mark l right_brace ∷ ts) e
    → Defines is_built_in_type
    (name l uint16 ∷ name l swap ∷ tokens.opens l ∷ name l uint16 ∷ name l v ∷ tokens.closes l ∷ mark l left_brace
    ∷ word l return_word ∷ xs ++ tokens.ends l ∷ mark l right_brace ∷ ts) ts (trees.swap_giving l e)
swap_giving l e xs ts d =
    let us = mark l left_brace ∷ word l return_word ∷ xs ++ tokens.ends l ∷ mark l right_brace ∷ ts in
    let ps = name l uint16 ∷ name l v ∷ tokens.closes l ∷ us in
    function refl
    (head refl refl (a_type at_file_scope l uint16 l swap (tokens.opens l ∷ ps) refl refl)
    (no_star (name l swap ∷ tokens.opens l ∷ ps) refl)
    (some refl (last_param refl (grammar.named refl
    (one_word l uint16 (name l v ∷ tokens.closes l ∷ us) refl refl refl)
    (no_star (name l v ∷ tokens.closes l ∷ us) refl) (no_bounds (λ e. omega (arith, e)))))))
    (braces refl (more_parts (statement (give_back refl (something refl d))) (no_parts refl)))

swapped_value : (l : ℕ) (ts : List Tok) → Reads (tokens.swapped_value l ++ ts) ts (trees.swapped_value l)
swapped_value l ts = whole (a_cast l uint16 refl (both_in_parens l v 8 8 ts refl))

-- ---- objects

plain_object : (l : ℕ) (t : List ℕ) (c : ℕ) (ts : List Tok) → is_built_in_type t ≡ false → (c ≡ left_bracket → ⊥)
    → (c ≡ equal → ⊥) → Initialised is_built_in_type (name l t ∷ mark l c ∷ ts) (mark l c ∷ ts) (trees.object l t)
plain_object l t c ts e f g =
    without (grammar.declares e (no_star (name l t ∷ mark l c ∷ ts) refl) (no_bounds f)) g

array : (l : ℕ) (t : List ℕ) (ts : List Tok) → is_built_in_type t ≡ false
    → Initialised is_built_in_type
    (name l t ∷ mark l left_bracket ∷ number l (literal 1) ∷ mark l right_bracket ∷ mark l semicolon ∷ ts)
    (mark l semicolon ∷ ts) (trees.array l t)
array l t ts e =
    let us = mark l right_bracket ∷ mark l semicolon ∷ ts in
    without (grammar.declares e (no_star (name l t ∷ mark l left_bracket ∷ number l (literal 1) ∷ us) refl)
    (bound refl refl (whole (a_number l 1 us)) (no_bounds (λ e. omega (arith, e))))) (λ e. omega (arith, e))

objects : (ts us : List Tok) (ps : List Part) → Body ts us ps
    → Body (name 10 uint32 ∷ name 10 x ∷ mark 10 comma ∷ name 10 y ∷ tokens.ends 10 ∷ name 11 uint16 ∷ name 11 h ∷
    tokens.ends 11 ∷ name 12 uint8 ∷ name 12 b ∷ mark 12 left_bracket ∷ number 12 (literal 1) ∷ mark 12 right_bracket ∷
    tokens.ends 12 ∷ ts) us (trees.objects ++ ps)
objects ts us ps d =
    let thirds = number 12 (literal 1) ∷ mark 12 right_bracket ∷ tokens.ends 12 ∷ ts in
    let bs = name 12 uint8 ∷ name 12 b ∷ mark 12 left_bracket ∷ thirds in
    let hs = name 11 uint16 ∷ name 11 h ∷ tokens.ends 11 ∷ bs in
    let ys = name 10 y ∷ tokens.ends 10 ∷ hs in
    more_parts (declaration (variables (a_type in_block 10 uint32 10 x (mark 10 comma ∷ ys) refl refl)
    (next_init refl (plain_object 10 x comma ys refl (λ e. omega (arith, e)) (λ e. omega (arith, e)))
    (last_init refl (plain_object 10 y semicolon hs refl (λ e. omega (arith, e)) (λ e. omega (arith, e)))))))
    (more_parts (declaration (variables (a_type in_block 11 uint16 11 h (tokens.ends 11 ∷ bs) refl refl)
    (last_init refl (plain_object 11 h semicolon bs refl (λ e. omega (arith, e)) (λ e. omega (arith, e))))))
    (more_parts (declaration (variables (a_type in_block 12 uint8 12 b (mark 12 left_bracket ∷ thirds) refl refl)
    (last_init refl (array 12 b ts refl)))) d))

-- ---- the whole

main_type : (ts : List Tok)
    → Specified is_built_in_type at_file_scope (word 8 int_word ∷ name 8 main ∷ ts) (name 8 main ∷ ts)
    (declarations.plain (expressions.word 8 int_word) ∷ [])
main_type ts = specified refl (more_specs (type_word (plain_word refl) tt) (no_specs refl))

main_giving : (xs ts : List Tok) (ps : List Part) → Body xs ts ps
    → Defines is_built_in_type
    (word 8 int_word ∷ name 8 main ∷ tokens.opens 8 ∷ word 8 void_word ∷ tokens.closes 8 ∷ mark 9 left_brace ∷ xs) ts
    (trees.main_of ps)
main_giving xs ts ps d =
    let us = tokens.opens 8 ∷ word 8 void_word ∷ tokens.closes 8 ∷ mark 9 left_brace ∷ xs in
    function refl (head refl refl (main_type us) (no_star (name 8 main ∷ us) refl) (void_alone refl refl))
    (braces refl d)

pub derived : (start n : ℕ) → Programs (tokens_of start n) (tree_of start n)
derived start n =
    let fs = tokens.fields_tokens start 13 n in
    let ps = trees.fields_parts start 13 n in
    let os =
    name 10 uint32 ∷ name 10 x ∷ mark 10 comma ∷ name 10 y ∷ tokens.ends 10 ∷ name 11 uint16 ∷ name 11 h ∷
    tokens.ends 11 ∷ name 12 uint8 ∷ name 12 b ∷ mark 12 left_bracket ∷ number 12 (literal 1) ∷
    mark 12 right_bracket ∷ tokens.ends 12 ∷ fs in
    let ms =
    word 8 int_word ∷ name 8 main ∷ tokens.opens 8 ∷ word 8 void_word ∷ tokens.closes 8 ∷ mark 9 left_brace ∷ os in
    let ss = tokens.swap_giving 6 (name 6 v ∷ []) ++ end_if 7 ∷ ms in
    more_items
    (arms little
    (more_functions (swap_giving 4 (trees.swapped_value 4) (tokens.swapped_value 4) (other 5 ∷ ss)
    (swapped_value 4 (tokens.ends 4 ∷ mark 4 right_brace ∷ other 5 ∷ ss))) before_else)
    (another (more_functions (swap_giving 6 (trees.id 6 v) (name 6 v ∷ []) (end_if 7 ∷ ms)
    (whole (a_name 6 v (tokens.ends 6 ∷ mark 6 right_brace ∷ end_if 7 ∷ ms) refl))) before_end)))
    (more_items (defines (main_giving os [] (trees.objects ++ ps) (objects fs [] ps (fields start 13 n)))) no_items)
