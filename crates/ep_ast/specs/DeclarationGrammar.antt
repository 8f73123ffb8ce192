-- The grammar of declarations, on whole lists of tokens, with one case for each rule: C11 6.7, less what this project
-- leaves out.
use Rattle.std.specs.Prelude.{◌≡◌, ℕ, ◌==◌, Bool, true, false, ◌&&◌, ◌||◌, not, Option, Some, None, is_some, List, []}
use Rattle.std.specs.Prelude.{◌∷◌}
use Rattle.std.specs.List.{list_all}
use Rattle.ep_ast.specs.Token.{Tok, word, name, mark}
use Rattle.ep_ast.specs.Expression as expressions
use Rattle.ep_ast.specs.Expression.{TypeWord}
use Rattle.ep_ast.specs.Declaration as tree
use Rattle.ep_ast.specs.Declaration.{Declarator, MemberField, Spec, Aggregate, Member, to_members, Value, to_values}
use Rattle.ep_ast.specs.Declaration.{Init, Declaration, Param, Params, Head}
use Rattle.ep_ast.specs.Mark.{void_word, inline_word, static_word, left_paren, right_paren, left_bracket, right_bracket}
use Rattle.ep_ast.specs.Mark.{left_brace, right_brace, colon, comma, semicolon, equal}
use Rattle.ep_ast.specs.TypeWords.{Bag, no_bag, with_whole, joined, fits, is_no_bag, is_tag_word, OneWord, begins_type}
use Rattle.ep_ast.specs.TypeWords.{AreType, AreStars, words_line}
use Rattle.ep_ast.specs.Grammar.{expr, Derives}
use Rattle.ep_ast.specs.Reading.{Lacks}

-- ---- declarators

-- pairs of `[ ]`, as many as there are
pub data Bounds (is_type : List ℕ → Bool) : List Tok → List Tok → List (Option expressions.Expr) → Type 0 where
  no_bounds : {xs : List Tok} → Lacks left_bracket xs → Bounds is_type xs xs []
  open_bound : {l c m d : ℕ} {xs ys : List Tok} {bs : List (Option expressions.Expr)} → c ≡ left_bracket
      → d ≡ right_bracket
      → Bounds is_type xs ys bs → Bounds is_type (mark l c ∷ mark m d ∷ xs) ys (None ∷ bs)
  bound : {l c m d : ℕ} {xs ys zs : List Tok} {e : expressions.Expr} {bs : List (Option expressions.Expr)}
      → c ≡ left_bracket → d ≡ right_bracket
      → Derives is_type expr xs (mark m d ∷ ys) e → Bounds is_type ys zs bs
      → Bounds is_type (mark l c ∷ xs) zs (Some e ∷ bs)

-- a name that is no type's, with the stars before it and the bounds behind it
pub data Declared (is_type : List ℕ → Bool) : List Tok → List Tok → Declarator → Type 0 where
  declares : {l : ℕ} {text ns : List ℕ} {xs ys zs : List Tok} {bs : List (Option expressions.Expr)}
      → is_type text ≡ false
      → AreStars xs (name l text ∷ ys) ns → Bounds is_type ys zs bs
      → Declared is_type xs zs (record { line = l; stars = ns; name = text; bounds = bs })

-- ---- what members declare

-- A declarator, or a bit-field: perhaps a name that is no type's, and its width behind the `:`. The line of a bit-field
-- without a name is that of the `:`.
pub data OneField (is_type : List ℕ → Bool) : List Tok → List Tok → MemberField → Type 0 where
  whole_field : {xs ys : List Tok} {d : Declarator} → Declared is_type xs ys d → Lacks colon ys
      → OneField is_type xs ys (tree.whole d)
  named_field : {l m c : ℕ} {text : List ℕ} {xs ys : List Tok} {e : expressions.Expr} → is_type text ≡ false
      → c ≡ colon → Derives is_type expr xs ys e
      → OneField is_type (name l text ∷ mark m c ∷ xs) ys (tree.bits l (Some text) e)
  unnamed_field : {l c : ℕ} {xs ys : List Tok} {e : expressions.Expr} → c ≡ colon → Derives is_type expr xs ys e
      → OneField is_type (mark l c ∷ xs) ys (tree.bits l None e)

-- one or more, with commas between them, up to and with the semicolon
pub data Fields (is_type : List ℕ → Bool) : List Tok → List Tok → List MemberField → Type 0 where
  last_field : {l c : ℕ} {xs ys : List Tok} {f : MemberField} → c ≡ semicolon → OneField is_type xs (mark l c ∷ ys) f
      → Fields is_type xs ys (f ∷ [])
  next_field : {l c : ℕ} {xs ys zs : List Tok} {f : MemberField} {fs : List MemberField} → c ≡ comma
      → OneField is_type xs (mark l c ∷ ys) f → Fields is_type ys zs fs → Fields is_type xs zs (f ∷ fs)

-- ---- the words that begin a declaration

-- where a declaration stands
pub data Context : Type 0 where
  at_file_scope : Context
  in_typedef : Context
  in_aggregate : Context
  in_block : Context

-- whether a `struct` or `union` may have its members there
abbrev pub has_bodies : Context → Bool
has_bodies at_file_scope = true
has_bodies in_typedef = true
has_bodies in_aggregate = true
has_bodies in_block = false

-- whether `static` and `inline` may stand there
abbrev pub has_storage : Context → Bool
has_storage at_file_scope = true
has_storage in_typedef = false
has_storage in_aggregate = false
has_storage in_block = false

abbrev pub is_storage_word : ℕ → Bool
is_storage_word c = c == static_word || c == inline_word

abbrev pub spec_joined : Bag → Spec → Bag
spec_joined b (tree.plain w) = joined b w
spec_joined b (tree.body a) = with_whole b

abbrev pub specs_joined : Bag → List Spec → Bag
specs_joined b [] = b
specs_joined b (s ∷ ss) = specs_joined (spec_joined b s) ss

-- these words, in any order, are a type
abbrev pub name_type : List Spec → Bool
name_type ss = fits (specs_joined no_bag ss) && not (is_no_bag (specs_joined no_bag ss))

abbrev pub begins_spec : (List ℕ → Bool) → Context → List Tok → Bool
begins_spec is_type k (word l c ∷ ts) = begins_type is_type (word l c ∷ ts) || (has_storage k && is_storage_word c)
begins_spec is_type k ts = begins_type is_type ts

abbrev pub spec_line : Spec → ℕ
spec_line (tree.plain (expressions.word l c)) = l
spec_line (tree.plain (expressions.typedef_name l text)) = l
spec_line (tree.plain (expressions.tagged l c text)) = l
spec_line (tree.body (tree.aggregate l c tag ms)) = l

abbrev pub specs_line : List Spec → ℕ
specs_line [] = 0
specs_line (s ∷ ss) = spec_line s

mutual
  pub data OneSpec (is_type : List ℕ → Bool) : Context → List Tok → List Tok → Spec → Type 0 where
    type_word : {k : Context} {xs ys : List Tok} {w : TypeWord} → OneWord is_type xs ys w → Lacks left_brace ys
        → OneSpec is_type k xs ys (tree.plain w)
    storage : {k : Context} {l c : ℕ} {xs : List Tok} → has_storage k ≡ true → is_storage_word c ≡ true
        → OneSpec is_type k (word l c ∷ xs) xs (tree.plain (expressions.word l c))
    with_members : {k : Context} {xs ys : List Tok} {a : Aggregate} → has_bodies k ≡ true → Aggregated is_type xs ys a
        → OneSpec is_type k xs ys (tree.body a)

  pub data Specs (is_type : List ℕ → Bool) : Context → List Tok → List Tok → List Spec → Type 0 where
    no_specs : {k : Context} {xs : List Tok} → begins_spec is_type k xs ≡ false → Specs is_type k xs xs []
    more_specs : {k : Context} {xs ys zs : List Tok} {s : Spec} {ss : List Spec} → OneSpec is_type k xs ys s
        → Specs is_type k ys zs ss → Specs is_type k xs zs (s ∷ ss)

  -- all the words, which are a type together
  pub data Specified (is_type : List ℕ → Bool) : Context → List Tok → List Tok → List Spec → Type 0 where
    specified : {k : Context} {xs ys : List Tok} {ss : List Spec} → name_type ss ≡ true → Specs is_type k xs ys ss
        → Specified is_type k xs ys ss

  -- `struct` or `union`, perhaps a tag, and members in braces
  pub data Aggregated (is_type : List ℕ → Bool) : List Tok → List Tok → Aggregate → Type 0 where
    tagged : {l c m n d : ℕ} {text : List ℕ} {xs ys : List Tok} {ms : List Member} → is_tag_word c ≡ true
        → d ≡ left_brace
        → Members is_type xs ys ms → Aggregated is_type (word l c ∷ name m text ∷ mark n d ∷ xs) ys
        (tree.aggregate l c (Some text) (to_members ms))
    untagged : {l c n d : ℕ} {xs ys : List Tok} {ms : List Member} → is_tag_word c ≡ true → d ≡ left_brace
        → Members is_type xs ys ms → Aggregated is_type (word l c ∷ mark n d ∷ xs) ys
        (tree.aggregate l c None (to_members ms))

  -- one member or more, up to and with the closing brace
  pub data Members (is_type : List ℕ → Bool) : List Tok → List Tok → List Member → Type 0 where
    last_member : {l c : ℕ} {xs ys : List Tok} {m : Member} → c ≡ right_brace → OneMember is_type xs (mark l c ∷ ys) m
        → Members is_type xs ys (m ∷ [])
    next_member : {xs ys zs : List Tok} {m : Member} {ms : List Member} → OneMember is_type xs ys m
        → Members is_type ys zs ms → Members is_type xs zs (m ∷ ms)

  pub data OneMember (is_type : List ℕ → Bool) : List Tok → List Tok → Member → Type 0 where
    members : {xs ys zs : List Tok} {ss : List Spec} {fs : List MemberField}
        → Specified is_type in_aggregate xs ys ss → Fields is_type ys zs fs
        → OneMember is_type xs zs (tree.member (specs_line ss) (tree.to_specs ss) fs)

-- ---- initialisers

mutual
  -- an expression, or a list in braces
  pub data Given (is_type : List ℕ → Bool) : List Tok → List Tok → Value → Type 0 where
    single : {xs ys : List Tok} {e : expressions.Expr} → Derives is_type expr xs ys e
        → Given is_type xs ys (tree.single e)
    listed : {l c : ℕ} {xs ys : List Tok} {vs : List Value} → c ≡ left_brace → Listed is_type xs ys vs
        → Given is_type (mark l c ∷ xs) ys (tree.listed l (to_values vs))

  -- one value or more, with commas between them and perhaps one behind the last, up to and with the closing brace
  pub data Listed (is_type : List ℕ → Bool) : List Tok → List Tok → List Value → Type 0 where
    last_value : {l c : ℕ} {xs ys : List Tok} {v : Value} → c ≡ right_brace → Given is_type xs (mark l c ∷ ys) v
        → Listed is_type xs ys (v ∷ [])
    last_with_comma : {l c m d : ℕ} {xs ys : List Tok} {v : Value} → c ≡ comma → d ≡ right_brace
        → Given is_type xs (mark l c ∷ mark m d ∷ ys) v → Listed is_type xs ys (v ∷ [])
    next_value : {l c : ℕ} {xs ys zs : List Tok} {v : Value} {vs : List Value} → c ≡ comma
        → Given is_type xs (mark l c ∷ ys) v → Listed is_type ys zs vs → Listed is_type xs zs (v ∷ vs)

pub data Initialised (is_type : List ℕ → Bool) : List Tok → List Tok → Init → Type 0 where
  without : {xs ys : List Tok} {d : Declarator} → Declared is_type xs ys d → Lacks equal ys
      → Initialised is_type xs ys (record { line = d.line; declarator = d; value = None })
  with_value : {l c : ℕ} {xs ys zs : List Tok} {d : Declarator} {v : Value} → c ≡ equal
      → Declared is_type xs (mark l c ∷ ys) d → Given is_type ys zs v
      → Initialised is_type xs zs (record { line = d.line; declarator = d; value = Some v })

-- one or more, with commas between them, up to and with the semicolon
pub data Inits (is_type : List ℕ → Bool) : List Tok → List Tok → List Init → Type 0 where
  last_init : {l c : ℕ} {xs ys : List Tok} {i : Init} → c ≡ semicolon → Initialised is_type xs (mark l c ∷ ys) i
      → Inits is_type xs ys (i ∷ [])
  next_init : {l c : ℕ} {xs ys zs : List Tok} {i : Init} {is : List Init} → c ≡ comma
      → Initialised is_type xs (mark l c ∷ ys) i → Inits is_type ys zs is → Inits is_type xs zs (i ∷ is)

-- variables, at file scope or in a block
pub data Declares (is_type : List ℕ → Bool) : Context → List Tok → List Tok → Declaration → Type 0 where
  variables : {k : Context} {xs ys zs : List Tok} {ss : List Spec} {is : List Init} → Specified is_type k xs ys ss
      → Inits is_type ys zs is
      → Declares is_type k xs zs (record { line = specs_line ss; specs = ss; inits = is })

-- ---- functions

-- the line of a parameter's name, or else of its first word
abbrev pub param : (line : ℕ) → List TypeWord → List ℕ → Option (List ℕ) → List (Option expressions.Expr) → Param
param l ws ns text bs = record { line = l; words = ws; stars = ns; name = text; bounds = bs }

-- the token is no name
abbrev pub lacks_name : List Tok → Bool
lacks_name (name l text ∷ ts) = false
lacks_name _ = true

pub data OneParam (is_type : List ℕ → Bool) : List Tok → List Tok → Param → Type 0 where
  named : {l : ℕ} {text ns : List ℕ} {xs ys zs ws : List Tok} {ts : List TypeWord} {bs : List (Option expressions.Expr)}
      → is_type text ≡ false
      → AreType is_type xs ys ts → AreStars ys (name l text ∷ zs) ns → Bounds is_type zs ws bs
      → OneParam is_type xs ws (param l ts ns (Some text) bs)
  unnamed : {ns : List ℕ} {xs ys zs ws : List Tok} {ts : List TypeWord} {bs : List (Option expressions.Expr)}
      → AreType is_type xs ys ts → AreStars ys zs ns → lacks_name zs ≡ true → Bounds is_type zs ws bs
      → OneParam is_type xs ws (param (words_line ts) ts ns None bs)

-- `void` alone between the brackets
abbrev pub is_void_alone : List Tok → Bool
is_void_alone (word l c ∷ mark m d ∷ ts) = c == void_word && d == right_paren
is_void_alone _ = false

-- one or more, with commas between them, up to and with the closing parenthesis
pub data SomeParams (is_type : List ℕ → Bool) : List Tok → List Tok → List Param → Type 0 where
  last_param : {l c : ℕ} {xs ys : List Tok} {p : Param} → c ≡ right_paren → OneParam is_type xs (mark l c ∷ ys) p
      → SomeParams is_type xs ys (p ∷ [])
  next_param : {l c : ℕ} {xs ys zs : List Tok} {p : Param} {ps : List Param} → c ≡ comma
      → OneParam is_type xs (mark l c ∷ ys) p → SomeParams is_type ys zs ps → SomeParams is_type xs zs (p ∷ ps)

-- the line of the first parameter's first word
abbrev pub params_line : List Param → ℕ
params_line [] = 0
params_line (p ∷ ps) = words_line p.words

-- from behind the opening parenthesis
pub data Parameters (is_type : List ℕ → Bool) : List Tok → List Tok → Option Params → Type 0 where
  nothing : {l c : ℕ} {xs : List Tok} → c ≡ right_paren → Parameters is_type (mark l c ∷ xs) xs None
  void_alone : {l c m d : ℕ} {xs : List Tok} → c ≡ void_word → d ≡ right_paren
      → Parameters is_type (word l c ∷ mark m d ∷ xs) xs (Some (tree.void l))
  some : {xs ys : List Tok} {ps : List Param} → is_void_alone xs ≡ false → SomeParams is_type xs ys ps
      → Parameters is_type xs ys (Some (tree.some_params (params_line ps) ps))

pub data Headed (is_type : List ℕ → Bool) : List Tok → List Tok → Head → Type 0 where
  head : {l m c : ℕ} {text ns : List ℕ} {xs ys zs ws : List Tok} {ss : List Spec} {ps : Option Params}
      → is_type text ≡ false → c ≡ left_paren
      → Specified is_type at_file_scope xs ys ss → AreStars ys (name l text ∷ mark m c ∷ zs) ns
      → Parameters is_type zs ws ps
      → Headed is_type xs ws (record { line = l; specs = ss; stars = ns; name = text; params = ps })

-- a parameter of a definition has a name
abbrev pub are_named : Option Params → Bool
are_named None = true
are_named (Some (tree.void l)) = true
are_named (Some (tree.some_params l ps)) = list_all (λ (p : Param). is_some p.name) ps
