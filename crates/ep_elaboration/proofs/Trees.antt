-- Short names for trees.
use Rattle.std.proofs.Common.{ℕ, zero, suc, List, [], ◌∷◌, true, false, Bool, Option, Some, None}
use Rattle.std.specs.Prelude.{codes, map}
use Rattle.ep_ast.specs.Mark as mark
use Rattle.ep_ast.specs.Expression as source
use Rattle.ep_ast.specs.Expression.{Expr, TypeName, TypeWord, to_exprs}
use Rattle.ep_ast.specs.Declaration as declarations
use Rattle.ep_ast.specs.Declaration.{Declarator, Spec, Member, MemberField, Aggregate, Value, Init, Declaration}
use Rattle.ep_ast.specs.Declaration.{Typedef, Param, Params, Head, to_specs, to_members}
use Rattle.ep_ast.specs.Statement as tree
use Rattle.ep_ast.specs.Statement.{Part, Block, Function, Item, Stmt, to_parts}

-- ---- expressions

abbrev pub literal : (line value : ℕ) → (decimal is_unsigned : Bool) → (longs : ℕ) → Expr
literal l n d u k = source.number l (record { value = n; decimal = d; unsigned = u; longs = k })

abbrev pub number : (line value : ℕ) → Expr
number l n = literal l n true false 0

-- 0 is an octal number
abbrev pub zero_at : (line : ℕ) → Expr
zero_at l = literal l 0 false false 0

abbrev pub member_of : ℕ → Expr → List ℕ → Expr
member_of l e n = source.member l e n

-- `&` of a name
abbrev pub address_of : ℕ → List ℕ → Expr
address_of l t = source.unary l mark.ampersand (source.id l t)

-- a call by a name
abbrev pub call_of : ℕ → List ℕ → List Expr → Expr
call_of l f es = source.call l (source.id l f) (to_exprs es)

-- `~` so many times, and what stands behind them
abbrev pub tildes : ℕ → (line : ℕ) → Expr → Expr
tildes zero l e = e
tildes (suc n) l e = source.unary l mark.tilde (tildes n l e)

-- ---- types

abbrev pub type_name : ℕ → List TypeWord → List ℕ → TypeName
type_name l ws ns = record { line = l; words = ws; stars = ns }

abbrev pub int_word_at : ℕ → List TypeWord
int_word_at l = source.word l mark.int_word ∷ []

abbrev pub char_word_at : ℕ → List TypeWord
char_word_at l = source.word l mark.char_word ∷ []

abbrev pub void_word_at : ℕ → List TypeWord
void_word_at l = source.word l mark.void_word ∷ []

abbrev pub unsigned_word_at : ℕ → List TypeWord
unsigned_word_at l = source.word l mark.unsigned_word ∷ []

abbrev pub long_word_at : ℕ → List TypeWord
long_word_at l = source.word l mark.long_word ∷ []

abbrev pub typedef_at : ℕ → List ℕ → List TypeWord
typedef_at l t = source.typedef_name l t ∷ []

abbrev pub struct_at : ℕ → List ℕ → List TypeWord
struct_at l t = source.tagged l mark.struct_word t ∷ []

-- the same before declarators
abbrev pub one_word : (line code : ℕ) → List Spec
one_word l w = declarations.plain (source.word l w) ∷ []

abbrev pub two_words : (line code second : ℕ) → List Spec
two_words l w v = declarations.plain (source.word l w) ∷ declarations.plain (source.word l v) ∷ []

abbrev pub int_words : ℕ → List Spec
int_words l = one_word l mark.int_word

abbrev pub char_words : ℕ → List Spec
char_words l = one_word l mark.char_word

abbrev pub void_words : ℕ → List Spec
void_words l = one_word l mark.void_word

abbrev pub unsigned_words : ℕ → List Spec
unsigned_words l = one_word l mark.unsigned_word

abbrev pub typedef_words : ℕ → List ℕ → List Spec
typedef_words l t = declarations.plain (source.typedef_name l t) ∷ []

abbrev pub struct_words : ℕ → List ℕ → List Spec
struct_words l t = declarations.plain (source.tagged l mark.struct_word t) ∷ []

abbrev pub union_words : ℕ → List ℕ → List Spec
union_words l t = declarations.plain (source.tagged l mark.union_word t) ∷ []

-- ---- structs and unions

abbrev pub declarator : ℕ → List ℕ → List ℕ → List (Option Expr) → Declarator
declarator l ns t bs = record { line = l; stars = ns; name = t; bounds = bs }

-- members of one type
abbrev pub members_of : ℕ → List Spec → List Declarator → Member
members_of l ss ds = declarations.member l (to_specs ss) (map declarations.whole ds)

abbrev pub field : ℕ → List Spec → List ℕ → Member
field l ss t = members_of l ss (declarator l [] t [] ∷ [])

abbrev pub pointer_field : ℕ → List Spec → List ℕ → Member
pointer_field l ss t = members_of l ss (declarator l (0 ∷ []) t [] ∷ [])

abbrev pub array_field : ℕ → List Spec → List ℕ → Expr → Member
array_field l ss t e = members_of l ss (declarator l [] t (Some e ∷ []) ∷ [])

-- bit-fields of one type
abbrev pub bit_fields : ℕ → List Spec → List MemberField → Member
bit_fields l ss fs = declarations.member l (to_specs ss) fs

-- a bit-field of so many bits, and one without a name
abbrev pub bits_of : ℕ → List ℕ → Expr → MemberField
bits_of l t e = declarations.bits l (Some t) e

abbrev pub no_name : ℕ → Expr → MemberField
no_name l e = declarations.bits l None e

abbrev pub bits_field : ℕ → List Spec → List ℕ → Expr → Member
bits_field l ss t e = bit_fields l ss (bits_of l t e ∷ [])

abbrev pub unnamed_field : ℕ → List Spec → Expr → Member
unnamed_field l ss e = bit_fields l ss (no_name l e ∷ [])

abbrev pub struct_of : ℕ → List ℕ → List Member → Aggregate
struct_of l t ms = declarations.aggregate l mark.struct_word (Some t) (to_members ms)

abbrev pub union_of : ℕ → List ℕ → List Member → Aggregate
union_of l t ms = declarations.aggregate l mark.union_word (Some t) (to_members ms)

-- ---- objects

abbrev pub init : Declarator → Option Value → Init
init d v = record { line = d.line; declarator = d; value = v }

-- a name alone, with a star, with a bound, and with a first value
abbrev pub object : ℕ → List ℕ → Init
object l t = init (declarator l [] t []) None

abbrev pub pointer_object : ℕ → List ℕ → Init
pointer_object l t = init (declarator l (0 ∷ []) t []) None

abbrev pub array_object : ℕ → List ℕ → Expr → Init
array_object l t e = init (declarator l [] t (Some e ∷ [])) None

abbrev pub object_of : ℕ → List ℕ → Expr → Init
object_of l t e = init (declarator l [] t []) (Some (declarations.single e))

-- the same by themselves
abbrev pub variable : ℕ → List ℕ → List Init
variable l t = object l t ∷ []

abbrev pub pointer : ℕ → List ℕ → List Init
pointer l t = pointer_object l t ∷ []

abbrev pub array : ℕ → List ℕ → Expr → List Init
array l t e = array_object l t e ∷ []

abbrev pub variable_of : ℕ → List ℕ → Expr → List Init
variable_of l t e = object_of l t e ∷ []

abbrev pub declaration : ℕ → List Spec → List Init → Declaration
declaration l ss is = record { line = l; specs = ss; inits = is }

abbrev pub typedef : ℕ → List Spec → List Declarator → Typedef
typedef l ss ds = record { line = l; specs = ss; declarators = ds }

-- a declaration at file scope, and one in a block
abbrev pub global : ℕ → List Spec → List Init → Item
global l ss is = tree.declares_all (declaration l ss is)

abbrev pub local : ℕ → List Spec → List Init → Part
local l ss is = tree.declares_in (declaration l ss is)

-- ---- functions

abbrev pub param : ℕ → List TypeWord → List ℕ → Option (List ℕ) → List (Option Expr) → Param
param l ws ns t bs = record { line = l; words = ws; stars = ns; name = t; bounds = bs }

abbrev pub takes : ℕ → List TypeWord → List ℕ → Param
takes l ws t = param l ws [] (Some t) []

abbrev pub takes_pointer : ℕ → List TypeWord → List ℕ → Param
takes_pointer l ws t = param l ws (0 ∷ []) (Some t) []

abbrev pub params : ℕ → List Param → Option Params
params l ps = Some (declarations.some_params l ps)

abbrev pub no_params : ℕ → Option Params
no_params l = Some (declarations.void l)

abbrev pub head : ℕ → List Spec → List ℕ → List ℕ → Option Params → Head
head l ss ns t ps = record { line = l; specs = ss; stars = ns; name = t; params = ps }

abbrev pub block_at : ℕ → List Part → Block
block_at l ps = record { line = l; parts = ps }

abbrev pub function : Head → Block → Function
function h b = record { line = h.line; head = h; body = b }

-- a function on one line
abbrev pub defined : ℕ → List Spec → List ℕ → Option Params → List Part → Function
defined l ss t qs ps = function (head l ss [] t qs) (block_at l ps)

abbrev pub defines_function : ℕ → List Spec → List ℕ → Option Params → List Part → Item
defines_function l ss t qs ps = tree.defines (defined l ss t qs ps)

-- int main(void)
abbrev pub main_at : ℕ → List Part → Item
main_at l ps = defines_function l (int_words l) (codes "main") (no_params l) ps

-- ---- statements

abbrev pub does : ℕ → Expr → Part
does l e = tree.states (tree.evaluate l (Some e))

abbrev pub returns : ℕ → Expr → Part
returns l e = tree.states (tree.return_value l (Some e))

abbrev pub sets : ℕ → Expr → Expr → Part
sets l e v = does l (source.assign l mark.equal e v)

abbrev pub does_call : ℕ → List ℕ → List Expr → Part
does_call l f es = does l (call_of l f es)

abbrev pub in_block : ℕ → List Part → Part
in_block l ps = tree.states (tree.block l (to_parts ps))

-- `if (1)` so many times, and what stands behind them
abbrev pub ifs : ℕ → (line : ℕ) → Stmt → Stmt
ifs zero l s = s
ifs (suc n) l s = tree.if_then l (number l 1) (ifs n l s)

-- int main(void) { return 0; }
abbrev pub plain_main : ℕ → Item
plain_main l = main_at l (returns l (zero_at l) ∷ [])
