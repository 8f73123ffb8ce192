-- Short names for trees whose tokens all stand on line 2, and for what is asked of them.
use Rattle.std.proofs.Common.{ℕ, List, true, false, Bool, Result, Ok, Err}
use Rattle.ep_int.specs.declared.types.IntType.{IntType}
use Rattle.ep_int.specs.declared.types.Scalar.TheVariants as scalars
use Rattle.ep_ast.specs.declared.refusals.Refusal.{Refusal}
use Rattle.ep_ast.specs.Expression as source
use Rattle.ep_ast.specs.Expression.{Expr, TypeName, TypeWord, to_exprs}
use Rattle.ep_core.specs.Program as core

abbrev pub assign : ℕ → Expr → Expr → Expr
assign m a b = source.assign 2 m a b

abbrev pub conditional : Expr → Expr → Expr → Expr
conditional a b c = source.conditional 2 a b c

abbrev pub binary : ℕ → Expr → Expr → Expr
binary m a b = source.binary 2 m a b

abbrev pub type_name : List TypeWord → List ℕ → TypeName
type_name ws ns = record { line = 2; words = ws; stars = ns }

abbrev pub cast : TypeName → Expr → Expr
cast n a = source.cast 2 n a

abbrev pub step : ℕ → Expr → Expr
step m a = source.step 2 m a

abbrev pub unary : ℕ → Expr → Expr
unary m a = source.unary 2 m a

abbrev pub sizeof_expr : Expr → Expr
sizeof_expr a = source.sizeof_expr 2 a

abbrev pub sizeof_type : TypeName → Expr
sizeof_type n = source.sizeof_type 2 n

abbrev pub index : Expr → Expr → Expr
index a b = source.index 2 a b

abbrev pub call : Expr → List Expr → Expr
call f es = source.call 2 f (to_exprs es)

abbrev pub member : Expr → List ℕ → Expr
member a n = source.member 2 a n

abbrev pub arrow : Expr → List ℕ → Expr
arrow a n = source.arrow 2 a n

abbrev pub post_increment : Expr → Expr
post_increment a = source.post_increment 2 a

abbrev pub post_decrement : Expr → Expr
post_decrement a = source.post_decrement 2 a

abbrev pub id : List ℕ → Expr
id t = source.id 2 t

abbrev pub literal : ℕ → (decimal is_unsigned : Bool) → (longs : ℕ) → Expr
literal n d u k = source.number 2 (record { value = n; decimal = d; unsigned = u; longs = k })

abbrev pub number : ℕ → Expr
number n = literal n true false 0

-- the kind of a refusal on line 2, and 0 where nothing is refused
abbrev pub kind : {A : Type 0} → Result A Refusal → ℕ
kind (Ok x) = 0
kind (Err r) = r.kind

-- an object of an integer type, a pointer, and what they hold
abbrev pub load_int : IntType → ℕ → core.Expr
load_int t b = core.load (scalars.Int t) (core.block b)

abbrev pub load_pointer : ℕ → core.Expr
load_pointer b = core.load scalars.Pointer (core.block b)
