-- Small programs, as sources of a few lines mean them.
use Rattle.std.specs.Prelude.{ℕ, pos, false, List, [], ◌∷◌, Some}
use Rattle.ep_int.specs.declared.types.IntType.TheVariants.{U8, U16, I32, U32}
use Rattle.ep_int.specs.declared.types.Model.TheVariants.{Ilp32}
use Rattle.ep_int.specs.declared.types.Order.{Order}
use Rattle.ep_int.specs.declared.types.Order.TheVariants.{Little, Big}
use Rattle.ep_int.specs.declared.types.Scalar.TheVariants.{Int}
use Rattle.ep_alarms.specs.declared.types.Alarm.{Alarm}
use Rattle.ep_alarms.specs.declared.types.AlarmKind.{AlarmKind}
use Rattle.ep_core.specs.Program.{Place, block, member, element, Expr, const, load, assign, input, output, What}
use Rattle.ep_core.specs.Program.{simple, Stmts, Block, Function, Program}
use Rattle.ep_core.specs.Runs.{Side, left, right}
use Rattle.ep_pass.specs.Pass.{report_of, turns_of}
use Rattle.tests_analysis.specs.Exact.{exact}

-- ---- parts

abbrev pub sized : ℕ → Block
sized n = record { size = n; ty = 0; global = false }

abbrev pub main_of : (locals : List ℕ) → Stmts → Function
main_of bs body = record { name = []; line = 1; params = []; result = Some (0, Int I32); locals = bs; body = body }

-- main alone, whose result is block 0
abbrev pub program : (locals : List ℕ) → List Block → Stmts → Program
program ns bs body = record {
  types = record { model = Ilp32; types = []; aggregates = []; completed = [] };
  blocks = sized 4 ∷ bs;
  init = [];
  functions = main_of ns body ∷ [];
  main = 0;
}

abbrev pub number : ℕ → Expr
number n = const I32 (pos n)

abbrev pub unsigned : ℕ → Expr
unsigned n = const U32 (pos n)

abbrev pub u32 : Place → Expr
u32 a = load (Int U32) a

abbrev pub u16 : Place → Expr
u16 a = load (Int U16) a

abbrev pub byte_of : (block : ℕ) → (index : ℕ) → Place
byte_of b i = element (member (block b) 0) 4 1 (number i)

abbrev pub set32 : ℕ → Expr → What
set32 b e = simple (assign (Int U32) (block b) e)

abbrev pub set16 : ℕ → Expr → What
set16 b e = simple (assign (Int U16) (block b) e)

abbrev pub put32 : Expr → What
put32 e = simple (output U32 e)

abbrev pub take32 : ℕ → What
take32 b = simple (input U32 (Some (record { what = Int U32; cast = false; place = block b })))

-- u.b[0] of the union of block 1, an unsigned char
abbrev pub first_byte : Expr
first_byte = load (Int U8) (byte_of 1 0)

abbrev pub orders : Order → Order → Side → Order
orders a b left = a
orders a b right = b

abbrev pub usual : Side → Order
usual = orders Little Big

-- alarms by kind and line
abbrev pub places : List Alarm → List (AlarmKind × ℕ)
places [] = []
places (a ∷ rest) = (a.kind, a.line) ∷ places rest

abbrev pub told : (Side → Order) → (unroll : ℕ) → (inputs : List (List ℕ)) → Program → List (AlarmKind × ℕ)
told ord u vs p = places (report_of (exact p ord vs) u 100 ord p)

abbrev pub passes_in : (unroll : ℕ) → (inputs : List (List ℕ)) → Program → ℕ
passes_in u vs p = turns_of (exact p usual vs) u 100 usual p
