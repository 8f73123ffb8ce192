-- What it means that a machine does what symbols say. The rules are this project's.
use Rattle.std.specs.Prelude.{◌≡◌, ℕ, ◌+◌, ◌-◌, ◌<◌, ◌≤◌, pos, true, false, nat_eq, nat_le, List, []}
use Rattle.std.specs.Prelude.{◌∷◌, ◌++◌, length, map, take, drop, get_or, Option, Some, None, Result, Ok, Err}
use Rattle.std.specs.Prelude.{if◌then◌else◌}
use Rattle.std.specs.List.{AllByRecursion}
use Rattle.ep_int.specs.declared.types.IntType.{IntType}
use Rattle.ep_int.specs.declared.types.IntType.TheVariants.{U8, U16, I32, U32, U64}
use Rattle.ep_int.specs.declared.types.Order.{Order}
use Rattle.ep_int.specs.Types.{bytes_of, InRange}
use Rattle.ep_int.specs.Encoding.{is_width, byte_of, sum_of_bytes}
use Rattle.ep_int.specs.Memory.{Byte, undefined, number, int, Kind, Found, has, faults}
use Rattle.ep_core.specs.Program.{Simple, nothing, eval, assign, clear, copy_aggregate, copy_bytes, fill, input, output}
use Rattle.ep_core.specs.Program.{read_bytes, write_bytes, returns, What, simple, call, if_else, loop, break_loop}
use Rattle.ep_core.specs.Program.{continue_loop, by_order, scope, Stmts, stop, more, Function, Program}
use Rattle.ep_core.specs.Exec.{Output, State, Outcome, leaves, running, no_input, undefined_at, on, size_at, frame_of}
use Rattle.ep_core.specs.Runs.{Run, ended, wants_input, IsDefined, IsOver}
use Rattle.ep_movers.specs.declared.Stop.{Stop}
use Rattle.ep_movers.specs.declared.Stop.TheVariants.{Foreign, Faulty}
use Rattle.ep_movers.specs.Symbols.{Symbol, unset, fixed_byte, input_byte}
use Rattle.ep_movers.specs.Movers.{Machine, Symbols, held, bytes_in}

-- ---- what symbols stand for, where the inputs are these

abbrev pub stands_for : (inputs : List ℕ) → Symbol → ℕ
stands_for inputs unset = 0
stands_for inputs (fixed_byte v) = v
stands_for inputs (input_byte i k) = byte_of k (get_or inputs i 0)

abbrev pub byte_in : (inputs : List ℕ) → Symbol → Byte
byte_in inputs unset = undefined
byte_in inputs (fixed_byte v) = number v
byte_in inputs (input_byte i k) = number (byte_of k (get_or inputs i 0))

abbrev pub symbol_at : List Symbol → ℕ → Symbol
symbol_at xs k = get_or xs k unset

-- the number that has these bytes, the lowest first
abbrev pub number_in : (inputs : List ℕ) → List Symbol → ℕ
number_in inputs xs = sum_of_bytes (λ k. stands_for inputs (symbol_at xs k)) (length xs)

-- a byte that is defined
abbrev pub IsByte : Symbol → Type 0
IsByte unset = ⊥
IsByte (fixed_byte v) = v < 256
IsByte (input_byte i k) = k < 8

-- also one that is undefined
abbrev pub MayBeByte : Symbol → Type 0
MayBeByte unset = Unit {0}
MayBeByte (fixed_byte v) = v < 256
MayBeByte (input_byte i k) = k < 8

-- so many bytes that are defined
pub record AreBytes (count : ℕ) (xs : List Symbol) : Type 0 where
  pub are : length xs ≡ count
  pub each : (k : ℕ) → k < count → IsByte (symbol_at xs k)

-- the unsigned type of so many bytes
abbrev pub unsigned_of : (bytes : ℕ) → IntType
unsigned_of n = if nat_eq n 1 then U8 else if nat_eq n 2 then U16 else if nat_eq n 4 then U32 else U64

-- what is put out where these are its bytes
abbrev pub output_in : (inputs : List ℕ) → List Symbol → Output
output_in inputs xs = record { t = unsigned_of (length xs); value = pos (number_in inputs xs) }

abbrev pub outputs_in : (inputs : List ℕ) → List (List Symbol) → List Output
outputs_in inputs xss = map (output_in inputs) xss

-- as many bytes as a number has
pub record IsNumber (xs : List Symbol) : Type 0 where
  pub width : is_width (length xs) ≡ true
  pub bytes : AreBytes (length xs) xs

-- ---- machines

abbrev pub symbol_in : Symbols → (block offset : ℕ) → Symbol
symbol_in m b q = (get_or (bytes_in m b) q (held unset false)).symbol

-- A machine of this program is as symbols say: each byte of each block, the inputs that were taken and those left, and
-- what was put out.
pub record Follows (o : Order) (p : Program) (inputs : List ℕ) (s : State) (m : Machine) : Type 0 where
  pub sizes : (b : ℕ) → length (bytes_in m.memory b) ≡ size_at o p b
  pub memory : (b q : ℕ) → q < size_at o p b → s.memory b q ≡ byte_in inputs (symbol_in m.memory b q)
  pub bytes : (b q : ℕ) → MayBeByte (symbol_in m.memory b q)
  pub used : s.used ≡ m.inputs
  pub enough : m.inputs ≤ length inputs
  pub left : s.inputs ≡ drop m.inputs inputs
  pub outputs : s.outputs ≡ outputs_in inputs m.outputs
  pub numbers : AllByRecursion IsNumber m.outputs

-- ---- expressions

-- the value of an expression is the number of a type that has its bytes; where these are Faulty, it has none
abbrev pub ValueFollows : (inputs : List ℕ) → IntType → Result (List Symbol) Stop → Found → Type 0
ValueFollows inputs t (Ok xs) v =
    (v ≡ has (int (pos (number_in inputs xs)))) × InRange t (pos (number_in inputs xs)) × AreBytes (bytes_of t) xs
ValueFollows inputs t (Err Foreign) v = Unit {0}
ValueFollows inputs t (Err Faulty) v = (k : Kind) × (v ≡ faults k)

-- ---- statements

-- how many inputs a statement of a mover takes
abbrev pub taken_by_simple : Simple → ℕ
taken_by_simple nothing = 0
taken_by_simple (eval e) = 0
taken_by_simple (assign what a e) = 0
taken_by_simple (clear a ty) = 0
taken_by_simple (copy_aggregate a b ty) = 0
taken_by_simple (copy_bytes a b n) = 0
taken_by_simple (fill a e n) = 0
taken_by_simple (input t d) = 1
taken_by_simple (output t e) = 0
taken_by_simple (read_bytes e n) = n
taken_by_simple (write_bytes e n) = 0
taken_by_simple (returns e) = 0

abbrev pub taken_by : What → ℕ
taken_by (simple w) = taken_by_simple w
taken_by (call k es d) = 0
taken_by (if_else e a b) = 0
taken_by (loop first e a b) = 0
taken_by break_loop = 0
taken_by continue_loop = 0
taken_by (by_order named a b) = 0
taken_by (scope bs a) = 0

-- and how many numbers it puts out
abbrev pub put_out_by_simple : Simple → ℕ
put_out_by_simple nothing = 0
put_out_by_simple (eval e) = 0
put_out_by_simple (assign what a e) = 0
put_out_by_simple (clear a ty) = 0
put_out_by_simple (copy_aggregate a b ty) = 0
put_out_by_simple (copy_bytes a b n) = 0
put_out_by_simple (fill a e n) = 0
put_out_by_simple (input t d) = 0
put_out_by_simple (output t e) = 1
put_out_by_simple (read_bytes e n) = 0
put_out_by_simple (write_bytes e n) = n
put_out_by_simple (returns e) = 0

abbrev pub put_out_by : What → ℕ
put_out_by (simple w) = put_out_by_simple w
put_out_by (call k es d) = 0
put_out_by (if_else e a b) = 0
put_out_by (loop first e a b) = 0
put_out_by break_loop = 0
put_out_by continue_loop = 0
put_out_by (by_order named a b) = 0
put_out_by (scope bs a) = 0

abbrev pub taken_by_all : Stmts → ℕ
taken_by_all stop = 0
taken_by_all (more l w rest) = taken_by w + taken_by_all rest

abbrev pub put_out_by_all : Stmts → ℕ
put_out_by_all stop = 0
put_out_by_all (more l w rest) = put_out_by w + put_out_by_all rest

-- how many they put out before one wants more than so many inputs
abbrev pub put_out_with : Stmts → (inputs : ℕ) → ℕ
put_out_with stop i = 0
put_out_with (more l w rest) i =
    if nat_le (taken_by w) i then put_out_by w + put_out_with rest (i - taken_by w) else 0

abbrev pub IsUndefined : Outcome → Type 0
IsUndefined (leaves w left s) = ⊥
IsUndefined (running s) = ⊥
IsUndefined (no_input s) = ⊥
IsUndefined (undefined_at l k s) = Unit {0}

-- undefined, or inputs are wanted
abbrev pub IsStopped : Outcome → Type 0
IsStopped (leaves w left s) = ⊥
IsStopped (running s) = ⊥
IsStopped (no_input s) = Unit {0}
IsStopped (undefined_at l k s) = Unit {0}

-- how a machine is left, with so many steps, where i more inputs were taken and j more numbers put out
pub record LeftAs (o : Order) (p : Program) (inputs : List ℕ) (steps i j : ℕ) (m n : Machine) (x : Outcome)
    : Type 0 where
  pub state : State
  pub is : x ≡ leaves on steps state
  pub follows : Follows o p inputs state n
  pub taken : n.inputs ≡ m.inputs + i
  pub put : length n.outputs ≡ length m.outputs + j

-- no more inputs are there, after these outputs
pub record Wanting (before : List Output) (x : Outcome) : Type 0 where
  pub state : State
  pub is : x ≡ no_input state
  pub outputs : state.outputs ≡ before

-- what the blocks of main are that its statements name, but for those that are global
abbrev pub blocks_of_main : Option Function → List ℕ
blocks_of_main None = []
blocks_of_main (Some f) = frame_of f

-- with enough inputs
abbrev pub Comes : Order → Program → (inputs : List ℕ) → (steps i j : ℕ) → Machine → Result Machine Stop → Outcome
    → Type 0
Comes o p inputs n i j m (Ok r) x = LeftAs o p inputs n i j m r x
Comes o p inputs n i j m (Err Foreign) x = Unit {0}
Comes o p inputs n i j m (Err Faulty) x = IsUndefined x

-- with too few
abbrev pub Wants : (before : List Output) → Result Machine Stop → Outcome → Type 0
Wants before (Ok r) x = Wanting before x
Wants before (Err Foreign) x = Unit {0}
Wants before (Err Faulty) x = IsStopped x

-- with too few for several statements, where so many numbers were put out before
abbrev pub WantsAfter : (inputs : List ℕ) → (count : ℕ) → Result Machine Stop → Outcome → Type 0
WantsAfter inputs n (Ok r) x = Wanting (outputs_in inputs (take n r.outputs)) x
WantsAfter inputs n (Err Foreign) x = Unit {0}
WantsAfter inputs n (Err Faulty) x = IsStopped x

-- A machine does what symbols say, with enough inputs and with too few.
pub record MovesSo (o : Order) (p : Program) (inputs : List ℕ) (steps i j : ℕ) (s : State) (m : Machine)
    (r : Result Machine Stop) (x : Outcome)
    : Type 0 where
  pub enough : m.inputs + i ≤ length inputs → Comes o p inputs steps i j m r x
  pub few : length inputs < m.inputs + i → Wants s.outputs r x

-- So do statements one after another.
pub record AllMoveSo (o : Order) (p : Program) (inputs : List ℕ) (steps : ℕ) (ss : Stmts) (m : Machine)
    (r : Result Machine Stop) (x : Outcome)
    : Type 0 where
  pub enough : m.inputs + taken_by_all ss ≤ length inputs
      → Comes o p inputs steps (taken_by_all ss) (put_out_by_all ss) m r x
  pub few : length inputs < m.inputs + taken_by_all ss
      → WantsAfter inputs (length m.outputs + put_out_with ss (length inputs - m.inputs)) r x

-- ---- whole runs

abbrev pub body_of_main : Option Function → Stmts
body_of_main None = stop
body_of_main (Some f) = f.body

-- main's result, which is zero bytes from the start on
abbrev pub zero_result : Output
zero_result = record { t = I32; value = pos 0 }

-- with enough inputs
abbrev pub Ends : (inputs : List ℕ) → Result Machine Stop → Run → Type 0
Ends inputs (Ok r) x = (x.ending ≡ ended) × (x.outputs ≡ outputs_in inputs r.outputs ++ zero_result ∷ [])
Ends inputs (Err Foreign) x = Unit {0}
Ends inputs (Err Faulty) x = IsDefined x.ending → ⊥

-- with too few, where so many numbers were put out before
abbrev pub Starves : (inputs : List ℕ) → (count : ℕ) → Result Machine Stop → Run → Type 0
Starves inputs n (Ok r) x = (x.ending ≡ wants_input) × (x.outputs ≡ outputs_in inputs (take n r.outputs))
Starves inputs n (Err Foreign) x = Unit {0}
Starves inputs n (Err Faulty) x = IsOver x.ending × (x.ending ≡ ended → ⊥)

-- A run does what symbols say.
pub record RunsSo (inputs : List ℕ) (body : Stmts) (r : Result Machine Stop) (x : Run) : Type 0 where
  pub enough : taken_by_all body ≤ length inputs → Ends inputs r x
  pub few : length inputs < taken_by_all body → Starves inputs (put_out_with body (length inputs)) r x
