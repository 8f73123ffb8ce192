-- What a mover does on a machine, by the text alone, and which programs are movers. The rules are this project's.
use Rattle.std.specs.Prelude.{ℕ, zero, suc, ◌+◌, ◌*◌, ◌^◌, ℤ, Bool, true, false, ◌&&◌, ◌||◌, not, nat_lt, nat_le}
use Rattle.std.specs.Prelude.{if◌then◌else◌, List, [], ◌∷◌, ◌++◌, length, fold, get_or, slice_set, Option, Some, None}
use Rattle.std.specs.Prelude.{slice_get, Result, Ok, Err}
use Rattle.ep_int.specs.declared.types.IntType.{IntType}
use Rattle.ep_int.specs.declared.types.IntType.TheVariants.{U32}
use Rattle.ep_int.specs.declared.types.Order.{Order}
use Rattle.ep_int.specs.declared.types.Scalar.{Scalar}
use Rattle.ep_int.specs.declared.types.Scalar.TheVariants.{Int as Number, Pointer}
use Rattle.ep_int.specs.Types.{bytes_of, residue}
use Rattle.ep_int.specs.Arith.{is_in_range}
use Rattle.ep_int.specs.Encoding.{place}
use Rattle.ep_core.specs.Program.{Place, block, deref, member, element, Expr, const, null_value, load, addr_of}
use Rattle.ep_core.specs.Program.{binary, convert, compare, ptr_compare, logical_and, logical_or, logical_not}
use Rattle.ep_core.specs.Program.{conditional, ptr_add, cast, Dest, Simple, nothing, eval, assign, clear}
use Rattle.ep_core.specs.Program.{copy_aggregate, copy_bytes, fill, input, output, read_bytes, write_bytes, returns}
use Rattle.ep_core.specs.Program.{What, simple, call, if_else, loop, break_loop, continue_loop, by_order, scope}
use Rattle.ep_core.specs.Program.{Stmts, stop, more, Block, Init, Function, Program}
use Rattle.ep_core.specs.Exec.{is_order, result_in}
use Rattle.ep_core.specs.Runs.{is_result}
use Rattle.ep_movers.specs.declared.Stop.{Stop}
use Rattle.ep_movers.specs.declared.Stop.TheVariants.{Foreign, Faulty}
use Rattle.ep_movers.specs.Symbols.{Symbol, unset, fixed_byte, input_byte, goes_on, fixed_bytes}
use Rattle.ep_movers.specs.Symbols.{is_set, operated, resized}
use Rattle.ep_movers.specs.Forms.{constant, block_of, has_moving_form}

-- ---- memory

-- a byte, and whether a statement wrote it
pub record Held : Type 0 where
  pub symbol : Symbol
  pub written : Bool

abbrev pub held : Symbol → Bool → Held
held x w = record { symbol = x; written = w }

-- the bytes of each block
abbrev pub Symbols : Type 0
Symbols = List (List Held)

-- the symbols of memory, how many inputs were taken, and the numbers put out
pub record Machine : Type 0 where
  pub memory : Symbols
  pub inputs : ℕ
  pub outputs : List (List Symbol)

abbrev pub bytes_in : Symbols → (block : ℕ) → List Held
bytes_in m b = get_or m b []

-- a byte, which may lie outside of its block
abbrev pub byte_at : List Held → ℕ → Result Symbol Stop
byte_at hs q = if nat_lt q (length hs) then Ok (get_or hs q (held unset false)).symbol else Err Faulty

-- it has to be defined
abbrev pub defined : Symbol → Result Symbol Stop
defined x = if is_set x then Ok x else Err Faulty

-- A byte is written once alone.
abbrev pub byte_written : List Held → ℕ → Symbol → Result (List Held) Stop
byte_written hs q x =
    if not (nat_lt q (length hs)) then Err Faulty
    else if (get_or hs q (held unset false)).written then Err Foreign else Ok (slice_set hs q (held x true))

-- of so many zero bytes, or undefined ones
abbrev pub blank_bytes : (is_zero : Bool) → (count : ℕ) → List Held
blank_bytes z zero = []
blank_bytes z (suc n) = held (if z then fixed_byte 0 else unset) false ∷ blank_bytes z n

-- blocks from number n on: globals and the result of main are zero (C11 6.7.9p10 and 5.1.2.2.3), all else is undefined
abbrev pub blank_blocks : (result : Option (ℕ × Scalar)) → (n : ℕ) → List Block → Symbols
blank_blocks r n [] = []
blank_blocks r n (b ∷ bs) = blank_bytes (b.global || is_result r n) b.size ∷ blank_blocks r (suc n) bs

-- ---- places, and what a machine keeps

-- where an element lies in its block (C11 6.5.6p8)
abbrev pub offset_of : (bound unit : ℕ) → Option ℤ → Result ℕ Stop
offset_of bound unit None = Err Foreign
offset_of bound unit (Some v) =
    if is_in_range U32 v && nat_lt (residue (2 ^ 32) v) bound then Ok (unit * residue (2 ^ 32) v) else Err Faulty

-- so many units from the begin of a block of so many bytes; one past the end is in place too (C11 6.5.6p8)
abbrev pub offset_to : (bytes unit : ℕ) → Option ℤ → Result ℕ Stop
offset_to n unit None = Err Foreign
offset_to n unit (Some v) =
    if is_in_range U32 v && nat_le (unit * residue (2 ^ 32) v) n then Ok (unit * residue (2 ^ 32) v) else Err Faulty

-- the block that a place lies in, and where
abbrev pub place_of : Place → Result (ℕ × ℕ) Stop
place_of (block b) = Ok (b, 0)
place_of (deref e) = Err Foreign
place_of (member a offset) = Err Foreign
place_of (element (block b) bound unit i) = goes_on (offset_of bound unit (constant i)) (λ q. Ok (b, q))
place_of (element (deref e) bound unit i) = Err Foreign
place_of (element (member a offset) bound unit i) = Err Foreign
place_of (element (element a n u j) bound unit i) = Err Foreign

abbrev pub block_at : Option ℕ → Result ℕ Stop
block_at None = Err Foreign
block_at (Some b) = Ok b

-- where a pointer points: to a block, or to an element of it
abbrev pub target_of : Symbols → Expr → Result (ℕ × ℕ) Stop
target_of m (const t v) = Err Foreign
target_of m null_value = Err Foreign
target_of m (load what a) = Err Foreign
target_of m (addr_of a) = goes_on (block_at (block_of (addr_of a))) (λ b. Ok (b, 0))
target_of m (binary op t a b) = Err Foreign
target_of m (convert t e) = Err Foreign
target_of m (compare c t a b) = Err Foreign
target_of m (ptr_compare c a b) = Err Foreign
target_of m (logical_and a b) = Err Foreign
target_of m (logical_or a b) = Err Foreign
target_of m (logical_not e) = Err Foreign
target_of m (conditional e a b) = Err Foreign
target_of m (ptr_add e unit n back) =
    goes_on (block_at (block_of e))
    (λ b. goes_on (offset_to (length (bytes_in m b)) unit (constant n)) (λ q. Ok (b, q)))
target_of m (cast e) = Err Foreign

abbrev pub remembers : Machine → (block : ℕ) → List Held → Machine
remembers s b hs = record s { memory = slice_set s.memory b hs }

abbrev pub puts_out : Machine → List Symbol → Machine
puts_out s xs = record s { outputs = s.outputs ++ (xs ∷ []) }

-- the bytes of so many that the next input has, from byte k on
abbrev pub input_bytes : (input byte count : ℕ) → List Symbol
input_bytes i k zero = []
input_bytes i k (suc n) = input_byte i k ∷ input_bytes i (suc k) n

abbrev pub taken : Machine → (inputs : ℕ) → Machine
taken s n = record s { inputs = s.inputs + n }

-- so many bytes of a block are the lowest bytes of the next inputs, one after another
abbrev pub bytes_taken : (block offset count : ℕ) → Machine → Result Machine Stop
bytes_taken b q zero s = Ok s
bytes_taken b q (suc n) s =
    goes_on (byte_written (bytes_in s.memory b) q (input_byte s.inputs 0))
    (λ hs. bytes_taken b (suc q) n (taken (remembers s b hs) 1))

-- so many bytes of a block are put out, each by itself
abbrev pub bytes_put_out : List Held → (offset count : ℕ) → Machine → Result Machine Stop
bytes_put_out hs q zero s = Ok s
bytes_put_out hs q (suc n) s =
    goes_on (byte_at hs q) (λ x. goes_on (defined x) (λ x. bytes_put_out hs (suc q) n (puts_out s (x ∷ []))))

-- on a machine of this order
module _ (o : Order) where
  -- the bytes of a number of so many that lies at an offset, from byte k on
  abbrev pub loaded_bytes : List Held → (offset width byte count : ℕ) → Result (List Symbol) Stop
  loaded_bytes hs q w k zero = Ok []
  loaded_bytes hs q w k (suc n) =
      goes_on (byte_at hs (q + place o w k))
      (λ x. goes_on (defined x) (λ x. goes_on (loaded_bytes hs q w (suc k) n) (λ xs. Ok (x ∷ xs))))

  -- bytes of a number become these, from byte k on
  abbrev pub bytes_written : (offset width byte : ℕ) → List Symbol → List Held → Result (List Held) Stop
  bytes_written q w k [] hs = Ok hs
  bytes_written q w k (x ∷ xs) hs =
      goes_on (byte_written hs (q + place o w k) x) (bytes_written q w (suc k) xs)

  -- the same of a first value, which no statement writes
  abbrev pub first_bytes : (offset width byte : ℕ) → List Symbol → List Held → List Held
  first_bytes q w k [] hs = hs
  first_bytes q w k (x ∷ xs) hs = first_bytes q w (suc k) xs (slice_set hs (q + place o w k) (held x false))

  abbrev pub first_value : Symbols → Init → Symbols
  first_value m i =
      slice_set m i.block
      (first_bytes i.offset (bytes_of i.t) 0 (fixed_bytes i.value 0 (bytes_of i.t)) (bytes_in m i.block))

  abbrev pub first_memory : Program → (result : Option (ℕ × Scalar)) → Symbols
  first_memory p r = fold first_value (blank_blocks r 0 p.blocks) p.init

  -- ---- expressions

  abbrev pub loaded_from : Symbols → Scalar → Place → Result (List Symbol) Stop
  loaded_from m (Number t) a =
      goes_on (place_of a) (λ w. loaded_bytes (bytes_in m w.0) w.1 (bytes_of t) 0 (bytes_of t))
  loaded_from m Pointer a = Err Foreign

  -- the bytes of an expression, the lowest first
  abbrev pub symbols : Symbols → Expr → Result (List Symbol) Stop
  symbols m (const t v) = Ok (fixed_bytes v 0 (bytes_of t))
  symbols m null_value = Err Foreign
  symbols m (load what a) = loaded_from m what a
  symbols m (addr_of a) = Err Foreign
  symbols m (binary op t a b) =
      goes_on (symbols m a) (λ xs. goes_on (symbols m b) (operated op (constant a) (constant b) xs))
  symbols m (convert t e) = goes_on (symbols m e) (λ xs. Ok (resized t xs))
  symbols m (compare c t a b) = Err Foreign
  symbols m (ptr_compare c a b) = Err Foreign
  symbols m (logical_and a b) = Err Foreign
  symbols m (logical_or a b) = Err Foreign
  symbols m (logical_not e) = Err Foreign
  symbols m (conditional e a b) = Err Foreign
  symbols m (ptr_add e unit n back) = Err Foreign
  symbols m (cast e) = Err Foreign

  -- ---- statements

  -- the bytes of a number of a type at a place
  abbrev pub writes : IntType → Machine → ℕ × ℕ → List Symbol → Result Machine Stop
  writes t s w xs =
      goes_on (bytes_written w.1 (bytes_of t) 0 xs (bytes_in s.memory w.0)) (λ hs. Ok (remembers s w.0 hs))

  abbrev pub takes : IntType → Option Dest → Machine → Result Machine Stop
  takes t None s = Err Foreign
  takes t (Some d) s =
      goes_on (place_of d.place) (λ w. writes t (taken s 1) w (input_bytes s.inputs 0 (bytes_of t)))

  -- a number, converted to the type of the place (C11 6.5.16.1p2)
  abbrev pub assigns : Scalar → Place → Expr → Machine → Result Machine Stop
  assigns (Number t) a e s =
      goes_on (place_of a) (λ w. goes_on (symbols s.memory e) (λ xs. writes t s w (resized t xs)))
  assigns Pointer a e s = Err Foreign

  abbrev pub does : Simple → Machine → Result Machine Stop
  does nothing s = Ok s
  does (eval e) s = Err Foreign
  does (assign what a e) s = assigns what a e s
  does (clear a ty) s = Err Foreign
  does (copy_aggregate a b ty) s = Err Foreign
  does (copy_bytes a b n) s = Err Foreign
  does (fill a e n) s = Err Foreign
  does (input t d) s = takes t d s
  does (output t e) s = goes_on (symbols s.memory e) (λ xs. Ok (puts_out s xs))
  does (read_bytes e n) s = goes_on (block_at (block_of e)) (λ b. bytes_taken b 0 n s)
  does (write_bytes e n) s =
      goes_on (target_of s.memory e) (λ w. bytes_put_out (bytes_in s.memory w.0) w.1 n s)
  does (returns e) s = Err Foreign

  abbrev mutual
    pub moves_what : What → Machine → Result Machine Stop
    moves_what (simple w) s = does w s
    moves_what (call k es d) s = Err Foreign
    moves_what (if_else e a b) s = Err Foreign
    moves_what (loop first e a b) s = Err Foreign
    moves_what break_loop s = Err Foreign
    moves_what continue_loop s = Err Foreign
    moves_what (by_order named a b) s = if is_order o named then moves a s else moves b s
    moves_what (scope bs a) s = Err Foreign

    pub moves : Stmts → Machine → Result Machine Stop
    moves stop s = Ok s
    moves (more l w rest) s = goes_on (moves_what w s) (moves rest)

  -- ---- movers

  abbrev pub first_machine : Program → (result : Option (ℕ × Scalar)) → Machine
  first_machine p r = record { memory = first_memory p r; inputs = 0; outputs = [] }

  abbrev pub main_moves : Program → Option Function → Result Machine Stop
  main_moves p None = Err Foreign
  main_moves p (Some f) = moves f.body (first_machine p (result_in (Some f)))

-- what it put out
abbrev pub outputs_of : Result Machine Stop → Result (List (List Symbol)) Stop
outputs_of (Ok s) = Ok s.outputs
outputs_of (Err e) = Err e

-- the numbers that a machine of this order puts out, by their bytes, the lowest first; bytes are numbers of one
abbrev pub outputs_on : Order → Program → Result (List (List Symbol)) Stop
outputs_on o p = outputs_of (main_moves o p (slice_get p.functions p.main))

-- Whether it isn't foreign to movers. Where its behaviour is undefined, nothing is asked of what would come after that.
abbrev pub is_moved : Result Machine Stop → Bool
is_moved (Ok s) = true
is_moved (Err Foreign) = false
is_moved (Err Faulty) = true

-- on a machine of this order no byte is written twice, and operators put bytes together of which one is always 0
abbrev pub moves_on : Order → Program → Bool
moves_on o p = is_moved (main_moves o p (slice_get p.functions p.main))

abbrev pub is_mover_text : Program → (a b : Order) → Bool
is_mover_text p a b = has_moving_form p && (moves_on a p && moves_on b p)
