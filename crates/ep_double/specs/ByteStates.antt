-- What a mover does on a machine, as the code follows it: of each byte whether it is undefined, 0 or another.
use Rattle.std.specs.Prelude.{ℕ, zero, suc, ◌+◌, ◌^◌, ℤ, Bool, true, false, ◌&&◌, ◌||◌, nat_eq, nat_lt}
use Rattle.std.specs.Prelude.{if◌then◌else◌, List}
use Rattle.std.specs.Prelude.{[], ◌∷◌, ◌++◌, length, take, drop, map, fold, get_or, slice_set, Option, Some}
use Rattle.std.specs.Prelude.{None, Result, Ok, Err}
use Rattle.std.specs.declared.alloc.Global.{Global}
use Rattle.std.specs.declared.vec.Vec.{Vec}
use Rattle.arrayvec.specs.ArrayVec.{ArrayVec}
use Rattle.ep_int.specs.declared.types.IntType.{IntType}
use Rattle.ep_int.specs.declared.types.BinOp.{BinOp}
use Rattle.ep_int.specs.declared.types.BinOp.TheVariants.{Add, Sub, Mul, Div, Rem, And, Or, Xor, Shl, Shr}
use Rattle.ep_int.specs.declared.types.Order.{Order}
use Rattle.ep_int.specs.declared.types.Scalar.{Scalar}
use Rattle.ep_int.specs.declared.types.Scalar.TheVariants.{Int as Number, Pointer}
use Rattle.ep_int.specs.Types.{bytes_of, residue}
use Rattle.ep_int.specs.Encoding.{byte_of, place}
use Rattle.ep_core.specs.Program.{Place, Expr, const, load, binary, convert, addr_of, ptr_add, Dest, Simple, nothing}
use Rattle.ep_core.specs.Program.{assign, input, output, read_bytes, write_bytes, What, simple, by_order, Stmts, stop}
use Rattle.ep_core.specs.Program.{more, Block, Init, Function, Program}
use Rattle.ep_core.specs.Exec.{is_order, result_in}
use Rattle.ep_core.specs.Runs.{is_result}
use Rattle.ep_movers.specs.declared.Stop.{Stop}
use Rattle.ep_movers.specs.declared.Stop.TheVariants.{Foreign, Faulty}
use Rattle.ep_movers.specs.Symbols.{goes_on, bytes_moved, is_mask}
use Rattle.ep_movers.specs.Forms.{constant, block_of}
use Rattle.ep_movers.specs.Movers.{place_of, block_at, offset_to}
use Rattle.ep_double.specs.declared.mover.bytes.ByteState.{ByteState}
use Rattle.ep_double.specs.declared.mover.bytes.ByteState.TheVariants.{Unset, Zero, Other}
use Rattle.ep_double.specs.declared.mover.memory.ByteHeld.{ByteHeld}

-- ---- bytes of numbers, the lowest first

abbrev pub state_of_byte : ℕ → ByteState
state_of_byte v = if nat_eq v 0 then Zero else Other

-- a number in two's complement (C11 6.2.6.2)
abbrev pub bits : ℤ → ℕ
bits v = residue (2 ^ 64) v

-- so many bytes of a number, from byte k on
abbrev pub fixed_states : (bits byte count : ℕ) → List ByteState
fixed_states n k zero = []
fixed_states n k (suc c) = state_of_byte (byte_of k n) ∷ fixed_states n (suc k) c

-- so many of its bytes are 0 or 255
abbrev pub are_whole_bytes : (bits byte count : ℕ) → Bool
are_whole_bytes n k zero = true
are_whole_bytes n k (suc c) =
    (nat_eq (byte_of k n) 0 || nat_eq (byte_of k n) 255) && are_whole_bytes n (suc k) c

abbrev pub zero_states : ℕ → List ByteState
zero_states zero = []
zero_states (suc n) = Zero ∷ zero_states n

abbrev pub merged_state : ByteState → ByteState → Result ByteState Stop
merged_state Unset Unset = Err Foreign
merged_state Unset Zero = Ok Unset
merged_state Unset Other = Err Foreign
merged_state Zero y = Ok y
merged_state Other Unset = Err Foreign
merged_state Other Zero = Ok Other
merged_state Other Other = Err Foreign

abbrev pub merged_states : List ByteState → List ByteState → Result (List ByteState) Stop
merged_states [] ys = Ok []
merged_states (x ∷ xs) [] = Ok []
merged_states (x ∷ xs) (y ∷ ys) =
    goes_on (merged_state x y) (λ z. goes_on (merged_states xs ys) (λ zs. Ok (z ∷ zs)))

abbrev pub masked_states : (mask byte : ℕ) → List ByteState → List ByteState
masked_states n k [] = []
masked_states n k (x ∷ xs) = (if nat_eq (byte_of k n) 255 then x else Zero) ∷ masked_states n (suc k) xs

-- a number of so many bytes: these bytes, moved up and down, and zeros
abbrev pub moved_states : (up down width : ℕ) → List ByteState → List ByteState
moved_states u d w xs = take w (zero_states u ++ (drop d xs ++ zero_states w))

abbrev pub shifted_states : (ℕ → List ByteState) → (amount : Option ℤ) → Result (List ByteState) Stop
shifted_states move None = Err Foreign
shifted_states move (Some v) = Ok (move (bytes_moved v))

abbrev pub masked_states_by : Option ℤ → List ByteState → Result (List ByteState) Stop
masked_states_by None xs = Err Foreign
masked_states_by (Some v) xs = Ok (masked_states (bits v) 0 xs)

abbrev pub operated_states : BinOp → (u v : Option ℤ) → (xs ys : List ByteState) → Result (List ByteState) Stop
operated_states Add u v xs ys = merged_states xs ys
operated_states Or u v xs ys = merged_states xs ys
operated_states Xor u v xs ys = merged_states xs ys
operated_states And u v xs ys = if is_mask v then masked_states_by v xs else masked_states_by u ys
operated_states Shl u v xs ys = shifted_states (λ n. moved_states n 0 (length xs) xs) v
operated_states Shr u v xs ys = shifted_states (λ n. moved_states 0 n (length xs) xs) v
operated_states Sub u v xs ys = Err Foreign
operated_states Mul u v xs ys = Err Foreign
operated_states Div u v xs ys = Err Foreign
operated_states Rem u v xs ys = Err Foreign

-- ---- memory

-- the bytes of each block
abbrev pub States : Type 0
States = List (List ByteHeld)

abbrev pub states_in : List (Vec ByteHeld Global) → States
states_in m = map (λ v. v.items) m

abbrev pub state_held : ByteState → Bool → ByteHeld
state_held x w = record { state = x; written = w }

abbrev pub blank_states : (is_zero : Bool) → (count : ℕ) → List ByteHeld
blank_states z zero = []
blank_states z (suc n) = state_held (if z then Zero else Unset) false ∷ blank_states z n

abbrev pub blank_blocks_states : (result : Option (ℕ × Scalar)) → (n : ℕ) → List Block → States
blank_blocks_states r n [] = []
blank_blocks_states r n (b ∷ bs) = blank_states (b.global || is_result r n) b.size ∷ blank_blocks_states r (suc n) bs

abbrev pub states_of_block : States → (block : ℕ) → List ByteHeld
states_of_block m b = get_or m b []

abbrev pub defined_state : ByteState → Result ByteState Stop
defined_state Unset = Err Faulty
defined_state Zero = Ok Zero
defined_state Other = Ok Other

-- a byte, which has to lie in its block and be defined
abbrev pub state_at : List ByteHeld → ℕ → Result ByteState Stop
state_at hs q =
    if nat_lt q (length hs) then defined_state (get_or hs q (state_held Unset false)).state else Err Faulty

abbrev pub put_in_block : List ByteHeld → ℕ → ByteState → Result (List ByteHeld) Stop
put_in_block hs q x =
    if nat_lt q (length hs)
    then
    (if (get_or hs q (state_held Unset false)).written then Err Foreign
    else Ok (slice_set hs q (state_held x true)))
    else Err Faulty

-- a byte of a block is written
abbrev pub put_state : States → (block offset : ℕ) → ByteState → Result States Stop
put_state m b q x = goes_on (put_in_block (states_of_block m b) q x) (λ hs. Ok (slice_set m b hs))

-- a first value's byte
abbrev pub set_state : States → (block offset : ℕ) → ByteState → States
set_state m b q x = slice_set m b (slice_set (states_of_block m b) q (state_held x false))

-- so many bytes become parts of inputs
abbrev pub take_states : (block offset count : ℕ) → States → Result States Stop
take_states b q zero m = Ok m
take_states b q (suc n) m = goes_on (put_state m b q Other) (take_states b (suc q) n)

-- so many bytes, each of which has to be defined
abbrev pub show_states : List ByteHeld → (offset count : ℕ) → States → Result States Stop
show_states hs q zero m = Ok m
show_states hs q (suc n) m = goes_on (state_at hs q) (λ x. show_states hs (suc q) n m)

abbrev pub pointed_at : States → Expr → Result (ℕ × ℕ) Stop
pointed_at m (addr_of a) = goes_on (block_at (block_of (addr_of a))) (λ b. Ok (b, 0))
pointed_at m (ptr_add e unit n back) =
    goes_on (block_at (block_of e))
    (λ b. goes_on (offset_to (length (states_of_block m b)) unit (constant n)) (λ q. Ok (b, q)))
pointed_at m e = Err Foreign

-- so many parts of an input
abbrev pub input_states : ℕ → List ByteState
input_states zero = []
input_states (suc n) = Other ∷ input_states n

-- on a machine of this order
module _ (o : Order) where
  abbrev pub loaded_states : List ByteHeld → (offset width byte count : ℕ) → Result (List ByteState) Stop
  loaded_states hs q w k zero = Ok []
  loaded_states hs q w k (suc n) =
      goes_on (state_at hs (q + place o w k)) (λ x. goes_on (loaded_states hs q w (suc k) n) (λ xs. Ok (x ∷ xs)))

  abbrev pub put_states : (block offset width byte : ℕ) → List ByteState → States → Result States Stop
  put_states b q w k [] m = Ok m
  put_states b q w k (x ∷ xs) m = goes_on (put_state m b (q + place o w k) x) (put_states b q w (suc k) xs)

  abbrev pub set_states : (block offset width byte : ℕ) → List ByteState → States → States
  set_states b q w k [] m = m
  set_states b q w k (x ∷ xs) m = set_states b q w (suc k) xs (set_state m b (q + place o w k) x)

  abbrev pub first_value_states : States → Init → States
  first_value_states m i =
      set_states i.block i.offset (bytes_of i.t) 0 (fixed_states (bits i.value) 0 (bytes_of i.t)) m

  abbrev pub first_states : Program → (result : Option (ℕ × Scalar)) → States
  first_states p r = fold first_value_states (blank_blocks_states r 0 p.blocks) p.init

  -- ---- expressions

  abbrev pub loaded_states_from : States → Scalar → Place → Result (List ByteState) Stop
  loaded_states_from m (Number t) a =
      goes_on (place_of a) (λ w. loaded_states (states_of_block m w.0) w.1 (bytes_of t) 0 (bytes_of t))
  loaded_states_from m Pointer a = Err Foreign

  -- the bytes of an expression
  abbrev pub states : States → Expr → Result (List ByteState) Stop
  states m (const t v) = Ok (fixed_states (bits v) 0 (bytes_of t))
  states m (load what a) = loaded_states_from m what a
  states m (binary op t a b) =
      goes_on (states m a) (λ xs. goes_on (states m b) (operated_states op (constant a) (constant b) xs))
  states m (convert t e) = goes_on (states m e) (λ xs. Ok (moved_states 0 0 (bytes_of t) xs))
  states m e = Err Foreign

  -- ---- statements

  abbrev pub write_states : IntType → States → ℕ × ℕ → List ByteState → Result States Stop
  write_states t m w xs = put_states w.0 w.1 (bytes_of t) 0 xs m

  abbrev pub take_input : IntType → Option Dest → States → Result States Stop
  take_input t None m = Err Foreign
  take_input t (Some d) m = goes_on (place_of d.place) (λ w. write_states t m w (input_states (bytes_of t)))

  abbrev pub assign_states : Scalar → Place → Expr → States → Result States Stop
  assign_states (Number t) a e m =
      goes_on (place_of a)
      (λ w. goes_on (states m e) (λ xs. write_states t m w (moved_states 0 0 (bytes_of t) xs)))
  assign_states Pointer a e m = Err Foreign

  abbrev pub do_states : Simple → States → Result States Stop
  do_states nothing m = Ok m
  do_states (assign what a e) m = assign_states what a e m
  do_states (input t d) m = take_input t d m
  do_states (output t e) m = goes_on (states m e) (λ xs. Ok m)
  do_states (read_bytes e n) m = goes_on (block_at (block_of e)) (λ b. take_states b 0 n m)
  do_states (write_bytes e n) m = goes_on (pointed_at m e) (λ w. show_states (states_of_block m w.0) w.1 n m)
  do_states w m = Err Foreign

  abbrev mutual
    pub move_what : What → States → Result States Stop
    move_what (simple w) m = do_states w m
    move_what (by_order named a b) m = if is_order o named then move_all a m else move_all b m
    move_what w m = Err Foreign

    pub move_all : Stmts → States → Result States Stop
    move_all stop m = Ok m
    move_all (more l w rest) m = goes_on (move_what w m) (move_all rest)

  abbrev pub main_moves_states : Program → Option Function → Result States Stop
  main_moves_states p None = Err Foreign
  main_moves_states p (Some f) = move_all f.body (first_states p (result_in (Some f)))

-- ---- answers

abbrev pub shown_number : Result (ArrayVec ByteState) Stop → Result (List ByteState) Stop
shown_number (Ok v) = Ok v.items
shown_number (Err e) = Err e

-- whether it isn't foreign to movers
abbrev pub is_moved : Result States Stop → Bool
is_moved (Ok m) = true
is_moved (Err Foreign) = false
is_moved (Err Faulty) = true

-- a memory that a call leaves behind counts where it answers that it goes on
abbrev pub left : {A : Type 0} → Result A Stop → States → Result States Stop
left (Ok x) m = Ok m
left (Err e) m = Err e
