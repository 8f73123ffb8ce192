-- What the code follows of a mover's machine is what the definition says of it.
use Rattle.std.proofs.Common.{◌≡◌, ℕ, zero, suc, ◌+◌, ◌<◌, Bool, true, false, not, nat_lt, if◌then◌else◌}
use Rattle.std.proofs.Common.{◌||◌, nat_eq, List, [], ◌∷◌, length, map, get_or, slice_set, Option, Some, None}
use Rattle.std.proofs.Common.{Result, Ok, Err, refl, sym, ap, ◌∙◌, arith}
use Rattle.std.specs.Prelude.{fold, slice_get}
use Rattle.std.proofs.lemmas.List.{map-set, length-map, set-set, set-get_or, set_past, get_or-set_same}
use Rattle.std.proofs.Math.ListN.{get_or-map}
use Rattle.std.proofs.lemmas.Bool.{ltb-true, ltb-false}
use Rattle.ep_int.specs.declared.types.Order.{Order}
use Rattle.ep_int.specs.declared.types.Scalar.{Scalar}
use Rattle.ep_int.specs.declared.types.Scalar.TheVariants.{Int as Number, Pointer}
use Rattle.ep_int.specs.declared.types.IntType.{IntType}
use Rattle.ep_int.specs.Types.{bytes_of}
use Rattle.ep_int.specs.Encoding.{place}
use Rattle.ep_core.specs.Program.{Place, Expr, const, load, binary, convert, addr_of, ptr_add, Dest, Simple, nothing}
use Rattle.ep_core.specs.Program.{assign, input, output, read_bytes, write_bytes, What, simple, by_order, Stmts, stop}
use Rattle.ep_core.specs.Program.{more, Block, Init, Function, Program}
use Rattle.ep_core.specs.Exec.{is_order, result_in}
use Rattle.ep_core.specs.Runs.{is_result}
use Rattle.ep_movers.specs.declared.Stop.{Stop}
use Rattle.ep_movers.specs.declared.Stop.TheVariants.{Foreign, Faulty}
use Rattle.ep_movers.specs.Symbols.{Symbol, unset, fixed_byte, input_byte, goes_on, fixed_bytes, operated}
use Rattle.ep_movers.specs.Symbols.{resized}
use Rattle.ep_movers.specs.Forms.{constant, block_of}
use Rattle.ep_movers.specs.Movers as move
use Rattle.ep_movers.specs.Movers.{Held, held, Symbols, Machine, bytes_in, byte_at, defined, byte_written, blank_bytes}
use Rattle.ep_movers.specs.Movers.{blank_blocks, place_of, block_at, offset_to, target_of, remembers, puts_out}
use Rattle.ep_movers.specs.Movers.{input_bytes, taken, bytes_taken, bytes_put_out, loaded_bytes, bytes_written}
use Rattle.ep_movers.specs.Movers.{first_bytes, first_value, first_memory, loaded_from, symbols, writes, takes, assigns}
use Rattle.ep_movers.specs.Movers.{does, moves_what, moves, first_machine, main_moves}
use Rattle.ep_double.specs.declared.mover.bytes.ByteState.TheVariants.{Unset, Zero, Other}
use Rattle.ep_double.specs.declared.mover.memory.ByteHeld.{ByteHeld}
use Rattle.ep_double.specs.ByteStates.{States, state_held, blank_states}
use Rattle.ep_double.specs.ByteStates.{blank_blocks_states, states_of_block, defined_state, state_at, put_in_block}
use Rattle.ep_double.specs.ByteStates.{put_state, take_states, show_states, pointed_at, input_states}
use Rattle.ep_double.specs.ByteStates.{loaded_states, put_states, set_states, first_value_states, first_states}
use Rattle.ep_double.specs.ByteStates.{loaded_states_from, states, write_states, assign_states, take_input, do_states}
use Rattle.ep_double.specs.ByteStates.{move_what, move_all, main_moves_states, is_moved, operated_states, moved_states}
use Rattle.ep_double.proofs.ByteLaws.{on, on_then, on_after, then_then, then_same, state_of, states_of, fixed_are, resized_is}
use Rattle.ep_double.proofs.ByteLaws.{operated_are}

-- ---- memory

abbrev pub shown_held : Held → ByteHeld
shown_held h = state_held (state_of h.symbol) h.written

abbrev pub shown_block : List Held → List ByteHeld
shown_block hs = map shown_held hs

abbrev pub shown : Symbols → States
shown m = map shown_block m

block_is : (m : Symbols) (b : ℕ) → states_of_block (shown m) b ≡ shown_block (bytes_in m b)
block_is m b = get_or-map shown_block m b []

set_is : (m : Symbols) (b : ℕ) (hs : List Held) → shown (slice_set m b hs) ≡ slice_set (shown m) b (shown_block hs)
set_is m b hs = map-set shown_block m b hs

held_at : (hs : List Held) (q : ℕ)
    → get_or (shown_block hs) q (state_held Unset false) ≡ shown_held (get_or hs q (held unset false))
held_at hs q = get_or-map shown_held hs q (held unset false)

same_count : (hs : List Held) → length (shown_block hs) ≡ length hs
same_count hs = length-map hs shown_held

defined_is : (x : Symbol) → on state_of (defined x) ≡ defined_state (state_of x)
defined_is unset = refl
defined_is (fixed_byte v) = split (nat_eq v 0) refl
  where
    split : (b : Bool) → nat_eq v 0 ≡ b → Ok (state_of (fixed_byte v)) ≡ defined_state (if b then Zero else Other)
    split true e = ap (λ b. Ok (if b then Zero else Other)) e
    split false e = ap (λ b. Ok (if b then Zero else Other)) e
defined_is (input_byte i k) = refl

state_at_is : (hs : List Held) (q : ℕ) → on state_of (goes_on (byte_at hs q) defined) ≡ state_at (shown_block hs) q
state_at_is hs q =
    inside (nat_lt q (length hs))
    ∙ (ap (λ n. if nat_lt q n then defined_state (shown_held (get_or hs q (held unset false))).state else Err Faulty)
    (sym (same_count hs))
    ∙ ap (λ (h : ByteHeld). if nat_lt q (length (shown_block hs)) then defined_state h.state else Err Faulty)
    (sym (held_at hs q)))
  where
    inside : (b : Bool)
        → on state_of (goes_on (if b then Ok (get_or hs q (held unset false)).symbol else Err Faulty) defined)
        ≡ (if b then defined_state (state_of (get_or hs q (held unset false)).symbol) else Err Faulty)
    inside true = defined_is (get_or hs q (held unset false)).symbol
    inside false = refl

put_in_is : (hs : List Held) (q : ℕ) (x : Symbol)
    → on shown_block (byte_written hs q x) ≡ put_in_block (shown_block hs) q (state_of x)
put_in_is hs q x =
    inside (nat_lt q (length hs)) (get_or hs q (held unset false)).written
    ∙ (ap (λ n. if nat_lt q n
    then (if (shown_held (get_or hs q (held unset false))).written then Err Foreign
    else Ok (slice_set (shown_block hs) q (state_held (state_of x) true))) else Err Faulty) (sym (same_count hs))
    ∙ ap (λ (h : ByteHeld). if nat_lt q (length (shown_block hs))
    then (if h.written then Err Foreign else Ok (slice_set (shown_block hs) q (state_held (state_of x) true)))
    else Err Faulty) (sym (held_at hs q)))
  where
    inside : (b w : Bool)
        → on shown_block (if not b then Err Faulty else if w then Err Foreign else Ok (slice_set hs q (held x true)))
        ≡ (if b then (if w then Err Foreign else Ok (slice_set (shown_block hs) q (state_held (state_of x) true)))
        else Err Faulty)
    inside true true = refl
    inside true false = ap Ok (map-set shown_held hs q (held x true))
    inside false w = refl

-- ---- writes byte by byte

-- a byte of a block is written
abbrev put : Symbols → (block offset : ℕ) → Symbol → Result Symbols Stop
put m b q x = goes_on (byte_written (bytes_in m b) q x) (λ hs. Ok (slice_set m b hs))

put_is : (m : Symbols) (b q : ℕ) (x : Symbol)
    → on shown (goes_on (byte_written (bytes_in m b) q x) (λ hs. Ok (slice_set m b hs)))
    ≡ put_state (shown m) b q (state_of x)
put_is m b q x =
    on_then shown_block shown (byte_written (bytes_in m b) q x) (λ hs. Ok (slice_set m b hs))
    (λ hs. Ok (slice_set (shown m) b hs)) (λ hs. ap Ok (set_is m b hs))
    ∙ (ap (λ r. goes_on r (λ hs. Ok (slice_set (shown m) b hs))) (put_in_is (bytes_in m b) q x)
    ∙ ap (λ hs. goes_on (put_in_block hs q (state_of x)) (λ hs. Ok (slice_set (shown m) b hs))) (sym (block_is m b)))

-- where a byte of a block could be written, the block is there
block_there : (m : Symbols) (b q : ℕ) (x : Symbol) (hs : List Held) → byte_written (bytes_in m b) q x ≡ Ok hs
    → b < length m
block_there [] b q x hs h = absurd (none (nat_lt q 0) refl h)
  where
    none : (t : Bool) → nat_lt q 0 ≡ t
        → (if not t then Err Faulty else if false then Err Foreign else Ok (slice_set [] q (held x true))) ≡ Ok hs → ⊥
    none true e d = let below = ltb-true q 0 e in omega (arith, below)
    none false e d = cc
block_there (c ∷ m) zero q x hs h = omega arith
block_there (c ∷ m) (suc b) q x hs h = let i = block_there m b q x hs h in omega (arith, i)

-- on a machine of this order
module _ (o : Order) where
  loaded_are : (hs : List Held) (q w k n : ℕ)
      → on states_of (loaded_bytes o hs q w k n) ≡ loaded_states o (shown_block hs) q w k n
  loaded_are hs q w k zero = refl
  loaded_are hs q w k (suc n) =
      let r = byte_at hs (q + place o w k) in
      let rest = loaded_bytes o hs q w (suc k) n in
      let after = loaded_states o (shown_block hs) q w (suc k) n in
      ap (on states_of) (sym (then_then r defined (λ x. goes_on rest (λ xs. Ok (x ∷ xs)))))
      ∙ (on_then state_of states_of (goes_on r defined) (λ x. goes_on rest (λ xs. Ok (x ∷ xs)))
      (λ x. goes_on after (λ xs. Ok (x ∷ xs)))
      (λ x. on_then states_of states_of rest (λ xs. Ok (x ∷ xs)) (λ xs. Ok (state_of x ∷ xs)) (λ xs. refl)
      ∙ ap (λ r. goes_on r (λ xs. Ok (state_of x ∷ xs))) (loaded_are hs q w (suc k) n))
      ∙ ap (λ r. goes_on r (λ x. goes_on after (λ xs. Ok (x ∷ xs)))) (state_at_is hs (q + place o w k)))

  -- bytes are written one after another
  puts_are : (m : Symbols) (b q w k : ℕ) (xs : List Symbol)
      → on shown (goes_on (bytes_written o q w k xs (bytes_in m b)) (λ hs. Ok (slice_set m b hs)))
      ≡ put_states o b q w k (states_of xs) (shown m)
  puts_are m b q w k [] = ap (λ m. Ok (shown m)) (set-get_or m b [])
  puts_are m b q w k (x ∷ xs) =
      ap (on shown)
      (then_then (byte_written (bytes_in m b) (q + place o w k) x) (bytes_written o q w (suc k) xs)
      (λ hs. Ok (slice_set m b hs))
      ∙ one (byte_written (bytes_in m b) (q + place o w k) x) refl
      ∙ sym (then_then (byte_written (bytes_in m b) (q + place o w k) x) (λ hs. Ok (slice_set m b hs)) rest))
      ∙ (on_then shown shown (put m b (q + place o w k) x) rest (put_states o b q w (suc k) (states_of xs))
      (λ m. puts_are m b q w (suc k) xs)
      ∙ ap (λ r. goes_on r (put_states o b q w (suc k) (states_of xs))) (put_is m b (q + place o w k) x))
    where
      rest : Symbols → Result Symbols Stop
      rest m = goes_on (bytes_written o q w (suc k) xs (bytes_in m b)) (λ hs. Ok (slice_set m b hs))

      one : (r : Result (List Held) Stop) → byte_written (bytes_in m b) (q + place o w k) x ≡ r
          → goes_on r (λ hs. goes_on (bytes_written o q w (suc k) xs hs) (λ hs. Ok (slice_set m b hs)))
          ≡ goes_on r (λ hs. rest (slice_set m b hs))
      one (Ok hs) h =
          let there = block_there m b (q + place o w k) x hs h in
          ap (λ gs. goes_on (bytes_written o q w (suc k) xs gs) (λ hs. Ok (slice_set m b hs)))
          (sym (get_or-set_same m b hs [] there))
          ∙ then_same (bytes_written o q w (suc k) xs (bytes_in (slice_set m b hs) b)) (λ gs. Ok (slice_set m b gs))
          (λ gs. Ok (slice_set (slice_set m b hs) b gs)) (λ gs. ap Ok (sym (set-set m b hs gs)))
      one (Err s) h = refl

  sets_are : (m : Symbols) (b q w k : ℕ) (xs : List Symbol)
      → shown (slice_set m b (first_bytes o q w k xs (bytes_in m b))) ≡ set_states o b q w k (states_of xs) (shown m)
  sets_are m b q w k [] = ap shown (set-get_or m b [])
  sets_are m b q w k (x ∷ xs) =
      ap shown (one (nat_lt b (length m)) refl)
      ∙ (sets_are (slice_set m b next) b q w (suc k) xs
      ∙ ap (set_states o b q w (suc k) (states_of xs))
      (set_is m b next
      ∙ ap (slice_set (shown m) b)
      (map-set shown_held (bytes_in m b) (q + place o w k) (held x false)
      ∙ ap (λ hs. slice_set hs (q + place o w k) (state_held (state_of x) false)) (sym (block_is m b)))))
    where
      next : List Held
      next = slice_set (bytes_in m b) (q + place o w k) (held x false)

      one : (t : Bool) → nat_lt b (length m) ≡ t
          → slice_set m b (first_bytes o q w (suc k) xs next)
          ≡ slice_set (slice_set m b next) b (first_bytes o q w (suc k) xs (bytes_in (slice_set m b next) b))
      one true h =
          ap (λ hs. slice_set m b (first_bytes o q w (suc k) xs hs))
          (sym (get_or-set_same m b next [] (ltb-true b (length m) h)))
          ∙ sym (set-set m b next (first_bytes o q w (suc k) xs (bytes_in (slice_set m b next) b)))
      one false h =
          let past = ltb-false b (length m) h in
          set_past m b (first_bytes o q w (suc k) xs next) past
          ∙ sym (ap (λ m. slice_set m b (first_bytes o q w (suc k) xs (bytes_in m b))) (set_past m b next past)
          ∙ set_past m b (first_bytes o q w (suc k) xs (bytes_in m b)) past)

-- ---- before the first statement

blank_are : (z : Bool) (n : ℕ) → shown_block (blank_bytes z n) ≡ blank_states z n
blank_are z zero = refl
blank_are z (suc n) = ap (λ h. h ∷ shown_block (blank_bytes z n)) (one z) ∙ ap (λ hs. state_held (if z then Zero else Unset) false ∷ hs) (blank_are z n)
  where
    one : (z : Bool) → shown_held (held (if z then fixed_byte 0 else unset) false)
        ≡ state_held (if z then Zero else Unset) false
    one true = refl
    one false = refl

blocks_are : (r : Option (ℕ × Scalar)) (n : ℕ) (bs : List Block)
    → shown (blank_blocks r n bs) ≡ blank_blocks_states r n bs
blocks_are r n [] = refl
blocks_are r n (b ∷ bs) =
    ap (λ h. h ∷ shown (blank_blocks r (suc n) bs)) (blank_are (b.global || is_result r n) b.size)
    ∙ ap (λ hs. blank_states (b.global || is_result r n) b.size ∷ hs) (blocks_are r (suc n) bs)

module _ (o : Order) where
  first_value_is : (m : Symbols) (i : Init) → shown (first_value o m i) ≡ first_value_states o (shown m) i
  first_value_is m i =
      sets_are o m i.block i.offset (bytes_of i.t) 0 (fixed_bytes i.value 0 (bytes_of i.t))
      ∙ ap (λ xs. set_states o i.block i.offset (bytes_of i.t) 0 xs (shown m)) (fixed_are i.value 0 (bytes_of i.t))

  first_values_are : (is : List Init) (m : Symbols)
      → shown (fold (first_value o) m is) ≡ fold (first_value_states o) (shown m) is
  first_values_are [] m = refl
  first_values_are (i ∷ is) m =
      first_values_are is (first_value o m i) ∙ ap (λ m. fold (first_value_states o) m is) (first_value_is m i)

  first_is : (p : Program) (r : Option (ℕ × Scalar)) → shown (first_memory o p r) ≡ first_states o p r
  first_is p r =
      first_values_are p.init (blank_blocks r 0 p.blocks)
      ∙ ap (λ m. fold (first_value_states o) m p.init) (blocks_are r 0 p.blocks)

  -- ---- expressions

  loaded_from_is : (m : Symbols) (what : Scalar) (a : Place)
      → on states_of (loaded_from o m what a) ≡ loaded_states_from o (shown m) what a
  loaded_from_is m (Number t) a =
      on_after states_of (place_of a)
      (λ w. loaded_bytes o (bytes_in m w.0) w.1 (bytes_of t) 0 (bytes_of t))
      (λ w. loaded_states o (states_of_block (shown m) w.0) w.1 (bytes_of t) 0 (bytes_of t))
      (λ w. loaded_are o (bytes_in m w.0) w.1 (bytes_of t) 0 (bytes_of t)
      ∙ ap (λ hs. loaded_states o hs w.1 (bytes_of t) 0 (bytes_of t)) (sym (block_is m w.0)))
  loaded_from_is m Pointer a = refl

  states_are : (m : Symbols) (e : Expr) → on states_of (symbols o m e) ≡ states o (shown m) e
  states_are m (const t v) = ap Ok (fixed_are v 0 (bytes_of t))
  states_are m (load what a) = loaded_from_is m what a
  states_are m (binary op t a b) =
      on_then states_of states_of (symbols o m a)
      (λ xs. goes_on (symbols o m b) (operated op (constant a) (constant b) xs))
      (λ xs. goes_on (states o (shown m) b) (operated_states op (constant a) (constant b) xs))
      (λ xs. on_then states_of states_of (symbols o m b) (operated op (constant a) (constant b) xs)
      (operated_states op (constant a) (constant b) (states_of xs))
      (λ ys. operated_are op (constant a) (constant b) xs ys)
      ∙ ap (λ r. goes_on r (operated_states op (constant a) (constant b) (states_of xs))) (states_are m b))
      ∙ ap (λ r. goes_on r (λ xs. goes_on (states o (shown m) b) (operated_states op (constant a) (constant b) xs)))
      (states_are m a)
  states_are m (convert t e) =
      on_then states_of states_of (symbols o m e) (λ xs. Ok (resized t xs)) (λ xs. Ok (moved_states 0 0 (bytes_of t) xs))
      (λ xs. ap Ok (resized_is xs t))
      ∙ ap (λ r. goes_on r (λ xs. Ok (moved_states 0 0 (bytes_of t) xs))) (states_are m e)
  states_are m e = refl

  -- ---- statements

  abbrev seen : Machine → States
  seen s = shown s.memory

  writes_are : (t : IntType) (s : Machine) (w : ℕ × ℕ) (xs : List Symbol)
      → on seen (writes o t s w xs) ≡ write_states o t (seen s) w (states_of xs)
  writes_are t s w xs =
      only_memory (bytes_written o w.1 (bytes_of t) 0 xs (bytes_in s.memory w.0))
      ∙ puts_are o s.memory w.0 w.1 (bytes_of t) 0 xs
    where
      only_memory : (r : Result (List Held) Stop)
          → on seen (goes_on r (λ hs. Ok (remembers s w.0 hs)))
          ≡ on shown (goes_on r (λ hs. Ok (slice_set s.memory w.0 hs)))
      only_memory (Ok hs) = refl
      only_memory (Err e) = refl

  inputs_are : (i k n : ℕ) → states_of (input_bytes i k n) ≡ input_states n
  inputs_are i k zero = refl
  inputs_are i k (suc n) = ap (λ xs. Other ∷ xs) (inputs_are i (suc k) n)

  takes_are : (t : IntType) (d : Option Dest) (s : Machine) → on seen (takes o t d s) ≡ take_input o t d (seen s)
  takes_are t None s = refl
  takes_are t (Some d) s =
      on_after seen (place_of d.place) (λ w. writes o t (taken s 1) w (input_bytes s.inputs 0 (bytes_of t)))
      (λ w. write_states o t (seen s) w (input_states (bytes_of t)))
      (λ w. writes_are t (taken s 1) w (input_bytes s.inputs 0 (bytes_of t))
      ∙ ap (write_states o t (seen s) w) (inputs_are s.inputs 0 (bytes_of t)))

  assigns_are : (what : Scalar) (a : Place) (e : Expr) (s : Machine)
      → on seen (assigns o what a e s) ≡ assign_states o what a e (seen s)
  assigns_are (Number t) a e s =
      on_after seen (place_of a) (λ w. goes_on (symbols o s.memory e) (λ xs. writes o t s w (resized t xs)))
      (λ w. goes_on (states o (seen s) e) (λ xs. write_states o t (seen s) w (moved_states 0 0 (bytes_of t) xs)))
      (λ w. on_then states_of seen (symbols o s.memory e) (λ xs. writes o t s w (resized t xs))
      (λ xs. write_states o t (seen s) w (moved_states 0 0 (bytes_of t) xs))
      (λ xs. writes_are t s w (resized t xs) ∙ ap (write_states o t (seen s) w) (resized_is xs t))
      ∙ ap (λ r. goes_on r (λ xs. write_states o t (seen s) w (moved_states 0 0 (bytes_of t) xs)))
      (states_are s.memory e))
  assigns_are Pointer a e s = refl

  taken_are : (b q n : ℕ) (s : Machine) → on seen (bytes_taken b q n s) ≡ take_states b q n (seen s)
  taken_are b q zero s = refl
  taken_are b q (suc n) s =
      let x = input_byte s.inputs 0 in
      on_then shown_block seen (byte_written (bytes_in s.memory b) q x)
      (λ hs. bytes_taken b (suc q) n (taken (remembers s b hs) 1))
      (λ hs. take_states b (suc q) n (slice_set (seen s) b hs))
      (λ hs. taken_are b (suc q) n (taken (remembers s b hs) 1)
      ∙ ap (take_states b (suc q) n) (set_is s.memory b hs))
      ∙ (ap (λ r. goes_on r (λ hs. take_states b (suc q) n (slice_set (seen s) b hs)))
      (put_in_is (bytes_in s.memory b) q x ∙ ap (λ hs. put_in_block hs q Other) (sym (block_is s.memory b)))
      ∙ sym (then_then (put_in_block (states_of_block (seen s) b) q Other) (λ hs. Ok (slice_set (seen s) b hs))
      (take_states b (suc q) n)))

  shown_are : (hs : List Held) (q n : ℕ) (s : Machine)
      → on seen (bytes_put_out hs q n s) ≡ show_states (shown_block hs) q n (seen s)
  shown_are hs q zero s = refl
  shown_are hs q (suc n) s =
      ap (on seen)
      (sym (then_then (byte_at hs q) defined (λ x. bytes_put_out hs (suc q) n (puts_out s (x ∷ [])))))
      ∙ (on_then state_of seen (goes_on (byte_at hs q) defined)
      (λ x. bytes_put_out hs (suc q) n (puts_out s (x ∷ []))) (λ x. show_states (shown_block hs) (suc q) n (seen s))
      (λ x. shown_are hs (suc q) n (puts_out s (x ∷ [])))
      ∙ ap (λ r. goes_on r (λ x. show_states (shown_block hs) (suc q) n (seen s))) (state_at_is hs q))

  pointed_is : (m : Symbols) (e : Expr) → target_of m e ≡ pointed_at (shown m) e
  pointed_is m (addr_of a) = refl
  pointed_is m (ptr_add e unit n back) =
      then_same (block_at (block_of e))
      (λ b. goes_on (offset_to (length (bytes_in m b)) unit (constant n)) (λ q. Ok (b, q)))
      (λ b. goes_on (offset_to (length (states_of_block (shown m) b)) unit (constant n)) (λ q. Ok (b, q)))
      (λ b. ap (λ l. goes_on (offset_to l unit (constant n)) (λ q. Ok (b, q)))
      (sym (ap length (block_is m b) ∙ same_count (bytes_in m b))))
  pointed_is m e = refl

  does_is : (w : Simple) (s : Machine) → on seen (does o w s) ≡ do_states o w (seen s)
  does_is nothing s = refl
  does_is (assign what a e) s = assigns_are what a e s
  does_is (input t d) s = takes_are t d s
  does_is (output t e) s =
      on_then states_of seen (symbols o s.memory e) (λ xs. Ok (puts_out s xs)) (λ xs. Ok (seen s)) (λ xs. refl)
      ∙ ap (λ r. goes_on r (λ xs. Ok (seen s))) (states_are s.memory e)
  does_is (read_bytes e n) s =
      on_after seen (block_at (block_of e)) (λ b. bytes_taken b 0 n s) (λ b. take_states b 0 n (seen s))
      (λ b. taken_are b 0 n s)
  does_is (write_bytes e n) s =
      on_after seen (target_of s.memory e) (λ w. bytes_put_out (bytes_in s.memory w.0) w.1 n s)
      (λ w. show_states (states_of_block (seen s) w.0) w.1 n (seen s))
      (λ w. shown_are (bytes_in s.memory w.0) w.1 n s
      ∙ ap (λ hs. show_states hs w.1 n (seen s)) (sym (block_is s.memory w.0)))
      ∙ ap (λ r. goes_on r (λ w. show_states (states_of_block (seen s) w.0) w.1 n (seen s))) (pointed_is s.memory e)
  does_is w s = refl

  mutual
    what_is : (w : What) (s : Machine) → on seen (moves_what o w s) ≡ move_what o w (seen s)
    what_is (simple w) s = does_is w s
    what_is (by_order named a b) s = of_arms (is_order o named) (all_are a s) (all_are b s)
      where
        of_arms : (t : Bool) → on seen (moves o a s) ≡ move_all o a (seen s)
            → on seen (moves o b s) ≡ move_all o b (seen s)
            → on seen (if t then moves o a s else moves o b s)
            ≡ (if t then move_all o a (seen s) else move_all o b (seen s))
        of_arms true h d = h
        of_arms false h d = d
    what_is w s = refl

    all_are : (b : Stmts) (s : Machine) → on seen (moves o b s) ≡ move_all o b (seen s)
    all_are stop s = refl
    all_are (more l w rest) s =
        on_then seen seen (moves_what o w s) (moves o rest) (move_all o rest) (λ s. all_are rest s)
        ∙ ap (λ r. goes_on r (move_all o rest)) (what_is w s)

  is_moved_same : (r : Result Machine Stop) → move.is_moved r ≡ is_moved (on seen r)
  is_moved_same (Ok s) = refl
  is_moved_same (Err Foreign) = refl
  is_moved_same (Err Faulty) = refl

  -- whether a machine moves bytes alone
  pub moves_is : (p : Program) (f : Option Function)
      → move.is_moved (main_moves o p f) ≡ is_moved (main_moves_states o p f)
  moves_is p None = refl
  moves_is p (Some f) =
      is_moved_same (moves o f.body (first_machine o p (result_in (Some f))))
      ∙ ap is_moved
      (all_are f.body (first_machine o p (result_in (Some f)))
      ∙ ap (move_all o f.body) (first_is p (result_in (Some f))))

  -- by the parts that the code has
  pub moves_on_is : (p : Program) (f : Function) (m : States) (e : Result States Stop) (r : Bool)
      → slice_get p.functions p.main ≡ Some f → m ≡ first_states o p f.result → e ≡ move_all o f.body m
      → r ≡ is_moved e → r ≡ move.moves_on o p
  moves_on_is p f m e r at first end told =
      told
      ∙ (ap is_moved (end ∙ ap (move_all o f.body) first)
      ∙ sym (ap (λ g. move.is_moved (main_moves o p g)) at ∙ moves_is p (Some f)))

  pub none_moves : (p : Program) → slice_get p.functions p.main ≡ None → false ≡ move.moves_on o p
  none_moves p at = sym (ap (λ g. move.is_moved (main_moves o p g)) at)
