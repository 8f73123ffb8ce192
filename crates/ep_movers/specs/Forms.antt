-- Movers by their text: programs that take inputs, put bytes together anew and put them out, and write no byte twice.
-- The rules are this project's.
use Rattle.std.specs.Prelude.{ℕ, suc, ◌%◌, ℤ, pos, Bool, true, false, ◌&&◌, ◌||◌, not, nat_eq, nat_le, nat_lt}
use Rattle.std.specs.Prelude.{int_le, List, [], ◌∷◌, slice_get, Option, Some, None, option_map, is_some}
use Rattle.std.specs.Option.{option_map_or}
use Rattle.ep_int.specs.declared.types.IntType.{IntType}
use Rattle.ep_int.specs.declared.types.IntType.TheVariants.{I8, U8, I16, U16, I32, U32, I64, U64}
use Rattle.ep_int.specs.declared.types.BinOp.{BinOp}
use Rattle.ep_int.specs.declared.types.BinOp.TheVariants.{Add, Sub, Mul, Div, Rem, And, Or, Xor, Shl, Shr}
use Rattle.ep_int.specs.declared.types.Scalar.{Scalar}
use Rattle.ep_int.specs.declared.types.Scalar.TheVariants.{Int as Number, Pointer}
use Rattle.ep_int.specs.Types.{bytes_of, is_signed, residue, wrapped}
use Rattle.ep_int.specs.Arith.{is_in_range}
use Rattle.ep_layout.specs.declared.types.Ty.{Ty}
use Rattle.ep_layout.specs.declared.types.Ty.TheVariants.{Void, Int, Ptr, Array, Aggregate}
use Rattle.ep_layout.specs.Table.{Table}
use Rattle.ep_core.specs.Program.{Place, block, deref, member, element, Expr, const, null_value, load, addr_of}
use Rattle.ep_core.specs.Program.{binary, convert, compare, ptr_compare, logical_and, logical_or, logical_not}
use Rattle.ep_core.specs.Program.{conditional, ptr_add, cast, Dest, Simple, nothing, eval, assign, clear}
use Rattle.ep_core.specs.Program.{copy_aggregate, copy_bytes, fill, input, output, read_bytes, write_bytes, returns}
use Rattle.ep_core.specs.Program.{What, simple, call, if_else, loop, break_loop, continue_loop, by_order, scope}
use Rattle.ep_core.specs.Program.{Stmts, stop, more, Block, Function, Program}
use Rattle.ep_core.specs.Exec.{result_in}
use Rattle.ep_core.specs.Runs.{is_result}
use Rattle.ep_movers.specs.Symbols.{bytes_moved, is_mask}

-- ---- types

abbrev pub is_unsigned : Ty → Bool
is_unsigned Void = false
is_unsigned (Int k) = not (is_signed k)
is_unsigned (Ptr e) = false
is_unsigned (Array e n) = false
is_unsigned (Aggregate a) = false

-- an unsigned type, or an array of one
abbrev pub is_moved_type : Table → Ty → Bool
is_moved_type t Void = false
is_moved_type t (Int k) = not (is_signed k)
is_moved_type t (Ptr e) = false
is_moved_type t (Array e n) = option_map_or is_unsigned (slice_get t.types e) false
is_moved_type t (Aggregate a) = false

-- the blocks from number n on but main's result
abbrev pub are_moved_blocks : Table → (result : Option (ℕ × Scalar)) → (n : ℕ) → List Block → Bool
are_moved_blocks t r n [] = true
are_moved_blocks t r n (b ∷ bs) =
    (is_result r n || option_map_or (is_moved_type t) (slice_get t.types b.ty) false) && are_moved_blocks t r (suc n) bs

-- ---- constants

-- a constant, converted or not (C11 6.3.1.3)
abbrev pub constant : Expr → Option ℤ
constant (const t v) = Some v
constant null_value = None
constant (load what a) = None
constant (addr_of a) = None
constant (binary op t a b) = None
constant (convert t e) = option_map (wrapped t) (constant e)
constant (compare c t a b) = None
constant (ptr_compare c a b) = None
constant (logical_and a b) = None
constant (logical_or a b) = None
constant (logical_not e) = None
constant (conditional e a b) = None
constant (ptr_add e unit n back) = None
constant (cast e) = None

-- a multiple of 8 below the width
abbrev pub is_byte_amount : IntType → Option ℤ → Bool
is_byte_amount t None = false
is_byte_amount t (Some v) =
    is_in_range U8 v && (nat_eq (residue 256 v % 8) 0 && nat_lt (bytes_moved v) (bytes_of t))

-- ---- places and expressions

-- a block, or an element of one whose index is a constant
abbrev pub is_moved_place : Place → Bool
is_moved_place (block b) = true
is_moved_place (deref e) = false
is_moved_place (member a offset) = false
is_moved_place (element (block b) bound unit i) = is_some (constant i)
is_moved_place (element (deref e) bound unit i) = false
is_moved_place (element (member a offset) bound unit i) = false
is_moved_place (element (element a n u j) bound unit i) = false

-- the types of operators
abbrev pub is_operated_in : IntType → Bool
is_operated_in I8 = false
is_operated_in U8 = false
is_operated_in I16 = false
is_operated_in U16 = false
is_operated_in I32 = false
is_operated_in U32 = true
is_operated_in I64 = false
is_operated_in U64 = true

-- an operator in such a type, whose operands are these as constants
abbrev pub is_moving_op : BinOp → IntType → (u v : Option ℤ) → Bool
is_moving_op Add t u v = is_operated_in t
is_moving_op Sub t u v = false
is_moving_op Mul t u v = false
is_moving_op Div t u v = false
is_moving_op Rem t u v = false
is_moving_op And t u v = is_operated_in t && (is_mask v || is_mask u)
is_moving_op Or t u v = is_operated_in t
is_moving_op Xor t u v = is_operated_in t
is_moving_op Shl t u v = is_operated_in t && is_byte_amount t v
is_moving_op Shr t u v = is_operated_in t && is_byte_amount t v

abbrev pub is_small : IntType → Bool
is_small t = not (is_signed t) && nat_le (bytes_of t) 2

-- a number of U8 or U16
abbrev pub has_small_type : Expr → Bool
has_small_type (const t v) = is_small t
has_small_type null_value = false
has_small_type (load (Number t) a) = is_small t
has_small_type (load Pointer a) = false
has_small_type (addr_of a) = false
has_small_type (binary op t a b) = is_small t
has_small_type (convert t e) = is_small t
has_small_type (compare c t a b) = false
has_small_type (ptr_compare c a b) = false
has_small_type (logical_and a b) = false
has_small_type (logical_or a b) = false
has_small_type (logical_not e) = false
has_small_type (conditional e a b) = false
has_small_type (ptr_add e unit n back) = false
has_small_type (cast e) = false

-- a conversion goes to an unsigned type, or from U8 or U16 to I32, as promotions do (C11 6.3.1.1)
abbrev pub may_convert : IntType → Expr → Bool
may_convert I8 e = false
may_convert U8 e = true
may_convert I16 e = false
may_convert U16 e = true
may_convert I32 e = has_small_type e
may_convert U32 e = true
may_convert I64 e = false
may_convert U64 e = true

abbrev pub is_moving : Expr → Bool
is_moving (const t v) = int_le (pos 0) v
is_moving null_value = false
is_moving (load (Number t) a) = is_moved_place a
is_moving (load Pointer a) = false
is_moving (addr_of a) = false
is_moving (binary op t a b) = is_moving_op op t (constant a) (constant b) && (is_moving a && is_moving b)
is_moving (convert t e) = may_convert t e && is_moving e
is_moving (compare c t a b) = false
is_moving (ptr_compare c a b) = false
is_moving (logical_and a b) = false
is_moving (logical_or a b) = false
is_moving (logical_not e) = false
is_moving (conditional e a b) = false
is_moving (ptr_add e unit n back) = false
is_moving (cast e) = false

-- the block that a pointer is to, at its begin
abbrev pub block_of : Expr → Option ℕ
block_of (const t v) = None
block_of null_value = None
block_of (load what a) = None
block_of (addr_of (block b)) = Some b
block_of (addr_of (deref e)) = None
block_of (addr_of (member a offset)) = None
block_of (addr_of (element a bound unit i)) = None
block_of (binary op t a b) = None
block_of (convert t e) = None
block_of (compare c t a b) = None
block_of (ptr_compare c a b) = None
block_of (logical_and a b) = None
block_of (logical_or a b) = None
block_of (logical_not e) = None
block_of (conditional e a b) = None
block_of (ptr_add e unit n back) = None
block_of (cast e) = None

-- a pointer to a block, or to an element of one whose index is a constant
abbrev pub is_moved_pointer : Expr → Bool
is_moved_pointer (const t v) = false
is_moved_pointer null_value = false
is_moved_pointer (load what a) = false
is_moved_pointer (addr_of a) = is_some (block_of (addr_of a))
is_moved_pointer (binary op t a b) = false
is_moved_pointer (convert t e) = false
is_moved_pointer (compare c t a b) = false
is_moved_pointer (ptr_compare c a b) = false
is_moved_pointer (logical_and a b) = false
is_moved_pointer (logical_or a b) = false
is_moved_pointer (logical_not e) = false
is_moved_pointer (conditional e a b) = false
is_moved_pointer (ptr_add e unit n back) = is_some (block_of e) && (is_some (constant n) && not back)
is_moved_pointer (cast e) = false

-- ---- statements

abbrev pub is_int_type : IntType → Ty → Bool
is_int_type t Void = false
is_int_type t (Int k) = nat_eq (bytes_of t) (bytes_of k) && (not (is_signed t) && not (is_signed k))
is_int_type t (Ptr e) = false
is_int_type t (Array e n) = false
is_int_type t (Aggregate a) = false

abbrev pub is_moved_assignment : Scalar → Place → Expr → Bool
is_moved_assignment (Number t) a e = is_moved_place a && is_moving e
is_moved_assignment Pointer a e = false

-- statements that are assignments alone
abbrev pub are_assignments : Stmts → Bool
are_assignments stop = true
are_assignments (more l (simple (assign what a e)) rest) = is_moved_assignment what a e && are_assignments rest
are_assignments (more l (simple nothing) rest) = false
are_assignments (more l (simple (eval e)) rest) = false
are_assignments (more l (simple (clear a ty)) rest) = false
are_assignments (more l (simple (copy_aggregate a b ty)) rest) = false
are_assignments (more l (simple (copy_bytes a b n)) rest) = false
are_assignments (more l (simple (fill a e n)) rest) = false
are_assignments (more l (simple (input t d)) rest) = false
are_assignments (more l (simple (output t e)) rest) = false
are_assignments (more l (simple (read_bytes e n)) rest) = false
are_assignments (more l (simple (write_bytes e n)) rest) = false
are_assignments (more l (simple (returns e)) rest) = false
are_assignments (more l (call k es d) rest) = false
are_assignments (more l (if_else e a b) rest) = false
are_assignments (more l (loop first e a b) rest) = false
are_assignments (more l break_loop rest) = false
are_assignments (more l continue_loop rest) = false
are_assignments (more l (by_order named a b) rest) = false
are_assignments (more l (scope bs a) rest) = false

-- in this program
module _ (p : Program) where
  -- a block of this type
  abbrev pub is_block_of : IntType → Place → Bool
  is_block_of t (block b) =
      option_map_or (λ (d : Block). option_map_or (is_int_type t) (slice_get p.types.types d.ty) false)
      (slice_get p.blocks b) false
  is_block_of t (deref e) = false
  is_block_of t (member a offset) = false
  is_block_of t (element a bound unit i) = false

  abbrev pub takes_whole : IntType → Option Dest → Bool
  takes_whole t None = false
  takes_whole t (Some d) = not d.cast && is_block_of t d.place

  -- all bytes of a block
  abbrev pub is_whole : Option ℕ → (bytes : ℕ) → Bool
  is_whole None n = false
  is_whole (Some b) n = option_map_or (λ (d : Block). nat_eq d.size n) (slice_get p.blocks b) false

  abbrev pub is_moving_simple : Simple → Bool
  is_moving_simple nothing = true
  is_moving_simple (eval e) = false
  is_moving_simple (assign what a e) = is_moved_assignment what a e
  is_moving_simple (clear a ty) = false
  is_moving_simple (copy_aggregate a b ty) = false
  is_moving_simple (copy_bytes a b n) = false
  is_moving_simple (fill a e n) = false
  is_moving_simple (input t d) = takes_whole t d
  is_moving_simple (output t e) = not (is_signed t) && is_moving e
  is_moving_simple (read_bytes e n) = is_whole (block_of e) n
  is_moving_simple (write_bytes e n) = is_moved_pointer e
  is_moving_simple (returns e) = false

  abbrev pub is_moving_what : What → Bool
  is_moving_what (simple w) = is_moving_simple w
  is_moving_what (call k es d) = false
  is_moving_what (if_else e a b) = false
  is_moving_what (loop first e a b) = false
  is_moving_what break_loop = false
  is_moving_what continue_loop = false
  is_moving_what (by_order named a b) = are_assignments a && are_assignments b
  is_moving_what (scope bs a) = false

  abbrev pub are_moving : Stmts → Bool
  are_moving stop = true
  are_moving (more l w rest) = is_moving_what w && are_moving rest

  -- main alone
  abbrev pub is_moving_main : List Function → Bool
  is_moving_main [] = false
  is_moving_main (f ∷ []) = are_moved_blocks p.types (result_in (Some f)) 0 p.blocks && are_moving f.body
  is_moving_main (f ∷ g ∷ fs) = false

abbrev pub has_moving_form : Program → Bool
has_moving_form p = is_moving_main p p.functions
