-- Programs that only move whole variables: without operators, tests, loops, jumps and calls, each statement of main is
-- executed once, and each variable is read and written as a whole (this project's rule).
use Rattle.std.specs.Prelude.{ℕ, Bool, true, false, ◌&&◌, nat_le, slice_get, Option, Some, None, option_and_then}
use Rattle.ep_int.specs.declared.types.Scalar.{Scalar}
use Rattle.ep_int.specs.declared.types.Scalar.TheVariants.{Int, Pointer}
use Rattle.ep_int.specs.Types.{bytes_of}
use Rattle.ep_layout.specs.declared.types.Ty.{Ty}
use Rattle.ep_layout.specs.declared.types.Ty.TheVariants as ty
use Rattle.ep_core.specs.Program.{Place, block, deref, member, element, Expr, const, null_value, load, addr_of, binary}
use Rattle.ep_core.specs.Program.{convert, compare, ptr_compare, logical_and, logical_or, logical_not, conditional}
use Rattle.ep_core.specs.Program.{ptr_add, cast, Dest, Simple, nothing, eval, assign, clear, copy_aggregate, copy_bytes}
use Rattle.ep_core.specs.Program.{fill, input, output, read_bytes, write_bytes, returns, What, simple, call, if_else}
use Rattle.ep_core.specs.Program.{loop, break_loop, continue_loop, by_order, scope, Stmts, stop, more, Function}
use Rattle.ep_core.specs.Program.{Program}
use Rattle.ep_core.specs.WellFormed.{block_type, holds_scalar}

-- how many bytes an integer of a type has; of another type none count
abbrev pub integer_bytes : Option Ty → ℕ
integer_bytes None = 0
integer_bytes (Some (ty.Int t)) = bytes_of t
integer_bytes (Some ty.Void) = 0
integer_bytes (Some (ty.Ptr e)) = 0
integer_bytes (Some (ty.Array e n)) = 0
integer_bytes (Some (ty.Aggregate a)) = 0

module _ (p : Program) where
  -- a variable: a block that is one integer of this type
  abbrev pub is_variable : Scalar → Place → Bool
  is_variable (Int t) (block b) = holds_scalar p.types p.blocks (b, Int t)
  is_variable (Int t) (deref e) = false
  is_variable (Int t) (member a offset) = false
  is_variable (Int t) (element a bound unit i) = false
  is_variable Pointer a = false

  -- a number, or a variable's, perhaps converted
  abbrev pub is_straight_value : Expr → Bool
  is_straight_value (const t v) = true
  is_straight_value null_value = false
  is_straight_value (load what a) = is_variable what a
  is_straight_value (addr_of a) = false
  is_straight_value (binary op t a b) = false
  is_straight_value (convert t e) = is_straight_value e
  is_straight_value (compare c t a b) = false
  is_straight_value (ptr_compare c a b) = false
  is_straight_value (logical_and a b) = false
  is_straight_value (logical_or a b) = false
  is_straight_value (logical_not e) = false
  is_straight_value (conditional e a b) = false
  is_straight_value (ptr_add e unit n back) = false
  is_straight_value (cast e) = false

  -- the first n bytes of a variable
  abbrev pub is_front : Place → (n : ℕ) → Bool
  is_front (block b) n =
      nat_le n (integer_bytes (option_and_then (slice_get p.types.types) (block_type (slice_get p.blocks b))))
  is_front (deref e) n = false
  is_front (member a offset) n = false
  is_front (element a bound unit i) n = false

  abbrev pub is_address_of_front : Expr → (n : ℕ) → Bool
  is_address_of_front (const t v) n = false
  is_address_of_front null_value n = false
  is_address_of_front (load what a) n = false
  is_address_of_front (addr_of a) n = is_front a n
  is_address_of_front (binary op t a b) n = false
  is_address_of_front (convert t e) n = false
  is_address_of_front (compare c t a b) n = false
  is_address_of_front (ptr_compare c a b) n = false
  is_address_of_front (logical_and a b) n = false
  is_address_of_front (logical_or a b) n = false
  is_address_of_front (logical_not e) n = false
  is_address_of_front (conditional e a b) n = false
  is_address_of_front (ptr_add e unit k back) n = false
  is_address_of_front (cast e) n = false

  abbrev pub takes_straight : Option Dest → Bool
  takes_straight None = true
  takes_straight (Some d) = is_variable d.what d.place

  abbrev pub is_straight_step : Simple → Bool
  is_straight_step nothing = true
  is_straight_step (eval e) = is_straight_value e
  is_straight_step (assign what a e) = is_variable what a && is_straight_value e
  is_straight_step (clear a ty) = false
  is_straight_step (copy_aggregate a b ty) = false
  is_straight_step (copy_bytes a b n) = false
  is_straight_step (fill a e n) = false
  is_straight_step (input t d) = takes_straight d
  is_straight_step (output t e) = is_straight_value e
  is_straight_step (read_bytes e n) = false
  is_straight_step (write_bytes e n) = is_address_of_front e n
  is_straight_step (returns e) = false

  abbrev pub is_straight_statement : What → Bool
  is_straight_statement (simple w) = is_straight_step w
  is_straight_statement (call k es d) = false
  is_straight_statement (if_else e a b) = false
  is_straight_statement (loop first e a b) = false
  is_straight_statement break_loop = false
  is_straight_statement continue_loop = false
  is_straight_statement (by_order o a b) = false
  is_straight_statement (scope bs a) = false

  abbrev pub are_straight : Stmts → Bool
  are_straight stop = true
  are_straight (more l w rest) = is_straight_statement w && are_straight rest

  abbrev pub is_straight_body : Option Function → Bool
  is_straight_body None = true
  is_straight_body (Some f) = are_straight f.body

  -- main alone is run, as there are no calls
  abbrev pub is_straight : Bool
  is_straight = is_straight_body (slice_get p.functions p.main)
