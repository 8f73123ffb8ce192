-- Tame programs (this project's rule): no byte of a number is looked at by itself (C11 6.2.6.1), no test of the byte
-- order stands in the text, and each pointer goes along the elements of one array (C11 6.5.6).
use Rattle.std.specs.Prelude.{ℕ, Bool, true, false, ◌&&◌, ◌||◌, ◌==◌, not, List, length, Option, Some, None}
use Rattle.std.specs.Option.{option_map_or}
use Rattle.std.specs.List.{list_any, list_all}
use Rattle.ep_layout.specs.Table.{Table, TypeRules, AggregateRow, by_type, size}
use Rattle.ep_core.specs.Program.{Place, block, deref, member, element, Expr, const, null_value, load, addr_of}
use Rattle.ep_core.specs.Program.{binary, convert, compare, ptr_compare, logical_and, logical_or, logical_not}
use Rattle.ep_core.specs.Program.{conditional, ptr_add, cast, Dest, Simple, nothing, eval, assign, clear}
use Rattle.ep_core.specs.Program.{copy_aggregate, copy_bytes, fill, input, output, read_bytes, write_bytes, returns}
use Rattle.ep_core.specs.Program.{What, simple, call, if_else, loop, break_loop, continue_loop, by_order, scope}
use Rattle.ep_core.specs.Program.{Stmts, stop, more, Function, Program}
use Rattle.ep_core.specs.WellFormed.{numbers_below}

-- ---- types

-- of a type: whether it is an array, and whether it, or what its elements are at whatever depth of arrays, is an
-- aggregate that holds an array, directly or through its members
pub record Inside : Type 0 where
  pub is_array : Bool
  pub holds_array : Bool

abbrev pub has_array_inside : List Inside → Bool
has_array_inside xs = list_any (λ (x : Inside). x.is_array || x.holds_array) xs

abbrev pub inside_rules : TypeRules Inside
inside_rules = record {
  scalar = λ w. record { is_array = false; holds_array = false };
  array = λ n x. record { is_array = true; holds_array = x.holds_array };
  struct = λ xs. record { is_array = false; holds_array = has_array_inside xs };
  union = λ xs. record { is_array = false; holds_array = has_array_inside xs };
}

-- void, and an aggregate that isn't completed (C11 6.2.5), hold nothing
abbrev pub inside_at : Table → (ty : ℕ) → (Inside → Bool) → Bool
inside_at t ty test = option_map_or test (by_type inside_rules t ty) false

-- an array of aggregates that hold an array
abbrev pub is_array_of_holders : Table → ℕ → Bool
is_array_of_holders t ty = inside_at t ty (λ x. x.is_array && x.holds_array)

-- an aggregate that holds an array
abbrev pub holds_array : Table → ℕ → Bool
holds_array t ty = inside_at t ty (λ x. not x.is_array && x.holds_array)

-- the bytes of an aggregate that holds an array
abbrev pub is_size_of_holder : Table → (bytes : ℕ) → Bool
is_size_of_holder t n =
    list_any (λ ty. holds_array t ty && option_map_or (λ s. s == n) (size t ty) false) (numbers_below (length t.types))

-- neither a union nor an array of aggregates that hold an array
abbrev pub are_tame_types : Table → Bool
are_tame_types t =
    list_all (λ (g : AggregateRow). not g.is_union) t.aggregates
    && list_all (λ ty. not (is_array_of_holders t ty)) (numbers_below (length t.types))

-- ---- text

-- a member, or something in it, of what a block is or a pointer points to
abbrev pub through_member : Place → Bool
through_member (block b) = false
through_member (deref e) = false
through_member (member a offset) = true
through_member (element a bound unit i) = through_member a

-- with the types of this table
module _ (t : Table) where
  -- No pointer is to another type than what it points to was made as, none is to a member, and none moves by aggregates
  -- that hold an array.
  abbrev mutual
    pub is_tame_place : Place → Bool
    is_tame_place (block b) = true
    is_tame_place (deref e) = is_tame_expr e
    is_tame_place (member a offset) = is_tame_place a
    is_tame_place (element a bound unit i) = is_tame_place a && is_tame_expr i

    pub is_tame_expr : Expr → Bool
    is_tame_expr (const k v) = true
    is_tame_expr null_value = true
    is_tame_expr (load what a) = is_tame_place a
    is_tame_expr (addr_of a) = not (through_member a) && is_tame_place a
    is_tame_expr (binary op k a b) = is_tame_expr a && is_tame_expr b
    is_tame_expr (convert k e) = is_tame_expr e
    is_tame_expr (compare c k a b) = is_tame_expr a && is_tame_expr b
    is_tame_expr (ptr_compare c a b) = is_tame_expr a && is_tame_expr b
    is_tame_expr (logical_and a b) = is_tame_expr a && is_tame_expr b
    is_tame_expr (logical_or a b) = is_tame_expr a && is_tame_expr b
    is_tame_expr (logical_not e) = is_tame_expr e
    is_tame_expr (conditional e a b) = is_tame_expr e && (is_tame_expr a && is_tame_expr b)
    is_tame_expr (ptr_add e unit n back) = not (is_size_of_holder t unit) && (is_tame_expr e && is_tame_expr n)
    is_tame_expr (cast e) = false

  abbrev pub is_tame_dest : Option Dest → Bool
  is_tame_dest None = true
  is_tame_dest (Some d) = not d.cast && is_tame_place d.place

  abbrev pub is_tame_value : Option Expr → Bool
  is_tame_value None = true
  is_tame_value (Some e) = is_tame_expr e

  -- Nothing is copied, set, taken or put out as bytes.
  abbrev pub is_tame_simple : Simple → Bool
  is_tame_simple nothing = true
  is_tame_simple (eval e) = is_tame_expr e
  is_tame_simple (assign what a e) = is_tame_place a && is_tame_expr e
  is_tame_simple (clear a ty) = is_tame_place a
  is_tame_simple (copy_aggregate a b ty) = is_tame_place a && is_tame_place b
  is_tame_simple (copy_bytes a b n) = false
  is_tame_simple (fill a e n) = false
  is_tame_simple (input k d) = is_tame_dest d
  is_tame_simple (output k e) = is_tame_expr e
  is_tame_simple (read_bytes e n) = false
  is_tame_simple (write_bytes e n) = false
  is_tame_simple (returns e) = is_tame_value e

  abbrev mutual
    pub is_tame_what : What → Bool
    is_tame_what (simple w) = is_tame_simple w
    is_tame_what (call k es d) = list_all is_tame_expr es && is_tame_dest d
    is_tame_what (if_else e a b) = is_tame_expr e && (are_tame a && are_tame b)
    is_tame_what (loop first e a b) = is_tame_expr e && (are_tame a && are_tame b)
    is_tame_what break_loop = true
    is_tame_what continue_loop = true
    is_tame_what (by_order named a b) = false
    is_tame_what (scope bs a) = are_tame a

    pub are_tame : Stmts → Bool
    are_tame stop = true
    are_tame (more l w rest) = is_tame_what w && are_tame rest

abbrev pub is_tame : Program → Bool
is_tame p = are_tame_types p.types && list_all (λ (f : Function). are_tame p.types f.body) p.functions
