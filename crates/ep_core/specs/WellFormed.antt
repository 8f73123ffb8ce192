-- Which programs are well formed. The typing rules are this project's, after C11 6.5 to 6.8.
use Rattle.std.specs.Prelude.{ℕ, zero, suc, Bool, true, false, ◌&&◌, ◌||◌, not, nat_eq, nat_le, List, [], ◌∷◌, ◌++◌}
use Rattle.std.specs.Prelude.{length, sum_by, slice_get, Option, Some, None, option_and_then, option_to_list, is_some}
use Rattle.std.specs.List.{list_any, list_all, flat_map, filter}
use Rattle.ep_int.specs.declared.types.IntType.{IntType}
use Rattle.ep_int.specs.declared.types.IntType.TheVariants.{I8, U8, I16, U16, I32, U32, I64, U64}
use Rattle.ep_int.specs.declared.types.Scalar.{Scalar}
use Rattle.ep_int.specs.declared.types.Scalar.TheVariants.{Int as Number, Pointer}
use Rattle.ep_int.specs.declared.types.BinOp.{BinOp}
use Rattle.ep_int.specs.declared.types.BinOp.TheVariants.{Add, Sub, Mul, Div, Rem, And, Or, Xor, Shl, Shr}
use Rattle.ep_int.specs.Arith.{is_in_range}
use Rattle.ep_int.specs.Memory.{contains}
use Rattle.ep_layout.specs.declared.types.Ty.{Ty}
use Rattle.ep_layout.specs.declared.types.Ty.TheVariants.{Int, Ptr, Array, Aggregate}
use Rattle.ep_layout.specs.declared.types.Leaf.{Leaf}
use Rattle.ep_layout.specs.Table.{Table, size, leaves, has_member_at}
use Rattle.ep_core.specs.Program.{Place, block, deref, member, element, Expr, const, null_value, load, addr_of, binary}
use Rattle.ep_core.specs.Program.{convert, compare, ptr_compare, logical_and, logical_or, logical_not, conditional}
use Rattle.ep_core.specs.Program.{ptr_add, cast, Dest, Simple, nothing, eval, assign, clear, copy_aggregate, copy_bytes}
use Rattle.ep_core.specs.Program.{fill, input, output, read_bytes, write_bytes, returns, What, simple, call, if_else}
use Rattle.ep_core.specs.Program.{loop, break_loop, continue_loop, by_order, scope, Stmts, stop, more, Block, Init}
use Rattle.ep_core.specs.Program.{Function, Program}
use Rattle.ep_core.specs.Exec.{first_of, frame_of, callee_of}
use Rattle.ep_core.specs.Runs.{is_global}

-- ---- equality of scalars

abbrev pub number_of_type : IntType → ℕ
number_of_type I8 = 0
number_of_type U8 = 1
number_of_type I16 = 2
number_of_type U16 = 3
number_of_type I32 = 4
number_of_type U32 = 5
number_of_type I64 = 6
number_of_type U64 = 7

abbrev pub is_same_type : IntType → IntType → Bool
is_same_type t u = nat_eq (number_of_type t) (number_of_type u)

abbrev pub is_same_scalar : Scalar → Scalar → Bool
is_same_scalar (Number t) (Number u) = is_same_type t u
is_same_scalar (Number t) Pointer = false
is_same_scalar Pointer (Number u) = false
is_same_scalar Pointer Pointer = true

-- ---- lists of blocks

-- no number twice
abbrev pub are_different : List ℕ → Bool
are_different [] = true
are_different (b ∷ bs) = not (contains b bs) && are_different bs

abbrev pub numbers_below : ℕ → List ℕ
numbers_below zero = []
numbers_below (suc n) = numbers_below n ++ n ∷ []

-- the blocks of the scopes in statements
abbrev mutual
  pub scoped_in : What → List ℕ
  scoped_in (simple w) = []
  scoped_in (call k es d) = []
  scoped_in (if_else e a b) = scoped a ++ scoped b
  scoped_in (loop first e a b) = scoped a ++ scoped b
  scoped_in break_loop = []
  scoped_in continue_loop = []
  scoped_in (by_order o a b) = scoped a ++ scoped b
  scoped_in (scope bs a) = bs ++ scoped a

  pub scoped : Stmts → List ℕ
  scoped stop = []
  scoped (more l w rest) = scoped_in w ++ scoped rest

-- the blocks of a function's own: its parameters and locals, its result, and those of its scopes
abbrev pub own_blocks : Function → List ℕ
own_blocks f = frame_of f ++ (first_of (option_to_list f.result) ++ scoped f.body)

-- ---- steps of a loop

abbrev pub is_return : Simple → Bool
is_return nothing = false
is_return (eval e) = false
is_return (assign what a e) = false
is_return (clear a ty) = false
is_return (copy_aggregate a b ty) = false
is_return (copy_bytes a b n) = false
is_return (fill a e n) = false
is_return (input t d) = false
is_return (output t e) = false
is_return (read_bytes e n) = false
is_return (write_bytes e n) = false
is_return (returns e) = true

-- no call, loop or jump, at whatever depth
abbrev mutual
  pub is_plain : What → Bool
  is_plain (simple w) = not (is_return w)
  is_plain (call k es d) = false
  is_plain (if_else e a b) = are_plain a && are_plain b
  is_plain (loop first e a b) = false
  is_plain break_loop = false
  is_plain continue_loop = false
  is_plain (by_order o a b) = are_plain a && are_plain b
  is_plain (scope bs a) = are_plain a

  pub are_plain : Stmts → Bool
  are_plain stop = true
  are_plain (more l w rest) = is_plain w && are_plain rest

-- ---- types

-- what an expression is: a number of a type, or a pointer to a type
pub data Sort : Type 0 where
  integer : IntType → Sort
  pointer_to : (ty : ℕ) → Sort

abbrev pub is_integer : Sort → IntType → Bool
is_integer (integer t) u = is_same_type t u
is_integer (pointer_to ty) u = false

-- a pointer to a type of which this holds
abbrev pub is_pointer_where : Sort → (ℕ → Bool) → Bool
is_pointer_where (integer t) test = false
is_pointer_where (pointer_to ty) test = test ty

-- the sort of a scalar of a type
abbrev pub sort_of : Option Ty → Option Sort
sort_of (Some (Int t)) = Some (integer t)
sort_of (Some (Ptr ty)) = Some (pointer_to ty)
sort_of ty = None

abbrev pub is_sort : Option Sort → Sort → Bool
is_sort None x = false
is_sort (Some (integer t)) x = is_integer x t
is_sort (Some (pointer_to ty)) x = is_pointer_where x (nat_eq ty)

abbrev pub has_scalar : Option Ty → Scalar → Bool
has_scalar (Some (Int t)) what = is_same_scalar (Number t) what
has_scalar (Some (Ptr ty)) what = is_same_scalar Pointer what
has_scalar ty what = false

abbrev pub is_array_of : Option Ty → (element : ℕ) → Bool
is_array_of (Some (Array e n)) ty = nat_eq e ty
is_array_of other ty = false

abbrev pub has_bound : Option Ty → (bound : ℕ) → Bool
has_bound (Some (Array e n)) bound = nat_eq n bound
has_bound other bound = false

-- an aggregate with a member of this type at this offset
abbrev pub has_member : Table → Option Ty → (offset ty : ℕ) → Bool
has_member t (Some (Aggregate a)) offset ty = has_member_at t a offset ty
has_member t other offset ty = false

abbrev pub is_number : Option ℕ → ℕ → Bool
is_number None n = false
is_number (Some m) n = nat_eq m n

-- what units, bounds and lengths may be
abbrev pub is_length : ℕ → Bool
is_length n = nat_le 1 n && nat_le n 65536

-- The integer type that an expression has if it has one, by its text.
abbrev pub int_type_of : Expr → Option IntType
int_type_of (const t v) = Some t
int_type_of null_value = None
int_type_of (load (Number t) a) = Some t
int_type_of (load Pointer a) = None
int_type_of (addr_of a) = None
int_type_of (binary op t a b) = Some t
int_type_of (convert t e) = Some t
int_type_of (compare c t a b) = Some I32
int_type_of (ptr_compare c a b) = Some I32
int_type_of (logical_and a b) = Some I32
int_type_of (logical_or a b) = Some I32
int_type_of (logical_not e) = Some I32
int_type_of (conditional e a b) = int_type_of a
int_type_of (ptr_add e unit n back) = None
int_type_of (cast e) = None

-- the type of an operator's right operand: the operator's, but the amount of a shift has its own
abbrev pub right_type : BinOp → IntType → (own : Option IntType) → Option IntType
right_type Add t own = Some t
right_type Sub t own = Some t
right_type Mul t own = Some t
right_type Div t own = Some t
right_type Rem t own = Some t
right_type And t own = Some t
right_type Or t own = Some t
right_type Xor t own = Some t
right_type Shl t own = own
right_type Shr t own = own

-- a number of this type, if there is one
abbrev pub is_int : Option IntType → (Sort → Bool) → Bool
is_int None has = false
is_int (Some t) has = has (integer t)

-- among these types and blocks, where these blocks can be named
module _ (t : Table) (bs : List Block) (seen : List ℕ) where
  abbrev pub ty_at : ℕ → Option Ty
  ty_at ty = slice_get t.types ty

  abbrev pub type_numbers : List ℕ
  type_numbers = numbers_below (length t.types)

  -- some type of this kind is one of which this holds
  abbrev pub some_type : (kind : Option Ty → Bool) → (ℕ → Bool) → Bool
  some_type kind test = list_any test (filter (λ ty. kind (ty_at ty)) type_numbers)

  abbrev pub is_pointer : (Sort → Bool) → Bool
  is_pointer has = list_any (λ ty. has (pointer_to ty)) type_numbers

  -- what is tested is a number or a pointer
  abbrev pub is_test : Option IntType → (Sort → Bool) → Bool
  is_test own has = is_int own has || is_pointer has

  -- a block that is global or can be named
  abbrev pub is_named : ℕ → Bool
  is_named b = is_global (slice_get bs b) || contains b seen

  abbrev pub block_has : Option Block → (ty : ℕ) → Bool
  block_has None ty = false
  block_has (Some b) ty = nat_eq b.ty ty

  abbrev mutual
    -- a place has this type
    pub place_has : Place → (ty : ℕ) → Bool
    place_has (block b) ty = is_named b && block_has (slice_get bs b) ty
    place_has (deref e) ty = has_sort e (pointer_to ty)
    place_has (member a offset) ty = some_type (λ u. has_member t u offset ty) (place_has a)
    place_has (element a bound unit i) ty =
        is_length bound && is_length unit && is_number (size t ty) unit
        && some_type (λ u. is_array_of u ty && has_bound u bound) (place_has a) && is_int (int_type_of i) (has_sort i)

    -- an expression has this sort
    pub has_sort : Expr → Sort → Bool
    has_sort (const u v) x = is_integer x u && is_in_range u v
    has_sort null_value x = is_pointer_where x (λ ty. true)
    has_sort (load what a) x = some_type (λ u. has_scalar u what && is_sort (sort_of u) x) (place_has a)
    has_sort (addr_of a) x =
        is_pointer_where x (λ ty. place_has a ty || some_type (λ u. is_array_of u ty) (place_has a))
    has_sort (binary op u a b) x =
        is_integer x u && has_sort a (integer u) && is_int (right_type op u (int_type_of b)) (has_sort b)
    has_sort (convert u e) x = is_integer x u && is_int (int_type_of e) (has_sort e)
    has_sort (compare c u a b) x = is_integer x I32 && has_sort a (integer u) && has_sort b (integer u)
    has_sort (ptr_compare c a b) x = is_integer x I32 && is_pointer (has_sort a) && is_pointer (has_sort b)
    has_sort (logical_and a b) x =
        is_integer x I32 && is_test (int_type_of a) (has_sort a) && is_test (int_type_of b) (has_sort b)
    has_sort (logical_or a b) x =
        is_integer x I32 && is_test (int_type_of a) (has_sort a) && is_test (int_type_of b) (has_sort b)
    has_sort (logical_not e) x = is_integer x I32 && is_test (int_type_of e) (has_sort e)
    has_sort (conditional e a b) x = is_test (int_type_of e) (has_sort e) && has_sort a x && has_sort b x
    has_sort (ptr_add e unit n back) x =
        is_length unit && is_pointer_where x (λ ty. is_number (size t ty) unit) && has_sort e x
        && is_int (int_type_of n) (has_sort n)
    has_sort (cast e) x = is_pointer_where x (λ ty. true) && is_pointer (has_sort e)

  abbrev pub is_address : Expr → Bool
  is_address e = is_pointer (has_sort e)

  -- an expression is tested, or evaluated alone
  abbrev pub is_tested : Expr → Bool
  is_tested e = is_test (int_type_of e) (has_sort e)

  -- an expression has the type of a scalar
  abbrev pub has_type : Expr → (ty : ℕ) → Bool
  has_type e ty = fits_sort (sort_of (ty_at ty))
    where
      fits_sort : Option Sort → Bool
      fits_sort None = false
      fits_sort (Some x) = has_sort e x

  -- an input goes to a number
  abbrev pub takes_input : Option Dest → Bool
  takes_input None = true
  takes_input (Some d) = some_type (λ u. has_scalar u d.what && not (has_scalar u Pointer)) (place_has d.place)

  -- A number goes to a number of any type, and a pointer to a pointer of its type, or with `cast` of any type.
  abbrev pub can_take : (any_type : Bool) → (result taker : Option Ty) → (same : Bool) → Bool
  can_take any_type (Some (Int r)) (Some (Int u)) same = true
  can_take any_type (Some (Ptr r)) (Some (Ptr u)) same = any_type || same
  can_take any_type result taker same = false

  -- a place takes what a function gives
  abbrev pub takes_result : (result : Option ℕ) → Option Dest → Bool
  takes_result result None = true
  takes_result None (Some d) = false
  takes_result (Some ty) (Some d) =
      some_type (λ u. has_scalar u d.what)
      (λ u. can_take d.cast (ty_at ty) (ty_at u) (nat_eq ty u) && place_has d.place u)

-- the type of the block of a parameter or result
abbrev pub block_type : Option Block → Option ℕ
block_type None = None
block_type (Some b) = Some b.ty

abbrev pub result_type : List Block → Option (ℕ × Scalar) → Option ℕ
result_type bs None = None
result_type bs (Some r) = block_type (slice_get bs r.0)

-- an argument for each parameter, of its type
abbrev pub arguments_fit : Table → List Block → (seen : List ℕ) → List (ℕ × Scalar) → List Expr → Bool
arguments_fit t bs seen [] [] = true
arguments_fit t bs seen [] (e ∷ es) = false
arguments_fit t bs seen (b ∷ params) [] = false
arguments_fit t bs seen (b ∷ params) (e ∷ es) =
    argument_fits (block_type (slice_get bs b.0)) && arguments_fit t bs seen params es
  where
    argument_fits : Option ℕ → Bool
    argument_fits None = false
    argument_fits (Some ty) = has_type t bs seen e ty

-- what is returned has the type of the function's result, if there is one
abbrev pub result_fits : Table → List Block → (seen : List ℕ) → (result : Option ℕ) → Option Expr → Bool
result_fits t bs seen None None = true
result_fits t bs seen None (Some e) = false
result_fits t bs seen (Some ty) None = false
result_fits t bs seen (Some ty) (Some e) = has_type t bs seen e ty

-- ---- statements, in the function of number `here`, whose result has this type
module _ (p : Program) (here : ℕ) (result : Option ℕ) where
  abbrev pub simple_fits : Simple → (seen : List ℕ) → Bool
  simple_fits nothing seen = true
  simple_fits (eval e) seen = is_tested p.types p.blocks seen e
  simple_fits (assign what a e) seen =
      some_type p.types p.blocks seen (λ u. has_scalar u what)
      (λ ty. place_has p.types p.blocks seen a ty && has_type p.types p.blocks seen e ty)
  simple_fits (clear a ty) seen = place_has p.types p.blocks seen a ty && is_some (size p.types ty)
  simple_fits (copy_aggregate a b ty) seen =
      place_has p.types p.blocks seen a ty && place_has p.types p.blocks seen b ty && is_some (size p.types ty)
  simple_fits (copy_bytes a b n) seen =
      is_length n && is_address p.types p.blocks seen a && is_address p.types p.blocks seen b
  simple_fits (fill a e n) seen =
      is_length n && is_address p.types p.blocks seen a && has_sort p.types p.blocks seen e (integer U8)
  simple_fits (input t d) seen = takes_input p.types p.blocks seen d
  simple_fits (output t e) seen = has_sort p.types p.blocks seen e (integer t)
  simple_fits (read_bytes e n) seen = is_length n && is_address p.types p.blocks seen e
  simple_fits (write_bytes e n) seen = is_length n && is_address p.types p.blocks seen e
  simple_fits (returns e) seen = result_fits p.types p.blocks seen result e

  -- a call of an earlier function, with its arguments
  abbrev pub call_fits : Option Function → List Expr → Option Dest → (seen : List ℕ) → Bool
  call_fits None es d seen = false
  call_fits (Some f) es d seen =
      arguments_fit p.types p.blocks seen f.params es
      && takes_result p.types p.blocks seen (result_type p.blocks f.result) d

  abbrev mutual
    pub what_fits : What → (seen : List ℕ) → (in_loop : Bool) → Bool
    what_fits (simple w) seen i = simple_fits w seen
    what_fits (call k es d) seen i = call_fits (callee_of p here k) es d seen
    what_fits (if_else e a b) seen i =
        is_tested p.types p.blocks seen e && stmts_fit a seen i && stmts_fit b seen i
    what_fits (loop first e a b) seen i =
        is_tested p.types p.blocks seen e && stmts_fit a seen true && (are_plain b && stmts_fit b seen i)
    what_fits break_loop seen i = i
    what_fits continue_loop seen i = i
    what_fits (by_order o a b) seen i = stmts_fit a seen i && stmts_fit b seen i
    what_fits (scope own a) seen i = stmts_fit a (own ++ seen) i

    pub stmts_fit : Stmts → (seen : List ℕ) → (in_loop : Bool) → Bool
    stmts_fit stop seen i = true
    stmts_fit (more l w rest) seen i = what_fits w seen i && stmts_fit rest seen i

-- ---- blocks, first values, functions

-- a block has the size of its type, and at least one byte
abbrev pub block_fits : Table → Block → Bool
block_fits t b = is_number (size t b.ty) b.size && nat_le 1 b.size

-- all blocks together have at most 65,536 bytes
abbrev pub blocks_fit : Table → List Block → Bool
blocks_fit t bs = list_all (block_fits t) bs && nat_le (sum_by (λ (b : Block). b.size) bs) 65536

abbrev pub is_leaf_at : (offset : ℕ) → Scalar → Leaf → Bool
is_leaf_at offset what f = nat_eq f.offset offset && is_same_scalar f.what what

-- a first value is of a leaf of a global block's type, and in range
abbrev pub init_fits : Table → List Block → Init → Bool
init_fits t bs i = leaf_fits (slice_get bs i.block) && is_in_range i.t i.value
  where
    leaf_fits : Option Block → Bool
    leaf_fits None = false
    leaf_fits (Some b) = b.global && list_any (is_leaf_at i.offset (Number i.t)) (leaves t b.ty)

-- no leaf has two first values
abbrev pub is_same_leaf : Init → Init → Bool
is_same_leaf i j = nat_eq i.block j.block && nat_eq i.offset j.offset

abbrev pub are_different_leaves : List Init → Bool
are_different_leaves [] = true
are_different_leaves (i ∷ is) = not (list_any (is_same_leaf i) is) && are_different_leaves is

-- each block is global, or listed once in the program
abbrev pub are_listed : List Block → (own : List ℕ) → Bool
are_listed bs own =
    are_different own && list_all (λ b. is_some (slice_get bs b) && not (is_global (slice_get bs b))) own
    && list_all (λ b. is_global (slice_get bs b) || contains b own) (numbers_below (length bs))

-- the block of a parameter or result holds its scalar
abbrev pub holds_scalar : Table → List Block → ℕ × Scalar → Bool
holds_scalar t bs b = has_scalar (option_and_then (slice_get t.types) (block_type (slice_get bs b.0))) b.1

abbrev pub function_fits : Program → (here : ℕ) → Function → Bool
function_fits p here f =
    list_all (holds_scalar p.types p.blocks) f.params
    && list_all (holds_scalar p.types p.blocks) (option_to_list f.result)
    && stmts_fit p here (result_type p.blocks f.result) f.body (frame_of f) false

abbrev pub functions_fit : Program → (here : ℕ) → List Function → Bool
functions_fit p here [] = true
functions_fit p here (f ∷ fs) = function_fits p here f && functions_fit p (suc here) fs

abbrev pub is_int_result : Option (ℕ × Scalar) → Bool
is_int_result None = false
is_int_result (Some r) = is_same_scalar r.1 (Number I32)

-- main is a function without parameters and with an int as its result
abbrev pub is_main : Option Function → Bool
is_main None = false
is_main (Some f) = nat_eq (length f.params) 0 && is_int_result f.result

abbrev pub is_well_formed : Program → Bool
is_well_formed p =
    blocks_fit p.types p.blocks
    && (list_all (init_fits p.types p.blocks) p.init && are_different_leaves p.init)
    && are_listed p.blocks (flat_map own_blocks p.functions)
    && functions_fit p 0 p.functions && is_main (slice_get p.functions p.main)
