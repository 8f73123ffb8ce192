-- Where alarms may stand, by the text of a program. The rules are this project's.
use Rattle.std.specs.Prelude.{ℕ, zero, suc, Bool, true, false, ◌&&◌, ◌||◌, not, nat_eq, List, [], ◌∷◌, ◌++◌}
use Rattle.std.specs.Prelude.{slice_get, Option, Some, None}
use Rattle.ep_int.specs.declared.types.BinOp.{BinOp}
use Rattle.ep_int.specs.declared.types.BinOp.TheVariants.{Add, Sub, Mul, Div, Rem, And, Or, Xor, Shl, Shr}
use Rattle.ep_int.specs.declared.types.Cmp.{Cmp}
use Rattle.ep_int.specs.declared.types.Cmp.TheVariants.{Eq, Ne, Lt, Le, Gt, Ge}
use Rattle.ep_int.specs.declared.types.IntType.{IntType}
use Rattle.ep_int.specs.Types.{is_signed}
use Rattle.ep_alarms.specs.declared.types.AlarmKind.{AlarmKind}
use Rattle.ep_alarms.specs.declared.types.AlarmKind.TheVariants.{U1, U2, U3, U4, U5, U6, U7, U8, U9, U10, E1, E2, E3}
use Rattle.ep_alarms.specs.declared.types.AlarmKind.TheVariants.{E4}
use Rattle.ep_alarms.specs.Alarm.{place_of}
use Rattle.ep_core.specs.Program.{Place, block, deref, member, element, Expr, const, null_value, load, addr_of}
use Rattle.ep_core.specs.Program.{binary, convert, compare, ptr_compare, logical_and, logical_or, logical_not}
use Rattle.ep_core.specs.Program.{conditional, ptr_add, cast, Dest, Simple, nothing, eval, assign, clear}
use Rattle.ep_core.specs.Program.{copy_aggregate, copy_bytes, fill, input, output, read_bytes, write_bytes, returns}
use Rattle.ep_core.specs.Program.{What, simple, call, if_else, loop, break_loop, continue_loop, by_order, scope}
use Rattle.ep_core.specs.Program.{Stmts, stop, more, Function, Program}
use Rattle.ep_core.specs.Ways.{Ways, ways_of_all}

abbrev pub is_kind : AlarmKind → AlarmKind → Bool
is_kind a b = nat_eq (place_of a) (place_of b)

-- one of these kinds
abbrev pub is_one_of : List AlarmKind → AlarmKind → Bool
is_one_of [] k = false
is_one_of (a ∷ kinds) k = is_kind a k || is_one_of kinds k

-- ---- expressions

-- `+ - *` of a signed type may overflow
abbrev pub overflow_of : IntType → List AlarmKind
overflow_of t = if_signed (is_signed t)
  where
    if_signed : Bool → List AlarmKind
    if_signed true = U1 ∷ []
    if_signed false = []

-- the kinds that an operator may have
abbrev pub operator_kinds : BinOp → IntType → List AlarmKind
operator_kinds Add t = overflow_of t
operator_kinds Sub t = overflow_of t
operator_kinds Mul t = overflow_of t
operator_kinds Div t = U2 ∷ []
operator_kinds Rem t = U2 ∷ []
operator_kinds And t = []
operator_kinds Or t = []
operator_kinds Xor t = []
operator_kinds Shl t = U3 ∷ []
operator_kinds Shr t = U3 ∷ []

-- pointers into different objects have no order
abbrev pub order_kinds : Cmp → List AlarmKind
order_kinds Eq = []
order_kinds Ne = []
order_kinds Lt = U8 ∷ []
order_kinds Le = U8 ∷ []
order_kinds Gt = U8 ∷ []
order_kinds Ge = U8 ∷ []

-- a place, or the object that it is a part of, is what a pointer points to
abbrev pub is_through : Place → Bool
is_through (block b) = false
is_through (deref e) = true
is_through (member a offset) = is_through a
is_through (element a bound unit i) = is_through a

-- a place, or the object that it is a part of, is an element by an index
abbrev pub is_indexed : Place → Bool
is_indexed (block b) = false
is_indexed (deref e) = false
is_indexed (member a offset) = is_indexed a
is_indexed (element a bound unit i) = true

abbrev pub kinds_if : Bool → List AlarmKind → List AlarmKind
kinds_if true kinds = kinds
kinds_if false kinds = []

-- of an address that may be null or outside its object
abbrev pub address_kinds : List AlarmKind
address_kinds = U5 ∷ U6 ∷ []

-- of bytes that are read
abbrev pub read_kinds : List AlarmKind
read_kinds = U4 ∷ U10 ∷ []

-- where the numbers of the analysis keep strides, or don't
module _ (strides : Bool) (k : AlarmKind) where
  -- Of an access to a place: through a pointer; and without strides an element may seem to leave its alignment.
  abbrev pub access_kinds : Place → List AlarmKind
  access_kinds a = kinds_if (is_through a) (U5 ∷ U6 ∷ U7 ∷ []) ++ kinds_if (not strides && is_indexed a) (U7 ∷ [])

  -- whether an expression, or a place, may have an alarm of this kind
  abbrev mutual
    pub expr_may : Expr → Bool
    expr_may (const t v) = false
    expr_may null_value = false
    expr_may (load what a) = is_one_of read_kinds k || (is_one_of (access_kinds a) k || place_may a)
    expr_may (addr_of a) = place_may a
    expr_may (binary op t a b) = is_one_of (operator_kinds op t) k || (expr_may a || expr_may b)
    expr_may (convert t e) = expr_may e
    expr_may (compare c t a b) = expr_may a || expr_may b
    expr_may (ptr_compare c a b) = is_one_of (order_kinds c) k || (expr_may a || expr_may b)
    expr_may (logical_and a b) = expr_may a || expr_may b
    expr_may (logical_or a b) = expr_may a || expr_may b
    expr_may (logical_not e) = expr_may e
    expr_may (conditional e a b) = expr_may e || (expr_may a || expr_may b)
    expr_may (ptr_add e unit n backwards) = is_one_of address_kinds k || (expr_may e || expr_may n)
    expr_may (cast e) = expr_may e

    pub place_may : Place → Bool
    place_may (block b) = false
    place_may (deref e) = expr_may e
    place_may (member a offset) = is_one_of (kinds_if (is_through a) address_kinds) k || place_may a
    place_may (element a bound unit i) = is_one_of address_kinds k || (place_may a || expr_may i)

  -- a place that is written
  abbrev pub target_may : Place → Bool
  target_may a = is_one_of (access_kinds a) k || place_may a

  abbrev pub dest_may : Option Dest → Bool
  dest_may None = false
  dest_may (Some d) = target_may d.place

  abbrev pub exprs_may : List Expr → Bool
  exprs_may [] = false
  exprs_may (e ∷ es) = expr_may e || exprs_may es

  -- ---- statements without statements in them

  -- of an input or output, where one machine may run alone
  abbrev pub alone_kinds : (alone : Bool) → List AlarmKind
  alone_kinds alone = kinds_if alone (E2 ∷ [])

  -- whether a statement may have an alarm of this kind, where one machine may run alone
  abbrev pub simple_may : (alone : Bool) → Simple → Bool
  simple_may alone nothing = false
  simple_may alone (eval e) = expr_may e
  simple_may alone (assign what a e) = target_may a || expr_may e
  simple_may alone (clear a ty) = target_may a
  simple_may alone (copy_aggregate a b ty) =
      is_one_of (U5 ∷ U6 ∷ U9 ∷ []) k || (place_may a || place_may b)
  simple_may alone (copy_bytes a b n) = is_one_of (U5 ∷ U6 ∷ U9 ∷ []) k || (expr_may a || expr_may b)
  simple_may alone (fill a e n) = is_one_of address_kinds k || (expr_may a || expr_may e)
  simple_may alone (input t d) = is_one_of (alone_kinds alone) k || dest_may d
  simple_may alone (output t e) = is_one_of (E1 ∷ alone_kinds alone) k || expr_may e
  simple_may alone (read_bytes e n) = is_one_of (alone_kinds alone) k || (is_one_of address_kinds k || expr_may e)
  simple_may alone (write_bytes e n) =
      is_one_of (E1 ∷ alone_kinds alone) k || (is_one_of read_kinds k || (is_one_of address_kinds k || expr_may e))
  simple_may alone (returns None) = false
  simple_may alone (returns (Some e)) = expr_may e

  -- the result of a call is read, where a place takes it
  abbrev pub result_may : Option Dest → Bool
  result_may None = false
  result_may (Some d) = is_one_of read_kinds k || target_may d.place

-- ---- statements

-- some way out of the one differs from some way out of the other
abbrev pub may_differ : Ways → Ways → Bool
may_differ a b =
    a.at_end && (b.by_break || (b.by_continue || b.by_return))
    || (a.by_break && (b.at_end || (b.by_continue || b.by_return))
    || (a.by_continue && (b.at_end || (b.by_break || b.by_return))
    || a.by_return && (b.at_end || (b.by_break || b.by_continue))))

-- alarms of this kind on this line, where numbers keep strides, or don't
module _ (strides : Bool) (k : AlarmKind) (line : ℕ) where
  -- whether statements may have one, where one machine may run alone, and the functions before this one may have it so
  module _ (p : Program) (here : ℕ) (bodies : (alone : Bool) → ℕ → Bool) where
    abbrev mutual
      pub what_may : (alone : Bool) → What → (its_line : ℕ) → Bool
      what_may alone (simple w) l = nat_eq l line && simple_may strides k alone w
      what_may alone (call f es d) l =
          nat_eq l line && (exprs_may strides k es || result_may strides k d) || bodies alone f
      what_may alone (if_else e a b) l =
          nat_eq l line && (expr_may strides k e || is_kind E3 k && may_differ (ways_of_all a) (ways_of_all b))
          || (stmts_may true a || stmts_may true b)
      what_may alone (loop first e a b) l =
          nat_eq l line && (expr_may strides k e || (is_kind E4 k || is_kind E3 k && (ways_of_all a).by_return))
          || (stmts_may true a || stmts_may true b)
      what_may alone break_loop l = false
      what_may alone continue_loop l = false
      what_may alone (by_order named a b) l =
          nat_eq l line && (is_kind E3 k && may_differ (ways_of_all a) (ways_of_all b))
          || (stmts_may true a || stmts_may true b)
      what_may alone (scope bs a) l = stmts_may alone a

      pub stmts_may : (alone : Bool) → Stmts → Bool
      stmts_may alone stop = false
      stmts_may alone (more l w rest) = what_may alone w l || stmts_may alone rest

  module _ (p : Program) where
    abbrev pub body_may : Option Function → (here : ℕ) → (bodies : (alone : Bool) → ℕ → Bool) → (alone : Bool) → Bool
    body_may None here bodies alone = false
    body_may (Some f) here bodies alone = stmts_may p here bodies alone f.body

    -- one of two answers
    abbrev pub answer_if : Bool → (yes no : Bool) → Bool
    answer_if true a b = a
    answer_if false a b = b

    -- the bodies of the functions before number n
    abbrev pub bodies_may : (n : ℕ) → (alone : Bool) → ℕ → Bool
    bodies_may zero alone f = false
    bodies_may (suc n) alone f =
        answer_if (nat_eq f n) (body_may (slice_get p.functions n) n (bodies_may n) alone) (bodies_may n alone f)

    -- the result of main may differ, on the line of its name
    abbrev pub end_may : Option Function → Bool
    end_may None = false
    end_may (Some f) = nat_eq f.line line && is_kind E1 k

    -- whether the report on a program may have one
    abbrev pub may_stand : Bool
    may_stand =
        body_may (slice_get p.functions p.main) p.main (bodies_may p.main) false
        || end_may (slice_get p.functions p.main)
