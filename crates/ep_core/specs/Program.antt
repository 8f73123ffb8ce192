-- The core program as plain data.
use Rattle.std.specs.Prelude.{ℕ, ℤ, Bool, List, Option}
use Rattle.ep_int.specs.declared.types.BinOp.{BinOp}
use Rattle.ep_int.specs.declared.types.Cmp.{Cmp}
use Rattle.ep_int.specs.declared.types.IntType.{IntType}
use Rattle.ep_int.specs.declared.types.Order.{Order}
use Rattle.ep_int.specs.declared.types.Scalar.{Scalar}
use Rattle.ep_layout.specs.Table.{Table}

mutual
  pub data Expr : Type 0 where
    const : IntType → ℤ → Expr
    null_value : Expr
    load : Scalar → Place → Expr
    addr_of : Place → Expr
    binary : BinOp → IntType → (left right : Expr) → Expr
    convert : IntType → Expr → Expr
    compare : Cmp → IntType → (left right : Expr) → Expr
    ptr_compare : Cmp → (left right : Expr) → Expr
    logical_and : (left right : Expr) → Expr
    logical_or : (left right : Expr) → Expr
    logical_not : Expr → Expr
    conditional : (test then otherwise : Expr) → Expr
    ptr_add : Expr → (unit : ℕ) → (count : Expr) → (backwards : Bool) → Expr
    cast : Expr → Expr

  -- an object, or a part of one
  pub data Place : Type 0 where
    block : (number : ℕ) → Place
    deref : Expr → Place
    member : Place → (offset : ℕ) → Place
    element : Place → (bound unit : ℕ) → (index : Expr) → Place

-- where a result or an input goes, and whether it is a pointer to another type than the place's pointers are
pub record Dest : Type 0 where
  pub what : Scalar
  pub cast : Bool
  pub place : Place

-- a statement without statements in it, which neither calls nor jumps within its function
pub data Simple : Type 0 where
  nothing : Simple
  eval : Expr → Simple
  assign : Scalar → Place → Expr → Simple
  clear : Place → (ty : ℕ) → Simple
  copy_aggregate : (to from : Place) → (ty : ℕ) → Simple
  copy_bytes : (to from : Expr) → (count : ℕ) → Simple
  fill : (to byte : Expr) → (count : ℕ) → Simple
  input : IntType → Option Dest → Simple
  output : IntType → Expr → Simple
  read_bytes : (to : Expr) → (count : ℕ) → Simple
  write_bytes : (from : Expr) → (count : ℕ) → Simple
  returns : Option Expr → Simple

mutual
  pub data What : Type 0 where
    simple : Simple → What
    call : (function : ℕ) → (arguments : List Expr) → Option Dest → What
    if_else : (test : Expr) (then otherwise : Stmts) → What
    -- the step part, `next`, is done after each turn
    loop : (tests_first : Bool) (test : Expr) (body next : Stmts) → What
    break_loop : What
    continue_loop : What
    -- on a machine of this order, and on every other
    by_order : Order → (then otherwise : Stmts) → What
    scope : (blocks : List ℕ) (body : Stmts) → What

  -- statements one after another, each at its line
  pub data Stmts : Type 0 where
    stop : Stmts
    more : (line : ℕ) → What → Stmts → Stmts

-- an object with a place of its own in memory, and the number of its type
pub record Block : Type 0 where
  pub size : ℕ
  pub ty : ℕ
  pub global : Bool

-- the first value of a part of a global block
pub record Init : Type 0 where
  pub block : ℕ
  pub offset : ℕ
  pub t : IntType
  pub value : ℤ

-- parameters and the result are blocks that hold a scalar
pub record Function : Type 0 where
  pub name : List ℕ
  pub line : ℕ
  pub params : List (ℕ × Scalar)
  pub result : Option (ℕ × Scalar)
  pub locals : List ℕ
  pub body : Stmts

-- callees come before callers
pub record Program : Type 0 where
  pub types : Table
  pub blocks : List Block
  pub init : List Init
  pub functions : List Function
  pub main : ℕ
