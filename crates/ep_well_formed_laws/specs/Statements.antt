-- Statements are as their types say, among the functions that were declared; what they call need not have a body yet.
use Rattle.std.specs.Prelude.{◌≡◌, ℕ, Bool, true, false, List, [], ◌∷◌, ◌++◌, slice_get, option_to_list, Option, Some}
use Rattle.std.specs.Prelude.{None}
use Rattle.std.specs.List.{list_all}
use Rattle.ep_core.specs.Exec.{frame_of}
use Rattle.ep_layout.specs.Table.{Table}
use Rattle.ep_core.specs.Program as core
use Rattle.ep_core.specs.WellFormed.{are_plain, has_type, holds_scalar, is_tested, result_type, simple_fits}
use Rattle.ep_core.specs.WellFormed.{takes_result}
use Rattle.ep_typing.specs.declared.types.CType.{CType}
use Rattle.ep_typing.specs.Types.{is_scalar, is_void}
use Rattle.ep_typing.specs.Env.{Signature}
use Rattle.ep_well_formed_laws.specs.Numbers.{type_number}

-- a program of these types and blocks alone
abbrev pub around : Table → List core.Block → core.Program
around t bs = record { types = t; blocks = bs; init = []; functions = []; main = 0 }

-- A result of a type has a block, whose type has this number; one of void has none.
pub data IsResultOf (t : Table) (c : CType) (result : Option ℕ) : Type 0 where
  no_result : is_void c ≡ true → result ≡ None → IsResultOf t c result
  a_result : (n : ℕ) → is_scalar c ≡ true → type_number t c ≡ Some n → result ≡ Some n → IsResultOf t c result

-- among these types, blocks and functions, in a function whose result has a type of this number
module _ (t : Table) (bs : List core.Block) (fs : List Signature) (result : Option ℕ) where
  abbrev pub ArgumentsFit : List CType → List core.Expr → (seen : List ℕ) → Type 0
  ArgumentsFit [] [] seen = Unit {0}
  ArgumentsFit [] (e ∷ es) seen = ⊥
  ArgumentsFit (c ∷ cs) [] seen = ⊥
  ArgumentsFit (c ∷ cs) (e ∷ es) seen =
      ((n : ℕ) × (type_number t c ≡ Some n) × (has_type t bs seen e n ≡ true)) × ArgumentsFit cs es seen

  -- a place takes what has this type
  abbrev pub TakesResult : CType → Option core.Dest → (seen : List ℕ) → Type 0
  TakesResult r None seen = Unit {0}
  TakesResult r (Some d) seen =
      (n : ℕ) × (type_number t r ≡ Some n) × (takes_result t bs seen (Some n) (Some d) ≡ true)

  pub record CallFits (k : ℕ) (es : List core.Expr) (d : Option core.Dest) (seen : List ℕ) : Type 0 where
    pub callee : Signature
    pub is : slice_get fs k ≡ Some callee
    pub arguments : ArgumentsFit callee.params es seen
    pub takes : TakesResult callee.result d seen

  abbrev pub SimpleFits : core.Simple → (seen : List ℕ) → Type 0
  SimpleFits w seen = simple_fits (around t bs) 0 result w seen ≡ true

  abbrev mutual
    pub WhatFits : core.What → (seen : List ℕ) → (in_loop : Bool) → Type 0
    WhatFits (core.simple w) seen i = SimpleFits w seen
    WhatFits (core.call k es d) seen i = CallFits k es d seen
    WhatFits (core.if_else e a b) seen i =
        (is_tested t bs seen e ≡ true) × StmtsFit a seen i × StmtsFit b seen i
    WhatFits (core.loop first e a b) seen i =
        (is_tested t bs seen e ≡ true) × StmtsFit a seen true × (are_plain b ≡ true) × StmtsFit b seen i
    WhatFits core.break_loop seen i = i ≡ true
    WhatFits core.continue_loop seen i = i ≡ true
    WhatFits (core.by_order o a b) seen i = StmtsFit a seen i × StmtsFit b seen i
    WhatFits (core.scope own a) seen i = StmtsFit a (own ++ seen) i

    pub StmtsFit : core.Stmts → (seen : List ℕ) → (in_loop : Bool) → Type 0
    StmtsFit core.stop seen i = Unit {0}
    StmtsFit (core.more l w rest) seen i = WhatFits w seen i × StmtsFit rest seen i

-- a function's parameters and result have blocks of their types, and its body fits where they can be named
pub record IsDefined (t : Table) (bs : List core.Block) (fs : List Signature) (f : core.Function) : Type 0 where
  pub params : list_all (holds_scalar t bs) f.params ≡ true
  pub result : list_all (holds_scalar t bs) (option_to_list f.result) ≡ true
  pub body : StmtsFit t bs fs (result_type bs f.result) f.body (frame_of f) false
