-- Statements as they stand in a well-formed program: typed, in the function of a number, where some blocks can be
-- named.
use Rattle.std.specs.Prelude.{◌≡◌, ℕ, Bool, true, List, Some, slice_get}
use Rattle.ep_core.specs.Program.{What, Stmts, Function, Program}
use Rattle.ep_core.specs.WellFormed.{result_type, what_fits, stmts_fit}
use Rattle.ep_flows.specs.Typed.{IsTypedTest}
use Rattle.ep_walk_parts.specs.Pieces.{Loop, Followed, arms, turns, cut}

module _ (p : Program) (here : ℕ) where
  pub record IsTyped (w : What) : Type 0 where
    pub function : Function
    pub is_there : slice_get p.functions here ≡ Some function
    pub seen : List ℕ
    pub in_loop : Bool
    pub fits : what_fits p here (result_type p.blocks function.result) w seen in_loop ≡ true

  pub record AreTyped (ss : Stmts) : Type 0 where
    pub function : Function
    pub is_there : slice_get p.functions here ≡ Some function
    pub seen : List ℕ
    pub in_loop : Bool
    pub fits : stmts_fit p here (result_type p.blocks function.result) ss seen in_loop ≡ true

  pub record LoopIsTyped (l : Loop) : Type 0 where
    pub test : IsTypedTest p l.test
    pub body : AreTyped l.body
    pub next : AreTyped l.next

  -- what follows a test
  abbrev pub FollowIsTyped : Followed → Type 0
  FollowIsTyped (arms l a b) = AreTyped a × AreTyped b
  FollowIsTyped (turns l) = LoopIsTyped l
  FollowIsTyped (cut l) = Unit {0}
