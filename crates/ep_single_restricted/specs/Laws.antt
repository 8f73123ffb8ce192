-- What a machine does where its memory is undefined outside of all blocks (C11 6.5.3.2p4, 6.5.6p8).
use Rattle.std.specs.Prelude.{◌≡◌, ℕ, List, Option}
use Rattle.ep_int.specs.declared.types.Order.{Order}
use Rattle.ep_int.specs.declared.types.Scalar.{Scalar}
use Rattle.ep_int.specs.Memory.{Memory, killed}
use Rattle.ep_core.specs.Program.{Expr, Dest, Simple, Function, Program}
use Rattle.ep_core.specs.Exec.{State, Counting, value, does, received}
use Rattle.ep_core.specs.Runs.{main_ends}
use Rattle.ep_pass.specs.Laws.{passes}
use Rattle.ep_single_restricted.specs.Restricted.{restricted, restricted_state, restricted_outcome}

-- It finds the same values, does the same, and then has the memory after it, undefined outside of all blocks.
pub record IsRestricted (o : Order) (p : Program) : Type 0 where
  pub values : (e : Expr) (m : Memory) → value o p e (restricted p m) ≡ value o p e m
  pub statements : (c : Counting) (result : Option (ℕ × Scalar)) (w : Simple) (l n : ℕ) (s : State)
      → does o p c result w l n (restricted_state p s) ≡ restricted_outcome p (does o p c result w l n s)
  pub arguments : (f : Function) (es : List Expr) (l n : ℕ) (s : State)
      → passes o p f es l n (restricted_state p s) ≡ restricted_outcome p (passes o p f es l n s)
  pub results : (result : Option (ℕ × Scalar)) (d : Option Dest) (l n : ℕ) (s : State)
      → received o p result d l n (restricted_state p s) ≡ restricted_outcome p (received o p result d l n s)
  pub ends : (result : Option (ℕ × Scalar)) (l : ℕ) (s : State)
      → main_ends o p result l (restricted_state p s) ≡ main_ends o p result l s
  pub blocks : (bs : List ℕ) (m : Memory) → restricted p (killed bs m) ≡ killed bs (restricted p m)

abbrev pub RunsAreRestricted : Type 0
RunsAreRestricted = (o : Order) (p : Program) → IsRestricted o p
