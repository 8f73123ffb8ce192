-- What the operations on cells keep of good states of tame programs: tests, states that come together, heads of loops,
-- and blocks that come and go.
use Rattle.std.specs.Prelude.{◌≡◌, ℕ, ◌-◌, ◌<◌, Bool, true, false, List, ◌++◌, length, slice_get, Some}
use Rattle.ep_int.specs.declared.types.Order.{Order}
use Rattle.ep_domain.specs.Domain.{Ops}
use Rattle.ep_cells.specs.States.{Known}
use Rattle.ep_core.specs.Program.{Expr, Simple, nothing, eval, output, Function, Program}
use Rattle.ep_core.specs.Runs.{Side}
use Rattle.ep_core.specs.WellFormed.{result_type, is_tested, simple_fits}
use Rattle.ep_pass.specs.Honest.{AreOf}
use Rattle.ep_pass.specs.States.{Both, StateOps}
use Rattle.ep_pass.specs.Turns.{last_head}
use Rattle.ep_transfers.specs.Cells.{cell_ops}
use Rattle.ep_kinds.specs.Tame.{is_tame_expr, is_tame_simple}
use Rattle.ep_tame_laws.specs.Tamely.{is_undefined, IfReached, AreAmong, HaveNoResult, IsAlike, TransferIsGood}
use Rattle.ep_tame_cells.specs.Rank.{rank}
use Rattle.ep_tame_states.specs.States.{IsGood}

-- a statement that changes no memory
abbrev pub is_still : Simple → Bool
is_still nothing = true
is_still (eval e) = true
is_still (output t e) = true
is_still w = false

module _ {N : Type 0} (D : Ops N) (p : Program) (ord : Side → Order) where
  abbrev pub ops : StateOps (Known N)
  ops = cell_ops D p ord

  abbrev pub rank_of : Known N → ℕ
  rank_of k = rank D (length p.blocks) k.cells

  abbrev pub Good : Known N → (live res : List ℕ) → Known N → Type 0
  Good h live res k = IsGood D p ord h live res k

  pub record OpsKeepGood : Type 0 where
    pub again : (h s : Known N) (live res : List ℕ) → Good h live res s → Good s live res s
    pub still : (here : ℕ) (f : Function) → slice_get p.functions here ≡ Some f → (w : Simple) → is_still w ≡ true
        → (seen : List ℕ) → simple_fits p here (result_type p.blocks f.result) w seen ≡ true
        → is_tame_simple p.types w ≡ true → (h s : Known N) (live res : List ℕ) → AreAmong seen live
        → Good h live res s → TransferIsGood (Good h live res) (ops.simple Both f.result w s)
    pub test : (e : Expr) (seen : List ℕ) → is_tested p.types p.blocks seen e ≡ true → is_tame_expr p.types e ≡ true
        → (h s : Known N) (live res : List ℕ) → AreAmong seen live → Good h live res s
        → AreOf is_undefined (ops.test Both e s).faults × IsAlike (ops.test Both e s).verdict
    pub assume : (e : Expr) (seen : List ℕ) → is_tested p.types p.blocks seen e ≡ true → (t : Bool)
        → (h s : Known N) (live res : List ℕ) → Good h live res s → IfReached (Good h live res) (ops.assume e t t s)
    pub enter : (bs : List ℕ) → HaveNoResult p bs → (h s : Known N) (live res : List ℕ) → Good h live res s
        → Good h (bs ++ live) res (ops.enter Both bs s)
    pub leave : (bs : List ℕ) (h s : Known N) (live res : List ℕ) → Good h (bs ++ live) res s
        → Good h live res (ops.leave Both bs s)
    pub joined : (h s t : Known N) (live res : List ℕ) → Good h live res s → Good h live res t
        → Good h live res (ops.joined (ops.unified s t).0 (ops.unified s t).1)
    pub reshared : (h s : Known N) (live res : List ℕ) → Good h live res s → Good h live res (ops.reshared s)
    -- a head comes to rest
    pub below : (h s : Known N) (live res : List ℕ) → Good h live res s → rank_of s < last_head p D.height - 1
    pub next : (g h t : Known N) (live res : List ℕ) → Good g live res h → Good h live res t
        → ops.leq (ops.unified h t).1 h ≡ false
        → Good g live res (ops.reshared (ops.widened (ops.unified h t).0 (ops.unified h t).1))
        × (rank_of (ops.reshared (ops.widened (ops.unified h t).0 (ops.unified h t).1)) < rank_of h)
