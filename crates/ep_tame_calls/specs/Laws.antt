-- What the operations on cells keep of good states of tame programs where functions are called.
use Rattle.std.specs.Prelude.{◌≡◌, ℕ, true, List, ◌++◌, Option, Some, slice_get}
use Rattle.std.specs.List.{list_all}
use Rattle.ep_int.specs.declared.types.Order.{Order}
use Rattle.ep_domain.specs.Domain.{Ops}
use Rattle.ep_cells.specs.States.{Known}
use Rattle.ep_core.specs.Program.{Expr, Dest, Function, Program}
use Rattle.ep_core.specs.Exec.{frame_of}
use Rattle.ep_core.specs.Runs.{Side}
use Rattle.ep_core.specs.WellFormed.{result_type, arguments_fit, takes_result}
use Rattle.ep_pass.specs.States.{Both}
use Rattle.ep_kinds.specs.Tame.{is_tame_expr, is_tame_dest}
use Rattle.ep_tame_laws.specs.Tamely.{AreAmong, result_block, HaveNoResult, TransferIsGood}
use Rattle.ep_tame_ops.specs.Laws.{ops, Good}

pub record CallsKeepGood {N : Type 0} (D : Ops N) (p : Program) (ord : Side → Order) : Type 0 where
  -- the frame and result of a function before main come
  pub arguments : (k : ℕ) (f : Function) → slice_get p.functions k ≡ Some f → (es : List Expr) (seen : List ℕ)
      → arguments_fit p.types p.blocks seen f.params es ≡ true → list_all (is_tame_expr p.types) es ≡ true
      → HaveNoResult p (frame_of f) → HaveNoResult p (result_block f)
      → (h s : Known N) (live res : List ℕ) → AreAmong seen live → Good D p ord h live res s
      → TransferIsGood (Good D p ord h (frame_of f ++ live) (result_block f ++ res))
      ((ops D p ord).arguments Both f es s)
  -- its result goes
  pub result : (k : ℕ) (f : Function) → slice_get p.functions k ≡ Some f → (d : Option Dest) (seen : List ℕ)
      → takes_result p.types p.blocks seen (result_type p.blocks f.result) d ≡ true → is_tame_dest p.types d ≡ true
      → (h s : Known N) (live res : List ℕ) → AreAmong seen live → Good D p ord h live (result_block f ++ res) s
      → TransferIsGood (Good D p ord h live res) ((ops D p ord).result Both f d s)
