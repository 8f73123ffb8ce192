-- What keeps good states of tame programs.
use Rattle.std.specs.Prelude.{◌≡◌, ℕ, ◌-◌, ◌<◌, Bool, true, false, List, length, sum_by}
use Rattle.ep_int.specs.declared.types.Order.{Order}
use Rattle.ep_domain.specs.Domain.{Ops}
use Rattle.ep_cells.specs.declared.cell.Cell.{Cell}
use Rattle.ep_cells.specs.Cells.{IsIn}
use Rattle.ep_cells.specs.Both.{widened, are_within}
use Rattle.ep_cells.specs.States.{Known, AreCells, HaveCellsAlike}
use Rattle.ep_reads.specs.Unify.{unified}
use Rattle.ep_core.specs.Program.{Expr, Block, Program}
use Rattle.ep_core.specs.Runs.{Side}
use Rattle.ep_core.specs.WellFormed.{is_tested}
use Rattle.ep_pass.specs.Turns.{last_head}
use Rattle.ep_evaluation.specs.Evaluation.{expression, test_taken}
use Rattle.ep_evaluation.specs.Laws.{sizes_of}
use Rattle.ep_evaluation.specs.Narrowed.{both}
use Rattle.ep_tame_laws.specs.Tamely.{IfReached}
use Rattle.ep_tame_cells.specs.Rank.{rank}
use Rattle.ep_tame_states.specs.States.{CellPoints, IsGood}

-- what both states say at a loop's head
abbrev pub widening_of : {N : Type 0} → Ops N → Known N → Known N → Known N
widening_of D k l = record k { cells = widened D (unified D k l).0 (unified D k l).1 }

pub record StateLaws {N : Type 0} (D : Ops N) (p : Program) (ord : Side → Order) : Type 0 where
  pub again : (h k : Known N) (live res : List ℕ) → IsGood D p ord h live res k → IsGood D p ord k live res k
  -- what has the places of a head has those of what the head has
  pub carried : (g h k : Known N) (live res : List ℕ) → IsGood D p ord g live res h → IsGood D p ord h live res k
      → IsGood D p ord g live res k
  -- other values in the same places
  pub alike : (h k : Known N) (live res : List ℕ) (cs : List (Cell N)) → IsGood D p ord h live res k
      → AreCells p.types.model cs → HaveCellsAlike k.cells cs
      → ((c : Cell N) → IsIn c cs → CellPoints D p live c)
      → IsGood D p ord h live res (record k { cells = cs })
  pub joined : (h k l : Known N) (live res : List ℕ) → IsGood D p ord h live res k → IsGood D p ord h live res l
      → IsGood D p ord h live res (both D k l)
  pub widened : (h k l : Known N) (live res : List ℕ) → IsGood D p ord h live res k → IsGood D p ord h live res l
      → IsGood D p ord h live res (widening_of D k l)
  -- the rank of a head falls as long as what comes round isn't within it
  pub falls : (g k l : Known N) (live res : List ℕ) → D.height < 4294967295 → IsGood D p ord g live res k
      → IsGood D p ord k live res l → are_within D (unified D k l).1 k.cells ≡ false
      → rank D (length p.blocks) (widening_of D k l).cells < rank D (length p.blocks) k.cells
  -- a truth that is assumed on one side, and on both
  pub assumed_alone : (seen : List ℕ) (e : Expr) → is_tested p.types p.blocks seen e ≡ true → (s : Side) (t : Bool)
      → (h k : Known N) (live res : List ℕ) → IsGood D p ord h live res k
      → IfReached (IsGood D p ord h live res) ((expression D (sizes_of p.blocks) e).assumes s t k)
  pub assumed : (seen : List ℕ) (e : Expr) → is_tested p.types p.blocks seen e ≡ true → (t u : Bool)
      → (h k : Known N) (live res : List ℕ) → IsGood D p ord h live res k
      → IfReached (IsGood D p ord h live res) (test_taken D (expression D (sizes_of p.blocks) e) t u k)
  -- and is below the number of the last head
  pub below : (h k : Known N) (live res : List ℕ) → 0 < sum_by (λ (x : Block). x.size) p.blocks
      → IsGood D p ord h live res k → rank D (length p.blocks) k.cells < last_head p D.height - 1
