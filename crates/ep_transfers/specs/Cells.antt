-- The operations of the analysis on what is known of the cells of two memories.
use Rattle.std.specs.Prelude.{ℕ, Bool, true, false, ◌&&◌, List, [], map, None}
use Rattle.ep_int.specs.declared.types.Order.{Order}
use Rattle.ep_domain.specs.Domain.{Ops}
use Rattle.ep_cells.specs.declared.cell.Cell.{Cell}
use Rattle.ep_cells.specs.Both.{joined, widened, are_within}
use Rattle.ep_cells.specs.Reshare.{reshared}
use Rattle.ep_cells.specs.States.{Known}
use Rattle.ep_reads.specs.Unify.{unified}
use Rattle.ep_core.specs.Program.{Program}
use Rattle.ep_core.specs.Runs.{Side, left, right}
use Rattle.ep_equalities.specs.declared.pair.Mode.{Mode as PairMode}
use Rattle.ep_equalities.specs.declared.pair.Mode.TheVariants as pair_mode
use Rattle.ep_pass.specs.States.{Mode, Both, One, Transfer, Tested, stuck, StateOps}
use Rattle.ep_evaluation.specs.Given.{alone}
use Rattle.ep_evaluation.specs.Evaluation.{expression, tested, test_taken, test_taken_by, told}
use Rattle.ep_transfers.specs.Transfers.{Stepped, stepped, sizes, simple_step, entered}
use Rattle.ep_transfers.specs.Calls.{arguments_step, result_step}
use Rattle.ep_transfers.specs.Ends.{entry_known, ended_faults}
use Rattle.ep_cell_ranges.specs.Tests.{are_alike, is_model}
use Rattle.ep_transfers.specs.Guards.{is_state}

abbrev pub mode_of : Mode → PairMode
mode_of Both = pair_mode.Both
mode_of (One s) = alone s

abbrev pub told_of : {N : Type 0} → Ops N → Stepped N → Transfer (Known N)
told_of D s = record { faults = map (told D) s.faults; next = s.next }

-- Where what is known is told in another data model, nothing goes on.
abbrev pub when_known : {N : Type 0} → Bool → Stepped N → Stepped N
when_known true s = s
when_known false s = stepped [] None

abbrev pub test_when_known : Bool → Tested → Tested
test_when_known true t = t
test_when_known false t = record { faults = []; verdict = stuck }

module _ {N : Type 0} (D : Ops N) (p : Program) (ord : Side → Order) where
  -- it is told in the data model of the program
  abbrev pub is_told_so : Known N → Bool
  is_told_so k = is_model k.model p.types.model

  -- no cell at all: it holds of all memories
  abbrev pub empty_known : Known N
  empty_known = record { orders = (ord left, ord right); model = p.types.model; cells = [] }

  -- where it is told in another one, nothing is known
  abbrev pub known_or_empty : Bool → Known N → Known N
  known_or_empty true k = k
  known_or_empty false k = empty_known

  abbrev pub entered_or_left : Mode → List ℕ → Known N → Known N
  entered_or_left m bs k = known_or_empty (is_told_so k) (entered D p (mode_of m) bs k)

  -- ---- of two states: where they are none of this program, or have no cells alike, nothing is known

  abbrev pub are_states : Known N → Known N → Bool
  are_states k l = is_state p ord k && is_state p ord l

  abbrev pub fit_to_join : Known N → Known N → Bool
  fit_to_join k l = are_states k l && are_alike k.cells l.cells

  abbrev pub guarded : Bool → Known N → List (Cell N) → Known N
  guarded true k cs = record k { cells = cs }
  guarded false k cs = empty_known

  abbrev pub unified_pair : Bool → Known N → Known N → Known N × Known N
  unified_pair b k l = (guarded b k (unified D k l).0, guarded b l (unified D k l).1)

  abbrev pub unified_known : Known N → Known N → Known N × Known N
  unified_known k l = unified_pair (are_states k l) k l

  abbrev pub joined_known : Known N → Known N → Known N
  joined_known k l = guarded (fit_to_join k l) k (joined D k.cells l.cells)

  abbrev pub widened_known : Known N → Known N → Known N
  widened_known k l = guarded (fit_to_join k l) k (widened D k.cells l.cells)

  abbrev pub is_within : Known N → Known N → Bool
  is_within k l = are_states k l && are_within D k.cells l.cells

  abbrev pub reshared_known : Known N → Known N
  reshared_known k = record k { cells = reshared D k.cells }

  -- ---- the record

  abbrev pub cell_ops : StateOps (Known N)
  cell_ops = record {
    entry = entry_known D p ord;
    simple = λ m r w k. told_of D (when_known (is_told_so k) (simple_step D p (mode_of m) r w k));
    test = λ m e k.
        test_when_known (is_told_so k) (tested D (mode_of m) ((expression D (sizes D p) e).gives (mode_of m) k));
    assume = λ e t u k. test_taken D (expression D (sizes D p) e) t u k;
    assume_one = λ s e t k. test_taken_by D s (expression D (sizes D p) e) t k;
    arguments = λ m f es k. told_of D (when_known (is_told_so k) (arguments_step D p (mode_of m) f es k));
    result = λ m f d k. told_of D (when_known (is_told_so k) (result_step D p (mode_of m) f d k));
    enter = entered_or_left;
    leave = entered_or_left;
    unified = unified_known;
    joined = joined_known;
    widened = widened_known;
    leq = is_within;
    reshared = reshared_known;
    empty = empty_known;
    ended = λ f k. (told_of D (when_known (is_told_so k) (stepped (ended_faults D p f k) None))).faults;
  }
