-- Assignments of structs and unions that have bytes.
use Rattle.std.proofs.Common.{◌≡◌, ℕ, ◌<◌, true, false, List, ◌++◌, Option, Some, is_some}
use Rattle.ep_int.specs.declared.types.Order.{Order}
use Rattle.ep_int.specs.declared.types.Scalar.{Scalar}
use Rattle.ep_int.specs.declared.types.Scalar.TheVariants.{Pointer}
use Rattle.ep_int.specs.Memory.{Memory, pointer as into_block}
use Rattle.ep_layout.specs.Table as table
use Rattle.ep_domain.specs.Domain.{Ops, Lawful}
use Rattle.ep_cells.specs.States.{Known}
use Rattle.ep_cells.specs.Meaning.{Memories}
use Rattle.ep_cell_ranges.specs.Spots.{Spot}
use Rattle.ep_core.specs.Program.{Place, copy_aggregate, Program}
use Rattle.ep_core.specs.Exec.{on, uncounted, address, does}
use Rattle.ep_core.specs.Runs.{Side, left, right}
use Rattle.ep_core.specs.WellFormed.{place_has, blocks_fit}
use Rattle.ep_core.proofs.Operands.{sizes}
use Rattle.ep_core.proofs.Sorts.{three}
use Rattle.ep_equalities.specs.declared.pair.Mode.{Mode}
use Rattle.ep_equalities.specs.declared.pair.Mode.TheVariants.{Both}
use Rattle.ep_evaluation.specs.Given.{Given, alone, runs}
use Rattle.ep_evaluation.specs.Evaluation.{place}
use Rattle.ep_evaluation.specs.Laws.{Machine, memory_of, sizes_of, ExpressionsHold, PlacesHold}
use Rattle.ep_evaluation.proofs.Gathered.{evaluation_laws}
use Rattle.ep_transfers.specs.Copies.{Leaves}
use Rattle.ep_transfers.specs.Runs.{bytes_of}
use Rattle.ep_transfers.specs.Transfers.{copy, simple_step}
use Rattle.ep_transfers.specs.Laws.{memories}
use Rattle.ep_transfers.proofs.Evaluated.{pair_of, Evaluated}
use Rattle.ep_transfers.proofs.Gathered.{cell_laws}
use Rattle.ep_transfers.proofs.RunSteps.{spot_on}
use Rattle.ep_transfers.proofs.Stored.{place_is}
use Rattle.ep_singles.specs.Numbers.{KeepsSingles}
use Rattle.ep_single_narrowed.specs.Laws.{IsKeptOne}
use Rattle.ep_single_given.specs.Laws.{IsOneGiven}
use Rattle.ep_single_given.proofs.Given.{no_faults}
use Rattle.ep_single_runs.proofs.Steps.{if_more, both_by, kept_one, kept_beside, StepIsExact, after_exact, exact_both}
use Rattle.ep_single_runs.proofs.Steps.{exact_beside}
use Rattle.ep_single_values.specs.Laws.{PlacesAreOne}
use Rattle.ep_single_values.specs.Statements.{StatementIsExact}
use Rattle.ep_single_assigned.proofs.Machines.{running_so, still_so}
use Rattle.ep_single_clears.proofs.Running.{both_run}
use Rattle.ep_single_copies.specs.Laws.{CopiesAreExact}
use Rattle.ep_single_copies.proofs.Copies.{IsCopied, Copies, copies_so, copy_exact}

module _ {N : Type 0} (D : Ops N) (law : Lawful D) (keeps : KeepsSingles D) (p : Program) (ord : Side → Order)
    (fit : blocks_fit p.types p.blocks ≡ true) (exprs : ExpressionsHold D p ord) (plcs : PlacesHold D p ord)
    (places : PlacesAreOne D p ord) (a b : Place) (ty : ℕ) (some : 0 < bytes_of p ty) where
  abbrev n : ℕ
  n = bytes_of p ty

  abbrev ls : Leaves
  ls = Some (table.leaves p.types ty)

  abbrev f : Side → Machine
  f s = address (ord s) p a

  abbrev g : Side → Machine
  g s = address (ord s) p b

  -- a machine copies so
  abbrev CopiesSo : (at by : Spot) → Side → Memory → Memory → Type 0
  CopiesSo at by s m o = IsCopied (ord s) p true n (address (ord s) p a m) (address (ord s) p b m) at by m o

  module _ (seen : List ℕ) (there : place_has p.types p.blocks seen a ty ≡ true)
      (from_there : place_has p.types p.blocks seen b ty ≡ true) (mode : Mode) (k : Known N) (m o : Memories)
      (c : IsKeptOne D p ord k m) (at by : Side → Spot)
      (all : (s : Side) → runs mode s ≡ true → CopiesSo (at s) (by s) s (memory_of s m) (memory_of s o))
      (still : (s : Side) → runs mode s ≡ false → memory_of s o ≡ memory_of s m) where
    abbrev to : Given N
    to = place D (sizes_of p.blocks) a mode k

    abbrev from : Given N
    from = place D (sizes_of p.blocks) b mode k

    sound_to : Evaluated D p ord mode k m Pointer f to
    sound_to = place_is D (cell_laws D law) p ord fit exprs plcs seen a ty there k m c.kept mode

    sound_from : Evaluated D p ord mode k m Pointer g from
    sound_from = place_is D (cell_laws D law) p ord fit exprs plcs seen b ty from_there k m c.kept mode

    one_to : IsOneGiven D mode to
    one_to = places keeps fit seen a ty there k m c mode (λ s r. (into_block (at s).0 (at s).1, (all s r).address))

    one_from : IsOneGiven D mode from
    one_from = places keeps fit seen b ty from_there k m c mode (λ s r. (into_block (by s).0 (by s).1, (all s r).source))

    pub copy_step : (r : Option (ℕ × Scalar)) → StepIsExact D p ord (simple_step D p mode r (copy_aggregate a b ty) k) o
    copy_step r =
        after_exact D p ord (to.faults ++ from.faults) (copy D (sizes_of p.blocks) mode n ls to.pair from.pair k) o
        (no_faults to.faults from.faults one_to.quiet one_from.quiet)
        (copy_exact D law p ord fit ls n some k m o c f g at by mode to from sound_to.holds sound_from.holds one_to
        one_from all still)

  pub copy_is : StatementIsExact D p ord (copy_aggregate a b ty)
  copy_is = record {
    alone = λ i here h at seen fits quiet l n s x y c.
        (let t = three (place_has p.types p.blocks seen a ty) (place_has p.types p.blocks seen b ty)
        (is_some (table.size p.types ty)) fits in
        let k = kept_beside D p ord i s x y c in
        if_more on
        (λ z. Copies (ord i) p true (bytes_of p ty) (address (ord i) p a x.memory) (address (ord i) p b x.memory)
        x.memory z.memory) _
        (does (ord i) p uncounted h.result (copy_aggregate a b ty) l n x)
        (λ z e. exact_beside D p ord i s (simple_step D p (alone i) h.result (copy_aggregate a b ty) s) z.memory
        y.memory k.kept.state
        (copy_step seen t.0 t.1 (alone i) s (pair_of i x.memory y.memory) (pair_of i z.memory y.memory) k
        (λ s. e.target) (λ s. e.origin)
        (running_so (CopiesSo e.target e.origin) x.memory z.memory y.memory i e.at)
        (still_so (CopiesSo e.target e.origin) x.memory z.memory y.memory i) h.result))
        (copies_so (ord i) p true (bytes_of p ty) l n x (address (ord i) p a x.memory) (address (ord i) p b x.memory)));
    both = λ here h at seen fits quiet l n j s x y c.
        (let t = three (place_has p.types p.blocks seen a ty) (place_has p.types p.blocks seen b ty)
        (is_some (table.size p.types ty)) fits in
        let k = kept_one D p ord s x y c in
        both_by on
        (λ z. Copies (ord left) p true (bytes_of p ty) (address (ord left) p a x.memory)
        (address (ord left) p b x.memory) x.memory z.memory)
        (λ z. Copies (ord right) p true (bytes_of p ty) (address (ord right) p a y.memory)
        (address (ord right) p b y.memory) y.memory z.memory) _
        (does (ord left) p uncounted h.result (copy_aggregate a b ty) l n x)
        (does (ord right) p uncounted h.result (copy_aggregate a b ty) l j y)
        (λ z w e u o. exact_both D p ord s (simple_step D p Both h.result (copy_aggregate a b ty) s) z.memory w.memory
        k.kept.state
        (copy_step seen t.0 t.1 Both s (memories x.memory y.memory) (memories z.memory w.memory) k
        (spot_on e.target u.target) (spot_on e.origin u.origin)
        (λ i r. both_run (λ i. CopiesSo (spot_on e.target u.target i) (spot_on e.origin u.origin i) i)
        (memories x.memory y.memory) (memories z.memory w.memory) e.at u.at i)
        (λ i r. absurd (let d : true ≡ false = r in cc)) h.result))
        (copies_so (ord left) p true (bytes_of p ty) l n x (address (ord left) p a x.memory)
        (address (ord left) p b x.memory))
        (copies_so (ord right) p true (bytes_of p ty) l j y (address (ord right) p a y.memory)
        (address (ord right) p b y.memory)));
  }

pub copies_are_exact : {N : Type 0} (D : Ops N) → Lawful D → CopiesAreExact D
copies_are_exact D law keeps p ord formed places a b ty some =
    copy_is D law keeps p ord (sizes p formed) ((evaluation_laws D law).expressions p ord)
    ((evaluation_laws D law).places p ord) places a b ty some
