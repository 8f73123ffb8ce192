-- The laws of statements that copy, as the record of laws asks them, of each lawful domain.
use Rattle.std.proofs.Common.{◌≡◌, ℕ, true, List, ◌++◌, None, refl}
use Rattle.ep_int.specs.declared.types.Order.{Order}
use Rattle.ep_int.specs.declared.types.Scalar.TheVariants.{Pointer}
use Rattle.ep_domain.specs.Domain.{Ops, Lawful}
use Rattle.ep_cells.specs.States.{Known}
use Rattle.ep_cells.specs.Meaning.{Memories}
use Rattle.ep_core.specs.Program.{Expr, copy_bytes, Program}
use Rattle.ep_core.specs.Exec.{value}
use Rattle.ep_core.specs.Runs.{Side}
use Rattle.ep_core.specs.WellFormed.{pointer_to, is_length, is_address, has_sort, blocks_fit}
use Rattle.ep_core.proofs.Operands.{sizes}
use Rattle.ep_core.proofs.Sorts.{three, pointer_where}
use Rattle.ep_reads.proofs.Splits.{of_splits}
use Rattle.ep_cell_ranges.proofs.Waits.{of_splits as of_more_splits}
use Rattle.ep_cell_ranges.proofs.Overwrites.{of_overwrites}
use Rattle.ep_cell_ranges.proofs.Replaces.{of_replaces}
use Rattle.ep_cell_ranges.proofs.Takes.{of_takes}
use Rattle.ep_cell_ranges.proofs.Moved.{of_moves}
use Rattle.ep_cell_ranges.proofs.Blurs.{of_blurs_each}
use Rattle.ep_evaluation.specs.Evaluation.{expression}
use Rattle.ep_evaluation.specs.Given.{alone}
use Rattle.ep_equalities.specs.declared.pair.Mode.{Mode}
use Rattle.ep_equalities.specs.declared.pair.Mode.TheVariants.{Both}
use Rattle.ep_evaluation.specs.Laws.{sizes_of, IsKept, ExpressionsHold, PlacesHold}
use Rattle.ep_evaluation.proofs.General.{none_left}
use Rattle.ep_evaluation.proofs.Gathered.{evaluation_laws}
use Rattle.ep_transfers.specs.Laws.{memories, CellLaws}
use Rattle.ep_transfers.specs.Statements.{Each, SimpleHolds}
use Rattle.ep_transfers.specs.Copying.{CopiesHold}
use Rattle.ep_transfers.proofs.Evaluated.{pair_of, kept_both, kept_beside, alike_beside, Evaluated}
use Rattle.ep_transfers.proofs.Stored.{expr_is}
use Rattle.ep_transfers.proofs.Whole.{simple_holds}
use Rattle.ep_transfers.proofs.Gathered.{cell_laws}
use Rattle.ep_transfers.proofs.Moved.{CopyLaws, bytes_many, bytes_together}
use Rattle.ep_transfers.proofs.CopyMeets.{copies_meet, copies_alone}
use Rattle.ep_transfers.proofs.Aggregates.{aggregates_hold}

module _ {N : Type 0} (D : Ops N) (laws : CellLaws D) (rules : CopyLaws D) (p : Program) (ord : Side → Order)
    (fit : blocks_fit p.types p.blocks ≡ true) (exprs : ExpressionsHold D p ord) (plcs : PlacesHold D p ord) where
  -- an address is that of an expression
  address_is : (seen : List ℕ) (e : Expr) → is_address p.types p.blocks seen e ≡ true → (k : Known N)
      (m : Memories) → IsKept D p ord k m → (mode : Mode)
      → Evaluated D p ord mode k m Pointer (λ i. value (ord i) p e)
      ((expression D (sizes_of p.blocks) e).gives mode k)
  address_is seen e h k m kept mode =
      let t = pointer_where p.types p.blocks seen (has_sort p.types p.blocks seen e) h in
      expr_is D laws p ord fit exprs plcs seen e (pointer_to t.0) t.1 Pointer refl k m kept mode

  bytes_hold : (a b : Expr) (n : ℕ) → SimpleHolds D p ord (copy_bytes a b n)
  bytes_hold a b n = simple_holds D p ord (copy_bytes a b n)
      (λ here f at seen h l i j k x y kept q.
      let m = memories x.memory y.memory in
      let c = kept_both D p ord k x y kept in
      let t = three (is_length n) (is_address p.types p.blocks seen a) (is_address p.types p.blocks seen b) h in
      let to = (expression D (sizes_of p.blocks) a).gives Both k in
      let from = (expression D (sizes_of p.blocks) b).gives Both k in
      let g = none_left (to.faults ++ from.faults) _ q in
      let s = none_left to.faults from.faults g.0 in
      copies_meet D laws.domain rules p ord fit None n tt (bytes_many D rules n) (bytes_together D rules n) k
      (λ i. value (ord i) p a) (λ i. value (ord i) p b) to from s.0 s.1 x y kept.stands c
      (address_is seen a t.1 k m c Both) (address_is seen b t.2 k m c Both) g.1 l i j)
      (λ s here f at seen h l i k x y kept q.
      let m = pair_of s x.memory y.memory in
      let c = kept_beside D p ord s k x y kept in
      let t = three (is_length n) (is_address p.types p.blocks seen a) (is_address p.types p.blocks seen b) h in
      let to = (expression D (sizes_of p.blocks) a).gives (alone s) k in
      let from = (expression D (sizes_of p.blocks) b).gives (alone s) k in
      let g = none_left (to.faults ++ from.faults) _ q in
      let e = none_left to.faults from.faults g.0 in
      copies_alone D laws.domain rules p ord fit None n tt (bytes_many D rules n) (bytes_together D rules n) k
      (λ i. value (ord i) p a) (λ i. value (ord i) p b) to from e.0 e.1 x y s
      (alike_beside D p ord s k x y kept) c (address_is seen a t.1 k m c (alone s))
      (address_is seen b t.2 k m c (alone s)) g.1 l i)

module _ {N : Type 0} (D : Ops N) (law : Lawful D) where
  copy_rules : CopyLaws D
  copy_rules = record {
    replaces = of_replaces D (of_splits D law) (of_more_splits D law) (of_overwrites D);
    takes = of_takes D law;
    moves = of_moves D;
    blurs = of_blurs_each D law;
  }

  pub each_copy : Each (CopiesHold D)
  each_copy p ord formed = record {
    copy_bytes_holds = λ a b n. bytes_hold D (cell_laws D law) copy_rules p ord (sizes p formed)
        ((evaluation_laws D law).expressions p ord) ((evaluation_laws D law).places p ord) a b n;
    copy_aggregate_holds = λ a b ty. aggregates_hold D (cell_laws D law) copy_rules p ord (sizes p formed)
        ((evaluation_laws D law).expressions p ord) ((evaluation_laws D law).places p ord) a b ty;
  }
