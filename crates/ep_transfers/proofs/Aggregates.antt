-- Assignments of aggregates: without a fault each running machine copies, and what is known after it stands for the
-- machines after it.
use Rattle.std.proofs.Common.{◌≡◌, ℕ, true, ◌++◌, Some, is_some, unwrap_or}
use Rattle.ep_int.specs.declared.types.Order.{Order}
use Rattle.ep_layout.specs.Table as table
use Rattle.ep_layout.proofs.Ordered.{leaves_ordered}
use Rattle.ep_domain.specs.Domain.{Ops}
use Rattle.ep_core.specs.Program.{Place, copy_aggregate, Program}
use Rattle.ep_core.specs.Exec.{address}
use Rattle.ep_core.specs.Runs.{Side}
use Rattle.ep_core.specs.WellFormed.{place_has, blocks_fit}
use Rattle.ep_core.proofs.Sorts.{three}
use Rattle.ep_evaluation.specs.Evaluation.{place as place_means}
use Rattle.ep_evaluation.specs.Given.{alone}
use Rattle.ep_equalities.specs.declared.pair.Mode.TheVariants.{Both}
use Rattle.ep_evaluation.specs.Laws.{sizes_of, ExpressionsHold, PlacesHold}
use Rattle.ep_evaluation.proofs.General.{none_left}
use Rattle.ep_transfers.specs.Copies.{Leaves}
use Rattle.ep_transfers.specs.Laws.{memories, CellLaws}
use Rattle.ep_transfers.specs.Statements.{SimpleHolds}
use Rattle.ep_transfers.proofs.Evaluated.{pair_of, kept_both, kept_beside, alike_beside}
use Rattle.ep_transfers.proofs.Stored.{place_is}
use Rattle.ep_transfers.proofs.Whole.{simple_holds}
use Rattle.ep_transfers.proofs.Kills.{leaves_rise}
use Rattle.ep_transfers.proofs.Moved.{LeavesFit, CopyLaws}
use Rattle.ep_transfers.proofs.CopyMeets.{copies_meet, copies_alone}
use Rattle.ep_transfers.proofs.AggregateSide.{leaves_many}
use Rattle.ep_transfers.proofs.PairGoes.{leaves_together}

module _ {N : Type 0} (D : Ops N) (laws : CellLaws D) (rules : CopyLaws D) (p : Program) (ord : Side → Order)
    (fit : blocks_fit p.types p.blocks ≡ true) (exprs : ExpressionsHold D p ord) (plcs : PlacesHold D p ord) where
  abbrev bytes_in : ℕ → ℕ
  bytes_in ty = unwrap_or (table.size p.types ty) 0

  abbrev leaves_in : ℕ → Leaves
  leaves_in ty = Some (table.leaves p.types ty)

  leaves_lie : (ty : ℕ) → LeavesFit (leaves_in ty) (bytes_in ty) p.types.model
  leaves_lie ty = leaves_rise p.types.model 0 (bytes_in ty) (table.leaves p.types ty) (leaves_ordered p.types ty)

  pub aggregates_hold : (a b : Place) (ty : ℕ) → SimpleHolds D p ord (copy_aggregate a b ty)
  aggregates_hold a b ty = simple_holds D p ord (copy_aggregate a b ty)
      (λ here f at seen h l i j k x y kept q.
      let m = memories x.memory y.memory in
      let c = kept_both D p ord k x y kept in
      let t = three (place_has p.types p.blocks seen a ty) (place_has p.types p.blocks seen b ty)
      (is_some (table.size p.types ty)) h in
      let to = place_means D (sizes_of p.blocks) a Both k in
      let from = place_means D (sizes_of p.blocks) b Both k in
      let g = none_left (to.faults ++ from.faults) _ q in
      let s = none_left to.faults from.faults g.0 in
      copies_meet D laws.domain rules p ord fit (leaves_in ty) (bytes_in ty) (leaves_lie ty)
      (leaves_many D laws rules (table.leaves p.types ty) (bytes_in ty))
      (leaves_together D laws rules (table.leaves p.types ty) (bytes_in ty)) k
      (λ i. address (ord i) p a) (λ i. address (ord i) p b) to from s.0 s.1 x y kept.stands c
      (place_is D laws p ord fit exprs plcs seen a ty t.0 k m c Both)
      (place_is D laws p ord fit exprs plcs seen b ty t.1 k m c Both) g.1 l i j)
      (λ s here f at seen h l i k x y kept q.
      let m = pair_of s x.memory y.memory in
      let c = kept_beside D p ord s k x y kept in
      let t = three (place_has p.types p.blocks seen a ty) (place_has p.types p.blocks seen b ty)
      (is_some (table.size p.types ty)) h in
      let to = place_means D (sizes_of p.blocks) a (alone s) k in
      let from = place_means D (sizes_of p.blocks) b (alone s) k in
      let g = none_left (to.faults ++ from.faults) _ q in
      let e = none_left to.faults from.faults g.0 in
      copies_alone D laws.domain rules p ord fit (leaves_in ty) (bytes_in ty) (leaves_lie ty)
      (leaves_many D laws rules (table.leaves p.types ty) (bytes_in ty))
      (leaves_together D laws rules (table.leaves p.types ty) (bytes_in ty)) k
      (λ i. address (ord i) p a) (λ i. address (ord i) p b) to from e.0 e.1 x y s
      (alike_beside D p ord s k x y kept) c
      (place_is D laws p ord fit exprs plcs seen a ty t.0 k m c (alone s))
      (place_is D laws p ord fit exprs plcs seen b ty t.1 k m c (alone s)) g.1 l i)
