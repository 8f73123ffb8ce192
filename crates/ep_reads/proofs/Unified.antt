-- Unification: each of two states keeps what it says, and both have cells of the same sides, places and types.
use Rattle.std.proofs.Common.{◌+◌, length, List}
use Rattle.ep_domain.specs.Domain.{Ops, Lawful}
use Rattle.ep_cells.specs.declared.cell.Cell.{Cell}
use Rattle.ep_cells.specs.Reshare.{reshared}
use Rattle.ep_cells.specs.States.{Known, AreCells}
use Rattle.ep_cells.proofs.Reshare.{reshared_goes_on}
use Rattle.ep_reads.specs.Unify.{parted_both, uncrossed_both, had_both, unified}
use Rattle.ep_reads.specs.SplitLaws.{UnifyLaws}
use Rattle.ep_reads.proofs.Same.{Keeps}
use Rattle.ep_reads.proofs.Parted.{BothKeep, both_trans, times_keep}
use Rattle.ep_reads.proofs.Crossed.{uncrossed_keeps}
use Rattle.ep_reads.proofs.Lacks.{lack_keeps, had_alike}

reshared_keeps : {N : Type 0} (D : Ops N) → Lawful D → (k : Known N) (cs : List (Cell N)) → AreCells k.model cs
    → Keeps D k cs (reshared D cs)
reshared_keeps D law k cs a =
    let g = reshared_goes_on D law k.model cs a in
    record { cells = g.cells; holds = λ m i. g.holds k.orders m i }

-- the two states before those that each lacks are gone
uncrossed_keep : {N : Type 0} (D : Ops N) → Lawful D → (k : Known N) (ys : List (Cell N)) → AreCells k.model k.cells
    → AreCells k.model ys
    → BothKeep D k (k.cells, ys) (uncrossed_both D k (parted_both k.model (reshared D k.cells, reshared D ys)))
uncrossed_keep {N = N} D law k ys a b =
    let p : List (Cell N) × List (Cell N) = (k.cells, ys) in
    let q : List (Cell N) × List (Cell N) = (reshared D k.cells, reshared D ys) in
    let l = reshared_keeps D law k k.cells a in
    let r = reshared_keeps D law k ys b in
    let t = times_keep D k (length (reshared D k.cells) + length (reshared D ys)) q l.cells r.cells in
    let u = parted_both k.model q in
    let v : BothKeep D k u (uncrossed_both D k u) = record {
      left = uncrossed_keeps D law k u.1 u.0 t.left.cells;
      right = uncrossed_keeps D law k u.0 u.1 t.right.cells;
    } in
    both_trans D k p u (uncrossed_both D k u) (both_trans D k p q u (record { left = l; right = r }) t) v

pub of_unification : {N : Type 0} (D : Ops N) → Lawful D → UnifyLaws D
of_unification {N = N} D law =
    let both : (k : Known N) (ys : List (Cell N)) → AreCells k.model k.cells → AreCells k.model ys → BothKeep D k (
      k.cells,
      ys,
    ) (unified D k (record k { cells = ys })) = λ k ys a b.
    let p : List (Cell N) × List (Cell N) = (k.cells, ys) in
    let u = uncrossed_both D k (parted_both k.model (reshared D k.cells, reshared D ys)) in
    let c = uncrossed_keep D law k ys a b in
    both_trans D k p u (had_both u) c (record {
      left = lack_keeps D k u.1 u.0 c.left.cells;
      right = lack_keeps D k u.0 u.1 c.right.cells;
    }) in
    record {
      left_cells = λ k ys a b. (both k ys a b).left.cells;
      right_cells = λ k ys a b. (both k ys a b).right.cells;
      alike = λ k ys a b.
          let u = uncrossed_both D k (parted_both k.model (reshared D k.cells, reshared D ys)) in
          let c = uncrossed_keep D law k ys a b in
          had_alike k.model u.0 u.1 c.left.cells c.right.cells;
      left_holds = λ k ys a b. (both k ys a b).left.holds;
      right_holds = λ k ys a b. (both k ys a b).right.holds;
    }
