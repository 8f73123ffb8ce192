-- The laws, gathered.
use Rattle.ep_domain.specs.Domain.{Ops, Lawful}
use Rattle.ep_cells.specs.Laws.{WriteLaws, JoinLaws, InclusionLaws, WeakWriteLaws, KillLaws, ReshareLaws}
use Rattle.ep_cells.proofs.Write.{write_cells, write_holds}
use Rattle.ep_cells.proofs.Weaken.{weak_cells, weak_holds}
use Rattle.ep_cells.proofs.Kill.{kill_cells, kill_holds}
use Rattle.ep_cells.proofs.Reshare.{reshared_goes_on}
use Rattle.ep_cells.proofs.Both.{join_unites, widen_unites, both_cells, both_left, both_right, within_in}

pub of_writes : {N : Type 0} (D : Ops N) → WriteLaws D
of_writes D = record {
  cells = write_cells;
  holds = λ k c a w r m n i t s. write_holds D k.orders k.model m n c k.cells a w r i t s.cell s.form;
}

pub of_joins : {N : Type 0} (D : Ops N) → Lawful D → JoinLaws D
of_joins D law =
    let j = join_unites D law in
    let w = widen_unites D law in
    record {
      join_cells = both_cells D D.join j;
      join_holds = λ k ys p q a. record {
        left = λ m i. both_left D D.join j k.orders k.model m k.cells ys p q a i;
        right = λ m i. both_right D D.join j k.orders k.model m k.cells ys p q a i;
      };
      widen_cells = both_cells D D.widen w;
      widen_holds = λ k ys p q a. record {
        left = λ m i. both_left D D.widen w k.orders k.model m k.cells ys p q a i;
        right = λ m i. both_right D D.widen w k.orders k.model m k.cells ys p q a i;
      };
    }

pub of_inclusion : {N : Type 0} (D : Ops N) → Lawful D → InclusionLaws D
of_inclusion D law = record {
  within_holds = λ k ys p h m i. within_in D law k.orders k.model m k.cells ys p h i;
}

pub of_weak_writes : {N : Type 0} (D : Ops N) → Lawful D → WeakWriteLaws D
of_weak_writes D law = record {
  cells = λ d c stays cs a f r s. weak_cells D law d c stays cs a (record { fits = f; rising = r }) s;
  holds = λ k c stays a f r s m n i w. weak_holds D law k m n c stays a (record { fits = f; rising = r }) s i w;
}

pub of_kills : {N : Type 0} (D : Ops N) → Lawful D → KillLaws D
of_kills D law = record {
  cells = λ d s b leaves size cs a l h. kill_cells D law d s b size leaves cs a l h;
  holds = λ k s b leaves size a l h m n i w. kill_holds D law k.orders k.model m n s b size leaves k.cells a l h i w;
}

pub of_resharing : {N : Type 0} (D : Ops N) → Lawful D → ReshareLaws D
of_resharing D law = record {
  cells = λ d cs a. (reshared_goes_on D law d cs a).cells;
  holds = λ k a m i. (reshared_goes_on D law k.model k.cells a).holds k.orders m i;
}
