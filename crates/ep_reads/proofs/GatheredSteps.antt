-- The laws in one record each.
use Rattle.ep_domain.specs.Domain.{Ops}
use Rattle.ep_reads.specs.StepLaws.{PartLaws, DropLaws, StepLaws}
use Rattle.ep_reads.proofs.Parting.{parted_twice, where_cells}
use Rattle.ep_reads.proofs.Dropping.{without_twice, without_cells}
use Rattle.ep_reads.proofs.Liked.{had_is, crossed_lacked}
use Rattle.ep_reads.proofs.Turning.{turning, left_turned, right_turned, turned}
use Rattle.ep_reads.proofs.Resharing.{reshared_cells}

of_parts : (N : Type 0) → PartLaws N
of_parts N = record {
  cells = λ d P cs a. where_cells d P cs a;
  twice = λ P Q cs. parted_twice P Q cs;
  first_turn = λ d xs ys a b. turning d xs ys a b;
  left_turn = λ d xs ys ts us t. left_turned d xs ys ts us t;
  right_turn = λ d xs ys ts us t. right_turned d xs ys ts us t;
  next_turn = λ d xs ys ts us t. turned d xs ys ts us t;
}

of_drops : (N : Type 0) → DropLaws N
of_drops N = record {
  cells = λ d P cs a. without_cells d P cs a;
  twice = λ P Q cs. without_twice P Q cs;
  lacked = λ d xs ys a. had_is d xs ys a;
}

pub of_steps : {N : Type 0} (D : Ops N) → StepLaws D
of_steps {N = N} D = record {
  parts = of_parts N;
  drops = of_drops N;
  crossed = λ k xs ys a. crossed_lacked D k xs ys a;
  reshared = λ d b q cs l r a e f h. reshared_cells D d b q cs l r a e f h;
}
