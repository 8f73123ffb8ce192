-- Faults of operations on cells are of kinds that the text may have.
use Rattle.std.proofs.Common.{◌≡◌, true, false}
use Rattle.ep_layout.specs.Table.{IsBuilt}
use Rattle.ep_domain.specs.Domain.{Ops, KeepsStrides, Lawful}
use Rattle.ep_core.specs.Program.{Program}
use Rattle.ep_core.specs.WellFormed.{is_well_formed}
use Rattle.ep_alarm_laws.specs.Laws.{CellsAreHonest, EvenCellsAreHonest, ProductsKeepStrides}
use Rattle.ep_alarm_laws.proofs.Named.{NamedAreSafe}
use Rattle.ep_alarm_laws.proofs.Places.{aligned_quiet, whole_quiet, member_quiet}
use Rattle.ep_alarm_laws.proofs.Even.{even_quiet}
use Rattle.ep_alarm_laws.proofs.Accesses.{accesses_allowed}
use Rattle.ep_alarm_laws.proofs.Gathered.{honest}

module _ {N : Type 0} (D : Ops N) (law : Lawful D) where
  plain_safe : (p : Program) → is_well_formed p ≡ true → IsBuilt p.types → NamedAreSafe D p false
  plain_safe p formed built = record {
    aligned = λ seen a ty h th ix w s m k told. aligned_quiet D law p formed built m k seen a ty h th ix w s told;
    whole = λ seen a ty h th ix m k told. whole_quiet D law p formed built m k seen a ty h th ix;
    member_taken = λ seen a q ty h th ix m k told. member_quiet D law p formed built m k seen false a q ty h th ix;
    even = λ e. absurd (cc);
  }

  pub plain_honest : CellsAreHonest D false
  plain_honest p ord formed built =
      honest D law p ord false formed (accesses_allowed D p false (plain_safe p formed built))

  even_safe : (p : Program) → is_well_formed p ≡ true → IsBuilt p.types → KeepsStrides D → ProductsKeepStrides D
      → NamedAreSafe D p true
  even_safe p formed built keeps products = record {
    aligned = λ seen a ty h th ix w s m k told. aligned_quiet D law p formed built m k seen a ty h th ix w s told;
    whole = λ seen a ty h th ix m k told. whole_quiet D law p formed built m k seen a ty h th ix;
    member_taken = λ seen a q ty h th ix m k told. member_quiet D law p formed built m k seen true a q ty h th ix;
    even = λ e seen a ty h th ix w s m k told. even_quiet D law keeps products p formed built m k seen a ty h th w s
        told;
  }

  pub even_honest : EvenCellsAreHonest D
  even_honest keep products p ord formed built =
      honest D law p ord true formed
      (accesses_allowed D p true (even_safe p formed built (law.strides keep) products))
