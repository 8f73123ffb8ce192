-- Where a program only moves whole variables, the report is exact: it is empty just where the machines agree.
use Rattle.std.specs.Prelude.{◌≡◌, ℕ, ℤ, [], Bool, true, ◌||◌, IsTrue, IfSome}
use Rattle.ep_int.specs.declared.types.Order.{Order}
use Rattle.ep_int.specs.declared.types.Order.TheVariants.{Little}
use Rattle.ep_domain.specs.Domain.{Ops, IsSingle}
use Rattle.ep_core.specs.Program.{Program}
use Rattle.ep_core.specs.Exec.{is_order}
use Rattle.ep_core.specs.Runs.{Side, left, right, Agree}
use Rattle.ep_core.specs.WellFormed.{is_well_formed}
use Rattle.ep_pass.specs.Laws.{AreOther}
use Rattle.ep_pass.specs.Pass.{report_of}
use Rattle.ep_transfers.specs.Cells.{cell_ops}
use Rattle.ep_straight_laws.specs.Straight.{is_straight}

-- one of two machines is little-endian
abbrev pub has_little : Order → Order → Bool
has_little a b = is_order Little a || is_order Little b

module _ {N : Type 0} (D : Ops N) where
  -- What two values that are the same single number have in common is single too. No law of domains says so.
  abbrev pub MeetsKeepSingles : Type 0
  MeetsKeepSingles =
      (a b : N) (v : ℤ) → IsSingle D a v → IsSingle D b v → IfSome (D.meet a b) (λ c. IsSingle D c v)

  -- where machines of these orders agree on the program, its report is empty
  abbrev pub IsExact : Program → (Side → Order) → Type 0
  IsExact p ord =
      (u limit : ℕ) → Agree p (ord left) (ord right) → report_of (cell_ops D p ord) u limit ord p ≡ []

  -- One of the machines is little-endian, the other isn't. Between two others a wide number that is extended by its
  -- sign may have equal bytes at two weights, which nothing that is known says.
  abbrev pub IsStraightExact : Type 0
  IsStraightExact =
      (p : Program) → IsTrue (is_well_formed p) → IsTrue (is_straight p) → (ord : Side → Order)
      → has_little (ord left) (ord right) ≡ true → AreOther ord → IsExact p ord

  abbrev pub StraightIsExact : Type 0
  StraightIsExact = MeetsKeepSingles → IsStraightExact
