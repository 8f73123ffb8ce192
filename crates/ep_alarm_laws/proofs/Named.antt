-- Which accesses to typed places list no fault.
use Rattle.std.specs.Prelude.{◌≡◌, ℕ, Bool, true, false, List, [], ◌∷◌, ◌++◌, unwrap_or}
use Rattle.ep_int.specs.declared.types.Scalar.{Scalar}
use Rattle.ep_int.specs.Types.{size_of}
use Rattle.ep_layout.specs.Table.{size}
use Rattle.ep_alarms.specs.declared.types.AlarmKind.{AlarmKind}
use Rattle.ep_alarms.specs.declared.types.AlarmKind.TheVariants.{U5, U6, U7}
use Rattle.ep_domain.specs.Domain.{Ops}
use Rattle.ep_cells.specs.States.{Known}
use Rattle.ep_core.specs.Program.{Place, member, Program}
use Rattle.ep_core.specs.WellFormed.{place_has, has_scalar, ty_at}
use Rattle.ep_pass.specs.Places.{is_through, is_indexed}
use Rattle.ep_equalities.specs.declared.pair.Mode.{Mode}
use Rattle.ep_equalities.specs.declared.pair.Fault.{Fault}
use Rattle.ep_equalities.specs.declared.pair.PairValue.{PairValue}
use Rattle.ep_evaluation.specs.Given.{Given, on, faults_on, shown_if}
use Rattle.ep_evaluation.specs.Accesses.{may_be_odd, moves_null, move_leaves}
use Rattle.ep_evaluation.specs.Evaluation.{pointer, targets_of, offset_number, place}
use Rattle.ep_transfers.specs.Places.{range_faults, aligned_faults}
use Rattle.ep_transfers.specs.Transfers.{sizes}

-- the kind of each fault passes a test
abbrev pub AreKinds : (AlarmKind → Bool) → List Fault → Type 0
AreKinds test [] = Unit {0}
AreKinds test (f ∷ fs) = (test f.kind ≡ true) × AreKinds test fs

-- an access may not be aligned
abbrev pub odd_faults : {N : Type 0} → Ops N → (sizes : List ℕ) → Mode → (bytes : ℕ) → PairValue N → List Fault
odd_faults D sizes m n a =
    faults_on m U7 (λ s. shown_if (may_be_odd D n (targets_of D sizes (pointer D (on a s)))))

module _ {N : Type 0} (D : Ops N) (p : Program) (strides : Bool) where
  -- what may go wrong where a place is moved to a member
  abbrev pub member_faults : (offset : ℕ) → Mode → Given N → List Fault
  member_faults q m x =
      faults_on m U6 (λ s. shown_if (moves_null (pointer D (on x.pair s)) (offset_number D (sizes D p) q)))
      ++ faults_on m U5 (λ s. move_leaves D (sizes D p) 1 false (pointer D (on x.pair s)) (offset_number D (sizes D p)
      q))

  -- Where the text allows no fault of an access: a place that a declaration names, or a part of one, without an index,
  -- lists none; and where numbers keep strides, an element by an index is aligned. This is so in every state that is
  -- told in the program's data model.
  pub record NamedAreSafe : Type 0 where
    pub aligned : (seen : List ℕ) (a : Place) (ty : ℕ) → place_has p.types p.blocks seen a ty ≡ true
        → is_through a ≡ false → is_indexed a ≡ false → (w : Scalar)
        → has_scalar (ty_at p.types p.blocks seen ty) w ≡ true → (m : Mode) (k : Known N) → k.model ≡ p.types.model
        → aligned_faults D (sizes D p) m (size_of k.model w) (place D (sizes D p) a m k).pair ≡ []
    pub whole : (seen : List ℕ) (a : Place) (ty : ℕ) → place_has p.types p.blocks seen a ty ≡ true
        → is_through a ≡ false → is_indexed a ≡ false → (m : Mode) (k : Known N) → k.model ≡ p.types.model
        → range_faults D (sizes D p) m (unwrap_or (size p.types ty) 0) (place D (sizes D p) a m k).pair ≡ []
    pub member_taken : (seen : List ℕ) (a : Place) (offset ty : ℕ)
        → place_has p.types p.blocks seen (member a offset) ty ≡ true → is_through a ≡ false → is_indexed a ≡ false
        → (m : Mode) (k : Known N) → k.model ≡ p.types.model
        → member_faults offset m (place D (sizes D p) a m k) ≡ []
    pub even : strides ≡ true → (seen : List ℕ) (a : Place) (ty : ℕ)
        → place_has p.types p.blocks seen a ty ≡ true → is_through a ≡ false → is_indexed a ≡ true → (w : Scalar)
        → has_scalar (ty_at p.types p.blocks seen ty) w ≡ true → (m : Mode) (k : Known N) → k.model ≡ p.types.model
        → odd_faults D (sizes D p) m (size_of k.model w) (place D (sizes D p) a m k).pair ≡ []
