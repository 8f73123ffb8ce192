-- Accesses to typed places list only faults that their text may have.
use Rattle.std.proofs.Common.{◌≡◌, ℕ, Bool, true, List, unwrap_or}
use Rattle.ep_int.specs.declared.types.Scalar.{Scalar}
use Rattle.ep_int.specs.Types.{size_of}
use Rattle.ep_layout.specs.Table.{size}
use Rattle.ep_domain.specs.Domain.{Ops}
use Rattle.ep_cells.specs.States.{Known}
use Rattle.ep_core.specs.Program.{Place, member, Program}
use Rattle.ep_core.specs.WellFormed.{place_has, has_scalar, ty_at}
use Rattle.ep_pass.specs.Places.{place_may, target_may}
use Rattle.ep_equalities.specs.declared.pair.Mode.{Mode}
use Rattle.ep_evaluation.specs.Evaluation.{place}
use Rattle.ep_transfers.specs.Places.{range_faults, aligned_faults}
use Rattle.ep_transfers.specs.Transfers.{sizes}
use Rattle.ep_alarm_laws.proofs.Named.{AreKinds, member_faults}

module _ {N : Type 0} (D : Ops N) (p : Program) (strides : Bool) where
  -- In every state that is told in the program's data model, where numbers keep strides, or don't.
  pub record AccessesAllowed : Type 0 where
    -- a scalar is read or written
    pub aligned : (seen : List ℕ) (a : Place) (ty : ℕ) → place_has p.types p.blocks seen a ty ≡ true → (w : Scalar)
        → has_scalar (ty_at p.types p.blocks seen ty) w ≡ true → (m : Mode) (k : Known N) → k.model ≡ p.types.model
        → AreKinds (λ f. target_may strides f a)
        (aligned_faults D (sizes D p) m (size_of k.model w) (place D (sizes D p) a m k).pair)
    -- a whole place is written
    pub whole : (seen : List ℕ) (a : Place) (ty : ℕ) → place_has p.types p.blocks seen a ty ≡ true → (m : Mode)
        (k : Known N) → k.model ≡ p.types.model
        → AreKinds (λ f. target_may strides f a)
        (range_faults D (sizes D p) m (unwrap_or (size p.types ty) 0) (place D (sizes D p) a m k).pair)
    -- a member is taken
    pub member_taken : (seen : List ℕ) (a : Place) (offset ty : ℕ)
        → place_has p.types p.blocks seen (member a offset) ty ≡ true → (m : Mode) (k : Known N)
        → k.model ≡ p.types.model
        → AreKinds (λ f. place_may strides f (member a offset))
        (member_faults D p strides offset m (place D (sizes D p) a m k))
