-- 0, null and what is undefined may be written at a cell of the type.
use Rattle.std.proofs.Common.{◌≡◌, ◌+◌, ◌<◌, ◌≤◌, [], ◌∷◌, pos, ◌∙◌}
use Rattle.ep_evaluation.proofs.Conversions.{constant_fits}
use Rattle.ep_int.proofs.Arithmetic.{zero_in_range}
use Rattle.ep_int.specs.declared.types.Scalar.{Scalar}
use Rattle.ep_int.specs.declared.types.Scalar.TheVariants.{Int, Pointer}
use Rattle.ep_cells.specs.States.{Known}
use Rattle.ep_domain.specs.Domain.{Ops}
use Rattle.ep_transfers.specs.Transfers.{undefined_item, zero_item}
use Rattle.ep_transfer_writes.specs.Waiting.{ItemFits}

module _ {N : Type 0} (D : Ops N) (k : Known N) where
  pub zero_fits : (w : Scalar) → ItemFits k w (zero_item D w)
  zero_fits (Int t) = record {
    left = record { sort = tt; form = constant_fits k.cells t (pos 0) };
    right = record { sort = tt; form = constant_fits k.cells t (pos 0) };
  }
  zero_fits Pointer = record { left = record { sort = tt; form = tt }; right = record { sort = tt; form = tt } }

  pub undefined_fits : (w : Scalar) → ItemFits k w (undefined_item D)
  undefined_fits w = record { left = record { sort = tt; form = tt }; right = record { sort = tt; form = tt } }
