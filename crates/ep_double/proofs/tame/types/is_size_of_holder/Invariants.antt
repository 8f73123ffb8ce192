use Rattle.std.proofs.Common.{◌≡◌, false, length}
use Rattle.std.specs.List.{list_any}
use Rattle.ep_layout.specs.Table.{IsBuilt}
use Rattle.ep_core.specs.WellFormed.{numbers_below}
use Rattle.ep_double.specs.Holders.{is_holder_of}
use Rattle.ep_double.proofs.tame.types.is_size_of_holder.Given as goal

abbrev pub invariant-loop-ty : goal.invariant-loop-ty
invariant-loop-ty l = record {
  built : IsBuilt l.types;
  end : l.ty-end ≡ length l.types.types;
  so_far : list_any (is_holder_of l.types l.bytes) (numbers_below l.ty) ≡ false;
}
