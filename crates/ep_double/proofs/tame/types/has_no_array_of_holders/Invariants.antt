use Rattle.std.proofs.Common.{◌≡◌, true, length}
use Rattle.std.specs.Prelude.{not}
use Rattle.std.specs.List.{list_all}
use Rattle.ep_layout.specs.Table.{IsBuilt}
use Rattle.ep_core.specs.WellFormed.{numbers_below}
use Rattle.ep_kinds.specs.Tame.{is_array_of_holders}
use Rattle.ep_double.proofs.tame.types.has_no_array_of_holders.Given as goal

abbrev pub invariant-loop-ty : goal.invariant-loop-ty
invariant-loop-ty l = record {
  built : IsBuilt l.types;
  end : l.ty-end ≡ length l.types.types;
  so_far : list_all (λ ty. not (is_array_of_holders l.types ty)) (numbers_below l.ty) ≡ true;
}
