-- What is left of a state.
use Rattle.std.specs.Prelude.{Option, None, Some}
use Rattle.ep_cells.specs.States.{Known}
pub use Rattle.ep_eval_loads.specs.declared.after.After.{After}
use Rattle.ep_eval_loads.specs.declared.after.After.TheVariants.{Nothing, Unchanged, Changed}

abbrev pub left_of : {N : Type 0} → Known N → After N → Option (Known N)
left_of k Nothing = None
left_of k Unchanged = Some k
left_of k (Changed l) = Some l
