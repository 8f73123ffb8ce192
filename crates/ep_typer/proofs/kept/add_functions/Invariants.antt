use Rattle.std.proofs.Common.{◌≡◌, ◌++◌, map}
use Rattle.std.specs.Vec.Iter.{into_iter_items}
use Rattle.ep_defined.specs.View.{defined}
use Rattle.ep_elaboration.specs.Functions.{numbers_of}
use Rattle.ep_typer_functions.specs.View.{AreDone}
use Rattle.ep_typer.proofs.kept.add_functions.Given as goal

abbrev pub invariant-loop-one : goal.invariant-loop-one
invariant-loop-one l = record {
  items : l.defined.items ++ into_iter_items l.one-iterator ≡ l.fn.defined.items ++ l.fn.more.items;
  done : AreDone l.done (numbers_of (map defined l.defined.items));
}
