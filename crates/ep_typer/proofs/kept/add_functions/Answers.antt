use Rattle.std.proofs.Common.{◌≡◌, [], ◌++◌, sym, ◌∙◌}
use Rattle.std.specs.Vec.Iter.{into_iter_items}
use Rattle.std.proofs.lemmas.List.{nil_from_length}
use Rattle.ep_typer.proofs.Moving.{all_moved, moved}
use Rattle.ep_typer.proofs.kept.add_functions.Goals as goal

pub loop-one-preserved : goal.loop-one-preserved
loop-one-preserved c = record {
  items = moved c.loop-one.defined.items (into_iter_items c.loop-one.one-iterator) (c.args.defined.now.items ++ c.args.more.items)
      c.loop-one.invariant.items c.add_function.new.defined.items (into_iter_items c.next.new.self) c.in-Some.one c.in-Some.ensures.steps.0
      c.in_ok-add_function.ensures.added;
  done = c.in_ok-add_function.ensures.done;
}

pub returns-clause-added : goal.returns-clause-added
returns-clause-added c =
    let none : into_iter_items c.loop-one.one-iterator ≡ [] = nil_from_length (into_iter_items c.loop-one.one-iterator) (sym c.loop-one.one-iterator.rest.ok.0 ∙ c.in-None.ensures.steps.0) in
    all_moved c.loop-one.defined.items (into_iter_items c.loop-one.one-iterator) (c.args.defined.now.items ++ c.args.more.items)
    c.loop-one.invariant.items none
