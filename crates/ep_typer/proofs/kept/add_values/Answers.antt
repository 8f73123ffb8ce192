use Rattle.std.proofs.Common.{◌≡◌, [], ◌++◌, sym, ◌∙◌}
use Rattle.std.specs.Vec.Iter.{into_iter_items}
use Rattle.std.proofs.lemmas.List.{nil_from_length}
use Rattle.ep_typer.proofs.Moving.{all_moved, moved}
use Rattle.ep_typer.proofs.kept.add_values.Goals as goal

pub loop-value-preserved : goal.loop-value-preserved
loop-value-preserved c =
    moved c.loop-value.values.items (into_iter_items c.loop-value.value-iterator) (c.args.values.now.items ++ c.args.more.items)
    c.loop-value.invariant c.push.new.self.items (into_iter_items c.next.new.self) c.in-Some.value c.in-Some.ensures.steps.0
    c.in_ok-push.ensures.items

pub returns : goal.returns
returns c =
    let none : into_iter_items c.loop-value.value-iterator ≡ [] = nil_from_length (into_iter_items c.loop-value.value-iterator) (sym c.loop-value.value-iterator.rest.ok.0 ∙ c.in-None.ensures.steps.0) in
    all_moved c.loop-value.values.items (into_iter_items c.loop-value.value-iterator) (c.args.values.now.items ++ c.args.more.items)
    c.loop-value.invariant none
