use Rattle.std.proofs.Common.{◌≡◌, [], sym, ◌∙◌, subst}
use Rattle.std.proofs.lemmas.List.{nil_from_length}
use Rattle.std.specs.Vec.Iter.{into_iter_items}
use Rattle.ep_transfer_pieces.specs.Rows.{CanGo}
use Rattle.ep_transfer_pieces.proofs.Holding.{go_parts, go_next, go_last}
use Rattle.ep_transfer_pieces.proofs.rows.write_each.Goals as goal

pub write_one-requires : goal.write_one-requires
write_one-requires g c =
    let i = c.loop-c.invariant in
    let all = go_parts c.args.state.model (into_iter_items c.loop-c.c-iterator) (into_iter_items c.next.new.self)
    c.in-Some.c c.in-Some.ensures.steps.0 i.go in
    subst (λ d. CanGo d c.in-Some.c) (sym i.model) all.0

pub loop-c-preserved : goal.loop-c-preserved
loop-c-preserved g c =
    let D = g.N.Num.ops in
    let i = c.loop-c.invariant in
    let all = go_parts c.args.state.model (into_iter_items c.loop-c.c-iterator) (into_iter_items c.next.new.self)
    c.in-Some.c c.in-Some.ensures.steps.0 i.go in
    record {
      value = go_next D c.args.state.model (into_iter_items c.loop-c.c-iterator) (into_iter_items c.next.new.self)
          c.in-Some.c c.loop-c.after c.in_ok-next.next _ c.in-Some.ensures.steps.0 i.model
          c.in_ok-next.ensures.value i.value;
      model = c.in_ok-next.ensures.model ∙ i.model;
      go = all.1;
    }

pub returns-clause-value : goal.returns-clause-value
returns-clause-value g c =
    let none : into_iter_items c.loop-c.c-iterator ≡ []
    = nil_from_length (into_iter_items c.loop-c.c-iterator)
    (sym c.loop-c.c-iterator.rest.ok.0 ∙ c.in-None.ensures.steps.0) in
    go_last g.N.Num.ops c.args.state.model (into_iter_items c.loop-c.c-iterator) c.loop-c.after _ none
    c.loop-c.invariant.value

pub returns-clause-model : goal.returns-clause-model
returns-clause-model g c = c.loop-c.invariant.model
