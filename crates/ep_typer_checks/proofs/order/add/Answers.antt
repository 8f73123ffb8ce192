use Rattle.std.proofs.Common.{◌<◌, length, arith}
use Rattle.ep_typer_checks.specs.Placed.{place}
use Rattle.ep_typer_checks.proofs.Placing.{none_added, one_added, slot_other}
use Rattle.ep_typer_checks.proofs.order.add.Goals as goal

pub returns-in-None-clause-added : goal.returns-in-None-clause-added
returns-in-None-clause-added c =
    let inside : c.args.f < length c.args.slots.now.items = omega (arith, c.requires) in
    none_added c.args.slots.now.items c.args.f c.index_mut.result.now c.take.result inside c.index_mut.ensures.value c.take.ensures.value
    (place c.args.places.now) c.args.all.now.items c.in-None.is

pub returns-in_ok-push-in-Some-clause-added : goal.returns-in_ok-push-in-Some-clause-added
returns-in_ok-push-in-Some-clause-added c =
    let inside : c.args.f < length c.args.slots.now.items = omega (arith, c.requires) in
    one_added c.args.slots.now.items c.args.f c.index_mut.result.now c.take.result inside c.index_mut.ensures.value c.take.ensures.value
    (place c.args.places.now) c.args.all.now.items c.push.new.self.items c.in-Some.function c.renumbered_function.result c.in-Some.is
    c.renumbered_function.ensures c.in_ok-push-in-Some.ensures.items

pub returns-in_ok-push-in-Some-clause-others : goal.returns-in_ok-push-in-Some-clause-others
returns-in_ok-push-in-Some-clause-others c = λ g h. slot_other c.args.slots.now.items c.args.f g c.take.new.self h
