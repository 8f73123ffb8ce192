use Rattle.std.proofs.Common.{◌≡◌, pos, to_z, of_z, w64, rules}
use Rattle.ep_bytes.specs.StoreView.{memory_in, size_in}
use Rattle.ep_machine.proofs.Answers.{loaded_has, loaded_faults}
use Rattle.ep_machine.proofs.reads.load.Goals as goal

pub returns-in-Ok : goal.returns-in-Ok
returns-in-Ok c =
    let at : to_z w64 (of_z w64 c.from.result) ≡ pos c.args.here = search rules in
    loaded_has c.args.on.now.order c.args.store.now.model _ (size_in c.args.store.now c.args.block) _
    (memory_in c.args.store.now) c.args.what c.args.block c.args.here c.requires.model
    (c.requires.sizes c.args.block) (to_z w64 (of_z w64 c.from.result)) at c.in-Ok.d c.in-Ok.ensures.value

pub returns-in-Err : goal.returns-in-Err
returns-in-Err c =
    let at : to_z w64 (of_z w64 c.from.result) ≡ pos c.args.here = search rules in
    loaded_faults c.args.on.now.order c.args.store.now.model _ (size_in c.args.store.now c.args.block) _
    (memory_in c.args.store.now) c.args.what c.args.block c.args.here c.requires.model
    (c.requires.sizes c.args.block) (to_z w64 (of_z w64 c.from.result)) at c.in-Err.k c.fault_of.result
    c.in-Err.ensures.value c.fault_of.ensures
