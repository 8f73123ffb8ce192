use Rattle.std.proofs.Common.{◌≡◌, pos, to_z, of_z, w64, rules}
use Rattle.ep_bytes.specs.View.{value_in}
use Rattle.ep_machine.proofs.Writes.{put_runs, put_comes}
use Rattle.ep_machine.proofs.machine.Machine.put.Goals as goal

pub returns-clause-runs : goal.returns-clause-runs
returns-clause-runs c =
    put_runs c.args.on.now c.self.view_is c.requires.runs c.store.new.self c.store.ensures.like c.store.result
    c.store.ensures.err c.args.what c.args.block _ (value_in c.args.v) c.requires.fits c.store.ensures.stored

pub returns-clause-puts : goal.returns-clause-puts
returns-clause-puts c =
    let at : to_z w64 (of_z w64 c.from.result) ≡ pos c.args.here = search rules in
    put_comes c.args.on.now c.self.view_is c.requires.runs c.store.new.self c.store.ensures.like c.store.result
    c.store.ensures.err c.written.result c.written.ensures c.args.what c.args.block c.args.here
    (to_z w64 (of_z w64 c.from.result)) (value_in c.args.v) at c.store.ensures.answer c.store.ensures.stored
