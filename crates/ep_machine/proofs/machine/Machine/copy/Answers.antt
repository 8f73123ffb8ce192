use Rattle.std.proofs.Common.{◌≡◌, pos, to_z, of_z, w64, rules}
use Rattle.ep_bytes.specs.StoreView.{is_same}
use Rattle.ep_machine.proofs.Writes.{copy_runs, copy_comes}
use Rattle.ep_machine.proofs.machine.Machine.copy.Goals as goal

pub returns-clause-runs : goal.returns-clause-runs
returns-clause-runs c =
    copy_runs c.args.on.now c.self.view_is c.requires.runs c.copy.new.self c.copy.ensures.like c.copy.result
    c.copy.ensures.err
    (is_same (c.args.to.0, to_z w64 (of_z w64 c.from.result)) (c.args.from.0, to_z w64 (of_z w64 c.from-2.result))
    c.args.is_assignment) c.args.to.0 _ c.args.from.0 _ c.args.n c.copy.ensures.copied

pub returns-clause-copies : goal.returns-clause-copies
returns-clause-copies c =
    let at : to_z w64 (of_z w64 c.from.result) ≡ pos c.args.to.1 = search rules in
    let there : to_z w64 (of_z w64 c.from-2.result) ≡ pos c.args.from.1 = search rules in
    copy_comes c.args.on.now c.self.view_is c.requires.runs c.copy.new.self c.copy.ensures.like c.copy.result
    c.copy.ensures.err c.written.result c.written.ensures c.args.to.0 c.args.to.1 c.args.from.0 c.args.from.1 c.args.n
    c.args.is_assignment (to_z w64 (of_z w64 c.from.result)) (to_z w64 (of_z w64 c.from-2.result)) at there
    c.copy.ensures.answer c.copy.ensures.copied
