use Rattle.std.proofs.Common.{◌≡◌, pos, to_z, of_z, w64, rules}
use Rattle.ep_machine.proofs.Writes.{fill_runs, fill_comes}
use Rattle.ep_machine.proofs.machine.Machine.fill.Goals as goal

pub returns-clause-runs : goal.returns-clause-runs
returns-clause-runs c =
    fill_runs c.args.on.now c.self.view_is c.requires.runs c.fill.new.self c.fill.ensures.like c.fill.result
    c.fill.ensures.err c.args.block _ c.args.n c.args.byte c.ranges.byte.fits c.fill.ensures.filled

pub returns-clause-fills : goal.returns-clause-fills
returns-clause-fills c =
    let at : to_z w64 (of_z w64 c.from.result) ≡ pos c.args.here = search rules in
    fill_comes c.args.on.now c.self.view_is c.requires.runs c.fill.new.self c.fill.ensures.like c.fill.result
    c.fill.ensures.err c.written.result c.written.ensures c.args.block c.args.here c.args.n c.args.byte
    (to_z w64 (of_z w64 c.from.result)) at c.fill.ensures.answer c.fill.ensures.filled
