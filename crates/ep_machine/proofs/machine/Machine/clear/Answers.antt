use Rattle.std.proofs.Common.{◌≡◌, pos, to_z, of_z, w64, rules}
use Rattle.ep_machine.proofs.Writes.{clear_runs, clear_comes}
use Rattle.ep_machine.proofs.machine.Machine.clear.Goals as goal

pub returns-clause-runs : goal.returns-clause-runs
returns-clause-runs c =
    clear_runs c.args.on.now c.self.view_is c.requires.runs c.clear.new.self c.clear.ensures.like c.clear.result
    c.clear.ensures.err c.args.block _ c.args.n c.clear.ensures.cleared

pub returns-clause-clears : goal.returns-clause-clears
returns-clause-clears c =
    let at : to_z w64 (of_z w64 c.from.result) ≡ pos c.args.here = search rules in
    clear_comes c.args.on.now c.self.view_is c.requires.runs c.clear.new.self c.clear.ensures.like c.clear.result
    c.clear.ensures.err c.written.result c.written.ensures c.args.block c.args.here c.args.n
    (to_z w64 (of_z w64 c.from.result)) at c.clear.ensures.answer c.clear.ensures.cleared
