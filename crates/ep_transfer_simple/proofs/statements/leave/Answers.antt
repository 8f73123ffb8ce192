use Rattle.ep_core.specs.ProgramView.{program_view}
use Rattle.ep_transfer_simple.proofs.Typed.{result_typed}
use Rattle.ep_transfer_simple.proofs.statements.leave.Goals as goal

pub give_back-requires-clause-typed : goal.give_back-requires-clause-typed
give_back-requires-clause-typed g c =
    result_typed (program_view c.args.program.now) c.args.program.now.well_formed c.args.returns c.in-Some-returns.home
    c.in-Some-returns.is c.args.e.now c.in-Some.e c.in-Some.is c.requires.typed
