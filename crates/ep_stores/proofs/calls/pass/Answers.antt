use Rattle.std.proofs.Common.{map}
use Rattle.std.specs.Option.{option_map}
use Rattle.ep_ast.specs.Kind.{number_of}
use Rattle.ep_core.specs.View.{expr_view}
use Rattle.ep_stores.specs.Passing.{passed_to}
use Rattle.ep_stores.specs.View as view
use Rattle.ep_operands.specs.View.{value}
use Rattle.ep_stores.proofs.PassingLemmas.{stopped_so}
use Rattle.ep_stores.proofs.calls.pass.Goals as goal

pub returns-in-Err : goal.returns-in-Err
returns-in-Err c =
    stopped_so (option_map number_of c.args.kind) (map expr_view c.args.arguments.now.items) c.args.line
    (passed_to (option_map view.parameter c.args.parameter) (value c.args.value)) c.in-Err.halt c.stopped.result c.in-Err.ensures
    c.stopped.ensures
