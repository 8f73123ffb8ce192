-- What the code keeps of calls, seen as what the definitions speak of.
use Rattle.std.specs.Prelude.{map}
use Rattle.ep_core.specs.Program as core
use Rattle.ep_core.specs.View.{expr_view}
use Rattle.ep_typing.specs.Calls as calls
use Rattle.ep_stores.specs.declared.calls.Parameter.{Parameter}
use Rattle.ep_stores.specs.declared.calls.Parameter.TheVariants as parameters
use Rattle.ep_stores.specs.declared.calls.Action.{Action}
use Rattle.ep_stores.specs.declared.calls.Action.TheVariants as actions
use Rattle.ep_stores.specs.declared.calls.Called.{Called}
use Rattle.ep_stores.specs.declared.calls.Called.TheVariants as calleds
pub use Rattle.ep_operands.specs.View.{callee, operand, value}

abbrev pub parameter : Parameter → calls.Parameter
parameter (parameters.OfType c) = calls.of_type c
parameter parameters.AnyPointer = calls.any_pointer
parameter parameters.Length = calls.a_length

abbrev pub action : Action → core.Simple
action (actions.Output t e) = core.output t (expr_view e)
action (actions.CopyBytes to from n) = core.copy_bytes (expr_view to) (expr_view from) n
action (actions.FillBytes to byte n) = core.fill (expr_view to) (expr_view byte) n
action (actions.ReadBytes to n) = core.read_bytes (expr_view to) n
action (actions.WriteBytes from n) = core.write_bytes (expr_view from) n

abbrev pub called : Called → calls.Called
called (calleds.Function n es c) = calls.a_call n (map expr_view es.items) c
called (calleds.Input t) = calls.an_input t
called (calleds.Action a) = calls.an_action (action a)
