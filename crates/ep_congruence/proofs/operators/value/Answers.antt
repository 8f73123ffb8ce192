use Rattle.std.proofs.Common.{ap, sym, ◌∙◌}
use Rattle.std.specs.Option.{option_map}
use Rattle.ep_congruence_domain.specs.Congruence.{class_of}
use Rattle.ep_congruence.proofs.Machine.{left_taken, right_taken}
use Rattle.ep_congruence.proofs.operators.value.Goals as goal

pub results-requires-clause-left : goal.results-requires-clause-left
results-requires-clause-left c = left_taken c.args.t (class_of c.args.x.now) (class_of c.in_ok-left.left) (sym c.left_operand.ensures ∙ ap (option_map class_of) c.in_ok-left.was)

pub results-requires-clause-right : goal.results-requires-clause-right
results-requires-clause-right c = right_taken c.args.op c.args.t (class_of c.args.y.now) (class_of c.in_ok-right.right) c.in_ok-right.right.valid (sym c.right_operand.ensures ∙ ap (option_map class_of) c.in_ok-right.was)
