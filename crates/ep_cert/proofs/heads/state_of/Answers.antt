use Rattle.std.proofs.Common.{rules}
use Rattle.ep_int.proofs.Basics.{true_and_false}
use Rattle.ep_cert.proofs.Turns.{state_found, no_state, no_order}
use Rattle.ep_cert.proofs.heads.state_of.Goals as goal

pub returns-then-not-are_in_order : goal.returns-then-not-are_in_order
returns-then-not-are_in_order c =
    no_order c.args.opening.now c.args.cells.items
    (λ r. true_and_false c.are_in_order.result (search rules) (search rules))

pub returns-in-None : goal.returns-in-None
returns-in-None c = no_state c.args.opening.now c.args.cells.items (search rules) (search rules)

pub returns-in-Some : goal.returns-in-Some
returns-in-Some c =
    state_found c.args.opening.now c.args.cells.items c.in-Some.state (search rules) (search rules) (search rules)
