use Rattle.std.proofs.Common.{rules}
use Rattle.ep_cert.proofs.Turns.{uncounted, no_cells, no_head, head_found}
use Rattle.ep_cert.proofs.heads.head_at.Goals as goal

pub returns-in_default : goal.returns-in_default
returns-in_default c = uncounted c.args.opening.now c.args.bytes.now (search rules)

pub returns-in-Err : goal.returns-in-Err
returns-in-Err c =
    no_cells c.args.opening.now c.args.bytes.now c.in-Some.count c.in-Some.rest.now c.in-Err.why c.in-Some.ensures
    c.in-Err.ensures

pub returns-in-Err-state_of : goal.returns-in-Err-state_of
returns-in-Err-state_of c =
    no_head c.args.opening.now c.args.bytes.now c.in-Some.count c.in-Some.rest.now c.in-Ok.cells.items c.in-Ok.rest.now
    c.in-Err-state_of.why c.in-Some.ensures c.in-Ok.ensures c.in-Err-state_of.ensures

pub returns-in-Ok-state_of : goal.returns-in-Ok-state_of
returns-in-Ok-state_of c =
    head_found c.args.opening.now c.args.bytes.now c.in-Some.count c.in-Some.rest.now c.in-Ok.cells.items
    c.in-Ok.rest.now c.in-Ok-state_of.state c.in-Some.ensures c.in-Ok.ensures c.in-Ok-state_of.ensures
