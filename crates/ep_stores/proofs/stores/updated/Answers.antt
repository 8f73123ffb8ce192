use Rattle.std.proofs.lemmas.Result.{err_from_is_err_and}
use Rattle.ep_ast.specs.Mark.{mark_number}
use Rattle.ep_operands.specs.View.{operand, value}
use Rattle.ep_stores.proofs.StoreLemmas.{updated_gives, updated_halts}
use Rattle.ep_stores.proofs.stores.updated.Goals as goal

pub returns-in_err-w : goal.returns-in_err-w
returns-in_err-w c =
    let p = err_from_is_err_and c.from_residual-in_err-w.result c.from_residual-in_err-w.ensures.1 in
    rw (p.1, p.2)
    (updated_halts c.args.types.now (mark_number c.args.mark) (operand c.args.x) (operand c.args.y) (value c.args.old)
    (value c.in_ok-v.v) c.args.line c.in_err-w.field-0.0 c.in_ok-v.ensures c.in_err-w.ensures)

pub returns : goal.returns
returns c =
    updated_gives c.args.types.now (mark_number c.args.mark) (operand c.args.x) (operand c.args.y) (value c.args.old)
    (value c.in_ok-v.v) (value c.in_ok-w.w) c.args.line c.assigned.result c.in_ok-v.ensures c.in_ok-w.ensures
    c.assigned.ensures
