use Rattle.std.proofs.Common.{◌+◌, ◌^◌, ◌≤◌, sym, subst}
use Rattle.ep_int.specs.Types.{size_of}
use Rattle.ep_state_ranges.proofs.Takings.{form_wide, bytes_in_place}
use Rattle.ep_state_ranges.proofs.taking.push_bytes.Goals as goal

pub byte_cells-requires-clause-last : goal.byte_cells-requires-clause-last
byte_cells-requires-clause-last g c =
    subst (λ d. c.args.x.now.offset + size_of d c.args.x.now.what ≤ 2 ^ 32) (sym c.model-model.ensures.value)
    c.requires.0

pub byte_cells-requires-clause-form : goal.byte_cells-requires-clause-form
byte_cells-requires-clause-form g c =
    form_wide c.args.x.now c.form_of_cell.result c.form_of_cell.ensures c.requires.1

pub returns : goal.returns
returns g c =
    bytes_in_place g.N.Num.ops c.args.state.now c.args.p.now c.args.x.now c.model-model.result c.orders.result
    c.order_on-order.result c.form_of_cell.result c.in_ok-bytes.bytes.items c.deref.result.now c.args.out.now.items
    c.push_all_within.new.out.items c.model-model.ensures.value c.orders.ensures c.order_on-order.ensures
    c.form_of_cell.ensures c.in_ok-bytes.ensures c.deref.ensures.value c.in_ok-push_all_within.ensures
