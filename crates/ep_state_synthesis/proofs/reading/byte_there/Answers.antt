use Rattle.std.proofs.Common.{◌-◌, ◌∙◌, ap, sym, subst, arith}
use Rattle.std.specs.Option.{option_map}
use Rattle.ep_scalar_reads.specs.Parts.{HasByte}
use Rattle.ep_state_synthesis.proofs.Bytes.{has_it, byte_eight}
use Rattle.ep_state_synthesis.proofs.reading.byte_there.Goals as goal

pub overflow_sub-byte : goal.overflow_sub-byte
overflow_sub-byte g c =
    let h = has_it c.args.state.now.model c.args.side c.args.block c.args.byte c.args.state.now.cells c.in-Some.x.now
    c.model.ensures.cells (sym (ap (option_map (λ c. c.now)) c.in-Some.is) ∙ c.cell_at.ensures) in
    omega (arith, h.low, c.from.ensures)

pub overflow_cast-byte : goal.overflow_cast-byte
overflow_cast-byte g c =
    let h = has_it c.args.state.now.model c.args.side c.args.block c.args.byte c.args.state.now.cells c.in-Some.x.now
    c.model.ensures.cells (sym (ap (option_map (λ c. c.now)) c.in-Some.is) ∙ c.cell_at.ensures) in
    omega (arith, h.small, c.from.ensures)

pub byte_of_cell-requires-clause-byte : goal.byte_of_cell-requires-clause-byte
byte_of_cell-requires-clause-byte g c =
    let h = has_it c.args.state.now.model c.args.side c.args.block c.args.byte c.args.state.now.cells c.in-Some.x.now
    c.model.ensures.cells (sym (ap (option_map (λ c. c.now)) c.in-Some.is) ∙ c.cell_at.ensures) in
    subst (λ k. HasByte c.in-Some.x.now.what (c.args.byte - k)) (sym c.from.ensures) h.byte

pub byte_of_cell-requires-clause-form : goal.byte_of_cell-requires-clause-form
byte_of_cell-requires-clause-form g c =
    let h = has_it c.args.state.now.model c.args.side c.args.block c.args.byte c.args.state.now.cells c.in-Some.x.now
    c.model.ensures.cells (sym (ap (option_map (λ c. c.now)) c.in-Some.is) ∙ c.cell_at.ensures) in
    h.form

pub returns-in-Some-clause-form : goal.returns-in-Some-clause-form
returns-in-Some-clause-form g c =
    let h = has_it c.args.state.now.model c.args.side c.args.block c.args.byte c.args.state.now.cells c.in-Some.x.now
    c.model.ensures.cells (sym (ap (option_map (λ c. c.now)) c.in-Some.is) ∙ c.cell_at.ensures) in
    byte_eight g.N.Num.ops c.order_on-order.result c.in-Some.x.now (c.args.byte - c.from.result) c.byte_of_cell.result
    (subst (λ k. HasByte c.in-Some.x.now.what (c.args.byte - k)) (sym c.from.ensures) h.byte) h.form
    c.byte_of_cell.ensures
