use Rattle.state_costs.proofs.Writable.{writable}
use Rattle.state_costs.proofs.making.may_write.Goals as goal

pub returns : goal.returns
returns c =
    writable c.args.state.now.model c.model-model.result c.args.c.now c.args.state.now.cells c.place_of.result _ _ _
    c.model-model.ensures.value c.is_cell.ensures c.has_no_form.ensures c.place_of.ensures c.partly.ensures
