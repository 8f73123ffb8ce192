use Rattle.ep_bicells.proofs.Fates.{form_moved, form_gone}
use Rattle.ep_bicells.proofs.alone.form_by_integer.Goals as goal

pub returns-in-None : goal.returns-in-None
returns-in-None g c =
    form_gone c.args.x.now c.args.t c.args.to c.args.form.now c.name_on-name.result c.form_without.result c.requires
    c.in-None.is c.name_on-name.ensures c.form_without.ensures.normal c.form_without.ensures.value

pub returns-in-Some : goal.returns-in-Some
returns-in-Some g c =
    form_moved c.args.x.now c.args.t c.args.to c.in-Some.side c.args.form.now c.rename.result c.name_on-name.result
    c.name_on.result c.requires c.in-Some.is c.name_on-name.ensures c.name_on.ensures c.rename.ensures.value
