use Rattle.ep_bicells.proofs.Fates.{form_kept}
use Rattle.ep_bicells.proofs.alone.form_to.Goals as goal

pub returns-in-Pointer : goal.returns-in-Pointer
returns-in-Pointer g c =
    form_kept c.args.x.now c.args.to c.args.form.now c.copy.result c.in-Pointer.is c.segments.ensures.normal
    c.copy.ensures.value
