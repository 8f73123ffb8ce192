use Rattle.std.proofs.Common.{ap, ◌∙◌}
use Rattle.ep_cells.specs.States.{Known}
use Rattle.ep_transfer_copies.proofs.Choosing.{blurred_model}
use Rattle.ep_transfer_copies.proofs.copies.blurred.Goals as goal

pub returns-clause-model : goal.returns-clause-model
returns-clause-model g c =
    ap (λ (j : Known _). j.model) c.in_ok-after.ensures.state
    ∙ blurred_model g.N.Num.ops c.cells.result c.args.bytes c.places.result.now c.args.state
