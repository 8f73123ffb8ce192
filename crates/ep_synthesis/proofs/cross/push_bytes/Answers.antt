use Rattle.std.proofs.Common.{◌≡◌, [], subst}
use Rattle.ep_reads.specs.Split.{byte_cells}
use Rattle.ep_synthesis.specs.Parts.{known}
use Rattle.ep_synthesis.proofs.Crossing.{bytes_are}
use Rattle.ep_synthesis.proofs.cross.push_bytes.Goals as goal

pub returns : goal.returns
returns g c =
    bytes_are g.N.Num.ops (known c.args.machines []) (record c.args.x.now { side = c.args.side }) c.in_ok-part.part
    c.order_on-order.result _ _ _ _ c.in_ok-part.ensures c.order_on-order.ensures
    (subst (λ f. c.in_ok-bytes.bytes.items ≡ byte_cells g.N.Num.ops c.args.machines.model c.order_on-order.result
    c.args.side f
    c.in_ok-part.part) c.form_of-form.ensures c.in_ok-bytes.ensures)
    c.deref.ensures.value c.in_ok-push_all.ensures
