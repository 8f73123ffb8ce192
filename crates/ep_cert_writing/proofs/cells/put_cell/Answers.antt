use Rattle.std.proofs.Common.{refl}
use Rattle.ep_cert_writing.proofs.Written.{flag_is, cell_written}
use Rattle.ep_cert_writing.proofs.cells.put_cell.Goals as goal

pub returns : goal.returns
returns c =
    cell_written c.put_form.result c.args.cell.now c.side_byte.result c.from.result c.from-2.result c.scalar_byte.result
    c.from-3.result _ _ _ _ _ _ _ _ c.side_byte.ensures c.from.ensures c.from-2.ensures c.scalar_byte.ensures
    (flag_is c.from-3.result c.args.cell.now.maybe c.args.cell.now.maybe c.from-3.ensures refl) c.in_ok-put_byte.ensures c.in_ok-put_low.ensures c.in_ok-put_low-2.ensures
    c.in_ok-put_byte-2.ensures c.in_ok-put_byte-3.ensures c.in_ok-put_value.ensures c.put_form.ensures
