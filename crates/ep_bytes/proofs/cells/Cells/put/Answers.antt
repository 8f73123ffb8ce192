use Rattle.std.proofs.Common.{◌<◌, length, subst, sym}
use Rattle.ep_bytes.proofs.Noted.{noted_set}
use Rattle.ep_bytes.proofs.cells.Cells.put.Goals as goal

pub invariant_of-self : goal.invariant_of-self
invariant_of-self c =
    let l : c.args.at < length c.self.inside.bytes.items =
    subst (λ xs. c.args.at < length xs) (sym c.self.view_is) c.requires.inside in
    noted_set c.self.inside.bytes.items c.self.inside.spans.items c.cover.new.spans.items c.self.inside.used.items
    c.note.new.used.items c.args.at c.args.byte c.self.invariant l c.requires.part c.cover.ensures.len c.cover.ensures.own
    c.cover.ensures.others c.note.ensures.own c.note.ensures.others
