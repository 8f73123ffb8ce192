use Rattle.std.proofs.Common.{◌∙◌, ap, sym, subst}
use Rattle.ep_cells.specs.States.{CanWrite}
use Rattle.ep_cells.specs.Write.{written}
use Rattle.ep_shared_parts.specs.Spread.{all_items}
use Rattle.ep_cell_steps.specs.PartsInvariant.{AreKept}
use Rattle.ep_cell_steps.specs.Writes.{AreWritten}
use Rattle.ep_cell_steps.proofs.Writing.{write_done, write_within, write_kept, written_of, kept_grown}
use Rattle.ep_cell_steps.proofs.writes.write_at.Goals as goal

pub install-requires : goal.install-requires
install-requires g c =
    write_within g.N.Num.ops c.args.model c.args.c (all_items c.deref-2.result.now) c.make_room.new.parts.items c.in_ok-edits.edits.items (subst (λ z. AreWritten g.N.Num.ops c.args.model c.args.c (all_items c.deref-2.result.now) z c.in_ok-edits.edits.items) c.deref.ensures.value c.in_ok-edits.ensures)

pub returns-clause-kept : goal.returns-clause-kept
returns-clause-kept g c =
    let a = written_of g.N.Num.ops c.args.model c.args.c c.deref-2.result.now c.note_cell.new.uses.items c.deref.result.now c.make_room.new.parts.items c.in_ok-edits.edits.items c.deref-2.ensures.value c.deref.ensures.value c.in_ok-edits.ensures in
    let k = kept_grown c.args.model c.args.parts.now.items c.make_room.new.parts.items c.args.uses.now.items c.note_cell.new.uses.items c.requires.kept c.make_room.ensures.items c.make_room.ensures.spread c.note_cell.ensures.spread (λ u n. c.note_cell.ensures.keeps u n) in
    subst (λ z. AreKept c.args.model z c.note_cell.new.uses.items) (sym c.install.ensures) (write_kept g.N.Num.ops c.args.model c.args.c c.note_cell.new.uses.items c.make_room.new.parts.items c.in_ok-edits.edits.items k (subst (CanWrite c.args.model c.args.c) (sym c.make_room.ensures.items) c.requires.can) c.rises.ensures c.in_ok-note_cell.ensures.noted a)

pub returns-clause-ok : goal.returns-clause-ok
returns-clause-ok g c =
    let a = written_of g.N.Num.ops c.args.model c.args.c c.deref-2.result.now c.note_cell.new.uses.items c.deref.result.now c.make_room.new.parts.items c.in_ok-edits.edits.items c.deref-2.ensures.value c.deref.ensures.value c.in_ok-edits.ensures in
    let k = kept_grown c.args.model c.args.parts.now.items c.make_room.new.parts.items c.args.uses.now.items c.note_cell.new.uses.items c.requires.kept c.make_room.ensures.items c.make_room.ensures.spread c.note_cell.ensures.spread (λ u n. c.note_cell.ensures.keeps u n) in
    ap all_items c.install.ensures ∙ (write_done g.N.Num.ops c.args.model c.args.c c.note_cell.new.uses.items c.make_room.new.parts.items c.in_ok-edits.edits.items k (subst (CanWrite c.args.model c.args.c) (sym c.make_room.ensures.items) c.requires.can) a).0 ∙ ap (written c.args.model c.args.c) c.make_room.ensures.items
