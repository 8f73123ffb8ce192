use Rattle.std.proofs.Common.{refl}
use Rattle.ep_cells.specs.Forms.{form_after}
use Rattle.ep_cells.specs.Write.{fate_by_write}
use Rattle.ep_cell_ranges.specs.Ranges.{form_by_cut, form_by_replace}
use Rattle.ep_state_ranges.proofs.Carrying.{alone, alone_holds, go_twice}
use Rattle.ep_state_ranges.proofs.Cutting.{replace_is, replace_cells}
use Rattle.ep_state_ranges.proofs.cuts.replace.Goals as goal

pub after-requires : goal.after-requires
after-requires g c =
    replace_cells g.N.Num.ops c.args.place c.args.state c.in_ok-after.after.state c.args.new.items
    c.in_ok-after.after.new.items c.replace_laws.ensures c.model.ensures.cells c.requires c.in_ok-after.ensures.state
    c.in_ok-after.ensures.new

pub returns-clause-state : goal.returns-clause-state
returns-clause-state g c =
    replace_is g.N.Num.ops c.args.place c.args.state c.in_ok-after.after.state c.in_ok-written.written c.args.new.items
    c.in_ok-after.after.new.items c.in_ok-after.ensures.state c.in_ok-after.ensures.new c.in_ok-written.ensures

pub returns-clause-held : goal.returns-clause-held
returns-clause-held g c =
    go_twice alone alone_holds (form_after (fate_by_write c.args.place))
    (form_by_cut g.N.Num.ops c.args.place c.args.state) (form_by_replace g.N.Num.ops c.args.place c.args.state)
    c.args.held.items c.in_ok-after.after.forms.items c.in_ok-forms.forms.items refl c.in_ok-after.ensures.forms
    c.in_ok-forms.ensures
