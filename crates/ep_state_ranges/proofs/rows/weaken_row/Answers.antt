use Rattle.std.proofs.Common.{◌∙◌, ap, map}
use Rattle.ep_state_ranges.proofs.Whole.{row_left, row_state, row_forms}
use Rattle.ep_state_ranges.proofs.rows.weaken_row.Goals as goal

pub after-requires : goal.after-requires
after-requires g c =
    row_left g.N.Num.ops c.args.now.state c.args.c.now c.args.row.place c.args.row.new.items c.args.spots.now
    c.weak_each_laws.ensures c.requires.row c.model.ensures.cells c.requires.fits c.rises.ensures

pub returns-clause-state : goal.returns-clause-state
returns-clause-state g c =
    row_state g.N.Num.ops c.args.now.state c.args.c.now c.args.row.place c.args.row.new.items c.args.spots.now
    c.args.shared_stays c.in_ok-state.state c.requires.stays c.requires.row c.model.ensures.cells
    c.in_ok-state.ensures

pub returns-clause-forms : goal.returns-clause-forms
returns-clause-forms g c =
    c.in_ok-forms.ensures
    ∙ ap (λ f. map f c.args.now.forms.items)
    (row_forms g.N.Num.ops c.args.now.state c.args.c.now c.args.row.place c.args.row.new.items c.args.spots.now
    c.requires.row)
