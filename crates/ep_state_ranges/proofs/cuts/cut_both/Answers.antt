use Rattle.ep_cell_ranges.specs.Ranges.{with_form}
use Rattle.ep_state_ranges.proofs.Carrying.{alone, alone_holds, cell_holds}
use Rattle.ep_state_ranges.proofs.Cutting.{both_cut, both_go}
use Rattle.ep_state_ranges.proofs.cuts.cut_both.Goals as goal

pub returns-clause-state : goal.returns-clause-state
returns-clause-state g c =
    both_cut g.N.Num.ops c.args.p.now c.on_side.result c.on_side-2.result c.args.now.state c.in_ok-left.left.state
    c.in_ok-both.both.state c.on_side.ensures c.on_side-2.ensures c.in_ok-left.ensures.state c.in_ok-both.ensures.state

pub returns-clause-new : goal.returns-clause-new
returns-clause-new g c =
    both_go with_form cell_holds g.N.Num.ops c.args.p.now c.on_side.result c.on_side-2.result c.args.now.state
    c.in_ok-left.left.state c.args.now.new.items c.in_ok-left.left.new.items c.in_ok-both.both.new.items
    c.on_side.ensures c.on_side-2.ensures c.in_ok-left.ensures.state c.in_ok-left.ensures.new c.in_ok-both.ensures.new

pub returns-clause-forms : goal.returns-clause-forms
returns-clause-forms g c =
    both_go alone alone_holds g.N.Num.ops c.args.p.now c.on_side.result c.on_side-2.result c.args.now.state
    c.in_ok-left.left.state c.args.now.forms.items c.in_ok-left.left.forms.items c.in_ok-both.both.forms.items
    c.on_side.ensures c.on_side-2.ensures c.in_ok-left.ensures.state c.in_ok-left.ensures.forms
    c.in_ok-both.ensures.forms
