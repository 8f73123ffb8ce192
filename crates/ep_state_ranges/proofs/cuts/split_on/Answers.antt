use Rattle.std.proofs.Common.{sym, ◌∙◌}
use Rattle.ep_cell_ranges.specs.Ranges.{with_form}
use Rattle.ep_state_steps.proofs.Cuts.{all_have, split_are}
use Rattle.ep_state_ranges.proofs.Carrying.{alone, alone_holds, cell_holds}
use Rattle.ep_state_ranges.proofs.Cutting.{uncut, uncut_stay, cut_go}
use Rattle.ep_state_ranges.proofs.cuts.split_on.Goals as goal

pub returns-then-not-partly-clause-state : goal.returns-then-not-partly-clause-state
returns-then-not-partly-clause-state g c =
    uncut g.N.Num.ops c.args.now.state c.args.p.now (sym c.partly.ensures ∙ c.if-not-partly.true)

pub returns-then-not-partly-clause-new : goal.returns-then-not-partly-clause-new
returns-then-not-partly-clause-new g c =
    uncut_stay with_form cell_holds g.N.Num.ops c.args.now.state c.args.p.now c.args.now.new.items
    (sym c.partly.ensures ∙ c.if-not-partly.true)

pub returns-then-not-partly-clause-forms : goal.returns-then-not-partly-clause-forms
returns-then-not-partly-clause-forms g c =
    uncut_stay alone alone_holds g.N.Num.ops c.args.now.state c.args.p.now c.args.now.forms.items
    (sym c.partly.ensures ∙ c.if-not-partly.true)

pub split_each-requires-clause-have : goal.split_each-requires-clause-have
split_each-requires-clause-have g c =
    all_have c.args.now.state.model c.args.p.now c.args.now.state.cells c.in_ok-xs.xs.items _ c.deref.ensures.value
    c.in_ok-xs.ensures

pub returns-clause-state : goal.returns-clause-state
returns-clause-state g c =
    split_are g.N.Num.ops c.args.now.state c.in_ok-after.after.state c.args.p.now c.in_ok-xs.xs.items _
    c.deref.ensures.value c.in_ok-xs.ensures c.in_ok-after.ensures.state

pub returns-clause-new : goal.returns-clause-new
returns-clause-new g c =
    cut_go with_form cell_holds g.N.Num.ops c.args.now.state c.args.p.now c.in_ok-xs.xs.items _ c.args.now.new.items
    c.in_ok-after.after.new.items c.deref.ensures.value c.in_ok-xs.ensures c.in_ok-after.ensures.new

pub returns-clause-forms : goal.returns-clause-forms
returns-clause-forms g c =
    cut_go alone alone_holds g.N.Num.ops c.args.now.state c.args.p.now c.in_ok-xs.xs.items _ c.args.now.forms.items
    c.in_ok-after.after.forms.items c.deref.ensures.value c.in_ok-xs.ensures c.in_ok-after.ensures.forms
