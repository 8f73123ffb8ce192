use Rattle.std.proofs.Common.{sym, ◌∙◌, ap, map}
use Rattle.ep_cell_ranges.specs.Ranges.{with_form, form_by_like}
use Rattle.ep_state_steps.proofs.Liken.{like_in, like_has, none_split, some_split}
use Rattle.ep_state_ranges.proofs.Carrying.{alone, alone_holds, cell_holds, stay}
use Rattle.ep_state_ranges.proofs.Cutting.{like_none, like_some}
use Rattle.ep_state_ranges.proofs.cuts.split_like.Goals as goal

pub split_one-requires-clause-has : goal.split_one-requires-clause-has
split_one-requires-clause-has g c =
    like_has c.args.side c.args.x.now c.in-Some.y c.args.now.state.cells (sym c.in-Some.is ∙ c.in_ok-like.ensures)
    c.requires.has

pub split_one-requires-clause-there : goal.split_one-requires-clause-there
split_one-requires-clause-there g c =
    like_in c.args.x.now c.in-Some.y c.args.now.state.cells (sym c.in-Some.is ∙ c.in_ok-like.ensures)

pub returns-in-None-clause-state : goal.returns-in-None-clause-state
returns-in-None-clause-state g c =
    none_split g.N.Num.ops c.args.now.state c.args.side c.args.x.now (sym c.in-None.is ∙ c.in_ok-like.ensures)

pub returns-in-None-clause-new : goal.returns-in-None-clause-new
returns-in-None-clause-new g c =
    stay with_form cell_holds (form_by_like g.N.Num.ops c.args.side c.args.x.now c.args.now.state.cells)
    c.args.now.new.items
    (like_none g.N.Num.ops c.args.side c.args.x.now c.args.now.state.cells (sym c.in-None.is ∙ c.in_ok-like.ensures))

pub returns-in-None-clause-forms : goal.returns-in-None-clause-forms
returns-in-None-clause-forms g c =
    stay alone alone_holds (form_by_like g.N.Num.ops c.args.side c.args.x.now c.args.now.state.cells)
    c.args.now.forms.items
    (like_none g.N.Num.ops c.args.side c.args.x.now c.args.now.state.cells (sym c.in-None.is ∙ c.in_ok-like.ensures))

pub returns-in_ok-after-in-Some-clause-state : goal.returns-in_ok-after-in-Some-clause-state
returns-in_ok-after-in-Some-clause-state g c =
    some_split g.N.Num.ops c.args.now.state c.in_ok-after-in-Some.after.state c.args.side c.args.x.now c.in-Some.y
    (sym c.in-Some.is ∙ c.in_ok-like.ensures) c.in_ok-after-in-Some.ensures.state

pub returns-in_ok-after-in-Some-clause-new : goal.returns-in_ok-after-in-Some-clause-new
returns-in_ok-after-in-Some-clause-new g c =
    c.in_ok-after-in-Some.ensures.new
    ∙ ap (λ z. map (with_form z) c.args.now.new.items)
    (like_some g.N.Num.ops c.args.side c.args.x.now c.in-Some.y c.args.now.state.cells
    (sym c.in-Some.is ∙ c.in_ok-like.ensures))

pub returns-in_ok-after-in-Some-clause-forms : goal.returns-in_ok-after-in-Some-clause-forms
returns-in_ok-after-in-Some-clause-forms g c =
    c.in_ok-after-in-Some.ensures.forms
    ∙ ap (λ z. map z c.args.now.forms.items)
    (like_some g.N.Num.ops c.args.side c.args.x.now c.in-Some.y c.args.now.state.cells
    (sym c.in-Some.is ∙ c.in_ok-like.ensures))
