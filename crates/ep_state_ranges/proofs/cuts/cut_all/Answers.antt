use Rattle.std.proofs.Common.{◌≡◌, false, refl, sym, subst}
use Rattle.ep_bitslice.specs.declared.cell.Side.TheVariants.{Left, Right, Shared}
use Rattle.ep_cells.specs.Cells.{is_same_side}
use Rattle.ep_cell_ranges.specs.Ranges.{with_form}
use Rattle.ep_state_ranges.proofs.Carrying.{alone, alone_holds, cell_holds}
use Rattle.ep_state_ranges.proofs.Cutting.{side_cut, side_goes, shared_cut, shared_goes}
use Rattle.ep_state_ranges.proofs.cuts.cut_all.Goals as goal

pub split_on-requires : goal.split_on-requires
split_on-requires g c = subst (λ s. is_same_side s Shared ≡ false) (sym c.in-Left.is) refl

pub split_on-requires-in-Right : goal.split_on-requires-in-Right
split_on-requires-in-Right g c = subst (λ s. is_same_side s Shared ≡ false) (sym c.in-Right.is) refl

pub returns-in_ok-after-in-Left-clause-state : goal.returns-in_ok-after-in-Left-clause-state
returns-in_ok-after-in-Left-clause-state g c =
    side_cut g.N.Num.ops Left c.args.p.now c.args.now.state c.in_ok-after-in-Left.after.state c.in-Left.is
    c.in_ok-after-in-Left.ensures.state

pub returns-in_ok-after-in-Left-clause-new : goal.returns-in_ok-after-in-Left-clause-new
returns-in_ok-after-in-Left-clause-new g c =
    side_goes with_form cell_holds g.N.Num.ops Left c.args.p.now c.args.now.state c.args.now.new.items
    c.in_ok-after-in-Left.after.new.items c.in-Left.is c.in_ok-after-in-Left.ensures.new

pub returns-in_ok-after-in-Left-clause-forms : goal.returns-in_ok-after-in-Left-clause-forms
returns-in_ok-after-in-Left-clause-forms g c =
    side_goes alone alone_holds g.N.Num.ops Left c.args.p.now c.args.now.state c.args.now.forms.items
    c.in_ok-after-in-Left.after.forms.items c.in-Left.is c.in_ok-after-in-Left.ensures.forms

pub returns-in_ok-after-in-Right-clause-state : goal.returns-in_ok-after-in-Right-clause-state
returns-in_ok-after-in-Right-clause-state g c =
    side_cut g.N.Num.ops Right c.args.p.now c.args.now.state c.in_ok-after-in-Right.after.state c.in-Right.is
    c.in_ok-after-in-Right.ensures.state

pub returns-in_ok-after-in-Right-clause-new : goal.returns-in_ok-after-in-Right-clause-new
returns-in_ok-after-in-Right-clause-new g c =
    side_goes with_form cell_holds g.N.Num.ops Right c.args.p.now c.args.now.state c.args.now.new.items
    c.in_ok-after-in-Right.after.new.items c.in-Right.is c.in_ok-after-in-Right.ensures.new

pub returns-in_ok-after-in-Right-clause-forms : goal.returns-in_ok-after-in-Right-clause-forms
returns-in_ok-after-in-Right-clause-forms g c =
    side_goes alone alone_holds g.N.Num.ops Right c.args.p.now c.args.now.state c.args.now.forms.items
    c.in_ok-after-in-Right.after.forms.items c.in-Right.is c.in_ok-after-in-Right.ensures.forms

pub returns-in_ok-after-in-Shared-clause-state : goal.returns-in_ok-after-in-Shared-clause-state
returns-in_ok-after-in-Shared-clause-state g c =
    shared_cut g.N.Num.ops c.args.p.now c.args.now.state c.in_ok-after-in-Shared.after.state c.in-Shared.is
    c.in_ok-after-in-Shared.ensures.state

pub returns-in_ok-after-in-Shared-clause-new : goal.returns-in_ok-after-in-Shared-clause-new
returns-in_ok-after-in-Shared-clause-new g c =
    shared_goes with_form cell_holds g.N.Num.ops c.args.p.now c.args.now.state c.args.now.new.items
    c.in_ok-after-in-Shared.after.new.items c.in-Shared.is c.in_ok-after-in-Shared.ensures.new

pub returns-in_ok-after-in-Shared-clause-forms : goal.returns-in_ok-after-in-Shared-clause-forms
returns-in_ok-after-in-Shared-clause-forms g c =
    shared_goes alone alone_holds g.N.Num.ops c.args.p.now c.args.now.state c.args.now.forms.items
    c.in_ok-after-in-Shared.after.forms.items c.in-Shared.is c.in_ok-after-in-Shared.ensures.forms
