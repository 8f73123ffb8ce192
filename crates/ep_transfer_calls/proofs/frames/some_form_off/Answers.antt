use Rattle.std.proofs.Common.{◌≡◌, true, false, sym, ◌∙◌, subst}
use Rattle.std.specs.List.{list_all}
use Rattle.ep_cell_rows.specs.Parts.{goes_on}
use Rattle.ep_transfers.specs.Transfers.{fate_off_blocks}
use Rattle.ep_transfer_calls.proofs.Off.{form_stays, form_goes}
use Rattle.ep_transfer_calls.proofs.frames.some_form_off.Goals as goal

pub returns-then-are_off : goal.returns-then-are_off
returns-then-are_off c =
    form_stays c.args.frame.now.keys c.args.form c.segments.ensures.normal
    (subst (λ ss. list_all (goes_on (fate_off_blocks c.args.frame.now.keys)) ss ≡ true) c.segments.ensures.value
    (sym c.are_off.ensures ∙ c.if-are_off.true))

pub returns-else-are_off : goal.returns-else-are_off
returns-else-are_off c =
    form_goes c.args.frame.now.keys c.args.form c.segments.ensures.form.segments
    (subst (λ ss. list_all (goes_on (fate_off_blocks c.args.frame.now.keys)) ss ≡ false) c.segments.ensures.value
    (sym c.are_off.ensures ∙ c.if-are_off.false))
