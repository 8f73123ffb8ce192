use Rattle.std.proofs.Common.{◌≡◌, Some, true, false, sym, ◌∙◌, ap, subst}
use Rattle.std.specs.Option.{option_map}
use Rattle.std.specs.List.{list_all}
use Rattle.ep_bitslice.specs.Segments.{normal}
use Rattle.ep_bitslice.proofs.NormalForm.{form_is_normal}
use Rattle.ep_cell_rows.specs.Parts.{fate_of, goes_on}
use Rattle.ep_cell_rows.proofs.Renaming.{all_renamed, one_stops}
use Rattle.ep_cell_rows.proofs.Settled.{settled}
use Rattle.ep_cell_rows.proofs.change.Change.some_form.Goals as goal

pub returns-then-all_go_on : goal.returns-then-all_go_on
returns-then-all_go_on c =
    let f = fate_of c.args.self in
    let all : list_all (goes_on f) c.args.form.now ≡ true = subst (λ ss. list_all (goes_on f) ss ≡ true)
    c.segments.ensures.value (sym c.all_go_on.ensures ∙ c.if-all_go_on.true) in
    ap Some (sym (form_is_normal c.renamed-after.result c.renamed-after.ensures.form) ∙ ap normal
    c.renamed-after.ensures.bits)
    ∙ sym (ap (option_map normal) (all_renamed f c.args.form.now (settled c.args.self) all))

pub returns-else-all_go_on : goal.returns-else-all_go_on
returns-else-all_go_on c =
    let f = fate_of c.args.self in
    let one : list_all (goes_on f) c.args.form.now ≡ false = subst (λ ss. list_all (goes_on f) ss ≡ false)
    c.segments.ensures.value (sym c.all_go_on.ensures ∙ c.if-all_go_on.false) in
    sym (ap (option_map normal) (one_stops f c.args.form.now c.renamed-after.ensures.old.segments one))
