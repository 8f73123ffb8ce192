use Rattle.std.proofs.Common.{◌∙◌, ap, sym, subst}
use Rattle.std.proofs.lemmas.Result.{IfOk-weaker}
use Rattle.ep_state_rows.specs.Rows.{each_weakened, IsRow, row_bytes, FitAt}
use Rattle.ep_transfer_pieces.proofs.AtEach.{less_spaced}
use Rattle.ep_transfer_pieces.proofs.several.written.Goals as goal

pub weaken_rows-requires-clause-row : goal.weaken_rows-requires-clause-row
weaken_rows-requires-clause-row g c =
    subst (IsRow c.args.now.state.model c.args.now.start) (sym c.deref.ensures.value) c.requires.ready.row

pub weaken_rows-requires-clause-bytes : goal.weaken_rows-requires-clause-bytes
weaken_rows-requires-clause-bytes g c =
    c.requires.ready.bytes ∙ sym (ap (row_bytes c.args.now.state.model) c.deref.ensures.value)

pub weaken_rows-requires-clause-fits : goal.weaken_rows-requires-clause-fits
weaken_rows-requires-clause-fits g c =
    subst (λ cs. FitAt c.args.now.state.model cs c.args.spots.now) (sym c.deref.ensures.value) c.requires.ready.fits

pub weaken_rows-requires-clause-spaced : goal.weaken_rows-requires-clause-spaced
weaken_rows-requires-clause-spaced g c =
    less_spaced g.N.Num.ops c.args.room c.args.now.start c.args.now.bytes c.args.spots.now c.requires.ready.within
    c.requires.spaced

pub returns-clause-value : goal.returns-clause-value
returns-clause-value g c =
    IfOk-weaker c.weaken_rows.result _ _
    (λ s h. h ∙ ap (λ cs. each_weakened g.N.Num.ops c.args.spots.now cs c.args.now.state) c.deref.ensures.value)
    c.weaken_rows.ensures.value
