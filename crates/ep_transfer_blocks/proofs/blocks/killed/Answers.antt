use Rattle.std.proofs.Common.{◌∙◌, ap, map}
use Rattle.std.proofs.lemmas.Result.{IfOk-weaker}
use Rattle.ep_cells.specs.Cells.{put_all, each_becomes}
use Rattle.ep_cells.specs.Forms.{reformed}
use Rattle.ep_cells.specs.Kill.{left_by_kill, fate_by_kill, entry_cells}
use Rattle.ep_transfer_blocks.proofs.blocks.killed.Goals as goal

pub returns : goal.returns
returns g c =
    let s = c.args.side in
    let b = c.args.number in
    IfOk-weaker c.after.result _ _
    (λ r h. h
    ∙ ap (λ new. record c.args.state {
      cells = map (reformed (fate_by_kill s b)) (put_all new (each_becomes (left_by_kill s b) c.args.state.cells));
    })
    (c.in_ok-new.ensures ∙ ap (λ d. entry_cells d s b c.args.leaves.now c.args.size) c.model-model.ensures.value))
    c.after.ensures
