use Rattle.std.proofs.Common.{◌<◌, length, true, arith, ap, sym, ◌∙◌, refl}
use Rattle.std.specs.Vec.{with_item}
use Rattle.ep_double.specs.declared.mover.memory.ByteHeld.{ByteHeld}
use Rattle.ep_double.specs.ByteStates.{state_held}
use Rattle.ep_double.proofs.BlockSteps.{put_there}
use Rattle.ep_double.proofs.mover.memory.put_byte.Goals as goal

pub returns : goal.returns
returns c =
    let here : c.args.block < length c.args.m.now.items = omega arith in
    let inside : c.args.q < length c.index_mut-bytes.result.now.items = omega arith in
    put_there c.args.m.now.items c.args.block c.args.q c.args.state c.index_mut-bytes.result.now here
    c.index_mut-bytes.ensures.value c.index.result.now inside
    (ap (λ (h : ByteHeld). h.written) (sym c.index.ensures) ∙ c.if-index.false)
    (with_item c.index_mut-bytes.result.now c.args.q (state_held c.args.state true)) refl
