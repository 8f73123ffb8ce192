use Rattle.std.proofs.Common.{◌<◌, length, false, arith, refl}
use Rattle.std.specs.Vec.{with_item}
use Rattle.ep_double.specs.ByteStates.{state_held}
use Rattle.ep_double.proofs.BlockSteps.{set_there}
use Rattle.ep_double.proofs.mover.memory.set_byte.Goals as goal

pub returns : goal.returns
returns c =
    let here : c.args.block < length c.args.m.now.items = omega arith in
    set_there c.args.m.now.items c.args.block c.args.q c.args.state c.index_mut-bytes.result.now here
    c.index_mut-bytes.ensures.value
    (with_item c.index_mut-bytes.result.now c.args.q (state_held c.args.state false)) refl
