-- Where bytes of inputs keep what is known of the cells, all is known again.
use Rattle.std.specs.Prelude.{refl}
use Rattle.ep_domain.specs.Domain.{Ops, Lawful}
use Rattle.ep_core.specs.Program.{read_bytes}
use Rattle.ep_core.specs.WellFormed.{result_type}
use Rattle.ep_mover_input_bytes.specs.Laws.{InputBytesKeep}
use Rattle.ep_mover_steps.proofs.Stepping.{known_of, finish}
use Rattle.ep_mover_take_bytes.proofs.Blocks.{bytes_go}
use Rattle.ep_mover_take_bytes.specs.Laws.{TakeBytesStand}

pub taken_bytes_stand : {N : Type 0} (D : Ops N) → Lawful D → InputBytesKeep D → TakeBytesStand D
taken_bytes_stand D law keep naturals p ord formed form other f here base ms ns k h e n moving fits steps alike =
    let x = bytes_go D law p ord formed base ms ns k (known_of D p ord base ms k h) f.result
    (result_type p.blocks f.result) keep e n moving fits steps in
    finish D law p ord formed form other f here base ms ns k h (read_bytes e n) refl moving fits steps alike x.0 x.1
