use Rattle.std.proofs.Common.{◌+◌, drop, get_or, refl}
use Rattle.std.specs.Option.{option_map}
use Rattle.std.proofs.lemmas.List.{drop_all}
use Rattle.ep_state_rows.proofs.Beyond.{next}
use Rattle.ep_transfer_pieces.proofs.Looking.{byte_first, byte_next, byte_found}
use Rattle.ep_transfer_pieces.proofs.sources.byte_sources.Goals as goal

pub loop-q-init : goal.loop-q-init
loop-q-init g c =
    byte_first g.N.Num.ops c.args.state.now c.args.side c.args.spots.now c.new-reads.result.items
    c.new-reads.ensures.items

pub loop-q-preserved : goal.loop-q-preserved
loop-q-preserved g c =
    let qs = c.args.spots.now in
    let i = c.loop-q.q-index in
    byte_next g.N.Num.ops c.args.state.now c.args.side qs (drop i qs) (drop (i + 1) qs)
    (get_or qs i (0, 0)) (option_map (λ r. r.now) c.cell_at-x.result) (next qs i (0, 0) c.loop-q-test.true)
    c.cell_at-x.ensures c.loop-q.reads.items c.loop-q.shared c.loop-q.invariant
    c.in_ok-byte_of.field-0 c.push.new.out.items c.is_shared-here.result _
    c.in_ok-byte_of.ensures c.is_shared-here.ensures refl c.in_ok-push.ensures

pub returns : goal.returns
returns g c =
    byte_found g.N.Num.ops c.args.state.now c.args.side c.args.spots.now (drop c.loop-q.q-index c.args.spots.now)
    c.loop-q.reads.items c.loop-q.shared
    (drop_all c.loop-q.q-index c.args.spots.now c.loop-q-test.false) c.loop-q.invariant
    (record { reads = c.loop-q.reads; shared = c.loop-q.shared }) refl refl
