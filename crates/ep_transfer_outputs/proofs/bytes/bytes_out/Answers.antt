use Rattle.std.proofs.Common.{ap, sym, ◌∙◌, ◌+◌, arith}
use Rattle.ep_transfers.specs.Transfers.{Stepped}
use Rattle.ep_transfer_places.specs.Room.{view}
use Rattle.ep_transfer_places.proofs.Moving.{less_both}
use Rattle.ep_transfer_outputs.proofs.Runs.{more, stops}
use Rattle.ep_transfer_outputs.proofs.bytes.bytes_out.Goals as goal

pub byte_out-requires : goal.byte_out-requires
byte_out-requires g c =
    record { room = less_both c.args.bytes (c.loop-byte.byte + 1) (view c.args.places.now) (omega arith) c.requires.room }

pub returns-then-not-branch-clause-goes : goal.returns-then-not-branch-clause-goes
returns-then-not-branch-clause-goes g c =
    ap (λ (s : Stepped _). s.next)
    (stops g.N.Num.ops c.args.mode c.args.same_from c.args.state.now (view c.args.places.now) c.loop-byte.faults.items
    c.byte_out.new.faults.items c.loop-byte.byte c.args.bytes _ c.loop-byte-test.true
    (sym c.in_ok-byte_out.ensures.goes ∙ c.if-not-branch.true) c.in_ok-byte_out.ensures.faults c.loop-byte.invariant)

pub returns-then-not-branch-clause-faults : goal.returns-then-not-branch-clause-faults
returns-then-not-branch-clause-faults g c =
    ap (λ (s : Stepped _). s.faults)
    (stops g.N.Num.ops c.args.mode c.args.same_from c.args.state.now (view c.args.places.now) c.loop-byte.faults.items
    c.byte_out.new.faults.items c.loop-byte.byte c.args.bytes _ c.loop-byte-test.true
    (sym c.in_ok-byte_out.ensures.goes ∙ c.if-not-branch.true) c.in_ok-byte_out.ensures.faults c.loop-byte.invariant)

pub loop-byte-preserved : goal.loop-byte-preserved
loop-byte-preserved g c =
    more g.N.Num.ops c.args.mode c.args.same_from c.args.state.now (view c.args.places.now) c.loop-byte.faults.items
    c.byte_out.new.faults.items c.loop-byte.byte c.args.bytes _ c.loop-byte-test.true
    (sym c.in_ok-byte_out.ensures.goes ∙ c.if-not-branch.false) c.in_ok-byte_out.ensures.faults c.loop-byte.invariant
