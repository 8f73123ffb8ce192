use Rattle.std.proofs.Common.{arith}
use Rattle.ep_int.specs.Types.{size_of}
use Rattle.ep_reads.specs.Split.{byte_of}
use Rattle.ep_scalar_reads.proofs.Bytes.{has_byte}
use Rattle.ep_synthesis.proofs.Splitting.{cells_step, cells_end}
use Rattle.ep_synthesis.proofs.split.byte_cells.Goals as goal

pub byte_of-requires-clause-byte : goal.byte_of-requires-clause-byte
byte_of-requires-clause-byte g c =
    has_byte c.args.model c.args.x.now.what c.loop-p.p (omega (arith, c.loop-p-test.true, c.size-size.ensures.value))

pub loop-p-preserved : goal.loop-p-preserved
loop-p-preserved g c =
    cells_step (byte_of g.N.Num.ops c.args.o c.args.side c.args.f.now c.args.x.now c.args.x.now.what c.args.x.now.value)
    (size_of c.args.model c.args.x.now.what) c.loop-p.out.items c.push.new.out.items c.in_ok-y.y c.loop-p.p
    (omega (arith, c.loop-p-test.true, c.size-size.ensures.value)) c.in_ok-y.ensures c.in_ok-push.ensures
    c.loop-p.invariant

pub returns : goal.returns
returns g c =
    cells_end (byte_of g.N.Num.ops c.args.o c.args.side c.args.f.now c.args.x.now c.args.x.now.what c.args.x.now.value)
    (size_of c.args.model c.args.x.now.what) c.loop-p.out.items c.loop-p.p (omega (
      arith,
      c.loop-p-test.false,
      c.size-size.ensures.value,
    )) c.loop-p.invariant
