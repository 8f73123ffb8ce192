use Rattle.std.proofs.Common.{Err}
use Rattle.ep_typing.specs.declared.types.CType.{CType}
use Rattle.ep_declared.proofs.ArrayLemmas.{array_inside, array_made, made_stops, some_row}
use Rattle.ep_declared.proofs.Coming.{added_grown, left_alone}
use Rattle.ep_declared.proofs.arrays.add_array.Goals as goal

pub returns-in-Ok-clause-means : goal.returns-in-Ok-clause-means
returns-in-Ok-clause-means c =
    rw c.whole.ensures (array_made c.args.line c.args.types.now c.add.new.self c.args.row c.in-Ok.n
    c.in-Ok.ensures.fits c.in-Ok.ensures.grown
    c.in-Ok.ensures.number)

pub returns-in-Ok-clause-there : goal.returns-in-Ok-clause-there
returns-in-Ok-clause-there c =
    rw c.whole.ensures (array_inside c.add.new.self c.in-Ok.n (some_row c.add.new.self c.args.row c.in-Ok.n
    c.in-Ok.ensures.number))

pub returns-in-Ok-clause-inside : goal.returns-in-Ok-clause-inside
returns-in-Ok-clause-inside c = rw c.whole.ensures (some_row c.add.new.self c.args.row c.in-Ok.n c.in-Ok.ensures.number)

pub returns-in-Err-clause-means : goal.returns-in-Err-clause-means
returns-in-Err-clause-means c =
    rw c.stopped.ensures (made_stops c.args.line c.args.types.now c.args.row _ c.in-Err.stop c.in-Err.ensures.stop)

pub returns-in-Ok-clause-comes : goal.returns-in-Ok-clause-comes
returns-in-Ok-clause-comes c = added_grown c.args.types.now c.add.new.self c.args.row c.in-Ok.ensures.grown

pub returns-in-Err-clause-comes : goal.returns-in-Err-clause-comes
returns-in-Err-clause-comes c =
    left_alone {X = CType} (Err c.stopped.result) c.args.types.now c.add.new.self c.in-Err.ensures.err
