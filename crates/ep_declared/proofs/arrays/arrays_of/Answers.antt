use Rattle.std.proofs.Common.{◌<◌, ◌-◌, length, subst, sym, arith}
use Rattle.ep_layout.proofs.Basics.{grows-trans}
use Rattle.ep_layout.proofs.Grown.{grown_on}
use Rattle.std.proofs.lemmas.Result.{err_from_is_err_and}
use Rattle.ep_layout.specs.Table.{Table}
use Rattle.ep_typing.specs.Types.{c_type_number}
use Rattle.ep_declared.proofs.ArrayLemmas.{added_inside, array_more, array_stops, no_arrays}
use Rattle.ep_declared.proofs.Growth.{IsMore, type_known, type_more}
use Rattle.ep_declared.proofs.Coming.{grown_by_type, grown_stop}
use Rattle.ep_declared.proofs.arrays.arrays_of.Goals as goal

pub loop-i-init : goal.loop-i-init
loop-i-init c =
    let m : IsMore c.args.types.now c.add_type.new.types =
    subst (IsMore c.args.types.now) (sym c.in_ok-add_type.ensures) (type_more c.args.types.now c.args.c) in
    record {
      means = no_arrays c.args.types.now c.add_type.new.types c.args.c c.args.counts.now _ (omega arith)
          c.in_ok-add_type.ensures;
      there = subst (λ (u : Table). c_type_number u c.args.c < length u.types) (sym c.in_ok-add_type.ensures)
          (added_inside c.args.types.now c.args.c c.requires);
      inside = type_known c.args.types.now c.add_type.new.types m.grows c.args.c c.requires;
      grown = m.grows;
      stay = m.stay;
      comes = grown_by_type c.args.types.now c.add_type.new.types c.args.c c.in_ok-add_type.ensures;
    }

pub returns-in_err-array-clause-means : goal.returns-in_err-array-clause-means
returns-in_err-array-clause-means c =
    let p = err_from_is_err_and c.from_residual-in_err-array.result c.from_residual-in_err-array.ensures.1 in
    rw (p.1, p.2) (array_stops c.args.types.now c.args.c c.args.line (c.loop-i.i - 1) c.loop-i.i c.args.counts.now
    c.loop-i.array c.loop-i.types
    (omega (arith, c.loop-i-test.true)) (omega (arith, c.loop-i-test.true, c.loop-i.auto.i)) c.loop-i.invariant.means
    _ c.in_err-array.ensures.means)

pub loop-i-preserved : goal.loop-i-preserved
loop-i-preserved c = record {
  means = array_more c.args.types.now c.args.c c.args.line (c.loop-i.i - 1) c.loop-i.i c.args.counts.now
      c.loop-i.array c.loop-i.types
      (omega (arith, c.loop-i-test.true)) (omega (arith, c.loop-i-test.true, c.loop-i.auto.i))
      c.loop-i.invariant.means c.in_ok-array.array
      c.array_of.new.types c.in_ok-array.ensures.means;
  there = c.in_ok-array.ensures.there;
  inside = c.in_ok-array.ensures.inside;
  grown = grows-trans c.args.types.now c.loop-i.types c.array_of.new.types c.loop-i.invariant.grown
      c.in_ok-array.ensures.grown;
  stay = λ a h. c.in_ok-array.ensures.stay a (c.loop-i.invariant.stay a h);
  comes = grown_on c.args.types.now c.loop-i.types c.array_of.new.types c.loop-i.invariant.comes
      c.in_ok-array.ensures.comes;
}

pub returns-in_err-array-clause-comes : goal.returns-in_err-array-clause-comes
returns-in_err-array-clause-comes c =
    let p = err_from_is_err_and c.from_residual-in_err-array.result c.from_residual-in_err-array.ensures.1 in
    rw (p.1, p.2) (grown_stop _ c.args.types.now c.loop-i.types c.array_of.new.types c.loop-i.invariant.comes
    c.in_err-array.ensures.comes)
