use Rattle.std.proofs.Common.{sym, ◌∙◌, arith}
use Rattle.ep_double.proofs.Numbers.{some_union, no_union, next_plain}
use Rattle.ep_double.proofs.tame.types.has_no_union.Goals as goal

pub returns-then-is_union : goal.returns-then-is_union
returns-then-is_union c =
    sym (some_union c.args.types.now c.loop-a.a (sym c.is_union.ensures ∙ c.if-is_union.true))

pub loop-a-preserved : goal.loop-a-preserved
loop-a-preserved c = record {
  end = c.loop-a.invariant.end;
  so_far =
      next_plain c.args.types.now c.loop-a.a c.loop-a.invariant.so_far (sym c.is_union.ensures ∙ c.if-is_union.false);
}

pub returns : goal.returns
returns c =
    let past = c.loop-a-test.false in
    let end = c.loop-a.invariant.end in
    sym (no_union c.args.types.now c.loop-a.a c.loop-a.invariant.so_far (omega (arith, past, end)))
