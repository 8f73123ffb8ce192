use Rattle.std.proofs.Common.{◌+◌, ◌++◌, IfSome, drop, get_or, sym, ap, ◌∙◌, subst}
use Rattle.std.specs.Vec.Iter.{into_iter_items}
use Rattle.std.proofs.lemmas.List.{append-nil, drop_more}
use Rattle.ep_int.specs.declared.types.IntType.TheVariants.{I8}
use Rattle.ep_int.specs.declared.types.Scalar.TheVariants.{Int}
use Rattle.ep_core.specs.ProgramView.{program_view}
use Rattle.ep_transfers.specs.Transfers.{Stepped}
use Rattle.ep_transfers.specs.WaitingLaws.{OthersThere}
use Rattle.ep_transfer_calls.proofs.Set.{is_empty, none_left, first_waits, rest_waits, then_next, then_faults}
use Rattle.ep_transfer_calls.proofs.Set.{stop_next, stop_faults}
use Rattle.ep_transfer_calls.proofs.passing.set_all.Goals as goal

pub returns-in-None-clause-next : goal.returns-in-None-clause-next
returns-in-None-clause-next g c =
    sym (ap (λ (s : Stepped _). s.next)
    (none_left g.N.Num.ops (program_view c.args.program.now) c.args.frame.now.keys c.args.mode
    (drop c.loop-b.b-index c.args.params.now) (drop (c.loop-b.b-index + 1) c.args.params.now)
    (into_iter_items c.loop-b.rest) (get_or c.args.params.now c.loop-b.b-index (0, Int I8)) c.loop-b.now
    (drop_more c.args.params.now c.loop-b.b-index (0, Int I8) c.loop-b-test.true)
    (is_empty c.loop-b.rest.rest.len (into_iter_items c.loop-b.rest) c.loop-b.rest.rest.ok.0
    c.in-None.ensures.cases.0)))
    ∙ c.loop-b.invariant.next

pub returns-in-None-clause-faults : goal.returns-in-None-clause-faults
returns-in-None-clause-faults g c =
    sym (append-nil c.loop-b.faults.items)
    ∙ ap (λ (s : Stepped _). c.loop-b.faults.items ++ s.faults)
    (sym (none_left g.N.Num.ops (program_view c.args.program.now) c.args.frame.now.keys c.args.mode
    (drop c.loop-b.b-index c.args.params.now) (drop (c.loop-b.b-index + 1) c.args.params.now)
    (into_iter_items c.loop-b.rest) (get_or c.args.params.now c.loop-b.b-index (0, Int I8)) c.loop-b.now
    (drop_more c.args.params.now c.loop-b.b-index (0, Int I8) c.loop-b-test.true)
    (is_empty c.loop-b.rest.rest.len (into_iter_items c.loop-b.rest) c.loop-b.rest.rest.ok.0
    c.in-None.ensures.cases.0)))
    ∙ c.loop-b.invariant.faults

pub set_one-requires-clause-waits : goal.set_one-requires-clause-waits
set_one-requires-clause-waits g c =
    first_waits g.N.Num.ops (program_view c.args.program.now) c.args.frame.now.keys c.args.mode
    (drop c.loop-b.b-index c.args.params.now) (drop (c.loop-b.b-index + 1) c.args.params.now)
    (into_iter_items c.loop-b.rest) (get_or c.args.params.now c.loop-b.b-index (0, Int I8)) c.loop-b.now
    (drop_more c.args.params.now c.loop-b.b-index (0, Int I8) c.loop-b-test.true)
    (into_iter_items c.next.new.self) c.in-Some.v c.in-Some.ensures.items c.loop-b.invariant.waits

pub returns-in-None-2-clause-next : goal.returns-in-None-2-clause-next
returns-in-None-2-clause-next g c =
    stop_next g.N.Num.ops (program_view c.args.program.now) c.args.frame.now.keys c.args.mode
    (drop c.loop-b.b-index c.args.params.now) (drop (c.loop-b.b-index + 1) c.args.params.now)
    (into_iter_items c.loop-b.rest) (get_or c.args.params.now c.loop-b.b-index (0, Int I8)) c.loop-b.now
    (drop_more c.args.params.now c.loop-b.b-index (0, Int I8) c.loop-b-test.true)
    (into_iter_items c.next.new.self) c.in-Some.v c.in-Some.ensures.items
    (sym c.in-None-2.is ∙ c.in_ok-set_one-in-Some.ensures.next)
    ∙ c.loop-b.invariant.next

pub returns-in-None-2-clause-faults : goal.returns-in-None-2-clause-faults
returns-in-None-2-clause-faults g c =
    stop_faults g.N.Num.ops (program_view c.args.program.now) c.args.frame.now.keys c.args.mode
    (drop c.loop-b.b-index c.args.params.now) (drop (c.loop-b.b-index + 1) c.args.params.now)
    (into_iter_items c.loop-b.rest) (get_or c.args.params.now c.loop-b.b-index (0, Int I8)) c.loop-b.now
    (drop_more c.args.params.now c.loop-b.b-index (0, Int I8) c.loop-b-test.true)
    (into_iter_items c.next.new.self) c.in-Some.v c.in-Some.ensures.items
    (sym c.in-None-2.is ∙ c.in_ok-set_one-in-Some.ensures.next) c.loop-b.faults.items c.set_one.new.faults.items
    c.in_ok-set_one-in-Some.ensures.faults
    ∙ c.loop-b.invariant.faults

pub loop-b-preserved : goal.loop-b-preserved
loop-b-preserved g c = record {
  waits = rest_waits g.N.Num.ops (program_view c.args.program.now) c.args.frame.now.keys c.args.mode
      (drop c.loop-b.b-index c.args.params.now) (drop (c.loop-b.b-index + 1) c.args.params.now)
      (into_iter_items c.loop-b.rest) (get_or c.args.params.now c.loop-b.b-index (0, Int I8)) c.loop-b.now
      (drop_more c.args.params.now c.loop-b.b-index (0, Int I8) c.loop-b-test.true)
      (into_iter_items c.next.new.self) c.in-Some.v c.in-Some.ensures.items c.loop-b.invariant.waits c.in-Some-2.after
      (subst (λ o. IfSome o (OthersThere c.args.frame.now.keys c.loop-b.now)) c.in-Some-2.is
      c.in_ok-set_one-in-Some.ensures.stays);
  next = then_next g.N.Num.ops (program_view c.args.program.now) c.args.frame.now.keys c.args.mode
      (drop c.loop-b.b-index c.args.params.now) (drop (c.loop-b.b-index + 1) c.args.params.now)
      (into_iter_items c.loop-b.rest) (get_or c.args.params.now c.loop-b.b-index (0, Int I8)) c.loop-b.now
      (drop_more c.args.params.now c.loop-b.b-index (0, Int I8) c.loop-b-test.true)
      (into_iter_items c.next.new.self) c.in-Some.v c.in-Some.ensures.items c.in-Some-2.after
      (sym c.in-Some-2.is ∙ c.in_ok-set_one-in-Some.ensures.next)
      ∙ c.loop-b.invariant.next;
  faults = then_faults g.N.Num.ops (program_view c.args.program.now) c.args.frame.now.keys c.args.mode
      (drop c.loop-b.b-index c.args.params.now) (drop (c.loop-b.b-index + 1) c.args.params.now)
      (into_iter_items c.loop-b.rest) (get_or c.args.params.now c.loop-b.b-index (0, Int I8)) c.loop-b.now
      (drop_more c.args.params.now c.loop-b.b-index (0, Int I8) c.loop-b-test.true)
      (into_iter_items c.next.new.self) c.in-Some.v c.in-Some.ensures.items c.in-Some-2.after
      (sym c.in-Some-2.is ∙ c.in_ok-set_one-in-Some.ensures.next) c.loop-b.faults.items c.set_one.new.faults.items
      c.in_ok-set_one-in-Some.ensures.faults
      ∙ c.loop-b.invariant.faults;
}
