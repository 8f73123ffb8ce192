use Rattle.std.proofs.Common.{ap, sym, ◌∙◌, ◌++◌, subst, map, option_to_list}
use Rattle.ep_int.specs.Memory.{contains}
use Rattle.ep_core.specs.Exec.{first_of}
use Rattle.ep_core.specs.ProgramView.{program_view}
use Rattle.ep_core.specs.View.{expr_view, function_view}
use Rattle.ep_transfers.specs.Calls.{bound}
use Rattle.ep_transfers.specs.Transfers.{entered}
use Rattle.ep_transfer_calls.specs.Typed.{AreTyped}
use Rattle.ep_transfer_calls.specs.Waiting.{AllWait}
use Rattle.ep_transfer_calls.proofs.Found.{entered_model, all_wait}
use Rattle.ep_transfer_calls.proofs.Set.{off, IsCall, call_next, call_faults}
use Rattle.ep_transfer_calls.proofs.Typed.{call_typed}
use Rattle.ep_transfer_calls.proofs.passing.arguments.Goals as goal

pub given_all-requires-clause-model : goal.given_all-requires-clause-model
given_all-requires-clause-model g c =
    entered_model g.N.Num.ops (program_view c.args.program.now) c.args.mode (first_of (option_to_list c.args.f.now.result))
    c.args.state c.in_ok-begun.begun c.in_ok-begun.ensures c.requires.model

pub given_all-requires-clause-typed : goal.given_all-requires-clause-typed
given_all-requires-clause-typed g c =
    subst (λ bs. AreTyped (program_view c.args.program.now) bs (map expr_view c.args.es.now)) (sym c.deref-2.ensures.value)
    (call_typed (program_view c.args.program.now) c.args.program.now.well_formed (function_view c.args.f.now)
    (map expr_view c.args.es.now) c.requires.typed)

pub entered-requires : goal.entered-requires
entered-requires g c = record {
  model = entered_model g.N.Num.ops (program_view c.args.program.now) c.args.mode
      (first_of (option_to_list c.args.f.now.result)) c.args.state c.in_ok-begun.begun c.in_ok-begun.ensures
      c.requires.model;
}

pub set_all-requires-clause-waits : goal.set_all-requires-clause-waits
set_all-requires-clause-waits g c =
    subst
    (λ bs. AllWait g.N.Num.ops (program_view c.args.program.now) c.in_ok-members.members.keys bs c.in_ok-values.values.items
    c.in_ok-there.there) (sym c.deref-4.ensures.value)
    (all_wait g.N.Num.ops (program_view c.args.program.now) c.evaluation_laws.ensures c.args.program.now.well_formed
    c.args.mode c.in_ok-begun.begun
    (entered_model g.N.Num.ops (program_view c.args.program.now) c.args.mode (first_of (option_to_list c.args.f.now.result))
    c.args.state c.in_ok-begun.begun c.in_ok-begun.ensures c.requires.model)
    c.model.ensures.cells c.waiting_laws.ensures c.args.f.now.params.items c.args.f.now.locals.items
    c.in_ok-blocks.blocks.items c.in_ok-members.members.keys c.in_ok-blocks.ensures
    (λ b. c.in_ok-members.ensures b ∙ ap (contains b) c.deref.ensures.value)
    (map expr_view c.args.es.now)
    (call_typed (program_view c.args.program.now) c.args.program.now.well_formed (function_view c.args.f.now)
    (map expr_view c.args.es.now) c.requires.typed)
    c.in_ok-values.values.items c.in_ok-values.ensures.values c.in_ok-there.there
    (c.in_ok-there.ensures
    ∙ ap (λ bs. entered g.N.Num.ops (program_view c.args.program.now) c.args.mode bs c.in_ok-begun.begun)
    c.deref-3.ensures.value))

pub returns-clause-next : goal.returns-clause-next
returns-clause-next g c =
    let is : IsCall g.N.Num.ops (program_view c.args.program.now) c.args.mode (function_view c.args.f.now)
    (map expr_view c.args.es.now) c.args.state c.in_ok-begun.begun c.in_ok-blocks.blocks.items
    c.in_ok-members.members.keys c.in_ok-values.values.items c.in_ok-there.there = record {
      begun = c.in_ok-begun.ensures;
      blocks_are = c.in_ok-blocks.ensures;
      same = λ b. c.in_ok-members.ensures b ∙ ap (contains b) c.deref.ensures.value;
      values = c.in_ok-values.ensures.values;
      comes = c.in_ok-there.ensures
          ∙ ap (λ bs. entered g.N.Num.ops (program_view c.args.program.now) c.args.mode bs c.in_ok-begun.begun)
          c.deref-3.ensures.value;
    } in
    call_next g.N.Num.ops (program_view c.args.program.now) c.args.mode (function_view c.args.f.now)
    (map expr_view c.args.es.now) c.args.state c.in_ok-begun.begun c.in_ok-blocks.blocks.items
    c.in_ok-members.members.keys c.in_ok-values.values.items c.in_ok-there.there is c.in_ok-next.next
    (c.in_ok-next.ensures.next
    ∙ ap (λ bs. (bound g.N.Num.ops (program_view c.args.program.now) c.args.mode bs
    (map (off g.N.Num.ops (program_view c.args.program.now) c.in_ok-members.members.keys) c.in_ok-values.values.items)
    c.in_ok-there.there).next) c.deref-4.ensures.value)

pub returns-clause-faults : goal.returns-clause-faults
returns-clause-faults g c =
    let is : IsCall g.N.Num.ops (program_view c.args.program.now) c.args.mode (function_view c.args.f.now)
    (map expr_view c.args.es.now) c.args.state c.in_ok-begun.begun c.in_ok-blocks.blocks.items
    c.in_ok-members.members.keys c.in_ok-values.values.items c.in_ok-there.there = record {
      begun = c.in_ok-begun.ensures;
      blocks_are = c.in_ok-blocks.ensures;
      same = λ b. c.in_ok-members.ensures b ∙ ap (contains b) c.deref.ensures.value;
      values = c.in_ok-values.ensures.values;
      comes = c.in_ok-there.ensures
          ∙ ap (λ bs. entered g.N.Num.ops (program_view c.args.program.now) c.args.mode bs c.in_ok-begun.begun)
          c.deref-3.ensures.value;
    } in
    call_faults g.N.Num.ops (program_view c.args.program.now) c.args.mode (function_view c.args.f.now)
    (map expr_view c.args.es.now) c.args.state c.in_ok-begun.begun c.in_ok-blocks.blocks.items
    c.in_ok-members.members.keys c.in_ok-values.values.items c.in_ok-there.there is c.args.faults.now.items
    c.given_all.new.faults.items c.set_all.new.faults.items c.in_ok-values.ensures.faults
    (c.in_ok-next.ensures.faults
    ∙ ap (λ bs. c.given_all.new.faults.items
    ++ (bound g.N.Num.ops (program_view c.args.program.now) c.args.mode bs
    (map (off g.N.Num.ops (program_view c.args.program.now) c.in_ok-members.members.keys) c.in_ok-values.values.items)
    c.in_ok-there.there).faults) c.deref-4.ensures.value)
