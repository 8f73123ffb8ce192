use Rattle.std.proofs.Common.{ap, ◌∙◌, ◌++◌}
use Rattle.ep_core.specs.Runs.{left, right}
use Rattle.ep_core.specs.ProgramView.{program_view}
use Rattle.ep_core.specs.View.{place_view}
use Rattle.ep_evaluation.specs.Evaluation.{place}
use Rattle.ep_transfers.specs.Transfers as spec
use Rattle.ep_transfer_stores.proofs.Handed.{one_next, one_faults, after_more}
use Rattle.ep_transfer_stores.proofs.Fitting.{input_fits}
use Rattle.ep_transfer_stores.proofs.statements.input_to.Goals as goal

pub returns-clause-next : goal.returns-clause-next
returns-clause-next g c =
    one_next (place g.N.Num.ops (spec.sizes g.N.Num.ops (program_view c.args.program.now)) (place_view c.args.d.now.place) c.args.mode c.args.state)
    (λ v. spec.after_faults (spec.alone_faults c.args.mode) (spec.assigned g.N.Num.ops c.args.sizes.now c.args.mode c.args.d.now.what v (spec.input_pair g.N.Num.ops c.args.mode c.args.t c.args.d.now.what) c.args.state)) c.in_ok-to.to _ c.in_ok-to.ensures.value
    (c.in_ok-next.ensures.next ∙ ap (λ z. (spec.assigned g.N.Num.ops c.args.sizes.now c.args.mode c.args.d.now.what c.in_ok-to.to z c.args.state).next) c.input_pair-v.ensures)
    ∙ ap (λ zs. (spec.with_one (place g.N.Num.ops (spec.sizes g.N.Num.ops (program_view c.args.program.now)) (place_view c.args.d.now.place) c.args.mode c.args.state) (λ v. spec.after_faults (spec.alone_faults c.args.mode) (spec.assigned g.N.Num.ops zs c.args.mode c.args.d.now.what v (spec.input_pair g.N.Num.ops c.args.mode c.args.t c.args.d.now.what) c.args.state))).next) c.requires.sizes

pub returns-clause-faults : goal.returns-clause-faults
returns-clause-faults g c =
    one_faults (place g.N.Num.ops (spec.sizes g.N.Num.ops (program_view c.args.program.now)) (place_view c.args.d.now.place) c.args.mode c.args.state)
    (λ v. spec.after_faults (spec.alone_faults c.args.mode) (spec.assigned g.N.Num.ops c.args.sizes.now c.args.mode c.args.d.now.what v (spec.input_pair g.N.Num.ops c.args.mode c.args.t c.args.d.now.what) c.args.state)) c.in_ok-to.to c.args.faults.now.items c.place_at.new.faults.items _
    c.in_ok-to.ensures.value c.in_ok-to.ensures.faults
    (after_more (spec.alone_faults c.args.mode) (spec.assigned g.N.Num.ops c.args.sizes.now c.args.mode c.args.d.now.what c.in_ok-to.to (spec.input_pair g.N.Num.ops c.args.mode c.args.t c.args.d.now.what) c.args.state) c.place_at.new.faults.items c.note_alone.new.faults.items _
    c.in_ok-note_alone.ensures
    (c.in_ok-next.ensures.faults ∙ ap (λ z. c.note_alone.new.faults.items ++ (spec.assigned g.N.Num.ops c.args.sizes.now c.args.mode c.args.d.now.what c.in_ok-to.to z c.args.state).faults) c.input_pair-v.ensures))
    ∙ ap (λ zs. c.args.faults.now.items ++ (spec.with_one (place g.N.Num.ops (spec.sizes g.N.Num.ops (program_view c.args.program.now)) (place_view c.args.d.now.place) c.args.mode c.args.state) (λ v. spec.after_faults (spec.alone_faults c.args.mode) (spec.assigned g.N.Num.ops zs c.args.mode c.args.d.now.what v (spec.input_pair g.N.Num.ops c.args.mode c.args.t c.args.d.now.what) c.args.state))).faults) c.requires.sizes

pub assigned-requires : goal.assigned-requires
assigned-requires g c = record {
  left = input_fits g.N.Num.ops c.args.mode c.args.t c.args.d.now.what c.requires.number c.args.state left
      c.input_pair-v.result c.input_pair-v.ensures;
  right = input_fits g.N.Num.ops c.args.mode c.args.t c.args.d.now.what c.requires.number c.args.state right
      c.input_pair-v.result c.input_pair-v.ensures;
}
