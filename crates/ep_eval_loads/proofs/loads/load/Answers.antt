use Rattle.std.proofs.Common.{◌≡◌, ap, ◌∙◌, ◌&&◌, ◌++◌}
use Rattle.ep_int.specs.Types.{size_of}
use Rattle.ep_alarms.specs.declared.types.AlarmKind.TheVariants.{U4, U5, U6, U7, U10}
use Rattle.ep_equalities.specs.Same.{is_same}
use Rattle.ep_evaluation.specs.Given.{on, faults_on, shown_if}
use Rattle.ep_evaluation.specs.Accesses.{is_unset, is_mixed, bounds_of, may_be_odd}
use Rattle.ep_evaluation.specs.Evaluation.{load_side, reads_at, pointer, targets_of, is_null}
use Rattle.ep_eval_sides.proofs.Picked.{picked}
use Rattle.ep_eval_loads.specs.Loads.{address_faults}
use Rattle.ep_eval_loads.proofs.LoadSteps.{side_is, shared_is, shown_is, regroup}
use Rattle.ep_eval_loads.proofs.loads.load.Goals as goal

pub returns-clause-value : goal.returns-clause-value
returns-clause-value g c =
    let D = g.N.Num.ops in
    let zs = c.args.sizes.now in
    let k = c.args.state.now in
    let w = c.args.what in
    let x = c.args.x.now in
    picked c.args.mode (λ s. load_side D zs w k (on x s) s) c.in_ok-left.left.side c.in_ok-right.right.side _ _
    c.pair_on.result (side_is _ _ c.in_ok-left.ensures.value c.in_ok-left.ensures.form)
    (side_is _ _ c.in_ok-right.ensures.value c.in_ok-right.ensures.form)
    (c.is_same_by.ensures ∙ ap (λ t. is_same D x && t) (c.all_shared-shared.ensures
    ∙ shared_is D zs c.args.mode w k x c.in_ok-left.left.shared c.in_ok-right.right.shared c.in_ok-left.ensures.shared
    c.in_ok-right.ensures.shared))
    c.pair_on.ensures

pub returns-clause-faults : goal.returns-clause-faults
returns-clause-faults g c =
    let D = g.N.Num.ops in
    let zs = c.args.sizes.now in
    let k = c.args.state.now in
    let w = c.args.what in
    let x = c.args.x.now in
    let m = c.args.mode in
    let n = size_of k.model w in
    let old = c.args.faults.now.items in
    let same : c.size-n.result ≡ n = c.size-n.ensures.value ∙ ap (λ d. size_of d w) c.model.ensures.value in
    regroup old _ _ (faults_on m U6 (λ s. shown_if (is_null D zs (pointer D (on x s)))))
    (faults_on m U5 (λ s. bounds_of D zs n (targets_of D zs (pointer D (on x s)))))
    (faults_on m U7 (λ s. shown_if (may_be_odd D n (targets_of D zs (pointer D (on x s)))))) _ _ _ _
    (c.in_ok-note_address.ensures ∙ ap (λ i. old ++ address_faults D zs i m x) same) c.in_ok-note_reads.ensures
    (shown_is c.args.mode U4 (λ s. is_unset (reads_at D zs w k (on x s) s)) c.in_ok-left.left.unset
    c.in_ok-right.right.unset c.in_ok-left.ensures.unset c.in_ok-right.ensures.unset)
    (shown_is c.args.mode U10 (λ s. is_mixed (reads_at D zs w k (on x s) s)) c.in_ok-left.left.mixed
    c.in_ok-right.right.mixed c.in_ok-left.ensures.mixed c.in_ok-right.ensures.mixed)
