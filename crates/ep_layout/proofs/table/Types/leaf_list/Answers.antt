use Rattle.std.proofs.Common.{◌∙◌, ◌∷◌, [], ◌++◌, List, ap, subst, arith}
use Rattle.ep_layout.specs.declared.table.leaves.Task.{Task}
use Rattle.ep_layout.specs.declared.table.leaves.Task.TheVariants.{Object}
use Rattle.ep_layout.specs.Table.{IsBuilt}
use Rattle.ep_layout.specs.Pending.{TaskFits}
use Rattle.ep_layout.proofs.Steps.{walk_begins, all_popped, steps_popped, pending_popped}
use Rattle.ep_layout.proofs.table.Types.leaf_list.Goals as goal

pub tasks-init : goal.tasks-init
tasks-init c =
    walk_begins c.args.self.now (subst IsBuilt c.self.view_is c.self.invariant.built) c.args.ty c.new-leaves.result.items c.push.new.self.items c.requires c.new-leaves.ensures.items
    (c.in_ok-push.ensures.items ∙ ap (λ (l : List Task). l ++ Object c.args.ty 0 ∷ []) c.new-tasks.ensures.items)

pub step-requires-clause-built : goal.step-requires-clause-built
step-requires-clause-built c = subst IsBuilt c.self.view_is c.self.invariant.built

pub step-requires-clause-task : goal.step-requires-clause-task
step-requires-clause-task c = (all_popped (TaskFits c.args.self.now) c.tasks.tasks.items c.pop.new.self.items c.in-Some.task c.in-Some.ensures.items c.tasks.invariant.1).0

pub step-requires-clause-tasks : goal.step-requires-clause-tasks
step-requires-clause-tasks c = (all_popped (TaskFits c.args.self.now) c.tasks.tasks.items c.pop.new.self.items c.in-Some.task c.in-Some.ensures.items c.tasks.invariant.1).1

pub tasks-smaller : goal.tasks-smaller
tasks-smaller c = omega (arith, steps_popped c.args.self.now c.tasks.tasks.items c.pop.new.self.items c.in-Some.task c.in-Some.ensures.items, c.in_ok-step.ensures.fewer)

pub tasks-preserved : goal.tasks-preserved
tasks-preserved c = (
  pending_popped c.args.self.now c.tasks.tasks.items c.pop.new.self.items c.in-Some.task c.tasks.leaves.items c.step.new.leaves.items _ c.step.new.tasks.items c.in-Some.ensures.items c.tasks.invariant.0 c.in_ok-step.ensures,
  c.in_ok-step.ensures.fit,
)
