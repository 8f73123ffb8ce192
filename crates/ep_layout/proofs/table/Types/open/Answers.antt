use Rattle.std.proofs.Common.{◌∙◌, ap, Some}
use Rattle.std.proofs.lemmas.Result.{on_ok_weaker}
use Rattle.ep_int.specs.declared.types.Scalar.TheVariants.{Int as Number, Pointer}
use Rattle.ep_layout.specs.declared.table.leaves.Task.TheVariants.{Object, Elements, Members}
use Rattle.ep_layout.proofs.Steps.{none_pushed, leaf_pushed, one_pushed, void_step, number_step, pointer_step}
use Rattle.ep_layout.proofs.Steps.{array_instead, aggregate_instead}
use Rattle.ep_layout.proofs.table.Types.open.Goals as goal

pub returns-in-Void : goal.returns-in-Void
returns-in-Void c =
    let t = c.args.self.now in
    let s = void_step t c.requires.built c.args.ty c.args.offset (c.ty.ensures ∙ ap Some c.in-Void.is) in
    none_pushed t (Object c.args.ty c.args.offset) c.args.leaves.now.items c.args.tasks.now.items s.0 s.1 c.requires.tasks

pub returns-in-Int : goal.returns-in-Int
returns-in-Int c =
    let t = c.args.self.now in
    let s = number_step t c.requires.built c.args.ty c.args.offset c.in-Int.t (c.ty.ensures ∙ ap Some c.in-Int.is) in
    on_ok_weaker c.push_scalar.result (λ e. leaf_pushed t (Object c.args.ty c.args.offset) c.args.leaves.now.items c.push_scalar.new.leaves.items (record { offset = c.args.offset; what = Number c.in-Int.t }) c.args.tasks.now.items e s.0 s.1 c.requires.tasks) c.push_scalar.ensures

pub returns-in-Ptr : goal.returns-in-Ptr
returns-in-Ptr c =
    let t = c.args.self.now in
    let s = pointer_step t c.requires.built c.args.ty c.args.offset c.in-Ptr.field-0 (c.ty.ensures ∙ ap Some c.in-Ptr.is) in
    on_ok_weaker c.push_scalar-in-Ptr.result (λ e. leaf_pushed t (Object c.args.ty c.args.offset) c.args.leaves.now.items c.push_scalar-in-Ptr.new.leaves.items (record { offset = c.args.offset; what = Pointer }) c.args.tasks.now.items e s.0 s.1 c.requires.tasks) c.push_scalar-in-Ptr.ensures

pub returns-in-Array : goal.returns-in-Array
returns-in-Array c =
    let t = c.args.self.now in
    let i = array_instead t c.requires.built c.args.ty c.args.offset c.in-Array.element c.in-Array.count (c.ty.ensures ∙ ap Some c.in-Array.is) c.requires.task in
    on_ok_weaker c.push_task.result (λ e. one_pushed t (Object c.args.ty c.args.offset) (Elements c.in-Array.element c.args.offset c.in-Array.count) c.args.leaves.now.items c.args.tasks.now.items c.push_task.new.tasks.items e i.leaves i.fits i.fewer c.requires.tasks) c.push_task.ensures

pub returns-in-Aggregate : goal.returns-in-Aggregate
returns-in-Aggregate c =
    let t = c.args.self.now in
    let i = aggregate_instead t c.requires.built c.args.ty c.args.offset c.in-Aggregate.aggregate (c.ty.ensures ∙ ap Some c.in-Aggregate.is) c.requires.task in
    on_ok_weaker c.push_task-in-Aggregate.result (λ e. one_pushed t (Object c.args.ty c.args.offset) (Members c.in-Aggregate.aggregate c.args.offset 0) c.args.leaves.now.items c.args.tasks.now.items c.push_task-in-Aggregate.new.tasks.items e i.leaves i.fits i.fewer c.requires.tasks) c.push_task-in-Aggregate.ensures
