use Rattle.std.proofs.Common.{◌≡◌, ◌∙◌, ◌+◌, ◌-◌, ℕ, suc, Option, unwrap_or, ap, sym, arith}
use Rattle.std.proofs.lemmas.Result.{on_ok_weaker}
use Rattle.ep_layout.specs.declared.table.leaves.Task.TheVariants.{Object, Elements}
use Rattle.ep_layout.proofs.Steps.{none_pushed, two_pushed, no_bytes, no_elements, elements_step, known_size}
use Rattle.ep_layout.proofs.table.Types.next_element.Goals as goal
use Rattle.ep_layout.proofs.table.Types.next_element.Goals.{then-count-eq0-via-then-count-eq0}
use Rattle.ep_layout.proofs.table.Types.next_element.Goals.{then-count-eq0-via-else-count-eq0+then-size-eq0}

pub returns-then-count-eq0 : goal.returns-then-count-eq0
returns-then-count-eq0 c =
    let t = c.args.self.now in
    none_pushed t (Elements c.args.ty c.args.offset c.args.count) c.args.leaves.now.items c.args.tasks.now.items
    (elim c.then-count-eq0.branch [
      | then-count-eq0-via-then-count-eq0 w ↦ no_elements t c.args.ty c.args.offset c.args.count (omega (arith, w.if-count-eq0.true))
      | then-count-eq0-via-else-count-eq0+then-size-eq0 w ↦ no_bytes t c.args.ty c.args.offset c.args.count (ap (λ (o : Option ℕ). unwrap_or o 0) (sym c.size.ensures.value) ∙ sym c.unwrap_or-size.ensures ∙ w.if-size-eq0.true)
    ])
    (omega arith) c.requires.tasks

pub returns : goal.returns
returns c =
    let t = c.args.self.now in
    let k = c.args.count - 1 in
    let some : c.args.count ≡ suc k = omega (arith, c.if-count-eq0.false) in
    let s = elements_step t c.args.ty c.args.offset c.args.count c.unwrap_or-size.result k (c.unwrap_or-size.ensures ∙ ap (λ (o : Option ℕ). unwrap_or o 0) c.size.ensures.value ∙ known_size t c.args.ty) some c.requires.task in
    on_ok_weaker c.push_task-2.result (λ e. two_pushed t (Elements c.args.ty c.args.offset c.args.count) (Elements c.args.ty (c.args.offset + c.unwrap_or-size.result) k) (Object c.args.ty c.args.offset) c.args.leaves.now.items c.args.tasks.now.items c.push_task.new.tasks.items c.push_task-2.new.tasks.items
    c.in_ok-push_task.ensures e s.0 s.1 s.2 s.3 c.requires.tasks) c.push_task-2.ensures
