use Rattle.std.proofs.Common.{ap, sym, ◌∙◌, pos, int_lt, false}
use Rattle.std.specs.Option.{option_map}
use Rattle.ep_cells.specs.declared.cell.Value.TheVariants.{Ptr}
use Rattle.ep_evaluation.specs.Evaluation.{formless}
use Rattle.ep_evaluation.specs.Given.{shows_if}
use Rattle.ep_pointers.specs.Sum.{move, shown_of}
use Rattle.ep_eval_places.proofs.ElementSums.{element_sum, passes}
use Rattle.ep_eval_places.proofs.elements.found_at.Goals as goal

pub returns-clause-side : goal.returns-clause-side
returns-clause-side g c =
    c.formless.ensures ∙ ap (formless g.N.Num.ops) (c.pointer_value.ensures ∙ ap (option_map (λ p. Ptr p))
    (element_sum g.N.Num.ops c.args.i.now c.args.unit c.args.p.now c.targets.result.now c.deref.result.now
    c.in_ok-limits.limits.items c.in_ok-sum.sum.value c.in_ok-sum.ensures.value c.deref.ensures.value
    c.in_ok-limits.ensures c.targets.ensures.all))

pub returns-clause-passes : goal.returns-clause-passes
returns-clause-passes g c =
    let m = move c.args.i.now c.args.unit false in
    let s = c.in_ok-sum.ensures.shown in
    c.passes_if.ensures ∙ ap (λ s. shows_if (int_lt (pos 4294967295) s.1) s) s
    ∙ ap (λ b. shows_if b (shown_of g.N.Num.ops m c.args.p.now.targets)) (passes g.N.Num.ops m c.args.p.now.targets)
