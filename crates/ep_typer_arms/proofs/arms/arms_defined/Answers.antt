use Rattle.std.proofs.Common.{◌≡◌, ◌∙◌, List, map, sym, subst, Ok}
use Rattle.std.proofs.lemmas.Result.{err_from_is_err_and}
use Rattle.ep_ast.specs.Statement.{function_of}
use Rattle.ep_typing.specs.Env as rule
use Rattle.ep_defined.specs.declared.sofar.Defined.{Defined}
use Rattle.ep_defined.specs.View.{defined}
use Rattle.ep_elaboration.specs.FunctionSteps.{others_typed}
use Rattle.ep_operands.specs.Refinement.{Stops}
use Rattle.ep_scopes.specs.View.{env}
use Rattle.ep_typer_functions.specs.BodyView.{body}
use Rattle.ep_typer_arms.specs.FileEnvironments.{first_arm}
use Rattle.ep_typer_arms.proofs.WholeArms.{arms_are, arms_differ, first_stops, second_stops}
use Rattle.ep_typer_arms.proofs.arms.arms_defined.Goals as goal

pub returns-then-not-agree-clause-means : goal.returns-then-not-agree-clause-means
returns-then-not-agree-clause-means c ds h =
    rw c.refused.ensures (arms_differ (env c.args.env.now) ds c.args.line c.args.order (map function_of c.args.first.now)
    (map function_of c.args.second.now) (sym c.if-not-agree.true ∙ c.in_ok-agree.ensures.means ds h))

pub returns-in_err-defined-clause-means : goal.returns-in_err-defined-clause-means
returns-in_err-defined-clause-means c ds h =
    let p = err_from_is_err_and c.from_residual-in_err-defined.result c.from_residual-in_err-defined.ensures.1 in
    let fs = map function_of c.args.first.now in
    let e = c.in_err-defined.field-0.0 in
    rw (p.1, p.2) (first_stops (env c.args.env.now) ds c.args.line c.args.order fs (map function_of c.args.second.now)
    (sym c.if-not-agree.false ∙ c.in_ok-agree.ensures.means ds h) e
    (subst (λ (E : rule.Env). Stops (first_arm E ds fs) e) c.in_ok-agree.ensures.same (c.in_err-defined.ensures.means ds h)))

pub returns-in_err-bodies-clause-means : goal.returns-in_err-bodies-clause-means
returns-in_err-bodies-clause-means c ds h =
    let p = err_from_is_err_and c.from_residual-in_err-bodies.result c.from_residual-in_err-bodies.ensures.1 in
    let H = env c.first_defined.new.env in
    let e = c.in_err-bodies.field-0.0 in
    let fs = map function_of c.args.first.now in
    let gs = map function_of c.args.second.now in
    let ones = map defined c.in_ok-defined.defined.items in
    rw (p.1, p.2) (second_stops (env c.args.env.now) ds c.args.line c.args.order fs gs
    (sym c.if-not-agree.false ∙ c.in_ok-agree.ensures.means ds h) ones H
    (subst (λ (E : rule.Env). first_arm E ds fs ≡ Ok (ones, H)) c.in_ok-agree.ensures.same (c.in_ok-defined.ensures.means ds h)) e
    (subst (λ (xs : List Defined). Stops (others_typed H ds (map defined xs) gs) e) c.deref.ensures.value
    (c.in_err-bodies.ensures.means ds h)))

pub returns-clause-means : goal.returns-clause-means
returns-clause-means c ds h =
    let H = env c.first_defined.new.env in
    let K = env c.others_typed.new.env in
    let bs = map body c.in_ok-bodies.bodies.items in
    let fs = map function_of c.args.first.now in
    let gs = map function_of c.args.second.now in
    let ones = map defined c.in_ok-defined.defined.items in
    arms_are (env c.args.env.now) ds c.args.line c.args.order fs gs
    (sym c.if-not-agree.false ∙ c.in_ok-agree.ensures.means ds h) ones H
    (subst (λ (E : rule.Env). first_arm E ds fs ≡ Ok (ones, H)) c.in_ok-agree.ensures.same (c.in_ok-defined.ensures.means ds h))
    bs K (map defined c.in_ok-all.all.items)
    (subst (λ (xs : List Defined). others_typed H ds (map defined xs) gs ≡ Ok (bs, K)) c.deref.ensures.value
    (c.in_ok-bodies.ensures.means ds h)) c.in_ok-all.ensures
