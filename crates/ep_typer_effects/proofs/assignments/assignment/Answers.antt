use Rattle.std.proofs.Common.{◌≡◌, ap, nat_eq, false, arith}
use Rattle.std.proofs.lemmas.Bool.Decides.{nat_tests}
use Rattle.ep_ast.specs.declared.marks.Mark.TheVariants as marks
use Rattle.ep_ast.specs.Mark.{equal, mark_number}
use Rattle.ep_ast.proofs.Numbers.{same_mark}
use Rattle.ep_core.specs.View.{what_view}
use Rattle.ep_stores.proofs.StoreLemmas.{same_gives}
use Rattle.ep_scopes.specs.View.{env}
use Rattle.ep_typer_effects.proofs.Shapes.{compound_is, plain_is}
use Rattle.ep_typer_effects.proofs.assignments.assignment.Goals as goal

pub returns-in-Equal : goal.returns-in-Equal
returns-in-Equal c =
    same_gives what_view _ _ c.plainly_assigned.result
    (plain_is (env c.args.env.now) c.args.may_call c.args.line (mark_number c.args.mark) _ _
    (ap mark_number c.in-Equal.is)) c.plainly_assigned.ensures

pub returns-in_default : goal.returns-in_default
returns-in_default c =
    let apart : mark_number c.args.mark ≡ equal → ⊥ =
    λ e. c.in_default.not-Equal (same_mark c.args.mark marks.Equal e) in
    let other : nat_eq (mark_number c.args.mark) equal ≡ false = grind (arith, nat_tests) in
    same_gives what_view _ _ c.compoundly_assigned.result
    (compound_is (env c.args.env.now) c.args.may_call c.args.line
    (mark_number c.args.mark) _ _ other) c.compoundly_assigned.ensures
