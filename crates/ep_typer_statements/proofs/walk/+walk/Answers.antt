use Rattle.std.proofs.Common.{ap, map, sym, subst}
use Rattle.std.proofs.lemmas.Result.{err_from_is_err_and}
use Rattle.ep_ast.specs.Statement.{Stmt, stmt_of}
use Rattle.ep_core.specs.View.{what_view}
use Rattle.ep_declared.specs.Refinement.{RefinesIn}
use Rattle.ep_elaboration.specs.Statements.{statement}
use Rattle.ep_scopes.specs.View.{env}
use Rattle.ep_declared.specs.View.{line}
use Rattle.ep_typer_statements.specs.View.{lines}
use Rattle.ep_typer_statements.proofs.Trees.{arm_is, arms_stop, block_tree, do_tree, for_tree, second_stops}
use Rattle.ep_typer_statements.proofs.Trees.{two_arms_are, while_tree}
use Rattle.ep_typer_statements.proofs.walk.+walk.Goals as goal

pub part-returns-in_err-a-in-Arms-clause-means : goal.part-returns-in_err-a-in-Arms-clause-means
part-returns-in_err-a-in-Arms-clause-means t c =
    let p = err_from_is_err_and c.from_residual-in_err-a-in-Arms.result c.from_residual-in_err-a-in-Arms.ensures.1 in
    rw (p.1, p.2) (arms_stop (env c.args.env.now) c.args.result_type c.args.in_loop c.in-Arms.line c.in-Arms.order
    c.args.tree.now c.in-Arms.then c.in-Arms.otherwise c.deref.result.now c.in-Arms.is c.deref.ensures.value _
    c.in_err-a-in-Arms.ensures.means)

pub part-returns-in_err-b-in-Some-clause-means : goal.part-returns-in_err-b-in-Some-clause-means
part-returns-in_err-b-in-Some-clause-means t c =
    let p = err_from_is_err_and c.from_residual-in_err-b-in-Some.result c.from_residual-in_err-b-in-Some.ensures.1 in
    rw (p.1, p.2) (second_stops (env c.args.env.now) c.args.result_type c.args.in_loop c.in-Arms.line c.in-Arms.order
    c.args.tree.now c.in-Arms.then c.in-Arms.otherwise c.deref.result.now c.in-Arms.is c.deref.ensures.value
    c.in-Some.list c.deref-in-Some.result.now c.in-Some.is c.deref-in-Some.ensures.value
    (env c.arm.new.env) (env c.leave.new.env) (lines c.in_ok-a-in-Arms.a) _
    c.in_ok-a-in-Arms.ensures.means c.leave.ensures.means c.in_err-b-in-Some.ensures.means)

pub part-returns-in_ok-lines-in-None-clause-means : goal.part-returns-in_ok-lines-in-None-clause-means
part-returns-in_ok-lines-in-None-clause-means t c =
    arm_is (env c.args.env.now) c.args.result_type c.args.in_loop c.in-Arms.line c.in-Arms.order
    c.args.tree.now c.in-Arms.then c.in-Arms.otherwise c.deref.result.now c.in-Arms.is c.deref.ensures.value
    (env c.arm.new.env) (env c.leave.new.env) (lines c.in_ok-a-in-Arms.a) (lines c.in_ok-lines-in-None.lines)
    (lines c.new.result) (what_view c.by_order-what.result) c.in-None.is c.in_ok-a-in-Arms.ensures.means
    c.leave.ensures.means (ap (map line) c.new.ensures.items) c.by_order-what.ensures c.in_ok-lines-in-None.ensures

pub part-returns-in_ok-lines-in-Some-clause-means : goal.part-returns-in_ok-lines-in-Some-clause-means
part-returns-in_ok-lines-in-Some-clause-means t c =
    two_arms_are (env c.args.env.now) c.args.result_type c.args.in_loop c.in-Arms.line c.in-Arms.order
    c.args.tree.now c.in-Arms.then c.in-Arms.otherwise c.deref.result.now c.in-Arms.is c.deref.ensures.value
    c.in-Some.list c.deref-in-Some.result.now c.in-Some.is c.deref-in-Some.ensures.value
    (env c.arm.new.env) (env c.leave.new.env) (env c.arm-in-Some.new.env) (env c.leave-in-Some.new.env)
    (lines c.in_ok-a-in-Arms.a) (lines c.in_ok-b-in-Some.b) (lines c.in_ok-lines-in-Some.lines)
    (what_view c.by_order.result) c.in_ok-a-in-Arms.ensures.means c.leave.ensures.means
    c.in_ok-b-in-Some.ensures.means c.leave-in-Some.ensures.means c.by_order.ensures c.in_ok-lines-in-Some.ensures

pub statement-returns-in-Block-clause-means : goal.statement-returns-in-Block-clause-means
statement-returns-in-Block-clause-means t c =
    subst (λ (s : Stmt). RefinesIn lines (statement (env c.args.env.now) c.args.result_type c.args.in_loop s) (env c.block.new.env) c.block.result)
    (sym (block_tree c.in-Block.line c.args.tree.now c.in-Block.list c.deref.result.now c.in-Block.is c.deref.ensures.value))
    c.block.ensures.means

pub statement-returns-in-While-clause-means : goal.statement-returns-in-While-clause-means
statement-returns-in-While-clause-means t c =
    subst (λ (s : Stmt). RefinesIn lines (statement (env c.args.env.now) c.args.result_type c.args.in_loop s) (env c.while_loop.new.env) c.while_loop.result)
    (sym (while_tree c.in-While.line c.args.tree.now c.deref-in-While.result.now c.in-While.e c.in-While.turn c.in-While.is c.deref-in-While.ensures))
    (c.while_loop.ensures.means c.args.in_loop)

pub statement-returns-in-Do-clause-means : goal.statement-returns-in-Do-clause-means
statement-returns-in-Do-clause-means t c =
    subst (λ (s : Stmt). RefinesIn lines (statement (env c.args.env.now) c.args.result_type c.args.in_loop s) (env c.do_loop.new.env) c.do_loop.result)
    (sym (do_tree c.in-Do.line c.args.tree.now c.deref-in-Do.result.now c.in-Do.e c.in-Do.turn c.in-Do.is c.deref-in-Do.ensures))
    (c.do_loop.ensures.means c.args.in_loop)

pub statement-returns-in-For-clause-means : goal.statement-returns-in-For-clause-means
statement-returns-in-For-clause-means t c =
    subst (λ (s : Stmt). RefinesIn lines (statement (env c.args.env.now) c.args.result_type c.args.in_loop s) (env c.for_loop.new.env) c.for_loop.result)
    (sym (for_tree c.in-For.line c.args.tree.now c.deref-in-For-2.result.now c.deref-in-For.result.now c.in-For.heading c.in-For.turn c.in-For.is
    c.deref-in-For.ensures c.deref-in-For-2.ensures))
    (c.for_loop.ensures.means c.args.in_loop)

pub statement-returns-in-Return-clause-means : goal.statement-returns-in-Return-clause-means
statement-returns-in-Return-clause-means t c =
    subst (λ (s : Stmt). RefinesIn lines (statement (env c.args.env.now) c.args.result_type c.args.in_loop s) (env c.returned.new.env) c.returned.result)
    (sym (ap stmt_of c.in-Return.is)) (c.returned.ensures.means c.args.in_loop)
