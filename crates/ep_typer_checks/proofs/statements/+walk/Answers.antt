use Rattle.std.proofs.lemmas.Result.{on_ok_weaker}
use Rattle.ep_ast.specs.Statement.{first_of, stmt_of}
use Rattle.ep_elaboration.specs.Calls.{first_stands, stands}
use Rattle.ep_scopes.specs.View.{env}
use Rattle.ep_typer_checks.specs.View.{number, call_site}
use Rattle.ep_typer_checks.proofs.Adding.{both}
use Rattle.ep_typer_checks.proofs.Standing.{in_arm, in_arms, in_block, in_do, in_else, in_for, in_then, in_while, whole}
use Rattle.ep_typer_checks.proofs.statements.+walk.Goals as goal

pub part-returns-in-None : goal.part-returns-in-None
part-returns-in-None t c =
    in_arm (call_site (number (env c.args.env.now)) c.args.caller) c.args.all.now.items c.enter.new.all.items c.statements.new.all.items
    c.args.round c.in_ok-depth-in-Arms.depth c.in_ok-depth-in-Arms.ensures.depth (c.in_ok-depth-in-Arms.ensures.adds (number (env c.args.env.now)))
    c.args.tree.now c.in-Arms.field-0 c.in-Arms.field-1 c.in-Arms.then c.in-Arms.otherwise c.deref-in-Arms.result.now c.in-Arms.is c.in-None.is
    c.deref-in-Arms.ensures.value c.in_ok-statements-in-Arms.ensures

pub part-returns-in_ok-statements-in-Some : goal.part-returns-in_ok-statements-in-Some
part-returns-in_ok-statements-in-Some t c =
    in_arms (call_site (number (env c.args.env.now)) c.args.caller) c.args.all.now.items c.enter.new.all.items c.statements-in-Some.new.all.items
    c.args.round c.in_ok-depth-in-Arms.depth c.in_ok-depth-in-Arms.ensures.depth (c.in_ok-depth-in-Arms.ensures.adds (number (env c.args.env.now)))
    c.args.tree.now c.in-Arms.field-0 c.in-Arms.field-1 c.in-Arms.then c.in-Some.others c.in-Arms.otherwise c.deref-in-Arms.result.now
    c.deref-in-Some.result.now c.statements.new.all.items c.in-Arms.is c.in-Some.is c.deref-in-Arms.ensures.value c.deref-in-Some.ensures.value
    c.in_ok-statements-in-Arms.ensures c.in_ok-statements-in-Some.ensures

pub statement-returns : goal.statement-returns
statement-returns t c =
    on_ok_weaker c.inner.result
    (whole (call_site (number (env c.args.env.now)) c.args.caller) c.args.all.now.items c.push.new.self.items c.inner.new.all.items
    c.args.round c.in_ok-depth.depth c.in_ok-place.place (stmt_of c.args.tree.now) c.in_ok-depth.ensures.means c.in_ok-push.ensures.items
    c.in_ok-place.ensures) c.inner.ensures

pub inner-returns-in-Block : goal.inner-returns-in-Block
inner-returns-in-Block t c =
    rw (in_block c.args.depth c.args.tree.now c.in-Block.field-0 c.in-Block.items c.deref.result.now c.in-Block.is c.deref.ensures.value)
    c.parts.ensures

pub inner-returns-in-None : goal.inner-returns-in-None
inner-returns-in-None t c =
    rw (in_then c.args.depth c.args.tree.now c.deref-in-If.result.now c.in-If.field-0 c.in-If.field-1 c.in-If.then c.in-If.otherwise
    c.in-If.is c.in-None.is c.deref-in-If.ensures) c.in_ok-statement-in-If.ensures

pub inner-returns-in-Some : goal.inner-returns-in-Some
inner-returns-in-Some t c =
    rw (in_else c.args.depth c.args.tree.now c.deref-in-If.result.now c.deref-in-Some.result.now c.in-If.field-0 c.in-If.field-1
    c.in-If.then c.in-Some.other c.in-If.otherwise c.in-If.is c.in-Some.is c.deref-in-If.ensures c.deref-in-Some.ensures)
    (on_ok_weaker c.statement-in-Some.result
    (both (call_site (number (env c.args.env.now)) c.args.caller) c.args.all.now.items c.statement.new.all.items c.statement-in-Some.new.all.items
    (stands c.args.depth (stmt_of c.deref-in-If.result.now)) (stands c.args.depth (stmt_of c.deref-in-Some.result.now))
    c.in_ok-statement-in-If.ensures) c.statement-in-Some.ensures)

pub inner-returns-in-While : goal.inner-returns-in-While
inner-returns-in-While t c =
    rw (in_while c.args.depth c.args.tree.now c.deref-in-While.result.now c.in-While.field-0 c.in-While.field-1 c.in-While.turn c.in-While.is
    c.deref-in-While.ensures) c.statement-in-While.ensures

pub inner-returns-in-Do : goal.inner-returns-in-Do
inner-returns-in-Do t c =
    rw (in_do c.args.depth c.args.tree.now c.deref-in-Do.result.now c.in-Do.field-0 c.in-Do.field-2 c.in-Do.turn c.in-Do.is
    c.deref-in-Do.ensures) c.statement-in-Do.ensures

pub inner-returns-in_ok-first-in-For : goal.inner-returns-in_ok-first-in-For
inner-returns-in_ok-first-in-For t c =
    rw (in_for c.args.depth c.args.tree.now c.deref-in-For-2.result.now c.in-For.field-0 c.in_ok-deeper-in-For.deeper c.in-For.heading
    c.in-For.turn c.deref-in-For.result.now c.in-For.is c.deref-in-For.ensures c.deref-in-For-2.ensures c.in_ok-deeper-in-For.ensures.means)
    (on_ok_weaker c.statement-in-For.result
    (both (call_site (number (env c.args.env.now)) c.args.caller) c.args.all.now.items c.first.new.all.items c.statement-in-For.new.all.items
    (first_stands c.in_ok-deeper-in-For.deeper (first_of c.deref-in-For.result.now.first))
    (stands c.args.depth (stmt_of c.deref-in-For-2.result.now)) c.in_ok-first-in-For.ensures) c.statement-in-For.ensures)
