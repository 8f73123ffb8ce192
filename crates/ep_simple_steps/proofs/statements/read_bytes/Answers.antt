use Rattle.std.proofs.Common.{ℕ, sym, ap, ◌∙◌}
use Rattle.ep_core.specs.Exec.{Outcome, bytewise_rest, counted, into}
use Rattle.ep_machine.specs.Settings.{program_in}
use Rattle.ep_machine.specs.Machines.{state_in}
use Rattle.ep_simple_steps.proofs.statements.read_bytes.Goals as goal

pub returns-in-Err-clause-comes : goal.returns-in-Err-clause-comes
returns-in-Err-clause-comes c left =
    let s = state_in c.args.machine.now in
    let go : ℕ → ℕ → Outcome
    = λ b q. bytewise_rest counted (into c.args.on.now.order (program_in c.args.on.now) b) c.args.n q left s in
    sym (c.in-Err.ensures.comes c.args.line go)

pub returns-then-n-eq0-clause-comes : goal.returns-then-n-eq0-clause-comes
returns-then-n-eq0-clause-comes c left =
    let s = state_in c.args.machine.now in
    let go : ℕ → ℕ → Outcome
    = λ b q. bytewise_rest counted (into c.args.on.now.order (program_in c.args.on.now) b) c.args.n q left s in
    ap (λ k. bytewise_rest counted (into c.args.on.now.order (program_in c.args.on.now) c.in-Ok.at.0) k c.in-Ok.at.1 left s) (sym c.if-n-eq0.true)
    ∙ sym (c.in-Ok.ensures.comes c.args.line go)

pub returns-else-n-eq0-clause-comes : goal.returns-else-n-eq0-clause-comes
returns-else-n-eq0-clause-comes c left =
    let s = state_in c.args.machine.now in
    let go : ℕ → ℕ → Outcome
    = λ b q. bytewise_rest counted (into c.args.on.now.order (program_in c.args.on.now) b) c.args.n q left s in
    c.read_byte.ensures.comes left ∙ sym (c.in-Ok.ensures.comes c.args.line go)
