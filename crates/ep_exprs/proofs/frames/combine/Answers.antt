use Rattle.ep_exprs.proofs.PendingLemmas as pending
use Rattle.ep_exprs.proofs.frames.combine.Goals as goal

pub returns-in_ok-assign-in-Assign : goal.returns-in_ok-assign-in-Assign
returns-in_ok-assign-in-Assign c = λ N xs zs fs v. pending.assign_value N xs zs fs c.in-Assign.place c.args.value
    c.in_ok-assign-in-Assign.field-0 c.in-Assign.mark c.in_ok-assign-in-Assign.ensures (rw c.in-Assign.is at v)

pub returns-in-Question : goal.returns-in-Question
returns-in-Question c = λ N xs zs fs v. pending.ask_value N xs zs fs c.in-Question.test c.args.value
    (rw c.in-Question.is at v)

pub returns-in_ok-conditional-in-Colon : goal.returns-in_ok-conditional-in-Colon
returns-in_ok-conditional-in-Colon c = λ N xs zs fs v. pending.choice_value N xs zs fs c.in-Colon.test c.in-Colon.yes
    c.args.value c.in_ok-conditional-in-Colon.field-0 c.in_ok-conditional-in-Colon.ensures (rw c.in-Colon.is at v)
