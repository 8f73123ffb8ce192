use Rattle.std.proofs.Common.{sym, ◌∙◌}
use Rattle.ep_flows.specs.View.{plan_of}
use Rattle.ep_certcheck_walk.specs.Stops.{course, nothing_more}
use Rattle.ep_certcheck_walk.proofs.Kept.{err_gives, is_outside, is_within}
use Rattle.ep_certcheck_walk.proofs.given.stay_within.Goals as goal

pub returns-then-leq : goal.returns-then-leq
returns-then-leq g c =
    λ line hs at. (
      is_within (course g.K.AbstractStates.ops g.K.CheckedStates.first_outside
          (plan_of c.args.c.now) hs) c.args.number line c.args.head.now c.args.state c.in_ok-copy.copy
          (c.in_ok-state.field-0-0, c.in_ok-state.state) c.in_ok-copy.ensures c.in_ok-state.ensures
          (sym c.leq.ensures ∙ c.if-leq.true),
      tt,
    )

pub first_outside-requires : goal.first_outside-requires
first_outside-requires g c =
    sym c.leq.ensures ∙ c.if-leq.false

pub returns : goal.returns
returns g c =
    λ line hs at. is_outside (course g.K.AbstractStates.ops g.K.CheckedStates.first_outside
    (plan_of c.args.c.now) hs) c.args.number line c.args.head.now c.args.state c.in_ok-copy.copy
    (c.in_ok-state.field-0-0, c.in_ok-state.state) c.in_ok-copy.ensures c.in_ok-state.ensures c.in_ok-cell.cell at
    (sym c.leq.ensures ∙ c.if-leq.false) c.in_ok-cell.ensures

pub returns-in_err-copy : goal.returns-in_err-copy
returns-in_err-copy g c =
    λ line hs at. err_gives (course g.K.AbstractStates.ops g.K.CheckedStates.first_outside
    (plan_of c.args.c.now) hs) _ nothing_more c.from_residual.result _ c.from_residual.ensures.1 tt

pub returns-in_err-state : goal.returns-in_err-state
returns-in_err-state g c =
    λ line hs at. err_gives (course g.K.AbstractStates.ops g.K.CheckedStates.first_outside
    (plan_of c.args.c.now) hs) _ nothing_more c.from_residual-in_err-state.result _
    c.from_residual-in_err-state.ensures.1 tt

pub returns-in_err-cell : goal.returns-in_err-cell
returns-in_err-cell g c =
    λ line hs at. err_gives (course g.K.AbstractStates.ops g.K.CheckedStates.first_outside
    (plan_of c.args.c.now) hs) _ nothing_more c.from_residual-in_err-cell.result _
    c.from_residual-in_err-cell.ensures.1 tt
