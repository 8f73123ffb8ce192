use Rattle.ep_state_ranges.proofs.cuts.cut.Goals as goal

pub returns-clause-state : goal.returns-clause-state
returns-clause-state g c = c.in_ok-after.ensures.state

pub returns-clause-held : goal.returns-clause-held
returns-clause-held g c = c.in_ok-after.ensures.forms
