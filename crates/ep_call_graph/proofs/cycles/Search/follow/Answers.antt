use Rattle.std.proofs.Common.{sym}
use Rattle.ep_call_graph.specs.Search.{tops}
use Rattle.ep_call_graph.specs.View.{listed}
use Rattle.ep_call_graph.proofs.Steps.{taken, leads_to, settled_done}
use Rattle.ep_call_graph.proofs.cycles.Search.follow.Goals as goal

pub open-requires-clause-stands : goal.open-requires-clause-stands
open-requires-clause-stands c =
    (taken (listed c.args.callees.now) c.args.self.now.marks.items c.args.self.now.path.items (tops c.args.self.now.groups.items)
    c.args.self.now.pending.items c.pop.new.self.items c.args.self.now.done c.in-Some.callee c.in-Some.ensures.items c.requires.waits c.requires.stands).0

pub open-requires-clause-inside : goal.open-requires-clause-inside
open-requires-clause-inside c =
    let t = taken (listed c.args.callees.now) c.args.self.now.marks.items c.args.self.now.path.items (tops c.args.self.now.groups.items)
    c.args.self.now.pending.items c.pop.new.self.items c.args.self.now.done c.in-Some.callee c.in-Some.ensures.items c.requires.waits c.requires.stands in
    (c.requires.all t.1.caller c.in-Some.callee t.1.calls).1

pub open-requires-clause-led : goal.open-requires-clause-led
open-requires-clause-led c =
    let t = taken (listed c.args.callees.now) c.args.self.now.marks.items c.args.self.now.path.items (tops c.args.self.now.groups.items)
    c.args.self.now.pending.items c.pop.new.self.items c.args.self.now.done c.in-Some.callee c.in-Some.ensures.items c.requires.waits c.requires.stands in
    leads_to (listed c.args.callees.now) c.args.self.now.marks.items c.args.self.now.path.items (tops c.args.self.now.groups.items)
    c.pop.new.self.items c.args.self.now.done c.in-Some.callee t.0 t.1

pub join-requires-clause-stands : goal.join-requires-clause-stands
join-requires-clause-stands c =
    (taken (listed c.args.callees.now) c.args.self.now.marks.items c.args.self.now.path.items (tops c.args.self.now.groups.items)
    c.args.self.now.pending.items c.pop.new.self.items c.args.self.now.done c.in-Some.callee c.in-Some.ensures.items c.requires.waits c.requires.stands).0

pub join-requires-clause-called : goal.join-requires-clause-called
join-requires-clause-called c =
    (taken (listed c.args.callees.now) c.args.self.now.marks.items c.args.self.now.path.items (tops c.args.self.now.groups.items)
    c.args.self.now.pending.items c.pop.new.self.items c.args.self.now.done c.in-Some.callee c.in-Some.ensures.items c.requires.waits c.requires.stands).1

pub returns-in-Done-clause-stands : goal.returns-in-Done-clause-stands
returns-in-Done-clause-stands c =
    settled_done (listed c.args.callees.now) c.args.self.now.marks.items c.args.self.now.path.items (tops c.args.self.now.groups.items)
    c.pop.new.self.items c.args.self.now.done c.in-Some.callee _
    (taken (listed c.args.callees.now) c.args.self.now.marks.items c.args.self.now.path.items (tops c.args.self.now.groups.items)
    c.args.self.now.pending.items c.pop.new.self.items c.args.self.now.done c.in-Some.callee c.in-Some.ensures.items c.requires.waits c.requires.stands).0
    (sym c.in-Done.ensures)
