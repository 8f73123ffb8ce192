use Rattle.std.proofs.Common.{sym, ◌∙◌}
use Rattle.ep_state_synthesis.specs.Calls.{place_at}
use Rattle.ep_state_synthesis.proofs.Splits.{unsplit, holds_then}
use Rattle.ep_state_synthesis.proofs.splitting.split.Goals as goal

pub returns-then-not-partly-clause-ok : goal.returns-then-not-partly-clause-ok
returns-then-not-partly-clause-ok g c =
    unsplit g.N.Num.ops c.args.state.now (place_at c.args.side c.args.block c.args.offset c.args.bytes)
    (sym c.partly.ensures ∙ c.if-not-partly.true)

pub returns-then-not-partly-clause-holds : goal.returns-then-not-partly-clause-holds
returns-then-not-partly-clause-holds g c =
    holds_then g.N.Num.ops c.args.state.now c.args.state.now
    (place_at c.args.side c.args.block c.args.offset c.args.bytes) c.split_laws.ensures c.model.ensures.cells c.requires
    (unsplit g.N.Num.ops c.args.state.now (place_at c.args.side c.args.block c.args.offset c.args.bytes)
    (sym c.partly.ensures ∙ c.if-not-partly.true))

pub returns-clause-holds : goal.returns-clause-holds
returns-clause-holds g c =
    holds_then g.N.Num.ops c.args.state.now c.in_ok-after.after
    (place_at c.args.side c.args.block c.args.offset c.args.bytes) c.split_laws.ensures c.model.ensures.cells c.requires
    c.in_ok-after.ensures
