use Rattle.std.proofs.Common.{sym, subst}
use Rattle.ep_reads.specs.Laws.{ReadHolds, FitsRead}
use Rattle.ep_state_synthesis.proofs.reading.read.Goals as goal

pub returns-clause-holds : goal.returns-clause-holds
returns-clause-holds g c =
    subst (ReadHolds g.N.Num.ops c.args.state.now c.args.side c.args.block c.args.offset c.args.what)
    (sym c.in_ok-value.ensures)
    (c.read_laws.ensures.holds c.args.state.now c.args.side c.args.block c.args.offset c.args.what
    c.model.ensures.cells)

pub returns-clause-fits : goal.returns-clause-fits
returns-clause-fits g c =
    subst (FitsRead c.args.state.now.cells c.args.what) (sym c.in_ok-value.ensures)
    (c.read_laws.ensures.fits c.args.state.now c.args.side c.args.block c.args.offset c.args.what c.model.ensures.cells)
