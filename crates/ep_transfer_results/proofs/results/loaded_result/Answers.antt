use Rattle.ep_core.specs.Runs.{left, right}
use Rattle.ep_core.specs.ProgramView.{program_view}
use Rattle.ep_transfer_results.proofs.Loading.{loaded_pair, loaded_faults, loaded_fits}
use Rattle.ep_transfer_results.proofs.results.loaded_result.Goals as goal

pub returns-clause-value : goal.returns-clause-value
returns-clause-value g c =
    loaded_pair g.N.Num.ops (program_view c.args.program.now) c.args.mode c.args.home c.args.state.now c.args.sizes.now
    c.in_ok-place.place c.in_ok-value.value c.requires.sizes c.in_ok-place.ensures c.in_ok-value.ensures.value

pub returns-clause-left : goal.returns-clause-left
returns-clause-left g c =
    loaded_fits g.N.Num.ops (program_view c.args.program.now) c.args.mode c.args.home c.args.state.now g.met.N.Num.laws
    c.read_laws.ensures c.requires.model c.model.ensures.cells left c.in_ok-value.value (returns-clause-value g c)

pub returns-clause-right : goal.returns-clause-right
returns-clause-right g c =
    loaded_fits g.N.Num.ops (program_view c.args.program.now) c.args.mode c.args.home c.args.state.now g.met.N.Num.laws
    c.read_laws.ensures c.requires.model c.model.ensures.cells right c.in_ok-value.value (returns-clause-value g c)

pub returns-clause-faults : goal.returns-clause-faults
returns-clause-faults g c =
    loaded_faults g.N.Num.ops (program_view c.args.program.now) c.args.mode c.args.home c.args.state.now c.args.sizes.now
    c.in_ok-place.place c.args.faults.now.items c.load.new.faults.items c.requires.sizes c.in_ok-place.ensures
    c.in_ok-value.ensures.faults
