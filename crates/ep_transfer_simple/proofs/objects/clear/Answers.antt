use Rattle.std.proofs.Common.{◌∙◌}
use Rattle.ep_core.specs.ProgramView.{program_view}
use Rattle.ep_core.specs.View.{place_view}
use Rattle.ep_transfer_simple.proofs.Doing.{clear_next, clear_faults}
use Rattle.ep_transfer_simple.proofs.Laid.{inside_as}
use Rattle.ep_transfer_simple.proofs.objects.clear.Goals as goal

pub cleared-requires : goal.cleared-requires
cleared-requires g c =
    inside_as c.args.state.model c.args.program.now.types.model c.bytes_of-bytes.result _ c.deref.result.now
    c.in_ok-leaves.leaves.items c.requires.model c.bytes_of-bytes.ensures c.deref.ensures.value
    c.in_ok-leaves.ensures.inside

pub returns-clause-next : goal.returns-clause-next
returns-clause-next g c =
    clear_next g.N.Num.ops (program_view c.args.program.now) c.args.mode c.args.state c.args.sizes.now c.requires.sizes
    c.args.ty c.bytes_of-bytes.result c.deref.result.now c.bytes_of-bytes.ensures
    (c.deref.ensures.value ∙ c.in_ok-leaves.ensures.value) (place_view c.args.a.now) c.in_ok-to.to
    c.in_ok-to.ensures.value _ c.in_ok-next.ensures.next

pub returns-clause-faults : goal.returns-clause-faults
returns-clause-faults g c =
    clear_faults g.N.Num.ops (program_view c.args.program.now) c.args.mode c.args.state c.args.sizes.now c.requires.sizes
    c.args.ty c.bytes_of-bytes.result c.deref.result.now c.bytes_of-bytes.ensures
    (c.deref.ensures.value ∙ c.in_ok-leaves.ensures.value) (place_view c.args.a.now) c.in_ok-to.to
    c.in_ok-to.ensures.value c.args.faults.now.items c.place_at.new.faults.items _ c.in_ok-to.ensures.faults
    c.in_ok-next.ensures.faults
