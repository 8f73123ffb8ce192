use Rattle.std.proofs.Common.{◌∙◌}
use Rattle.ep_core.specs.ProgramView.{program_view}
use Rattle.ep_core.specs.View.{place_view}
use Rattle.ep_transfer_simple.proofs.Doing.{aggregate_next, aggregate_faults}
use Rattle.ep_transfer_simple.proofs.Laid.{inside_as}
use Rattle.ep_transfer_simple.proofs.objects.copy_aggregate.Goals as goal

pub copy-requires : goal.copy-requires
copy-requires g c =
    record {
      leaves = inside_as c.args.state.model c.args.program.now.types.model c.bytes_of-bytes.result _
          c.as_slice.result.now c.in_ok-leaves.leaves.items c.requires.model c.bytes_of-bytes.ensures
          c.as_slice.ensures.value c.in_ok-leaves.ensures.inside;
    }

pub returns-clause-next : goal.returns-clause-next
returns-clause-next g c =
    aggregate_next g.N.Num.ops (program_view c.args.program.now) c.args.mode c.args.state c.args.sizes.now c.requires.sizes
    c.args.ty c.bytes_of-bytes.result c.as_slice.result.now c.bytes_of-bytes.ensures
    (c.as_slice.ensures.value ∙ c.in_ok-leaves.ensures.value) (place_view c.args.to.now)
    (place_view c.args.from.now) c.in_ok-target.target c.in_ok-source.source c.in_ok-target.ensures.value
    c.in_ok-source.ensures.value _ c.in_ok-next.ensures.next

pub returns-clause-faults : goal.returns-clause-faults
returns-clause-faults g c =
    aggregate_faults g.N.Num.ops (program_view c.args.program.now) c.args.mode c.args.state c.args.sizes.now
    c.requires.sizes c.args.ty c.bytes_of-bytes.result c.as_slice.result.now c.bytes_of-bytes.ensures
    (c.as_slice.ensures.value ∙ c.in_ok-leaves.ensures.value) (place_view c.args.to.now)
    (place_view c.args.from.now) c.in_ok-target.target c.in_ok-source.source c.in_ok-target.ensures.value
    c.in_ok-source.ensures.value c.args.faults.now.items c.place_at.new.faults.items
    c.place_at-2.new.faults.items _ c.in_ok-target.ensures.faults c.in_ok-source.ensures.faults
    c.in_ok-next.ensures.faults
