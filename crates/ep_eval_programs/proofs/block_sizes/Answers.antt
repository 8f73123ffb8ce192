use Rattle.std.proofs.Common.{◌∙◌, ap, map}
use Rattle.ep_core.proofs.Basics.{sizes_of_view}
use Rattle.ep_core.specs.declared.program.BlockInfo.{BlockInfo}
use Rattle.ep_eval_programs.proofs.block_sizes.Goals as goal

pub returns-in-Ok : goal.returns-in-Ok
returns-in-Ok c =
    c.in-Ok.ensures ∙ ap (map (λ (b : BlockInfo). b.size)) c.deref.ensures.value
    ∙ sizes_of_view c.args.program.now.blocks.items
