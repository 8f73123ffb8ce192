use Rattle.std.proofs.Common.{◌≤◌, ◌∙◌, sym, subst}
use Rattle.ep_core.proofs.Tables.{no_leaves}
use Rattle.ep_transfer_blocks.proofs.blocks.leaves_of.Goals as goal

pub returns-then-block-type_count : goal.returns-then-block-type_count
returns-then-block-type_count c =
    c.new.ensures.items
    ∙ sym (no_leaves c.args.program.now.types c.args.block.now.ty
    (subst (λ k. k ≤ c.args.block.now.ty) c.type_count.ensures c.if-block-type_count.true))
