use Rattle.std.proofs.Common.{◌≡◌, ◌<◌, length, slice_set, true, sym, ◌∙◌, ap, subst}
use Rattle.ep_int.specs.Memory.{zeroed}
use Rattle.ep_bytes.specs.declared.types.Byte.TheVariants.{Number}
use Rattle.ep_bytes.specs.declared.store.Block.{Block}
use Rattle.ep_bytes.specs.Cells.{IsWritten}
use Rattle.ep_bytes.specs.StoreView.{block_of, count_of, memory_in, memory_of}
use Rattle.ep_bytes.proofs.Stores.{marked, zeroed_in}
use Rattle.ep_bytes.proofs.store.Store.zero.Goals as goal

pub returns-clause-zeroed : goal.returns-clause-zeroed
returns-clause-zeroed c =
    let b = c.args.block in
    let blocks = c.self.inside.blocks.items in
    let old = c.self.inside.cells in
    let new = c.write.new.self in
    let there : b < length blocks = subst (λ s. b < count_of s) (sym c.self.view_is) c.requires in
    let whole : c.block_at-whole.result ≡ block_of blocks b =
    c.block_at-whole.ensures ∙ ap (λ xs. block_of xs b) c.deref.ensures.value in
    let w = subst (λ (x : Block). IsWritten old new x.start x.size (λ k. Number 0)) whole c.write.ensures in
    subst (λ (x : Block). memory_of (slice_set blocks b (marked x true)) new ≡ zeroed (memory_of blocks old) b)
    (sym whole)
    (zeroed_in blocks old new b c.self.invariant there w)
    ∙ ap (λ s. zeroed (memory_in s) b) c.self.view_is
