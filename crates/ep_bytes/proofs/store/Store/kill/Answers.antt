use Rattle.std.proofs.Common.{◌≡◌, ◌<◌, [], ◌∷◌, length, slice_set, false, sym, ◌∙◌, ap, subst}
use Rattle.ep_int.specs.Memory.{killed}
use Rattle.ep_bytes.specs.declared.types.Byte.TheVariants.{Undefined}
use Rattle.ep_bytes.specs.declared.store.Block.{Block}
use Rattle.ep_bytes.specs.Cells.{IsWritten}
use Rattle.ep_bytes.specs.StoreView.{block_of, count_of, memory_in, memory_of}
use Rattle.ep_bytes.proofs.Stores.{marked, killed_in}
use Rattle.ep_bytes.proofs.store.Store.kill.Goals as goal

pub returns-clause-killed : goal.returns-clause-killed
returns-clause-killed c =
    let b = c.args.block in
    let blocks = c.self.inside.blocks.items in
    let old = c.self.inside.cells in
    let mid = c.forget.new.self in
    let new = c.undefine.new.self in
    let there : b < length blocks = subst (λ s. b < count_of s) (sym c.self.view_is) c.requires in
    let whole : c.block_at-whole.result ≡ block_of blocks b =
    c.block_at-whole.ensures ∙ ap (λ xs. block_of xs b) c.deref.ensures.value in
    let w = subst (λ (x : Block). IsWritten mid new x.start x.size (λ k. Undefined)) whole c.undefine.ensures in
    subst (λ (x : Block). memory_of (slice_set blocks b (marked x false)) new
    ≡ killed (b ∷ []) (memory_of blocks old)) (sym whole)
    (killed_in blocks old mid new b c.self.invariant there c.forget.ensures.len c.forget.ensures.forgotten w)
    ∙ ap (λ s. killed (b ∷ []) (memory_in s)) c.self.view_is
