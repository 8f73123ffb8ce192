use Rattle.std.proofs.Common.{◌≡◌, ℕ, ◌<◌, false, length, get_or}
use Rattle.ep_bytes.specs.declared.types.Byte.TheVariants.{Undefined}
use Rattle.ep_bytes.specs.Cells.{cell_at}
use Rattle.ep_bytes.specs.StoreView.{AreLaid, block_of}
use Rattle.ep_bytes.proofs.store.Store.new.Given as goal

abbrev pub invariant-loop-size : goal.invariant-loop-size
invariant-loop-size l = record {
  count : length l.blocks.items ≡ l.size-index;
  laid : AreLaid l.blocks.items (length l.cells);
  sizes : (b : ℕ) → b < l.size-index → (block_of l.blocks.items b).size ≡ get_or l.sizes b 0;
  plain : (b : ℕ) → (block_of l.blocks.items b).is_zeroed ≡ false;
  undefined : (i : ℕ) → cell_at l.cells i ≡ Undefined;
}
