use Rattle.std.proofs.Common.{◌≡◌, ◌+◌, drop}
use Rattle.ep_state_ranges.specs.InRow.{IsRow, row_bytes}
use Rattle.ep_state_ranges.proofs.Whole.{row_turn, end_turn, row_ends, end_ends}
use Rattle.ep_state_ranges.proofs.facing.row_end.Given as goal

abbrev pub invariant-loop-q : goal.invariant-loop-q
invariant-loop-q l = record {
  row : IsRow l.block l.at l.bytes (drop l.q-index l.spots) → IsRow l.block l.fn.offset l.bytes l.spots;
  end : l.at + row_bytes l.bytes (drop l.q-index l.spots) ≡ l.fn.offset + row_bytes l.bytes l.spots;
}
