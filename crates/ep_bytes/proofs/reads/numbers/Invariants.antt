use Rattle.std.proofs.Common.{◌≡◌, ℕ, ◌<◌, drop, map, length, get_or}
use Rattle.std.specs.List.{list_all}
use Rattle.ep_int.specs.Memory.{is_number, number_in}
use Rattle.ep_bytes.specs.View.{byte_in}
use Rattle.ep_bytes.specs.Cells.{cell_at}
use Rattle.ep_bytes.proofs.reads.numbers.Given as goal

abbrev pub invariant-loop-k : goal.invariant-loop-k
invariant-loop-k l = record {
  len : length l.all ≡ 8;
  numbers : list_all is_number (map byte_in (drop l.k l.bytes)) ≡ list_all is_number (map byte_in l.bytes);
  before : (p : ℕ) → p < l.k → get_or l.all p 0 ≡ number_in (byte_in (cell_at l.bytes p));
}
