use Rattle.std.proofs.Common.{◌≡◌, ℕ, ◌<◌, ◌≤◌, get_or, length}
use Rattle.ep_int.specs.Encoding.{byte_of, place}
use Rattle.ep_bytes.proofs.numbers.encode.Given as goal

abbrev pub invariant-loop-p : goal.invariant-loop-p
invariant-loop-p l = record {
  len : length l.all ≡ 8;
  before : (q : ℕ) → q < l.p → get_or l.all q 0 ≡ byte_of (place l.order l.width q) l.n;
  after : (q : ℕ) → l.p ≤ q → get_or l.all q 0 ≡ 0;
}
