use Rattle.std.proofs.Common.{◌≡◌, ◌<◌, ◌^◌, slice_index}
use Rattle.ep_int.specs.Types.{bytes_of}
use Rattle.ep_int.specs.Encoding.{place, sum_of_bytes}
use Rattle.ep_bytes.proofs.numbers.decode.Given as goal

abbrev pub invariant-loop-k : goal.invariant-loop-k
invariant-loop-k l = record {
  unit : l.unit ≡ 256 ^ l.k;
  below : l.sum < l.unit;
  sum : l.sum ≡ sum_of_bytes (λ k. slice_index l.bytes (place l.order (bytes_of l.t) k)) l.k;
}
