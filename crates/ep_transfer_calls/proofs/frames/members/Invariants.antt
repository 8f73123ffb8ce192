use Rattle.std.proofs.Common.{◌≡◌, ℕ, ◌||◌, drop}
use Rattle.ep_int.specs.Memory.{contains}
use Rattle.ep_transfer_calls.proofs.frames.members.Given as goal

abbrev pub invariant-loop-b : goal.invariant-loop-b
invariant-loop-b l = (n : ℕ) → (contains n l.all.keys || contains n (drop l.b-index l.blocks)) ≡ contains n l.fn.blocks
