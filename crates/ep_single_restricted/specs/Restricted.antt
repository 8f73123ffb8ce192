-- Memories in which what lies outside of all blocks is undefined. No access goes there (C11 6.5.3.2p4, 6.5.6p8).
use Rattle.std.specs.Prelude.{ℕ, Bool, false, nat_lt, if◌then◌else◌, slice_get, Option, Some, None}
use Rattle.ep_int.specs.Memory.{undefined, Memory}
use Rattle.ep_core.specs.Program.{Block, Program}
use Rattle.ep_core.specs.Exec.{State, Outcome, leaves, running, no_input, undefined_at, remembers}

abbrev pub is_inside : Option Block → (offset : ℕ) → Bool
is_inside None q = false
is_inside (Some x) q = nat_lt q x.size

module _ (p : Program) where
  abbrev pub restricted : Memory → Memory
  restricted m b q = if is_inside (slice_get p.blocks b) q then m b q else undefined

  -- the machine with that memory, and what it comes to
  abbrev pub restricted_state : State → State
  restricted_state s = remembers (restricted s.memory) s

  abbrev pub restricted_outcome : Outcome → Outcome
  restricted_outcome (leaves w n s) = leaves w n (restricted_state s)
  restricted_outcome (running s) = running (restricted_state s)
  restricted_outcome (no_input s) = no_input (restricted_state s)
  restricted_outcome (undefined_at l k s) = undefined_at l k (restricted_state s)
