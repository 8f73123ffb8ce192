-- The sides that run, and what their machines do.
use Rattle.std.proofs.Common.{◌≡◌, ℕ, ◌+◌, ◌^◌, ◌<◌, ◌≤◌, true, false, slice_get, Option, Some, None, refl, sym}
use Rattle.std.proofs.Common.{ap, ◌∙◌, arith}
use Rattle.std.specs.Option.{option_map}
use Rattle.std.proofs.lemmas.Option.{slice_get-map}
use Rattle.ep_int.specs.declared.types.Order.{Order}
use Rattle.ep_int.specs.Memory.{Memory}
use Rattle.ep_cells.specs.Meaning.{Memories}
use Rattle.ep_core.specs.Program.{Block, Program}
use Rattle.ep_core.specs.Exec.{block_size, size_at}
use Rattle.ep_core.specs.Runs.{Side, left, right}
use Rattle.ep_core.specs.WellFormed.{blocks_fit}
use Rattle.ep_equalities.specs.declared.pair.Mode.{Mode}
use Rattle.ep_equalities.specs.declared.pair.Mode.TheVariants.{Both, Left, Right}
use Rattle.ep_equalities.specs.Pairs.{runs_left, runs_right}
use Rattle.ep_evaluation.specs.Given.{runs}
use Rattle.ep_evaluation.specs.Laws.{memory_of}
use Rattle.ep_transfers.specs.Laws.{memories}
use Rattle.ep_transfers.proofs.Bound.{changed}
use Rattle.ep_transfers.proofs.Rooms.{small}
use Rattle.ep_single_assigned.proofs.Puts.{under}

pub left_runs : (mode : Mode) → runs_left mode ≡ true → runs mode left ≡ true
left_runs Both e = refl
left_runs Left e = refl
left_runs Right e = e

pub right_runs : (mode : Mode) → runs_right mode ≡ true → runs mode right ≡ true
right_runs Both e = refl
right_runs Left e = e
right_runs Right e = refl

-- of both machines
pub both_run : (P : Side → Memory → Memory → Type 0) (m n : Memories) → P left m.left n.left → P right m.right n.right
    → (s : Side) → P s (memory_of s m) (memory_of s n)
both_run P m n a b left = a
both_run P m n a b right = b

-- where each running machine does this, and the other one nothing
pub changed_so : (mode : Mode) (f : Side → Memory → Memory) (m o : Memories)
    → ((s : Side) → runs mode s ≡ true → memory_of s o ≡ f s (memory_of s m))
    → ((s : Side) → runs mode s ≡ false → memory_of s o ≡ memory_of s m) → changed mode f m ≡ o
changed_so Both f m o h e =
    ap (λ (x : Memory). memories x (f right m.right)) (sym (h left refl))
    ∙ ap (λ (x : Memory). memories o.left x) (sym (h right refl))
changed_so Left f m o h e =
    ap (λ (x : Memory). memories x m.right) (sym (h left refl))
    ∙ ap (λ (x : Memory). memories o.left x) (sym (e right refl))
changed_so Right f m o h e =
    ap (λ (x : Memory). memories x (f right m.right)) (sym (e left refl))
    ∙ ap (λ (x : Memory). memories o.left x) (sym (h right refl))

-- n bytes of a block, of which there is one, end below 2 to the 32
there_by : (o : Order) (p : Program) (c : Option Block) (q n : ℕ) → 0 < n → q + n ≤ block_size o p c
    → option_map (λ (x : Block). x.size) c ≡ Some (block_size o p c)
there_by o p None q n i h = absurd (let z : ⊥ = omega (arith, h, i) in z)
there_by o p (Some x) q n i h = refl

pub room_there : (o : Order) (p : Program) → blocks_fit p.types p.blocks ≡ true → (b q n : ℕ)
    → q + n ≤ size_at o p b → 0 < n → q + n ≤ 2 ^ 32
room_there o p fit b q n h some =
    under (q + n) (size_at o p b) h
    (small p fit b (size_at o p b)
    (slice_get-map (λ (y : Block). y.size) p.blocks b ∙ there_by o p (slice_get p.blocks b) q n some h))
