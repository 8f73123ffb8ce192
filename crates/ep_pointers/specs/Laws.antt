-- What the operations on values keep, as laws of their definitions, for states that are made of such values.
use Rattle.std.specs.Prelude.{ℕ, ◌^◌, ◌<◌, ◌≤◌, IsTrue, List, IfSome, slice_index}
use Rattle.ep_int.specs.declared.types.Cmp.{Cmp}
use Rattle.ep_domain.specs.Domain.{Ops}
use Rattle.ep_pointers.specs.declared.sum.Move.{Move}
use Rattle.ep_pointers.specs.Value.{Pointers, IsRising, HoldsAllOf, is_within, join_of, widening_of, HoldsBoth}
use Rattle.ep_pointers.specs.Value.{HasOffsetsOf, KeepsRanks, without, LosesBlock, HasOneMember}
use Rattle.ep_pointers.specs.Sum.{moved, HoldsSums, MovesOne, KeepsStride}
use Rattle.ep_pointers.specs.Compare.{comparison_of, AnswersAll, IsOneAnswer}

-- a move by a positive number of bytes of 32 bits, and sizes of 32 bits
pub record Fits {N : Type 0} (m : Move N) (sizes : List ℕ) : Type 0 where
  pub positive : 1 ≤ m.unit
  pub unit : m.unit < 2 ^ 32
  pub each_size : (i : ℕ) → slice_index sizes i < 2 ^ 32

pub record PointerLaws {N : Type 0} (d : Ops N) : Type 0 where
  pub within_holds : (p q : Pointers N) → IsTrue (is_within d p q) → HoldsAllOf d p q
  -- join and widening
  pub join_rises : (p q : Pointers N) → IsRising p.targets → IsRising (join_of d p q).targets
  pub join_offsets : (p q : Pointers N) → IsRising p.targets → IsRising q.targets
      → HasOffsetsOf d.join p q (join_of d p q)
  pub join_holds : (p q : Pointers N) → IsRising p.targets → IsRising q.targets
      → HoldsBoth d p q (join_of d p q)
  pub widening_rises : (p q : Pointers N) → IsRising p.targets → IsRising (widening_of d p q).targets
  pub widening_offsets : (p q : Pointers N) → IsRising p.targets → IsRising q.targets
      → HasOffsetsOf d.widen p q (widening_of d p q)
  pub widening_holds : (p q : Pointers N) → IsRising p.targets → IsRising q.targets
      → HoldsBoth d p q (widening_of d p q)
  pub widening_ranks : (p q : Pointers N) → d.height < 4294967295 → IsRising p.targets → IsRising q.targets
      → KeepsRanks d p q (widening_of d p q)
  -- sums
  pub sum_rises : (m : Move N) (sizes : List ℕ) (p : Pointers N) → IsRising p.targets
      → IfSome (moved d m sizes p) (λ q. IsRising q.targets)
  pub sum_holds : (m : Move N) (sizes : List ℕ) (p : Pointers N) → Fits m sizes → IsRising p.targets
      → HoldsSums d m sizes p (moved d m sizes p)
  pub sum_of_one : (m : Move N) (sizes : List ℕ) (p : Pointers N) → Fits m sizes
      → MovesOne d m sizes p (moved d m sizes p)
  pub sum_stride : (m : Move N) (sizes : List ℕ) (p : Pointers N) → Fits m sizes → IsRising p.targets
      → KeepsStride d m p (moved d m sizes p)
  -- comparisons
  pub compare_answers : (c : Cmp) (p q : Pointers N) → AnswersAll d c p q (comparison_of d c p q)
  pub compare_one : (c : Cmp) (p q : Pointers N) → HasOneMember d p → HasOneMember d q
      → IsOneAnswer (comparison_of d c p q)
  -- a block that is gone
  pub without_rises : (b : ℕ) (p : Pointers N) → IsRising p.targets → IsRising (without b p).targets
  pub without_loses : (b : ℕ) (p : Pointers N) → LosesBlock d b p (without b p)
