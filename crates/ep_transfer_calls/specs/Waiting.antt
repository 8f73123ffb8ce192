-- Values that wait while a callee's frame comes and its parameters are set (this project's rules, after Miné 2006).
use Rattle.std.specs.Prelude.{◌≡◌, ℕ, true, List, [], ◌∷◌, Option}
use Rattle.ep_int.specs.declared.types.Order.{Order}
use Rattle.ep_int.specs.declared.types.Scalar.{Scalar}
use Rattle.ep_int.specs.declared.types.Scalar.TheVariants.{Int, Pointer}
use Rattle.ep_int.specs.Memory.{contains}
use Rattle.ep_bitslice.specs.declared.segment.Segment.{Segment}
use Rattle.ep_domain.specs.Domain.{Ops}
use Rattle.ep_cells.specs.States.{Known}
use Rattle.ep_core.specs.Program.{Program}
use Rattle.ep_core.specs.Runs.{Side}
use Rattle.ep_equalities.specs.declared.pair.PairValue.{PairValue}
use Rattle.ep_evaluation.specs.Given.{on}
use Rattle.ep_evaluation.specs.Laws.{SideFits}
use Rattle.ep_eval_sides.specs.Forms.{IsWide}
use Rattle.ep_transfers.specs.WaitingLaws.{OthersThere}

-- a form of a number's type is as wide as it
abbrev pub IsWideAs : Scalar → Option (List Segment) → Type 0
IsWideAs (Int t) f = IsWide t f
IsWideAs Pointer f = Unit {0}

module _ {N : Type 0} (D : Ops N) (p : Program) (ord : Side → Order) (frame : List ℕ) (was : Known N) where
  -- what a parameter, of the frame, takes was found in this state
  pub record IsFound (b : ℕ × Scalar) (v : PairValue N) : Type 0 where
    pub inside : contains b.0 frame ≡ true
    pub fits : (s : Side) → SideFits D p ord was b.1 (on v s)

  abbrev pub AreFound : List (ℕ × Scalar) → List (PairValue N) → Type 0
  AreFound [] vs = Unit {0}
  AreFound (b ∷ bs) [] = Unit {0}
  AreFound (b ∷ bs) (v ∷ vs) = IsFound b v × AreFound bs vs

module _ {N : Type 0} (D : Ops N) (p : Program) (frame : List ℕ) where
  -- It was found in a state of which cells of other blocks are still there.
  pub record Waits (b : ℕ × Scalar) (v : PairValue N) (k : Known N) : Type 0 where
    pub ord : Side → Order
    pub was : Known N
    pub there : OthersThere frame was k
    pub found : IsFound D p ord frame was b v

  pub record AllWait (bs : List (ℕ × Scalar)) (vs : List (PairValue N)) (k : Known N) : Type 0 where
    pub ord : Side → Order
    pub was : Known N
    pub there : OthersThere frame was k
    pub found : AreFound D p ord frame was bs vs
