-- Operations whose faults are of kinds that the text may have.
use Rattle.std.specs.Prelude.{◌≡◌, ℕ, Bool, true, false, List, [], ◌∷◌, Option, Some, slice_get}
use Rattle.ep_alarms.specs.declared.types.AlarmKind.{AlarmKind}
use Rattle.ep_alarms.specs.declared.types.AlarmKind.TheVariants.{E1}
use Rattle.ep_core.specs.Program.{Expr, Dest, Simple, Function, Program}
use Rattle.ep_core.specs.WellFormed.{result_type, is_tested, simple_fits, arguments_fit, takes_result}
use Rattle.ep_pass.specs.States.{Mode, Both, One, Fault, StateOps}
use Rattle.ep_pass.specs.Places.{is_kind, expr_may, exprs_may, simple_may, result_may}

-- one machine runs alone
abbrev pub is_alone : Mode → Bool
is_alone Both = false
is_alone (One m) = true

-- the kind of each fault passes a test
abbrev pub AreOf : (AlarmKind → Bool) → List Fault → Type 0
AreOf test [] = Unit {0}
AreOf test (f ∷ fs) = (test f.kind ≡ true) × AreOf test fs

-- In every state the faults of what is typed in this program are so, where numbers keep strides, or don't.
pub record Honest (p : Program) (strides : Bool) {S : Type 0} (o : StateOps S) : Type 0 where
  pub simple : (m : Mode) (here : ℕ) (f : Function) → slice_get p.functions here ≡ Some f → (w : Simple)
      (seen : List ℕ) → simple_fits p here (result_type p.blocks f.result) w seen ≡ true → (s : S)
      → AreOf (λ k. simple_may strides k (is_alone m) w) (o.simple m f.result w s).faults
  pub test : (m : Mode) (e : Expr) (seen : List ℕ) → is_tested p.types p.blocks seen e ≡ true → (s : S)
      → AreOf (λ k. expr_may strides k e) (o.test m e s).faults
  pub arguments : (m : Mode) (k : ℕ) (f : Function) → slice_get p.functions k ≡ Some f → (es : List Expr)
      (seen : List ℕ) → arguments_fit p.types p.blocks seen f.params es ≡ true → (s : S)
      → AreOf (λ k. exprs_may strides k es) (o.arguments m f es s).faults
  pub result : (m : Mode) (k : ℕ) (f : Function) → slice_get p.functions k ≡ Some f → (d : Option Dest)
      (seen : List ℕ) → takes_result p.types p.blocks seen (result_type p.blocks f.result) d ≡ true → (s : S)
      → AreOf (λ k. result_may strides k d) (o.result m f d s).faults
  pub ended : (f : Function) → slice_get p.functions p.main ≡ Some f → (s : S) → AreOf (is_kind E1) (o.ended f s)
