-- Two representations of states that keep the laws. Statements that do nothing, outputs and tests of constants have no
-- fault and leave the state as it is; all else has one, and ends its path. In the least representation nothing is known
-- of memories; in the other a state may say that main's result is the same number on both sides.
use Rattle.std.specs.Prelude.{ℕ, ℤ, ◌≡◌, Bool, true, false, List, [], Option, Some, None}
use Rattle.ep_int.specs.declared.types.Order.{Order}
use Rattle.ep_int.specs.declared.types.Scalar.{Scalar}
use Rattle.ep_int.specs.Arith.{int_eq}
use Rattle.ep_int.specs.Memory.{Memory, int, null, Found, has, loaded}
use Rattle.ep_alarms.specs.declared.types.AlarmKind.TheVariants.{E1}
use Rattle.ep_core.specs.Program.{Expr, const, Simple, nothing, output, Program}
use Rattle.ep_core.specs.Exec.{model, size_at, result_in}
use Rattle.ep_core.specs.Runs.{Side, left, right, main_function, initial}
use Rattle.ep_pass.specs.States.{Mode, Both, Fault, Transfer, stuck, same, Tested, StateOps}
use Rattle.tests_analysis.specs.Exact.{plain_fault}

abbrev pub goes : {S : Type 0} → S → Transfer S
goes s = record { faults = []; next = Some s }

abbrev pub fails : {S : Type 0} → Transfer S
fails = record { faults = plain_fault E1; next = None }

abbrev pub put_out : {S : Type 0} → Mode → Expr → S → Transfer S
put_out Both (const t v) s = goes s
put_out m e s = fails

abbrev pub simple_of : {S : Type 0} → Mode → Simple → S → Transfer S
simple_of m nothing s = goes s
simple_of m (output t e) s = put_out m e s
simple_of m w s = fails

abbrev pub test_of : Expr → Tested
test_of (const t v) = record { faults = []; verdict = same }
test_of e = record { faults = plain_fault E1; verdict = stuck }

-- ---- nothing is known

pub data Known : Type 0 where
  nothing_known : Known

abbrev pub unknown : StateOps Known
unknown = record {
  entry = nothing_known;
  simple = λ m r w s. simple_of m w s;
  test = λ m e s. test_of e;
  assume = λ e t u s. Some s;
  assume_one = λ m e t s. Some s;
  arguments = λ m f es s. fails;
  result = λ m f d s. fails;
  enter = λ m bs s. s;
  leave = λ m bs s. s;
  unified = λ s t. (s, t);
  joined = λ s t. s;
  widened = λ s t. s;
  leq = λ s t. true;
  reshared = λ s. s;
  empty = nothing_known;
  ended = λ f s. plain_fault E1;
}

-- it stands for all memories
abbrev pub Any : Known → Memory → Memory → Type 0
Any s m k = Unit {0}

-- ---- main's result is the same number on both sides, or nothing is known

pub data Ends : Type 0 where
  ends_alike : Ends
  unsure : Ends

-- what main's result is, where it has one
abbrev pub found_in : Order → Program → (result : Option (ℕ × Scalar)) → Memory → Found
found_in o p None m = has null
found_in o p (Some r) m = loaded o (model o p) (size_at o p r.0) m r.1 r.0 0

abbrev pub result_found : Order → Program → Memory → Found
result_found o p m = found_in o p (result_in (main_function o p)) m

pub record SameResult (p : Program) (ord : Side → Order) (m k : Memory) : Type 0 where
  pub number : ℤ
  pub on_left : result_found (ord left) p m ≡ has (int number)
  pub on_right : result_found (ord right) p k ≡ has (int number)

abbrev pub ConcretisesUnknown : Program → (Side → Order) → Ends → Memory → Memory → Type 0
ConcretisesUnknown p ord ends_alike m k = SameResult p ord m k
ConcretisesUnknown p ord unsure m k = Unit {0}

abbrev pub ends_if : Bool → Ends
ends_if true = ends_alike
ends_if false = unsure

abbrev pub ends_by : Found → Found → Ends
ends_by (has (int v)) (has (int w)) = ends_if (int_eq v w)
ends_by x y = unsure

abbrev pub either : Ends → Ends → Ends
either ends_alike t = t
either unsure t = unsure

abbrev pub is_within : Ends → Ends → Bool
is_within s unsure = true
is_within ends_alike ends_alike = true
is_within unsure ends_alike = false

abbrev pub end_faults : Ends → List Fault
end_faults ends_alike = []
end_faults unsure = plain_fault E1

abbrev pub of_ends : Program → (Side → Order) → StateOps Ends
of_ends p ord = record {
  entry =
      ends_by (result_found (ord left) p (initial (ord left) p)) (result_found (ord right) p (initial (ord right) p));
  simple = λ m r w s. simple_of m w s;
  test = λ m e s. test_of e;
  assume = λ e t u s. Some s;
  assume_one = λ m e t s. Some s;
  arguments = λ m f es s. fails;
  result = λ m f d s. fails;
  enter = λ m bs s. unsure;
  leave = λ m bs s. unsure;
  unified = λ s t. (s, t);
  joined = either;
  widened = either;
  leq = is_within;
  reshared = λ s. s;
  empty = unsure;
  ended = λ f s. end_faults s;
}
