-- The faults of calls are of undefined behaviour.
use Rattle.std.proofs.Common.{◌≡◌, Bool, true, false, ◌||◌, List, [], ◌∷◌, Option, Some, None}
use Rattle.ep_alarms.specs.declared.types.AlarmKind.{AlarmKind}
use Rattle.ep_core.specs.Program.{Expr, Dest, Place}
use Rattle.ep_core.proofs.Sorts.{never}
use Rattle.ep_pass.specs.Honest.{AreOf}
use Rattle.ep_pass.specs.Places.{is_one_of, read_kinds, access_kinds, expr_may, exprs_may, place_may, target_may, result_may}
use Rattle.ep_pass.specs.States.{Fault}
use Rattle.ep_tame_laws.specs.Tamely.{is_undefined}
use Rattle.ep_tame_ops.proofs.UndefinedKinds.{one_of, reads, accesses, either, expr_undefined, place_undefined}

module _ (strides : Bool) (k : AlarmKind) where
  exprs_undefined : (es : List Expr) → exprs_may strides k es ≡ true → is_undefined k ≡ true
  exprs_undefined [] h = never h
  exprs_undefined (e ∷ es) h =
      either strides k (expr_may strides k e) (exprs_may strides k es) (expr_undefined strides k e) (exprs_undefined es)
      h

  target_undefined : (a : Place) → target_may strides k a ≡ true → is_undefined k ≡ true
  target_undefined a h =
      either strides k (is_one_of (access_kinds strides k a) k) (place_may strides k a)
      (one_of (access_kinds strides k a) (accesses strides k a) k) (place_undefined strides k a) h

  result_undefined : (d : Option Dest) → result_may strides k d ≡ true → is_undefined k ≡ true
  result_undefined None h = never h
  result_undefined (Some d) h =
      either strides k (is_one_of read_kinds k) (target_may strides k d.place) (one_of read_kinds reads k)
      (target_undefined d.place) h

undefined_each : (test : AlarmKind → Bool) → ((k : AlarmKind) → test k ≡ true → is_undefined k ≡ true)
    → (fs : List Fault) → AreOf test fs → AreOf is_undefined fs
undefined_each test go [] h = tt
undefined_each test go (f ∷ fs) h = (go f.kind h.0, undefined_each test go fs h.1)

pub arguments_undefined : (strides : Bool) (es : List Expr) (fs : List Fault) → AreOf (λ k. exprs_may strides k es) fs
    → AreOf is_undefined fs
arguments_undefined strides es fs h =
    undefined_each (λ k. exprs_may strides k es) (λ k i. exprs_undefined strides k es i) fs h

pub results_undefined : (strides : Bool) (d : Option Dest) (fs : List Fault) → AreOf (λ k. result_may strides k d) fs
    → AreOf is_undefined fs
results_undefined strides d fs h =
    undefined_each (λ k. result_may strides k d) (λ k i. result_undefined strides k d i) fs h
