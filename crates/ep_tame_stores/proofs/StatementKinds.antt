-- The faults of statements of tame programs are of undefined behaviour.
use Rattle.std.proofs.Common.{◌≡◌, Bool, true, false, ◌||◌, List, [], ◌∷◌, Some, None}
use Rattle.ep_alarms.specs.declared.types.AlarmKind.{AlarmKind}
use Rattle.ep_alarms.specs.declared.types.AlarmKind.TheVariants.{U5, U6, U9}
use Rattle.std.proofs.Common.{refl}
use Rattle.ep_core.specs.Program.{Place, Simple, nothing, eval, assign, clear, copy_aggregate, copy_bytes, fill}
use Rattle.ep_core.specs.Program.{input, output, read_bytes, write_bytes, returns}
use Rattle.ep_core.proofs.Sorts.{never}
use Rattle.ep_layout.specs.Table.{Table}
use Rattle.ep_pass.specs.Honest.{AreOf}
use Rattle.ep_pass.specs.Places.{is_one_of, access_kinds, expr_may, place_may, target_may, simple_may}
use Rattle.ep_pass.specs.States.{Fault}
use Rattle.ep_kinds.specs.Tame.{is_tame_simple}
use Rattle.ep_tame_laws.specs.Tamely.{is_undefined}
use Rattle.ep_tame_ops.proofs.UndefinedKinds.{one_of, accesses, either, expr_undefined, place_undefined}

-- one that puts out a value may tell that the machines differ
abbrev pub is_output : Simple → Bool
is_output (output t e) = true
is_output w = false

module _ (strides : Bool) (k : AlarmKind) where
  target_undefined : (a : Place) → target_may strides k a ≡ true → is_undefined k ≡ true
  target_undefined a h =
      either strides k (is_one_of (access_kinds strides k a) k) (place_may strides k a)
      (one_of (access_kinds strides k a) (accesses strides k a) k) (place_undefined strides k a) h

  simple_undefined : (t : Table) (w : Simple) → is_tame_simple t w ≡ true → is_output w ≡ false
      → simple_may strides k false w ≡ true → is_undefined k ≡ true
  simple_undefined t nothing tame out h = never h
  simple_undefined t (eval e) tame out h = expr_undefined strides k e h
  simple_undefined t (assign what a e) tame out h =
      either strides k (target_may strides k a) (expr_may strides k e) (target_undefined a)
      (expr_undefined strides k e) h
  simple_undefined t (clear a ty) tame out h = target_undefined a h
  simple_undefined t (copy_aggregate a b ty) tame out h =
      either strides k (is_one_of (U5 ∷ U6 ∷ U9 ∷ []) k) (place_may strides k a || place_may strides k b)
      (one_of (U5 ∷ U6 ∷ U9 ∷ []) (refl, (refl, (refl, tt))) k)
      (either strides k (place_may strides k a) (place_may strides k b) (place_undefined strides k a)
      (place_undefined strides k b)) h
  simple_undefined t (copy_bytes a b n) tame out h = never tame
  simple_undefined t (fill a e n) tame out h = never tame
  simple_undefined t (input u None) tame out h = never h
  simple_undefined t (input u (Some d)) tame out h = target_undefined d.place h
  simple_undefined t (output u e) tame out h = absurd cc
  simple_undefined t (read_bytes e n) tame out h = never tame
  simple_undefined t (write_bytes e n) tame out h = never tame
  simple_undefined t (returns None) tame out h = never h
  simple_undefined t (returns (Some e)) tame out h = expr_undefined strides k e h

-- faults that the text may have
pub faults_of_simple : (strides : Bool) (t : Table) (w : Simple) → is_tame_simple t w ≡ true → is_output w ≡ false
    → (fs : List Fault) → AreOf (λ k. simple_may strides k false w) fs → AreOf is_undefined fs
faults_of_simple strides t w tame out [] h = tt
faults_of_simple strides t w tame out (f ∷ fs) h =
    (simple_undefined strides f.kind t w tame out h.0, faults_of_simple strides t w tame out fs h.1)
