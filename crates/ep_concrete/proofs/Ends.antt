-- How runs end.
use Rattle.std.proofs.Common.{◌≡◌, ℕ, ℤ, List, [], ◌∷◌, map, slice_get, Option, Some, None, refl, sym, ap, ◌∙◌, subst}
use Rattle.ep_int.specs.declared.types.IntType.TheVariants.{I32}
use Rattle.ep_int.specs.declared.types.Scalar.{Scalar}
use Rattle.ep_int.specs.Memory.{Kind, Found, int, has, faults}
use Rattle.ep_bytes.specs.StoreView.{memory_in}
use Rattle.ep_bytes.specs.View.{alarm_of}
use Rattle.ep_core.specs.declared.program.Function as function
use Rattle.ep_core.specs.declared.tree.Stmt.{Stmt}
use Rattle.ep_core.specs.Program.{Function}
use Rattle.ep_core.specs.Exec.{State, Outcome, bodies, body_of, counted, put_out, result_in}
use Rattle.ep_core.specs.Runs.{Run, finished, line_of, main_ends, main_function, result_out}
use Rattle.ep_core.specs.View.{function_view}
use Rattle.ep_machine.specs.declared.setting.Setting.{Setting}
use Rattle.ep_machine.specs.Settings.{loaded_on, program_in}
use Rattle.ep_machine.specs.Machines.{output_view, state_in, MachineView}
use Rattle.ep_steps.specs.declared.steps.Stop.TheVariants as stop
use Rattle.ep_concrete.specs.declared.types.Ending.{Ending}
use Rattle.ep_concrete.specs.declared.types.Ending.TheVariants.{Ended, Undefined}
use Rattle.ep_steps.specs.Results.{stopped, IsAlike}
use Rattle.ep_concrete.specs.declared.types.RunResult.{RunResult}
use Rattle.ep_concrete.specs.Results.{main_steps, IsRun, IsTold}
use Rattle.ep_frames.specs.Stack.{list_of}

pub told_so : (e : Ending) (k : MachineView) (x y : Run) → IsAlike x y → IsTold e k y → IsTold e k x
told_so e k x y a t = record {
  ending = rw a.ending t.ending;
  outputs = t.outputs ∙ sym a.outputs;
  tests = t.tests ∙ sym a.tests;
  used = t.used ∙ sym a.used;
}

module _ (m : Setting) (f : Function) (main : main_function m.order (program_in m) ≡ Some f) (k : MachineView) where
  pub ends_without : f.result ≡ None → IsTold Ended k (stopped m stop.AtEnd (state_in k))
  ends_without e = rw (main, e) (record { ending = refl; outputs = refl; tests = refl; used = refl })

  module _ (r : ℕ × Scalar) (is : f.result ≡ Some r) where
    pub ends_faulty : (x : Kind) → loaded_on m (memory_in k.store) r.1 r.0 0 ≡ faults x
        → IsTold (Undefined f.line (alarm_of x)) k (stopped m stop.AtEnd (state_in k))
    ends_faulty x e = rw (main, is, e) (record { ending = refl; outputs = refl; tests = refl; used = refl })

    pub ends_given : (x : Found) → loaded_on m (memory_in k.store) r.1 r.0 0 ≡ x → (e : Ending) (j : MachineView)
        → IsTold e j (result_out x f.line (state_in k)) → IsTold e j (stopped m stop.AtEnd (state_in k))
    ends_given x q e j t = rw (main, is, q) t

-- a result is put out
pub put_told : (v : ℤ) (l : ℕ) (s : State) (j : MachineView) → state_in j ≡ put_out I32 v s
    → IsTold Ended j (result_out (has (int v)) l s)
put_told v l s j e = record {
  ending = refl;
  outputs = ap (λ (s : State). s.outputs) e;
  tests = ap (λ (s : State). s.tests) e;
  used = ap (λ (s : State). s.used) e;
}

-- main's body is the list of its statements
pub main_is : (m : Setting) (f : function.Function) (n : ℕ) (s : State)
    → main_function m.order (program_in m) ≡ Some (function_view f)
    → list_of m (program_in m).main f.body.items n s ≡ main_steps m n s
main_is m f n s e = rw e refl

-- what is told of a machine is the run
pub is_run : (r : RunResult) (k : MachineView) (x y : Run) → IsTold r.ending k x → x ≡ y → r.outputs.items ≡ k.outputs
    → r.tests.items ≡ k.tests → r.used ≡ k.used → IsRun r y
is_run r k x y t e outputs tests used = subst (IsRun r) e (record {
  ending = t.ending;
  outputs = ap (map output_view) outputs ∙ t.outputs;
  tests = tests ∙ t.tests;
  used = used ∙ t.used;
})

-- without main nothing is done
pub ends_at_once : (m : Setting) (k : MachineView) (n : ℕ) → slice_get (program_in m).functions (program_in m).main ≡ None
    → IsTold Ended k (finished m.order (program_in m) (main_steps m n (state_in k)))
ends_at_once m k n e =
    subst (IsTold Ended k) (sym
    (ap (λ f. finished m.order (program_in m) (body_of m.order (program_in m) counted f (program_in m).main
    (bodies m.order (program_in m) counted (program_in m).main) n (state_in k))) e
    ∙ ap (λ f. main_ends m.order (program_in m) (result_in f) (line_of m.order (program_in m) f) (state_in k)) e))
    (record { ending = refl; outputs = refl; tests = refl; used = refl })
