-- Where a step is due, and where all is done.
use Rattle.std.proofs.Common.{◌≡◌, ℕ, zero, suc, ◌<◌, true, List, refl}
use Rattle.std.proofs.Common.{arith}
use Rattle.ep_core.specs.Program.{What, simple, call, if_else, loop, break_loop, continue_loop, by_order, scope}
use Rattle.ep_core.specs.Exec.{State, Outcome, running, no_input, undefined_at, counted, ByteStep}
use Rattle.ep_core.specs.Exec.{bytewise, bytewise_rest, into, out_of}
use Rattle.ep_core.specs.Runs.{finished}
use Rattle.ep_core.specs.View.{what_view}
use Rattle.ep_machine.specs.declared.fault.Fault.{Fault}
use Rattle.ep_machine.specs.declared.setting.Setting.{Setting}
use Rattle.ep_machine.specs.Faults.{kind_of}
use Rattle.ep_machine.specs.Settings.{program_in}
use Rattle.ep_frames.specs.declared.frames.Frame.{Frame}
use Rattle.ep_frames.specs.declared.frames.Now.{Now}
use Rattle.ep_frames.specs.declared.frames.Now.TheVariants as now
use Rattle.ep_steps.specs.declared.steps.Stop.TheVariants as stop
use Rattle.ep_steps.specs.Ready.{IsDue}
use Rattle.ep_steps.specs.Results.{IsAlike, stopped}
use Rattle.ep_frames.specs.Stack.{piled, now_of, one_of, takes_step, NowFits}
use Rattle.ep_frames.proofs.Piles.{pile_running, pile_starved, pile_undefined}

-- a statement that takes a step does nothing without one
no_step : (m : Setting) (here : ℕ) (w : What) (l : ℕ) (s : State) → takes_step w ≡ true
    → one_of m here w l 0 s ≡ running s
no_step m here (simple w) l s h = refl
no_step m here (call k es d) l s h = refl
no_step m here (if_else e a b) l s h = refl
no_step m here (loop first e a b) l s h = refl
no_step m here break_loop l s h = refl
no_step m here continue_loop l s h = refl
no_step m here (by_order named a b) l s h = refl
no_step m here (scope xs a) l s h = absurd cc

no_byte : (one : ByteStep) (n here : ℕ) (s : State) → 0 < n → bytewise counted one n here 0 s ≡ running s
no_byte one zero here s h = absurd (omega arith)
no_byte one (suc n) here s h = refl

-- a byte of several takes a step
pub byte_next : (one : ByteStep) (n here left : ℕ) (s : State) → 0 < n
    → bytewise counted one n here (suc left) s ≡ bytewise_rest counted one n here left s
byte_next one zero here left s h = absurd (omega arith)
byte_next one (suc n) here left s h = refl

due_waits : (n : Now) → IsDue n → (m : Setting) → NowFits m n → (s : State) → now_of m n 0 s ≡ running s
due_waits (now.List here ss) d m f s = absurd d
due_waits (now.Statement here x) d m f s = no_step m here (what_view x.now.what) x.now.line s f.1
due_waits (now.Turn x) d m f s = refl
due_waits (now.Reads x) d m f s = no_byte (into m.order (program_in m) x.block) x.count x.here s f.some
due_waits (now.Writes x l) d m f s = no_byte (out_of m.order (program_in m) x.block l) x.count x.here s f.some
due_waits (now.Leave w) d m f s = absurd d
due_waits now.Starve d m f s = absurd d
due_waits (now.Faulty l k) d m f s = absurd d

alike : (o : Setting) (x : Outcome) (y : Outcome) → x ≡ y
    → IsAlike (finished o.order (program_in o) x) (finished o.order (program_in o) y)
alike o x y e = rw e (record { ending = refl; outputs = refl; tests = refl; used = refl })

pub due_runs : (m : Setting) (fs : List Frame) (n : Now) → IsDue n → NowFits m n → (s : State)
    → IsAlike (finished m.order (program_in m) (piled m fs (now_of m n 0 s))) (stopped m stop.Running s)
due_runs m fs n d f s =
    let r = pile_running m fs s in
    rw (due_waits n d m f s, r.1) (record { ending = refl; outputs = refl; tests = refl; used = refl })

pub starves : (m : Setting) (fs : List Frame) (s : State)
    → IsAlike (finished m.order (program_in m) (piled m fs (no_input s))) (stopped m stop.NoInput s)
starves m fs s =
    let r = pile_starved m fs s in rw r.1 (record { ending = refl; outputs = refl; tests = refl; used = refl })

pub faults_so : (m : Setting) (fs : List Frame) (l : ℕ) (k : Fault) (s : State)
    → IsAlike (finished m.order (program_in m) (piled m fs (undefined_at l (kind_of k) s)))
    (stopped m (stop.Faulty l k) s)
faults_so m fs l k s =
    let r = pile_undefined m fs l (kind_of k) s in
    rw r.1 (record { ending = refl; outputs = refl; tests = refl; used = refl })
