-- Stacks of frames.
use Rattle.std.proofs.Common.{◌≡◌, ℕ, ◌+◌, List, [], ◌∷◌, ◌++◌, take, refl, sym, ap, ◌∙◌}
use Rattle.std.proofs.Common.{arith}
use Rattle.ep_int.specs.Memory.{Kind}
use Rattle.ep_core.specs.Exec.{State, Outcome, running, no_input, undefined_at}
use Rattle.ep_machine.specs.declared.setting.Setting.{Setting}
use Rattle.ep_frames.specs.declared.frames.Frame.{Frame}
use Rattle.ep_frames.specs.declared.frames.Frame.TheVariants.{Rest, Turn, Again, Scope, Arm, Call}
use Rattle.ep_frames.specs.Stack.{framed, piled, FrameFits, PileFits}
use Rattle.ep_frames.specs.Heft.{heft_in, heft_all}

piled_more : (m : Setting) (fs : List Frame) (f : Frame) (x : Outcome)
    → piled m (fs ++ f ∷ []) x ≡ piled m fs (framed m f x)
piled_more m [] f x = refl
piled_more m (g ∷ fs) f x = ap (framed m g) (piled_more m fs f x)

heft_more : (fs : List Frame) (f : Frame) → heft_all (fs ++ f ∷ []) ≡ heft_all fs + heft_in f
heft_more [] f = omega arith
heft_more (g ∷ fs) f = let h = heft_more fs f in omega (arith, h)

-- ---- pushed and popped

pub pushed : (new old : List Frame) (f : Frame) → new ≡ old ++ f ∷ [] → (m : Setting) (x : Outcome)
    → piled m new x ≡ piled m old (framed m f x)
pushed new old f e m x = ap (λ fs. piled m fs x) e ∙ piled_more m old f x

pub pushed_heft : (new old : List Frame) (f : Frame) → new ≡ old ++ f ∷ [] → heft_all new ≡ heft_all old + heft_in f
pushed_heft new old f e = ap heft_all e ∙ heft_more old f

pub popped : (old new : List Frame) (f : Frame) → old ≡ new ++ f ∷ [] → (m : Setting) (x : Outcome)
    → piled m new (framed m f x) ≡ piled m old x
popped old new f e m x = sym (ap (λ fs. piled m fs x) e ∙ piled_more m new f x)

-- ---- a pile that fits

more_fits : (m : Setting) (fs : List Frame) (f : Frame) → PileFits m fs → FrameFits m f → PileFits m (fs ++ f ∷ [])
more_fits m [] f h k = (k, tt)
more_fits m (g ∷ fs) f h k = (h.0, more_fits m fs f h.1 k)

less_fits : (m : Setting) (fs : List Frame) (f : Frame) → PileFits m (fs ++ f ∷ []) → PileFits m fs × FrameFits m f
less_fits m [] f h = (tt, h.0)
less_fits m (g ∷ fs) f h = let r = less_fits m fs f h.1 in ((h.0, r.0), r.1)

pub pushed_fits : (new old : List Frame) (f : Frame) → new ≡ old ++ f ∷ [] → (m : Setting) → PileFits m old
    → FrameFits m f → PileFits m new
pushed_fits new old f e m h k = rw e (more_fits m old f h k)

pub popped_fits : (old new : List Frame) (f : Frame) → old ≡ new ++ f ∷ [] → (m : Setting) → PileFits m old
    → PileFits m new × FrameFits m f
popped_fits old new f e m h = less_fits m new f (rw (sym e) h)

-- ---- Frames let an end in their midst through, but for joint tests.

abbrev pub with_joint : List ℕ → State → State
with_joint j s = record s { joint_tests = j }

frame_running : (m : Setting) (f : Frame) (s : State) → (j : List ℕ) × (framed m f (running s) ≡ running (with_joint j s))
frame_running m (Rest here ss) s = (s.joint_tests, refl)
frame_running m (Turn r) s = (s.joint_tests, refl)
frame_running m (Again r) s = (s.joint_tests, refl)
frame_running m (Scope bs) s = (s.joint_tests, refl)
frame_running m (Arm n) s = (take n s.joint_tests, refl)
frame_running m (Call f d l) s = (s.joint_tests, refl)

frame_starved : (m : Setting) (f : Frame) (s : State)
    → (j : List ℕ) × (framed m f (no_input s) ≡ no_input (with_joint j s))
frame_starved m (Rest here ss) s = (s.joint_tests, refl)
frame_starved m (Turn r) s = (s.joint_tests, refl)
frame_starved m (Again r) s = (s.joint_tests, refl)
frame_starved m (Scope bs) s = (s.joint_tests, refl)
frame_starved m (Arm n) s = (take n s.joint_tests, refl)
frame_starved m (Call f d l) s = (s.joint_tests, refl)

frame_undefined : (m : Setting) (f : Frame) (l : ℕ) (k : Kind) (s : State)
    → (j : List ℕ) × (framed m f (undefined_at l k s) ≡ undefined_at l k (with_joint j s))
frame_undefined m (Rest here ss) l k s = (s.joint_tests, refl)
frame_undefined m (Turn r) l k s = (s.joint_tests, refl)
frame_undefined m (Again r) l k s = (s.joint_tests, refl)
frame_undefined m (Scope bs) l k s = (s.joint_tests, refl)
frame_undefined m (Arm n) l k s = (take n s.joint_tests, refl)
frame_undefined m (Call f d n) l k s = (s.joint_tests, refl)

pub pile_running : (m : Setting) (fs : List Frame) (s : State)
    → (j : List ℕ) × (piled m fs (running s) ≡ running (with_joint j s))
pile_running m [] s = (s.joint_tests, refl)
pile_running m (f ∷ fs) s =
    let r = pile_running m fs s in
    let q = frame_running m f (with_joint r.0 s) in
    (q.0, ap (framed m f) r.1 ∙ q.1)

pub pile_starved : (m : Setting) (fs : List Frame) (s : State)
    → (j : List ℕ) × (piled m fs (no_input s) ≡ no_input (with_joint j s))
pile_starved m [] s = (s.joint_tests, refl)
pile_starved m (f ∷ fs) s =
    let r = pile_starved m fs s in
    let q = frame_starved m f (with_joint r.0 s) in
    (q.0, ap (framed m f) r.1 ∙ q.1)

pub pile_undefined : (m : Setting) (fs : List Frame) (l : ℕ) (k : Kind) (s : State)
    → (j : List ℕ) × (piled m fs (undefined_at l k s) ≡ undefined_at l k (with_joint j s))
pile_undefined m [] l k s = (s.joint_tests, refl)
pile_undefined m (f ∷ fs) l k s =
    let r = pile_undefined m fs l k s in
    let q = frame_undefined m f l k (with_joint r.0 s) in
    (q.0, ap (framed m f) r.1 ∙ q.1)
