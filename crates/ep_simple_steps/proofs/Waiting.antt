-- Leaves that touch wait as one run, and become 0 at once.
use Rattle.std.proofs.Common.{◌≡◌, ℕ, ◌+◌, ◌-◌, ◌<◌, ◌≤◌, ⊎_elim, Bool, true, false, ◌&&◌, nat_eq, nat_le, nat_lt}
use Rattle.std.proofs.Common.{if◌then◌else◌, List, ◌∷◌, get_or, length, drop, take, refl, sym, ap, ◌∙◌, subst, arith}
use Rattle.std.specs.Prelude.{⊤, Result}
use Rattle.std.specs.List.{list_any}
use Rattle.std.proofs.lemmas.Bool.{cases_lt}
use Rattle.std.proofs.lemmas.List.{get_or_default}
use Rattle.std.proofs.lemmas.Bool.Decides.{nat_tests}
use Rattle.ep_int.proofs.Basics.{drop-at, take-all}
use mathlib.Core.Path.{fun_ext}
use Rattle.ep_int.specs.declared.types.Model.{Model}
use Rattle.ep_int.specs.Types.{size_of}
use Rattle.ep_int.specs.Memory.{Byte, undefined, number, Memory, filled, replaced}
use Rattle.ep_layout.specs.declared.types.Leaf.{Leaf}
use Rattle.ep_layout.specs.Layout.{AreLeavesFrom}
use Rattle.ep_core.specs.Exec.{State, is_in_leaf, model, remembers}
use Rattle.ep_machine.specs.declared.fault.Fault.{Fault}
use Rattle.ep_machine.specs.declared.setting.Setting.{Setting}
use Rattle.ep_machine.specs.Settings.{program_in, size_on}
use Rattle.ep_machine.specs.Machines.{ArePartsOf, Changes}
use Rattle.ep_simple_steps.specs.Zeros.{run_zeroed, zeros_in}
use Rattle.ep_simple_steps.proofs.Clears.{filled_in, fill_part, from_below, plain_choice, zeros_more, IsPlain}
use Rattle.ep_frames.proofs.Bytewise.{range_changed}

-- the bytes before an offset as they are given, and those from it on undefined
abbrev pub upto : (ℕ → Byte) → (e : ℕ) → ℕ → Byte
upto f e k = if nat_lt k e then f k else undefined

abbrev pub start_of : (offset from to : ℕ) → ℕ
start_of o from to = if nat_eq o to then from else o

filled_on : (f : ℕ → Byte) (off w v k : ℕ) → off ≤ k → k < off + w → filled_in f off w v k ≡ number v
filled_on f off w v k a b =
    let e : (nat_le off k && nat_lt k (off + w)) ≡ true = grind (arith, nat_tests) in rw e refl

filled_below : (f : ℕ → Byte) (off w v k : ℕ) → k < off → filled_in f off w v k ≡ f k
filled_below f off w v k a =
    let e : (nat_le off k && nat_lt k (off + w)) ≡ false = grind (arith, nat_tests) in rw e refl

filled_above : (f : ℕ → Byte) (off w v k : ℕ) → off + w ≤ k → filled_in f off w v k ≡ f k
filled_above f off w v k a =
    let e : (nat_le off k && nat_lt k (off + w)) ≡ false = grind (arith, nat_tests) in rw e refl

upto_below : (f : ℕ → Byte) (e k : ℕ) → k < e → upto f e k ≡ f k
upto_below f e k a = let t : nat_lt k e ≡ true = grind (arith, nat_tests) in rw t refl

upto_above : (f : ℕ → Byte) (e k : ℕ) → e ≤ k → upto f e k ≡ undefined
upto_above f e k a = let t : nat_lt k e ≡ false = grind (arith, nat_tests) in rw t refl

-- a run of bytes that are 0, behind which all are undefined
pub record IsRun (f : ℕ → Byte) (from to : ℕ) : Type 0 where
  pub ordered : from ≤ to
  pub zeros : (k : ℕ) → from ≤ k → k < to → f k ≡ number 0
  pub nothing : (k : ℕ) → to ≤ k → f k ≡ undefined

module _ (f : ℕ → Byte) (from to : ℕ) (r : IsRun f from to) where
  run_at : (k : ℕ) → filled_in (upto f from) from (to - from) 0 k ≡ f k
  run_at k =
      let o = r.ordered in
      ⊎_elim
      (λ below. filled_below (upto f from) from (to - from) 0 k below ∙ upto_below f from k below)
      (λ on. ⊎_elim
      (λ inside. filled_on (upto f from) from (to - from) 0 k on (omega arith) ∙ sym (r.zeros k on inside))
      (λ above. filled_above (upto f from) from (to - from) 0 k (omega arith) ∙ upto_above f from k on
      ∙ sym (r.nothing k above))
      (cases_lt k to))
      (cases_lt k from)

  none_at : to ≤ from → (k : ℕ) → upto f from k ≡ f k
  none_at h k =
      ⊎_elim (λ below. upto_below f from k below)
      (λ on. upto_above f from k on ∙ sym (r.nothing k (omega arith)))
      (cases_lt k from)

  -- the run and a part behind it
  module _ (o w : ℕ) (behind : to ≤ o) where
    more_by : (t : Bool) → nat_eq o to ≡ t → IsRun (filled_in f o w 0) (if t then from else o) (o + w)
    more_by true e =
        let same : o ≡ to = grind (arith, nat_tests) in
        let order = r.ordered in
        record {
          ordered = omega arith;
          zeros = λ k a b. ⊎_elim
              (λ below. filled_below f o w 0 k below ∙ r.zeros k a (omega arith))
              (λ on. filled_on f o w 0 k on b)
              (cases_lt k o);
          nothing = λ k a. filled_above f o w 0 k a ∙ r.nothing k (omega arith);
        }
    more_by false e = record {
      ordered = omega arith;
      zeros = λ k a b. filled_on f o w 0 k a b;
      nothing = λ k a. filled_above f o w 0 k a ∙ r.nothing k (omega arith);
    }

    pub run_more : IsRun (filled_in f o w 0) (start_of o from to) (o + w)
    run_more = more_by (nat_eq o to) refl

    -- what was done before the longer run
    kept_at : (k : ℕ) → upto (filled_in f o w 0) from k ≡ upto f from k
    kept_at k =
        let order = r.ordered in
        ⊎_elim
        (λ below. upto_below (filled_in f o w 0) from k below ∙ filled_below f o w 0 k (omega arith)
        ∙ sym (upto_below f from k below))
        (λ on. upto_above (filled_in f o w 0) from k on ∙ sym (upto_above f from k on))
        (cases_lt k from)

    -- what was done before a run of its own
    apart_at : (k : ℕ) → upto (filled_in f o w 0) o k ≡ f k
    apart_at k =
        ⊎_elim
        (λ below. upto_below (filled_in f o w 0) o k below ∙ filled_below f o w 0 k below)
        (λ on. upto_above (filled_in f o w 0) o k on ∙ sym (r.nothing k (omega arith)))
        (cases_lt k o)

  -- ---- memory

  module _ (d : Model) (x : Memory) (parts : ArePartsOf d x) (b q n : ℕ) (plain : (k : ℕ) → IsPlain (f k)) (le : to ≤ n) where
    plain_upto : (k : ℕ) → IsPlain (upto f from k)
    plain_upto k = by (nat_lt k from)
      where
        by : (t : Bool) → IsPlain (if t then f k else undefined)
        by true = plain k
        by false = tt

    done_by : (t : Bool) → nat_lt from to ≡ t
        → (if t then filled d (replaced d x b q n (upto f from)) b (q + from) (to - from) 0 else replaced d x b q n (upto f from))
        ≡ replaced d x b q n f
    done_by true e =
        let less : from < to = grind (arith, nat_tests) in
        fill_part d x parts b q n (upto f from) plain_upto from (to - from) 0 (omega arith)
        ∙ ap (replaced d x b q n) (fun_ext run_at)
    done_by false e =
        let none : to ≤ from = grind (arith, nat_tests) in ap (replaced d x b q n) (fun_ext (none_at none))

    -- the run becomes 0
    pub run_done : run_zeroed d (replaced d x b q n (upto f from)) b q from to ≡ replaced d x b q n f
    run_done = done_by (nat_lt from to) refl

    module _ (o w : ℕ) (behind : to ≤ o) where
      next_by : (t : Bool) → nat_eq o to ≡ t
          → (if t then replaced d x b q n (upto f from) else run_zeroed d (replaced d x b q n (upto f from)) b q from to)
          ≡ replaced d x b q n (upto (filled_in f o w 0) (if t then from else o))
      next_by true e = ap (replaced d x b q n) (fun_ext (λ k. sym (kept_at o w behind k)))
      next_by false e = run_done ∙ ap (replaced d x b q n) (fun_ext (λ k. sym (apart_at o w behind k)))

      pub run_next : (if nat_eq o to then replaced d x b q n (upto f from) else
          run_zeroed d (replaced d x b q n (upto f from)) b q from to)
          ≡ replaced d x b q n (upto (filled_in f o w 0) (start_of o from to))
      run_next = next_by (nat_eq o to) refl

-- ---- leaves

-- the first leaves of a place, of which those of a run wait
pub record Waits (m : Setting) (fs : List Leaf) (i from to n : ℕ) : Type 0 where
  pub run : IsRun (zeros_in m (take i fs)) from to
  pub left : AreLeavesFrom (model m.order (program_in m)) to n (drop i fs)

module _ (m : Setting) (fs : List Leaf) (n : ℕ) where
  pub waits_none : AreLeavesFrom (model m.order (program_in m)) 0 n fs → Waits m fs 0 0 0 n
  waits_none a = record {
    run = record { ordered = omega arith; zeros = λ k h l. absurd (omega arith); nothing = λ k h. refl };
    left = a;
  }

  module _ (i from to : ℕ) (s : Waits m fs i from to n) where
    pub run_inside : to ≤ n
    run_inside = from_below (model m.order (program_in m)) to n (drop i fs) s.left

    zeros_plain : (k : ℕ) → IsPlain (zeros_in m (take i fs) k)
    zeros_plain k = plain_choice (list_any (is_in_leaf m.order (program_in m) k) (take i fs))

    module _ (f : Leaf) (g : Leaf) (lt : i < length fs) (is : f ≡ get_or fs i g) where
      unrolled : AreLeavesFrom (model m.order (program_in m)) to n (f ∷ drop (i + 1) fs)
      unrolled =
          subst (AreLeavesFrom (model m.order (program_in m)) to n)
          (drop-at i fs f lt (is ∙ get_or_default fs i g f lt)) s.left

      -- a leaf ends inside
      pub leaf_inside : f.offset + size_of (model m.order (program_in m)) f.what ≤ n
      leaf_inside =
          from_below (model m.order (program_in m)) (f.offset + size_of (model m.order (program_in m)) f.what) n
          (drop (i + 1) fs) unrolled.2

      pub waits_next : (w : ℕ) → w ≡ size_of (model m.order (program_in m)) f.what
          → Waits m fs (i + 1) (start_of f.offset from to) (f.offset + w) n
      waits_next w ew =
          subst (λ k. Waits m fs (i + 1) (start_of f.offset from to) (f.offset + k) n) (sym ew) (record {
            run = subst (λ h. IsRun h (start_of f.offset from to) (f.offset + size_of (model m.order (program_in m)) f.what))
                (zeros_more m fs i f g lt is)
                (run_more (zeros_in m (take i fs)) from to s.run f.offset (size_of (model m.order (program_in m)) f.what)
                unrolled.0);
            left = unrolled.2;
          })

      pub state_next : (x : Memory) → ArePartsOf (model m.order (program_in m)) x → (b q : ℕ) (old mid r : State)
          → mid ≡ remembers (if nat_eq f.offset to then old.memory else
          run_zeroed (model m.order (program_in m)) old.memory b q from to) old
          → old ≡ remembers (replaced (model m.order (program_in m)) x b q n (upto (zeros_in m (take i fs)) from)) r
          → mid ≡ remembers (replaced (model m.order (program_in m)) x b q n
          (upto (zeros_in m (take (i + 1) fs)) (start_of f.offset from to))) r
      state_next x parts b q old mid r c eo =
          let d = model m.order (program_in m) in
          c
          ∙ ap (λ (y : State). remembers (if nat_eq f.offset to then y.memory else run_zeroed d y.memory b q from to) y) eo
          ∙ ap (λ z. remembers z r)
          (run_next (zeros_in m (take i fs)) from to s.run d x parts b q n zeros_plain run_inside f.offset
          (size_of d f.what) unrolled.0)
          ∙ ap (λ (h : ℕ → Byte). remembers (replaced d x b q n (upto h (start_of f.offset from to))) r)
          (zeros_more m fs i f g lt is)

    pub state_done : (x : Memory) → ArePartsOf (model m.order (program_in m)) x → (b q : ℕ) (old new r : State)
        → length fs ≤ i → new ≡ remembers (run_zeroed (model m.order (program_in m)) old.memory b q from to) old
        → old ≡ remembers (replaced (model m.order (program_in m)) x b q n (upto (zeros_in m (take i fs)) from)) r
        → new ≡ remembers (replaced (model m.order (program_in m)) x b q n (zeros_in m fs)) r
    state_done x parts b q old new r h c eo =
        let d = model m.order (program_in m) in
        c ∙ ap (λ (y : State). remembers (run_zeroed d y.memory b q from to) y) eo
        ∙ ap (λ z. remembers z r)
        (run_done (zeros_in m (take i fs)) from to s.run d x parts b q n zeros_plain run_inside)
        ∙ ap (λ gs. remembers (replaced d x b q n (zeros_in m gs)) r) (take-all i fs h)

  pub state_first : (x : Memory) (b q : ℕ) (r : State)
      → r.memory ≡ replaced (model m.order (program_in m)) x b q n (λ k. undefined)
      → r ≡ remembers (replaced (model m.order (program_in m)) x b q n (upto (zeros_in m (take 0 fs)) 0)) r
  state_first x b q r e =
      ap (λ z. remembers z r) (e ∙ ap (replaced (model m.order (program_in m)) x b q n)
      (fun_ext (λ k. sym (upto_above (zeros_in m (take 0 fs)) 0 k (omega arith)))))

-- a run becomes 0, where it isn't empty
pub run_is_zeroed : (m : Setting) (b q from to : ℕ) (d : Model) (old new : State) (a : Result ⊤ Fault)
    → d ≡ model m.order (program_in m) → from < to → q + to ≤ size_on m b
    → Changes m old a new b (q + from) (to - from) (filled d old.memory b (q + from) (to - from) 0)
    → new ≡ remembers (run_zeroed (model m.order (program_in m)) old.memory b q from to) old
run_is_zeroed m b q from to d old new a ed less inside c =
    let t : nat_lt from to ≡ true = grind (arith, nat_tests) in
    let fits : q + from + (to - from) ≤ size_on m b = omega arith in
    rw t (range_changed m b (q + from) (to - from) (filled d old.memory b (q + from) (to - from) 0) old new a fits c
    ∙ ap (λ d. remembers (filled d old.memory b (q + from) (to - from) 0) old) ed)
