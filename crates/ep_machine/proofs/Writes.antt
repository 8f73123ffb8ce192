-- Writes into a store, as steps of a machine.
use Rattle.std.proofs.Common.{◌≡◌, ℕ, ◌+◌, ◌<◌, ℤ, pos, Bool, true, false, ◌&&◌, not, nat_eq, nat_lt, if◌then◌else◌}
use Rattle.std.proofs.Common.{[], ◌∷◌, unsigned_abs, Option, Some, None, Result, Ok, Err, OnOk, OnErr, refl, sym}
use Rattle.std.proofs.Common.{ap, ◌∙◌, subst}
use Rattle.std.specs.Prelude.{⊤}
use Rattle.ep_int.specs.declared.types.Scalar.{Scalar}
use Rattle.ep_int.specs.Memory.{Memory, Value, Kind, bounds, overlap, copied, filled, killed, overlaps}
use Rattle.ep_int.specs.Memory.{range_fault}
use Rattle.ep_int.specs.Memory.{replaced, store_fault, stored, undefined}
use Rattle.ep_alarms.specs.declared.types.AlarmKind.{AlarmKind}
use Rattle.ep_bytes.specs.View.{fault_at, written_as}
use Rattle.ep_bytes.specs.StoreView.{StoreView, copy_fault, first_fault, is_same, memory_in, place_fault, size_in, IsLike}
use Rattle.ep_core.specs.Exec.{State, Outcome, leaves, on, change, copy_at, model, put_at, remembers, unless}
use Rattle.ep_core.specs.Exec.{undefined_at}
use Rattle.ep_core.specs.Exec.{copy_fault as plain_fault}
use Rattle.ep_core.specs.Typed.{MemoryFits, ValueFits}
use Rattle.ep_core.proofs.Bytes.{replaced_bytes, stored_bytes, filled_bytes, copied_bytes, killed_bytes}
use Rattle.ep_machine.specs.declared.fault.Fault.{Fault}
use Rattle.ep_machine.specs.declared.setting.Setting.{Setting}
use Rattle.ep_machine.specs.Settings.{program_in, size_on, IsLaid}
use Rattle.ep_machine.specs.Machines.{done, fault_by, state_in, ArePartsOf, MachineView, Runs}
use Rattle.ep_machine.proofs.Parts.{replaced_parts, stored_parts, filled_parts, copied_parts, killed_parts}

-- a store that keeps its blocks
pub like_laid : (m : Setting) (old new : StoreView) → IsLaid m old → IsLike old new → IsLaid m new
like_laid m old new h k = record {
  model = k.model ∙ h.model;
  count = k.count ∙ h.count;
  sizes = λ b. k.sizes b ∙ h.sizes b;
}

-- what holds of memory after a write, whether it was done or not
pub fits_after : (P : Memory → Type 0) (old new : StoreView) (a : Result ⊤ AlarmKind) (x : Memory)
    → OnOk a (memory_in new ≡ x) → OnErr a (new ≡ old) → P (memory_in old) → P x → P (memory_in new)
fits_after P old new (Ok u) x e k h i = subst P (sym e) i
fits_after P old new (Err y) x e k h i = subst (λ (o : StoreView). P (memory_in o)) (sym k) h

-- ---- a write and what comes after it

answered : (r : Result ⊤ Fault) (l : ℕ) (s : State) (x : Outcome) (f : Option Kind) → fault_by r ≡ f
    → done r l s x ≡ unless f l s x
answered (Ok u) l s x f e = rw (sym e) refl
answered (Err k) l s x f e = rw (sym e) refl

-- Where it was done the memory is x, and else nothing changed.
pub write_done : (f : Option Kind) (a : Result ⊤ AlarmKind) (r : Result ⊤ Fault) → a ≡ written_as f → fault_by r ≡ f
    → (k : MachineView) (old new : StoreView) (x : Memory) → old ≡ k.store → OnOk a (memory_in new ≡ x) → OnErr a (new ≡ old)
    → (l : ℕ) (go : State → Outcome)
    → unless f l (state_in k) (go (remembers x (state_in k)))
    ≡ done r l (remembers (memory_in new) (state_in k)) (go (remembers (memory_in new) (state_in k)))
write_done None a r ea er k old new x eo ok err l go =
    let o : OnOk (written_as None) (memory_in new ≡ x) = subst (λ (z : Result ⊤ AlarmKind). OnOk z (memory_in new ≡ x))
    ea ok in
    ap (λ y. go (remembers y (state_in k))) (sym o) ∙ sym (answered r l _ _ None er)
write_done (Some y) a r ea er k old new x eo ok err l go =
    let o : OnErr (written_as (Some y)) (new ≡ old)
    = subst (λ (z : Result ⊤ AlarmKind). OnErr z (new ≡ old)) ea err in
    ap (λ (h : StoreView). undefined_at l y (remembers (memory_in h) (state_in k))) (sym (o ∙ eo))
    ∙ sym (answered r l _ _ (Some y) er)

-- ---- faults, as a store and as the definition find them

pub range_same : (m : Setting) (h : StoreView) → IsLaid m h → (b here n : ℕ) (z : ℤ) → z ≡ pos here
    → place_fault h (b, z) n ≡ range_fault (size_on m b) here n
range_same m h laid b here n z e = rw (e, laid.sizes b) refl

pub store_same : (m : Setting) (h : StoreView) → IsLaid m h → (what : Scalar) (b here : ℕ) (z : ℤ) → z ≡ pos here
    → fault_at z (store_fault h.model (size_in h b) what)
    ≡ store_fault (model m.order (program_in m)) (size_on m b) what here
store_same m h laid what b here z e = rw (e, laid.sizes b, laid.model) refl

-- of a copy: outside of the one block, or of the other, or an overlap
copy_tests : (t u v w : Bool)
    → first_fault (if t then Some bounds else None) (first_fault (if u then Some bounds else None)
    (if v && w then Some overlap else None))
    ≡ (if t then Some bounds else if u then Some bounds else if v && w then Some overlap else None)
copy_tests true u v w = refl
copy_tests false true v w = refl
copy_tests false false true true = refl
copy_tests false false true false = refl
copy_tests false false false w = refl

pub copy_same : (m : Setting) (h : StoreView) → IsLaid m h → (b q c r n : ℕ) (is_assignment : Bool) (y z : ℤ) → y ≡ pos q
    → z ≡ pos r
    → copy_fault h (b, y) (c, z) n (is_same (b, y) (c, z) is_assignment)
    ≡ plain_fault m.order (program_in m) b q c r n (is_assignment && (nat_eq b c && nat_eq q r))
copy_same m h laid b q c r n t y z ey ez =
    rw (ey, ez, laid.sizes b, laid.sizes c)
    (copy_tests (nat_lt (size_on m b) (q + n)) (nat_lt (size_on m c) (r + n)) (overlaps b q c r n)
    (not (t && (nat_eq b c && nat_eq q r))))

-- ---- the calls of a machine, which has a store; what it shows is seen from outside as `now`

module _ (m : Setting) {v now : MachineView} (view : v ≡ now) (runs : Runs m now) (new : StoreView) (like : IsLike v.store new)
    (a : Result ⊤ AlarmKind) (err : OnErr a (new ≡ v.store)) where
  kept_laid : IsLaid m v.store
  kept_laid = subst (λ (k : MachineView). IsLaid m k.store) (sym view) runs.laid

  kept_fits : MemoryFits (program_in m) (memory_in v.store)
  kept_fits = subst (λ (k : MachineView). MemoryFits (program_in m) (memory_in k.store)) (sym view) runs.fits

  kept_parts : ArePartsOf (model m.order (program_in m)) (memory_in v.store)
  kept_parts =
      subst (λ (k : MachineView). ArePartsOf (model m.order (program_in m)) (memory_in k.store)) (sym view) runs.parts

  -- in the model of the store, which is that of the program
  store_parts : ArePartsOf v.store.model (memory_in v.store)
  store_parts = subst (λ d. ArePartsOf d (memory_in v.store)) (sym kept_laid.model) kept_parts

  written_runs : (x : Memory) → OnOk a (memory_in new ≡ x) → MemoryFits (program_in m) x → ArePartsOf v.store.model x
      → Runs m (record v { store = new })
  written_runs x ok h i = record {
    laid = like_laid m v.store new kept_laid like;
    fits = fits_after (MemoryFits (program_in m)) v.store new a x ok err kept_fits h;
    parts = fits_after (ArePartsOf (model m.order (program_in m))) v.store new a x ok err kept_parts
        (subst (λ d. ArePartsOf d x) kept_laid.model i);
  }

  pub put_runs : (what : Scalar) (b q : ℕ) (w : Value) → ValueFits (program_in m) what w
      → OnOk a (memory_in new ≡ stored m.order v.store.model (memory_in v.store) what b q w)
      → Runs m (record v { store = new })
  put_runs what b q w h ok =
      written_runs _ ok (stored_bytes (program_in m) m.order v.store.model (memory_in v.store) what b q w kept_fits h)
      (stored_parts m.order v.store.model (memory_in v.store) what b q w store_parts)

  pub fill_runs : (b q n byte : ℕ) → byte < 256
      → OnOk a (memory_in new ≡ filled v.store.model (memory_in v.store) b q n byte) → Runs m (record v { store = new })
  fill_runs b q n byte h ok =
      written_runs _ ok (filled_bytes (program_in m) v.store.model (memory_in v.store) b q n byte h kept_fits)
      (filled_parts v.store.model (memory_in v.store) b q n byte store_parts)

  pub clear_runs : (b q n : ℕ)
      → OnOk a (memory_in new ≡ replaced v.store.model (memory_in v.store) b q n (λ k. undefined))
      → Runs m (record v { store = new })
  clear_runs b q n ok =
      written_runs _ ok
      (replaced_bytes (program_in m) v.store.model (memory_in v.store) b q n (λ k. undefined) kept_fits (λ k. tt))
      (replaced_parts v.store.model (memory_in v.store) b q n (λ k. undefined) store_parts (λ k l. tt))

  pub copy_runs : (t : Bool) (b q c r n : ℕ)
      → OnOk a (memory_in new ≡ (if t then memory_in v.store else copied v.store.model (memory_in v.store) b q c r n))
      → Runs m (record v { store = new })
  copy_runs true b q c r n ok = written_runs (memory_in v.store) ok kept_fits store_parts
  copy_runs false b q c r n ok =
      written_runs _ ok (copied_bytes (program_in m) v.store.model (memory_in v.store) b q c r n kept_fits)
      (copied_parts v.store.model (memory_in v.store) b q c r n store_parts)

  module _ (r : Result ⊤ Fault) (written : (f : Option Kind) → a ≡ written_as f → fault_by r ≡ f) where
    abbrev Then : (k : MachineView) → Option Kind → Memory → Type 0
    Then k f x =
        (l : ℕ) (go : State → Outcome) → unless f l (state_in k) (go (remembers x (state_in k)))
        ≡ done r l (remembers (memory_in new) (state_in v)) (go (remembers (memory_in new) (state_in v)))

    then_so : (f : Option Kind) (x : Memory) → a ≡ written_as f → OnOk a (memory_in new ≡ x) → Then v f x
    then_so f x e ok = write_done f a r e (written f e) v v.store new x refl ok err

    pub put_comes : (what : Scalar) (b here : ℕ) (z : ℤ) (w : Value) → z ≡ pos here
        → a ≡ written_as (fault_at z (store_fault v.store.model (size_in v.store b) what))
        → OnOk a (memory_in new ≡ stored m.order v.store.model (memory_in v.store) what b (unsigned_abs z) w)
        → (l : ℕ) (go : State → Outcome) → put_at m.order (program_in m) what b here w l (state_in now) go
        ≡ done r l (remembers (memory_in new) (state_in v)) (go (remembers (memory_in new) (state_in v)))
    put_comes what b here z w ez e ok =
        let d = model m.order (program_in m) in
        let x : stored m.order v.store.model (memory_in v.store) what b (unsigned_abs z) w
        ≡ stored m.order d (memory_in v.store) what b here w = rw (ez, kept_laid.model) refl in
        subst (λ (k : MachineView). Then k (store_fault d (size_on m b) what here)
        (stored m.order d (memory_in k.store) what b here w)) view
        (then_so _ _ (e ∙ ap written_as (store_same m v.store kept_laid what b here z ez))
        (subst (λ y. OnOk a (memory_in new ≡ y)) x ok))

    pub fill_comes : (b here n byte : ℕ) (z : ℤ) → z ≡ pos here → a ≡ written_as (place_fault v.store (b, z) n)
        → OnOk a (memory_in new ≡ filled v.store.model (memory_in v.store) b (unsigned_abs z) n byte)
        → (l left : ℕ)
        → change m.order (program_in m) b here n (filled now.store.model (memory_in now.store) b here n byte) l left
        (state_in now)
        ≡ done r l (remembers (memory_in new) (state_in v)) (leaves on left (remembers (memory_in new) (state_in v)))
    fill_comes b here n byte z ez e ok l left =
        let x : filled v.store.model (memory_in v.store) b (unsigned_abs z) n byte
        ≡ filled v.store.model (memory_in v.store) b here n byte = rw ez refl in
        subst (λ (k : MachineView). Then k (range_fault (size_on m b) here n)
        (filled k.store.model (memory_in k.store) b here n byte)) view
        (then_so _ _ (e ∙ ap written_as (range_same m v.store kept_laid b here n z ez))
        (subst (λ y. OnOk a (memory_in new ≡ y)) x ok)) l (leaves on left)

    pub clear_comes : (b here n : ℕ) (z : ℤ) → z ≡ pos here → a ≡ written_as (place_fault v.store (b, z) n)
        → OnOk a (memory_in new ≡ replaced v.store.model (memory_in v.store) b (unsigned_abs z) n (λ k. undefined))
        → (l left : ℕ)
        → change m.order (program_in m) b here n
        (replaced now.store.model (memory_in now.store) b here n (λ k. undefined)) l left (state_in now)
        ≡ done r l (remembers (memory_in new) (state_in v)) (leaves on left (remembers (memory_in new) (state_in v)))
    clear_comes b here n z ez e ok l left =
        let x : replaced v.store.model (memory_in v.store) b (unsigned_abs z) n (λ k. undefined)
        ≡ replaced v.store.model (memory_in v.store) b here n (λ k. undefined) = rw ez refl in
        subst (λ (k : MachineView). Then k (range_fault (size_on m b) here n)
        (replaced k.store.model (memory_in k.store) b here n (λ k. undefined))) view
        (then_so _ _ (e ∙ ap written_as (range_same m v.store kept_laid b here n z ez))
        (subst (λ y. OnOk a (memory_in new ≡ y)) x ok)) l (leaves on left)

    pub copy_comes : (b q c s n : ℕ) (t : Bool) (y z : ℤ) → y ≡ pos q → z ≡ pos s
        → a ≡ written_as (copy_fault v.store (b, y) (c, z) n (is_same (b, y) (c, z) t))
        → OnOk a (memory_in new ≡ (if is_same (b, y) (c, z) t then memory_in v.store
        else copied v.store.model (memory_in v.store) b (unsigned_abs y) c (unsigned_abs z) n))
        → (l left : ℕ)
        → copy_at m.order (program_in m) b q c s n (t && (nat_eq b c && nat_eq q s)) l left (state_in now)
        ≡ done r l (remembers (memory_in new) (state_in v)) (leaves on left (remembers (memory_in new) (state_in v)))
    copy_comes b q c s n t y z ey ez e ok l left =
        let d = model m.order (program_in m) in
        let x : (if is_same (b, y) (c, z) t then memory_in v.store
        else copied v.store.model (memory_in v.store) b (unsigned_abs y) c (unsigned_abs z) n)
        ≡ (if t && (nat_eq b c && nat_eq q s) then memory_in v.store else copied d (memory_in v.store) b q c s n)
        = rw (ey, ez, kept_laid.model) refl in
        subst (λ (k : MachineView). Then k (plain_fault m.order (program_in m) b q c s n (t && (nat_eq b c && nat_eq q s)))
        (if t && (nat_eq b c && nat_eq q s) then memory_in k.store else copied d (memory_in k.store) b q c s n)) view
        (then_so _ _ (e ∙ ap written_as (copy_same m v.store kept_laid b q c s n t y z ey ez))
        (subst (λ w. OnOk a (memory_in new ≡ w)) x ok)) l (leaves on left)

-- ---- a block that becomes undefined

pub kill_runs : (m : Setting) {v now : MachineView} (view : v ≡ now) (b : ℕ) (new : StoreView) → Runs m now → IsLike v.store new
    → memory_in new ≡ killed (b ∷ []) (memory_in v.store) → Runs m (record v { store = new })
kill_runs m {v} {now} view b new runs like e =
    let laid = subst (λ (k : MachineView). IsLaid m k.store) (sym view) runs.laid in
    let fits = subst (λ (k : MachineView). MemoryFits (program_in m) (memory_in k.store)) (sym view) runs.fits in
    let parts = subst (λ (k : MachineView). ArePartsOf (model m.order (program_in m)) (memory_in k.store)) (sym view) runs.parts in
    record {
      laid = like_laid m v.store new laid like;
      fits = subst (MemoryFits (program_in m)) (sym e) (killed_bytes (program_in m) (b ∷ []) (memory_in v.store) fits);
      parts = subst (ArePartsOf (model m.order (program_in m))) (sym e)
          (killed_parts (model m.order (program_in m)) (b ∷ []) (memory_in v.store) parts);
    }
