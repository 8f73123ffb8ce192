-- What a store answers, as what the definition finds.
use Rattle.std.proofs.Common.{◌≡◌, ℕ, ◌+◌, ◌<◌, ℤ, pos, Bool, true, false, nat_lt, refl, sym, ap, ◌∙◌, subst, Result}
use Rattle.ep_int.proofs.Basics.{size_positive}
use Rattle.std.proofs.Common.{Ok, Err, arith}
use Rattle.std.proofs.lemmas.Bool.Decides.{nat_tests}
use Rattle.ep_int.specs.declared.types.Model.{Model}
use Rattle.ep_int.specs.declared.types.Order.{Order}
use Rattle.ep_int.specs.declared.types.Scalar.{Scalar}
use Rattle.ep_int.specs.Types.{size_of}
use Rattle.ep_int.specs.Memory.{Memory, Value, int, null, pointer, Kind, overflow, division, shift, uninitialised}
use Rattle.ep_int.specs.Memory.{bounds, null_pointer, alignment, pointer_mix, overlap, pointer_part}
use Rattle.ep_int.specs.Memory.{Found, has, faults, is_outside, loaded}
use Rattle.ep_alarms.specs.declared.types.AlarmKind.{AlarmKind}
use Rattle.ep_bytes.specs.declared.types.Datum.{Datum}
use Rattle.ep_bytes.specs.View.{alarm_of, datum_of, found_at, read_as, value_in}
use Rattle.ep_machine.specs.declared.fault.Fault.{Fault}
use Rattle.ep_machine.specs.Faults.{kind_named, kind_of}

pub named : (k : Kind) → kind_named (alarm_of k) ≡ k
named overflow = refl
named division = refl
named shift = refl
named uninitialised = refl
named bounds = refl
named null_pointer = refl
named alignment = refl
named pointer_mix = refl
named overlap = refl
named pointer_part = refl

valued : (v : Value) → value_in (datum_of v) ≡ v
valued (int v) = refl
valued null = refl
valued (pointer b q) = refl

-- a value that was read, and a fault
pub read_has : (f : Found) (d : Datum) → ◌≡◌ {A = Result Datum AlarmKind} (Ok d) (read_as f) → has (value_in d) ≡ f
read_has (has v) d e = let same : d ≡ datum_of v = cc in ap (λ x. has (value_in x)) same ∙ ap has (valued v)
read_has (faults k) d e = absurd cc

pub read_faults : (f : Found) (a : AlarmKind) (x : Fault) → ◌≡◌ {A = Result Datum AlarmKind} (Err a) (read_as f)
    → kind_of x ≡ kind_named a → faults (kind_of x) ≡ f
read_faults (has v) a x e h = absurd cc
read_faults (faults k) a x e h =
    let same : a ≡ alarm_of k = cc in ap faults (h ∙ ap kind_named same ∙ named k)

-- ---- where there is no block

pub outside : (n here : ℕ) → 0 < n → is_outside 0 here n ≡ true
outside n here h = grind (arith, nat_tests)

pub loaded_nowhere : (o : Order) (d : Model) (m : Memory) (what : Scalar) (b here : ℕ)
    → loaded o d 0 m what b here ≡ faults bounds
loaded_nowhere o d m what b here = rw (outside (size_of d what) here (size_positive d what)) refl

-- ---- a read in a block of the program

module _ (o : Order) (d e : Model) (n k : ℕ) (m : Memory) (what : Scalar) (b here : ℕ) (same : d ≡ e) (size : n ≡ k)
    (z : ℤ) (at : z ≡ pos here) where
  pub loaded_has : (v : Datum)
      → ◌≡◌ {A = Result Datum AlarmKind} (Ok v) (read_as (found_at z (loaded o d n m what b)))
      → has (value_in v) ≡ loaded o e k m what b here
  loaded_has v h =
      let q : ◌≡◌ {A = Result Datum AlarmKind} (Ok v) (read_as (loaded o d n m what b here))
      = subst (λ y. ◌≡◌ {A = Result Datum AlarmKind} (Ok v) (read_as (found_at y (loaded o d n m what b)))) at h in
      rw (sym same, sym size) (read_has (loaded o d n m what b here) v q)

  pub loaded_faults : (a : AlarmKind) (x : Fault)
      → ◌≡◌ {A = Result Datum AlarmKind} (Err a) (read_as (found_at z (loaded o d n m what b)))
      → kind_of x ≡ kind_named a → faults (kind_of x) ≡ loaded o e k m what b here
  loaded_faults a x h r =
      let q : ◌≡◌ {A = Result Datum AlarmKind} (Err a) (read_as (loaded o d n m what b here))
      = subst (λ y. ◌≡◌ {A = Result Datum AlarmKind} (Err a) (read_as (found_at y (loaded o d n m what b)))) at h in
      rw (sym same, sym size) (read_faults (loaded o d n m what b here) a x q r)
