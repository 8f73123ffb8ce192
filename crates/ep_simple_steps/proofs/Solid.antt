-- Types each of whose bytes is one of a scalar.
use Rattle.std.proofs.Common.{◌≡◌, ℕ, zero, suc, ◌+◌, ◌-◌, ◌*◌, ◌<◌, ◌≤◌, ⊎_elim, Bool, true, false, ◌&&◌, ◌||◌}
use Rattle.std.proofs.Common.{nat_eq, nat_le, nat_lt, if◌then◌else◌, List, [], ◌∷◌, ◌++◌, Option, Some, None, option_map}
use Rattle.std.proofs.Common.{slice_get, unwrap_or, length, refl, sym, ap, ◌∙◌, subst, arith}
use Rattle.std.specs.Prelude.{⊤, Result}
use Rattle.std.specs.List.{list_any}
use Rattle.std.proofs.lemmas.Bool.{cases_lt}
use Rattle.std.proofs.lemmas.Bool.Decides.{nat_tests}
use Rattle.std.proofs.lemmas.List.Folds.{list_any-append}
use mathlib.Core.Path.{fun_ext}
use Rattle.ep_int.specs.declared.types.Model.{Model}
use Rattle.ep_int.specs.declared.types.IntType.{IntType}
use Rattle.ep_int.specs.declared.types.Scalar.{Scalar}
use Rattle.ep_int.specs.declared.types.Scalar.TheVariants.{Int as Number, Pointer}
use Rattle.ep_int.specs.Types.{size_of}
use Rattle.ep_int.specs.Memory.{Memory, filled, number, undefined}
use Rattle.ep_layout.specs.declared.types.Leaf.{Leaf}
use Rattle.ep_layout.specs.declared.types.Ty.TheVariants.{Int, Ptr, Array}
use Rattle.ep_layout.specs.Layout.{Layout, array_layout, repeated, scalar_layout, shifted}
use Rattle.ep_layout.specs.Table.{Table, at_depth, layout_of, layout_rules, leaves}
use Rattle.ep_layout.proofs.Options.{map_some}
use Rattle.ep_core.specs.Exec.{State, bytes_in, cleared, model, remembers}
use Rattle.ep_machine.specs.declared.fault.Fault.{Fault}
use Rattle.ep_machine.specs.declared.setting.Setting.{Setting}
use Rattle.ep_machine.specs.Settings.{program_in, size_on}
use Rattle.ep_machine.specs.Machines.{Changes}
use Rattle.ep_simple_steps.specs.Zeros.{IsFull, IsSolid, zeros_in}
use Rattle.ep_frames.proofs.Bytewise.{range_changed}

-- whether a scalar has a byte
abbrev has_byte : Model → ℕ → Leaf → Bool
has_byte d k f = nat_le f.offset k && nat_lt k (f.offset + size_of d f.what)

module _ (d : Model) where
  scalar_full : (w : Scalar) → IsFull d (scalar_layout d w)
  scalar_full w k h =
      let e : (nat_le 0 k && nat_lt k (0 + size_of d w)) ≡ true = grind (arith, nat_tests) in
      ap (λ (b : Bool). b || false) e

  -- leaves further on have the bytes further on
  any_shifted : (s k : ℕ) (fs : List Leaf) → s ≤ k
      → list_any (has_byte d k) (shifted s fs) ≡ list_any (has_byte d (k - s)) fs
  any_shifted s k [] h = refl
  any_shifted s k (f ∷ fs) h =
      let e : (nat_le (s + f.offset) k && nat_lt k (s + f.offset + size_of d f.what))
      ≡ (nat_le f.offset (k - s) && nat_lt (k - s) (f.offset + size_of d f.what)) = grind (arith, nat_tests) in
      ap (λ (b : Bool). b || list_any (has_byte d k) (shifted s fs)) e
      ∙ ap (λ (b : Bool). has_byte d (k - s) f || b) (any_shifted s k fs h)

  any_left : (k : ℕ) (fs gs : List Leaf) → list_any (has_byte d k) fs ≡ true → list_any (has_byte d k) (fs ++ gs) ≡ true
  any_left k fs gs e = list_any-append (has_byte d k) fs gs ∙ ap (λ (b : Bool). b || list_any (has_byte d k) gs) e

  any_right : (k : ℕ) (fs gs : List Leaf) → list_any (has_byte d k) gs ≡ true → list_any (has_byte d k) (fs ++ gs) ≡ true
  any_right k fs gs e =
      list_any-append (has_byte d k) fs gs ∙ ap (λ (b : Bool). list_any (has_byte d k) fs || b) e
      ∙ or_true (list_any (has_byte d k) fs)
    where
      or_true : (b : Bool) → (b || true) ≡ true
      or_true true = refl
      or_true false = refl

  module _ (s : ℕ) (fs : List Leaf) (full : (k : ℕ) → k < s → list_any (has_byte d k) fs ≡ true) where
    repeated_full : (n k : ℕ) → k < n * s → list_any (has_byte d k) (repeated n s fs) ≡ true
    repeated_full zero k h = let e : zero * s ≡ 0 = omega arith in absurd (omega (arith, e, h))
    repeated_full (suc n) k h =
        let e : suc n * s ≡ s + n * s = omega arith in
        ⊎_elim
        (λ first. any_left k fs (shifted s (repeated n s fs)) (full k first))
        (λ later. any_right k fs (shifted s (repeated n s fs))
        (any_shifted s k (repeated n s fs) later ∙ repeated_full n (k - s) (omega (arith, e, h, later))))
        (cases_lt k s)

  array_full : (n : ℕ) (l : Layout) → IsFull d l → IsFull d (array_layout n l)
  array_full n l h k lt = repeated_full l.size l.leaves h n k lt

-- ---- types

-- the same of a type, however deep its parts are looked for
abbrev pub IsSolidAt : Table → ℕ → Type 0
IsSolidAt t ty = (d : ℕ) (l : Layout) → at_depth (layout_rules t.model) t d ty ≡ Some l → IsFull t.model l

module _ (t : Table) (ty : ℕ) where
  pub solid_type : IsSolidAt t ty → IsSolid t ty
  solid_type h l e = h (length t.types + length t.completed) l e

  scalar_by : (w : Scalar) (l : Layout) → Some (scalar_layout t.model w) ≡ Some l → IsFull t.model l
  scalar_by w l e = let p : scalar_layout t.model w ≡ l = cc in subst (IsFull t.model) p (scalar_full t.model w)

  pub int_solid : (i : IntType) → slice_get t.types ty ≡ Some (Int i) → IsSolidAt t ty
  unfolding at_depth
  int_solid i h zero l e = absurd cc
  int_solid i h (suc d) l e = scalar_by (Number i) l (rw h at e)

  pub pointer_solid : (n : ℕ) → slice_get t.types ty ≡ Some (Ptr n) → IsSolidAt t ty
  unfolding at_depth
  pointer_solid n h zero l e = absurd cc
  pointer_solid n h (suc d) l e = scalar_by Pointer l (rw h at e)

  pub array_solid : (c n : ℕ) → slice_get t.types ty ≡ Some (Array c n) → IsSolidAt t c → IsSolidAt t ty
  unfolding at_depth
  array_solid c n h of zero l e = absurd cc
  array_solid c n h of (suc d) l e =
      let s = map_some (array_layout n) (at_depth (layout_rules t.model) t d c) l (rw h at e) in
      subst (IsFull t.model) s.2 (array_full t.model n s.0 (of d s.0 s.1))

-- ---- memory

module _ (m : Setting) (ty : ℕ) (solid : IsSolid (program_in m).types ty) where
  byte_in : (k : ℕ) → k < bytes_in m.order (program_in m) ty → zeros_in m (leaves (program_in m).types ty) k ≡ number 0
  byte_in = by (layout_of (program_in m).types ty) refl
    where
      by : (o : Option Layout) → layout_of (program_in m).types ty ≡ o → (k : ℕ)
          → k < unwrap_or (option_map (λ (l : Layout). l.size) o) 0
          → zeros_in m (unwrap_or (option_map (λ (l : Layout). l.leaves) o) []) k ≡ number 0
      by None e k h = absurd (omega (arith, h))
      by (Some l) e k h = ap (λ (b : Bool). if b then number 0 else undefined) (solid l e k h)

  -- a place that is full of 0 is cleared
  full_is : (x : Memory) (b q n : ℕ) → n ≡ bytes_in m.order (program_in m) ty
      → filled (model m.order (program_in m)) x b q n 0 ≡ cleared m.order (program_in m) ty x b q
  full_is x b q n en =
      ap (λ k. filled (model m.order (program_in m)) x b q k 0) en ∙ fun_ext (λ c. fun_ext (λ p. at c p
      (nat_eq b c && (nat_le q p && nat_lt p (q + bytes_in m.order (program_in m) ty))) refl))
    where
      at : (c p : ℕ) (t : Bool)
          → (nat_eq b c && (nat_le q p && nat_lt p (q + bytes_in m.order (program_in m) ty))) ≡ t
          → filled (model m.order (program_in m)) x b q (bytes_in m.order (program_in m) ty) 0 c p
          ≡ cleared m.order (program_in m) ty x b q c p
      at c p true e =
          let inside : p - q < bytes_in m.order (program_in m) ty = grind (arith, nat_tests) in
          rw e (sym (byte_in (p - q) inside))
      at c p false e = rw e refl

  pub full_cleared : (x : Memory) (b q n : ℕ) (d : Model) (old new : State) (a : Result ⊤ Fault)
      → d ≡ model m.order (program_in m) → n ≡ bytes_in m.order (program_in m) ty → q + n ≤ size_on m b
      → Changes m old a new b q n (filled d x b q n 0)
      → new ≡ remembers (cleared m.order (program_in m) ty x b q) old
  full_cleared x b q n d old new a ed en inside c =
      range_changed m b q n (filled d x b q n 0) old new a inside c
      ∙ ap (λ d. remembers (filled d x b q n 0) old) ed
      ∙ ap (λ z. remembers z old) (full_is x b q n en)
