-- Places that are cleared, leaf by leaf.
use Rattle.std.proofs.Common.{◌≡◌, ℕ, ◌+◌, ◌-◌, ◌<◌, ◌≤◌, Bool, true, false, ◌&&◌, ◌||◌, not, nat_eq}
use Rattle.std.proofs.Common.{nat_lt, nat_le}
use Rattle.std.proofs.Common.{if◌then◌else◌, List, [], ◌∷◌, get_or, length, take, refl, sym, ap, ◌∙◌, subst, arith}
use Rattle.std.specs.Prelude.{⊤, Result}
use Rattle.std.specs.List.{list_any}
use Rattle.std.proofs.lemmas.Bool.Decides.{nat_tests}
use Rattle.std.proofs.lemmas.List.Folds.{list_any_more}
use mathlib.Core.Path.{fun_ext}
use Rattle.ep_int.specs.declared.types.Model.{Model}
use Rattle.ep_int.specs.Types.{pointer_bytes, size_of}
use Rattle.ep_int.specs.Memory.{Byte, undefined, number, fragment, Memory, filled, lies_partly, replaced}
use Rattle.ep_layout.specs.declared.types.Leaf.{Leaf}
use Rattle.ep_layout.specs.Layout.{AreLeavesFrom}
use Rattle.ep_layout.specs.Table.{leaves}
use Rattle.ep_core.specs.Exec.{State, bytes_in, cleared, is_in_leaf, model, remembers}
use Rattle.ep_machine.specs.declared.fault.Fault.{Fault}
use Rattle.ep_machine.specs.declared.setting.Setting.{Setting}
use Rattle.ep_machine.specs.Settings.{program_in, size_on}
use Rattle.ep_machine.specs.Machines.{IsPart, ArePartsOf, Changes}
use Rattle.ep_simple_steps.specs.Zeros.{zeros_in}
use Rattle.ep_frames.proofs.Bytewise.{range_changed}

-- a byte that is no part of a pointer
abbrev pub IsPlain : Byte → Type 0
IsPlain undefined = Unit {0}
IsPlain (number v) = Unit {0}
IsPlain (fragment b o k) = ⊥

plain_whole : (d : Model) (here n : ℕ) (x : Byte) (p : ℕ) → IsPlain x → lies_partly d here n x p ≡ false
plain_whole d here n undefined p h = refl
plain_whole d here n (number v) p h = refl
plain_whole d here n (fragment b o k) p h = absurd h

-- a pointer that is whole beside a place is whole beside each part of it
whole_beside : (w q n k p : ℕ) → k < w → (nat_le q p && nat_lt p (q + n)) ≡ false
    → ((nat_lt p (q + n + k) && nat_lt (q + k) (p + w)) && not (nat_le (q + k) p && nat_le (p + w) (q + n + k))) ≡ false
    → (off m : ℕ) → off + m ≤ n
    → ((nat_lt p (q + off + m + k) && nat_lt (q + off + k) (p + w))
    && not (nat_le (q + off + k) p && nat_le (p + w) (q + off + m + k))) ≡ false
whole_beside w q n k p h out whole off m le = grind (arith, nat_tests)

-- the bytes of a place, with one number in w of them
abbrev pub filled_in : (ℕ → Byte) → (off w v : ℕ) → ℕ → Byte
filled_in f off w v j = if nat_le off j && nat_lt j (off + w) then number v else f j

module _ (d : Model) (m : Memory) (parts : ArePartsOf d m) (b q n : ℕ) (f : ℕ → Byte) (plain : (k : ℕ) → IsPlain (f k))
    (off w v : ℕ) (le : off + w ≤ n) where
  beside : (x : Byte) (p : ℕ) → IsPart d x → (nat_le q p && nat_lt p (q + n)) ≡ false → lies_partly d q n x p ≡ false
      → lies_partly d (q + off) w x p ≡ false
  beside undefined p h out e = refl
  beside (number u) p h out e = refl
  beside (fragment c o k) p h out e = whole_beside (pointer_bytes d) q n k p h out e off w le

  outside : (x : Byte) (p : ℕ) (t : Bool) → lies_partly d q n x p ≡ t → IsPart d x
      → (nat_le q p && nat_lt p (q + n)) ≡ false
      → (if lies_partly d (q + off) w (if t then undefined else x) p then undefined else (if t then undefined else x))
      ≡ (if t then undefined else x)
  outside x p true e h out = refl
  outside x p false e h out = rw (beside x p h out e) refl

  -- a byte in the block, by whether it is in the place and in the part
  in_block : (p : ℕ) (t u s : Bool) → (nat_le q p && nat_lt p (q + n)) ≡ t
      → (nat_le (q + off) p && nat_lt p (q + off + w)) ≡ u
      → (nat_le off (p - q) && nat_lt (p - q) (off + w)) ≡ s
      → (if u then number v else (if lies_partly d (q + off) w
      (if t then f (p - q) else (if lies_partly d q n (m b p) p then undefined else m b p)) p then undefined
      else (if t then f (p - q) else (if lies_partly d q n (m b p) p then undefined else m b p))))
      ≡ (if t then (if s then number v else f (p - q)) else (if lies_partly d q n (m b p) p then undefined else m b p))
  in_block p true true s et eu es = let e : s ≡ true = grind (arith, nat_tests) in rw e refl
  in_block p true false s et eu es =
      let e : s ≡ false = grind (arith, nat_tests) in
      rw (e, plain_whole d (q + off) w (f (p - q)) p (plain (p - q))) refl
  in_block p false true s et eu es = absurd (grind (arith, nat_tests))
  in_block p false false s et eu es = outside (m b p) p (lies_partly d q n (m b p) p) refl (parts b p) et

  at : (c p : ℕ) (t : Bool) → nat_eq b c ≡ t
      → filled d (replaced d m b q n f) b (q + off) w v c p ≡ replaced d m b q n (filled_in f off w v) c p
  at c p true e =
      let same : b ≡ c = grind (arith, nat_tests) in
      subst (λ c. filled d (replaced d m b q n f) b (q + off) w v c p ≡ replaced d m b q n (filled_in f off w v) c p) same (here p)
    where
      here : (p : ℕ) → filled d (replaced d m b q n f) b (q + off) w v b p ≡ replaced d m b q n (filled_in f off w v) b p
      here p =
          let self : nat_eq b b ≡ true = grind (arith, nat_tests) in
          rw self (in_block p (nat_le q p && nat_lt p (q + n)) (nat_le (q + off) p && nat_lt p (q + off + w))
          (nat_le off (p - q) && nat_lt (p - q) (off + w)) refl refl refl)
  at c p false e = rw e refl

  -- a part of a place that was filled is filled in it
  pub fill_part : filled d (replaced d m b q n f) b (q + off) w v ≡ replaced d m b q n (filled_in f off w v)
  fill_part = fun_ext (λ c. fun_ext (λ p. at c p (nat_eq b c) refl))

-- ---- leaves

pub from_below : (d : Model) (e n : ℕ) (fs : List Leaf) → AreLeavesFrom d e n fs → e ≤ n
from_below d e n [] h = h
from_below d e n (f ∷ fs) h =
    let k = from_below d (f.offset + size_of d f.what) n fs h.2 in
    let a = h.0 in
    omega (arith, a, k)

both : (x y : Bool) → (if y then number 0 else (if x then number 0 else undefined)) ≡ (if x || y then number 0 else undefined)
both true true = refl
both true false = refl
both false true = refl
both false false = refl

pub plain_choice : (t : Bool) → IsPlain (if t then number 0 else undefined)
plain_choice true = tt
plain_choice false = tt

module _ (m : Setting) where
  pub zeros_more : (fs : List Leaf) (i : ℕ) (f g : Leaf) → i < length fs → f ≡ get_or fs i g
      → filled_in (zeros_in m (take i fs)) f.offset (size_of (model m.order (program_in m)) f.what) 0
      ≡ zeros_in m (take (i + 1) fs)
  zeros_more fs i f g h e = fun_ext step
    where
      step : (k : ℕ) → filled_in (zeros_in m (take i fs)) f.offset (size_of (model m.order (program_in m)) f.what) 0 k
          ≡ zeros_in m (take (i + 1) fs) k
      step k =
          let test = is_in_leaf m.order (program_in m) k in
          both (list_any test (take i fs)) (test f)
          ∙ ap (λ t. if t then number 0 else undefined)
          (sym (list_any_more test fs i g h ∙ ap (λ x. list_any test (take i fs) || test x) (sym e)))

  -- a place with all its leaves is cleared
  pub cleared_is : (x : Memory) (ty b q n : ℕ) (fs : List Leaf) (s : State) → fs ≡ leaves (program_in m).types ty
      → n ≡ bytes_in m.order (program_in m) ty
      → remembers (replaced (model m.order (program_in m)) x b q n (zeros_in m fs)) s
      ≡ remembers (cleared m.order (program_in m) ty x b q) s
  cleared_is x ty b q n fs s e en =
      ap (λ gs. remembers (replaced (model m.order (program_in m)) x b q n (zeros_in m gs)) s) e
      ∙ ap (λ k. remembers (replaced (model m.order (program_in m)) x b q k
      (zeros_in m (leaves (program_in m).types ty))) s) en

  -- a place is undefined
  pub undefined_is : (x : Memory) (b q n : ℕ) (d : Model) (old new : State) (a : Result ⊤ Fault)
      → d ≡ model m.order (program_in m) → q + n ≤ size_on m b
      → Changes m old a new b q n (replaced d x b q n (λ k. undefined))
      → new ≡ remembers (replaced (model m.order (program_in m)) x b q n (λ k. undefined)) old
  undefined_is x b q n d old new a ed inside c =
      range_changed m b q n (replaced d x b q n (λ k. undefined)) old new a inside c
      ∙ ap (λ d. remembers (replaced d x b q n (λ k. undefined)) old) ed
