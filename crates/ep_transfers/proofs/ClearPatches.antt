-- The bytes of a cleared place: each leaf, and each byte outside of all leaves, written in turn, cover it.
use Rattle.std.proofs.Common.{◌≡◌, ℕ, zero, suc, ◌+◌, ◌/◌, ◌%◌, ◌^◌, ◌<◌, ◌≤◌, pos, Bool, true, false, ◌&&◌, nat_eq}
use Rattle.ep_int.proofs.Basics.{le-plus, size_positive}
use Rattle.ep_transfers.proofs.Basics.{fewer, room_for_one}
use Rattle.ep_transfers.proofs.FirstBytes.{zero_bytes}
use Rattle.ep_cells.proofs.Entry.{leaf_inside}
use Rattle.std.proofs.Common.{nat_le, nat_lt, cond, List, [], ◌∷◌, ◌++◌, Option, Some, None, inl, inr, ⊎_elim, refl}
use Rattle.std.proofs.Common.{sym, ap, ◌∙◌, subst, arith}
use Rattle.std.proofs.lemmas.Bool.{and_from, and_parts, or_left, or_right, or_cases, le-leb, lt-ltb, leb-true}
use Rattle.std.proofs.lemmas.Bool.{ltb-true, eqb-true, eq-eqb, ne_eqb, cases_lt}
use Rattle.ep_int.specs.declared.types.Model.{Model}
use Rattle.ep_int.specs.declared.types.Order.{Order}
use Rattle.ep_int.specs.declared.types.Scalar.{Scalar}
use Rattle.ep_int.specs.declared.types.Scalar.TheVariants.{Int, Pointer}
use Rattle.ep_int.specs.Encoding.{place}
use Rattle.ep_int.specs.Types.{size_of}
use Rattle.ep_int.specs.Memory.{Byte, undefined, number, Value as Datum, int, null, bytes_of_value}
use Rattle.ep_layout.specs.declared.types.Leaf.{Leaf}
use Rattle.ep_cells.specs.Kill.{leaf_at, is_in_leaf, AreLeavesIn}
use Rattle.ep_transfers.proofs.Patches.{Patch, ArePatches, Covers, IsPlain}

abbrev pub zero_of : Scalar → Datum
zero_of (Int t) = int (pos 0)
zero_of Pointer = null

-- what a byte is at the end
abbrev pub cleared_byte : Model → List Leaf → ℕ → Byte
cleared_byte d leaves k = cond (is_in_leaf d leaves k) (number 0) undefined

module _ (o : Order) (d : Model) (leaves : List Leaf) where
  abbrev pub clear_here : (offset : ℕ) → Option Scalar → (inside : Bool) → List Patch
  clear_here i (Some w) t = record { offset = i; bytes = size_of d w; new = bytes_of_value o w (zero_of w) } ∷ []
  clear_here i None true = []
  clear_here i None false = record { offset = i; bytes = 1; new = λ k. undefined } ∷ []

  abbrev pub clear_patches : (from count : ℕ) → List Patch
  clear_patches i zero = []
  clear_patches i (suc c) = clear_here i (leaf_at leaves i) (is_in_leaf d leaves i) ++ clear_patches (i + 1) c

-- ---- bytes of zero

zero_div : (m : ℕ) → 0 / m ≡ 0
zero_div m = omega arith

zero_mod : (m : ℕ) → 0 % m ≡ 0
zero_mod m = omega arith

zero_value : (o : Order) (w : Scalar) (p : ℕ) → bytes_of_value o w (zero_of w) p ≡ number 0
zero_value o (Int t) p = ap number (zero_bytes o t p)
zero_value o Pointer p = refl

-- ---- leaves

starts_before : (a q j : ℕ) → a ≡ q → q ≤ j → a ≤ j
starts_before a q j e h = omega (arith, e, h)

ends_behind : (a q j s : ℕ) → a ≡ q → j < q + s → j < a + s
ends_behind a q j s e h = omega (arith, e, h)

-- its bytes are in it
leaf_bytes_by : (d : Model) (q j : ℕ) (l : Leaf) (leaves : List Leaf) (w : Scalar) (t : Bool) → nat_eq l.offset q ≡ t
    → q ≤ j → j < q + size_of d w → (leaf_at leaves q ≡ Some w → is_in_leaf d leaves j ≡ true)
    → cond t (Some l.what) (leaf_at leaves q) ≡ Some w → is_in_leaf d (l ∷ leaves) j ≡ true
leaf_bytes_by d q j l leaves w true f lo hi rest h =
    let same : l.offset ≡ q = eqb-true l.offset q f in
    let what : w ≡ l.what = cc in
    let top = subst (λ (z : Scalar). j < l.offset + size_of d z) what
    (ends_behind l.offset q j (size_of d w) same hi) in
    or_left (nat_le l.offset j && nat_lt j (l.offset + size_of d l.what)) (is_in_leaf d leaves j)
    (and_from (nat_le l.offset j) (nat_lt j (l.offset + size_of d l.what))
    (le-leb l.offset j (starts_before l.offset q j same lo)) (lt-ltb j (l.offset + size_of d l.what) top))
leaf_bytes_by d q j l leaves w false f lo hi rest h =
    or_right (nat_le l.offset j && nat_lt j (l.offset + size_of d l.what)) (is_in_leaf d leaves j) (rest h)

leaf_bytes : (d : Model) (q j : ℕ) (leaves : List Leaf) (w : Scalar) → q ≤ j → j < q + size_of d w
    → leaf_at leaves q ≡ Some w → is_in_leaf d leaves j ≡ true
leaf_bytes d q j [] w lo hi h = absurd (cc)
leaf_bytes d q j (l ∷ leaves) w lo hi h =
    leaf_bytes_by d q j l leaves w (nat_eq l.offset q) refl lo hi (leaf_bytes d q j leaves w lo hi) h

-- a byte in a leaf is one of a leaf that begins somewhere
record Begins (d : Model) (leaves : List Leaf) (e j : ℕ) : Type 0 where
  start : ℕ
  what : Scalar
  there : leaf_at leaves start ≡ Some what
  least : e ≤ start
  low : start ≤ j
  high : j < start + size_of d what

begins_later : (e o s q : ℕ) → e ≤ o → o + s ≤ q → e ≤ q
begins_later e o s q h i = omega (arith, h, i)

begins_apart : (o s q : ℕ) → 0 < s → o + s ≤ q → o ≡ q → ⊥
begins_apart o s q h i e = omega (arith, h, i, e)

leaf_begins : (d : Model) (e size j : ℕ) (leaves : List Leaf) → AreLeavesIn d e size leaves
    → is_in_leaf d leaves j ≡ true → Begins d leaves e j
leaf_begins d e size j [] a h = absurd (cc)
leaf_begins d e size j (l ∷ leaves) a h =
    ⊎_elim
    (λ first.
    let x = and_parts (nat_le l.offset j) (nat_lt j (l.offset + size_of d l.what)) first in
    record {
      start = l.offset;
      what = l.what;
      there = ap (λ t. cond t (Some l.what) (leaf_at leaves l.offset)) (eq-eqb l.offset l.offset refl);
      least = a.0;
      low = leb-true l.offset j x.0;
      high = ltb-true j (l.offset + size_of d l.what) x.1;
    })
    (λ more.
    let r = leaf_begins d (l.offset + size_of d l.what) size j leaves a.1 more in
    record {
      start = r.start;
      what = r.what;
      there = ap (λ t. cond t (Some l.what) (leaf_at leaves r.start))
          (ne_eqb l.offset r.start (begins_apart l.offset (size_of d l.what) r.start (size_positive d l.what) r.least))
          ∙ r.there;
      least = begins_later e l.offset (size_of d l.what) r.start a.0 r.least;
      low = r.low;
      high = r.high;
    })
    (or_cases (nat_le l.offset j && nat_lt j (l.offset + size_of d l.what)) (is_in_leaf d leaves j) h)

-- ---- what they write

in_part : (i t s : ℕ) → t < s → i + t < i + s
in_part i t s h = omega (arith, h)

first_alone : (i t : ℕ) → t < 1 → i ≡ i + t
first_alone i t h = omega (arith, h)

module _ (o : Order) (d : Model) (leaves : List Leaf) (n : ℕ) (a : AreLeavesIn d 0 n leaves) where
  here_patch : (i c : ℕ) → i + suc c ≤ n → (w : Option Scalar) (t : Bool) → leaf_at leaves i ≡ w
      → is_in_leaf d leaves i ≡ t → (xs : List Patch) → ArePatches n (cleared_byte d leaves) xs
      → ArePatches n (cleared_byte d leaves) (clear_here o d leaves i w t ++ xs)
  here_patch i c l (Some w) t e f xs more = (
    record {
      some = size_positive d w;
      inside = leaf_inside d 0 n i leaves w a e;
      gives = λ k h. zero_value o w k
          ∙ sym (ap (λ z. cond z (number 0) undefined)
          (leaf_bytes d i (i + k) leaves w (le-plus i k) (in_part i k (size_of d w) h) e));
    },
    more,
  )
  here_patch i c l None true e f xs more = more
  here_patch i c l None false e f xs more = (
    record {
      some = omega arith;
      inside = room_for_one i c n l;
      gives = λ k h. sym (ap (λ z. cond z (number 0) undefined)
          (subst (λ j. is_in_leaf d leaves j ≡ false) (first_alone i k h) f));
    },
    more,
  )

  pub are_patches : (i c : ℕ) → i + c ≤ n → ArePatches n (cleared_byte d leaves) (clear_patches o d leaves i c)
  are_patches i zero l = tt
  are_patches i (suc c) l =
      here_patch i c l (leaf_at leaves i) (is_in_leaf d leaves i) refl refl (clear_patches o d leaves (i + 1) c)
      (are_patches (i + 1) c (fewer i c n l))

  -- ---- that they cover the place

  covers_later : (i j : ℕ) (w : Option Scalar) (t : Bool) (xs : List Patch) → Covers j xs
      → Covers j (clear_here o d leaves i w t ++ xs)
  covers_later i j (Some w) t xs h = inr h
  covers_later i j None true xs h = h
  covers_later i j None false xs h = inr h

  covers_leaf : (i j : ℕ) (w : Scalar) (v : Option Scalar) (t : Bool) (xs : List Patch) → v ≡ Some w → i ≤ j
      → j < i + size_of d w → Covers j (clear_here o d leaves i v t ++ xs)
  covers_leaf i j w None t xs e lo hi = absurd (let q : None ≡ Some w = e in cc)
  covers_leaf i j w (Some v) t xs e lo hi =
      let same : w ≡ v = cc in
      inl (lo, subst (λ (z : Scalar). j < i + size_of d z) same hi)

  no_leaf_by : (v : Scalar) (i : ℕ) → leaf_at leaves i ≡ Some v → is_in_leaf d leaves i ≡ true
  no_leaf_by v i e = leaf_bytes d i i leaves v (same_le i) (below_size i (size_of d v) (size_positive d v)) e
    where
      same_le : (i : ℕ) → i ≤ i
      same_le i = omega arith

      below_size : (i s : ℕ) → 0 < s → i < i + s
      below_size i s h = omega (arith, h)

  covers_byte : (i : ℕ) (w : Option Scalar) (t : Bool) (xs : List Patch) → leaf_at leaves i ≡ w
      → is_in_leaf d leaves i ≡ t → t ≡ false → Covers i (clear_here o d leaves i w t ++ xs)
  covers_byte i (Some w) t xs e f g =
      absurd (let q : true ≡ false = sym (no_leaf_by w i e) ∙ (f ∙ g) in cc)
  covers_byte i None true xs e f g = absurd (cc)
  covers_byte i None false xs e f g = inl (self_le i, self_lt i)
    where
      self_le : (i : ℕ) → i ≤ i
      self_le i = omega arith

      self_lt : (i : ℕ) → i < i + 1
      self_lt i = omega arith

  next_low : (i s : ℕ) → i < s → i + 1 ≤ s
  next_low i s h = omega (arith, h)

  next_high : (i c s : ℕ) → s < i + suc c → s < i + 1 + c
  next_high i c s h = omega (arith, h)

  same_place : (i s : ℕ) → i ≤ s → s ≤ i → s ≡ i
  same_place i s h e = omega (arith, h, e)

  nothing_left : (i s : ℕ) → i ≤ s → s < i + 0 → ⊥
  nothing_left i s h e = omega (arith, h, e)

  leaf_covered : (c i s j : ℕ) (w : Scalar) → i ≤ s → s < i + c → leaf_at leaves s ≡ Some w → s ≤ j
      → j < s + size_of d w → Covers j (clear_patches o d leaves i c)
  leaf_covered zero i s j w h g e lo hi = nothing_left i s h g
  leaf_covered (suc c) i s j w h g e lo hi =
      ⊎_elim
      (λ l. covers_later i j (leaf_at leaves i) (is_in_leaf d leaves i) (clear_patches o d leaves (i + 1) c)
      (leaf_covered c (i + 1) s j w (next_low i s l) (next_high i c s g) e lo hi))
      (λ l.
      let same = same_place i s h l in
      covers_leaf i j w (leaf_at leaves i) (is_in_leaf d leaves i) (clear_patches o d leaves (i + 1) c)
      (subst (λ z. leaf_at leaves z ≡ Some w) same e) (subst (λ z. z ≤ j) same lo)
      (subst (λ z. j < z + size_of d w) same hi))
      (cases_lt i s)

  byte_covered : (c i j : ℕ) → i ≤ j → j < i + c → is_in_leaf d leaves j ≡ false
      → Covers j (clear_patches o d leaves i c)
  byte_covered zero i j h g e = nothing_left i j h g
  byte_covered (suc c) i j h g e =
      ⊎_elim
      (λ l. covers_later i j (leaf_at leaves i) (is_in_leaf d leaves i) (clear_patches o d leaves (i + 1) c)
      (byte_covered c (i + 1) j (next_low i j l) (next_high i c j g) e))
      (λ l.
      let same = same_place i j h l in
      subst (λ z. Covers z (clear_patches o d leaves i (suc c))) (sym same)
      (covers_byte i (leaf_at leaves i) (is_in_leaf d leaves i) (clear_patches o d leaves (i + 1) c) refl refl
      (subst (λ z. is_in_leaf d leaves z ≡ false) same e)))
      (cases_lt i j)

  from_zero : (j : ℕ) → 0 ≤ j
  from_zero j = omega arith

  to_end : (j : ℕ) → j < n → j < 0 + n
  to_end j h = omega (arith, h)

  start_end : (s j : ℕ) → s ≤ j → j < n → s < 0 + n
  start_end s j h e = omega (arith, h, e)

  pub cover_all : (j : ℕ) → j < n → Covers j (clear_patches o d leaves 0 n)
  cover_all j h = by_leaf (is_in_leaf d leaves j) refl
    where
      by_leaf : (t : Bool) → is_in_leaf d leaves j ≡ t → Covers j (clear_patches o d leaves 0 n)
      by_leaf true e =
          let b = leaf_begins d 0 n j leaves a e in
          leaf_covered n 0 b.start j b.what (from_zero b.start) (start_end b.start j b.low h) b.there b.low b.high
      by_leaf false e = byte_covered n 0 j (from_zero j) (to_end j h) e

plain_by : (t : Bool) → IsPlain (cond t (number 0) undefined)
plain_by true = tt
plain_by false = tt

pub plain_byte : (d : Model) (leaves : List Leaf) (i : ℕ) → IsPlain (cleared_byte d leaves i)
plain_byte d leaves i = plain_by (is_in_leaf d leaves i)
