-- Several writes in one place, one after the other, are one write of the place, but for parts that no pointer has.
use Rattle.std.proofs.Common.{◌≡◌, ℕ, ◌+◌, ◌-◌, ◌<◌, ◌≤◌, Bool, true, false, ◌&&◌, not, nat_eq, nat_le, nat_lt, cond}
use Rattle.ep_transfers.proofs.Alike.{no_room}
use Rattle.ep_int.proofs.Memories.{pointer_has_bytes}
use Rattle.ep_transfers.proofs.BrokenBytes.{not_both}
use Rattle.std.proofs.lemmas.Bool.{not-true, not_from_false}
use Rattle.std.proofs.Common.{List, [], ◌∷◌, ◌⊎◌, inl, inr, ⊎_elim, refl, sym, ap, ◌∙◌, subst, arith}
use Rattle.std.proofs.lemmas.Bool.{and_from, and_parts, and_left, and_right, le-leb, lt-ltb, le-ltb, lt-leb, leb-true}
use Rattle.std.proofs.lemmas.Bool.{leb-false, ltb-true, eqb-true, eq-eqb, false_from_ne_true, both_ways, cases_lt}
use Rattle.ep_int.specs.declared.types.Model.{Model}
use Rattle.ep_int.specs.Types.{pointer_bytes}
use Rattle.ep_int.specs.Memory.{Byte, undefined, number, fragment, Memory, lies_partly, replaced}
use Rattle.ep_int.proofs.Memories.{replaced_covered, replaced_beside, replaced_elsewhere}
use Rattle.ep_transfers.proofs.Alike.{IsOdd, IsLike, IsAlike}

-- new bytes from an offset of a place on
pub record Patch : Type 0 where
  pub offset : ℕ
  pub bytes : ℕ
  pub new : ℕ → Byte

abbrev pub patched : Model → (block here : ℕ) → List Patch → Memory → Memory
patched d b h [] m = m
patched d b h (x ∷ xs) m = patched d b h xs (replaced d m b (h + x.offset) x.bytes x.new)

-- It lies in a place of n bytes, and gives each of its bytes what the place has at the end.
pub record IsPatch (n : ℕ) (final : ℕ → Byte) (x : Patch) : Type 0 where
  pub some : 0 < x.bytes
  pub inside : x.offset + x.bytes ≤ n
  pub gives : (t : ℕ) → t < x.bytes → x.new t ≡ final (x.offset + t)

abbrev pub ArePatches : (n : ℕ) → (ℕ → Byte) → List Patch → Type 0
ArePatches n final [] = Unit {0}
ArePatches n final (x ∷ xs) = IsPatch n final x × ArePatches n final xs

-- a byte is one of theirs
abbrev pub Covers : ℕ → List Patch → Type 0
Covers i [] = ⊥
Covers i (x ∷ xs) = ((x.offset ≤ i) × (i < x.offset + x.bytes)) ⊎ Covers i xs

-- no part of a pointer
abbrev pub IsPlain : Byte → Type 0
IsPlain undefined = Unit {0}
IsPlain (number v) = Unit {0}
IsPlain (fragment b o k) = ⊥

plain_whole : (d : Model) (h n : ℕ) (y : Byte) (p : ℕ) → IsPlain y → lies_partly d h n y p ≡ false
plain_whole d h n undefined p e = refl
plain_whole d h n (number v) p e = refl
plain_whole d h n (fragment b o k) p e = absurd e

-- ---- pointers that lie partly in a place

record Partly (d : Model) (h n k p : ℕ) : Type 0 where
  before : p < h + n + k
  after : h + k < p + pointer_bytes d
  out : h + k ≤ p → p + pointer_bytes d ≤ h + n + k → ⊥

partly_parts : (d : Model) (h n b o k p : ℕ) → lies_partly d h n (fragment b o k) p ≡ true → Partly d h n k p
partly_parts d h n b o k p e =
    let q = pointer_bytes d in
    let x = and_parts (nat_lt p (h + n + k) && nat_lt (h + k) (p + q))
    (not (nat_le (h + k) p && nat_le (p + q) (h + n + k))) e in
    let y = and_parts (nat_lt p (h + n + k)) (nat_lt (h + k) (p + q)) x.0 in
    record {
      before = ltb-true p (h + n + k) y.0;
      after = ltb-true (h + k) (p + q) y.1;
      out = λ f g. both_ways (nat_le (h + k) p && nat_le (p + q) (h + n + k))
          (not-true (nat_le (h + k) p && nat_le (p + q) (h + n + k)) x.1)
          (and_from (nat_le (h + k) p) (nat_le (p + q) (h + n + k)) (le-leb (h + k) p f)
          (le-leb (p + q) (h + n + k) g));
    }

partly_is : (d : Model) (h n b o k p : ℕ) → Partly d h n k p → lies_partly d h n (fragment b o k) p ≡ true
partly_is d h n b o k p e =
    let q = pointer_bytes d in
    let c = nat_le (h + k) p && nat_le (p + q) (h + n + k) in
    and_from (nat_lt p (h + n + k) && nat_lt (h + k) (p + q)) (not c)
    (and_from (nat_lt p (h + n + k)) (nat_lt (h + k) (p + q)) (lt-ltb p (h + n + k) e.before)
    (lt-ltb (h + k) (p + q) e.after))
    (not_from_false c (false_from_ne_true c
    (λ t.
    let x = and_parts (nat_le (h + k) p) (nat_le (p + q) (h + n + k)) t in
    e.out (leb-true (h + k) p x.0) (leb-true (p + q) (h + n + k) x.1))))

too_far : (h k p q : ℕ) → h + k < p + q → p + q ≤ k → ⊥
too_far h k p q e f = omega (arith, e, f)

-- a part so far on lies in no place
far_whole : (d : Model) (h n b o k p : ℕ) → p + pointer_bytes d ≤ k → lies_partly d h n (fragment b o k) p ≡ false
far_whole d h n b o k p f =
    false_from_ne_true (lies_partly d h n (fragment b o k) p)
    (λ e. too_far h k p (pointer_bytes d) (partly_parts d h n b o k p e).after f)

-- ---- what becomes of a byte beside

abbrev hit_by : Model → (here : ℕ) → Patch → (at : ℕ) → Byte → Byte
hit_by d h x p y = cond (lies_partly d (h + x.offset) x.bytes y p) undefined y

abbrev hit_after : Model → (here : ℕ) → List Patch → (at : ℕ) → Byte → Byte
hit_after d h [] p y = y
hit_after d h (x ∷ xs) p y = hit_after d h xs p (hit_by d h x p y)

after_undefined : (d : Model) (h : ℕ) (xs : List Patch) (p : ℕ) → hit_after d h xs p undefined ≡ undefined
after_undefined d h [] p = refl
after_undefined d h (x ∷ xs) p = after_undefined d h xs p

after_number : (d : Model) (h : ℕ) (xs : List Patch) (p v : ℕ) → hit_after d h xs p (number v) ≡ number v
after_number d h [] p v = refl
after_number d h (x ∷ xs) p v = after_number d h xs p v

-- it lies partly in no place of theirs
abbrev pub AllMiss : Model → ℕ → List Patch → ℕ → Byte → Type 0
AllMiss d h [] p y = Unit {0}
AllMiss d h (x ∷ xs) p y = (lies_partly d (h + x.offset) x.bytes y p ≡ false) × AllMiss d h xs p y

pub plain_misses : (d : Model) (h : ℕ) (xs : List Patch) (p : ℕ) (y : Byte) → IsPlain y → AllMiss d h xs p y
plain_misses d h [] p y e = tt
plain_misses d h (x ∷ xs) p y e = (plain_whole d (h + x.offset) x.bytes y p e, plain_misses d h xs p y e)

after_missed : (d : Model) (h : ℕ) (xs : List Patch) (p : ℕ) (y : Byte) → AllMiss d h xs p y
    → hit_after d h xs p y ≡ y
after_missed d h [] p y e = refl
after_missed d h (x ∷ xs) p y e =
    ap (λ t. hit_after d h xs p (cond t undefined y)) e.0 ∙ after_missed d h xs p y e.1

abbrev SomeHit : Model → ℕ → List Patch → ℕ → Byte → Type 0
SomeHit d h [] p y = ⊥
SomeHit d h (x ∷ xs) p y = (lies_partly d (h + x.offset) x.bytes y p ≡ true) ⊎ SomeHit d h xs p y

hit_either : (d : Model) (h : ℕ) (xs : List Patch) (p : ℕ) (y : Byte) (t : Bool) → hit_after d h xs p y ≡ undefined
    → hit_after d h xs p (cond t undefined y) ≡ undefined
hit_either d h xs p y true e = after_undefined d h xs p
hit_either d h xs p y false e = e

after_hit : (d : Model) (h : ℕ) (xs : List Patch) (p : ℕ) (y : Byte) → SomeHit d h xs p y
    → hit_after d h xs p y ≡ undefined
after_hit d h [] p y e = absurd e
after_hit d h (x ∷ xs) p y e =
    ⊎_elim
    (λ s. ap (λ t. hit_after d h xs p (cond t undefined y)) s ∙ after_undefined d h xs p)
    (λ (s : SomeHit d h xs p y). hit_either d h xs p y (lies_partly d (h + x.offset) x.bytes y p)
    (after_hit d h xs p y s)) e

-- ---- bytes of the memory

other_block : (d : Model) (b h : ℕ) (xs : List Patch) (m : Memory) (c j : ℕ) → nat_eq b c ≡ false
    → patched d b h xs m c j ≡ m c j
other_block d b h [] m c j e = refl
other_block d b h (x ∷ xs) m c j e =
    other_block d b h xs (replaced d m b (h + x.offset) x.bytes x.new) c j e
    ∙ replaced_elsewhere d m b (h + x.offset) x.bytes x.new c j e

abbrev IsBeside : (here n at : ℕ) → Type 0
IsBeside h n j = (j < h) ⊎ (h + n ≤ j)

low_out : (h o j : ℕ) → j < h → j < h + o
low_out h o j e = omega (arith, e)

high_out : (h o s n j : ℕ) → o + s ≤ n → h + n ≤ j → h + o + s ≤ j
high_out h o s n j e f = omega (arith, e, f)

not_within : (h o s n j : ℕ) → o + s ≤ n → IsBeside h n j → (nat_le (h + o) j && nat_lt j (h + o + s)) ≡ false
not_within h o s n j e f =
    ⊎_elim (λ l. and_left (nat_le (h + o) j) (nat_lt j (h + o + s)) (lt-leb (h + o) j (low_out h o j l)))
    (λ l. and_right (nat_le (h + o) j) (nat_lt j (h + o + s)) (le-ltb j (h + o + s) (high_out h o s n j e l))) f

one_beside : (d : Model) (m : Memory) (b h s : ℕ) (new : ℕ → Byte) (j : ℕ)
    → (nat_le h j && nat_lt j (h + s)) ≡ false
    → replaced d m b h s new b j ≡ cond (lies_partly d h s (m b j) j) undefined (m b j)
one_beside d m b h s new j out =
    let same : nat_eq b b ≡ true = eq-eqb b b refl in
    rw (same, out) refl

patched_beside : (d : Model) (b h n : ℕ) (final : ℕ → Byte) (xs : List Patch) (m : Memory) (j : ℕ)
    → ArePatches n final xs → IsBeside h n j → patched d b h xs m b j ≡ hit_after d h xs j (m b j)
patched_beside d b h n final [] m j a e = refl
patched_beside d b h n final (x ∷ xs) m j a e =
    patched_beside d b h n final xs (replaced d m b (h + x.offset) x.bytes x.new) j a.1 e
    ∙ ap (hit_after d h xs j)
    (one_beside d m b (h + x.offset) x.bytes x.new j (not_within h x.offset x.bytes n j a.0.inside e))

place_of_part : (h o i : ℕ) → o ≤ i → h + o + (i - o) ≡ h + i
place_of_part h o i e = omega (arith, e)

pub part_of : (o i s : ℕ) → o ≤ i → i < o + s → i - o < s
part_of o i s e f = omega (arith, e, f)

pub whole_of : (o i : ℕ) → o ≤ i → o + (i - o) ≡ i
whole_of o i e = omega (arith, e)

shifted_low : (h o i : ℕ) → i < o → h + i < h + o
shifted_low h o i e = omega (arith, e)

shifted_high : (h o s i : ℕ) → o + s ≤ i → h + o + s ≤ h + i
shifted_high h o s i e = omega (arith, e)

apart_high : (o s i : ℕ) → o + s ≤ i → i < o + s → ⊥
apart_high o s i e f = omega (arith, e, f)

module _ (d : Model) (b h n : ℕ) (final : ℕ → Byte) where
  -- where the byte is one of the patch, or stays
  covered_here : (m : Memory) (x : Patch) (i : ℕ) → IsPatch n final x → x.offset ≤ i → i < x.offset + x.bytes
      → replaced d m b (h + x.offset) x.bytes x.new b (h + i) ≡ final i
  covered_here m x i a lo hi =
      subst (λ j. replaced d m b (h + x.offset) x.bytes x.new b j ≡ final i) (place_of_part h x.offset i lo)
      (replaced_covered d m b (h + x.offset) x.bytes x.new (i - x.offset) (part_of x.offset i x.bytes lo hi)
      ∙ (a.gives (i - x.offset) (part_of x.offset i x.bytes lo hi) ∙ ap final (whole_of x.offset i lo)))

  stays_here : (m : Memory) (x : Patch) (i : ℕ)
      → lies_partly d (h + x.offset) x.bytes (final i) (h + i) ≡ false → (i < x.offset) ⊎ (x.offset + x.bytes ≤ i)
      → m b (h + i) ≡ final i → replaced d m b (h + x.offset) x.bytes x.new b (h + i) ≡ final i
  stays_here m x i whole out e =
      replaced_beside d m b (h + x.offset) x.bytes x.new (h + i)
      (⊎_elim (λ l. inl (shifted_low h x.offset i l)) (λ l. inr (shifted_high h x.offset x.bytes i l)) out)
      (subst (λ y. lies_partly d (h + x.offset) x.bytes y (h + i) ≡ false) (sym e) whole)
      ∙ e

  not_covered : (x : Patch) (i : ℕ) → (i < x.offset) ⊎ (x.offset + x.bytes ≤ i)
      → (x.offset ≤ i) × (i < x.offset + x.bytes) → ⊥
  not_covered x i out c =
      ⊎_elim (λ l. no_room x.offset i l c.0) (λ l. apart_high x.offset x.bytes i l c.1) out

  patched_within : (xs : List Patch) (m : Memory) (i : ℕ) → ArePatches n final xs → AllMiss d h xs (h + i) (final i)
      → Covers i xs ⊎ (m b (h + i) ≡ final i) → patched d b h xs m b (h + i) ≡ final i
  patched_within [] m i a miss e = ⊎_elim (λ (z : ⊥). absurd z) (λ s. s) e
  patched_within (x ∷ xs) m i a miss e =
      patched_within xs (replaced d m b (h + x.offset) x.bytes x.new) i a.1 miss.1
      (⊎_elim (λ l. beside (inl l))
      (λ l. ⊎_elim (λ r. inr (covered_here m x i a.0 l r)) (λ r. beside (inr r)) (cases_lt i (x.offset + x.bytes)))
      (cases_lt i x.offset))
    where
      beside : (i < x.offset) ⊎ (x.offset + x.bytes ≤ i)
          → Covers i xs ⊎ (replaced d m b (h + x.offset) x.bytes x.new b (h + i) ≡ final i)
      beside out =
          ⊎_elim
          (λ (c : Covers i (x ∷ xs)). ⊎_elim (λ z. absurd (not_covered x i out z)) (λ (z : Covers i xs). inl z) c)
          (λ s. inr (stays_here m x i miss.0 out s)) e

-- ---- parts that no pointer has are made so that they lie in no place

abbrev eased : Model → (here n at : ℕ) → Byte → Byte
eased d h n p undefined = undefined
eased d h n p (number v) = number v
eased d h n p (fragment b o k) =
    cond (nat_le (pointer_bytes d) k && not (lies_partly d h n (fragment b o k) p)) (fragment b o (p + pointer_bytes d))
    (fragment b o k)

abbrev pub eased_memory : Model → (block here n : ℕ) → Memory → Memory
eased_memory d b h n m c p = cond (nat_eq b c) (eased d h n p (m c p)) (m c p)

enough : (p q : ℕ) → q ≤ p + q
enough p q = omega arith

eased_by : (d : Model) (b o k p : ℕ) (t : Bool) → (t ≡ true → pointer_bytes d ≤ k)
    → IsLike d (fragment b o k) (cond t (fragment b o (p + pointer_bytes d)) (fragment b o k))
eased_by d b o k p true e = inr (e refl, enough p (pointer_bytes d))
eased_by d b o k p false e = inl refl

eased_like : (d : Model) (h n p : ℕ) (y : Byte) → IsLike d y (eased d h n p y)
eased_like d h n p undefined = inl refl
eased_like d h n p (number v) = inl refl
eased_like d h n p (fragment b o k) =
    eased_by d b o k p (nat_le (pointer_bytes d) k && not (lies_partly d h n (fragment b o k) p))
    (λ e. leb-true (pointer_bytes d) k
    (and_parts (nat_le (pointer_bytes d) k) (not (lies_partly d h n (fragment b o k) p)) e).0)

eased_if : (d : Model) (y z : Byte) (t : Bool) → IsLike d y z → IsLike d y (cond t z y)
eased_if d y z true e = e
eased_if d y z false e = inl refl

pub eased_alike : (d : Model) (b h n : ℕ) (m : Memory) → IsAlike d m (eased_memory d b h n m)
eased_alike d b h n m c p = eased_if d (m c p) (eased d h n p (m c p)) (nat_eq b c) (eased_like d h n p (m c p))

-- ---- all writes and one write

hit_room : (h n k j : ℕ) → 0 < n → j < h + n + k → j - (h + k) < n
hit_room h n k j s e = omega (arith, s, e)

hit_before : (h o s k j : ℕ) → j - (h + k) < o + s → 0 < s → j < h + o + s + k
hit_before h o s k j e f = omega (arith, e, f)

hit_behind : (h o k j q : ℕ) → 0 < q → o ≤ j - (h + k) → h + k < j + q → h + o + k < j + q
hit_behind h o k j q s e f = omega (arith, s, e, f)

wider_low : (h o k j : ℕ) → h + o + k ≤ j → h + k ≤ j
wider_low h o k j e = omega (arith, e)

wider_high : (h o s n k j q : ℕ) → o + s ≤ n → j + q ≤ h + o + s + k → j + q ≤ h + n + k
wider_high h o s n k j q e f = omega (arith, e, f)

wider_before : (h o s n k j : ℕ) → o + s ≤ n → j < h + o + s + k → j < h + n + k
wider_before h o s n k j e f = omega (arith, e, f)

wider_after : (h o k j q : ℕ) → h + o + k < j + q → h + k < j + q
wider_after h o k j q e = omega (arith, e)

low_apart : (h k j : ℕ) → j < h → h + k ≤ j → ⊥
low_apart h k j e f = omega (arith, e, f)

high_apart : (h n k j q : ℕ) → h + n ≤ j → k < q → j + q ≤ h + n + k → ⊥
high_apart h n k j q e f g = omega (arith, e, f, g)

module _ (d : Model) (h n : ℕ) (final : ℕ → Byte) (j b o k : ℕ) where
  hit_in : (xs : List Patch) → ArePatches n final xs → Partly d h n k j → Covers (j - (h + k)) xs
      → SomeHit d h xs j (fragment b o k)
  hit_in [] a e c = absurd c
  hit_in (x ∷ xs) a e c =
      ⊎_elim
      (λ z. inl (partly_is d (h + x.offset) x.bytes b o k j (record {
        before = hit_before h x.offset x.bytes k j z.1 a.0.some;
        after = hit_behind h x.offset k j (pointer_bytes d) (pointer_has_bytes d) z.0 e.after;
        out = λ f g. e.out (wider_low h x.offset k j f)
            (wider_high h x.offset x.bytes n k j (pointer_bytes d) a.0.inside g);
      })))
      (λ (z : Covers (j - (h + k)) xs). inr (hit_in xs a.1 e z)) c

  missed_in : (xs : List Patch) → ArePatches n final xs → IsBeside h n j → k < pointer_bytes d
      → lies_partly d h n (fragment b o k) j ≡ false → AllMiss d h xs j (fragment b o k)
  missed_in [] a out l e = tt
  missed_in (x ∷ xs) a out l e = (
    false_from_ne_true (lies_partly d (h + x.offset) x.bytes (fragment b o k) j)
        (λ t.
        let r = partly_parts d (h + x.offset) x.bytes b o k j t in
        both_ways (lies_partly d h n (fragment b o k) j) e (partly_is d h n b o k j (record {
          before = wider_before h x.offset x.bytes n k j a.0.inside r.before;
          after = wider_after h x.offset k j (pointer_bytes d) r.after;
          out = λ f g. ⊎_elim (λ z. low_apart h k j z f)
              (λ z. high_apart h n k j (pointer_bytes d) z l g) out;
        }))),
    missed_in xs a.1 out l e,
  )

  far_in : (xs : List Patch) → j + pointer_bytes d ≤ k → AllMiss d h xs j (fragment b o k)
  far_in [] l = tt
  far_in (x ∷ xs) l = (far_whole d (h + x.offset) x.bytes b o k j l, far_in xs l)

both_of : (a t : Bool) → a ≡ true → t ≡ false → (a && not t) ≡ true
both_of a true e f = absurd (cc)
both_of a false e f = and_from a true e refl

pub self_le : (x : ℕ) → x ≤ x
self_le x = omega arith

module _ (d : Model) (h n : ℕ) (final : ℕ → Byte) (xs : List Patch) (a : ArePatches n final xs) (some : 0 < n)
    (all : (i : ℕ) → i < n → Covers i xs) (j : ℕ) (out : IsBeside h n j) where
  part_like : (b o k : ℕ) (t u : Bool) → lies_partly d h n (fragment b o k) j ≡ t → nat_le (pointer_bytes d) k ≡ u
      → IsLike d (hit_after d h xs j (eased d h n j (fragment b o k))) (cond t undefined (fragment b o k))
  part_like b o k true u e f =
      let r = partly_parts d h n b o k j e in
      let same : eased d h n j (fragment b o k) ≡ fragment b o k
      = ap (λ z. cond z (fragment b o (j + pointer_bytes d)) (fragment b o k))
      (not_both (nat_le (pointer_bytes d) k) (lies_partly d h n (fragment b o k) j) e) in
      inl (ap (hit_after d h xs j) same
      ∙ after_hit d h xs j (fragment b o k)
      (hit_in d h n final j b o k xs a r (all (j - (h + k)) (hit_room h n k j some r.before))))
  part_like b o k false true e f =
      let far : eased d h n j (fragment b o k) ≡ fragment b o (j + pointer_bytes d)
      = ap (λ z. cond z (fragment b o (j + pointer_bytes d)) (fragment b o k))
      (both_of (nat_le (pointer_bytes d) k) (lies_partly d h n (fragment b o k) j) f e) in
      let stays = ap (hit_after d h xs j) far
      ∙ after_missed d h xs j (fragment b o (j + pointer_bytes d))
      (far_in d h n final j b o (j + pointer_bytes d) xs (self_le (j + pointer_bytes d))) in
      inr (
        subst (IsOdd d) (sym stays) (enough j (pointer_bytes d)),
        leb-true (pointer_bytes d) k f,
      )
  part_like b o k false false e f =
      let same : eased d h n j (fragment b o k) ≡ fragment b o k
      = ap (λ z. cond z (fragment b o (j + pointer_bytes d)) (fragment b o k))
      (and_left (nat_le (pointer_bytes d) k) (not (lies_partly d h n (fragment b o k) j)) f) in
      inl (ap (hit_after d h xs j) same
      ∙ after_missed d h xs j (fragment b o k)
      (missed_in d h n final j b o k xs a out (leb-false (pointer_bytes d) k f) e))

  byte_like : (y : Byte)
      → IsLike d (hit_after d h xs j (eased d h n j y)) (cond (lies_partly d h n y j) undefined y)
  byte_like undefined = inl (after_undefined d h xs j)
  byte_like (number v) = inl (after_number d h xs j v)
  byte_like (fragment b o k) =
      part_like b o k (lies_partly d h n (fragment b o k) j) (nat_le (pointer_bytes d) k) refl refl

like_by : (d : Model) (x y u v : Byte) → x ≡ y → u ≡ v → IsLike d y v → IsLike d x u
like_by d x y u v e f h = subst (λ z. IsLike d z u) (sym e) (subst (λ z. IsLike d y z) (sym f) h)

outside_place : (h n j : ℕ) → IsBeside h n j → (nat_le h j && nat_lt j (h + n)) ≡ false
outside_place h n j f =
    ⊎_elim (λ l. and_left (nat_le h j) (nat_lt j (h + n)) (lt-leb h j l))
    (λ l. and_right (nat_le h j) (nat_lt j (h + n)) (le-ltb j (h + n) l)) f

within : (h n j : ℕ) → h ≤ j → j < h + n → j - h < n
within h n j e f = omega (arith, e, f)

module _ (d : Model) (b h n : ℕ) (final : ℕ → Byte) (xs : List Patch) (a : ArePatches n final xs) (some : 0 < n)
    (all : (i : ℕ) → i < n → Covers i xs) (miss : (i : ℕ) → i < n → AllMiss d h xs (h + i) (final i)) (m : Memory)
  where
    in_block : (j : ℕ)
        → IsLike d (patched d b h xs (eased_memory d b h n m) b j) (replaced d m b h n final b j)
    in_block j =
        ⊎_elim (λ l. beside (inl l))
        (λ l. ⊎_elim (λ r. inl (inside l r)) (λ r. beside (inr r)) (cases_lt j (h + n))) (cases_lt j h)
      where
        beside : IsBeside h n j
            → IsLike d (patched d b h xs (eased_memory d b h n m) b j) (replaced d m b h n final b j)
        beside out =
            like_by d (patched d b h xs (eased_memory d b h n m) b j)
            (hit_after d h xs j (eased d h n j (m b j)))
            (replaced d m b h n final b j) (cond (lies_partly d h n (m b j) j) undefined (m b j))
            (patched_beside d b h n final xs (eased_memory d b h n m) j a out
            ∙ ap (λ t. hit_after d h xs j (cond t (eased d h n j (m b j)) (m b j))) (eq-eqb b b refl))
            (one_beside d m b h n final j (outside_place h n j out))
            (byte_like d h n final xs a some all j out (m b j))

        inside : h ≤ j → j < h + n
            → patched d b h xs (eased_memory d b h n m) b j ≡ replaced d m b h n final b j
        inside lo hi =
            subst (λ z. patched d b h xs (eased_memory d b h n m) b z ≡ replaced d m b h n final b z)
            (whole_of h j lo)
            (patched_within d b h n final xs (eased_memory d b h n m) (j - h) a (miss (j - h) (within h n j lo hi))
            (inl (all (j - h) (within h n j lo hi)))
            ∙ sym (replaced_covered d m b h n final (j - h) (within h n j lo hi)))

    -- one write after the other, and all at once
    pub missed_alike : IsAlike d (patched d b h xs (eased_memory d b h n m)) (replaced d m b h n final)
    missed_alike c j = by_block (nat_eq b c) refl
      where
        by_block : (t : Bool) → nat_eq b c ≡ t
            → IsLike d (patched d b h xs (eased_memory d b h n m) c j) (replaced d m b h n final c j)
        by_block true e =
            subst (λ z. IsLike d (patched d b h xs (eased_memory d b h n m) z j) (replaced d m b h n final z j))
            (eqb-true b c e) (in_block j)
        by_block false e =
            inl (other_block d b h xs (eased_memory d b h n m) c j e
            ∙ (ap (λ t. cond t (eased d h n j (m c j)) (m c j)) e ∙ sym (replaced_elsewhere d m b h n final c j e)))

-- the same where no byte at the end is part of a pointer
pub patched_alike : (d : Model) (b h n : ℕ) (final : ℕ → Byte) (xs : List Patch) → ArePatches n final xs → 0 < n
    → ((i : ℕ) → i < n → Covers i xs) → ((i : ℕ) → i < n → IsPlain (final i)) → (m : Memory)
    → IsAlike d (patched d b h xs (eased_memory d b h n m)) (replaced d m b h n final)
patched_alike d b h n final xs a some all plain m =
    missed_alike d b h n final xs a some all (λ i l. plain_misses d h xs (h + i) (final i) (plain i l)) m
