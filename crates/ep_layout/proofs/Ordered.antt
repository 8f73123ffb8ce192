-- The leaves of a layout rise, don't overlap, are aligned and end inside the size.
use Rattle.std.proofs.Common.{◌≡◌, ℕ, zero, suc, ◌+◌, ◌*◌, ◌%◌, ◌≤◌, max, List, [], ◌∷◌, ◌++◌, Option, Some, None}
use Rattle.std.proofs.Common.{option_map, unwrap_or, refl, sym, ◌∙◌, ap, subst, ◌⊎◌, inl, inr, arith}
use Rattle.std.specs.Int.{next_multiple_of}
use Rattle.std.specs.List.{All}
use Rattle.std.proofs.lemmas.List.Elements.{All-head, All-tail}
use Rattle.ep_int.specs.declared.types.Model.{Model}
use Rattle.ep_int.specs.declared.types.Model.TheVariants.{Ilp32, Lp64}
use Rattle.ep_int.specs.declared.types.Scalar.{Scalar}
use Rattle.ep_int.specs.declared.types.Scalar.TheVariants.{Int as Number, Pointer}
use Rattle.ep_int.specs.declared.types.IntType.TheVariants.{I8, U8, I16, U16, I32, U32, I64, U64}
use Rattle.ep_int.specs.Types.{size_of}
use Rattle.ep_layout.specs.declared.types.Leaf.{Leaf}
use Rattle.ep_layout.specs.Layout.{Layout, AreLeavesFrom, shifted, repeated, greatest_align, greatest_size}
use Rattle.ep_layout.specs.Layout.{first_leaves, leaves_after, end_of, array_layout, scalar_layout}
use Rattle.ep_layout.specs.Table.{Table, layout_rules, layout_of, leaves, AreLeavesOf}
use Rattle.ep_layout.proofs.Sizes.{IsKept, kept_by_type}

---- sizes of scalars and alignments are powers of two up to 8

abbrev pub IsPower : ℕ → Type 0
IsPower a = (a ≡ 1) ⊎ ((a ≡ 2) ⊎ ((a ≡ 4) ⊎ (a ≡ 8)))

by_power : (P : ℕ → Type 0) → P 1 → P 2 → P 4 → P 8 → (a : ℕ) → IsPower a → P a
by_power P p q r s a (inl e) = subst P (sym e) p
by_power P p q r s a (inr (inl e)) = subst P (sym e) q
by_power P p q r s a (inr (inr (inl e))) = subst P (sym e) r
by_power P p q r s a (inr (inr (inr e))) = subst P (sym e) s

size_is_power : (m : Model) (w : Scalar) → IsPower (size_of m w)
size_is_power m (Number I8) = inl refl
size_is_power m (Number U8) = inl refl
size_is_power m (Number I16) = inr (inl refl)
size_is_power m (Number U16) = inr (inl refl)
size_is_power m (Number I32) = inr (inr (inl refl))
size_is_power m (Number U32) = inr (inr (inl refl))
size_is_power m (Number I64) = inr (inr (inr refl))
size_is_power m (Number U64) = inr (inr (inr refl))
size_is_power Ilp32 Pointer = inr (inr (inl refl))
size_is_power Lp64 Pointer = inr (inr (inr refl))

abbrev Moves : ℕ → ℕ → Type 0
Moves a s = (k o : ℕ) → s ≤ a → k % a ≡ 0 → o % s ≡ 0 → (k + o) % s ≡ 0

moves_by : (s : ℕ) → IsPower s → (a : ℕ) → IsPower a → Moves a s
moves_by = by_power (λ s. (a : ℕ) → IsPower a → Moves a s)
    (by_power (λ a. Moves a 1) (λ k o l p q. omega arith) (λ k o l p q. omega arith) (λ k o l p q. omega arith) (λ k o l p q. omega arith))
    (by_power (λ a. Moves a 2) (λ k o l p q. omega arith) (λ k o l p q. omega arith) (λ k o l p q. omega arith) (λ k o l p q. omega arith))
    (by_power (λ a. Moves a 4) (λ k o l p q. omega arith) (λ k o l p q. omega arith) (λ k o l p q. omega arith) (λ k o l p q. omega arith))
    (by_power (λ a. Moves a 8) (λ k o l p q. omega arith) (λ k o l p q. omega arith) (λ k o l p q. omega arith) (λ k o l p q. omega arith))

-- a multiple of an alignment is one of each that is not greater
divides : (b : ℕ) → IsPower b → (a : ℕ) → IsPower a → (k : ℕ) → b ≤ a → k % a ≡ 0 → k % b ≡ 0
divides = by_power (λ b. (a : ℕ) → IsPower a → (k : ℕ) → b ≤ a → k % a ≡ 0 → k % b ≡ 0)
    (by_power (λ a. (k : ℕ) → 1 ≤ a → k % a ≡ 0 → k % 1 ≡ 0) (λ k l p. omega arith) (λ k l p. omega arith) (λ k l p. omega arith) (λ k l p. omega arith))
    (by_power (λ a. (k : ℕ) → 2 ≤ a → k % a ≡ 0 → k % 2 ≡ 0) (λ k l p. omega arith) (λ k l p. omega arith) (λ k l p. omega arith) (λ k l p. omega arith))
    (by_power (λ a. (k : ℕ) → 4 ≤ a → k % a ≡ 0 → k % 4 ≡ 0) (λ k l p. omega arith) (λ k l p. omega arith) (λ k l p. omega arith) (λ k l p. omega arith))
    (by_power (λ a. (k : ℕ) → 8 ≤ a → k % a ≡ 0 → k % 8 ≡ 0) (λ k l p. omega arith) (λ k l p. omega arith) (λ k l p. omega arith) (λ k l p. omega arith))

pub next_is_multiple : (a : ℕ) → IsPower a → (e : ℕ) → next_multiple_of e a % a ≡ 0
next_is_multiple = by_power (λ a. (e : ℕ) → next_multiple_of e a % a ≡ 0) (λ e. omega arith) (λ e. omega arith) (λ e. omega arith) (λ e. omega arith)

sum_is_multiple : (a : ℕ) → IsPower a → (k o : ℕ) → k % a ≡ 0 → o % a ≡ 0 → (k + o) % a ≡ 0
sum_is_multiple a p k o h q = moves_by a p a p k o (omega arith) h q

zero_is_multiple : (a : ℕ) → IsPower a → 0 % a ≡ 0
zero_is_multiple = by_power (λ a. 0 % a ≡ 0) refl refl refl refl

product_is_multiple : (a : ℕ) → IsPower a → (n k : ℕ) → k % a ≡ 0 → (n * k) % a ≡ 0
product_is_multiple a p zero k h = let e : zero * k ≡ 0 = omega arith in ap (λ (j : ℕ). j % a) e ∙ zero_is_multiple a p
product_is_multiple a p (suc n) k h = let e : suc n * k ≡ k + n * k = omega arith in ap (λ (j : ℕ). j % a) e ∙ sum_is_multiple a p k (n * k) h (product_is_multiple a p n k h)

max_is_power : (b : ℕ) → IsPower b → (a : ℕ) → IsPower a → IsPower (max a b)
max_is_power b q a p = elim (either a b) [ inl e ↦ subst IsPower (sym e) p | inr e ↦ subst IsPower (sym e) q ]
  where
    either : (a b : ℕ) → (max a b ≡ a) ⊎ (max a b ≡ b)
    either zero b = inr (omega arith)
    either (suc a) zero = inl (omega arith)
    either (suc a) (suc b) = elim (either a b) [ inl e ↦ inl (omega (arith, e)) | inr e ↦ inr (omega (arith, e)) ]

---- lists of leaves

module _ (m : Model) where
  -- scalars of so many bytes at most
  abbrev pub AreWithin : ℕ → List Leaf → Type 0
  AreWithin a [] = Unit {0}
  AreWithin a (f ∷ more) = (size_of m f.what ≤ a) × AreWithin a more

  within_more : (a b : ℕ) → a ≤ b → (xs : List Leaf) → AreWithin a xs → AreWithin b xs
  within_more a b l [] h = tt
  within_more a b l (f ∷ more) h = (omega (arith, h.0), within_more a b l more h.1)

  within_append : (a : ℕ) (xs ys : List Leaf) → AreWithin a xs → AreWithin a ys → AreWithin a (xs ++ ys)
  within_append a [] ys h q = q
  within_append a (f ∷ xs) ys h q = (h.0, within_append a xs ys h.1 q)

  within_shifted : (a k : ℕ) (xs : List Leaf) → AreWithin a xs → AreWithin a (shifted k xs)
  within_shifted a k [] h = tt
  within_shifted a k (f ∷ xs) h = (h.0, within_shifted a k xs h.1)

  within_repeated : (a n s : ℕ) (xs : List Leaf) → AreWithin a xs → AreWithin a (repeated n s xs)
  within_repeated a zero s xs h = tt
  within_repeated a (suc n) s xs h = within_append a xs (shifted s (repeated n s xs)) h (within_shifted a s (repeated n s xs) (within_repeated a n s xs h))

  wider : (d e s t : ℕ) (xs : List Leaf) → d ≤ e → s ≤ t → AreLeavesFrom m e s xs → AreLeavesFrom m d t xs
  wider d e s t [] l q h = omega arith
  wider d e s t (f ∷ xs) l q h = (omega (arith, h.0), h.1, wider (f.offset + size_of m f.what) (f.offset + size_of m f.what) s t xs (omega arith) q h.2)

  joined : (e k s : ℕ) (xs ys : List Leaf) → AreLeavesFrom m e k xs → AreLeavesFrom m k s ys → AreLeavesFrom m e s (xs ++ ys)
  joined e k s [] ys h q = wider e k s s ys h (omega arith) q
  joined e k s (f ∷ xs) ys h q = (h.0, h.1, joined (f.offset + size_of m f.what) k s xs ys h.2 q)

  moved : (a k e s : ℕ) (xs : List Leaf) → IsPower a → k % a ≡ 0 → AreWithin a xs → AreLeavesFrom m e s xs → AreLeavesFrom m (k + e) (k + s) (shifted k xs)
  moved a k e s [] p z w h = omega arith
  moved a k e s (f ∷ xs) p z w h =
      let e : k + (f.offset + size_of m f.what) ≡ k + f.offset + size_of m f.what = omega arith in (
        omega (arith, h.0),
        moves_by (size_of m f.what) (size_is_power m f.what) a p k f.offset w.0 z h.1,
        subst (λ (j : ℕ). AreLeavesFrom m j (k + s) (shifted k xs)) e (moved a k (f.offset + size_of m f.what) s xs p z w.1 h.2),
      )

  -- the same, of leaves that lie from 0 on
  moved_from : (a k s : ℕ) (xs : List Leaf) → IsPower a → k % a ≡ 0 → AreWithin a xs → AreLeavesFrom m 0 s xs → AreLeavesFrom m k (k + s) (shifted k xs)
  moved_from a k s xs p z w h = let e : k + 0 ≡ k = omega arith in subst (λ (j : ℕ). AreLeavesFrom m j (k + s) (shifted k xs)) e (moved a k 0 s xs p z w h)

  many : (a n s : ℕ) (xs : List Leaf) → IsPower a → s % a ≡ 0 → AreWithin a xs → AreLeavesFrom m 0 s xs → AreLeavesFrom m 0 (n * s) (repeated n s xs)
  many a zero s xs p z w h = omega arith
  many a (suc n) s xs p z w h =
      let e : s + n * s ≡ suc n * s = omega arith in
      joined 0 s (suc n * s) xs (shifted s (repeated n s xs)) h
      (subst (λ (j : ℕ). AreLeavesFrom m s j (shifted s (repeated n s xs))) e (moved_from a s (n * s) (repeated n s xs) p z (within_repeated a n s xs w) (many a n s xs p z w h)))

  ---- layouts

  pub record IsOrdered (l : Layout) : Type 0 where
    pub align : IsPower l.align
    pub whole : l.size % l.align ≡ 0
    pub within : AreWithin l.align l.leaves
    pub leaves : AreLeavesFrom m 0 l.size l.leaves

  scalar_ordered : (w : Scalar) → IsOrdered (scalar_layout m w)
  scalar_ordered w = record {
    align = size_is_power m w;
    whole = itself (size_of m w) (size_is_power m w);
    within = (omega arith, tt);
    leaves = (omega arith, zero_is_multiple (size_of m w) (size_is_power m w), omega arith);
  }
    where
      itself : (a : ℕ) → IsPower a → a % a ≡ 0
      itself = by_power (λ a. a % a ≡ 0) refl refl refl refl

  array_ordered : (n : ℕ) (l : Layout) → IsOrdered l → IsOrdered (array_layout n l)
  array_ordered n l h = record {
    align = h.align;
    whole = product_is_multiple l.align h.align n l.size h.whole;
    within = within_repeated l.align n l.size l.leaves h.within;
    leaves = many l.align n l.size l.leaves h.align h.whole h.within h.leaves;
  }

  align_of_all : (ls : List Layout) → All IsOrdered ls → IsPower (greatest_align ls)
  align_of_all [] h = inl refl
  align_of_all (l ∷ more) h = max_is_power (greatest_align more) (align_of_all more (All-tail IsOrdered l more h)) l.align (All-head IsOrdered l more h).align

  after_within : (ls : List Layout) (e : ℕ) → All IsOrdered ls → AreWithin (greatest_align ls) (leaves_after e ls)
  after_within [] e h = tt
  after_within (l ∷ more) e h =
      within_append (greatest_align (l ∷ more)) _ _
      (within_shifted _ (next_multiple_of e l.align) l.leaves (within_more l.align _ (omega arith) l.leaves (All-head IsOrdered l more h).within))
      (within_more (greatest_align more) _ (omega arith) _ (after_within more (next_multiple_of e l.align + l.size) (All-tail IsOrdered l more h)))

  after_ordered : (ls : List Layout) (e : ℕ) → All IsOrdered ls → AreLeavesFrom m e (end_of e ls) (leaves_after e ls)
  after_ordered [] e h = omega arith
  after_ordered (l ∷ more) e h =
      let here = All-head IsOrdered l more h in
      let k : ℕ = next_multiple_of e l.align in
      joined e (k + l.size) (end_of (k + l.size) more) (shifted k l.leaves) (leaves_after (k + l.size) more)
      (wider e k (k + l.size) (k + l.size) (shifted k l.leaves) (omega arith) (omega arith) (moved_from l.align k l.size l.leaves here.align (next_is_multiple l.align here.align e) here.within here.leaves))
      (after_ordered more (k + l.size) (All-tail IsOrdered l more h))

  first_within : (ls : List Layout) → All IsOrdered ls → AreWithin (greatest_align ls) (first_leaves ls)
  first_within [] h = tt
  first_within (l ∷ more) h = within_more l.align _ (omega arith) l.leaves (All-head IsOrdered l more h).within

  first_ordered : (ls : List Layout) → All IsOrdered ls → AreLeavesFrom m 0 (greatest_size ls) (first_leaves ls)
  first_ordered [] h = omega arith
  first_ordered (l ∷ more) h = wider 0 0 l.size _ l.leaves (omega arith) (omega arith) (All-head IsOrdered l more h).leaves

  ordered_rules : IsKept (layout_rules m) IsOrdered
  ordered_rules = record {
    scalar = scalar_ordered;
    array = array_ordered;
    struct = λ ls h. record {
      align = align_of_all ls h;
      whole = next_is_multiple (greatest_align ls) (align_of_all ls h) (end_of 0 ls);
      within = after_within ls 0 h;
      leaves = wider 0 0 (end_of 0 ls) _ (leaves_after 0 ls) (omega arith) (omega arith) (after_ordered ls 0 h);
    };
    union = λ ls h. record {
      align = align_of_all ls h;
      whole = next_is_multiple (greatest_align ls) (align_of_all ls h) (greatest_size ls);
      within = first_within ls h;
      leaves = wider 0 0 (greatest_size ls) _ (first_leaves ls) (omega arith) (omega arith) (first_ordered ls h);
    };
  }

pub ordered : (t : Table) (n : ℕ) (l : Layout) → layout_of t n ≡ Some l → AreLeavesFrom t.model 0 l.size l.leaves
ordered t n l h = (kept_by_type (layout_rules t.model) (IsOrdered t.model) (ordered_rules t.model) t n l h).leaves

known_ordered : (m : Model) (o : Option Layout) → ((l : Layout) → o ≡ Some l → AreLeavesFrom m 0 l.size l.leaves)
    → AreLeavesFrom m 0 (unwrap_or (option_map (λ (l : Layout). l.size) o) 0) (unwrap_or (option_map (λ (l : Layout). l.leaves) o) [])
known_ordered m None f = omega arith
known_ordered m (Some l) f = f l refl

-- the leaves of a type rise, don't overlap, are aligned and end inside its size
pub leaves_ordered : (t : Table) (n : ℕ) → AreLeavesOf t n (leaves t n)
leaves_ordered t n = known_ordered t.model (layout_of t n) (ordered t n)
