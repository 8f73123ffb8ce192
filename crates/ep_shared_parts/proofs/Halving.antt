-- Parts that are halved, and lists of parts that grow.
use Rattle.std.proofs.Common.{◌≡◌, ℕ, zero, suc, ◌+◌, ◌<◌, ◌≤◌, cond, nat_le, List, [], ◌∷◌, ◌++◌, map, length, set}
use Rattle.std.proofs.Common.{get_or, refl, sym, ◌∙◌, ap, subst, arith, append_assoc}
use Rattle.std.specs.List.{insert}
use Rattle.std.proofs.lemmas.Bool.Decides.{nat_tests}
use Rattle.ep_shared_parts.specs.declared.parts.Part.{Part}
use Rattle.ep_shared_parts.specs.Spread.{Outline, outline, outlines, all_items, AreFrom, AreBelow, EndsBefore}
use Rattle.ep_shared_parts.specs.Spread.{AreSpread, parts_to, IsHalved}

-- ---- one list behind another

pub outlines_append : {X : Type 0} (number : X → ℕ) (ps qs : List (Part X))
    → outlines number (ps ++ qs) ≡ outlines number ps ++ outlines number qs
outlines_append number [] qs = refl
outlines_append number (p ∷ ps) qs = ap (λ os. outline number p ∷ os) (outlines_append number ps qs)

pub items_append : {X : Type 0} (ps qs : List (Part X)) → all_items (ps ++ qs) ≡ all_items ps ++ all_items qs
items_append [] qs = refl
items_append (p ∷ ps) qs = ap (λ xs. p.items.value.items ++ xs) (items_append ps qs) ∙ sym (append_assoc
    p.items.value.items (all_items ps) (all_items qs))

below_left : {X : Type 0} (number : X → ℕ) (k : ℕ) (xs ys : List X) → AreBelow k (map number (xs ++ ys))
    → AreBelow k (map number xs)
below_left number k [] ys h = tt
below_left number k (x ∷ xs) ys h = (h.0, below_left number k xs ys h.1)

below_right : {X : Type 0} (number : X → ℕ) (k : ℕ) (xs ys : List X) → AreBelow k (map number (xs ++ ys))
    → AreBelow k (map number ys)
below_right number k [] ys h = h
below_right number k (x ∷ xs) ys h = below_right number k xs ys h.1

from_left : {X : Type 0} (number : X → ℕ) (k : ℕ) (xs ys : List X) → AreFrom k (map number (xs ++ ys))
    → AreFrom k (map number xs)
from_left number k [] ys h = tt
from_left number k (x ∷ xs) ys h = (h.0, from_left number k xs ys h.1)

between : {X : Type 0} (number : X → ℕ) (a b : ℕ) (xs : List X) → 0 < length xs → AreFrom a (map number xs)
    → AreBelow b (map number xs) → a ≤ b
between number a b [] l f h = absurd (omega arith)
between number a b (x ∷ xs) l f h = omega (arith, f.0, h.0)

-- ---- one part as two

pub insert_next : {X : Type 0} (xs : List X) (i : ℕ) (x : X) → insert xs (i + 1) x ≡ insert xs (suc i) x
insert_next xs i x = let e : i + 1 ≡ suc i = omega arith in ap (λ n. insert xs n x) e

abbrev pub halved : {X : Type 0} → List (Part X) → ℕ → Part X → Part X → List (Part X)
halved ps i l r = set (insert ps (suc i) r) i l

pub halved_items : {X : Type 0} (number : X → ℕ) (ps : List (Part X)) (i : ℕ) (p l r : Part X) → i < length ps
    → p ≡ get_or ps i p → IsHalved number p l r → all_items (halved ps i l r) ≡ all_items ps
halved_items number [] i p l r b e h = absurd (omega arith)
halved_items number (q ∷ ps) zero p l r b e h =
    sym (append_assoc l.items.value.items r.items.value.items (all_items ps)) ∙ ap (λ xs. xs ++ all_items ps)
    (h.items ∙ ap (λ z. z.items.value.items) e)
halved_items number (q ∷ ps) (suc i) p l r b e h = ap (λ xs. q.items.value.items ++ xs) (halved_items number ps i p l
    r (omega arith) e h)

ends_second : {X : Type 0} (number : X → ℕ) (q r : Part X) (xs : List X) (ps : List (Part X))
    → EndsBefore (outline number q) (outlines number ps) → xs ++ r.items.value.items ≡ q.items.value.items
    → 0 < length r.items.value.items → AreFrom r.start (map number r.items.value.items)
    → EndsBefore (outline number r) (outlines number ps)
ends_second number q r xs [] s e n f = tt
ends_second number q r xs (t ∷ ts) s e n f =
    let b : AreBelow t.start (map number r.items.value.items) = below_right number t.start xs r.items.value.items
    (subst (λ zs. AreBelow t.start (map number zs)) (sym e) s.1) in
    (between number r.start t.start r.items.value.items n f b, b)

ends_halved : {X : Type 0} (number : X → ℕ) (o : Outline) (ps : List (Part X)) (i : ℕ) (p l r : Part X)
    → i < length ps → p ≡ get_or ps i p → l.start ≡ p.start → EndsBefore o (outlines number ps)
    → EndsBefore o (outlines number (halved ps i l r))
ends_halved number o [] i p l r b e f h = absurd (omega arith)
ends_halved number o (q ∷ ps) zero p l r b e f h =
    subst (λ k. (o.start ≤ k) × AreBelow k o.numbers) (sym (f ∙ ap (λ z. z.start) e)) h
ends_halved number o (q ∷ ps) (suc i) p l r b e f h = h

pub halved_spread : {X : Type 0} (number : X → ℕ) (ps : List (Part X)) (i : ℕ) (p l r : Part X) → i < length ps
    → p ≡ get_or ps i p → IsHalved number p l r → AreSpread (outlines number ps)
    → AreSpread (outlines number (halved ps i l r))
halved_spread number [] i p l r b e h s = absurd (omega arith)
halved_spread number (q ∷ ps) zero p l r b e h s =
    let start : q.start ≡ l.start = sym (h.start ∙ ap (λ z. z.start) e) in
    let items : l.items.value.items ++ r.items.value.items ≡ q.items.value.items = h.items ∙ ap (λ z.
    z.items.value.items) e in
    let from : AreFrom l.start (map number (l.items.value.items ++ r.items.value.items)) = subst (λ k. AreFrom k (map
    number (l.items.value.items ++ r.items.value.items))) start (subst (λ zs. AreFrom q.start (map number zs)) (sym
    items) s.0) in
    let rises : l.start ≤ r.start = omega (arith, h.rises, h.start) in (
      from_left number l.start l.items.value.items r.items.value.items from,
      (rises, h.below),
      (
        h.above,
        ends_second
            number q r l.items.value.items ps s.1 items h.some h.above,
        s.2,
      ),
    )
halved_spread number (q ∷ ps) (suc i) p l r b e h s = (
  s.0,
  ends_halved number (outline number q) ps i p l r (omega arith) e h.start s.1,
  halved_spread number ps i p l
      r (omega arith) e h s.2,
)

pub halved_starts : {X : Type 0} (number : X → ℕ) (ps : List (Part X)) (i : ℕ) (p l r : Part X) (k : ℕ) → i < length
    ps
    → p ≡ get_or ps i p → l.start ≡ p.start → 0 < parts_to k (outlines number ps)
    → 0 < parts_to k (outlines number (halved ps i l r))
halved_starts number [] i p l r k b e f h = absurd (omega arith)
halved_starts number (q ∷ ps) zero p l r k b e f h =
    let s : l.start ≡ q.start = f ∙ ap (λ z. z.start) e in
    by l.start (outlines number (r ∷ ps)) s
  where
    by : (a : ℕ) (os : List Outline) → a ≡ q.start → 0 < cond (nat_le a k) (suc (parts_to k os)) 0
    by a os s = grind (arith, nat_tests, h, s)
halved_starts number (q ∷ ps) (suc i) p l r k b e f h = grind (arith, nat_tests, h)

-- ---- a part before all others

pub first_spread : {X : Type 0} (number : X → ℕ) (ps : List (Part X)) (p : Part X) → p.items.value.items ≡ []
    → parts_to p.start (outlines number ps) ≡ 0 → AreSpread (outlines number ps)
    → AreSpread (outlines number (p ∷ ps))
first_spread {X = X} number ps p e z s =
    (subst (λ zs. AreFrom p.start (map number zs)) (sym e) tt, ends ps z, s)
  where
    ends : (qs : List (Part X)) → parts_to p.start (outlines number qs) ≡ 0 → EndsBefore (outline number p) (outlines
        number qs)
    ends [] z = tt
    ends (q ∷ qs) z = (grind (arith, nat_tests, z), subst (λ zs. AreBelow q.start (map number zs)) (sym e) tt)
