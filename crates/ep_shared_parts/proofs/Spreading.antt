-- Lists in parts: where items of given numbers stand.
use Rattle.std.proofs.Common.{◌≡◌, ℕ, zero, suc, ◌+◌, ◌-◌, ◌<◌, ◌≤◌, Bool, true, false, cond, nat_le, List, [], ◌∷◌}
use Rattle.std.proofs.Common.{◌++◌, map, length, take, drop, get_or, refl, sym, ◌∙◌, ap, arith}
use Rattle.std.proofs.lemmas.Bool.Decides.{nat_tests}
use Rattle.std.proofs.lemmas.List.{take-append-drop, drop-drop}
use Rattle.ep_shared_parts.specs.declared.parts.Part.{Part}
use Rattle.ep_shared_parts.specs.Spread.{Outline, outline, outlines, all_items, AreFrom, AreBelow, AreSpread}
use Rattle.ep_shared_parts.specs.Spread.{parts_to, IsWindow}

-- ---- numbers

pub below_le : (a b : ℕ) (ns : List ℕ) → a ≤ b → AreBelow a ns → AreBelow b ns
below_le a b [] le h = tt
below_le a b (n ∷ ns) le h = (omega (arith, h.0), below_le a b ns le h.1)

pub from_le : (a b : ℕ) (ns : List ℕ) → a ≤ b → AreFrom b ns → AreFrom a ns
from_le a b [] le h = tt
from_le a b (n ∷ ns) le h = (omega (arith, h.0), from_le a b ns le h.1)

pub below_append : {X : Type 0} (number : X → ℕ) (k : ℕ) (xs ys : List X) → AreBelow k (map number xs)
    → AreBelow k (map number ys) → AreBelow k (map number (xs ++ ys))
below_append number k [] ys h j = j
below_append number k (x ∷ xs) ys h j = (h.0, below_append number k xs ys h.1 j)

pub from_append : {X : Type 0} (number : X → ℕ) (k : ℕ) (xs ys : List X) → AreFrom k (map number xs)
    → AreFrom k (map number ys) → AreFrom k (map number (xs ++ ys))
from_append number k [] ys h j = j
from_append number k (x ∷ xs) ys h j = (h.0, from_append number k xs ys h.1 j)

-- ---- how many parts start at a number or before

pub parts_to_le : (k : ℕ) (os : List Outline) → parts_to k os ≤ length os
parts_to_le k [] = omega arith
parts_to_le k (p ∷ os) = grind (arith, nat_tests, parts_to_le k os)

pub parts_to_rises : (a b : ℕ) (os : List Outline) → a ≤ b → parts_to a os ≤ parts_to b os
parts_to_rises a b [] le = omega arith
parts_to_rises a b (p ∷ os) le = grind (arith, nat_tests, parts_to_rises a b os le)

pub outlines_as_many : {X : Type 0} (number : X → ℕ) (ps : List (Part X)) → length (outlines number ps) ≡ length ps
outlines_as_many number [] = refl
outlines_as_many number (p ∷ ps) = ap suc (outlines_as_many number ps)

head_le : {X : Type 0} (number : X → ℕ) (p : Part X) (ps : List (Part X)) (j : ℕ) (d : Part X)
    → AreSpread (outlines number (p ∷ ps)) → j < length ps → p.start ≤ (get_or ps j d).start
head_le number p [] j d s h = absurd (omega arith)
head_le number p (q ∷ qs) zero d s h = s.1.0
head_le number p (q ∷ qs) (suc j) d s h =
    let a : p.start ≤ q.start = s.1.0 in
    let b : q.start ≤ (get_or qs j d).start = head_le number q qs j d s.2 (omega arith) in
    omega (arith, a, b)

pub starts_rise : {X : Type 0} (number : X → ℕ) (ps : List (Part X)) (i j : ℕ) (d : Part X)
    → AreSpread (outlines number ps) → i ≤ j → j < length ps → (get_or ps i d).start ≤ (get_or ps j d).start
starts_rise number [] i j d s le h = absurd (omega arith)
starts_rise number (p ∷ ps) zero zero d s le h = omega arith
starts_rise number (p ∷ ps) zero (suc j) d s le h = head_le number p ps j d s (omega arith)
starts_rise number (p ∷ ps) (suc i) zero d s le h = absurd (omega arith)
starts_rise number (p ∷ ps) (suc i) (suc j) d s le h = starts_rise number ps i j d s.2 (omega arith) (omega arith)

pub count_is : {X : Type 0} (number : X → ℕ) (k : ℕ) (ps : List (Part X)) (i : ℕ) → i ≤ length ps
    → ((j : ℕ) (d : Part X) → j < i → (get_or ps j d).start ≤ k)
    → ((j : ℕ) (d : Part X) → i ≤ j → j < length ps → k < (get_or ps j d).start)
    → i ≡ parts_to k (outlines number ps)
count_is number k [] zero h below above = refl
count_is number k [] (suc i) h below above = absurd (omega arith)
count_is number k (p ∷ ps) zero h below above = grind (arith, nat_tests, above 0 p (omega arith) (omega arith))
count_is number k (p ∷ ps) (suc i) h below above =
    let here : p.start ≤ k = below 0 p (omega arith) in
    let rest = count_is number k ps i (omega arith) (λ j d lt. below (suc j) d (omega arith)) (λ j d le lt. above (suc
    j) d (omega arith) (omega arith)) in
    grind (arith, nat_tests, rest)

-- ---- what is outside

pub some_to : (k m : ℕ) (o : Outline) (os : List Outline) → suc m ≤ parts_to k (o ∷ os) → (o.start ≤ k) × (m ≤ parts_to
    k os)
some_to k m o os h = by (nat_le o.start k) refl h
  where
    by : (b : Bool) → nat_le o.start k ≡ b → suc m ≤ cond b (suc (parts_to k os)) 0 → (o.start ≤ k) × (m ≤ parts_to k
        os)
    by true e g = (grind (arith, nat_tests, e), omega arith)
    by false e g = absurd (omega arith)

pub below_to : {X : Type 0} (number : X → ℕ) (k : ℕ) (ps : List (Part X)) (i : ℕ) → AreSpread (outlines number ps)
    → suc i ≤ parts_to k (outlines number ps) → AreBelow k (map number (all_items (take i ps)))
below_to number k [] i s h = absurd (omega arith)
below_to number k (p ∷ ps) zero s h = tt
below_to number k (p ∷ []) (suc i) s h =
    let t = some_to k (suc i) (outline number p) [] h in absurd (omega (arith, t.1))
below_to number k (p ∷ q ∷ qs) (suc i) s h =
    let t = some_to k (suc i) (outline number p) (outlines number (q ∷ qs)) h in
    let u = some_to k i (outline number q) (outlines number qs) t.1 in
    below_append number k p.items.value.items (all_items (take i (q ∷ qs))) (below_le q.start k (map number
    p.items.value.items) u.0 s.1.1) (below_to number k (q ∷ qs) i s.2 t.1)

pub all_from : {X : Type 0} (number : X → ℕ) (k : ℕ) (p : Part X) (ps : List (Part X))
    → AreSpread (outlines number (p ∷ ps)) → k ≤ p.start → AreFrom k (map number (all_items (p ∷ ps)))
all_from number k p [] s h = from_append number k p.items.value.items [] (from_le k p.start (map number
    p.items.value.items) h s.0) tt
all_from number k p (q ∷ qs) s h =
    let a : p.start ≤ q.start = s.1.0 in
    from_append number k p.items.value.items (all_items (q ∷ qs)) (from_le k p.start (map number p.items.value.items)
    h s.0) (all_from number k q qs s.2 (omega (arith, a, h)))

above_by : {X : Type 0} (number : X → ℕ) (k : ℕ) (p : Part X) (ps : List (Part X)) (b : Bool)
    → nat_le p.start k ≡ b → AreSpread (outlines number (p ∷ ps))
    → AreFrom (suc k) (map number (all_items (drop (parts_to k (outlines number ps)) ps)))
    → AreFrom (suc k) (map number (all_items (drop (cond b (suc (parts_to k (outlines number ps))) 0) (p ∷ ps))))
above_by number k p ps true e s h = h
above_by number k p ps false e s h = all_from number (suc k) p ps s (grind (arith, nat_tests, e))

pub above_to : {X : Type 0} (number : X → ℕ) (k : ℕ) (ps : List (Part X)) → AreSpread (outlines number ps)
    → AreFrom (suc k) (map number (all_items (drop (parts_to k (outlines number ps)) ps)))
above_to number k [] s = tt
above_to number k (p ∷ ps) s = above_by number k p ps (nat_le p.start k) refl s (above_to number k ps s.2)

pub below_before : {X : Type 0} (number : X → ℕ) (k : ℕ) (ps : List (Part X)) (i m : ℕ) → AreSpread (outlines number
    ps)
    → m ≡ parts_to k (outlines number ps) → i ≡ m - 1 → AreBelow k (map number (all_items (take i ps)))
below_before {X = X} number k ps i m s e f = by i refl
  where
    by : (j : ℕ) → i ≡ j → AreBelow k (map number (all_items (take j ps)))
    by zero q = nothing ps
      where
        nothing : (qs : List (Part X)) → AreBelow k (map number (all_items (take 0 qs)))
        nothing [] = tt
        nothing (q ∷ qs) = tt
    by (suc j) q = below_to number k ps (suc j) s (omega arith)

pub window_of : {X : Type 0} (number : X → ℕ) (from last : ℕ) (ps : List (Part X)) (i j : ℕ) → i ≤ j
    → AreBelow from (map number (all_items (take i ps))) → AreFrom (suc last) (map number (all_items (drop j ps)))
    → IsWindow number from last ps (take (j - i) (drop i ps))
window_of number from last ps i j le b a = record {
  before = take i ps;
  behind = drop j ps;
  whole =
      let n : i + (j - i) ≡ j = omega arith in
      let e : drop (j - i) (drop i ps) ≡ drop j ps = drop-drop (j - i) i ps ∙ ap (λ m. drop m ps) n in
      sym (ap (λ xs. take i ps ++ (take (j - i) (drop i ps) ++ xs)) (sym e) ∙ ap (λ xs. take i ps ++ xs)
      (take-append-drop (j - i) (drop i ps)) ∙ take-append-drop i ps);
  below = b;
  above = a;
}
