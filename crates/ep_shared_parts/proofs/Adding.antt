-- A part that takes one item more.
use Rattle.std.proofs.Common.{◌≡◌, ℕ, zero, suc, ◌<◌, ◌≤◌, Bool, true, false, cond, nat_le, List, [], ◌∷◌, ◌++◌, map}
use Rattle.std.proofs.Common.{length, set, get_or, ⊎_elim, sym, ◌∙◌, ap, subst, arith}
use Rattle.std.specs.List.{list_any, insert}
use Rattle.std.proofs.lemmas.Bool.{or_cases, or_left, or_right}
use Rattle.std.proofs.lemmas.Bool.Decides.{nat_tests}
use Rattle.std.proofs.lemmas.List.Folds.{list_any-append}
use Rattle.ep_shared_parts.specs.declared.parts.Part.{Part}
use Rattle.ep_shared_parts.specs.Spread.{Outline, outline, outlines, all_items, AreFrom, AreBelow, EndsBefore}
use Rattle.ep_shared_parts.specs.Spread.{AreSpread, parts_to}
use Rattle.ep_shared_parts.proofs.Spreading.{some_to}

-- the numbers of ys are those of xs, and k
pub record Adds {X : Type 0} (number : X → ℕ) (k : ℕ) (xs ys : List X) : Type 0 where
  pub above : (a : ℕ) → a ≤ k → AreFrom a (map number xs) → AreFrom a (map number ys)
  pub below : (a : ℕ) → k < a → AreBelow a (map number xs) → AreBelow a (map number ys)

from_insert : {X : Type 0} (number : X → ℕ) (a : ℕ) (xs : List X) (i : ℕ) (y : X) → AreFrom a (map number xs)
    → a ≤ number y → AreFrom a (map number (insert xs i y))
from_insert number a [] zero y h l = (l, tt)
from_insert number a [] (suc i) y h l = (l, tt)
from_insert number a (x ∷ xs) zero y h l = (l, h)
from_insert number a (x ∷ xs) (suc i) y h l = (h.0, from_insert number a xs i y h.1 l)

below_insert : {X : Type 0} (number : X → ℕ) (a : ℕ) (xs : List X) (i : ℕ) (y : X) → AreBelow a (map number xs)
    → number y < a → AreBelow a (map number (insert xs i y))
below_insert number a [] zero y h l = (l, tt)
below_insert number a [] (suc i) y h l = (l, tt)
below_insert number a (x ∷ xs) zero y h l = (l, h)
below_insert number a (x ∷ xs) (suc i) y h l = (h.0, below_insert number a xs i y h.1 l)

pub adds_at : {X : Type 0} (number : X → ℕ) (y : X) (xs ys : List X) (i : ℕ) → ys ≡ insert xs i y
    → Adds number (number y) xs ys
adds_at number y xs ys i e = record {
  above = λ a le h. subst (λ zs. AreFrom a (map number zs)) (sym e) (from_insert number a xs i y h le);
  below = λ a lt h. subst (λ zs. AreBelow a (map number zs)) (sym e) (below_insert number a xs i y h lt);
}

pub rest_of : (k m : ℕ) (o : Outline) (os : List Outline) → suc m ≡ parts_to k (o ∷ os) → m ≡ parts_to k os
rest_of k m o os h = by (nat_le o.start k) h
  where
    by : (b : Bool) → suc m ≡ cond b (suc (parts_to k os)) 0 → m ≡ parts_to k os
    by true g = omega arith
    by false g = absurd (omega arith)

ends_set : {X : Type 0} (number : X → ℕ) (o : Outline) (ps : List (Part X)) (i : ℕ) (p q : Part X)
    → p ≡ get_or ps i p → q.start ≡ p.start → EndsBefore o (outlines number ps)
    → EndsBefore o (outlines number (set ps i q))
ends_set number o [] i p q e f h = tt
ends_set number o (t ∷ ts) zero p q e f h =
    subst (λ k. (o.start ≤ k) × AreBelow k o.numbers) (sym (f ∙ ap (λ z. z.start) e)) h
ends_set number o (t ∷ ts) (suc i) p q e f h = h

pub set_spread : {X : Type 0} (number : X → ℕ) (ps : List (Part X)) (i : ℕ) (p q : Part X) (k : ℕ)
    → suc i ≡ parts_to k (outlines number ps) → p ≡ get_or ps i p → q.start ≡ p.start
    → Adds number k p.items.value.items q.items.value.items → AreSpread (outlines number ps)
    → AreSpread (outlines number (set ps i q))
set_spread number [] i p q k e f g a s = absurd (omega arith)
set_spread {X = X} number (t ∷ ts) zero p q k e f g a s =
    let here = some_to k 0 (outline number t) (outlines number ts) (omega (arith, e)) in
    let start : t.start ≡ q.start = sym (g ∙ ap (λ z. z.start) f) in
    let items : t.items.value.items ≡ p.items.value.items = sym (ap (λ z. z.items.value.items) f) in
    let ends = subst (λ zs. EndsBefore (record { start = t.start; numbers = map number zs }) (outlines number ts))
    items s.1 in (
      a.above q.start (omega (arith, here.0, start)) (subst (λ n. AreFrom n (map number p.items.value.items)) start
          (subst (λ zs. AreFrom t.start (map number zs)) items s.0)),
      next ts start (sym (rest_of k 0 (outline number t)
          (outlines number ts) e)) ends,
      s.2,
    )
  where
    next : (us : List (Part X)) → t.start ≡ q.start → parts_to k (outlines number us) ≡ 0
        → EndsBefore (record { start = t.start; numbers = map number p.items.value.items }) (outlines number us)
        → EndsBefore (outline number q) (outlines number us)
    next [] j z h = tt
    next (u ∷ us) j z h =
        let l : k < u.start = grind (arith, nat_tests, z) in
        (omega (arith, h.0, j), a.below u.start l h.1)
set_spread number (t ∷ ts) (suc i) p q k e f g a s = (
  s.0,
  ends_set number (outline number t) ts i p q f g s.1,
  set_spread number ts i p q k (rest_of k (suc i)
      (outline number t) (outlines number ts) e) f g a s.2,
)

-- ---- what some item passes

pub any_left : {X : Type 0} (test : X → Bool) (xs ys : List X) → list_any test xs ≡ true → list_any test (xs ++ ys) ≡
    true
any_left test xs ys h = list_any-append test xs ys ∙ or_left (list_any test xs) (list_any test ys) h

pub any_right : {X : Type 0} (test : X → Bool) (xs ys : List X) → list_any test ys ≡ true → list_any test (xs ++ ys)
    ≡ true
any_right test xs ys h = list_any-append test xs ys ∙ or_right (list_any test xs) (list_any test ys) h

any_cases : {X Z : Type 0} (test : X → Bool) (xs ys : List X) → list_any test (xs ++ ys) ≡ true
    → (list_any test xs ≡ true → Z) → (list_any test ys ≡ true → Z) → Z
any_cases test xs ys h l r = ⊎_elim l r (or_cases (list_any test xs) (list_any test ys) (sym (list_any-append test xs
    ys) ∙ h))

-- what the items of one part pass, all do
pub any_at : {X : Type 0} (test : X → Bool) (ps : List (Part X)) (i : ℕ) (p : Part X) → i < length ps
    → p ≡ get_or ps i p → list_any test p.items.value.items ≡ true → list_any test (all_items ps) ≡ true
any_at test [] i p b e h = absurd (omega arith)
any_at test (t ∷ ts) zero p b e h = any_left test t.items.value.items (all_items ts) (subst (λ z. list_any test
    z.items.value.items ≡ true) e h)
any_at test (t ∷ ts) (suc i) p b e h = any_right test t.items.value.items (all_items ts) (any_at test ts i p (omega
    arith) e h)

pub any_set : {X : Type 0} (test : X → Bool) (ps : List (Part X)) (i : ℕ) (q : Part X) → i < length ps
    → list_any test q.items.value.items ≡ true → list_any test (all_items (set ps i q)) ≡ true
any_set test [] i q b h = absurd (omega arith)
any_set test (t ∷ ts) zero q b h = any_left test q.items.value.items (all_items ts) h
any_set test (t ∷ ts) (suc i) q b h = any_right test t.items.value.items (all_items (set ts i q)) (any_set test ts i
    q (omega arith) h)

-- a part that has more in its place
pub any_kept : {X : Type 0} (test : X → Bool) (ps : List (Part X)) (i : ℕ) (p q : Part X) → p ≡ get_or ps i p
    → (list_any test p.items.value.items ≡ true → list_any test q.items.value.items ≡ true)
    → list_any test (all_items ps) ≡ true → list_any test (all_items (set ps i q)) ≡ true
any_kept test [] i p q e f h = h
any_kept test (t ∷ ts) zero p q e f h =
    any_cases test t.items.value.items (all_items ts) h
    (λ k. any_left test q.items.value.items (all_items ts) (f (subst (λ z. list_any test z.items.value.items ≡ true)
    (sym e) k)))
    (λ k. any_right test q.items.value.items (all_items ts) k)
any_kept test (t ∷ ts) (suc i) p q e f h =
    any_cases test t.items.value.items (all_items ts) h
    (λ k. any_left test t.items.value.items (all_items (set ts i q)) k)
    (λ k. any_right test t.items.value.items (all_items (set ts i q)) (any_kept test ts i p q e f k))

pub any_more : {X : Type 0} (test : X → Bool) (xs : List X) (i : ℕ) (y : X) → list_any test xs ≡ true
    → list_any test (insert xs i y) ≡ true
any_more test [] i y h = absurd (cc)
any_more test (x ∷ xs) zero y h = or_right (test y) (list_any test (x ∷ xs)) h
any_more test (x ∷ xs) (suc i) y h =
    ⊎_elim
    (λ k. or_left (test x) (list_any test (insert xs i y)) k)
    (λ k. or_right (test x) (list_any test (insert xs i y)) (any_more test xs i y k))
    (or_cases (test x) (list_any test xs) h)

pub any_new : {X : Type 0} (test : X → Bool) (xs : List X) (i : ℕ) (y : X) → test y ≡ true
    → list_any test (insert xs i y) ≡ true
any_new test [] zero y h = or_left (test y) false h
any_new test [] (suc i) y h = or_left (test y) false h
any_new test (x ∷ xs) zero y h = or_left (test y) (list_any test (x ∷ xs)) h
any_new test (x ∷ xs) (suc i) y h = or_right (test x) (list_any test (insert xs i y)) (any_new test xs i y h)
