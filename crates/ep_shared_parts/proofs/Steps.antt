-- Loops over parts.
use Rattle.std.proofs.Common.{◌≡◌, ℕ, zero, suc, ◌+◌, ◌<◌, true, nat_lt, nat_le, List, [], ◌∷◌, ◌++◌, map, length}
use Rattle.std.proofs.Common.{drop, get_or, sym, ◌∙◌, ap, arith, append_assoc}
use Rattle.std.specs.List.{list_all}
use Rattle.std.proofs.lemmas.Bool.{and_parts}
use Rattle.std.proofs.lemmas.Bool.Decides.{nat_tests}
use Rattle.ep_shared_parts.specs.declared.parts.Part.{Part}
use Rattle.ep_shared_parts.specs.Spread.{outline, outlines, all_items, AreFrom, AreBelow}
use Rattle.ep_shared_parts.proofs.Halving.{outlines_append, items_append}

pub below_of : {X : Type 0} (number : X → ℕ) (k : ℕ) (xs : List X) → list_all (λ x. nat_lt (number x) k) xs ≡ true
    → AreBelow k (map number xs)
below_of number k [] h = tt
below_of number k (x ∷ xs) h =
    let p = and_parts (nat_lt (number x) k) (list_all (λ x. nat_lt (number x) k) xs) h in
    (grind (arith, nat_tests, p.0), below_of number k xs p.1)

pub from_of : {X : Type 0} (number : X → ℕ) (k : ℕ) (xs : List X) → list_all (λ x. nat_le k (number x)) xs ≡ true
    → AreFrom k (map number xs)
from_of number k [] h = tt
from_of number k (x ∷ xs) h =
    let p = and_parts (nat_le k (number x)) (list_all (λ x. nat_le k (number x)) xs) h in
    (grind (arith, nat_tests, p.0), from_of number k xs p.1)

-- what is left from a part on
pub rest_at : {X : Type 0} (ps : List X) (i : ℕ) (p : X) → i < length ps → p ≡ get_or ps i p
    → drop i ps ≡ p ∷ drop (i + 1) ps
rest_at [] i p b e = absurd (omega arith)
rest_at (q ∷ ps) zero p b e = ap (λ x. x ∷ ps) (sym e)
rest_at (q ∷ ps) (suc i) p b e =
    let n : suc i + 1 ≡ suc (i + 1) = omega arith in
    rest_at ps i p (omega arith) e ∙ ap (λ m. p ∷ drop m (q ∷ ps)) (sym n)

pub items_at : {X : Type 0} (ps : List (Part X)) (i : ℕ) (p : Part X) → i < length ps → p ≡ get_or ps i p
    → all_items (drop i ps) ≡ p.items.value.items ++ all_items (drop (i + 1) ps)
items_at ps i p b e = ap all_items (rest_at ps i p b e)

pub outlines_step : {X : Type 0} (number : X → ℕ) (out new ps : List (Part X)) (i : ℕ) (p q : Part X)
    → new ≡ out ++ q ∷ [] → q.start ≡ p.start → q.items.value.items ≡ p.items.value.items → i < length ps
    → p ≡ get_or ps i p → outlines number out ++ outlines number (drop i ps) ≡ outlines number ps
    → outlines number new ++ outlines number (drop (i + 1) ps) ≡ outlines number ps
outlines_step number out new ps i p q n s t b e h =
    let same : outline number q ≡ outline number p = ap (λ k. record {
      start = k;
      numbers = map number
          q.items.value.items;
    }) s ∙ ap (λ xs. record { start = p.start; numbers = map number xs }) t in
    ap (λ xs. outlines number xs ++ outlines number (drop (i + 1) ps)) n
    ∙ ap (λ xs. xs ++ outlines number (drop (i + 1) ps)) (outlines_append number out (q ∷ []))
    ∙ append_assoc (outlines number out) (outline number q ∷ []) (outlines number (drop (i + 1) ps))
    ∙ ap (λ o. outlines number out ++ (o ∷ outlines number (drop (i + 1) ps))) same
    ∙ sym (ap (λ xs. outlines number out ++ outlines number xs) (rest_at ps i p b e)) ∙ h

pub items_step : {X : Type 0} (out new ps : List (Part X)) (i : ℕ) (p q : Part X) → new ≡ out ++ q ∷ []
    → q.items.value.items ≡ p.items.value.items → i < length ps → p ≡ get_or ps i p
    → all_items out ++ all_items (drop i ps) ≡ all_items ps
    → all_items new ++ all_items (drop (i + 1) ps) ≡ all_items ps
items_step out new ps i p q n t b e h =
    ap (λ xs. all_items xs ++ all_items (drop (i + 1) ps)) n
    ∙ ap (λ xs. xs ++ all_items (drop (i + 1) ps)) (items_append out (q ∷ []))
    ∙ append_assoc (all_items out) (q.items.value.items ++ []) (all_items (drop (i + 1) ps))
    ∙ ap (λ xs. all_items out ++ xs) (append_assoc q.items.value.items [] (all_items (drop (i + 1) ps)))
    ∙ ap (λ xs. all_items out ++ (xs ++ all_items (drop (i + 1) ps))) t
    ∙ sym (ap (λ xs. all_items out ++ xs) (items_at ps i p b e)) ∙ h
