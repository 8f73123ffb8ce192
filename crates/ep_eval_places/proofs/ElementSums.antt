-- Elements of arrays, as sums in blocks of the greatest size.
use Rattle.std.proofs.Common.{◌≡◌, ℕ, zero, suc, ◌+◌, ◌<◌, ◌≤◌, max, ℤ, pos, Bool, true, false, ◌||◌, List, [], ◌∷◌}
use Rattle.std.proofs.Common.{Option, Some, slice_get, fold, int_lt, cond, refl, ap, sym, ◌∙◌, arith}
use Rattle.std.specs.Prelude.{replicate}
use Rattle.std.specs.Int.{int_max}
use Rattle.std.specs.List.{list_any}
use Rattle.std.proofs.lemmas.Int.{ints, int_max_is}
use Rattle.ep_range_laws.proofs.Comparisons.{from_lt_true, from_lt_false}
use Rattle.ep_domain.specs.Domain.{Ops}
use Rattle.ep_pointers.specs.declared.sum.Move.{Move}
use Rattle.ep_pointers.specs.Value.{Target, Pointers}
use Rattle.ep_pointers.specs.Sum.{move, moved, moved_offset, moved_targets, of_targets, put, exact_range, hull}
use Rattle.ep_pointers.specs.Sum.{shown_of}
use Rattle.ep_evaluation.specs.Accesses.{element_targets, may_pass}
use Rattle.ep_eval_places.specs.Offsets.{count_to}

pub get_replicate : (n k x : ℕ) → k < n → slice_get (replicate n x) k ≡ Some x
get_replicate zero k x h = absurd (omega (arith, h))
get_replicate (suc n) zero x h = refl
get_replicate (suc n) (suc k) x h = get_replicate n k x (omega (arith, h))

module _ {N : Type 0} (D : Ops N) (m : Move N) where
  pub element_moved : (n : ℕ) (ts : List (Target N)) → count_to ts < n
      → moved_targets D m (replicate n 4294967295) ts ≡ element_targets D m ts
  element_moved n [] h = refl
  element_moved n (t ∷ ts) h =
      ap (λ o. put t.0 (moved_offset D m o t.1) (moved_targets D m (replicate n 4294967295) ts))
      (get_replicate n t.0 4294967295 (first t.0 (count_to ts) n h))
      ∙ ap (put t.0 (moved_offset D m (Some 4294967295) t.1)) (element_moved n ts (second t.0 (count_to ts) n h))
    where
      first : (a b n : ℕ) → max a b < n → a < n
      first a b n l = omega (arith, l)

      second : (a b n : ℕ) → max a b < n → b < n
      second a b n l = omega (arith, l)

  lt_max : (c x y : ℤ) → int_lt c (int_max x y) ≡ (int_lt c x || int_lt c y)
  lt_max c x y = split (int_lt y x) refl (int_lt c x) refl (int_lt c y) refl
    where
      split : (s : Bool) → int_lt y x ≡ s → (t : Bool) → int_lt c x ≡ t → (u : Bool) → int_lt c y ≡ u
          → int_lt c (cond s x y) ≡ (int_lt c x || int_lt c y)
      split true e true f u g = rw f refl
      split true e false f false g = rw (f, g) refl
      split true e false f true g =
          let p = from_lt_true y x e in let q = from_lt_false c x f in let r = from_lt_true c y g in
          absurd (omega (arith, ints))
      split false e true f true g = rw (f, g) refl
      split false e false f u g = rw f refl
      split false e true f false g =
          let p = from_lt_false y x e in let q = from_lt_true c x f in let r = from_lt_false c y g in
          absurd (omega (arith, ints))

  -- the greatest exact result
  passes_from : (c : ℤ) (e : ℤ × ℤ) (ts : List (Target N))
      → int_lt c (fold (λ e u. hull e (exact_range D m u.1)) e ts).1
      ≡ (int_lt c e.1 || list_any (λ (t : Target N). int_lt c (exact_range D m t.1).1) ts)
  passes_from c e [] = sym (or_false (int_lt c e.1))
    where
      or_false : (b : Bool) → (b || false) ≡ b
      or_false false = refl
      or_false true = refl
  passes_from c e (t ∷ ts) =
      passes_from c (hull e (exact_range D m t.1)) ts
      ∙ ap (λ b. b || list_any (λ (t : Target N). int_lt c (exact_range D m t.1).1) ts) (lt_max c e.1 (exact_range D m t.1).1)
      ∙ or_assoc (int_lt c e.1) (int_lt c (exact_range D m t.1).1) _
    where
      or_assoc : (a b c : Bool) → ((a || b) || c) ≡ (a || (b || c))
      or_assoc false b c = refl
      or_assoc true b c = refl

  pub passes : (ts : List (Target N)) → int_lt (pos 4294967295) (shown_of D m ts).1 ≡ may_pass D m ts
  passes [] = refl
  passes (t ∷ ts) = passes_from (pos 4294967295) (exact_range D m t.1) ts

pub element_sum : {N : Type 0} (D : Ops N) (i : N) (unit : ℕ) (p : Pointers N) (ts : List (Target N)) (sizes items : List ℕ)
    (v : Option (Pointers N)) → v ≡ moved D (move i unit false) sizes p → sizes ≡ items
    → items ≡ replicate (count_to ts + 1) 4294967295 → ts ≡ p.targets
    → v ≡ of_targets (element_targets D (move i unit false) p.targets)
element_sum D i unit p ts sizes items v e f g h =
    e ∙ ap (λ z. moved D (move i unit false) z p) (f ∙ g ∙ ap (λ us. replicate (count_to us + 1) 4294967295) h)
    ∙ ap of_targets (element_moved D (move i unit false) (count_to p.targets + 1) p.targets (omega arith))
