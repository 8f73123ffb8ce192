-- What the map of first values has at a place.
use Rattle.std.proofs.Common.{◌≡◌, ℕ, ℤ, Bool, true, false, ◌&&◌, nat_eq, cond, if◌then◌else◌, List, [], ◌∷◌, map}
use Rattle.std.proofs.Common.{Option, Some, None, refl, sym, ap, ◌∙◌, arith}
use Rattle.std.specs.Ordering.{nat_cmp, ordering_then, is_eq, eq_by_cmp}
use Rattle.std.specs.Map.{update, update_all}
use Rattle.std.specs.BTreeMap.{BTreeMap, get}
use Rattle.ep_domain.specs.Domain.{Ops}
use Rattle.ep_core.specs.declared.program.InitByte.{InitByte}
use Rattle.ep_core.specs.Program.{Init, Program}
use Rattle.ep_core.specs.View.{init_view}
use Rattle.ep_transfers.specs.Ends.{value_in}
use Rattle.ep_transfer_entry.specs.First.{place_cmp, placed, HasFirst}

abbrev or_else : Option ℤ → Option ℤ → Option ℤ
or_else None u = u
or_else (Some v) u = Some v

same_number : (a b : ℕ) → is_eq (nat_cmp a b) ≡ nat_eq a b
same_number a b = grind arith

same_place : (a b c d : ℕ) → is_eq (ordering_then (nat_cmp a c) (nat_cmp b d)) ≡ (nat_eq a c && nat_eq b d)
same_place a b c d = grind arith

module _ {N : Type 0} (D : Ops N) (p : Program) (b q : ℕ) where
  abbrev value_or : Option ℤ → Init → Option ℤ
  value_or (Some v) i = Some v
  value_or None i = if nat_eq i.block b && nat_eq i.offset q then Some i.value else None

  pub value_more : (i : Init) (is : List Init) (u : Option ℤ) → value_in D p is b q ≡ u
      → value_in D p (i ∷ is) b q ≡ value_or u i
  value_more i is None e = rw e refl
  value_more i is (Some v) e = rw e refl

  at_place : (u w : Option ℤ) (i : InitByte) (t : Bool) → (nat_eq i.block b && nat_eq i.offset q) ≡ t
      → or_else u (cond t (Some i.value) w) ≡ or_else (value_or u (init_view i)) w
  at_place (Some v) w i t e = refl
  at_place None w i true e = rw e refl
  at_place None w i false e = rw e refl

  abbrev have : (ℕ × ℕ → Option ℤ) → List InitByte → Option ℤ
  have f is = update_all (eq_by_cmp place_cmp) f (map placed is) (b, q)

  all_values : (is : List InitByte) (f : ℕ × ℕ → Option ℤ)
      → have f is ≡ or_else (value_in D p (map init_view is) b q) (f (b, q))
  all_values [] f = refl
  all_values (i ∷ is) f =
      let u = value_in D p (map init_view is) b q in
      all_values is (update (eq_by_cmp place_cmp) f (i.block, i.offset) (Some i.value))
      ∙ ap (λ (t : Bool). or_else u (cond t (Some i.value) (f (b, q)))) (same_place i.block i.offset b q)
      ∙ at_place u (f (b, q)) i (nat_eq i.block b && nat_eq i.offset q) refl
      ∙ ap (λ (z : Option ℤ). or_else z (f (b, q))) (sym (value_more (init_view i) (map init_view is) u refl))

  itself : (u : Option ℤ) → or_else u None ≡ u
  itself None = refl
  itself (Some v) = refl

  pub first_is : (is : List InitByte) (m : BTreeMap (ℕ × ℕ) ℤ) → HasFirst is m
      → get place_cmp m (b, q) ≡ value_in D p (map init_view is) b q
  first_is is m h =
      h.0 (b, q) ∙ all_values is (λ _. None) ∙ itself (value_in D p (map init_view is) b q)
