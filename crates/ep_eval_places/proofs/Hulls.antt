-- The least range of the offsets of targets.
use Rattle.std.proofs.Common.{◌≡◌, ℤ, List, [], ◌∷◌, refl, ap, ◌∙◌, sym, arith, fold}
use Rattle.std.specs.Int.{int_min, int_max}
use Rattle.std.proofs.lemmas.Int.{ints, int_min_is, int_max_is}
use Rattle.ep_domain.specs.Domain.{Ops}
use Rattle.ep_pointers.specs.Value.{Target}
use Rattle.ep_pointers.specs.Sum.{hull}
use Rattle.ep_evaluation.specs.Accesses.{offsets_range}

min_assoc : (x y z : ℤ) → int_min (int_min x y) z ≡ int_min x (int_min y z)
min_assoc x y z = grind (arith, ints, int_min_is x y, int_min_is y z, int_min_is (int_min x y) z, int_min_is x (int_min y z))

max_assoc : (x y z : ℤ) → int_max (int_max x y) z ≡ int_max x (int_max y z)
max_assoc x y z = grind (arith, ints, int_max_is x y, int_max_is y z, int_max_is (int_max x y) z, int_max_is x (int_max y z))

hull_assoc : (x y z : ℤ × ℤ) → hull (hull x y) z ≡ hull x (hull y z)
hull_assoc x y z =
    ap (λ v. (v, int_max (int_max x.1 y.1) z.1)) (min_assoc x.0 y.0 z.0)
    ∙ ap (λ v. (int_min x.0 (int_min y.0 z.0), v)) (max_assoc x.1 y.1 z.1)

module _ {N : Type 0} (D : Ops N) where
  -- a range together with those of targets, one after the other
  abbrev pub hull_with : ℤ × ℤ → List (Target N) → ℤ × ℤ
  hull_with r [] = r
  hull_with r (t ∷ ts) = hull_with (hull r (D.range t.1)) ts

  hull_out : (r s : ℤ × ℤ) (ts : List (Target N)) → hull_with (hull r s) ts ≡ hull r (hull_with s ts)
  hull_out r s [] = refl
  hull_out r s (t ∷ ts) = ap (λ v. hull_with v ts) (hull_assoc r s (D.range t.1)) ∙ hull_out r (hull s (D.range t.1)) ts

  pub hulls : (t : Target N) (ts : List (Target N)) → hull_with (D.range t.1) ts ≡ offsets_range D t ts
  hulls t [] = refl
  hulls t (u ∷ us) = hull_out (D.range t.1) (D.range u.1) us ∙ ap (hull (D.range t.1)) (hulls u us)
