-- Cells that stand where others stood: put into what is left of a list in order, they stand in their places.
use Rattle.std.proofs.Common.{◌≡◌, ℕ, Bool, true, false, cond, List, [], ◌∷◌, ◌++◌, map, refl, ap, ◌∙◌}
use Rattle.std.proofs.Common.{◌&&◌, ◌||◌, nat_eq, nat_lt, arith}
use Rattle.std.proofs.lemmas.Bool.Decides.{nat_tests}
use Rattle.ep_int.specs.declared.types.Model.{Model}
use Rattle.ep_domain.specs.Domain.{Ops}
use Rattle.ep_cells.specs.declared.cell.Cell.{Cell}
use Rattle.ep_cells.specs.Cells.{key_of, comes_before, put, put_all, each_becomes}
use Rattle.ep_cells.specs.Weaken.{with_join}
use Rattle.ep_cells.specs.States.{Each, EachPair, AreApart}

never_back : (b k c j : ℕ) → (nat_lt b c || (nat_eq b c && nat_lt k j)) ≡ true
    → (nat_lt c b || (nat_eq c b && nat_lt j k)) ≡ false
never_back b k c j h = grind (arith, nat_tests)

module _ {N : Type 0} where
  abbrev Before : Cell N → List (Cell N) → Type 0
  Before x [] = Unit {0}
  Before x (c ∷ cs) = (comes_before c x ≡ false) × Before x cs

  skip_by : (c x : Cell N) (zs : List (Cell N)) → comes_before c x ≡ false → put c (x ∷ zs) ≡ x ∷ put c zs
  skip_by c x zs e = ap (λ t. cond t (c ∷ x ∷ zs) (x ∷ put c zs)) e

  skip : (new : List (Cell N)) (x : Cell N) (zs : List (Cell N)) → Before x new
      → put_all new (x ∷ zs) ≡ x ∷ put_all new zs
  skip [] x zs h = refl
  skip (c ∷ new) x zs h = ap (put c) (skip new x zs h.1) ∙ skip_by c x (put_all new zs) h.0

module _ {N : Type 0} (D : Ops N) (d : Model) (of : Cell N → Cell N) (t : Cell N → Bool) where
  -- those that are joined, each with one that stands there, and the others
  abbrev pub taken : Cell N → List (Cell N)
  taken x = cond (t x) (with_join D (of x) x ∷ []) []

  abbrev pub left : Cell N → List (Cell N)
  left x = cond (t x) [] (x ∷ [])

  abbrev pub chosen : Cell N → Cell N
  chosen x = cond (t x) (with_join D (of x) x) x

  behind : (x : Cell N) (cs : List (Cell N)) → Each (AreApart d x) cs → Before x (each_becomes taken cs)
  behind x [] a = tt
  behind x (y ∷ cs) a =
      by (t y) (never_back x.block (key_of x) y.block (key_of y) a.0.ordered) (behind x cs a.1)
    where
      by : (b : Bool) → comes_before y x ≡ false → Before x (each_becomes taken cs)
          → Before x (cond b (with_join D (of y) y ∷ []) [] ++ each_becomes taken cs)
      by true e h = (e, h)
      by false e h = h

  front : (x : Cell N) (cs : List (Cell N)) → Each (AreApart d x) cs
      → put (with_join D (of x) x) (map chosen cs) ≡ with_join D (of x) x ∷ map chosen cs
  front x [] a = refl
  front x (y ∷ cs) a =
      ap (λ b. cond b (with_join D (of x) x ∷ chosen y ∷ map chosen cs)
      (chosen y ∷ put (with_join D (of x) x) (map chosen cs)))
      (by (t y) a.0.ordered)
    where
      by : (b : Bool) → comes_before x y ≡ true
          → comes_before (with_join D (of x) x) (cond b (with_join D (of y) y) y) ≡ true
      by true e = e
      by false e = e

  pub in_order : (cs : List (Cell N)) → EachPair (AreApart d) cs
      → put_all (each_becomes taken cs) (each_becomes left cs) ≡ map chosen cs
  in_order [] p = refl
  in_order (x ∷ cs) p = by (t x) (in_order cs p.1)
    where
      by : (b : Bool) → put_all (each_becomes taken cs) (each_becomes left cs) ≡ map chosen cs
          → put_all (cond b (with_join D (of x) x ∷ []) [] ++ each_becomes taken cs)
          (cond b [] (x ∷ []) ++ each_becomes left cs)
          ≡ cond b (with_join D (of x) x) x ∷ map chosen cs
      by true e = ap (put (with_join D (of x) x)) e ∙ front x cs p.0
      by false e = skip (each_becomes taken cs) x (each_becomes left cs) (behind x cs p.0) ∙ ap (λ l. x ∷ l) e
