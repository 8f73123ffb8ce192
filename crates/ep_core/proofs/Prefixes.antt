-- Lists that begin others.
use Rattle.std.proofs.Common.{◌≡◌, ◌⊎◌, inl, inr, List, [], ◌∷◌, ◌++◌, refl, sym, ap, ◌∙◌, subst, append_assoc}
use Rattle.std.proofs.lemmas.List.{append-nil}
use Rattle.ep_core.specs.Runs.{Begins}

module _ {A : Type 0} where
  pub begins_refl : (a : List A) → Begins a a
  begins_refl a = record { rest = []; is = append-nil a }

  pub begins_trans : (a b c : List A) → Begins a b → Begins b c → Begins a c
  begins_trans a b c p q = record {
    rest = p.rest ++ q.rest;
    is = sym (append_assoc a p.rest q.rest) ∙ ap (λ x. x ++ q.rest) p.is ∙ q.is;
  }

  pub begins_more : (a b : List A) → Begins a (a ++ b)
  begins_more a b = record { rest = b; is = refl }

  begins_cons : (x : A) (a b : List A) → Begins a b → Begins (x ∷ a) (x ∷ b)
  begins_cons x a b p = record { rest = p.rest; is = ap (λ y. x ∷ y) p.is }

  either_cons : (x y : A) (a b : List A) → x ≡ y → Begins a b ⊎ Begins b a
      → Begins (x ∷ a) (y ∷ b) ⊎ Begins (y ∷ b) (x ∷ a)
  either_cons x y a b e (inl p) = inl (subst (λ z. Begins (x ∷ a) (z ∷ b)) e (begins_cons x a b p))
  either_cons x y a b e (inr p) = inr (subst (λ z. Begins (z ∷ b) (x ∷ a)) e (begins_cons x b a p))

  either_of : (a b r s : List A) → a ++ r ≡ b ++ s → Begins a b ⊎ Begins b a
  either_of [] b r s e = inl (record { rest = b; is = refl })
  either_of (x ∷ a) [] r s e = inr (record { rest = x ∷ a; is = refl })
  either_of (x ∷ a) (y ∷ b) r s e =
      let head : x ≡ y = cc in
      let tail : a ++ r ≡ b ++ s = cc in
      either_cons x y a b head (either_of a b r s tail)

  -- of two beginnings of a list one begins the other
  pub begins_either : (a b c : List A) → Begins a c → Begins b c → Begins a b ⊎ Begins b a
  begins_either a b c p q = either_of a b p.rest q.rest (p.is ∙ sym q.is)
