-- So many things, read in turn.
use Rattle.std.proofs.Common.{◌≡◌, ℕ, zero, suc, ◌+◌, ◌-◌, ◌<◌, ◌≤◌, List, [], ◌∷◌, ◌++◌, arith, refl, ap, sym, ◌∙◌, subst}
use Rattle.std.proofs.Common.{append_assoc, append-nil}
use Rattle.std.specs.Prelude.{Option, Some, None}
use Rattle.ep_cert_cells.specs.declared.unread.Unread.{Unread}
use Rattle.ep_cert_cells.specs.declared.unread.Unread.TheVariants as unread
use Rattle.ep_cert_cells.specs.Reading.{then_at, list_at, both_at, Fails}

-- those that are read, and more
abbrev pub with_all : {X : Type 0} → List X → List X → List ℕ → Option (List X × List ℕ)
with_all done more ys = Some (done ++ more, ys)

-- where some are read, all are these and so many more
pub record Left {X : Type 0} (r : List ℕ → Option (X × List ℕ)) (all : Option (List X × List ℕ)) (done : List X) (n : ℕ)
    (xs : List ℕ) : Type 0 where
  pub left : all ≡ then_at (list_at r n xs) (with_all done)

whole : {X : Type 0} (o : Option (List X × List ℕ)) → o ≡ then_at o (with_all [])
whole None = refl
whole (Some p) = refl

pub none_yet : {X : Type 0} (r : List ℕ → Option (X × List ℕ)) (n : ℕ) (xs : List ℕ)
    → Left r (list_at r n xs) [] (n - 0) xs
none_yet {X = X} r n xs =
    let e : n - 0 ≡ n = omega arith in
    subst (λ (m : ℕ). Left r (list_at r n xs) [] m xs) (sym e) (record { left = whole (list_at r n xs) })

regroup : {X : Type 0} (done : List X) (x : X) (o : Option (List X × List ℕ))
    → then_at (then_at o (λ more zs. Some (x ∷ more, zs))) (with_all done) ≡ then_at o (with_all (done ++ x ∷ []))
regroup done x None = refl
regroup {X = X} done x (Some p) =
    ap (λ (z : List X). Some (z, p.1)) (sym (append_assoc done (x ∷ []) p.0))

step : {X : Type 0} (r : List ℕ → Option (X × List ℕ)) (k : ℕ) (done : List X) (xs ys : List ℕ) (x : X)
    → Some (x, ys) ≡ r xs → then_at (list_at r (suc k) xs) (with_all done)
    ≡ then_at (list_at r k ys) (with_all (done ++ x ∷ []))
unfolding list_at
step {X = X} r k done xs ys x e =
    ap (λ (o : Option (X × List ℕ)). then_at (then_at o (λ x us. then_at (list_at r k us)
    (λ more zs. Some (x ∷ more, zs)))) (with_all done)) (sym e)
    ∙ regroup done x (list_at r k ys)

pub one_more : {X : Type 0} (r : List ℕ → Option (X × List ℕ)) (all : Option (List X × List ℕ)) (done new : List X)
    (n i : ℕ) (xs ys : List ℕ) (x : X) → i < n → Some (x, ys) ≡ r xs → new ≡ done ++ x ∷ []
    → Left r all done (n - i) xs → Left r all new (n - (i + 1)) ys
one_more {X = X} r all done new n i xs ys x l e p h =
    let m : n - i ≡ suc (n - (i + 1)) = omega arith in
    subst (λ (d : List X). Left r all d (n - (i + 1)) ys) (sym p)
    (record {
      left = h.left ∙ ap (λ (k : ℕ). then_at (list_at r k xs) (with_all done)) m ∙ step r (n - (i + 1)) done xs ys x e;
    })

stop : {X : Type 0} (r : List ℕ → Option (X × List ℕ)) (k : ℕ) (done : List X) (xs : List ℕ) → r xs ≡ None
    → then_at (list_at r (suc k) xs) (with_all done) ≡ None
unfolding list_at
stop {X = X} r k done xs e =
    ap (λ (o : Option (X × List ℕ)). then_at (then_at o (λ x us. then_at (list_at r k us)
    (λ more zs. Some (x ∷ more, zs)))) (with_all done)) e

pub none_more : {X : Type 0} (r : List ℕ → Option (X × List ℕ)) (all : Option (List X × List ℕ)) (done : List X)
    (n i : ℕ) (xs : List ℕ) → i < n → Left r all done (n - i) xs → r xs ≡ None → all ≡ None
none_more r all done n i xs l h e =
    let m : n - i ≡ suc (n - (i + 1)) = omega arith in
    h.left ∙ ap (λ (k : ℕ). then_at (list_at r k xs) (with_all done)) m ∙ stop r (n - (i + 1)) done xs e

last : {X : Type 0} (r : List ℕ → Option (X × List ℕ)) (done : List X) (xs : List ℕ)
    → then_at (list_at r zero xs) (with_all done) ≡ Some (done, xs)
unfolding list_at
last {X = X} r done xs = ap (λ (z : List X). Some (z, xs)) (append-nil done)

pub all_read : {X : Type 0} (r : List ℕ → Option (X × List ℕ)) (all : Option (List X × List ℕ)) (done : List X)
    (n i : ℕ) (xs : List ℕ) → n ≤ i → Left r all done (n - i) xs → all ≡ Some (done, xs)
all_read r all done n i xs l h =
    let m : n - i ≡ 0 = omega arith in
    h.left ∙ ap (λ (k : ℕ). then_at (list_at r k xs) (with_all done)) m ∙ last r done xs

-- ---- answers

pub passes : {X Y : Type 0} (e : Unread) (o : Option X) (q : Option Y) → (o ≡ None → q ≡ None) → Fails e o → Fails e q
passes unread.Memory o q k h = tt
passes unread.Misspelled o q k h = k h

-- ---- one behind the other

pub both_goes : {X Y : Type 0} (r : List ℕ → Option (X × List ℕ)) (s : List ℕ → Option (Y × List ℕ))
    (xs ys zs : List ℕ) (x : X) (y : Y) → Some (x, ys) ≡ r xs → Some (y, zs) ≡ s ys
    → both_at r s xs ≡ Some ((x, y), zs)
both_goes {X = X} {Y = Y} r s xs ys zs x y e k =
    ap (λ (o : Option (X × List ℕ)). then_at o (λ x ys. then_at (s ys) (λ y zs. Some ((x, y), zs)))) (sym e)
    ∙ ap (λ (o : Option (Y × List ℕ)). then_at o (λ y zs. Some ((x, y), zs))) (sym k)

pub after_first : {X Y : Type 0} (r : List ℕ → Option (X × List ℕ)) (f : X → List ℕ → Option (Y × List ℕ))
    (xs ys : List ℕ) (x : X) → Some (x, ys) ≡ r xs → then_at (r xs) f ≡ f x ys
after_first {X = X} r f xs ys x e = ap (λ (o : Option (X × List ℕ)). then_at o f) (sym e)

pub no_first : {X Y : Type 0} (r : List ℕ → Option (X × List ℕ)) (f : X → List ℕ → Option (Y × List ℕ)) (xs : List ℕ)
    → r xs ≡ None → then_at (r xs) f ≡ None
no_first {X = X} r f xs e = ap (λ (o : Option (X × List ℕ)). then_at o f) e
