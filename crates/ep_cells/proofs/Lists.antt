-- Lists of cells: what is in them, and pairs of them.
use Rattle.std.proofs.Common.{◌≡◌, Bool, true, false, cond, List, [], ◌∷◌, ◌++◌, map, ◌⊎◌, inl, inr, ⊎_elim, refl}
use Rattle.std.proofs.Common.{sym, subst}
use Rattle.ep_cells.specs.declared.cell.Cell.{Cell}
use Rattle.ep_cells.specs.Cells.{IsIn, first, later, comes_before, put, put_all, each_becomes}
use Rattle.ep_cells.specs.States.{Each, EachPair}

-- ---- what is in a list

pub in_append : {N : Type 0} (y : Cell N) (xs ys : List (Cell N)) → IsIn y (xs ++ ys) → IsIn y xs ⊎ IsIn y ys
in_append y [] ys h = inr h
in_append y (x ∷ xs) ys (first _) = inl (first xs)
in_append y (x ∷ xs) ys (later _ _ h) = ⊎_elim (λ k. inl (later x xs k)) (λ k. inr k) (in_append y xs ys h)

pub in_left : {N : Type 0} (y : Cell N) (xs ys : List (Cell N)) → IsIn y xs → IsIn y (xs ++ ys)
in_left y [] ys h = elim h [ ]
in_left y (x ∷ xs) ys (first _) = first (xs ++ ys)
in_left y (x ∷ xs) ys (later _ _ h) = later x (xs ++ ys) (in_left y xs ys h)

pub in_right : {N : Type 0} (y : Cell N) (xs ys : List (Cell N)) → IsIn y ys → IsIn y (xs ++ ys)
in_right y [] ys h = h
in_right y (x ∷ xs) ys h = later x (xs ++ ys) (in_right y xs ys h)

pub record From {N : Type 0} (f : Cell N → List (Cell N)) (cs : List (Cell N)) (y : Cell N) : Type 0 where
  pub origin : Cell N
  pub is_in : IsIn origin cs
  pub becomes : IsIn y (f origin)

pub in_each : {N : Type 0} (f : Cell N → List (Cell N)) (y : Cell N) (cs : List (Cell N))
    → IsIn y (each_becomes f cs) → From f cs y
in_each f y [] h = elim h [ ]
in_each f y (x ∷ cs) h =
    ⊎_elim
    (λ k. record { origin = x; is_in = first cs; becomes = k })
    (λ k. let r = in_each f y cs k in record { origin = r.origin; is_in = later x cs r.is_in; becomes = r.becomes })
    (in_append y (f x) (each_becomes f cs) h)

pub each_in : {N : Type 0} (f : Cell N → List (Cell N)) (x y : Cell N) (cs : List (Cell N)) → IsIn x cs
    → IsIn y (f x) → IsIn y (each_becomes f cs)
each_in f x y [] k h = elim k [ ]
each_in f x y (_ ∷ cs) (first _) h = in_left y (f x) (each_becomes f cs) h
each_in f x y (z ∷ cs) (later _ _ k) h = in_right y (f z) (each_becomes f cs) (each_in f x y cs k h)

pub record Image {N : Type 0} (f : Cell N → Cell N) (cs : List (Cell N)) (y : Cell N) : Type 0 where
  pub origin : Cell N
  pub is_in : IsIn origin cs
  pub is : y ≡ f origin

pub in_map : {N : Type 0} (f : Cell N → Cell N) (y : Cell N) (cs : List (Cell N)) → IsIn y (map f cs) → Image f cs y
in_map f y [] h = elim h [ ]
in_map f y (x ∷ cs) (first _) = record { origin = x; is_in = first cs; is = refl }
in_map f y (x ∷ cs) (later _ _ h) =
    let r = in_map f y cs h in record { origin = r.origin; is_in = later x cs r.is_in; is = r.is }

pub map_in : {N : Type 0} (f : Cell N → Cell N) (x : Cell N) (cs : List (Cell N)) → IsIn x cs → IsIn (f x) (map f cs)
map_in f x [] h = elim h [ ]
map_in f x (_ ∷ cs) (first _) = first (map f cs)
map_in f x (z ∷ cs) (later _ _ h) = later (f z) (map f cs) (map_in f x cs h)

-- the cell that is put, or one that was there
in_put_by : {N : Type 0} (c y x : Cell N) (cs rest : List (Cell N)) (b : Bool)
    → (IsIn y rest → (y ≡ c) ⊎ IsIn y cs) → IsIn y (cond b (c ∷ x ∷ cs) (x ∷ rest)) → (y ≡ c) ⊎ IsIn y (x ∷ cs)
in_put_by c y x cs rest true f (first _) = inl refl
in_put_by c y x cs rest true f (later _ _ h) = inr h
in_put_by c y x cs rest false f (first _) = inr (first cs)
in_put_by c y x cs rest false f (later _ _ h) = ⊎_elim (λ e. inl e) (λ k. inr (later x cs k)) (f h)

pub in_put : {N : Type 0} (c y : Cell N) (cs : List (Cell N)) → IsIn y (put c cs) → (y ≡ c) ⊎ IsIn y cs
in_put c y [] (first _) = inl refl
in_put c y [] (later _ _ h) = inr h
in_put c y (x ∷ cs) h = in_put_by c y x cs (put c cs) (comes_before c x) (λ k. in_put c y cs k) h

put_there_by : {N : Type 0} (c x : Cell N) (cs rest : List (Cell N)) (b : Bool) → IsIn c rest
    → IsIn c (cond b (c ∷ x ∷ cs) (x ∷ rest))
put_there_by c x cs rest true h = first (x ∷ cs)
put_there_by c x cs rest false h = later x rest h

pub put_there : {N : Type 0} (c : Cell N) (cs : List (Cell N)) → IsIn c (put c cs)
put_there c [] = first []
put_there c (x ∷ cs) = put_there_by c x cs (put c cs) (comes_before c x) (put_there c cs)

put_keeps_by : {N : Type 0} (c y x : Cell N) (cs rest : List (Cell N)) (b : Bool)
    → (IsIn y cs → IsIn y rest) → IsIn y (x ∷ cs) → IsIn y (cond b (c ∷ x ∷ cs) (x ∷ rest))
put_keeps_by c y x cs rest true f h = later c (x ∷ cs) h
put_keeps_by c y x cs rest false f (first _) = first rest
put_keeps_by c y x cs rest false f (later _ _ h) = later x rest (f h)

pub put_keeps : {N : Type 0} (c y : Cell N) (cs : List (Cell N)) → IsIn y cs → IsIn y (put c cs)
put_keeps c y [] h = elim h [ ]
put_keeps c y (x ∷ cs) h = put_keeps_by c y x cs (put c cs) (comes_before c x) (λ k. put_keeps c y cs k) h

pub in_put_all : {N : Type 0} (more : List (Cell N)) (y : Cell N) (cs : List (Cell N)) → IsIn y (put_all more cs)
    → IsIn y more ⊎ IsIn y cs
in_put_all [] y cs h = inr h
in_put_all (c ∷ more) y cs h =
    ⊎_elim
    (λ e. inl (subst (λ z. IsIn z (c ∷ more)) (sym e) (first more)))
    (λ k. ⊎_elim (λ j. inl (later c more j)) (λ j. inr j) (in_put_all more y cs k))
    (in_put c y (put_all more cs) h)

pub put_all_keeps : {N : Type 0} (more : List (Cell N)) (y : Cell N) (cs : List (Cell N)) → IsIn y cs
    → IsIn y (put_all more cs)
put_all_keeps [] y cs h = h
put_all_keeps (c ∷ more) y cs h = put_keeps c y (put_all more cs) (put_all_keeps more y cs h)

-- ---- what holds of each

pub each_at : {N : Type 0} (P : Cell N → Type 0) (x : Cell N) (cs : List (Cell N)) → Each P cs → IsIn x cs → P x
each_at P x [] h k = elim k [ ]
each_at P x (_ ∷ cs) h (first _) = h.0
each_at P x (z ∷ cs) h (later _ _ k) = each_at P x cs h.1 k

pub each_from : {N : Type 0} (P : Cell N → Type 0) (cs : List (Cell N)) → ((x : Cell N) → IsIn x cs → P x) → Each P cs
each_from P [] h = tt
each_from P (x ∷ cs) h = (h x (first cs), each_from P cs (λ y k. h y (later x cs k)))

pub pairs_append : {N : Type 0} (R : Cell N → Cell N → Type 0) (xs ys : List (Cell N)) → EachPair R xs → EachPair R ys
    → ((x y : Cell N) → IsIn x xs → IsIn y ys → R x y) → EachPair R (xs ++ ys)
pairs_append R [] ys p q h = q
pairs_append R (x ∷ xs) ys p q h = (
  each_from (R x) (xs ++ ys) (λ z k. ⊎_elim (λ j. each_at (R x) z xs p.0 j) (λ j. h x z (first xs) j) (in_append z xs
      ys k)),
  pairs_append R xs ys p.1 q (λ y z j k. h y z (later x xs j) k),
)

-- cells become cells that stand to one another as they do
pub pairs_each : {N : Type 0} (R : Cell N → Cell N → Type 0) (f : Cell N → List (Cell N)) (cs : List (Cell N))
    → EachPair R cs
    → ((x : Cell N) → IsIn x cs → EachPair R (f x))
    → ((x y a b : Cell N) → R x y → IsIn a (f x) → IsIn b (f y) → R a b)
    → EachPair R (each_becomes f cs)
pairs_each R f [] p own h = tt
pairs_each R f (x ∷ cs) p own h =
    pairs_append R (f x) (each_becomes f cs) (own x (first cs)) (pairs_each R f cs p.1 (λ y k. own y (later x cs k))
    h)
    (λ a b j k. let r = in_each f b cs k in h x r.origin a b (each_at (R x) r.origin cs p.0 r.is_in) j r.becomes)

pub pairs_map : {N : Type 0} (R : Cell N → Cell N → Type 0) (f : Cell N → Cell N) (cs : List (Cell N)) → EachPair R cs
    → ((x y : Cell N) → R x y → R (f x) (f y)) → EachPair R (map f cs)
pairs_map R f [] p h = tt
pairs_map R f (x ∷ cs) p h = (
  each_from (R (f x)) (map f cs)
      (λ y k. let r = in_map f y cs k in subst (R (f x)) (sym r.is) (h x r.origin (each_at (R x) r.origin cs p.0
      r.is_in))),
  pairs_map R f cs p.1 h,
)

-- A cell is put where it belongs: each other one stands to it as the order says, and one that comes after it has only
-- such behind it.
pairs_put_by : {N : Type 0} (R : Cell N → Cell N → Type 0) (c x : Cell N) (cs : List (Cell N)) (b : Bool)
    → EachPair R (x ∷ cs) → EachPair R (put c cs)
    → ((y : Cell N) → IsIn y (x ∷ cs) → b ≡ true → R c y) → (b ≡ false → R x c)
    → EachPair R (cond b (c ∷ x ∷ cs) (x ∷ put c cs))
pairs_put_by R c x cs true p q after before = (each_from (R c) (x ∷ cs) (λ y k. after y k refl), p)
pairs_put_by R c x cs false p q after before = (
  each_from (R x) (put c cs)
      (λ y k. ⊎_elim (λ e. subst (R x) (sym e) (before refl)) (λ j. each_at (R x) y cs p.0 j) (in_put c y cs k)),
  q,
)

behind : {N : Type 0} (R : Cell N → Cell N → Type 0) (c x y : Cell N) (cs : List (Cell N)) → Each (R x) cs
    → ((x y : Cell N) → R x y → comes_before c x ≡ true → comes_before c y ≡ true)
    → IsIn y (x ∷ cs) → comes_before c x ≡ true → comes_before c y ≡ true
behind R c x _ cs p rest (first _) e = e
behind R c x y cs p rest (later _ _ k) e = rest x y (each_at (R x) y cs p k) e

pub pairs_put : {N : Type 0} (R : Cell N → Cell N → Type 0) (c : Cell N) (cs : List (Cell N)) → EachPair R cs
    → ((y : Cell N) → IsIn y cs → comes_before c y ≡ true → R c y)
    → ((y : Cell N) → IsIn y cs → comes_before c y ≡ false → R y c)
    → ((x y : Cell N) → R x y → comes_before c x ≡ true → comes_before c y ≡ true)
    → EachPair R (put c cs)
pairs_put R c [] p after before rest = (tt, tt)
pairs_put R c (x ∷ cs) p after before rest =
    pairs_put_by R c x cs (comes_before c x) p
    (pairs_put R c cs p.1 (λ y k. after y (later x cs k)) (λ y k. before y (later x cs k)) rest)
    (λ y k e. after y k (behind R c x y cs p.0 rest k e)) (λ e. before x (first cs) e)
