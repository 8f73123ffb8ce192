-- Options and lists of them.
use Rattle.std.proofs.Common.{◌≡◌, ℕ, zero, suc, List, [], ◌∷◌, ◌++◌, length, slice_get, slice_set, Option}
use Rattle.std.proofs.Common.{Some, None, option_map, option_and_then, refl, ap, ◌⊎◌, inl, inr}
use Rattle.ep_layout.specs.Table.{at_each}

pub and_then_some : {X Y : Type 0} (f : X → Option Y) (o : Option X) (y : Y) → option_and_then f o ≡ Some y → (x : X) × (o ≡ Some x) × (f x ≡ Some y)
and_then_some f None y h = absurd cc
and_then_some f (Some x) y h = (x, refl, h)

pub and_then_is : {X Y : Type 0} (f : X → Option Y) (o : Option X) (x : X) (y : Y) → o ≡ Some x → f x ≡ Some y → option_and_then f o ≡ Some y
and_then_is f o x y e h = rw e h

pub map_is : {X Y : Type 0} (f : X → Y) (o : Option X) (x : X) → o ≡ Some x → option_map f o ≡ Some (f x)
map_is f o x e = ap (option_map f) e

pub map_some : {X Y : Type 0} (f : X → Y) (o : Option X) (y : Y) → option_map f o ≡ Some y → (x : X) × (o ≡ Some x) × (f x ≡ y)
map_some f None y h = absurd cc
map_some f (Some x) y h = let e : f x ≡ y = cc in (x, refl, e)

pub same_some : {X : Type 0} (x y : X) (o : Option X) → o ≡ Some x → o ≡ Some y → x ≡ y
same_some x y o p q = cc

pub some_or_none : {X : Type 0} (o : Option X) → ((x : X) × (o ≡ Some x)) ⊎ (o ≡ None)
some_or_none None = inr refl
some_or_none (Some x) = inl (x, refl)

each_some : {A : Type 0} (o : Option A) (rest : Option (List A)) (xs : List A) → option_and_then (λ x. option_map (λ ys. x ∷ ys) rest) o ≡ Some xs → (x : A) × (ys : List A) × (o ≡ Some x) × (rest ≡ Some ys) × (x ∷ ys ≡ xs)
each_some None rest xs h = absurd cc
each_some (Some x) None xs h = absurd cc
each_some (Some x) (Some ys) xs h = let e : x ∷ ys ≡ xs = cc in (x, ys, refl, refl, e)

pub at_each_some : {A : Type 0} (f : ℕ → Option A) (n : ℕ) (ns : List ℕ) (xs : List A) → at_each f (n ∷ ns) ≡ Some xs → (x : A) × (ys : List A) × (f n ≡ Some x) × (at_each f ns ≡ Some ys) × (x ∷ ys ≡ xs)
at_each_some f n ns xs h = each_some (f n) (at_each f ns) xs h

pub at_each_more : {A : Type 0} (f g : ℕ → Option A) → ((n : ℕ) (x : A) → f n ≡ Some x → g n ≡ Some x) → (ns : List ℕ) (xs : List A) → at_each f ns ≡ Some xs → at_each g ns ≡ Some xs
at_each_more f g k [] xs h = h
at_each_more f g k (n ∷ ns) xs h =
    let s = at_each_some f n ns xs h in
    rw (k n s.0 s.2, at_each_more f g k ns s.1 s.3) (ap Some s.4)

pub at_each_other : {A B : Type 0} (f : ℕ → Option A) (g : ℕ → Option B) → ((n : ℕ) (x : A) → f n ≡ Some x → (y : B) × (g n ≡ Some y)) → (ns : List ℕ) (xs : List A) → at_each f ns ≡ Some xs → (ys : List B) × (at_each g ns ≡ Some ys)
at_each_other f g k [] xs h = ([], refl)
at_each_other f g k (n ∷ ns) xs h =
    let s = at_each_some f n ns xs h in
    let here = k n s.0 s.2 in
    let there = at_each_other f g k ns s.1 s.3 in
    (here.0 ∷ there.0, rw (here.1, there.1) refl)

-- an element of a list that one is put behind
pub get_push : {X : Type 0} (xs : List X) (x y : X) (n : ℕ) → slice_get (xs ++ x ∷ []) n ≡ Some y → (slice_get xs n ≡ Some y) ⊎ ((n ≡ length xs) × (x ≡ y))
get_push [] x y zero h = let e : x ≡ y = cc in inr (refl, e)
get_push [] x y (suc n) h = absurd cc
get_push (z ∷ zs) x y zero h = inl h
get_push (z ∷ zs) x y (suc n) h = elim (get_push zs x y n h) [ inl p ↦ inl p | inr p ↦ let e : suc n ≡ length (z ∷ zs) = ap suc p.0 in inr (e, p.1) ]

pub get_front : {X : Type 0} (xs : List X) (x y : X) (n : ℕ) → slice_get xs n ≡ Some y → slice_get (xs ++ x ∷ []) n ≡ Some y
get_front [] x y n h = absurd cc
get_front (z ∷ zs) x y zero h = h
get_front (z ∷ zs) x y (suc n) h = get_front zs x y n h

pub get_last : {X : Type 0} (xs : List X) (x : X) → slice_get (xs ++ x ∷ []) (length xs) ≡ Some x
get_last [] x = refl
get_last (z ∷ zs) x = get_last zs x

-- an element of a list of which one is set
pub get_set : {X : Type 0} (xs : List X) (i n : ℕ) (x y : X) → slice_get (slice_set xs i x) n ≡ Some y → ((n ≡ i) × (x ≡ y)) ⊎ (slice_get xs n ≡ Some y)
get_set [] i n x y h = inr h
get_set (z ∷ zs) zero zero x y h = let e : x ≡ y = cc in inl (refl, e)
get_set (z ∷ zs) zero (suc n) x y h = inr h
get_set (z ∷ zs) (suc i) zero x y h = inr h
get_set (z ∷ zs) (suc i) (suc n) x y h = elim (get_set zs i n x y h) [ inl p ↦ inl (ap suc p.0, p.1) | inr p ↦ inr p ]

-- where one is set it is read, and every other element stays
pub get_set_same : {X : Type 0} (xs : List X) (i : ℕ) (x y : X) → slice_get xs i ≡ Some y → slice_get (slice_set xs i x) i ≡ Some x
get_set_same [] i x y h = absurd cc
get_set_same (z ∷ zs) zero x y h = refl
get_set_same (z ∷ zs) (suc i) x y h = get_set_same zs i x y h

pub get_set_other : {X : Type 0} (xs : List X) (i n : ℕ) (x y : X) → slice_get xs n ≡ Some y → (n ≡ i) ⊎ (slice_get (slice_set xs i x) n ≡ Some y)
get_set_other [] i n x y h = inr h
get_set_other (z ∷ zs) zero zero x y h = inl refl
get_set_other (z ∷ zs) zero (suc n) x y h = inr h
get_set_other (z ∷ zs) (suc i) zero x y h = inr h
get_set_other (z ∷ zs) (suc i) (suc n) x y h = elim (get_set_other zs i n x y h) [ inl e ↦ inl (ap suc e) | inr p ↦ inr p ]
