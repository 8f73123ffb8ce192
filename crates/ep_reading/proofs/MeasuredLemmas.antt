-- Trees that are joined, and lists with one more.
use Rattle.std.proofs.Common.{◌≡◌, ℕ, List, [], ◌∷◌, ◌++◌, Option, Some, None, refl, ap, ◌∙◌}
use Rattle.std.specs.Global.{Vec}
use Rattle.std.proofs.lemmas.List.{map_push}
use Rattle.ep_ast.specs.Depth.{or_else, first_of}
use Rattle.ep_reading.specs.declared.measured.Measured.{Measured}
use Rattle.ep_reading.specs.declared.measured.Measured.TheVariants as measured
use Rattle.ep_reading.specs.Measured.{Shows, ShowsAll, joined, IsLonger}

pub or_else-none : (a : Option ℕ) → or_else a None ≡ a
or_else-none None = refl
or_else-none (Some l) = refl

pub or_else-assoc : (a b c : Option ℕ) → or_else a (or_else b c) ≡ or_else (or_else a b) c
or_else-assoc None b c = refl
or_else-assoc (Some l) b c = refl

pub first_of-last : {V : Type 0} (f : V → Option ℕ) (xs : List V) (x : V)
    → first_of f (xs ++ x ∷ []) ≡ or_else (first_of f xs) (f x)
first_of-last f [] x = or_else-none (f x)
first_of-last f (y ∷ ys) x = ap (or_else (f y)) (first_of-last f ys x) ∙ or_else-assoc (f y) (first_of f ys) (f x)

-- what a list with one more shows
pub longer_shows : {T V : Type 0} (shape : T → V) (deep : V → Option ℕ) (found : Measured (Vec T)) (one : Measured T)
    (r : Measured (Vec T)) (vs : List V) (v : V)
    → IsLonger found one r → ShowsAll shape deep found vs → Shows shape deep one v
    → ShowsAll shape deep r (vs ++ v ∷ [])
longer_shows shape deep (measured.Fits k) (measured.Fits t) (measured.Fits w) vs v e h j = (
  rw e (map_push shape k.items t ∙ rw (h.0, j.0) refl),
  first_of-last deep vs v ∙ rw (h.1, j.1) refl,
)
longer_shows shape deep (measured.Fits k) (measured.Fits t) (measured.TooDeep l) vs v e h j = absurd e
longer_shows shape deep (measured.Fits k) (measured.TooDeep l) r vs v e h j =
    rw e (first_of-last deep vs v ∙ rw (h.1, j) refl)
longer_shows shape deep (measured.TooDeep l) one r vs v e h j = rw e (first_of-last deep vs v ∙ rw h refl)

pub joined_shows : {T U V W : Type 0} (f : T → V) (d : V → Option ℕ) (g : U → W) (e : W → Option ℕ) (m : Measured T)
    (n : Measured U) (v : V) (w : W)
    → Shows f d m v → Shows g e n w
    → Shows {T = T × U} {V = V × W} (λ p. (f p.0, g p.1)) (λ p. or_else (d p.0) (e p.1)) (joined m n) (v, w)
joined_shows f d g e (measured.Fits t) (measured.Fits u) v w h k = (rw (h.0, k.0) refl, rw (h.1, k.1) refl)
joined_shows f d g e (measured.Fits t) (measured.TooDeep l) v w h k = rw (h.1, k) refl
joined_shows f d g e (measured.TooDeep l) n v w h k = rw h refl

-- what is known of a tree that fits, and of one that is too deep
pub fits_shows : {T V : Type 0} (f : T → V) (d : V → Option ℕ) (m : Measured T) (v : V) (t : T) → measured.Fits t ≡ m
    → Shows f d m v → (f t ≡ v) × (d v ≡ None)
fits_shows f d (measured.Fits u) v t e h = (let k : t ≡ u = cc in (ap f k ∙ h.0, h.1))
fits_shows f d (measured.TooDeep l) v t e h = absurd cc

pub deep_shows : {T V : Type 0} (f : T → V) (d : V → Option ℕ) (m : Measured T) (v : V) (l : ℕ) → measured.TooDeep l ≡ m
    → Shows f d m v → d v ≡ Some l
deep_shows f d (measured.Fits u) v l e h = absurd cc
deep_shows f d (measured.TooDeep k) v l e h = (let j : k ≡ l = cc in h ∙ ap (λ (n : ℕ). Some n) j)
