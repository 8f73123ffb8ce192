-- Trees that were read, or the line of what is too deep in them.
use Rattle.std.specs.Prelude.{◌≡◌, ℕ, Option, Some, None, List, [], ◌∷◌, ◌++◌, map}
use Rattle.std.specs.Global.{Vec}
use Rattle.ep_ast.specs.Depth.{first_of}
use Rattle.ep_reading.specs.declared.measured.Measured.{Measured}
use Rattle.ep_reading.specs.declared.measured.Measured.TheVariants as measured

-- the tree, in which nothing is too deep, or the line of the first that is
abbrev pub Shows : {T V : Type 0} → (T → V) → (V → Option ℕ) → Measured T → V → Type 0
Shows shape deep (measured.Fits t) v = (shape t ≡ v) × (deep v ≡ None)
Shows shape deep (measured.TooDeep l) v = deep v ≡ Some l

-- the same of a list
abbrev pub all_of : {T V : Type 0} → (T → V) → Vec T → List V
all_of shape ts = map shape ts.items

abbrev pub ShowsAll : {T V : Type 0} → (T → V) → (V → Option ℕ) → Measured (Vec T) → List V → Type 0
ShowsAll shape deep m vs = Shows (all_of shape) (first_of deep) m vs

-- both, or the line of what is first
abbrev pub joined : {T V : Type 0} → Measured T → Measured V → Measured (T × V)
joined (measured.Fits t) (measured.Fits v) = measured.Fits (t, v)
joined (measured.Fits t) (measured.TooDeep l) = measured.TooDeep l
joined (measured.TooDeep l) v = measured.TooDeep l

-- a list with one more, where nothing is too deep, or the line of the first that is
abbrev pub IsLonger : {T : Type 0} → Measured (Vec T) → Measured T → Measured (Vec T) → Type 0
IsLonger (measured.Fits v) (measured.Fits t) (measured.Fits w) = w.items ≡ v.items ++ t ∷ []
IsLonger (measured.Fits v) (measured.TooDeep l) r = r ≡ measured.TooDeep l
IsLonger (measured.TooDeep l) k r = r ≡ measured.TooDeep l
IsLonger (measured.Fits v) (measured.Fits t) (measured.TooDeep l) = ⊥
