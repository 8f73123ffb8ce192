-- Where two ranges of numbers that arithmetic takes hold a pair of which it is undefined.
use Rattle.std.proofs.Common.{◌≡◌, ℤ, ◌*ℤ◌, ◌≤ℤ◌, true, ◌⊎◌, inl, inr, is_err, refl, ◌∙◌, arith}
use Rattle.std.specs.Int.{int_min, int_max}
use Rattle.std.proofs.lemmas.Int.{ints}
use Rattle.ep_int.specs.declared.types.IntType.{IntType}
use Rattle.ep_int.specs.declared.types.BinOp.{BinOp}
use Rattle.ep_int.specs.declared.types.BinOp.TheVariants.{Add, Sub, Mul, Div, Rem, And, Or, Xor, Shl, Shr}
use Rattle.ep_int.specs.Arith.{arith_of}
use Rattle.ep_range_laws.specs.Ranges.{LiesIn}
use Rattle.ep_range_laws.specs.Faults.{shown_of, shown_range}
use Rattle.ep_range_laws.proofs.Comparisons.{min_is, max_is, le_self}
use Rattle.ep_range_laws.proofs.Corners.{product_high, product_low}

-- a pair of two ranges of which arithmetic is undefined
pub record FaultAt (o : BinOp) (t : IntType) (r s : ℤ × ℤ) : Type 0 where
  pub x : ℤ
  pub y : ℤ
  pub left : LiesIn r x
  pub right : LiesIn s y
  pub undefined : is_err (arith_of o t x y) ≡ true

-- a pair of two ranges that shows a number
pub record ShownAt (o : BinOp) (r s : ℤ × ℤ) (v : ℤ) : Type 0 where
  pub x : ℤ
  pub y : ℤ
  pub left : LiesIn r x
  pub right : LiesIn s y
  pub shown : v ≡ shown_of o x y

pub low_lies : (r : ℤ × ℤ) → r.0 ≤ℤ r.1 → LiesIn r r.0
low_lies r h = record { low = le_self r.0; high = h }

pub high_lies : (r : ℤ × ℤ) → r.0 ≤ℤ r.1 → LiesIn r r.1
high_lies r h = record { low = h; high = le_self r.1 }

-- ---- the ends of what is shown are shown

corner : (r s : ℤ × ℤ) (v : ℤ) → r.0 ≤ℤ r.1 → s.0 ≤ℤ s.1 → (v ≡ r.0 *ℤ s.0) ⊎ ((v ≡ r.0 *ℤ s.1) ⊎ ((v ≡ r.1 *ℤ s.0) ⊎ (v ≡ r.1 *ℤ s.1))) → ShownAt Mul r s v
corner r s v h k (inl e) = record { x = r.0; y = s.0; left = low_lies r h; right = low_lies s k; shown = e }
corner r s v h k (inr (inl e)) = record { x = r.0; y = s.1; left = low_lies r h; right = high_lies s k; shown = e }
corner r s v h k (inr (inr (inl e))) = record { x = r.1; y = s.0; left = high_lies r h; right = low_lies s k; shown = e }
corner r s v h k (inr (inr (inr e))) = record { x = r.1; y = s.1; left = high_lies r h; right = high_lies s k; shown = e }

one_of_four : (a b c d m n v : ℤ) → (v ≡ m) ⊎ (v ≡ n) → (m ≡ a) ⊎ (m ≡ b) → (n ≡ c) ⊎ (n ≡ d) → (v ≡ a) ⊎ ((v ≡ b) ⊎ ((v ≡ c) ⊎ (v ≡ d)))
one_of_four a b c d m n v (inl e) (inl f) g = inl (e ∙ f)
one_of_four a b c d m n v (inl e) (inr f) g = inr (inl (e ∙ f))
one_of_four a b c d m n v (inr e) f (inl g) = inr (inr (inl (e ∙ g)))
one_of_four a b c d m n v (inr e) f (inr g) = inr (inr (inr (e ∙ g)))

pub low_shown : (o : BinOp) (r s : ℤ × ℤ) → r.0 ≤ℤ r.1 → s.0 ≤ℤ s.1 → ShownAt o r s (shown_range o r s).0
low_shown Add r s h k = record { x = r.0; y = s.0; left = low_lies r h; right = low_lies s k; shown = refl }
low_shown Sub r s h k = record { x = r.0; y = s.1; left = low_lies r h; right = high_lies s k; shown = refl }
low_shown Mul r s h k =
    corner r s _ h k (one_of_four (r.0 *ℤ s.0) (r.0 *ℤ s.1) (r.1 *ℤ s.0) (r.1 *ℤ s.1) (int_min (r.0 *ℤ s.0) (r.0 *ℤ s.1)) (int_min (r.1 *ℤ s.0) (r.1 *ℤ s.1)) _ (min_is _ _) (min_is _ _) (min_is _ _))
low_shown Div r s h k = record { x = r.0; y = s.0; left = low_lies r h; right = low_lies s k; shown = refl }
low_shown Rem r s h k = record { x = r.0; y = s.0; left = low_lies r h; right = low_lies s k; shown = refl }
low_shown And r s h k = record { x = r.0; y = s.0; left = low_lies r h; right = low_lies s k; shown = refl }
low_shown Or r s h k = record { x = r.0; y = s.0; left = low_lies r h; right = low_lies s k; shown = refl }
low_shown Xor r s h k = record { x = r.0; y = s.0; left = low_lies r h; right = low_lies s k; shown = refl }
low_shown Shl r s h k = record { x = r.0; y = s.0; left = low_lies r h; right = low_lies s k; shown = refl }
low_shown Shr r s h k = record { x = r.0; y = s.0; left = low_lies r h; right = low_lies s k; shown = refl }

pub high_shown : (o : BinOp) (r s : ℤ × ℤ) → r.0 ≤ℤ r.1 → s.0 ≤ℤ s.1 → ShownAt o r s (shown_range o r s).1
high_shown Add r s h k = record { x = r.1; y = s.1; left = high_lies r h; right = high_lies s k; shown = refl }
high_shown Sub r s h k = record { x = r.1; y = s.0; left = high_lies r h; right = low_lies s k; shown = refl }
high_shown Mul r s h k =
    corner r s _ h k (one_of_four (r.0 *ℤ s.0) (r.0 *ℤ s.1) (r.1 *ℤ s.0) (r.1 *ℤ s.1) (int_max (r.0 *ℤ s.0) (r.0 *ℤ s.1)) (int_max (r.1 *ℤ s.0) (r.1 *ℤ s.1)) _ (max_is _ _) (max_is _ _) (max_is _ _))
high_shown Div r s h k = record { x = r.0; y = s.1; left = low_lies r h; right = high_lies s k; shown = refl }
high_shown Rem r s h k = record { x = r.0; y = s.1; left = low_lies r h; right = high_lies s k; shown = refl }
high_shown And r s h k = record { x = r.0; y = s.1; left = low_lies r h; right = high_lies s k; shown = refl }
high_shown Or r s h k = record { x = r.0; y = s.1; left = low_lies r h; right = high_lies s k; shown = refl }
high_shown Xor r s h k = record { x = r.0; y = s.1; left = low_lies r h; right = high_lies s k; shown = refl }
high_shown Shl r s h k = record { x = r.0; y = s.1; left = low_lies r h; right = high_lies s k; shown = refl }
high_shown Shr r s h k = record { x = r.0; y = s.1; left = low_lies r h; right = high_lies s k; shown = refl }

-- what any pair shows is between them
pub each_shown : (o : BinOp) (r s : ℤ × ℤ) (x y : ℤ) → LiesIn r x → LiesIn s y → LiesIn (shown_range o r s) (shown_of o x y)
each_shown Add r s x y h k = let a = h.low in let b = h.high in let c = k.low in let d = k.high in record { low = omega (arith, ints); high = omega (arith, ints) }
each_shown Sub r s x y h k = let a = h.low in let b = h.high in let c = k.low in let d = k.high in record { low = omega (arith, ints); high = omega (arith, ints) }
each_shown Mul r s x y h k = record { low = product_low r.0 x r.1 s.0 y s.1 h.low h.high k.low k.high; high = product_high r.0 x r.1 s.0 y s.1 h.low h.high k.low k.high }
each_shown Div r s x y h k = k
each_shown Rem r s x y h k = k
each_shown And r s x y h k = k
each_shown Or r s x y h k = k
each_shown Xor r s x y h k = k
each_shown Shl r s x y h k = k
each_shown Shr r s x y h k = k
