-- A sum of one place and a single number, and strides of sums.
use Rattle.std.proofs.Common.{◌≡◌, ℕ, ◌+◌, ◌*◌, ◌%◌, ◌<◌, ◌≤◌, ℤ, pos, ◌-ℤ◌, ◌*ℤ◌, ◌<ℤ◌, Bool, true, false}
use Rattle.std.proofs.Common.{if◌then◌else◌, IsTrue, List, [], ◌∷◌, slice_get, refl, sym, ap, ◌∙◌, subst, Option}
use Rattle.std.proofs.Common.{Some, None, IsSomeAnd, IfSome, Ok, Err, MatchResult, ◌⊎◌, inl, inr, arith}
use Rattle.std.specs.Prelude.{int_le}
use Rattle.std.proofs.Math.Nat.{mod-eq_of_lt}
use Rattle.std.proofs.lemmas.Int.{ints}
use Rattle.ep_int.specs.declared.types.IntType.TheVariants.{I64}
use Rattle.ep_int.specs.declared.types.BinOp.TheVariants.{Add, Sub, Mul}
use Rattle.ep_int.specs.declared.types.Undef.{Undef}
use Rattle.ep_int.specs.declared.types.Undef.TheVariants.{Overflow}
use Rattle.ep_int.specs.Types.{InRange, residue}
use Rattle.ep_int.specs.Arith.{is_in_range}
use Rattle.ep_domain.specs.Domain.{Ops, IsSingle, Lawful, IsStride, KeepsStrides}
use Rattle.ep_range_laws.specs.Ranges.{LiesIn}
use Rattle.ep_pointers.specs.declared.sum.Move.{Move}
use Rattle.ep_pointers.specs.Value.{Target, Pointers, IsRising, offset_at, HaveStride}
use Rattle.ep_pointers.specs.Sum.{exact_at, cut_to, offsets_and, bytes_of, moved_offset, put, moved_targets}
use Rattle.ep_pointers.specs.Sum.{of_targets, moved, IsPlaceAt, MovesOne, KeepsStride}
use Rattle.ep_pointers.proofs.Moving.{in_range_from, offset_in_range, offset_of_some_type, moved_at, moved_none}

-- what arithmetic gives of an exact result: it is in range, and of A, or it is of B
settled : (v : ℤ) (A : ℤ → Type 0) (B : Type 0) (C : Type 0)
    → MatchResult (if is_in_range I64 v then Ok v else Err Overflow) A (λ (_ : Undef). B) → (InRange I64 v → A v → C)
    → (B → C) → C
settled v A B C h f g = by (is_in_range I64 v) refl h
  where
    by : (c : Bool) → is_in_range I64 v ≡ c → MatchResult (if c then Ok v else Err Overflow) A (λ (_ : Undef). B) → C
    by true e h = f (in_range_from v e) h
    by false e h = g h

if_some : {N : Type 0} (o : Option N) (P Q : N → Type 0) → ((n : N) → P n → Q n) → IsSomeAnd o P → IfSome o Q
if_some None P Q f h = absurd h
if_some (Some n) P Q f h = f n h

if_none : {N : Type 0} (o : Option N) (Q : N → Type 0) → o ≡ None → IfSome o Q
if_none None Q e = tt
if_none (Some n) Q e = absurd cc

-- a number lies between two ends, or it doesn't
between : (lo hi v : ℤ) → LiesIn (lo, hi) v ⊎ ((v <ℤ lo) ⊎ (hi <ℤ v))
between lo hi v = by (int_le lo v) (int_le v hi) refl refl
  where
    by : (a b : Bool) → int_le lo v ≡ a → int_le v hi ≡ b → LiesIn (lo, hi) v ⊎ ((v <ℤ lo) ⊎ (hi <ℤ v))
    by true true e f = inl (record { low = grind (arith, ints); high = grind (arith, ints) })
    by false b e f = inr (inl (grind (arith, ints)))
    by true false e f = inr (inr (grind (arith, ints)))

module _ {N : Type 0} (d : Ops N) (law : Lawful d) where
  -- ---- single numbers

  record One (v : ℤ) (c : N) : Type 0 where
    single : IsSingle d c v
    range : InRange I64 v

  bytes_one : (delta : N) (u : ℕ) (y : ℤ) → u < 4294967296 → IsSingle d delta y → InRange I64 y
      → IfSome (bytes_of d delta u) (One (y *ℤ pos u))
  bytes_one delta u y h s i =
      settled (y *ℤ pos u) (λ v. IsSomeAnd (bytes_of d delta u) (λ c. IsSingle d c v)) (bytes_of d delta u ≡ None)
      (IfSome (bytes_of d delta u) (One (y *ℤ pos u)))
      (law.op_single Mul I64 delta (d.single (pos u)) y (pos u) (record { left = i; right = offset_in_range u h }) s
      (law.single_range (pos u) (offset_of_some_type u h)))
      (λ r k. if_some (bytes_of d delta u) (λ c. IsSingle d c (y *ℤ pos u)) (One (y *ℤ pos u))
      (λ c g. record { single = g; range = r }) k)
      (λ e. if_none (bytes_of d delta u) (One (y *ℤ pos u)) e)

  sum_one : (sub : Bool) (n bytes : N) (x y : ℤ) (u : ℕ) → IsSingle d n x → One (y *ℤ pos u) bytes → InRange I64 x
      → IfSome (offsets_and d sub n (Some bytes)) (One (exact_at sub u x y))
  sum_one false n bytes x y u s o i =
      settled (exact_at false u x y) (λ v. IsSomeAnd (offsets_and d false n (Some bytes)) (λ c. IsSingle d c v))
      (offsets_and d false n (Some bytes) ≡ None) (IfSome (offsets_and d false n (Some bytes))
      (One (exact_at false u x y)))
      (law.op_single Add I64 n bytes x (y *ℤ pos u) (record { left = i; right = o.range }) s o.single)
      (λ r k. if_some (offsets_and d false n (Some bytes)) (λ c. IsSingle d c (exact_at false u x y))
      (One (exact_at false u x y)) (λ c g. record { single = g; range = r }) k)
      (λ e. if_none (offsets_and d false n (Some bytes)) (One (exact_at false u x y)) e)
  sum_one true n bytes x y u s o i =
      settled (exact_at true u x y) (λ v. IsSomeAnd (offsets_and d true n (Some bytes)) (λ c. IsSingle d c v))
      (offsets_and d true n (Some bytes) ≡ None) (IfSome (offsets_and d true n (Some bytes))
      (One (exact_at true u x y)))
      (law.op_single Sub I64 n bytes x (y *ℤ pos u) (record { left = i; right = o.range }) s o.single)
      (λ r k. if_some (offsets_and d true n (Some bytes)) (λ c. IsSingle d c (exact_at true u x y))
      (One (exact_at true u x y)) (λ c g. record { single = g; range = r }) k)
      (λ e. if_none (offsets_and d true n (Some bytes)) (One (exact_at true u x y)) e)

  -- a single offset inside a block of the size
  record Inside (size : Option ℕ) (v : ℤ) (c : N) : Type 0 where
    single : IsSingle d c v
    number : ℕ
    is : size ≡ Some number
    inside : LiesIn (pos 0, pos number) v

  cut_one : (size : ℕ) (v : ℤ) (o : Option N) → IfSome o (One v)
      → IfSome (cut_to d (Some size) o) (Inside (Some size) v)
  cut_one size v None h = tt
  cut_one size v (Some c) h = elim (between (pos 0) (pos size) v) [
    | inl l ↦ if_some (d.cut c (pos 0) (pos size)) (λ k. IsSingle d k v) (Inside (Some size) v)
        (λ k g. record { single = g; number = size; is = refl; inside = l })
        (law.cut_single c (pos 0) (pos size) v h.single l)
    | inr a ↦ if_none (d.cut c (pos 0) (pos size)) (Inside (Some size) v)
        (law.cut_single_away c (pos 0) (pos size) v h.single a)
  ]

  offset_one : (m : Move N) (size : Option ℕ) (n : N) (v y : ℤ) → m.unit < 4294967296 → IsSingle d n v
      → IsSingle d m.delta y → InRange I64 v → InRange I64 y
      → IfSome (moved_offset d m size n) (Inside size (exact_at m.subtract m.unit v y))
  offset_one m None n v y h s t i j = tt
  offset_one m (Some size) n v y h s t i j = cut_one size (exact_at m.subtract m.unit v y)
      (offsets_and d m.subtract n (bytes_of d m.delta m.unit)) (by (bytes_of d m.delta m.unit)
      (bytes_one m.delta m.unit y h t j))
    where
      by : (o : Option N) → IfSome o (One (y *ℤ pos m.unit))
          → IfSome (offsets_and d m.subtract n o) (One (exact_at m.subtract m.unit v y))
      by None k = tt
      by (Some bytes) k = sum_one m.subtract n bytes v y m.unit s k i

  place_one : (sizes : List ℕ) (b : ℕ) (v : ℤ) (o : Option N) → IfSome o (Inside (slice_get sizes b) v)
      → IfSome (of_targets (put b o [])) (IsPlaceAt d sizes b v)
  place_one sizes b v None h = tt
  place_one sizes b v (Some k) h = record {
    n = k;
    place = refl;
    single = h.single;
    size = h.number;
    of_block = h.is;
    inside = h.inside;
  }

  pub moves_one : (m : Move N) (sizes : List ℕ) (p : Pointers N) → m.unit < 4294967296
      → MovesOne d m sizes p (moved d m sizes p)
  moves_one m sizes p h = record {
    of_null = λ e. subst (λ q. moved d m sizes q ≡ None) (sym e) refl;
    of_place = λ b n v y e s t i j. subst (λ q. IfSome (moved d m sizes q)
        (IsPlaceAt d sizes b (exact_at m.subtract m.unit v y))) (sym e)
        (place_one sizes b (exact_at m.subtract m.unit v y) (moved_offset d m (slice_get sizes b) n)
        (offset_one m (slice_get sizes b) n v y h s t i j));
  }

  -- ---- strides

  Has : ℕ → ℕ → N → Type 0
  Has q s c = IsTrue (d.has_stride c q s)

  module _ (keeps : KeepsStrides d) where
    zero_stride : (q s : ℕ) → IsStride q s → IsStride 0 s
    zero_stride q s i = let b = i.below in record { below = omega arith; small = i.small }

    bytes_stride : (delta : N) (u q s k : ℕ) → u < 4294967296 → u ≡ s * k → IsStride q s
        → IfSome (bytes_of d delta u) (λ c. IsTrue (d.has_stride c 0 s))
    bytes_stride delta u q s k h e i = keeps.mul delta (d.single (pos u)) s k (zero_stride q s i)
        (subst (λ n. IsSingle d (d.single (pos u)) (pos n)) e (law.single_range (pos u) (offset_of_some_type u h)))

    same_sum : (q s : ℕ) → q < s → (q + 0) % s ≡ q
    same_sum q s h = ap (λ x. x % s) (plus q) ∙ mod-eq_of_lt h
      where
        plus : (q : ℕ) → q + 0 ≡ q
        plus q = omega arith

    same_difference : (q s : ℕ) → q < s → residue s (pos q -ℤ pos 0) ≡ q
    same_difference q s h = ap (residue s) (minus q) ∙ mod-eq_of_lt h
      where
        plus : (q : ℕ) → q + 0 ≡ q
        plus q = omega arith

        minus : (q : ℕ) → (pos q -ℤ pos 0) ≡ pos q
        minus q = ap pos (plus q)

    sum_stride : (sub : Bool) (n bytes : N) (q s : ℕ) → IsStride q s → IsTrue (d.has_stride n q s)
        → IsTrue (d.has_stride bytes 0 s) → IfSome (offsets_and d sub n (Some bytes))
        (λ c. IsTrue (d.has_stride c q s))
    sum_stride false n bytes q s i h k = subst (λ r. IfSome (offsets_and d false n (Some bytes))
        (λ c. IsTrue (d.has_stride c r s))) (same_sum q s i.below) (keeps.add n bytes q 0 s i (zero_stride q s i) h k)
    sum_stride true n bytes q s i h k = subst (λ r. IfSome (offsets_and d true n (Some bytes))
        (λ c. IsTrue (d.has_stride c r s))) (same_difference q s i.below)
        (keeps.sub n bytes q 0 s i (zero_stride q s i) h k)

    offset_stride : (m : Move N) (size : Option ℕ) (n : N) (q s k : ℕ) → m.unit < 4294967296 → m.unit ≡ s * k
        → IsStride q s → IsTrue (d.has_stride n q s)
        → IfSome (moved_offset d m size n) (λ c. IsTrue (d.has_stride c q s))
    offset_stride m None n q s k h e i g = tt
    offset_stride m (Some size) n q s k h e i g = cutted (offsets_and d m.subtract n (bytes_of d m.delta m.unit))
        (by (bytes_of d m.delta m.unit) (bytes_stride m.delta m.unit q s k h e i))
      where
        by : (o : Option N) → IfSome o (λ c. IsTrue (d.has_stride c 0 s))
            → IfSome (offsets_and d m.subtract n o) (λ c. IsTrue (d.has_stride c q s))
        by None j = tt
        by (Some bytes) j = sum_stride m.subtract n bytes q s i g j

        cutted : (o : Option N) → IfSome o (λ c. IsTrue (d.has_stride c q s))
            → IfSome (cut_to d (Some size) o) (λ c. IsTrue (d.has_stride c q s))
        cutted None j = tt
        cutted (Some c) j = keeps.cut c (pos 0) (pos size) q s i j

    targets_stride : (m : Move N) (sizes : List ℕ) (ts : List (Target N)) (q s k : ℕ) → m.unit < 4294967296
        → m.unit ≡ s * k → IsStride q s → IsRising ts
        → ((b : ℕ) (n : N) → offset_at ts b ≡ Some n → IsTrue (d.has_stride n q s))
        → (b : ℕ) (n : N) → offset_at (moved_targets d m sizes ts) b ≡ Some n → IsTrue (d.has_stride n q s)
    targets_stride m sizes ts q s k h e i r f b n g = by (offset_at ts b) refl
      where
        is_some_at : (o : Option N) → IfSome o (λ c. IsTrue (d.has_stride c q s)) → o ≡ Some n
            → IsTrue (d.has_stride n q s)
        is_some_at None j w = absurd cc
        is_some_at (Some c) j w = let same : c ≡ n = cc in subst (λ x. IsTrue (d.has_stride x q s)) same j

        by : (o : Option N) → offset_at ts b ≡ o → IsTrue (d.has_stride n q s)
        by None w = let none = moved_none d m sizes ts b r w in absurd cc
        by (Some c) w = is_some_at (moved_offset d m (slice_get sizes b) c)
            (offset_stride m (slice_get sizes b) c q s k h e i (f b c w)) (sym (moved_at d m sizes ts b c r w)
            ∙ g)

    of_list : (ts : List (Target N)) (q s : ℕ) → ((b : ℕ) (n : N) → offset_at ts b ≡ Some n → IsTrue
        (d.has_stride n q s)) → IfSome (of_targets ts) (λ v. HaveStride d v q s)
    of_list [] q s f = tt
    of_list (t ∷ ts) q s f = f

  pub keeps_stride : (m : Move N) (sizes : List ℕ) (p : Pointers N) → m.unit < 4294967296 → IsRising p.targets
      → KeepsStride d m p (moved d m sizes p)
  keeps_stride m sizes p h r q s k keep i e f = of_list (law.strides keep) (moved_targets d m sizes p.targets) q
      s (targets_stride (law.strides keep) m sizes p.targets q s k h e i r f)
