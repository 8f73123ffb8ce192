-- What a sum of a pointer and a number of units holds.
use Rattle.std.proofs.Common.{◌≡◌, ℕ, suc, ◌*◌, ◌<◌, ◌≤◌, ℤ, pos, negsuc, neg_ℤ, ◌+ℤ◌, ◌-ℤ◌, ◌*ℤ◌, ◌≤ℤ◌, Bool, true}
use Rattle.ep_int.proofs.Arithmetic.{le_fact, le_test}
use Rattle.ep_range_laws.proofs.Corners.{from_le_pos}
use Rattle.std.proofs.Common.{false, eqb, if◌then◌else◌, IsTrue, List, [], ◌∷◌, slice_get, get_or, refl, sym, ap, ◌∙◌}
use Rattle.std.proofs.Common.{subst, Option, Some, None, IsSomeAnd, Ok, Err, MatchResult, arith}
use Rattle.std.proofs.Math.Nat.{mul-le-mul_left}
use Rattle.std.proofs.lemmas.Int.{ints}
use Rattle.std.proofs.lemmas.Option.{get_or_from_slice_get}
use Rattle.ep_int.specs.declared.types.IntType.TheVariants.{I64}
use Rattle.ep_int.specs.declared.types.BinOp.TheVariants.{Add, Sub, Mul}
use Rattle.ep_int.specs.declared.types.Undef.{Undef}
use Rattle.ep_int.specs.declared.types.Undef.TheVariants.{Overflow}
use Rattle.ep_int.specs.Types.{InRange}
use Rattle.ep_int.specs.Arith.{is_in_range, IsOfSomeType}
use Rattle.ep_domain.specs.Domain.{Ops, Holds, Lawful}
use Rattle.std.proofs.lemmas.Bool.{and_from, and_parts}
use Rattle.ep_pointers.specs.declared.sum.Move.{Move}
use Rattle.ep_pointers.specs.Value.{Target, Pointers, pointers, AreAbove, IsRising, offset_at, HoldsPointer, into}
use Rattle.ep_pointers.specs.Sum.{exact_at, cut_to, offsets_and, bytes_of, moved_offset, put, moved_targets}
use Rattle.ep_pointers.specs.Sum.{of_targets, moved, HoldsSums}
use Rattle.ep_pointers.proofs.Lists.{less, equals, more, order, same, none_above}

-- ---- numbers

pub in_range_true : (v : ℤ) → InRange I64 v → is_in_range I64 v ≡ true
in_range_true v i = and_from _ _ (le_test _ _ i.low) (le_test _ _ i.high)

pub in_range_from : (v : ℤ) → is_in_range I64 v ≡ true → InRange I64 v
in_range_from v e = let p = and_parts _ _ e in record { low = le_fact _ _ p.0; high = le_fact _ _ p.1 }

-- from -2^32 to 2^32
record Small (v : ℤ) : Type 0 where
  low : negsuc 4294967295 ≤ℤ v
  high : v ≤ℤ pos 4294967296

small_in_range : (v : ℤ) → Small v → InRange I64 v
small_in_range v s = let l = s.low in let h = s.high in record { low = omega (arith, ints); high = omega (arith, ints) }

le_neg : (m n : ℕ) → negsuc n ≤ℤ neg_ℤ (pos m) → m ≤ suc n
le_neg m n h = omega (arith, ints)

pub at_least : (k u : ℕ) → 1 ≤ u → k ≤ k * u
at_least k u h = let g : k * 1 ≤ k * u = mul-le-mul_left k h in omega arith

-- a factor of a small product is small
small_factor : (y : ℤ) (u : ℕ) → 1 ≤ u → Small (y *ℤ pos u) → Small y
small_factor (pos k) u h s =
    let g : k * u ≤ 4294967296 = from_le_pos (k * u) 4294967296 s.high in
    let f : k ≤ k * u = at_least k u h in
    record { low = omega (arith, ints); high = omega (arith, ints) }
small_factor (negsuc k) u h s =
    let g : suc k * u ≤ 4294967296 = le_neg (suc k * u) 4294967295 s.low in
    let f : suc k ≤ suc k * u = at_least (suc k) u h in
    record { low = omega (arith, ints); high = omega (arith, ints) }

small_move : (sub : Bool) (o w u : ℕ) (y : ℤ) → o < 4294967296 → w < 4294967296 → exact_at sub u (pos o) y ≡ pos w
    → Small (y *ℤ pos u)
small_move false o w u y h k e = by (y *ℤ pos u) e
  where
    by : (p : ℤ) → (pos o +ℤ p) ≡ pos w → Small p
    by p e = record { low = omega (arith, ints); high = omega (arith, ints) }
small_move true o w u y h k e = by (y *ℤ pos u) e
  where
    by : (p : ℤ) → (pos o -ℤ p) ≡ pos w → Small p
    by p e = record { low = omega (arith, ints); high = omega (arith, ints) }

pub offset_in_range : (o : ℕ) → o < 4294967296 → InRange I64 (pos o)
offset_in_range o h = record { low = omega (arith, ints); high = omega (arith, ints) }

pub offset_of_some_type : (o : ℕ) → o < 4294967296 → IsOfSomeType (pos o)
offset_of_some_type o h = record { low = omega (arith, ints); high = omega (arith, ints) }

-- ---- results of arithmetic

pub settled_in : (v : ℤ) (A : ℤ → Type 0) (B : Type 0) → InRange I64 v
    → MatchResult (if is_in_range I64 v then Ok v else Err Overflow) A (λ (_ : Undef). B) → A v
settled_in v A B i h = by (is_in_range I64 v) (in_range_true v i) h
  where
    by : (c : Bool) → c ≡ true → MatchResult (if c then Ok v else Err Overflow) A (λ (_ : Undef). B) → A v
    by true e h = h
    by false e h = absurd cc

-- an option with what is known of its value
pub record Found {N : Type 0} (o : Option N) (P : N → Type 0) : Type 0 where
  pub n : N
  pub is : o ≡ Some n
  pub has : P n

pub found : {N : Type 0} (o : Option N) (P : N → Type 0) → IsSomeAnd o P → Found o P
found None P h = absurd h
found (Some n) P h = record { n = n; is = refl; has = h }

module _ {N : Type 0} (d : Ops N) where
  -- ---- targets that stay

  above_put : (a b : ℕ) (o : Option N) (ts : List (Target N)) → b < a → AreAbove b ts → AreAbove b (put a o ts)
  above_put a b None ts h k = k
  above_put a b (Some n) ts h k = (h, k)

  put_same : (a : ℕ) (o : Option N) (ts : List (Target N)) → AreAbove a ts → offset_at (put a o ts) a ≡ o
  put_same a None ts h = none_above a ts h
  put_same a (Some n) ts h = rw ((same a a refl).equal) refl

  put_other : (a b : ℕ) (o : Option N) (ts : List (Target N)) → eqb a b ≡ false
      → offset_at (put a o ts) b ≡ offset_at ts b
  put_other a b None ts e = refl
  put_other a b (Some n) ts e = rw e refl

  module _ (m : Move N) (sizes : List ℕ) where
    above_moved : (b : ℕ) (ts : List (Target N)) → AreAbove b ts → AreAbove b (moved_targets d m sizes ts)
    above_moved b [] h = tt
    above_moved b (t ∷ ts) h = above_put t.0 b (moved_offset d m (slice_get sizes t.0) t.1)
        (moved_targets d m sizes ts) h.0 (above_moved b ts h.1)

    rising_put : (a : ℕ) (o : Option N) (ts : List (Target N)) → AreAbove a ts → IsRising ts → IsRising (put a o ts)
    rising_put a None ts h r = r
    rising_put a (Some n) ts h r = (h, r)

    pub rising_moved : (ts : List (Target N)) → IsRising ts → IsRising (moved_targets d m sizes ts)
    rising_moved [] r = tt
    rising_moved (t ∷ ts) r = rising_put t.0 (moved_offset d m (slice_get sizes t.0) t.1) (moved_targets d m sizes ts)
        (above_moved t.0 ts r.0) (rising_moved ts r.1)

    pub moved_at : (ts : List (Target N)) (b : ℕ) (n : N) → IsRising ts → offset_at ts b ≡ Some n
        → offset_at (moved_targets d m sizes ts) b ≡ moved_offset d m (slice_get sizes b) n
    moved_at [] b n r e = absurd cc
    moved_at (t ∷ ts) b n r e = elim (order t.0 b) [
      | less o ↦ put_other t.0 b (moved_offset d m (slice_get sizes t.0) t.1) (moved_targets d m sizes ts) o.differs
          ∙ moved_at ts b n r.1 (rw (o.differs) at e)
      | equals o ↦
          let f : Some t.1 ≡ Some n = rw (o.equal) at e in
          let g : t.1 ≡ n = cc in
          subst (λ a. offset_at (put t.0 (moved_offset d m (slice_get sizes t.0) t.1) (moved_targets d m sizes ts)) a
          ≡ moved_offset d m (slice_get sizes a) n) o.eq
          (put_same t.0 (moved_offset d m (slice_get sizes t.0) t.1) (moved_targets d m sizes ts)
          (above_moved t.0 ts r.0) ∙ ap (moved_offset d m (slice_get sizes t.0)) g)
      | more o ↦ put_other t.0 b (moved_offset d m (slice_get sizes t.0) t.1) (moved_targets d m sizes ts) o.differs'
          ∙ moved_at ts b n r.1 (rw (o.differs') at e)
    ]

    pub moved_none : (ts : List (Target N)) (b : ℕ) → IsRising ts → offset_at ts b ≡ None
        → offset_at (moved_targets d m sizes ts) b ≡ None
    moved_none [] b r e = refl
    moved_none (t ∷ ts) b r e = elim (order t.0 b) [
      | less o ↦ put_other t.0 b (moved_offset d m (slice_get sizes t.0) t.1) (moved_targets d m sizes ts) o.differs
          ∙ moved_none ts b r.1 (rw (o.differs) at e)
      | equals o ↦ let f : Some t.1 ≡ None = rw (o.equal) at e in absurd cc
      | more o ↦ put_other t.0 b (moved_offset d m (slice_get sizes t.0) t.1) (moved_targets d m sizes ts) o.differs'
          ∙ moved_none ts b r.1 (rw (o.differs') at e)
    ]

  pub of_some : (ts : List (Target N)) (b : ℕ) (k : N) → offset_at ts b ≡ Some k
      → of_targets ts ≡ Some (pointers false ts)
  of_some [] b k e = absurd cc
  of_some (t ∷ ts) b k e = refl

  module _ (law : Lawful d) where
    -- ---- soundness

    mul_held : (delta : N) (u : ℕ) (y : ℤ) → u < 4294967296 → Holds d delta y → InRange I64 y
        → InRange I64 (y *ℤ pos u) → IsSomeAnd (bytes_of d delta u) (λ c. Holds d c (y *ℤ pos u))
    mul_held delta u y h k i j =
        settled_in (y *ℤ pos u) (λ v. IsSomeAnd (bytes_of d delta u) (λ c. Holds d c v))
        (IsTrue (d.op Mul I64 delta (d.single (pos u))).fault) j
        (law.op_holds Mul I64 delta (d.single (pos u)) y (pos u) (record { left = i; right = offset_in_range u h }) k
        (law.single_holds (pos u) (offset_of_some_type u h)))

    sum_held : (sub : Bool) (n bytes : N) (x y : ℤ) (u : ℕ) → Holds d n x → Holds d bytes (y *ℤ pos u) → InRange I64 x
        → InRange I64 (y *ℤ pos u) → InRange I64 (exact_at sub u x y)
        → IsSomeAnd (offsets_and d sub n (Some bytes)) (λ c. Holds d c (exact_at sub u x y))
    sum_held false n bytes x y u h k i j l =
        settled_in (exact_at false u x y) (λ v. IsSomeAnd (offsets_and d false n (Some bytes)) (λ c. Holds d c v))
        (IsTrue (d.op Add I64 n bytes).fault) l (law.op_holds Add I64 n bytes x (y *ℤ pos u)
        (record { left = i; right = j }) h k)
    sum_held true n bytes x y u h k i j l =
        settled_in (exact_at true u x y) (λ v. IsSomeAnd (offsets_and d true n (Some bytes)) (λ c. Holds d c v))
        (IsTrue (d.op Sub I64 n bytes).fault) l (law.op_holds Sub I64 n bytes x (y *ℤ pos u)
        (record { left = i; right = j }) h k)

    -- the offset of a sum that stays in its block
    offset_held : (m : Move N) (n : N) (o size w : ℕ) (y : ℤ) → 1 ≤ m.unit → m.unit < 4294967296 → o < 4294967296
        → w < 4294967296 → Holds d n (pos o) → Holds d m.delta y
        → exact_at m.subtract m.unit (pos o) y ≡ pos w → w ≤ size
        → IsSomeAnd (moved_offset d m (Some size) n) (λ c. Holds d c (pos w))
    offset_held m n o size w y h1 h2 ho hw hn hy e s =
        let p = small_move m.subtract o w m.unit y ho hw e in
        let bytes = found (bytes_of d m.delta m.unit) (λ c. Holds d c (y *ℤ pos m.unit))
        (mul_held m.delta m.unit y h2 hy (small_in_range y (small_factor y m.unit h1 p)) (small_in_range _ p)) in
        let stays : InRange I64 (exact_at m.subtract m.unit (pos o) y) = subst (InRange I64) (sym e)
        (offset_in_range w hw) in
        let sum = found (offsets_and d m.subtract n (Some bytes.n)) (λ c. Holds d c
        (exact_at m.subtract m.unit (pos o) y)) (sum_held m.subtract n bytes.n (pos o) y m.unit hn bytes.has
        (offset_in_range o ho) (small_in_range _ p) stays) in
        let is : moved_offset d m (Some size) n ≡ d.cut sum.n (pos 0) (pos size) = ap
        (λ b. cut_to d (Some size) (offsets_and d m.subtract n b)) bytes.is ∙ ap (cut_to d (Some size)) sum.is in
        subst (λ r. IsSomeAnd r (λ c. Holds d c (pos w))) (sym is)
        (law.cut_holds sum.n (pos 0) (pos size) (pos w) (subst (Holds d sum.n) e sum.has)
        (record { low = omega (arith, ints); high = omega (arith, ints) }))

    -- the sizes are numbers of 32 bits
    pub sums_held : (m : Move N) (sizes : List ℕ) (p : Pointers N) → ((i : ℕ) → get_or sizes i 0 < 4294967296)
        → 1 ≤ m.unit → m.unit < 4294967296 → IsRising p.targets → HoldsSums d m sizes p (moved d m sizes p)
    sums_held m sizes p fit h1 h2 r b o size w y ho hp hy e es s =
        let size_is : get_or sizes b 0 ≡ size = get_or_from_slice_get sizes b size 0 es in
        let hw : w < 4294967296 = omega (arith, fit b) in
        let n = found (offset_at p.targets b) (λ n. Holds d n (pos o)) hp in
        let held = found (moved_offset d m (Some size) n.n) (λ c. Holds d c (pos w))
        (offset_held m n.n o size w y h1 h2 ho hw n.has hy e s) in
        let there : offset_at (moved_targets d m sizes p.targets) b ≡ Some held.n = moved_at m sizes p.targets b n.n r
        n.is ∙ ap (λ z. moved_offset d m z n.n) es ∙ held.is in
        subst (λ q. IsSomeAnd q (λ v. HoldsPointer d v (into b w))) (sym
        (of_some (moved_targets d m sizes p.targets) b held.n there))
        (subst (λ z. IsSomeAnd z (λ c. Holds d c (pos w))) (sym there) held.has)
