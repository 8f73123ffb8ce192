-- Offsets at one place alone, and what an offset that is moved by bytes keeps.
use Rattle.std.proofs.Common.{◌≡◌, ℕ, ◌+◌, ◌*◌, ◌%◌, ◌<◌, ◌≤◌, ℤ, pos, ◌+ℤ◌, ◌-ℤ◌, ◌*ℤ◌, ◌≤ℤ◌, Bool, true, false}
use Rattle.ep_evaluation.proofs.Sums.{plain_sum}
use Rattle.ep_tame_numbers.proofs.Intervals.{one_end}
use Rattle.ep_int.proofs.Basics.{if_some-map}
use Rattle.std.proofs.Common.{Option, Some, None, IsTrue, IfSome, ap, ◌∙◌, subst, arith}
use Rattle.std.proofs.Math.Nat.{mod-lt, mod-eq_of_lt, mod-add-mod, add-mod-mod}
use Rattle.std.proofs.lemmas.Int.{ints}
use Rattle.ep_int.specs.declared.types.IntType.TheVariants.{I64}
use Rattle.ep_int.specs.declared.types.BinOp.TheVariants.{Add, Mul}
use Rattle.ep_int.specs.Types.{residue}
use Rattle.ep_int.specs.Arith.{IsOfSomeType}
use Rattle.ep_range_laws.specs.Ranges.{Encloses}
use Rattle.ep_domain.specs.Domain.{Ops, IsSingle, IsStride, KeepsStrides, Lawful}
use Rattle.ep_domain.specs.Laws.Shared.{same_pair}
use Rattle.ep_alarm_laws.specs.Laws.{ProductsKeepStrides}
use Rattle.ep_pointers.specs.declared.sum.Move.{Move}
use Rattle.ep_pointers.specs.Sum.{move, cut_to, offsets_and, bytes_of, moved_offset}
use Rattle.ep_tame_numbers.specs.Offsets.{KeepsOffsets}
use Rattle.ep_tame_values.specs.Offsets.{IsAlone}

pub is_stride : (r s : ℕ) → 0 < s → s ≤ 65536 → IsStride (r % s) s
is_stride r s p h = record { below = mod-lt r p; small = h }

pub zero_stride : (s : ℕ) → 0 < s → s ≤ 65536 → IsStride 0 s
zero_stride s p h = record { below = p; small = h }

pub number : (v : ℕ) → v ≤ 4294967295 → IsOfSomeType (pos v)
number v h = record { low = omega (arith, ints); high = omega (arith, ints) }

pub sum_of_mods : (o q s : ℕ) → (o % s + q % s) % s ≡ (o + q) % s
sum_of_mods o q s = mod-add-mod o s (q % s) ∙ add-mod-mod o q s

times_one : (q : ℕ) → pos q *ℤ pos 1 ≡ pos q
times_one q = omega (arith, ints)

same_ends : (r : ℤ × ℤ) (v w : ℤ) → v ≡ w → Encloses (v, v) r → Encloses (w, w) r
same_ends r v w e h = subst (λ x. Encloses (x, x) r) e h

-- what holds for every index
pub each_if : {X : Type 0} (I : Type 0) (P : X → Type 0) (Q : I → X → Type 0) (R : X → Type 0) (o : Option X)
    → ((x : X) → P x → ((i : I) → Q i x) → R x) → IfSome o P → ((i : I) → IfSome o (Q i)) → IfSome o R
each_if I P Q R None go h k = tt
each_if I P Q R (Some x) go h k = go x h k

-- a stride that may be
pub record Modulus : Type 0 where
  pub s : ℕ
  pub some : 0 < s
  pub small : s ≤ 65536

module _ {N : Type 0} (D : Ops N) (law : Lawful D) (keeps : KeepsOffsets D) (products : ProductsKeepStrides D) where
  pub strides : KeepsStrides D
  strides = law.strides keeps.strides

  abbrev HasStride : (r s : ℕ) → N → Type 0
  HasStride r s c = IsTrue (D.has_stride c r s)

  single_inside : (c : N) (v : ℤ) → Encloses (v, v) (D.range c) → IsSingle D c v
  single_inside c v h =
      let e = one_end (D.range c).0 (D.range c).1 v (law.range_ends c).ordered h in
      same_pair (D.range c).0 (D.range c).1 v v e.0 e.1

  -- by the range and each stride
  alone_if : (o : Option N) (q : ℕ) → IfSome o (λ c. Encloses (pos q, pos q) (D.range c))
      → ((m : Modulus) → IfSome o (HasStride (q % m.s) m.s)) → IfSome o (λ c. IsAlone D c q)
  alone_if o q h k =
      each_if Modulus (λ c. Encloses (pos q, pos q) (D.range c)) (λ m. HasStride (q % m.s) m.s) (λ c. IsAlone D c q) o
      (λ c i j. record {
        range = single_inside c (pos q) i;
        strides = λ s p l. j (record { s = s; some = p; small = l });
      }) h k

  -- ---- one place

  pub single_alone : (v : ℕ) → v ≤ 4294967295 → IsAlone D (D.single (pos v)) v
  single_alone v h = record {
    range = law.single_range (pos v) (number v h);
    strides = λ s p l. strides.single (pos v) s (number v h) p l;
  }

  pub cut_alone : (n : N) (o : ℕ) (lo hi : ℤ) → IsAlone D n o → IfSome (D.cut n lo hi) (λ c. IsAlone D c o)
  cut_alone n o lo hi h =
      alone_if (D.cut n lo hi) o
      (if_some-map (λ c. Encloses (lo, hi) (D.range c) × Encloses (D.range n) (D.range c))
      (λ c. Encloses (pos o, pos o) (D.range c)) (D.cut n lo hi)
      (λ c k. subst (λ (r : ℤ × ℤ). Encloses r (D.range c)) h.range k.1) (keeps.cut_range n lo hi))
      (λ m. strides.cut n lo hi (o % m.s) m.s (is_stride o m.s m.some m.small) (h.strides m.s m.some m.small))

  pub sum_alone : (n b : N) (o q : ℕ) → IsAlone D n o → IsAlone D b q
      → IfSome (D.op Add I64 n b).value (λ c. IsAlone D c (o + q))
  sum_alone n b o q h k =
      alone_if (D.op Add I64 n b).value (o + q)
      (if_some-map (λ c. Encloses ((D.range n).0 +ℤ (D.range b).0, (D.range n).1 +ℤ (D.range b).1) (D.range c))
      (λ c. Encloses (pos (o + q), pos (o + q)) (D.range c)) (D.op Add I64 n b).value
      (λ c i. same_ends (D.range c) (pos o +ℤ pos q) (pos (o + q)) (plain_sum o q)
      (subst (λ (r : ℤ × ℤ). Encloses (pos o +ℤ r.0, pos o +ℤ r.1) (D.range c)) k.range
      (subst (λ (r : ℤ × ℤ). Encloses (r.0 +ℤ (D.range b).0, r.1 +ℤ (D.range b).1) (D.range c)) h.range i)))
      (keeps.sum_range n b))
      (λ m. subst (λ r. IfSome (D.op Add I64 n b).value (HasStride r m.s)) (sum_of_mods o q m.s)
      (strides.add n b (o % m.s) (q % m.s) m.s (is_stride o m.s m.some m.small) (is_stride q m.s m.some m.small)
      (h.strides m.s m.some m.small) (k.strides m.s m.some m.small)))

  pub same_alone : (n b : N) (q : ℕ) → IsAlone D n q → IsSingle D b (pos 1)
      → IfSome (D.op Mul I64 n b).value (λ c. IsAlone D c q)
  same_alone n b q h e =
      alone_if (D.op Mul I64 n b).value q
      (if_some-map (λ c. Encloses ((D.range n).0 *ℤ pos 1, (D.range n).1 *ℤ pos 1) (D.range c))
      (λ c. Encloses (pos q, pos q) (D.range c)) (D.op Mul I64 n b).value
      (λ c i. same_ends (D.range c) (pos q *ℤ pos 1) (pos q) (times_one q)
      (subst (λ (r : ℤ × ℤ). Encloses (r.0 *ℤ pos 1, r.1 *ℤ pos 1) (D.range c)) h.range i))
      (keeps.product_range n b 1 e))
      (λ m. products n b (q % m.s) m.s (is_stride q m.s m.some m.small) (h.strides m.s m.some m.small) e)

  -- ---- an offset that is moved

  -- Where bytes are so and sums with them are so, the moved offset is, as every part of it is.
  pub moved_if : (P Q R : N → Type 0) (m : Move N) (size : ℕ) (n : N) → IfSome (bytes_of D m.delta m.unit) P
      → ((b : N) → P b → IfSome (offsets_and D m.subtract n (Some b)) Q)
      → ((c : N) → Q c → IfSome (D.cut c (pos 0) (pos size)) R) → IfSome (moved_offset D m (Some size) n) R
  moved_if P Q R m size n h sum part = at (bytes_of D m.delta m.unit) h
    where
      cutted : (o : Option N) → IfSome o Q → IfSome (cut_to D (Some size) o) R
      cutted None k = tt
      cutted (Some c) k = part c k

      at : (o : Option N) → IfSome o P → IfSome (cut_to D (Some size) (offsets_and D m.subtract n o)) R
      at None k = tt
      at (Some b) k = cutted (offsets_and D m.subtract n (Some b)) (sum b k)

  pub unit_single : (u : ℕ) → u ≤ 4294967295 → IsSingle D (D.single (pos u)) (pos u)
  unit_single u h = law.single_range (pos u) (number u h)

  -- by a number of so many bytes
  pub by_bytes : (q : ℕ) → q ≤ 4294967295 → IfSome (bytes_of D (D.single (pos q)) 1) (λ b. IsAlone D b q)
  by_bytes q h =
      same_alone (D.single (pos q)) (D.single (pos 1)) q (single_alone q h) (unit_single 1 (omega arith))

  pub moved_alone : (n : N) (o q size : ℕ) → q ≤ 4294967295 → IsAlone D n o
      → IfSome (moved_offset D (move (D.single (pos q)) 1 false) (Some size) n) (λ c. IsAlone D c (o + q))
  moved_alone n o q size l h =
      moved_if (λ b. IsAlone D b q) (λ c. IsAlone D c (o + q)) (λ c. IsAlone D c (o + q))
      (move (D.single (pos q)) 1 false) size n (by_bytes q l) (λ b k. sum_alone n b o q h k)
      (λ c k. cut_alone c (o + q) (pos 0) (pos size) k)

  -- ---- strides

  times_mod : (u : ℕ) → u ≡ u * 1
  times_mod u = omega arith

  same_sum : (q s : ℕ) → q < s → (q + 0) % s ≡ q
  same_sum q s h = let e : q + 0 ≡ q = omega arith in ap (λ x. x % s) e ∙ mod-eq_of_lt h

  same_difference : (q s : ℕ) → q < s → residue s (pos q -ℤ pos 0) ≡ q
  same_difference q s h = ap (residue s) (minus q) ∙ mod-eq_of_lt h
    where
      minus : (q : ℕ) → (pos q -ℤ pos 0) ≡ pos q
      minus q = omega (arith, ints)

  -- units of bytes
  pub units_stride : (delta : N) (u : ℕ) → 0 < u → u ≤ 65536 → IfSome (bytes_of D delta u) (HasStride 0 u)
  units_stride delta u p h =
      strides.mul delta (D.single (pos u)) u 1 (zero_stride u p h)
      (subst (λ v. IsSingle D (D.single (pos u)) (pos v)) (times_mod u) (unit_single u (omega (arith, h))))

  pub sum_stride : (back : Bool) (n b : N) (r s : ℕ) → IsStride r s → HasStride r s n → HasStride 0 s b
      → IfSome (offsets_and D back n (Some b)) (HasStride r s)
  sum_stride false n b r s i h k =
      let l = i.below in
      subst (λ x. IfSome (offsets_and D false n (Some b)) (HasStride x s)) (same_sum r s i.below)
      (strides.add n b r 0 s i (zero_stride s (omega (arith, l)) i.small) h k)
  sum_stride true n b r s i h k =
      let l = i.below in
      subst (λ x. IfSome (offsets_and D true n (Some b)) (HasStride x s)) (same_difference r s i.below)
      (strides.sub n b r 0 s i (zero_stride s (omega (arith, l)) i.small) h k)

  -- an offset that is moved by units keeps its stride of their size
  pub moved_stride : (delta n : N) (u r size : ℕ) (back : Bool) → 0 < u → IsStride r u → HasStride r u n
      → IfSome (moved_offset D (move delta u back) (Some size) n) (HasStride r u)
  moved_stride delta n u r size back p i h =
      moved_if (HasStride 0 u) (HasStride r u) (HasStride r u) (move delta u back) size n
      (units_stride delta u p i.small) (λ b k. sum_stride back n b r u i h k)
      (λ c k. strides.cut c (pos 0) (pos size) r u i k)
