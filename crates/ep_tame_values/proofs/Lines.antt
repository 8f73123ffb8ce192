-- Offsets of places keep on their rows.
use Rattle.std.proofs.Common.{◌≡◌, ℕ, ◌+◌, ◌-◌, ◌*◌, ◌/◌, ◌%◌, ◌<◌, ◌≤◌, ℤ, pos, ◌+ℤ◌, ◌-ℤ◌, ◌*ℤ◌, ◌≤ℤ◌, ◌⊎◌}
use Rattle.ep_int.proofs.Basics.{if_some-map, some-injective}
use Rattle.std.proofs.Common.{inl, inr, Bool, true, false, Option, Some, IsTrue, IfSome, sym, ap, ◌∙◌, subst, arith}
use Rattle.std.proofs.Math.Nat.{mod-eq_of_lt, mod-le, mod-mod_of_dvd, dvd-mul_right, mul-pos, mul-add}
use Rattle.std.proofs.Math.Nat.{mul_assoc, mul_comm, div-add-mod, le_of_mul-le-mul_left}
use Rattle.std.proofs.Math.Nat.{lt_of_mul-lt-mul_left}
use Rattle.std.proofs.Math.IntN.{pos-*ℤ-pos, zero-*ℤ}
use Rattle.std.proofs.lemmas.Int.{ints}
use Rattle.ep_int.specs.declared.types.IntType.TheVariants.{I64}
use Rattle.ep_int.specs.declared.types.BinOp.TheVariants.{Add}
use Rattle.ep_layout.specs.Table.{Table, size}
use Rattle.ep_range_laws.specs.Ranges.{Encloses}
use Rattle.ep_range_laws.proofs.Comparisons.{le_trans}
use Rattle.ep_range_laws.proofs.Corners.{product_up}
use Rattle.ep_domain.specs.Domain.{Ops, Holds, IsStride, Lawful}
use Rattle.ep_alarm_laws.specs.Laws.{ProductsKeepStrides}
use Rattle.ep_pointers.specs.Sum.{move, moved_offset}
use Rattle.ep_kinds.specs.Tame.{holds_array}
use Rattle.ep_kinds.specs.Rows.{Row, row}
use Rattle.ep_tame_numbers.specs.Offsets.{KeepsOffsets}
use Rattle.ep_tame_values.specs.Offsets.{FitsIn, IsArrayOf, IsAlone, EndsInStep, LieOn, PointAt}
use Rattle.ep_tame_values.proofs.Alone.{strides, is_stride, single_alone, moved_alone, moved_if, by_bytes}
use Rattle.ep_tame_values.proofs.Alone.{unit_single, moved_stride, sum_of_mods, each_if}

-- ---- numbers

at_least : (k : ℕ) → pos 0 ≤ℤ pos k
at_least k = omega (arith, ints)

spread : (u b m : ℕ) → u * (b * m + (b - 1)) ≡ u * b * m + (b - 1) * u
spread u b m =
    let one = mul-add u (b * m) (b - 1) in
    let two = mul_assoc u b m in
    let three = mul_comm u (b - 1) in
    omega (arith, one, two, three)

pub spread_more : (u b m : ℕ) → 0 < b → u * (b * m + (b - 1) + 1) ≡ u * b * (m + 1)
spread_more u b m p =
    let one : u * (b * m + (b - 1) + 1) ≡ u * (b * m + b) = ap (λ x. u * x) (omega (arith, p)) in
    let two = mul-add u (b * m) b in
    let three = mul_assoc u b m in
    let four = mul-add (u * b) m 1 in
    let five : u * b * 1 ≡ u * b = omega arith in
    omega (arith, one, two, three, four, five)

member_last : (f q s m : ℕ) (v w : ℤ) → v ≤ℤ pos (f + s * m) → w ≤ℤ (v +ℤ pos q) → w ≤ℤ pos (f + q + s * m)
member_last f q s m v w h k = omega (arith, ints)

member_first : (f q : ℕ) (v w : ℤ) → pos f ≤ℤ v → (v +ℤ pos q) ≤ℤ w → pos (f + q) ≤ℤ w
member_first f q v w h k = omega (arith, ints)

element_last : (f s m d e : ℕ) (v w : ℤ) → v ≤ℤ pos (f + s * m) → w ≤ℤ (v +ℤ pos d) → e ≡ s * m + d → w ≤ℤ pos (f + e)
element_last f s m d e v w h k q = omega (arith, ints, q)

alone_last : (f d e x : ℕ) (v w : ℤ) → v ≡ pos f → w ≤ℤ (v +ℤ pos d) → e ≡ x + d → w ≤ℤ pos (f + e)
alone_last f d e x v w h k q = omega (arith, ints, h, q)

-- a number that is at a step from another one
pub on_step : (f q s m a b x : ℕ) → 0 < s → f ≤ q → s * a + x ≡ f → s * b + x ≡ q → q < f + s * (m + 1)
    → (j : ℕ) × (j ≤ m) × (q ≡ f + s * j)
on_step f q s m a b x p l h k below =
    let c : s * a ≤ s * b = omega (arith, l, h, k) in
    let order : a ≤ b = le_of_mul-le-mul_left c p in
    let sum : b ≡ a + (b - a) = omega (arith, order) in
    let parts : s * b ≡ s * a + s * (b - a) = ap (λ y. s * y) sum ∙ mul-add s a (b - a) in
    let at : q ≡ f + s * (b - a) = omega (arith, h, k, parts) in
    let d : s * (b - a) < s * (m + 1) = later f q (s * (b - a)) (s * (m + 1)) at below in
    let last : b - a < m + 1 = lt_of_mul-lt-mul_left s d in
    (b - a, omega (arith, last), at)
  where
    later : (f q x y : ℕ) → q ≡ f + x → q < f + y → x < y
    later f q x y h k = omega (arith, h, k)

module _ {N : Type 0} (D : Ops N) (law : Lawful D) (keeps : KeepsOffsets D) (products : ProductsKeepStrides D)
    (t : Table) where
  abbrev Has : (r s : ℕ) → N → Type 0
  Has r s c = IsTrue (D.has_stride c r s)

  -- ---- a block, and what a pointer points to

  pub block_lies : (whole bytes : ℕ) → bytes ≤ 65536 → LieOn D t bytes (row whole 0 bytes 0) (D.single (pos 0))
  block_lies whole bytes h =
      let a = single_alone D law keeps products 0 (omega arith) in
      record {
        small = h;
        stride = λ p. a.strides bytes p h;
        low = inr (subst (λ (r : ℤ × ℤ). pos 0 ≤ℤ r.0) (sym a.range) (at_least 0));
        high = inl (subst (λ (r : ℤ × ℤ). r.1 ≤ℤ pos (0 + bytes * 0)) (sym a.range) (at_least (0 + bytes * 0)));
        one = λ e. a;
        dense = λ e k d. inr a;
      }

  pub target_lies : (whole ty most bytes : ℕ) (n : N) (p : PointAt D t whole ty n) → bytes ≤ 0 + p.step * (most + 1)
      → LieOn D t bytes (row ty 0 p.step most) n
  target_lies whole ty most bytes n p h = record {
    small = p.small;
    stride = λ q. subst (λ r. Has r p.step n) (sym (mod-eq_of_lt q)) (p.stride q);
    low = inl (λ s e. at_end s p.step (some-injective (sym e ∙ p.sized)));
    high = inr h;
    one = λ e. subst (λ x. IsAlone D x 0) (sym (p.one e)) (single_alone D law keeps products 0 (omega arith));
    dense = λ e k d. inl p.sized;
  }
    where
      at_end : (s z : ℕ) → s ≡ z → 0 + s ≤ z
      at_end s z e = omega (arith, e)

  -- ---- a member

  moved_range : (n : N) (q limit : ℕ) → q ≤ 4294967295
      → IfSome (moved_offset D (move (D.single (pos q)) 1 false) (Some limit) n)
      (λ c. Encloses ((D.range n).0 +ℤ pos q, (D.range n).1 +ℤ pos q) (D.range c))
  moved_range n q limit l =
      let ends : ℤ × ℤ = ((D.range n).0 +ℤ pos q, (D.range n).1 +ℤ pos q) in
      moved_if D law keeps products (λ b. IsAlone D b q) (λ c. Encloses ends (D.range c))
      (λ c. Encloses ends (D.range c))
      (move (D.single (pos q)) 1 false) limit n (by_bytes D law keeps products q l)
      (λ b k. subst (λ (r : ℤ × ℤ). IfSome (D.op Add I64 n b).value
      (λ c. Encloses ((D.range n).0 +ℤ r.0, (D.range n).1 +ℤ r.1) (D.range c))) k.range (keeps.sum_range n b))
      (λ c k. if_some-map (λ d. Encloses (pos 0, pos limit) (D.range d) × Encloses (D.range c) (D.range d))
      (λ d. Encloses ends (D.range d)) (D.cut c (pos 0) (pos limit))
      (λ d i. record { low = le_trans _ _ _ k.low i.1.low; high = le_trans _ _ _ i.1.high k.high })
      (keeps.cut_range c (pos 0) (pos limit)))

  member_stride : (n : N) (f q s limit : ℕ) → q ≤ 4294967295 → 0 < s → s ≤ 65536 → Has (f % s) s n
      → IfSome (moved_offset D (move (D.single (pos q)) 1 false) (Some limit) n) (Has ((f + q) % s) s)
  member_stride n f q s limit l p m h =
      moved_if D law keeps products (λ b. IsAlone D b q) (Has ((f + q) % s) s) (Has ((f + q) % s) s)
      (move (D.single (pos q)) 1 false) limit n (by_bytes D law keeps products q l)
      (λ b k. subst (λ r. IfSome (D.op Add I64 n b).value (Has r s)) (sum_of_mods f q s)
      ((strides D law keeps products).add n b (f % s) (q % s) s (is_stride f s p m) (is_stride q s p m) h
      (k.strides s p m)))
      (λ c k. (strides D law keeps products).cut c (pos 0) (pos limit) ((f + q) % s) s (is_stride (f + q) s p m) k)

  -- none is before the first
  member_low : (r : Row) (q ty : ℕ) (n c : N) → FitsIn t r.ty q ty
      → EndsInStep t r ⊎ (pos r.first ≤ℤ (D.range n).0)
      → Encloses ((D.range n).0 +ℤ pos q, (D.range n).1 +ℤ pos q) (D.range c)
      → EndsInStep t (row ty (r.first + q) r.step r.most) ⊎ (pos (r.first + q) ≤ℤ (D.range c).0)
  member_low r q ty n c m (inl i) e =
      inl (λ s z. let w = m.room s z in room r.first q s w.0 r.step (i w.0 w.1) w.2)
    where
      room : (f q s z w : ℕ) → f + z ≤ w → q + s ≤ z → f + q + s ≤ w
      room f q s z w h k = omega (arith, h, k)
  member_low r q ty n c m (inr i) e = inr (member_first r.first q (D.range n).0 (D.range c).0 i e.low)

  -- none is behind the last
  member_high : (bytes q : ℕ) (r : Row) (n c : N)
      → ((D.range n).1 ≤ℤ pos (r.first + r.step * r.most)) ⊎ (bytes ≤ r.first + r.step * (r.most + 1))
      → Encloses ((D.range n).0 +ℤ pos q, (D.range n).1 +ℤ pos q) (D.range c)
      → ((D.range c).1 ≤ℤ pos (r.first + q + r.step * r.most)) ⊎ (bytes ≤ r.first + q + r.step * (r.most + 1))
  member_high bytes q r n c (inl i) e =
      inl (member_last r.first q r.step r.most (D.range n).1 (D.range c).1 i e.high)
  member_high bytes q r n c (inr i) e = inr (later bytes r.first (r.step * (r.most + 1)) q i)
    where
      later : (b f x q : ℕ) → b ≤ f + x → b ≤ f + q + x
      later b f x q h = omega (arith, h)

  pub member_lies : (bytes limit q ty : ℕ) (r : Row) (n : N) → q ≤ 4294967295 → FitsIn t r.ty q ty
      → LieOn D t bytes r n
      → IfSome (moved_offset D (move (D.single (pos q)) 1 false) (Some limit) n)
      (LieOn D t bytes (row ty (r.first + q) r.step r.most))
  member_lies bytes limit q ty r n l m h =
      each_if (0 < r.step) Alone (λ p. Has ((r.first + q) % r.step) r.step)
      (LieOn D t bytes (row ty (r.first + q) r.step r.most)) o
      (λ c a strided. record {
        small = h.small;
        stride = strided;
        low = member_low r q ty n c m h.low a.0;
        high = member_high bytes q r n c h.high a.0;
        one = λ e. a.1 (m.holder e);
        dense = λ e k d. inr (a.1 (m.array e k d));
      })
      (each_if (holds_array t r.ty ≡ true) Near (λ e c. IsAlone D c (r.first + q)) Alone o (λ c i j. (i, j))
      (moved_range n q limit l) (λ e. moved_alone D law keeps products n r.first q limit l (h.one e)))
      (λ p. member_stride n r.first q r.step limit l p h.small (h.stride p))
    where
      o : Option N
      o = moved_offset D (move (D.single (pos q)) 1 false) (Some limit) n

      Near : N → Type 0
      Near c = Encloses ((D.range n).0 +ℤ pos q, (D.range n).1 +ℤ pos q) (D.range c)

      Alone : N → Type 0
      Alone c = Near c × (holds_array t r.ty ≡ true → IsAlone D c (r.first + q))

  -- ---- an element

  -- moved by units of an index below the bound
  pub record Rises (n c : N) (k : ℕ) : Type 0 where
    pub low : (D.range n).0 ≤ℤ (D.range c).0
    pub high : (D.range c).1 ≤ℤ ((D.range n).1 +ℤ pos k)

  index_low : (i : ℤ) (u : ℕ) → pos 0 ≤ℤ i → pos 0 ≤ℤ (i *ℤ pos u)
  index_low i u h = subst (λ z. z ≤ℤ (i *ℤ pos u)) (zero-*ℤ (pos u)) (product_up (pos 0) i u h)

  index_high : (i : ℤ) (b u : ℕ) → 0 < b → i ≤ℤ (pos b -ℤ pos 1) → (i *ℤ pos u) ≤ℤ pos ((b - 1) * u)
  index_high i b u p h =
      subst (λ z. (i *ℤ pos u) ≤ℤ z) (pos-*ℤ-pos (b - 1) u)
      (product_up i (pos (b - 1)) u (omega (arith, ints, p)))

  sum_rises : (n0 n1 i0 i1 c0 c1 : ℤ) (k : ℕ) → pos 0 ≤ℤ i0 → i1 ≤ℤ pos k → (n0 +ℤ i0) ≤ℤ c0 → c1 ≤ℤ (n1 +ℤ i1)
      → (n0 ≤ℤ c0) × (c1 ≤ℤ (n1 +ℤ pos k))
  sum_rises n0 n1 i0 i1 c0 c1 k a b c d = (omega (arith, ints), omega (arith, ints))

  abbrev Index : ℕ → N → Type 0
  Index b i = Encloses (pos 0, pos b -ℤ pos 1) (D.range i)

  moved_up : (n i : N) (b u limit : ℕ) → 0 < b → u ≤ 65536 → Index b i
      → IfSome (moved_offset D (move i u false) (Some limit) n) (λ c. Rises n c ((b - 1) * u))
  moved_up n i b u limit p l h =
      moved_if D law keeps products Bytes (λ c. Rises n c ((b - 1) * u)) (λ c. Rises n c ((b - 1) * u))
      (move i u false) limit n
      (keeps.product_range i (D.single (pos u)) u (unit_single D law keeps products u (omega (arith, l))))
      (λ d k. if_some-map (λ c. Encloses ((D.range n).0 +ℤ (D.range d).0, (D.range n).1 +ℤ (D.range d).1) (D.range c))
      (λ c. Rises n c ((b - 1) * u)) (D.op Add I64 n d).value
      (λ c e. let s = sum_rises (D.range n).0 (D.range n).1 (D.range d).0 (D.range d).1 (D.range c).0 (D.range c).1
      ((b - 1) * u) (le_trans _ _ _ (index_low (D.range i).0 u h.low) k.low)
      (le_trans _ _ _ k.high (index_high (D.range i).1 b u p h.high)) e.low e.high in
      record { low = s.0; high = s.1 }) (keeps.sum_range n d))
      (λ c k. if_some-map (λ d. Encloses (pos 0, pos limit) (D.range d) × Encloses (D.range c) (D.range d))
      (λ d. Rises n d ((b - 1) * u)) (D.cut c (pos 0) (pos limit))
      (λ d e. record { low = le_trans _ _ _ k.low e.1.low; high = le_trans _ _ _ e.1.high k.high })
      (keeps.cut_range c (pos 0) (pos limit)))
    where
      Bytes : N → Type 0
      Bytes d = Encloses ((D.range i).0 *ℤ pos u, (D.range i).1 *ℤ pos u) (D.range d)

  -- a stride of an array is one of its elements
  pub part_stride : (n : N) (f s u b : ℕ) → 0 < u → 0 < b → s ≤ 65536 → s ≡ u * b → Has (f % s) s n → Has (f % u) u n
  part_stride n f s u b p q l e h =
      subst (λ x. Has x u n) (mod-mod_of_dvd u f (dvd-mul_right u b))
      (law.stride_divides n (f % (u * b)) u b (subst (λ x. IsStride (f % x) x) e (is_stride f s some l))
      (subst (λ x. Has (f % x) x n) e h))
    where
      some : 0 < s
      some = subst (λ x. 0 < x) (sym e) (mul-pos p q)

  own_stride : (bytes : ℕ) (r : Row) (e b u : ℕ) (n : N) → IsArrayOf t r.ty e b u → LieOn D t bytes r n
      → (size t r.ty ≡ Some r.step) ⊎ IsAlone D n r.first → Has (r.first % u) u n
  own_stride bytes r e b u n a h (inl s) =
      let same = some-injective (sym s ∙ a.whole) in
      part_stride n r.first r.step u b a.more a.some h.small same
      (h.stride (subst (λ x. 0 < x) (sym same) (mul-pos a.more a.some)))
  own_stride bytes r e b u n a h (inr i) = i.strides u a.more a.small

  abbrev Elements : Row → (e b u : ℕ) → Row
  Elements r e b u = row e r.first u (b * r.most + (b - 1))

  element_low : (bytes : ℕ) (r : Row) (e b u : ℕ) (n c : N) → IsArrayOf t r.ty e b u
      → EndsInStep t r ⊎ (pos r.first ≤ℤ (D.range n).0) → (size t r.ty ≡ Some r.step) ⊎ IsAlone D n r.first
      → Rises n c ((b - 1) * u) → EndsInStep t (Elements r e b u) ⊎ (pos r.first ≤ℤ (D.range c).0)
  element_low bytes r e b u n c a (inl i) (inl s) k =
      inl (λ z d. at_begin r.first r.step z u (i r.step s) (some-injective (sym d ∙ a.sized)))
    where
      at_begin : (f s z u : ℕ) → f + s ≤ s → z ≡ u → f + z ≤ u
      at_begin f s z u h e = omega (arith, h, e)
  element_low bytes r e b u n c a (inr i) (inl s) k = inr (le_trans _ _ _ i k.low)
  element_low bytes r e b u n c a l (inr i) k =
      inr (subst (λ (x : ℤ × ℤ). x.0 ≤ℤ (D.range c).0) i.range k.low)

  element_high : (bytes : ℕ) (r : Row) (e b u : ℕ) (n c : N) → IsArrayOf t r.ty e b u
      → ((D.range n).1 ≤ℤ pos (r.first + r.step * r.most)) ⊎ (bytes ≤ r.first + r.step * (r.most + 1))
      → (size t r.ty ≡ Some r.step) ⊎ IsAlone D n r.first → Rises n c ((b - 1) * u)
      → ((D.range c).1 ≤ℤ pos (r.first + u * (b * r.most + (b - 1))))
      ⊎ (bytes ≤ r.first + u * (b * r.most + (b - 1) + 1))
  element_high bytes r e b u n c a (inl i) (inl s) k =
      let same : r.step ≡ u * b = some-injective (sym s ∙ a.whole) in
      inl (element_last r.first r.step r.most ((b - 1) * u) (u * (b * r.most + (b - 1))) (D.range n).1 (D.range c).1 i
      k.high (spread u b r.most ∙ ap (λ x. x * r.most + (b - 1) * u) (sym same)))
  element_high bytes r e b u n c a (inr i) (inl s) k =
      let same : r.step ≡ u * b = some-injective (sym s ∙ a.whole) in
      inr (subst (λ x. bytes ≤ r.first + x)
      (ap (λ x. x * (r.most + 1)) same ∙ sym (spread_more u b r.most a.some)) i)
  element_high bytes r e b u n c a l (inr i) k =
      inl (alone_last r.first ((b - 1) * u) (u * (b * r.most + (b - 1))) (u * b * r.most) (D.range n).1 (D.range c).1
      (ap (λ (x : ℤ × ℤ). x.1) i.range) k.high (spread u b r.most))

  pub element_lies : (bytes limit : ℕ) (r : Row) (e b u : ℕ) (n i : N) → IsArrayOf t r.ty e b u → Index b i
      → LieOn D t bytes r n
      → IfSome (moved_offset D (move i u false) (Some limit) n) (LieOn D t bytes (Elements r e b u))
  element_lies bytes limit r e b u n i a h k =
      let d = k.dense e b a.elements in
      each_if (0 < u) (λ c. Rises n c ((b - 1) * u)) (λ p. Has (r.first % u) u) (LieOn D t bytes (Elements r e b u))
      (moved_offset D (move i u false) (Some limit) n)
      (λ c s strided. record {
        small = a.small;
        stride = strided;
        low = element_low bytes r e b u n c a k.low d s;
        high = element_high bytes r e b u n c a k.high d s;
        one = λ x. absurd (never x a.plain);
        dense = λ x y z. inl a.sized;
      })
      (moved_up n i b u limit a.some a.small h)
      (λ p. moved_stride D law keeps products i n u (r.first % u) limit false p (is_stride r.first u p a.small)
      (own_stride bytes r e b u n a k d))
    where
      never : {x : Bool} → x ≡ true → x ≡ false → ⊥
      never g j = absurd cc

  -- ---- a place in the block is on the row

  pub on_row : (bytes : ℕ) (r : Row) (n : N) (s q : ℕ) → LieOn D t bytes r n → size t r.ty ≡ Some s → 0 < s
      → 0 < r.step → Holds D n (pos q) → q + s ≤ bytes → (j : ℕ) × (j ≤ r.most) × (q ≡ r.first + r.step * j)
  on_row bytes r n s q h sz more p held inside =
      on_step r.first q r.step r.most (r.first / r.step) (q / r.step) (r.first % r.step) p (first h.low)
      (div-add-mod r.first r.step) (subst (λ x. r.step * (q / r.step) + x ≡ q) same (div-add-mod q r.step))
      (last h.high)
    where
      same : q % r.step ≡ r.first % r.step
      same = law.stride_holds n (r.first % r.step) r.step (pos q) (is_stride r.first r.step p h.small) (h.stride p) held

      first : EndsInStep t r ⊎ (pos r.first ≤ℤ (D.range n).0) → r.first ≤ q
      first (inl i) = within r.first r.step q s (i s sz) more same
        where
          within : (f z q s : ℕ) → f + s ≤ z → 0 < s → q % z ≡ f % z → f ≤ q
          within f z q s h m e =
              let own : f % z ≡ f = mod-eq_of_lt (omega (arith, h, m)) in
              let le = mod-le q z in
              omega (arith, own, le, e)
      first (inr i) = let k = (law.range_encloses n (pos q) held).low in down r.first q (D.range n).0 i k
        where
          down : (f q : ℕ) (v : ℤ) → pos f ≤ℤ v → v ≤ℤ pos q → f ≤ q
          down f q v h k = omega (arith, ints)

      last : ((D.range n).1 ≤ℤ pos (r.first + r.step * r.most)) ⊎ (bytes ≤ r.first + r.step * (r.most + 1))
          → q < r.first + r.step * (r.most + 1)
      last (inl i) = up r.first r.step r.most q (D.range n).1 p i (law.range_encloses n (pos q) held).high
        where
          up : (f s m q : ℕ) (v : ℤ) → 0 < s → v ≤ℤ pos (f + s * m) → pos q ≤ℤ v → q < f + s * (m + 1)
          up f s m q v p h k =
              let e : s * (m + 1) ≡ s * m + s = mul-add s m 1 ∙ ap (λ x. s * m + x) (omega arith) in
              omega (arith, ints, p, e)
      last (inr i) = behind q s bytes r.first (r.step * (r.most + 1)) i inside more
        where
          behind : (q s b f x : ℕ) → b ≤ f + x → q + s ≤ b → 0 < s → q < f + x
          behind q s b f x h k m = omega (arith, h, k, m)
