-- Offsets of pointers stay along their blocks.
use Rattle.std.proofs.Common.{◌≡◌, ℕ, ◌+◌, ◌-◌, ◌*◌, ◌%◌, ◌<◌, ◌≤◌, pos, Bool, true, false, Some, IsTrue, IfSome}
use Rattle.ep_tame_laws.proofs.Along.{chain_at}
use Rattle.ep_tame_numbers.proofs.Pairs.{both_same}
use Rattle.ep_int.proofs.Basics.{if_some-map, some-injective}
use Rattle.std.proofs.Common.{refl, sym, ◌∙◌, subst, arith}
use Rattle.std.proofs.Math.Nat.{mul-pos, mod-eq_of_lt}
use Rattle.ep_layout.specs.Table.{Table, size}
use Rattle.ep_domain.specs.Domain.{Ops, IsStride, Lawful}
use Rattle.ep_alarm_laws.specs.Laws.{ProductsKeepStrides}
use Rattle.ep_pointers.specs.Sum.{move, moved_offset}
use Rattle.ep_kinds.specs.Tame.{holds_array}
use Rattle.ep_kinds.specs.Rows.{itself, of_elements}
use Rattle.ep_tame_numbers.specs.Offsets.{KeepsOffsets}
use Rattle.ep_tame_values.specs.Offsets.{IsArrayOf, PointAt}
use Rattle.ep_tame_values.proofs.Alone.{strides, number, zero_stride, single_alone, moved_stride}

module _ {N : Type 0} (D : Ops N) (law : Lawful D) (keeps : KeepsOffsets D) (products : ProductsKeepStrides D)
    (t : Table) (whole : ℕ) where
  abbrev Has : (r s : ℕ) → N → Type 0
  Has r s c = IsTrue (D.has_stride c r s)

  pub begin_points : (bytes : ℕ) → size t whole ≡ Some bytes → bytes ≤ 65536
      → PointAt D t whole whole (D.single (pos 0))
  begin_points bytes sz h = record {
    step = bytes;
    most = 0;
    chain = itself bytes;
    sized = sz;
    small = h;
    stride = λ p. zeros bytes p ((single_alone D law keeps products 0 (omega arith)).strides bytes p h);
    one = λ e. refl;
  }
    where
      zeros : (s : ℕ) → 0 < s → Has (0 % s) s (D.single (pos 0)) → Has 0 s (D.single (pos 0))
      zeros s p k = subst (λ r. Has r s (D.single (pos 0))) (mod-eq_of_lt p) k

  -- ---- joins

  -- an operation that keeps strides and what is 0 alone
  both_point : (j : N → N → N) (ty : ℕ) (n m : N)
      → ((s : ℕ) → IsStride 0 s → Has 0 s n → Has 0 s m → Has 0 s (j n m))
      → j (D.single (pos 0)) (D.single (pos 0)) ≡ D.single (pos 0) → PointAt D t whole ty n → PointAt D t whole ty m
      → PointAt D t whole ty (j n m)
  both_point j ty n m keep same p q = record {
    step = p.step;
    most = p.most;
    chain = p.chain;
    sized = p.sized;
    small = p.small;
    stride = λ h. let e = some-injective (sym q.sized ∙ p.sized) in
        keep p.step (zero_stride p.step h p.small) (p.stride h)
        (subst (λ s. Has 0 s m) e (q.stride (subst (λ s. 0 < s) (sym e) h)));
    one = λ h. both_same j n m (D.single (pos 0)) (p.one h) (q.one h) same;
  }

  pub join_points : (ty : ℕ) (n m : N) → PointAt D t whole ty n → PointAt D t whole ty m
      → PointAt D t whole ty (D.join n m)
  join_points ty n m =
      both_point D.join ty n m (λ s i h k. (strides D law keeps products).join n m 0 s i h k)
      (keeps.join_single (pos 0) (number 0 (omega arith)))

  pub widen_points : (ty : ℕ) (n m : N) → PointAt D t whole ty n → PointAt D t whole ty m
      → PointAt D t whole ty (D.widen n m)
  widen_points ty n m =
      both_point D.widen ty n m (λ s i h k. (strides D law keeps products).widen n m 0 s i h k)
      (keeps.widen_single (pos 0) (number 0 (omega arith)))

  -- ---- sums

  -- by units of what is pointed to, which holds no arrays in its members
  pub moved_points : (delta n : N) (ty u bytes : ℕ) (back : Bool) → size t ty ≡ Some u → 0 < u
      → holds_array t ty ≡ false → PointAt D t whole ty n
      → IfSome (moved_offset D (move delta u back) (Some bytes) n) (PointAt D t whole ty)
  moved_points delta n ty u bytes back sz more plain p =
      if_some-map (Has 0 u) (PointAt D t whole ty) (moved_offset D (move delta u back) (Some bytes) n)
      (λ c h. record {
        step = p.step;
        most = p.most;
        chain = p.chain;
        sized = p.sized;
        small = p.small;
        stride = λ x. subst (λ s. Has 0 s c) (sym same) h;
        one = λ x. absurd (never x plain);
      })
      (moved_stride D law keeps products delta n u 0 bytes back more
      (zero_stride u more (subst (λ s. s ≤ 65536) same p.small))
      (subst (λ s. Has 0 s n) same (p.stride (subst (λ s. 0 < s) (sym same) more))))
    where
      same : p.step ≡ u
      same = some-injective (sym p.sized ∙ sz)

      never : {x : Bool} → x ≡ true → x ≡ false → ⊥
      never g j = absurd cc

  -- ---- elements of an array that is pointed to

  -- the offsets of the first elements
  pub first_points : (a e b u : ℕ) (n : N) → IsArrayOf t a e b u → PointAt D t whole a n → PointAt D t whole e n
  first_points a e b u n is p = record {
    step = u;
    most = b * p.most + (b - 1);
    chain = of_elements a e b u p.most (chain_at t whole a p.step p.most p.chain (u * b) is.whole) is.elements is.sized
        is.some;
    sized = is.sized;
    small = is.small;
    stride = λ h. divided p.step (p.stride (subst (λ s. 0 < s) (sym same) (mul-pos is.more is.some))) p.small same;
    one = λ x. absurd (never x is.plain);
  }
    where
      same : p.step ≡ u * b
      same = some-injective (sym p.sized ∙ is.whole)

      never : {x : Bool} → x ≡ true → x ≡ false → ⊥
      never g j = absurd cc

      divided : (s : ℕ) → Has 0 s n → s ≤ 65536 → s ≡ u * b → Has 0 u n
      divided s h l e =
          subst (λ r. Has r u n) (mod-eq_of_lt is.more)
          (law.stride_divides n 0 u b
          (zero_stride (u * b) (mul-pos is.more is.some) (subst (λ x. x ≤ 65536) e l)) (subst (λ x. Has 0 x n) e h))

  -- and those of the element of an index
  pub element_points : (a e b u bytes : ℕ) (i n : N) → IsArrayOf t a e b u → PointAt D t whole a n
      → IfSome (moved_offset D (move i u false) (Some bytes) n) (PointAt D t whole e)
  element_points a e b u bytes i n is p =
      moved_points i n e u bytes false is.sized is.more is.plain (first_points a e b u n is p)
