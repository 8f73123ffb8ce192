-- A pointer that can be one alone, moved by one number.
use Rattle.std.proofs.Common.{◌≡◌, ℕ, zero, suc, ◌+◌, ◌*◌, ◌^◌, ◌<◌, ◌≤◌, ℤ, pos, negsuc, ◌+ℤ◌, ◌-ℤ◌, ◌*ℤ◌, ◌≤ℤ◌, neg_ℤ}
use Rattle.ep_pointers.proofs.Moving.{at_least, offset_in_range}
use Rattle.ep_evaluation.proofs.Sums.{exact_is}
use Rattle.std.proofs.Common.{Bool, true, false, ◌||◌, cond, List, [], ◌∷◌, slice_get, Option, Some, None}
use Rattle.std.proofs.Common.{IfSome, IsSomeAnd, refl, sym, ap, ◌∙◌, subst, arith}
use Rattle.std.specs.Prelude.{int_lt, slice_index}
use Rattle.std.specs.Option.{option_map}
use Rattle.std.proofs.lemmas.Int.{ints}
use Rattle.std.proofs.lemmas.Bool.{eq-eqb}
use Rattle.std.proofs.Math.IntN.{pos-*ℤ-pos}
use Rattle.ep_int.specs.declared.types.IntType.TheVariants.{I64}
use Rattle.ep_int.specs.Types.{InRange}
use Rattle.ep_int.specs.Memory.{Value as Datum, has}
use Rattle.ep_range_laws.proofs.Comparisons.{lt_false}
use Rattle.ep_domain.specs.Domain.{Ops, Lawful, Holds, IsSingle}
use Rattle.ep_pointers.specs.Value.{Pointers, HoldsPointer, into, one_target, only_place}
use Rattle.ep_pointers.specs.Sum.{move, moved, is_out, shown_of, exact_at, exact_ends, exact_range, leaves, IsPlaceAt}
use Rattle.ep_pointers.specs.Laws.{Fits}
use Rattle.ep_pointers.proofs.Gathered.{pointer_laws}
use Rattle.ep_cells.specs.declared.cell.Value.TheVariants.{Ptr}
use Rattle.ep_core.specs.Exec.{distance, place_in}
use Rattle.ep_equalities.specs.declared.pair.SideValue.{SideValue}
use Rattle.ep_evaluation.specs.Given.{shows_if}
use Rattle.ep_evaluation.specs.Operators.{pointer_in}
use Rattle.ep_evaluation.specs.Accesses.{move_leaves, moves_null, moved_by}
use Rattle.ep_evaluation.proofs.Sums.{IsInside, place_found}
use Rattle.ep_singles.specs.Cells.{IsOneValue, one_pointer}
use Rattle.ep_single_places.specs.Laws.{IsOneInto}
use Rattle.ep_single_places.specs.MoveLaws.{IsUnit, AreSizes, IsOneNumber, IsOneMove}
use Rattle.ep_single_places.proofs.Places.{one_into}

-- ---- numbers

-- so many bytes at most, forwards or backwards
record IsNear (k : ℤ) : Type 0 where
  low : (pos 0 -ℤ pos 4294967296) ≤ℤ k
  high : k ≤ℤ pos 4294967296

up_by : (a x : ℕ) (z : ℤ) → z ≡ pos x → a ≤ x → IsNear z → IsNear (pos a)
up_by a x z e i n =
    let h = n.high in record { low = omega (arith, ints); high = omega (arith, ints, e, i, h) }

down_by : (a x : ℕ) (z : ℤ) → z ≡ pos 0 -ℤ pos x → suc a ≤ x → IsNear z → IsNear (negsuc a)
down_by a x z e i n =
    let h = n.low in record { low = omega (arith, ints, e, i, h); high = omega (arith, ints) }

negative : (a unit : ℕ) → negsuc a *ℤ pos unit ≡ pos 0 -ℤ pos (suc a * unit)
negative a unit = by (suc a * unit)
  where
    by : (n : ℕ) → neg_ℤ (pos n) ≡ pos 0 -ℤ pos n
    by zero = refl
    by (suc n) = omega (arith, ints)

-- a number of units is no more than that of bytes
near_units : (unit : ℕ) → 1 ≤ unit → (k : ℤ) → IsNear (k *ℤ pos unit) → IsNear k
near_units unit h (pos a) n =
    up_by a (a * unit) (pos a *ℤ pos unit) (pos-*ℤ-pos a unit) (at_least a unit h) n
near_units unit h (negsuc a) n =
    down_by a (suc a * unit) (negsuc a *ℤ pos unit) (negative a unit) (at_least (suc a) unit h) n

near_bytes : (back : Bool) (z : ℤ) (q place size : ℕ) → pos q +ℤ cond back (pos 0 -ℤ z) z ≡ pos place
    → q < 4294967296 → place ≤ size → size < 4294967296 → IsNear z
near_bytes true z q place size e h i j =
    record { low = omega (arith, ints, e, h, i, j); high = omega (arith, ints, e, h, i, j) }
near_bytes false z q place size e h i j =
    record { low = omega (arith, ints, e, h, i, j); high = omega (arith, ints, e, h, i, j) }

in_type : (k : ℤ) → IsNear k → InRange I64 k
in_type k n =
    let l = n.low in let h = n.high in
    record { low = omega (arith, ints, l); high = omega (arith, ints, h) }

size_at : (sizes : List ℕ) (b size : ℕ) → slice_get sizes b ≡ Some size → slice_index sizes b ≡ size
size_at [] b size e = absurd (let z : None ≡ Some size = e in cc)
size_at (x ∷ sizes) zero size e = let z : Some x ≡ Some size = e in cc
size_at (x ∷ sizes) (suc b) size e = size_at sizes b size e

-- a single result in the block doesn't leave it
stays_in : (z : ℤ) (place size : ℕ) → z ≡ pos place → place ≤ size
    → ((int_lt z (pos 0) || int_lt (pos size) z) || false) ≡ false
stays_in z place size e h =
    ap (λ t. (t || int_lt (pos size) z) || false) (lt_false z (pos 0) (omega (arith, ints, e)))
    ∙ ap (λ t. t || false) (lt_false (pos size) z (omega (arith, ints, e, h)))

ends_stay : (back : Bool) (unit q : ℕ) (k : ℤ) (place size : ℕ) → exact_at back unit (pos q) k ≡ pos place
    → place ≤ size → (leaves (Some size) (exact_ends back unit (pos q, pos q) (k, k)) || false) ≡ false
ends_stay true unit q k place size e h = stays_in (exact_at true unit (pos q) k) place size e h
ends_stay false unit q k place size e h = stays_in (exact_at false unit (pos q) k) place size e h

-- ---- one target

module _ {N : Type 0} (D : Ops N) (law : Lawful D) (sizes : List ℕ) (each : AreSizes sizes) (unit : ℕ)
    (u : IsUnit unit) (back : Bool) where
  fits : (c : N) → Fits (move c unit back) sizes
  fits c = record { positive = u.positive; unit = u.small; each_size = each }

  module _ (b q size : ℕ) (n c : N) (k : ℤ) (w : Datum) (sn : IsSingle D n (pos q)) (sc : IsSingle D c k)
      (l : q < 2 ^ 32) (s : slice_get sizes b ≡ Some size)
      (e : place_in size b (pos q +ℤ distance unit k back) ≡ has w) where
    in_block : IsInside size b (pos q +ℤ distance unit k back) w
    in_block = place_found size b (pos q +ℤ distance unit k back) w e

    exact : exact_at back unit (pos q) k ≡ pos in_block.place
    exact = exact_is back unit q k ∙ in_block.is

    small : size < 2 ^ 32
    small = subst (λ n. n < 2 ^ 32) (size_at sizes b size s) (each b)

    near : IsNear k
    near = near_units unit u.positive k
        (near_bytes back (k *ℤ pos unit) q in_block.place size in_block.is l in_block.inside small)

    held : HoldsPointer D (one_target b n) (into b q)
    held =
        subst (λ t. IsSomeAnd (cond t (Some n) None) (λ (n : N). Holds D n (pos q))) (sym (eq-eqb b b refl))
        (law.range_single n (pos q) sn)

    pub one_moved : IsOneValue D (option_map Ptr (moved D (move c unit back) sizes (one_target b n)))
    one_moved =
        by (moved D (move c unit back) sizes (one_target b n))
        (((pointer_laws D law).sum_of_one (move c unit back) sizes (one_target b n) (fits c)).of_place b n (pos q) k
        refl sn sc (offset_in_range q l) (in_type k near))
        ((pointer_laws D law).sum_holds (move c unit back) sizes (one_target b n) (fits c) (tt, tt) b q size
        in_block.place k l held (law.range_single c k sc) exact s in_block.inside)
      where
        by : (r : Option (Pointers N)) → IfSome r (λ p. IsPlaceAt D sizes b (exact_at back unit (pos q) k) p)
            → IsSomeAnd r (λ p. HoldsPointer D p (into b in_block.place)) → IsOneValue D (option_map Ptr r)
        by None h i = absurd i
        by (Some r) h i = one_pointer r (only_place b h.n (exact_at back unit (pos q) k) h.place h.single)

    pub none_out : is_out D (move c unit back) sizes (one_target b n) ≡ false
    none_out =
        ap (λ o. leaves o (exact_range D (move c unit back) n) || false) s
        ∙ ap (λ (r : ℤ × ℤ). leaves (Some size) (exact_ends back unit r (D.range c)) || false) sn
        ∙ ap (λ (r : ℤ × ℤ). leaves (Some size) (exact_ends back unit (pos q, pos q) r) || false) sc
        ∙ ends_stay back unit q k in_block.place size exact in_block.inside

pub moves_are_one : {N : Type 0} (D : Ops N) → Lawful D → (sizes : List ℕ) → AreSizes sizes → (unit : ℕ) → IsUnit unit
    → (back : Bool) (x : SideValue N) (b q size : ℕ) → IsOneInto D x.value b q → q < 2 ^ 32
    → slice_get sizes b ≡ Some size → (o : Option N) (k : ℤ) → IsOneNumber D o k → (w : Datum)
    → place_in size b (pos q +ℤ distance unit k back) ≡ has w → IsOneMove D sizes unit back x o
moves_are_one {N = N} D law sizes each unit u back x b q size one l s o k number w e =
    let i = one_into D law x.value b q one.one one.allowed in
    let p : pointer_in x.value ≡ Some (one_target b i.n) = ap pointer_in i.is in
    record {
      not_null = ap (λ p. moves_null p o) p ∙ ap (λ o. moves_null (Some (one_target b i.n)) o) number.is;
      inside = ap (λ p. move_leaves D sizes unit back p o) p
          ∙ ap (λ o. move_leaves D sizes unit back (Some (one_target b i.n)) o) number.is
          ∙ ap (λ t. shows_if t (shown_of D (move number.n unit back) ((b, i.n) ∷ [])))
          (none_out D law sizes each unit u back b q size i.n number.n k w i.single number.single l s e);
      one = subst (λ p. IsOneValue D (option_map Ptr (moved_by D sizes unit back p o))) (sym p)
          (subst (λ o. IsOneValue D (option_map Ptr (moved_by D sizes unit back (Some (one_target b i.n)) o)))
          (sym number.is)
          (one_moved D law sizes each unit u back b q size i.n number.n k w i.single number.single l s e));
    }
