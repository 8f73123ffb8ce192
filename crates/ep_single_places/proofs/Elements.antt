-- An element of an array in place, of one pointer and one index.
use Rattle.std.proofs.Common.{◌≡◌, ℕ, ◌+◌, ◌*◌, ◌^◌, ◌<◌, ◌≤◌, ℤ, pos, ◌+ℤ◌, ◌-ℤ◌, ◌*ℤ◌}
use Rattle.ep_int.proofs.Arithmetic.{le_fact, le_test}
use Rattle.ep_evaluation.proofs.Elements.{natural, products, small_size}
use Rattle.std.proofs.Common.{Bool, true, false, ◌&&◌, ◌||◌, cond, List, [], ◌∷◌, Option, Some, None, IsSomeAnd, refl}
use Rattle.std.proofs.Common.{sym, ap, ◌∙◌, subst, arith}
use Rattle.std.specs.Prelude.{int_le, int_lt, nat_le, unsigned_abs, option_and_then}
use Rattle.std.specs.Option.{option_map}
use Rattle.std.proofs.lemmas.Int.{ints}
use Rattle.std.proofs.lemmas.Bool.{leb-true}
use Rattle.std.proofs.Math.IntN.{pos-*ℤ-pos}
use Rattle.ep_int.specs.Memory.{Value as Datum, pointer, has, faults, bounds}
use Rattle.ep_range_laws.specs.Ranges.{LiesIn}
use Rattle.ep_range_laws.proofs.Comparisons.{le_false, lt_false}
use Rattle.ep_domain.specs.Domain.{Ops, Lawful, IsSingle}
use Rattle.ep_pointers.specs.Value.{Pointers, Target, pointers, one_target, only_null, only_place}
use Rattle.ep_pointers.specs.Sum.{move, moved_offset, put, of_targets, exact_range, exact_ends, shown_of}
use Rattle.ep_cells.specs.declared.cell.Value.TheVariants.{Ptr}
use Rattle.ep_core.specs.Exec.{distance, place_in, element_at, greatest_offset}
use Rattle.ep_equalities.specs.declared.pair.SideValue.{SideValue}
use Rattle.ep_evaluation.specs.Given.{shows_if}
use Rattle.ep_evaluation.specs.Operators.{pointer_in}
use Rattle.ep_evaluation.specs.Accesses.{moves_null, index_in, element_of, leaves_array, index_leaves, passes_by}
use Rattle.ep_evaluation.specs.Accesses.{element_targets, element_passes}
use Rattle.ep_singles.specs.Cells.{IsOneValue, one_pointer}
use Rattle.ep_single_places.specs.Laws.{IsOneInto}
use Rattle.ep_single_places.specs.MoveLaws.{IsUnit, IsOneNumber, IsOneElement}
use Rattle.ep_single_places.proofs.Places.{one_into}
use Rattle.ep_single_places.proofs.Moves.{one_moved}

-- ---- the machine's index

record IsElement (bound unit q : ℕ) (i : ℤ) : Type 0 where
  index : ℕ
  is : i ≡ pos index
  below : index < bound
  near : q + index * unit ≤ greatest_offset

element_found : (bound unit b q : ℕ) (i : ℤ) (w : Datum) → element_at b q bound unit i ≡ has w
    → IsElement bound unit q i
element_found bound unit b q i w e =
    by (int_le (pos 0) i) (int_lt i (pos bound)) (nat_le (q + unsigned_abs i * unit) greatest_offset) refl refl refl e
  where
    by : (x y z : Bool) → int_le (pos 0) i ≡ x → int_lt i (pos bound) ≡ y
        → nat_le (q + unsigned_abs i * unit) greatest_offset ≡ z
        → cond ((x && y) && z) (has (pointer b (q + unsigned_abs i * unit))) (faults bounds) ≡ has w
        → IsElement bound unit q i
    by true true true k l m e =
        let n = natural bound i k l in record {
          index = unsigned_abs i;
          is = n.0;
          below = n.1;
          near = leb-true (q + unsigned_abs i * unit) greatest_offset m;
        }
    by true true false k l m e = absurd (let q : faults bounds ≡ has w = e in cc)
    by true false z k l m e = absurd (let q : faults bounds ≡ has w = e in cc)
    by false y z k l m e = absurd (let q : faults bounds ≡ has w = e in cc)

-- ---- as a move in a block of the greatest size

place_there : (z : ℤ) (p : ℕ) → z ≡ pos p → p ≤ greatest_offset → place_in greatest_offset 0 z
    ≡ has (pointer 0 (unsigned_abs z))
place_there z p e h =
    ap (λ t. cond (t && int_le z (pos greatest_offset)) (has (pointer 0 (unsigned_abs z))) (faults bounds))
    (le_test (pos 0) z (omega (arith, ints, e)))
    ∙ ap (λ t. cond t (has (pointer 0 (unsigned_abs z))) (faults bounds))
    (le_test z (pos greatest_offset) (omega (arith, ints, e, h)))

in_bound : (bound a : ℕ) → a < bound → LiesIn (pos 0, pos bound -ℤ pos 1) (pos a)
in_bound bound a h = record { low = omega (arith, ints); high = omega (arith, ints, h) }

not_below : (bound a : ℕ) → a < bound → leaves_array (pos a, pos a) bound ≡ false
not_below bound a h =
    ap (λ t. t || int_le (pos bound) (pos a)) (lt_false (pos a) (pos 0) (omega (arith, ints)))
    ∙ le_false (pos bound) (pos a) (omega (arith, ints, h))

module _ {N : Type 0} (D : Ops N) (law : Lawful D) (unit : ℕ) (u : IsUnit unit) where
  module _ (q a : ℕ) (n c : N) (sn : IsSingle D n (pos q)) (sc : IsSingle D c (pos a)) (l : q < 2 ^ 32)
      (near : q + a * unit ≤ greatest_offset) where
    abbrev offset : Option N
    offset = moved_offset D (move c unit false) (Some greatest_offset) n

    there : place_in greatest_offset 0 (pos q +ℤ distance unit (pos a) false)
        ≡ has (pointer 0 (unsigned_abs (pos q +ℤ (pos a *ℤ pos unit))))
    there = place_there (pos q +ℤ (pos a *ℤ pos unit)) (q + a * unit) (products q a unit) near

    -- the offset of the element is single
    record IsOneOffset (o : Option N) : Type 0 where
      m : N
      z : ℤ
      is : o ≡ Some m
      single : IsSingle D m z

    one_offset : IsOneOffset (moved_offset D (move c unit false) (Some greatest_offset) n)
    one_offset =
        by (moved_offset D (move c unit false) (Some greatest_offset) n)
        (one_moved D law (greatest_offset ∷ []) small_size unit u false 0 q greatest_offset n c (pos a)
        (pointer 0 (unsigned_abs (pos q +ℤ (pos a *ℤ pos unit)))) sn sc l refl there)
      where
        second : (b : ℕ) (m k : N) → ◌≡◌ {A = Pointers N} (pointers false ((0, m) ∷ [])) (one_target b k) → m ≡ k
        second b m k e =
            let f : ◌≡◌ {A = List (Target N)} ((0, m) ∷ []) ((b, k) ∷ []) = ap (λ (p : Pointers N). p.targets) e in
            let g : ◌≡◌ {A = Target N} (0, m) (b, k) = cc in
            ap (λ (t : Target N). t.1) g

        by : (o : Option N) → IsOneValue D (option_map Ptr (of_targets (put 0 o []))) → IsOneOffset o
        by None h = elim h [ ]
        by (Some m) (one_pointer _ (only_null e)) =
            absurd (let d : false ≡ true = ap (λ (p : Pointers N). p.null) e in cc)
        by (Some m) (one_pointer _ (only_place b k z e s)) =
            record { m = m; z = z; is = refl; single = subst (λ n. IsSingle D n z) (sym (second b m k e)) s }

    one_element : (b : ℕ) → IsOneValue D (option_map Ptr (of_targets (put b
        (moved_offset D (move c unit false) (Some greatest_offset) n) [])))
    one_element b =
        subst (λ (o : Option N). IsOneValue D (option_map Ptr (of_targets (put b o [])))) (sym one_offset.is)
        (one_pointer (one_target b one_offset.m)
        (only_place b one_offset.m one_offset.z refl one_offset.single))

    high_is : (exact_range D (move c unit false) n).1 ≡ pos (q + a * unit)
    high_is =
        ap (λ (r : ℤ × ℤ). (exact_ends false unit r (D.range c)).1) sn
        ∙ ap (λ (r : ℤ × ℤ). (exact_ends false unit (pos q, pos q) r).1) sc
        ∙ products q a unit

    not_past : (int_lt (pos greatest_offset) (exact_range D (move c unit false) n).1 || false) ≡ false
    not_past =
        ap (λ z. int_lt (pos greatest_offset) z || false) high_is
        ∙ ap (λ t. t || false) (lt_false (pos greatest_offset) (pos (q + a * unit)) (omega (arith, ints, near)))

  -- the index, cut to its bound
  record IsOneIndex (o : Option N) (a : ℕ) : Type 0 where
    c : N
    is : o ≡ Some c
    single : IsSingle D c (pos a)

  one_index : (bound a : ℕ) (n : N) → a < bound → IsSingle D n (pos a) → IsOneIndex (index_in D bound n) a
  one_index bound a n h s =
      by (index_in D bound n) (law.cut_single n (pos 0) (pos bound -ℤ pos 1) (pos a) s (in_bound bound a h))
    where
      by : (o : Option N) → IsSomeAnd o (λ c. IsSingle D c (pos a)) → IsOneIndex o a
      by None h = absurd h
      by (Some c) h = record { c = c; is = refl; single = h }

  abbrev value_with : ℕ → N → Option N → Option (Pointers N)
  value_with b n o = option_and_then (λ i. of_targets (element_targets D (move i unit false) ((b, n) ∷ []))) o

  pub elements_are_one : (bound : ℕ) (x : SideValue N) (b q : ℕ) → IsOneInto D x.value b q → q < 2 ^ 32
      → (o : Option N) (i : ℤ) → IsOneNumber D o i → (w : Datum) → element_at b q bound unit i ≡ has w
      → IsOneElement D bound unit x o
  elements_are_one bound x b q one l o i number w e =
      let g = element_found bound unit b q i w e in
      let sk : IsSingle D number.n (pos g.index) = subst (IsSingle D number.n) g.is number.single in
      let j = one_into D law x.value b q one.one one.allowed in
      let c = one_index bound g.index number.n g.below sk in
      let p : pointer_in x.value ≡ Some (one_target b j.n) = ap pointer_in j.is in
      record {
        not_null = ap (λ p. moves_null p o) p ∙ ap (λ o. moves_null (Some (one_target b j.n)) o) number.is;
        below = ap (λ p. index_leaves D bound p o) p
            ∙ ap (λ o. index_leaves D bound (Some (one_target b j.n)) o) number.is
            ∙ ap (λ t. shows_if t (D.range number.n))
            (ap (λ (r : ℤ × ℤ). leaves_array r bound) sk ∙ not_below bound g.index g.below);
        near = ap (λ p. element_passes D bound unit p o) p
            ∙ ap (λ o. element_passes D bound unit (Some (one_target b j.n)) o) number.is
            ∙ ap (λ o. passes_by D unit ((b, j.n) ∷ []) o) c.is
            ∙ ap (λ t. shows_if t (shown_of D (move c.c unit false) ((b, j.n) ∷ [])))
            (not_past q g.index j.n c.c j.single c.single l g.near);
        one = subst (λ p. IsOneValue D (option_map Ptr (element_of D bound unit p o))) (sym p)
            (subst (λ o. IsOneValue D (option_map Ptr (element_of D bound unit (Some (one_target b j.n)) o)))
            (sym number.is)
            (subst (λ (o : Option N). IsOneValue D (option_map Ptr (value_with b j.n o))) (sym c.is)
            (one_element q g.index j.n c.c j.single c.single l g.near b)));
      }
