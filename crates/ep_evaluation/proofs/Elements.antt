-- Elements of arrays in place.
use Rattle.std.proofs.Common.{◌≡◌, ℕ, zero, suc, ◌+◌, ◌*◌, ◌<◌, ◌≤◌, ℤ, pos, negsuc, ◌+ℤ◌, ◌-ℤ◌, ◌*ℤ◌, ◌≤ℤ◌, Bool}
use Rattle.ep_int.proofs.Arithmetic.{le_fact, le_test}
use Rattle.ep_cell_ranges.proofs.Shareds.{has_one}
use Rattle.std.proofs.lemmas.Bool.{or_parts}
use Rattle.std.proofs.Common.{true, false, ◌&&◌, ◌||◌, eqb, cond, List, [], ◌∷◌, ◌++◌, Option, Some, None, IsSomeAnd}
use Rattle.std.proofs.Common.{refl, sym, ap, ◌∙◌, subst, arith}
use Rattle.std.specs.Prelude.{int_le, int_lt, nat_le, unsigned_abs, slice_index, option_and_then}
use Rattle.std.specs.Option.{option_map}
use Rattle.std.proofs.lemmas.Int.{ints}
use Rattle.std.proofs.lemmas.Bool.{leb-true, le-leb}
use Rattle.std.proofs.Math.IntN.{pos-*ℤ-pos}
use Rattle.ep_alarms.specs.declared.types.AlarmKind.TheVariants.{U5, U6}
use Rattle.ep_int.specs.declared.types.Order.{Order}
use Rattle.ep_int.specs.declared.types.IntType.{IntType}
use Rattle.ep_int.specs.declared.types.Scalar.TheVariants.{Int, Pointer}
use Rattle.ep_int.specs.Memory.{Value as Datum, int, null, pointer, Found, has, faults, bounds, with_place}
use Rattle.ep_int.specs.Memory.{null_pointer as null_access}
use Rattle.ep_range_laws.specs.Ranges.{LiesIn}
use Rattle.ep_range_laws.proofs.Comparisons.{from_lt_true, from_le_false, from_lt_false, lt_true}
use Rattle.ep_range_laws.proofs.Corners.{product_up}
use Rattle.ep_bitslice.specs.Bits.{Numbers}
use Rattle.ep_domain.specs.Domain.{Ops, Lawful, Holds as HoldsNumber}
use Rattle.ep_pointers.specs.declared.sum.Move.{Move}
use Rattle.ep_pointers.specs.Value.{Pointers, Target, HoldsPointer, into, offset_at, one_target, AreAbove, IsRising}
use Rattle.ep_pointers.specs.Sum.{move, moved_offset, exact_range, put, of_targets, shown_of}
use Rattle.ep_pointers.specs.Laws.{Fits}
use Rattle.ep_pointers.proofs.Lists.{less, equals, more, order, same, none_above}
use Rattle.ep_pointers.proofs.Moving.{of_some}
use Rattle.ep_pointers.proofs.Leaving.{any_at}
use Rattle.ep_pointers.proofs.Gathered.{pointer_laws}
use Rattle.ep_cells.specs.declared.cell.Value.{Value}
use Rattle.ep_cells.specs.declared.cell.Value.TheVariants.{Num, Ptr}
use Rattle.ep_cells.specs.States.{Known, IsOfSort, HasRisingBlocks}
use Rattle.ep_cells.specs.Meaning.{Allows}
use Rattle.ep_core.specs.Program.{Program}
use Rattle.ep_core.specs.Exec.{with, with_number, greatest_offset, element_at}
use Rattle.ep_core.specs.Runs.{Side}
use Rattle.ep_core.specs.Typed.{IsTarget, ValueFits}
use Rattle.ep_equalities.specs.declared.pair.Mode.{Mode}
use Rattle.ep_equalities.specs.declared.pair.SideValue.{SideValue}
use Rattle.ep_equalities.specs.Pairs.{SideIn}
use Rattle.ep_evaluation.specs.Given.{Given, on, shown_if, shows_if, faults_on}
use Rattle.ep_evaluation.specs.Accesses.{moves_null, index_in, element_targets, element_of, leaves_array}
use Rattle.ep_evaluation.specs.Accesses.{index_leaves, may_pass, passes_by, element_passes}
use Rattle.ep_evaluation.specs.Operators.{pointer_in}
use Rattle.ep_evaluation.specs.Evaluation.{Means, Reaches, number, pointer as pointer_of, element_side, element_given}
use Rattle.ep_evaluation.specs.Laws.{Machine, SideFits, Sound, SoundPlace}
use Rattle.ep_evaluation.proofs.General.{none_left, reliable_parts, unmarked, not_shown, both_found}
use Rattle.ep_evaluation.proofs.General.{number_found, IsNum, is_int}
use Rattle.ep_evaluation.proofs.Generic.{Typed, Parts, Operator, IsOperator, HasFaults, two_hold, two_fit}
use Rattle.ep_evaluation.proofs.Arithmetic.{not_marked}
use Rattle.ep_evaluation.proofs.Pointers.{at, IsPointer}
use Rattle.ep_evaluation.proofs.Comparisons.{IsPtr, is_ptr}

-- ---- what a machine finds

pub record IsElement (bound unit b q : ℕ) (i : ℤ) (w : Datum) : Type 0 where
  pub index : ℕ
  pub is : i ≡ pos index
  pub below : index < bound
  pub near : q + index * unit ≤ greatest_offset
  pub datum : pointer b (q + index * unit) ≡ w

pub natural : (bound : ℕ) (i : ℤ) → int_le (pos 0) i ≡ true → int_lt i (pos bound) ≡ true
    → (i ≡ pos (unsigned_abs i)) × (unsigned_abs i < bound)
natural bound (pos a) e f = let l = from_lt_true (pos a) (pos bound) f in (refl, omega (arith, ints, l))
natural bound (negsuc a) e f = absurd (let l = le_fact (pos 0) (negsuc a) e in omega (arith, ints, l))

element_found : (bound unit b q : ℕ) (i : ℤ) (w : Datum) → element_at b q bound unit i ≡ has w
    → IsElement bound unit b q i w
element_found bound unit b q i w e =
    by (int_le (pos 0) i) (int_lt i (pos bound)) (nat_le (q + unsigned_abs i * unit) greatest_offset) refl refl refl e
  where
    by : (x y z : Bool) → int_le (pos 0) i ≡ x → int_lt i (pos bound) ≡ y
        → nat_le (q + unsigned_abs i * unit) greatest_offset ≡ z
        → cond ((x && y) && z) (has (pointer b (q + unsigned_abs i * unit))) (faults bounds) ≡ has w
        → IsElement bound unit b q i w
    by true true true k l m e =
        let n = natural bound i k l in record {
          index = unsigned_abs i;
          is = n.0;
          below = n.1;
          near = leb-true (q + unsigned_abs i * unit) greatest_offset m;
          datum = has_one (pointer b (q + unsigned_abs i * unit)) w e;
        }
    by true true false k l m e = absurd (let q : faults bounds ≡ has w = e in cc)
    by true false z k l m e = absurd (let q : faults bounds ≡ has w = e in cc)
    by false y z k l m e = absurd (let q : faults bounds ≡ has w = e in cc)

element_there : (bound unit b q a : ℕ) → a < bound → q + a * unit ≤ greatest_offset
    → element_at b q bound unit (pos a) ≡ has (pointer b (q + a * unit))
element_there bound unit b q a l n =
    rw (
      le_test (pos 0) (pos a) (omega (arith, ints)),
      lt_true (pos a) (pos bound) (omega (arith, ints, l)),
      le-leb
          (q + a * unit) greatest_offset n,
    ) refl

-- ---- targets that are moved

module _ {N : Type 0} (D : Ops N) (m : Move N) where
  abbrev there : Target N → Option N
  there t = moved_offset D m (Some greatest_offset) t.1

  above_put : (a b : ℕ) (o : Option N) (ts : List (Target N)) → b < a → AreAbove b ts → AreAbove b (put a o ts)
  above_put a b None ts h k = k
  above_put a b (Some n) ts h k = (h, k)

  put_same : (a : ℕ) (o : Option N) (ts : List (Target N)) → AreAbove a ts → offset_at (put a o ts) a ≡ o
  put_same a None ts h = none_above a ts h
  put_same a (Some n) ts h = rw ((same a a refl).equal) refl

  put_other : (a b : ℕ) (o : Option N) (ts : List (Target N)) → eqb a b ≡ false
      → offset_at (put a o ts) b ≡ offset_at ts b
  put_other a b None ts e = refl
  put_other a b (Some n) ts e = rw e refl

  rising_put : (a : ℕ) (o : Option N) (ts : List (Target N)) → AreAbove a ts → IsRising ts → IsRising (put a o ts)
  rising_put a None ts h r = r
  rising_put a (Some n) ts h r = (h, r)

  above_moved : (b : ℕ) (ts : List (Target N)) → AreAbove b ts → AreAbove b (element_targets D m ts)
  above_moved b [] h = tt
  above_moved b (t ∷ ts) h = above_put t.0 b (there t) (element_targets D m ts) h.0 (above_moved b ts h.1)

  pub rising_moved : (ts : List (Target N)) → IsRising ts → IsRising (element_targets D m ts)
  rising_moved [] r = tt
  rising_moved (t ∷ ts) r = rising_put t.0 (there t) (element_targets D m ts) (above_moved t.0 ts r.0)
      (rising_moved ts r.1)

  pub moved_at : (ts : List (Target N)) (b : ℕ) (n : N) → IsRising ts → offset_at ts b ≡ Some n
      → offset_at (element_targets D m ts) b ≡ moved_offset D m (Some greatest_offset) n
  moved_at [] b n r e = absurd cc
  moved_at (t ∷ ts) b n r e = elim (order t.0 b) [
    | less o ↦ put_other t.0 b (there t) (element_targets D m ts) o.differs ∙ moved_at ts b n r.1 (rw (o.differs) at e)
    | equals o ↦
        let f : Some t.1 ≡ Some n = rw (o.equal) at e in
        let g : t.1 ≡ n = cc in
        subst (λ a. offset_at (put t.0 (there t) (element_targets D m ts)) a ≡ moved_offset D m
        (Some greatest_offset) n) o.eq
        (put_same t.0 (there t) (element_targets D m ts) (above_moved t.0 ts r.0)
        ∙ ap (moved_offset D m (Some greatest_offset)) g)
    | more o ↦ put_other t.0 b (there t) (element_targets D m ts) o.differs'
        ∙ moved_at ts b n r.1 (rw (o.differs') at e)
  ]

pub small_size : (i : ℕ) → slice_index (greatest_offset ∷ []) i < 4294967296
small_size zero = omega arith
small_size (suc i) = omega arith

pub products : (q a unit : ℕ) → pos q +ℤ (pos a *ℤ pos unit) ≡ pos (q + a * unit)
products q a unit = by (pos a *ℤ pos unit) (a * unit) (pos-*ℤ-pos a unit)
  where
    by : (z : ℤ) (k : ℕ) → z ≡ pos k → pos q +ℤ z ≡ pos (q + k)
    by z k e = omega (arith, ints, e)

at_most : (q a unit : ℕ) (x y : ℤ) → pos q ≤ℤ x → (pos a *ℤ pos unit) ≤ℤ y → (x +ℤ y) ≤ℤ pos greatest_offset
    → q + a * unit ≤ greatest_offset
at_most q a unit x y h i j = by (pos a *ℤ pos unit) (a * unit) (pos-*ℤ-pos a unit) i
  where
    by : (z : ℤ) (k : ℕ) → z ≡ pos k → z ≤ℤ y → q + k ≤ greatest_offset
    by z k e i = omega (arith, ints, e, i, h, j)

below_bound : (bound a : ℕ) → a < bound → pos a ≤ℤ (pos bound -ℤ pos 1)
below_bound bound a h = omega (arith, ints, h)

between : (z lo hi : ℤ) (bound : ℕ) → LiesIn (lo, hi) z → int_lt lo (pos 0) ≡ false → int_le (pos bound) hi ≡ false
    → (a : ℕ) × (z ≡ pos a) × (a < bound)
between (pos a) lo hi bound l e f =
    let h = l.high in let g = from_le_false (pos bound) hi f in (a, refl, omega (arith, ints, h, g))
between (negsuc a) lo hi bound l e f =
    let h = l.low in let g = from_lt_false lo (pos 0) e in absurd (omega (arith, ints, h, g))

module _ {N : Type 0} (D : Ops N) (law : Lawful D) (p : Program) (ord : Side → Order)
    (sizes : List ℕ) (bound unit : ℕ) (positive : 1 ≤ unit) (small : unit ≤ 65536) (r : IntType) where
  one_fits : (c : N) → Fits (move c unit false) (greatest_offset ∷ [])
  one_fits c = record { positive = positive; unit = omega (arith, small); each_size = small_size }

  of_one : (o : Option N) (w : ℕ) → IsSomeAnd (of_targets (put 0 o [])) (λ q. HoldsPointer D q (into 0 w))
      → IsSomeAnd o (λ n. HoldsNumber D n (pos w))
  of_one None w h = absurd h
  of_one (Some n) w h = h

  -- the offset of an element below 2^32
  offset_held : (c n : N) (q a : ℕ) → q ≤ greatest_offset → HoldsNumber D n (pos q) → HoldsNumber D c (pos a)
      → q + a * unit ≤ greatest_offset
      → IsSomeAnd (moved_offset D (move c unit false) (Some greatest_offset) n)
      (λ k. HoldsNumber D k (pos (q + a * unit)))
  offset_held c n q a l h i near =
      of_one (moved_offset D (move c unit false) (Some greatest_offset) n) (q + a * unit)
      ((pointer_laws D law).sum_holds (move c unit false) (greatest_offset ∷ []) (one_target 0 n) (one_fits c)
      (tt, tt) 0 q greatest_offset
      (q + a * unit) (pos a) (omega (arith, l)) h i (products q a unit) refl near)

  as_value : (ts : List (Target N)) (b w : ℕ) (o : Option N) → offset_at ts b ≡ o
      → IsSomeAnd o (λ n. HoldsNumber D n (pos w))
      → Allows D Pointer (option_map Ptr (of_targets ts)) false (Some (pointer b w))
  as_value ts b w None e h = absurd h
  as_value ts b w (Some n) e h =
      subst (λ q. Allows D Pointer (option_map Ptr q) false (Some (pointer b w))) (sym (of_some D ts b n e))
      (subst (λ z. IsSomeAnd z (λ k. HoldsNumber D k (pos w))) (sym e) h)

  abbrev value_of : Pointers N → Option N → Option (Pointers N)
  value_of x o = option_and_then (λ i. of_targets (element_targets D (move i unit false) x.targets)) o

  target_held : (x : Pointers N) (c : N) (b q a : ℕ) → IsRising x.targets → IsTarget p b q → HoldsNumber D c (pos a)
      → q + a * unit ≤ greatest_offset → (t : Option N) → offset_at x.targets b ≡ t
      → IsSomeAnd t (λ n. HoldsNumber D n (pos q))
      → Allows D Pointer (option_map Ptr (of_targets (element_targets D (move c unit false) x.targets))) false
      (Some (pointer b (q + a * unit)))
  target_held x c b q a rises f i near None e h = absurd h
  target_held x c b q a rises f i near (Some n) e h =
      as_value (element_targets D (move c unit false) x.targets) b (q + a * unit)
      (moved_offset D (move c unit false) (Some greatest_offset) n)
      (moved_at D (move c unit false) x.targets b n rises e) (offset_held c n q a f.1 h i near)

  element_held : (x : Pointers N) (n : N) (b q : ℕ) (i : ℤ) (w : Datum) → IsRising x.targets
      → HoldsPointer D x (into b q)
      → IsTarget p b q → HoldsNumber D n i → element_at b q bound unit i ≡ has w
      → Allows D Pointer (option_map Ptr (value_of x (index_in D bound n))) false (Some w)
  element_held x n b q i w rises h f hn e =
      let g = element_found bound unit b q i w e in
      let l : LiesIn (pos 0, pos bound -ℤ pos 1) (pos g.index) =
      record { low = omega (arith, ints); high = below_bound bound g.index g.below } in
      let c = law.cut_holds n (pos 0) (pos bound -ℤ pos 1) (pos g.index) (subst (HoldsNumber D n) g.is hn) l in
      subst (λ d. Allows D Pointer (option_map Ptr (value_of x (index_in D bound n))) false (Some d)) g.datum
      (by g.index g.near (index_in D bound n) c)
    where
      by : (a : ℕ) → q + a * unit ≤ greatest_offset → (o : Option N) → IsSomeAnd o (λ c. HoldsNumber D c (pos a))
          → Allows D Pointer (option_map Ptr (value_of x o)) false (Some (pointer b (q + a * unit)))
      by a near None c = absurd c
      by a near (Some i) c = target_held x i b q a rises f c near (offset_at x.targets b) refl h

  -- no fault of its own
  may_not_pass : (c : N) (ts : List (Target N)) (b : ℕ) (n : N) → offset_at ts b ≡ Some n
      → may_pass D (move c unit false) ts ≡ false
      → (exact_range D (move c unit false) n).1 ≤ℤ pos greatest_offset
  may_not_pass c ts b n e none = by (int_lt (pos greatest_offset) (exact_range D (move c unit false) n).1) refl
    where
      by : (t : Bool) → int_lt (pos greatest_offset) (exact_range D (move c unit false) n).1 ≡ t
          → (exact_range D (move c unit false) n).1 ≤ℤ pos greatest_offset
      by false i = from_lt_false (pos greatest_offset) (exact_range D (move c unit false) n).1 i
      by true i =
          let t : may_pass D (move c unit false) ts ≡ true =
          any_at (λ (t : Target N). int_lt (pos greatest_offset) (exact_range D (move c unit false) t.1).1) ts b n e i
          in
          absurd (let z : true ≡ false = sym t ∙ none in cc)

  near_by : (c n : N) (q a : ℕ) → HoldsNumber D n (pos q) → HoldsNumber D c (pos a)
      → (exact_range D (move c unit false) n).1 ≤ℤ pos greatest_offset → q + a * unit ≤ greatest_offset
  near_by c n q a h i l =
      at_most q a unit (D.range n).1 ((D.range c).1 *ℤ pos unit) (law.range_encloses n (pos q) h).high
      (product_up (pos a) (D.range c).1 unit (law.range_encloses c (pos a) i).high) l

  element_is : (x : Pointers N) (n : N) (b q : ℕ) (i : ℤ) → HoldsPointer D x (into b q) → HoldsNumber D n i
      → leaves_array (D.range n) bound ≡ false → passes_by D unit x.targets (index_in D bound n) ≡ None
      → (w : Datum) × (element_at b q bound unit i ≡ has w)
  element_is x n b q i h hn inside passes =
      let e = or_parts (int_lt (D.range n).0 (pos 0)) (int_le (pos bound) (D.range n).1) inside in
      let a = between i (D.range n).0 (D.range n).1 bound (law.range_encloses n i hn) e.0 e.1 in
      let l : LiesIn (pos 0, pos bound -ℤ pos 1) (pos a.0) =
      record { low = omega (arith, ints); high = below_bound bound a.0 a.2 } in
      let c = law.cut_holds n (pos 0) (pos bound -ℤ pos 1) (pos a.0) (subst (HoldsNumber D n) a.1 hn) l in
      let near = by a.0 (index_in D bound n) c passes (offset_at x.targets b) refl h in
      (pointer b (q + a.0 * unit), ap (element_at b q bound unit) a.1 ∙ element_there bound unit b q a.0 a.2 near)
    where
      by : (a : ℕ) (o : Option N) → IsSomeAnd o (λ c. HoldsNumber D c (pos a)) → passes_by D unit x.targets o ≡ None
          → (t : Option N) → offset_at x.targets b ≡ t → IsSomeAnd t (λ n. HoldsNumber D n (pos q))
          → q + a * unit ≤ greatest_offset
      by a None c pass t e k = absurd c
      by a (Some i) c pass None e k = absurd k
      by a (Some i) c pass (Some m) e k =
          near_by i m q a k c
          (may_not_pass i x.targets b m e
          (not_marked (may_pass D (move i unit false) x.targets) (shown_of D (move i unit false) x.targets) pass))

  -- ---- the operator

  abbrev go : Datum → Datum → Found
  go u v = with_number (has v) (λ k. with_place (has u) (λ b q. element_at b q bound unit k))

  abbrev machine : (Side → Machine) → (Side → Machine) → Side → Machine
  machine f h s m = with (f s m)
      (λ u. with_number (h s m) (λ k. with_place (has u) (λ b q. element_at b q bound unit k)))

  abbrev Quiet : SideValue N → SideValue N → Type 0
  Quiet x y =
      (shown_if (moves_null (pointer_of D x) (number D y)) ≡ None)
      × (index_leaves D bound (pointer_of D x) (number D y) ≡ None) ×
      (element_passes D bound unit (pointer_of D x) (number D y) ≡ None)

  held_by : (x : Pointers N) (n : N) (u w : Datum) (k : ℤ) → IsRising x.targets → HoldsPointer D x (at u) → IsPointer u
      → ValueFits p Pointer u → HoldsNumber D n k → with_place (has u) (λ b q. element_at b q bound unit k) ≡ has w
      → Allows D Pointer (option_map Ptr (value_of x (index_in D bound n))) false (Some w)
  held_by x n (int z) w k rises h i f hn e = absurd i
  held_by x n null w k rises h i f hn e = absurd (let q : faults null_access ≡ has w = e in cc)
  held_by x n (pointer b q) w k rises h i f hn e = element_held x n b q k w rises h f hn e

  found_by : (x : Pointers N) (n : N) (u : Datum) (k : ℤ) → HoldsPointer D x (at u) → IsPointer u → HoldsNumber D n k
      → x.null ≡ false
      → leaves_array (D.range n) bound ≡ false → passes_by D unit x.targets (index_in D bound n) ≡ None
      → (w : Datum) × (with_place (has u) (λ b q. element_at b q bound unit k) ≡ has w)
  found_by x n (int z) k h i hn none inside passes = absurd i
  found_by x n null k h i hn none inside passes = absurd (let z : true ≡ false = sym h ∙ none in cc)
  found_by x n (pointer b q) k h i hn none inside passes = element_is x n b q k h hn inside passes

  module _ (x y : SideValue N) (u : Datum) (k : ℤ) (i : IsPtr D x.value u) (j : IsNum D r y.value k) where
    value_at : element_of D bound unit (pointer_of D x) (number D y) ≡ value_of i.value (index_in D bound j.number)
    value_at = rw (i.is, j.is) refl

    null_at : moves_null (pointer_of D x) (number D y) ≡ i.value.null
    null_at = rw (i.is, j.is) refl

    index_at : index_leaves D bound (pointer_of D x) (number D y) ≡ shows_if (leaves_array (D.range j.number) bound)
        (D.range j.number)
    index_at = rw (i.is, j.is) refl

    passes_at : element_passes D bound unit (pointer_of D x) (number D y) ≡ passes_by D unit i.value.targets
        (index_in D bound j.number)
    passes_at = rw (i.is, j.is) refl

  two_held : (n : Numbers) (k : Known N) (x y : SideValue N) (u v w : Datum) → ValueFits p Pointer u
      → SideFits D p ord k Pointer x
      → SideIn D n Pointer x u → SideIn D n (Int r) y v → go u v ≡ has w
      → SideIn D n Pointer (element_side D sizes bound unit x y) w
  two_held n k x y u v w fu fx hx hy e =
      let i = is_ptr D x.value u hx.value in
      let j = is_int D r y.value v hy.value in
      let g : with_place (has u) (λ b q. element_at b q bound unit j.z) ≡ has w = sym (ap (go u) j.datum) ∙ e in
      record {
        value = subst (λ o. Allows D Pointer (option_map Ptr o) false (Some w)) (sym (value_at x y u j.z i j.num))
            (held_by i.value j.num.number u w j.z (subst HasRisingBlocks i.is fx.rising) i.holds i.kind fu j.num.holds
            g);
        form = tt;
      }

  two_found : (n : Numbers) (x y : SideValue N) (u v : Datum) → SideIn D n Pointer x u → SideIn D n (Int r) y v
      → Quiet x y
      → (w : Datum) × (go u v ≡ has w)
  two_found n x y u v hx hy q =
      let i = is_ptr D x.value u hx.value in
      let j = is_int D r y.value v hy.value in
      let null : i.value.null ≡ false = sym (null_at x y u j.z i j.num)
      ∙ not_shown (moves_null (pointer_of D x) (number D y)) q.0 in
      let inside = not_marked (leaves_array (D.range j.num.number) bound) (D.range j.num.number)
      (sym (index_at x y u j.z i j.num) ∙ q.1) in
      let w = found_by i.value j.num.number u j.z i.holds i.kind j.num.holds null inside
      (sym (passes_at x y u j.z i j.num) ∙ q.2) in
      (w.0, ap (go u) j.datum ∙ w.1)

  ptr_sort : (o : Option (Pointers N)) → IsOfSort Pointer (option_map Ptr o)
  ptr_sort None = tt
  ptr_sort (Some q) = tt

  rises_of : (ts : List (Target N)) → IsRising ts → HasRisingBlocks (option_map Ptr (of_targets ts))
  rises_of [] h = tt
  rises_of (t ∷ ts) h = h

  element_rises : (v : Option (Value N)) (o : Option N) → HasRisingBlocks v
      → HasRisingBlocks (option_map Ptr (element_of D bound unit (pointer_in v) o))
  element_rises None o h = tt
  element_rises (Some (Num n)) o h = tt
  element_rises (Some (Ptr q)) None h = tt
  element_rises (Some (Ptr q)) (Some n) h = by (index_in D bound n)
    where
      by : (o : Option N) → HasRisingBlocks (option_map Ptr (value_of q o))
      by None = tt
      by (Some i) = rises_of (element_targets D (move i unit false) q.targets)
          (rising_moved D (move i unit false) q.targets h)

  operator : Operator D law p ord Pointer Pointer (Int r) go (element_side D sizes bound unit) Quiet
  operator = record {
    held = λ n k x y u v w fu _ fx _ hx hy e. two_held n k x y u v w fu fx hx hy e;
    found = λ n k x y u v _ _ _ _ hx hy q. two_found n x y u v hx hy q;
    fits = λ k x y fx _. record {
      sort = ptr_sort (element_of D bound unit (pointer_of D x) (number D y));
      rising = element_rises x.value (number D y) fx.rising;
      form = tt;
    };
  }

  element_parts : (x y : Found) (z : Datum)
      → with x (λ u. with_number y (λ k. with_place (has u) (λ b q. element_at b q bound unit k))) ≡ has z
      → Parts x y go z
  element_parts x y z e =
      let a = both_found x (λ u. with_number y (λ k. with_place (has u) (λ b q. element_at b q bound unit k))) z e in
      let b = number_found y (λ k. with_place (has a.0) (λ b q. element_at b q bound unit k)) z a.2 in
      record { u = a.0; v = int b.0; first = a.1; second = b.1; is = b.2 }

  is_operator : (f h : Side → Machine) → IsOperator D law p ord Pointer (Int r) go f h (machine f h)
  is_operator f h = record {
    parts = λ s m z e. element_parts (f s m) (h s m) z e;
    whole = λ s m u v _ _ e k.
        rw (e, k) refl;
  }

  element_faults : (mode : Mode) (x y : Given N)
      → HasFaults D law p ord mode x y Quiet (element_given D sizes bound unit mode x y).faults
  element_faults mode x y =
      let null = faults_on mode U6 (λ s. shown_if (moves_null (pointer_of D (on x.pair s)) (number D (on y.pair s)))) in
      let index = faults_on mode U5 (λ s. index_leaves D bound (pointer_of D (on x.pair s)) (number D (on y.pair s))) in
      let pass = faults_on mode U5
      (λ s. element_passes D bound unit (pointer_of D (on x.pair s)) (number D (on y.pair s))) in
      let own = null ++ (index ++ pass) in
      record {
        none_first = λ e. (none_left x.faults (y.faults ++ own) e).0;
        none_second = λ e. (none_left y.faults own (none_left x.faults (y.faults ++ own) e).1).0;
        quiet = λ e s i.
            (let q = none_left null (index ++ pass)
            (none_left y.faults own (none_left x.faults (y.faults ++ own) e).1).1 in
            let r = none_left index pass q.1 in (
              unmarked mode U6 (λ s. shown_if (moves_null (pointer_of D (on x.pair s)) (number D (on y.pair s)))) s q.0
                  i,
              unmarked mode U5 (λ s. index_leaves D bound (pointer_of D (on x.pair s)) (number D (on y.pair s))) s r.0
                  i,
              unmarked mode U5 (λ s. element_passes D bound unit (pointer_of D (on x.pair s)) (number D (on y.pair s)))
                  s r.1 i,
            ));
        sure_first = λ e. (reliable_parts mode x.faults (y.faults ++ own) e).0;
        sure_second = λ e. (reliable_parts mode y.faults own (reliable_parts mode x.faults (y.faults ++ own) e).1).0;
      }

  pub element_sound : (f h : Side → Machine) (a : Reaches N) (b : Means N) → Typed p Pointer f → Typed p (Int r) h
      → SoundPlace D p ord f a → Sound D p ord (Int r) h b
      → SoundPlace D p ord (machine f h) (λ m k. element_given D sizes bound unit m (a m k) (b.gives m k))
  element_sound f h a b tf th sa sb = record {
    gives = λ k m kept mode.
        two_hold D law p ord Pointer Pointer (Int r) go (element_side D sizes bound unit) Quiet f h
        (machine f h) operator (is_operator f h) tf th
        k m kept mode (a mode k) (b.gives mode k)
        (element_given D sizes bound unit mode (a mode k) (b.gives mode k)).faults
        (element_faults mode (a mode k) (b.gives mode k)) (sa.gives k m kept mode) (sb.gives k m kept mode)
        (sa.fits k kept.state mode) (sb.fits k kept.state mode);
    fits = λ k i mode s.
        two_fit D law p ord Pointer Pointer (Int r) go (element_side D sizes bound unit) Quiet operator k mode
        (a mode k) (b.gives mode k)
        (element_given D sizes bound unit mode (a mode k) (b.gives mode k)).faults (sa.fits k i mode)
        (sb.fits k i mode) s;
  }
