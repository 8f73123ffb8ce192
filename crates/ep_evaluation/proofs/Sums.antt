-- Sums of pointers and numbers, and members.
use Rattle.std.proofs.Common.{◌≡◌, ℕ, zero, suc, ◌+◌, ◌*◌, ◌<◌, ◌≤◌, ℤ, pos, negsuc, ◌+ℤ◌, ◌-ℤ◌, ◌*ℤ◌, inl, inr, Bool}
use Rattle.ep_int.proofs.Arithmetic.{le_fact}
use Rattle.ep_core.proofs.Typing.{block_small}
use Rattle.ep_cell_ranges.proofs.Shareds.{has_one}
use Rattle.std.proofs.Common.{true, false, ◌&&◌, cond, List, [], ◌∷◌, ◌++◌, length, map, slice_get, Option, Some}
use Rattle.std.proofs.Common.{None, IfSome, IsSomeAnd, refl, sym, ap, ◌∙◌, subst, arith}
use Rattle.std.specs.Prelude.{int_le, nat_le, unsigned_abs, sum_by, slice_index}
use Rattle.std.specs.Option.{option_map}
use Rattle.std.proofs.lemmas.Int.{ints}
use Rattle.std.proofs.lemmas.Bool.{and_parts, leb-true, leb-false}
use Rattle.std.proofs.lemmas.Option.{slice_get-map}
use Rattle.std.proofs.lemmas.List.Sums.{sum_by-cons}
use Rattle.std.proofs.Math.IntN.{pos-*ℤ-pos}
use Rattle.ep_alarms.specs.declared.types.AlarmKind.TheVariants.{U5, U6}
use Rattle.ep_int.specs.declared.types.Order.{Order}
use Rattle.ep_int.specs.declared.types.IntType.{IntType}
use Rattle.ep_int.specs.declared.types.Scalar.TheVariants.{Int, Pointer}
use Rattle.ep_int.specs.Arith.{IsOfSomeType}
use Rattle.ep_int.specs.Memory.{Value as Datum, int, null, pointer, Found, has, faults, bounds}
use Rattle.ep_int.specs.Memory.{null_pointer as null_access}
use Rattle.ep_range_laws.proofs.Comparisons.{from_le_false}
use Rattle.ep_bitslice.specs.Bits.{Numbers}
use Rattle.ep_domain.specs.Domain.{Ops, Lawful, Holds as HoldsNumber}
use Rattle.ep_pointers.specs.Value.{Pointers, HoldsPointer, into, offset_at, IsRising}
use Rattle.ep_pointers.specs.Sum.{move, moved, is_out, exact_at, IsOutside, MayLeave, shown_of}
use Rattle.ep_pointers.specs.Laws.{Fits}
use Rattle.ep_pointers.proofs.Gathered.{pointer_laws}
use Rattle.ep_pointers.proofs.Leaving.{leaves_so}
use Rattle.ep_cells.specs.declared.cell.Value.{Value}
use Rattle.ep_cells.specs.declared.cell.Value.TheVariants.{Num, Ptr}
use Rattle.ep_cells.specs.States.{Known, IsOfSort, HasRisingBlocks}
use Rattle.ep_cells.specs.Meaning.{Allows}
use Rattle.ep_core.specs.Program.{Block, Program}
use Rattle.ep_core.specs.Exec.{with, with_number, distance, place_in, block_size, size_at, greatest_offset}
use Rattle.ep_core.specs.Exec.{moved as machine_moved}
use Rattle.ep_core.specs.Runs.{Side, left, right}
use Rattle.ep_core.specs.Typed.{IsTarget, ValueFits}
use Rattle.ep_core.specs.WellFormed.{blocks_fit}
use Rattle.ep_equalities.specs.declared.pair.Mode.{Mode}
use Rattle.ep_equalities.specs.declared.pair.SideValue.{SideValue}
use Rattle.ep_equalities.specs.Pairs.{SideIn}
use Rattle.ep_evaluation.specs.Given.{Given, on, shown_if, shows_if, faults_on}
use Rattle.ep_evaluation.specs.Accesses.{moved_by, move_leaves, moves_null}
use Rattle.ep_evaluation.specs.Operators.{pointer_in}
use Rattle.ep_evaluation.specs.Evaluation.{Means, Reaches, number, pointer as pointer_of, offset_number, move_side}
use Rattle.ep_evaluation.specs.Evaluation.{sum_side, sum_given, sum_means, member_given}
use Rattle.ep_evaluation.specs.Laws.{Machine, SideFits, Sound, SoundPlace, sizes_of}
use Rattle.ep_evaluation.proofs.General.{none_left, reliable_parts, unmarked, not_shown, both_found}
use Rattle.ep_evaluation.proofs.General.{number_found, IsNum, is_int}
use Rattle.ep_evaluation.proofs.Generic.{Typed, Parts, Part, Operator, IsOperator, HasFaults, two_hold, two_fit}
use Rattle.ep_evaluation.proofs.Generic.{OperatorOf, IsOperatorOf, HasFaultsOf, one_holds, one_fits}
use Rattle.ep_evaluation.proofs.Arithmetic.{not_marked}
use Rattle.ep_evaluation.proofs.Leaves.{plain_sound}
use Rattle.ep_evaluation.proofs.Pointers.{at, IsPointer}
use Rattle.ep_evaluation.proofs.Comparisons.{IsPtr, is_ptr}

-- ---- blocks

sized : (bs : List Block) (i n : ℕ) → sum_by (λ (x : Block). x.size) bs ≤ n
    → slice_index (map (λ (x : Block). x.size) bs) i ≤ n
sized [] i n h = omega arith
sized (x ∷ bs) zero n h = let e = sum_by-cons (λ (y : Block). y.size) x bs in omega (arith, e, h)
sized (x ∷ bs) (suc i) n h = let e = sum_by-cons (λ (y : Block). y.size) x bs in sized bs i n (omega (arith, e, h))

pub sizes_small : (p : Program) → blocks_fit p.types p.blocks ≡ true → (i : ℕ)
    → slice_index (sizes_of p.blocks) i ≤ 65536
sizes_small p fit i =
    sized p.blocks i 65536 (leb-true (sum_by (λ (x : Block). x.size) p.blocks) 65536
    (and_parts _ (nat_le (sum_by (λ (x : Block). x.size) p.blocks) 65536) fit).1)

size_of_block : (o : Order) (p : Program) (bs : List Block) (b : ℕ) → b < length bs
    → option_map (λ (x : Block). x.size) (slice_get bs b) ≡ Some (block_size o p (slice_get bs b))
size_of_block o p [] b h = absurd (let z : ⊥ = omega (arith, h) in z)
size_of_block o p (x ∷ bs) zero h = refl
size_of_block o p (x ∷ bs) (suc b) h = size_of_block o p bs b (omega (arith, h))

pub size_is : (o : Order) (p : Program) (b : ℕ) → b < length p.blocks
    → slice_get (sizes_of p.blocks) b ≡ Some (size_at o p b)
size_is o p b h = slice_get-map (λ (x : Block). x.size) p.blocks b ∙ size_of_block o p p.blocks b h

small_by : (b : ℕ) (bs : List Block) (o : Order) (p : Program) (n : ℕ) → sum_by (λ (x : Block). x.size) bs ≤ n
    → block_size o p (slice_get bs b) ≤ n
small_by b [] o p n h = omega arith
small_by zero (x ∷ bs) o p n h = let e = sum_by-cons (λ (y : Block). y.size) x bs in omega (arith, e, h)
small_by (suc b) (x ∷ bs) o p n h = let e = sum_by-cons (λ (y : Block). y.size) x bs in
    small_by b bs o p n (omega (arith, e, h))

-- ---- a place in a block

pub record IsInside (size b : ℕ) (t : ℤ) (w : Datum) : Type 0 where
  pub place : ℕ
  pub is : t ≡ pos place
  pub inside : place ≤ size
  pub datum : pointer b place ≡ w

natural : (size : ℕ) (t : ℤ) → int_le (pos 0) t ≡ true → int_le t (pos size) ≡ true
    → (t ≡ pos (unsigned_abs t)) × (unsigned_abs t ≤ size)
natural size (pos a) e f = let l = le_fact (pos a) (pos size) f in (refl, omega (arith, ints, l))
natural size (negsuc a) e f = absurd (let l = le_fact (pos 0) (negsuc a) e in omega (arith, ints, l))

pub place_found : (size b : ℕ) (t : ℤ) (w : Datum) → place_in size b t ≡ has w → IsInside size b t w
place_found size b t w e = by (int_le (pos 0) t) (int_le t (pos size)) refl refl e
  where
    by : (x y : Bool) → int_le (pos 0) t ≡ x → int_le t (pos size) ≡ y
        → cond (x && y) (has (pointer b (unsigned_abs t))) (faults bounds) ≡ has w → IsInside size b t w
    by true true i j e =
        let n = natural size t i j in
        record { place = unsigned_abs t; is = n.0; inside = n.1; datum = has_one (pointer b (unsigned_abs t)) w e }
    by true false i j e = absurd (let q : faults bounds ≡ has w = e in cc)
    by false y i j e = absurd (let q : faults bounds ≡ has w = e in cc)

outside_low : (size : ℕ) (t : ℤ) → int_le (pos 0) t ≡ false → IsOutside (Some size) t
outside_low size t e = inl (from_le_false (pos 0) t e)

outside_high : (size : ℕ) (t : ℤ) → int_le t (pos size) ≡ false → IsOutside (Some size) t
outside_high size t e = inr (from_le_false t (pos size) e)

-- where it can't be outside, it is there
place_is : (size b : ℕ) (t : ℤ) → (IsOutside (Some size) t → ⊥) → (w : Datum) × (place_in size b t ≡ has w)
place_is size b t h = by (int_le (pos 0) t) (int_le t (pos size)) refl refl
  where
    by : (x y : Bool) → int_le (pos 0) t ≡ x → int_le t (pos size) ≡ y
        → (w : Datum) × (cond (x && y) (has (pointer b (unsigned_abs t))) (faults bounds) ≡ has w)
    by true true i j = (pointer b (unsigned_abs t), refl)
    by true false i j = absurd (h (outside_high size t j))
    by false y i j = absurd (h (outside_low size t i))

pub exact_is : (back : Bool) (unit q : ℕ) (y : ℤ) → exact_at back unit (pos q) y ≡ pos q +ℤ distance unit y back
exact_is false unit q y = refl
exact_is true unit q y = by (y *ℤ pos unit)
  where
    by : (z : ℤ) → pos q -ℤ z ≡ pos q +ℤ (pos 0 -ℤ z)
    by z = omega (arith, ints)

module _ {N : Type 0} (D : Ops N) (law : Lawful D) (p : Program) (ord : Side → Order)
    (fit : blocks_fit p.types p.blocks ≡ true)
    (unit : ℕ) (positive : 1 ≤ unit) (small : unit ≤ 65536) (back : Bool) where
  abbrev sizes : List ℕ
  sizes = sizes_of p.blocks

  abbrev size : ℕ → ℕ
  size b = size_at (ord left) p b

  sum_fits : (n : N) → Fits (move n unit back) sizes
  sum_fits n = record {
    positive = positive;
    unit = omega (arith, small);
    each_size = λ i. (let l = sizes_small p fit i in omega (arith, l));
  }

  -- ---- a pointer and a number, of one side

  as_value : (r : Option (Pointers N)) (b w : ℕ) → IsSomeAnd r (λ q. HoldsPointer D q (into b w))
      → Allows D Pointer (option_map Ptr r) false (Some (pointer b w))
  as_value None b w h = absurd h
  as_value (Some q) b w h = h

  pub step_held : (x : Pointers N) (n : N) (b q : ℕ) (y t : ℤ) (w : Datum) → IsRising x.targets
      → HoldsPointer D x (into b q)
      → IsTarget p b q → HoldsNumber D n y → t ≡ pos q +ℤ distance unit y back → place_in (size b) b t ≡ has w
      → Allows D Pointer (option_map Ptr (moved D (move n unit back) sizes x)) false (Some w)
  step_held x n b q y t w r h target hn is e =
      let i = place_found (size b) b t w e in
      let o : q < 4294967296 = (let l = target.1 in omega (arith, l)) in
      subst (λ d. Allows D Pointer (option_map Ptr (moved D (move n unit back) sizes x)) false (Some d)) i.datum
      (as_value (moved D (move n unit back) sizes x) b i.place
      ((pointer_laws D law).sum_holds (move n unit back) sizes x (sum_fits n) r b q (size b) i.place y o h hn
      (exact_is back unit q y ∙ (sym is ∙ i.is)) (size_is (ord left) p b target.0) i.inside))

  leaves_if : (x : Pointers N) (n : N) (b q : ℕ) (y : ℤ) → IsRising x.targets → b < length p.blocks
      → HoldsPointer D x (into b q)
      → HoldsNumber D n y → is_out D (move n unit back) sizes x ≡ false
      → IsOutside (Some (size b)) (pos q +ℤ distance unit y back) → ⊥
  leaves_if x n b q y r l h hn none out = by (offset_at x.targets b) refl h
    where
      by : (o : Option N) → offset_at x.targets b ≡ o → IsSomeAnd o (λ m. HoldsNumber D m (pos q)) → ⊥
      by None e i = absurd i
      by (Some m) e i =
          let m : MayLeave D (move n unit back) sizes x.targets = record {
            block = b;
            v = pos q +ℤ distance unit y back;
            result = record {
              offsets = m;
              x = pos q;
              y = y;
              there = e;
              left = law.range_encloses m (pos q) i;
              right = law.range_encloses n y hn;
              result = sym (exact_is back unit q y);
            };
            outside = subst (λ s. IsOutside s (pos q +ℤ distance unit y back)) (sym (size_is (ord left) p b l)) out;
          } in
          let t : is_out D (move n unit back) sizes x ≡ true = (leaves_so D law n unit back sizes x.targets r).1 m in
          let z : true ≡ false = sym t ∙ none in cc

  pub step_found : (x : Pointers N) (n : N) (b q : ℕ) (y : ℤ) → IsRising x.targets → b < length p.blocks
      → HoldsPointer D x (into b q)
      → HoldsNumber D n y → is_out D (move n unit back) sizes x ≡ false
      → (w : Datum) × (place_in (size b) b (pos q +ℤ distance unit y back) ≡ has w)
  step_found x n b q y r l h hn none =
      place_is (size b) b (pos q +ℤ distance unit y back) (λ out. leaves_if x n b q y r l h hn none out)

  rising_at : (o : Option (Value N)) (x : Pointers N) → o ≡ Some (Ptr x) → HasRisingBlocks o → IsRising x.targets
  rising_at o x e h = subst HasRisingBlocks e h

  moved_fits : (k : Known N) (x y : SideValue N) → SideFits D p ord k Pointer x → (o : Option N)
      → HasRisingBlocks (option_map Ptr (moved_by D sizes unit back (pointer_of D x) o))
  moved_fits k x y fx o = by x.value o fx.rising
    where
      rises : (r : Option (Pointers N)) → IfSome r (λ q. IsRising q.targets) → HasRisingBlocks (option_map Ptr r)
      rises None h = tt
      rises (Some q) h = h

      by : (v : Option (Value N)) (o : Option N) → HasRisingBlocks v
          → HasRisingBlocks (option_map Ptr (moved_by D sizes unit back (pointer_in v) o))
      by None o h = tt
      by (Some (Num n)) o h = tt
      by (Some (Ptr q)) None h = tt
      by (Some (Ptr q)) (Some n) h =
          rises (moved D (move n unit back) sizes q) ((pointer_laws D law).sum_rises (move n unit back) sizes q h)

  ptr_sort : (o : Option (Pointers N)) → IsOfSort Pointer (option_map Ptr o)
  ptr_sort None = tt
  ptr_sort (Some q) = tt

  -- ---- sums

  module _ (r : IntType) where
    abbrev go : Datum → Datum → Found
    go u v = with_number (has v) (λ k. machine_moved (ord left) p (has u) (distance unit k back))

    abbrev machine : (Side → Machine) → (Side → Machine) → Side → Machine
    machine f h s m = with (f s m)
        (λ u. with_number (h s m) (λ k. machine_moved (ord s) p (has u) (distance unit k back)))

    abbrev Quiet : SideValue N → SideValue N → Type 0
    Quiet x y =
        (shown_if (moves_null (pointer_of D x) (number D y)) ≡ None)
        × (move_leaves D sizes unit back (pointer_of D x) (number D y) ≡ None)

    by_pointer : (x : Pointers N) (n : N) (u w : Datum) (k : ℤ) → IsRising x.targets → HoldsPointer D x (at u)
        → IsPointer u
        → ValueFits p Pointer u → HoldsNumber D n k → machine_moved (ord left) p (has u) (distance unit k back) ≡ has w
        → Allows D Pointer (option_map Ptr (moved D (move n unit back) sizes x)) false (Some w)
    by_pointer x n (int z) w k r h i f hn e = absurd i
    by_pointer x n null w k r h i f hn e = absurd (let q : faults null_access ≡ has w = e in cc)
    by_pointer x n (pointer b q) w k r h i f hn e = step_held x n b q k
        (pos q +ℤ distance unit k back) w r h f hn refl e

    moved_at : (x y : SideValue N) (u : Datum) (k : ℤ) → (i : IsPtr D x.value u) → (j : IsNum D r y.value k)
        → moved_by D sizes unit back (pointer_of D x) (number D y) ≡ moved D (move j.number unit back) sizes i.value
    moved_at x y u k i j = rw (i.is, j.is) refl

    sum_held : (n : Numbers) (k : Known N) (x y : SideValue N) (u v w : Datum) → ValueFits p Pointer u
        → SideFits D p ord k Pointer x
        → SideIn D n Pointer x u → SideIn D n (Int r) y v → go u v ≡ has w
        → SideIn D n Pointer (sum_side D sizes unit back x y) w
    sum_held n k x y u v w fu fx hx hy e =
        let i = is_ptr D x.value u hx.value in
        let j = is_int D r y.value v hy.value in
        let g : machine_moved (ord left) p (has u) (distance unit j.z back) ≡ has w = sym (ap (go u) j.datum) ∙ e in
        record {
          value = subst (λ o. Allows D Pointer (option_map Ptr o) false (Some w)) (sym (moved_at x y u j.z i j.num))
              (by_pointer i.value j.num.number u w j.z (rising_at x.value i.value i.is fx.rising) i.holds i.kind fu
              j.num.holds g);
          form = tt;
        }

    found_at : (x : Pointers N) (n : N) (u : Datum) (k : ℤ) → IsRising x.targets → HoldsPointer D x (at u) → IsPointer u
        → ValueFits p Pointer u → HoldsNumber D n k → x.null ≡ false → is_out D (move n unit back) sizes x ≡ false
        → (w : Datum) × (machine_moved (ord left) p (has u) (distance unit k back) ≡ has w)
    found_at x n (int z) k r h i f hn none out = absurd i
    found_at x n null k r h i f hn none out = absurd (let z : true ≡ false = sym h ∙ none in cc)
    found_at x n (pointer b q) k r h i f hn none out = step_found x n b q k r f.0 h hn out

    null_at : (x y : SideValue N) (u : Datum) (k : ℤ) → (i : IsPtr D x.value u) → (j : IsNum D r y.value k)
        → moves_null (pointer_of D x) (number D y) ≡ i.value.null
    null_at x y u k i j = rw (i.is, j.is) refl

    leaves_at : (x y : SideValue N) (u : Datum) (k : ℤ) → (i : IsPtr D x.value u) → (j : IsNum D r y.value k)
        → move_leaves D sizes unit back (pointer_of D x) (number D y)
        ≡ shows_if (is_out D (move j.number unit back) sizes i.value)
        (shown_of D (move j.number unit back) i.value.targets)
    leaves_at x y u k i j = rw (i.is, j.is) refl

    sum_found : (n : Numbers) (k : Known N) (x y : SideValue N) (u v : Datum) → ValueFits p Pointer u
        → SideFits D p ord k Pointer x
        → SideIn D n Pointer x u → SideIn D n (Int r) y v → Quiet x y → (w : Datum) × (go u v ≡ has w)
    sum_found n k x y u v fu fx hx hy q =
        let i = is_ptr D x.value u hx.value in
        let j = is_int D r y.value v hy.value in
        let null : i.value.null ≡ false = sym (null_at x y u j.z i j.num)
        ∙ not_shown (moves_null (pointer_of D x) (number D y)) q.0 in
        let out = not_marked (is_out D (move j.num.number unit back) sizes i.value)
        (shown_of D (move j.num.number unit back) i.value.targets)
        (sym (leaves_at x y u j.z i j.num) ∙ q.1) in
        let w = found_at i.value j.num.number u j.z (rising_at x.value i.value i.is fx.rising) i.holds i.kind fu
        j.num.holds null out in
        (w.0, ap (go u) j.datum ∙ w.1)

    operator : Operator D law p ord Pointer Pointer (Int r) go (sum_side D sizes unit back) Quiet
    operator = record {
      held = λ n k x y u v w fu _ fx _ hx hy e. sum_held n k x y u v w fu fx hx hy e;
      found = λ n k x y u v fu _ fx _ hx hy q. sum_found n k x y u v fu fx hx hy q;
      fits = λ k x y fx _. record {
        sort = ptr_sort (moved_by D sizes unit back (pointer_of D x) (number D y));
        rising = moved_fits k x y fx (number D y);
        form = tt;
      };
    }

    sum_parts : (s : Side) (x y : Found) (z : Datum)
        → with x (λ u. with_number y (λ k. machine_moved (ord s) p (has u) (distance unit k back))) ≡ has z
        → Parts x y go z
    sum_parts s x y z e =
        let a = both_found x (λ u. with_number y (λ k. machine_moved (ord s) p (has u) (distance unit k back))) z e in
        let b = number_found y (λ k. machine_moved (ord s) p (has a.0) (distance unit k back)) z a.2 in
        record { u = a.0; v = int b.0; first = a.1; second = b.1; is = b.2 }

    is_operator : (f h : Side → Machine) → IsOperator D law p ord Pointer (Int r) go f h (machine f h)
    is_operator f h = record {
      parts = λ s m z e. sum_parts s (f s m) (h s m) z e;
      whole = λ s m u v _ _ e k.
          rw (e, k) refl;
    }

    sum_faults : (mode : Mode) (x y : Given N)
        → HasFaults D law p ord mode x y Quiet (sum_given D sizes unit back mode x y).faults
    sum_faults mode x y =
        let null = faults_on mode U6 (λ s. shown_if (moves_null (pointer_of D (on x.pair s)) (number D (on y.pair s))))
        in
        let out = faults_on mode U5
        (λ s. move_leaves D sizes unit back (pointer_of D (on x.pair s)) (number D (on y.pair s))) in
        record {
          none_first = λ e. (none_left x.faults (y.faults ++ (null ++ out)) e).0;
          none_second = λ e. (none_left y.faults (null ++ out) (none_left x.faults (y.faults ++ (null ++ out)) e).1).0;
          quiet = λ e s i.
              (let q = none_left null out
              (none_left y.faults (null ++ out) (none_left x.faults (y.faults ++ (null ++ out)) e).1).1 in (
                unmarked mode U6 (λ s. shown_if (moves_null (pointer_of D (on x.pair s)) (number D (on y.pair s)))) s
                    q.0 i,
                unmarked mode U5 (λ s.
                    move_leaves D sizes unit back (pointer_of D (on x.pair s)) (number D (on y.pair s))) s q.1 i,
              ));
          sure_first = λ e. (reliable_parts mode x.faults (y.faults ++ (null ++ out)) e).0;
          sure_second = λ e. (reliable_parts mode y.faults (null ++ out)
              (reliable_parts mode x.faults (y.faults ++ (null ++ out)) e).1).0;
        }

    pub sum_sound : (f h : Side → Machine) (a b : Means N) → Typed p Pointer f → Typed p (Int r) h
        → Sound D p ord Pointer f a
        → Sound D p ord (Int r) h b → Sound D p ord Pointer (machine f h) (sum_means D sizes unit back a b)
    sum_sound f h a b tf th sa sb =
        plain_sound D law p ord Pointer (machine f h) (λ m k. sum_given D sizes unit back m (a.gives m k) (b.gives m k))
        (λ k m kept mode.
        two_hold D law p ord Pointer Pointer (Int r) go (sum_side D sizes unit back) Quiet f h (machine f h) operator
        (is_operator f h) tf th
        k m kept mode (a.gives mode k) (b.gives mode k)
        (sum_given D sizes unit back mode (a.gives mode k) (b.gives mode k)).faults
        (sum_faults mode (a.gives mode k) (b.gives mode k)) (sa.gives k m kept mode) (sb.gives k m kept mode)
        (sa.fits k kept.state mode) (sb.fits k kept.state mode))
        (λ k i mode s.
        two_fit D law p ord Pointer Pointer (Int r) go (sum_side D sizes unit back) Quiet operator k mode
        (a.gives mode k) (b.gives mode k)
        (sum_given D sizes unit back mode (a.gives mode k) (b.gives mode k)).faults (sa.fits k i mode)
        (sb.fits k i mode) s)

-- ---- members

abbrev cut_offset : ℕ → ℕ
cut_offset q = cond (nat_le q greatest_offset) q greatest_offset

record IsCut (q c : ℕ) : Type 0 where
  pub small : c ≤ greatest_offset
  pub below : c < greatest_offset → c ≡ q
  pub same : q ≤ greatest_offset → c ≡ q

cut_is : (q : ℕ) → IsCut q (cut_offset q)
cut_is q = by (nat_le q greatest_offset) refl
  where
    by : (b : Bool) → nat_le q greatest_offset ≡ b → IsCut q (cond b q greatest_offset)
    by true e = record { small = leb-true q greatest_offset e; below = λ h. refl; same = λ h. refl }
    by false e =
        let l = leb-false q greatest_offset e in
        record { small = omega arith; below = λ h. absurd (omega (arith, h)); same = λ h. absurd (omega (arith, h, l)) }

offset_type : (c : ℕ) → c ≤ greatest_offset → IsOfSomeType (pos c)
offset_type c h = record { low = omega (arith, ints, h); high = omega (arith, ints, h) }

one_unit : (q c : ℕ) → pos q +ℤ distance 1 (pos c) false ≡ pos (q + c)
one_unit q c = by (pos c *ℤ pos 1) (pos-*ℤ-pos c 1)
  where
    by : (z : ℤ) → z ≡ pos (c * 1) → pos q +ℤ z ≡ pos (q + c)
    by z e = omega (arith, ints, e)

pub plain_sum : (q c : ℕ) → pos q +ℤ pos c ≡ pos (q + c)
plain_sum q c = omega (arith, ints)

sum_of_pos : (a b n : ℕ) → pos (a + b) ≡ pos n → a + b ≡ n
sum_of_pos a b n e = omega (arith, ints, e)

module _ {N : Type 0} (D : Ops N) (law : Lawful D) (p : Program) (ord : Side → Order)
    (fit : blocks_fit p.types p.blocks ≡ true)
    (offset : ℕ) where
  one_small : 1 ≤ 65536
  one_small = omega arith

  one_positive : 1 ≤ 1
  one_positive = omega arith

  abbrev cut : ℕ
  cut = cut_offset offset

  cut_held : HoldsNumber D (D.single (pos cut)) (pos cut)
  cut_held = law.single_holds (pos cut) (offset_type cut (cut_is offset).small)

  abbrev member_side : SideValue N → SideValue N
  member_side x = move_side D (sizes_of p.blocks) 1 false x (offset_number D (sizes_of p.blocks) offset)

  abbrev member_go : Datum → Found
  member_go u = machine_moved (ord left) p (has u) (pos offset)

  abbrev member_machine : (Side → Machine) → Side → Machine
  member_machine f s m = machine_moved (ord s) p (f s m) (pos offset)

  abbrev MemberQuiet : SideValue N → Type 0
  MemberQuiet x =
      (shown_if (moves_null (pointer_of D x) (offset_number D (sizes_of p.blocks) offset)) ≡ None)
      × (move_leaves D (sizes_of p.blocks) 1 false (pointer_of D x) (offset_number D (sizes_of p.blocks) offset) ≡ None)

  -- a member that a machine finds is in its block, so its offset is small
  found_small : (b q : ℕ) (w : Datum) → place_in (size_at (ord left) p b) b (pos q +ℤ pos offset) ≡ has w → cut ≡ offset
  found_small b q w e =
      let i = place_found (size_at (ord left) p b) b (pos q +ℤ pos offset) w e in
      let l = block_small (ord left) p fit b in
      let s : q + offset ≡ i.place = sum_of_pos q offset i.place (sym (plain_sum q offset) ∙ i.is) in
      let inside = i.inside in
      (cut_is offset).same (omega (arith, s, l, inside))

  member_held_at : (x : Pointers N) (u w : Datum) → IsRising x.targets → HoldsPointer D x (at u) → IsPointer u
      → ValueFits p Pointer u
      → member_go u ≡ has w
      → Allows D Pointer (option_map Ptr (moved D (move (D.single (pos cut)) 1 false) (sizes_of p.blocks) x)) false
      (Some w)
  member_held_at x (int z) w r h i f e = absurd i
  member_held_at x null w r h i f e = absurd (let q : faults null_access ≡ has w = e in cc)
  member_held_at x (pointer b q) w r h i f e =
      let c = found_small b q w e in
      step_held D law p ord fit 1 one_positive one_small false x (D.single (pos cut)) b q (pos cut)
      (pos q +ℤ pos offset) w r h f cut_held
      (ap (λ o. pos q +ℤ pos o) (sym c) ∙ (plain_sum q cut ∙ sym (one_unit q cut))) e

  member_found_at : (x : Pointers N) (u : Datum) → IsRising x.targets → HoldsPointer D x (at u) → IsPointer u
      → ValueFits p Pointer u
      → x.null ≡ false → is_out D (move (D.single (pos cut)) 1 false) (sizes_of p.blocks) x ≡ false
      → (w : Datum) × (member_go u ≡ has w)
  member_found_at x (int z) r h i f none out = absurd i
  member_found_at x null r h i f none out = absurd (let z : true ≡ false = sym h ∙ none in cc)
  member_found_at x (pointer b q) r h i f none out =
      let w = step_found D law p ord fit 1 one_positive one_small false x (D.single (pos cut)) b q
      (pos cut) r f.0 h cut_held out in
      let j = place_found (size_at (ord left) p b) b (pos q +ℤ distance 1 (pos cut) false) w.0 w.1 in
      let l = block_small (ord left) p fit b in
      let s : q + cut ≡ j.place = sum_of_pos q cut j.place (sym (one_unit q cut) ∙ j.is) in
      let inside = j.inside in
      let c : cut ≡ offset = (cut_is offset).below (omega (arith, s, l, inside)) in (
        w.0,
        ap (λ t. place_in (size_at (ord left) p b) b t) (ap (λ o. pos q +ℤ pos o) (sym c)
            ∙ (plain_sum q cut ∙ sym (one_unit q cut))) ∙ w.1,
      )

  member_at : (x : SideValue N) (u : Datum) → (i : IsPtr D x.value u)
      → moved_by D (sizes_of p.blocks) 1 false (pointer_of D x) (offset_number D (sizes_of p.blocks) offset)
      ≡ moved D (move (D.single (pos cut)) 1 false) (sizes_of p.blocks) i.value
  member_at x u i = rw i.is refl

  member_null : (x : SideValue N) (u : Datum) → (i : IsPtr D x.value u)
      → moves_null (pointer_of D x) (offset_number D (sizes_of p.blocks) offset) ≡ i.value.null
  member_null x u i = rw i.is refl

  member_leaves : (x : SideValue N) (u : Datum) → (i : IsPtr D x.value u)
      → move_leaves D (sizes_of p.blocks) 1 false (pointer_of D x) (offset_number D (sizes_of p.blocks) offset)
      ≡ shows_if (is_out D (move (D.single (pos cut)) 1 false) (sizes_of p.blocks) i.value)
      (shown_of D (move (D.single (pos cut)) 1 false) i.value.targets)
  member_leaves x u i = rw i.is refl

  member_operator : OperatorOf D law p ord Pointer Pointer member_go member_side MemberQuiet
  member_operator = record {
    held = λ n k x u w fu fx hx e.
        (let i = is_ptr D x.value u hx.value in record {
          value = subst (λ o. Allows D Pointer (option_map Ptr o) false (Some w)) (sym (member_at x u i))
              (member_held_at i.value u w (subst HasRisingBlocks i.is fx.rising) i.holds i.kind fu e);
          form = tt;
        });
    found = λ n k x u fu fx hx q.
        (let i = is_ptr D x.value u hx.value in
        member_found_at i.value u (subst HasRisingBlocks i.is fx.rising) i.holds i.kind fu
        (sym (member_null x u i)
        ∙ not_shown (moves_null (pointer_of D x) (offset_number D (sizes_of p.blocks) offset)) q.0)
        (not_marked (is_out D (move (D.single (pos cut)) 1 false) (sizes_of p.blocks) i.value)
        (shown_of D (move (D.single (pos cut)) 1 false) i.value.targets) (sym (member_leaves x u i) ∙ q.1)));
    fits = λ k x fx. record {
      sort = ptr_sort D law p ord fit 1 one_positive one_small false
          (moved_by D (sizes_of p.blocks) 1 false (pointer_of D x) (offset_number D (sizes_of p.blocks) offset));
      rising = moved_fits D law p ord fit 1 one_positive one_small false k x x fx
          (offset_number D (sizes_of p.blocks) offset);
      form = tt;
    };
  }

  member_part : (s : Side) (x : Found) (w : Datum) → machine_moved (ord s) p x (pos offset) ≡ has w → Part x member_go w
  member_part s (has u) w e = record { u = u; first = refl; is = e }
  member_part s (faults k) w e = absurd (let q : faults k ≡ has w = e in cc)

  member_is : (f : Side → Machine) → IsOperatorOf D law p ord Pointer member_go f (member_machine f)
  member_is f = record { part = λ s m w e. member_part s (f s m) w e; whole_is = λ s m u _ e. rw e refl }

  member_faults : (mode : Mode) (x : Given N)
      → HasFaultsOf D law p ord mode x MemberQuiet (member_given D (sizes_of p.blocks) offset mode x).faults
  member_faults mode x =
      let null = faults_on mode U6
      (λ s. shown_if (moves_null (pointer_of D (on x.pair s)) (offset_number D (sizes_of p.blocks) offset))) in
      let out = faults_on mode U5
      (λ s. move_leaves D (sizes_of p.blocks) 1 false (pointer_of D (on x.pair s))
      (offset_number D (sizes_of p.blocks) offset)) in
      record {
        none = λ e. (none_left x.faults (null ++ out) e).0;
        quiet = λ e s i.
            (let q = none_left null out (none_left x.faults (null ++ out) e).1 in (
              unmarked mode U6 (λ s.
                  shown_if (moves_null (pointer_of D (on x.pair s)) (offset_number D (sizes_of p.blocks) offset))) s
                  q.0 i,
              unmarked mode U5
                  (λ s. move_leaves D (sizes_of p.blocks) 1 false (pointer_of D (on x.pair s))
                  (offset_number D (sizes_of p.blocks) offset)) s q.1 i,
            ));
        sure = λ e. (reliable_parts mode x.faults (null ++ out) e).0;
      }

  pub member_sound : (f : Side → Machine) (a : Reaches N) → Typed p Pointer f → SoundPlace D p ord f a
      → SoundPlace D p ord (member_machine f) (λ m k. member_given D (sizes_of p.blocks) offset m (a m k))
  member_sound f a tf sa = record {
    gives = λ k m kept mode.
        one_holds D law p ord Pointer Pointer member_go member_side MemberQuiet f (member_machine f) member_operator
        (member_is f) tf k m kept
        mode (a mode k) (member_given D (sizes_of p.blocks) offset mode (a mode k)).faults
        (member_faults mode (a mode k))
        (sa.gives k m kept mode) (sa.fits k kept.state mode);
    fits = λ k i mode s.
        one_fits D law p ord Pointer Pointer member_go member_side MemberQuiet member_operator k mode (a mode k)
        (member_given D (sizes_of p.blocks) offset mode (a mode k)).faults (sa.fits k i mode) s;
  }
