-- Operators on numbers.
use Rattle.std.proofs.Common.{◌≡◌, ℤ, pos, Bool, true, false, not, cond, Option, Some, None, IsSomeAnd, refl, sym, ap}
use Rattle.ep_int.proofs.Arithmetic.{le_test}
use Rattle.std.proofs.Common.{◌∙◌, subst, arith}
use Rattle.std.specs.Prelude.{is_some}
use Rattle.std.proofs.lemmas.Int.{ints}
use Rattle.ep_int.specs.declared.types.IntType.{IntType}
use Rattle.ep_int.specs.declared.types.IntType.TheVariants.{I32}
use Rattle.ep_int.specs.declared.types.Order.{Order}
use Rattle.ep_int.specs.declared.types.Scalar.TheVariants.{Int}
use Rattle.ep_int.specs.declared.types.Cmp.{Cmp}
use Rattle.ep_int.specs.declared.types.Cmp.TheVariants.{Eq, Ne, Lt, Le, Gt, Ge}
use Rattle.ep_int.specs.Types.{InRange}
use Rattle.ep_int.specs.Arith.{compares, IsOfSomeType, int_eq}
use Rattle.ep_int.specs.Memory.{Value as Datum, int, null, pointer, Found, has}
use Rattle.ep_bitslice.specs.Bits.{Numbers}
use Rattle.ep_range_laws.proofs.Comparisons.{from_le_false, from_lt_false, lt_true}
use Rattle.ep_domain.specs.Domain.{Ops, Lawful}
use Rattle.ep_pointers.specs.Compare.{opposite}
use Rattle.ep_cells.specs.declared.cell.Value.{Value}
use Rattle.ep_cells.specs.States.{IsOfSort, HasRisingBlocks}
use Rattle.ep_cells.specs.Meaning.{Allows}
use Rattle.ep_core.specs.Program.{Program}
use Rattle.ep_core.specs.Exec.{with_number, truth}
use Rattle.ep_core.specs.Runs.{Side}
use Rattle.ep_core.specs.Typed.{ValueFits}
use Rattle.ep_equalities.specs.declared.pair.SideValue.{SideValue}
use Rattle.ep_equalities.specs.Pairs.{SideIn}
use Rattle.ep_evaluation.specs.Operators.{number_in, truth_value, compared}
use Rattle.ep_evaluation.specs.Evaluation.{compare_side, number}
use Rattle.ep_evaluation.specs.Laws.{Machine}
use Rattle.ep_evaluation.proofs.General.{number_found, IsNum, is_int}
use Rattle.ep_evaluation.proofs.Generic.{Parts, Operator, IsOperator}

-- ---- two numbers

abbrev pub on_numbers : (ℤ → ℤ → Found) → Datum → Datum → Found
on_numbers go u v = with_number (has u) (λ x. with_number (has v) (go x))

-- what a machine finds of two numbers
abbrev pub of_numbers : (ℤ → ℤ → Found) → (Side → Machine) → (Side → Machine) → Side → Machine
of_numbers go f h s m = with_number (f s m) (λ x. with_number (h s m) (λ y. go x y))

parts_of : (go : ℤ → ℤ → Found) (x y : Found) (z : Datum) → with_number x (λ a. with_number y (λ b. go a b)) ≡ has z
    → Parts x y (on_numbers go) z
parts_of go x y z e =
    let a = number_found x (λ a. with_number y (λ b. go a b)) z e in
    let b = number_found y (λ b. go a.0 b) z a.2 in
    record { u = int a.0; v = int b.0; first = a.1; second = b.1; is = b.2 }

whole_of : (p : Program) (go : ℤ → ℤ → Found) (t r : IntType) (x y : Found) (u v : Datum) → ValueFits p (Int t) u
    → ValueFits p (Int r) v → x ≡ has u → y ≡ has v
    → with_number x (λ a. with_number y (λ b. go a b)) ≡ on_numbers go u v
whole_of p go t r x y (int a) (int b) i j e f = rw (e, f) refl
whole_of p go t r x y (int a) null i j e f = absurd j
whole_of p go t r x y (int a) (pointer b q) i j e f = absurd j
whole_of p go t r x y null v i j e f = absurd i
whole_of p go t r x y (pointer b q) v i j e f = absurd i

pub numbers_are : {N : Type 0} (D : Ops N) (law : Lawful D) (p : Program) (ord : Side → Order) (go : ℤ → ℤ → Found)
    (t r : IntType) (f h : Side → Machine)
    → IsOperator D law p ord (Int t) (Int r) (on_numbers go) f h (of_numbers go f h)
numbers_are D law p ord go t r f h = record {
  parts = λ s m z e. parts_of go (f s m) (h s m) z e;
  whole = λ s m u v i j e k. whole_of p go t r (f s m) (h s m) u v i j e k;
}

-- ---- truths

pub opposite_compares : (c : Cmp) (x y : ℤ) → compares c x y ≡ false → compares (opposite c) x y ≡ true
opposite_compares Eq x y e = rw e refl
opposite_compares Ne x y e = by_not (int_eq x y) e
  where
    by_not : (b : Bool) → not b ≡ false → b ≡ true
    by_not true e = refl
    by_not false e = absurd cc
opposite_compares Lt x y e = le_test y x (from_lt_false x y e)
opposite_compares Le x y e = lt_true y x (from_le_false x y e)
opposite_compares Gt x y e = le_test x y (from_lt_false y x e)
opposite_compares Ge x y e = lt_true x y (from_le_false y x e)

pub some_there : {A : Type 0} (o : Option A) (P : A → Type 0) → IsSomeAnd o P → is_some o ≡ true
some_there None P h = absurd h
some_there (Some x) P h = refl

zero_type : IsOfSomeType (pos 0)
zero_type = record { low = omega (arith, ints); high = omega (arith, ints) }

one_type : IsOfSomeType (pos 1)
one_type = record { low = omega (arith, ints); high = omega (arith, ints) }

zero_range : InRange I32 (pos 0)
zero_range = record { low = omega (arith, ints); high = omega (arith, ints) }

one_range : InRange I32 (pos 1)
one_range = record { low = omega (arith, ints); high = omega (arith, ints) }

module _ {N : Type 0} (D : Ops N) (law : Lawful D) where
  pub truth_allowed : (yes no t : Bool) → (t ≡ true → yes ≡ true) → (t ≡ false → no ≡ true)
      → Allows D (Int I32) (truth_value D yes no) false (Some (int (cond t (pos 1) (pos 0))))
  truth_allowed true true true h i =
      (one_range, law.join_right (D.single (pos 0)) (D.single (pos 1)) (pos 1) (law.single_holds (pos 1) one_type))
  truth_allowed true true false h i =
      (zero_range, law.join_left (D.single (pos 0)) (D.single (pos 1)) (pos 0) (law.single_holds (pos 0) zero_type))
  truth_allowed true false true h i = (one_range, law.single_holds (pos 1) one_type)
  truth_allowed true false false h i = absurd (let e : false ≡ true = i refl in cc)
  truth_allowed false true true h i = absurd (let e : false ≡ true = h refl in cc)
  truth_allowed false true false h i = (zero_range, law.single_holds (pos 0) zero_type)
  truth_allowed false false true h i = absurd (let e : false ≡ true = h refl in cc)
  truth_allowed false false false h i = absurd (let e : false ≡ true = i refl in cc)

  pub truth_sort : (yes no : Bool) → IsOfSort (Int I32) (truth_value D yes no)
  truth_sort true true = tt
  truth_sort true false = tt
  truth_sort false true = tt
  truth_sort false false = tt

  pub truth_rising : (yes no : Bool) → HasRisingBlocks (truth_value D yes no)
  truth_rising true true = tt
  truth_rising true false = tt
  truth_rising false true = tt
  truth_rising false false = tt

  -- ---- comparisons of numbers

  compared_at : (c : Cmp) (v w : Option (Value N)) (x y : ℤ) (t r : IntType) → IsNum D t v x → IsNum D r w y
      → Allows D (Int I32) (compared D c (number_in v) (number_in w)) false
      (Some (int (cond (compares c x y) (pos 1) (pos 0))))
  compared_at c v w x y t r i j =
      rw (i.is, j.is) (truth_allowed (is_some (D.filter c i.number j.number))
      (is_some (D.filter (opposite c) i.number j.number)) (compares c x y)
      (λ e. some_there _ _ (law.filter_holds c i.number j.number x y e i.holds j.holds))
      (λ e. some_there _ _ (law.filter_holds (opposite c) i.number j.number x y
      (opposite_compares c x y e) i.holds j.holds)))

  compared_sort : (c : Cmp) (v w : Option N) → IsOfSort (Int I32) (compared D c v w)
  compared_sort c None w = tt
  compared_sort c (Some a) None = tt
  compared_sort c (Some a) (Some b) = truth_sort _ _

  compared_rising : (c : Cmp) (v w : Option N) → HasRisingBlocks (compared D c v w)
  compared_rising c None w = tt
  compared_rising c (Some a) None = tt
  compared_rising c (Some a) (Some b) = truth_rising _ _

  module _ (p : Program) (ord : Side → Order) where
    abbrev compare_go : Cmp → ℤ → ℤ → Found
    compare_go c x y = truth (compares c x y)

    compare_held : (n : Numbers) (c : Cmp) (t : IntType) (x y : SideValue N) (u v z : Datum) → SideIn D n (Int t) x u
        → SideIn D n (Int t) y v
        → on_numbers (compare_go c) u v ≡ has z → SideIn D n (Int I32) (compare_side D c x y) z
    compare_held n c t x y u v z h i e =
        let a = is_int D t x.value u h.value in
        let b = is_int D t y.value v i.value in
        let q : has (int (cond (compares c a.z b.z) (pos 1) (pos 0))) ≡ has z =
        sym (ap (λ w. on_numbers (compare_go c) w v) a.datum
        ∙ ap (λ w. on_numbers (compare_go c) (int a.z) w) b.datum) ∙ e in
        let r : int (cond (compares c a.z b.z) (pos 1) (pos 0)) ≡ z = cc in
        record {
          value = subst (λ w. Allows D (Int I32) (compared D c (number D x) (number D y)) false (Some w)) r
              (compared_at c x.value y.value a.z b.z t t a.num b.num);
          form = tt;
        }

    compare_found : (n : Numbers) (c : Cmp) (t : IntType) (x y : SideValue N) (u v : Datum) → SideIn D n (Int t) x u
        → SideIn D n (Int t) y v
        → (z : Datum) × (on_numbers (compare_go c) u v ≡ has z)
    compare_found n c t x y u v h i =
        let a = is_int D t x.value u h.value in
        let b = is_int D t y.value v i.value in (
          int (cond (compares c a.z b.z) (pos 1) (pos 0)),
          ap (λ w. on_numbers (compare_go c) w v) a.datum
              ∙ ap (λ w. on_numbers (compare_go c) (int a.z) w) b.datum,
        )

    pub comparison : (c : Cmp) (t : IntType)
        → Operator D law p ord (Int I32) (Int t) (Int t) (on_numbers (compare_go c)) (compare_side D c)
        (λ x y. Unit {0})
    comparison c t = record {
      held = λ n k x y u v z _ _ _ _ h i e. compare_held n c t x y u v z h i e;
      found = λ n k x y u v _ _ _ _ h i _. compare_found n c t x y u v h i;
      fits = λ k x y h i. record {
        sort = compared_sort c (number D x) (number D y);
        rising = compared_rising c (number D x)
            (number D y);
        form = tt;
      };
    }
