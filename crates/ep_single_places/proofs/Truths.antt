-- The truth of a value that can be one alone, and how two pointers compare.
use Rattle.std.proofs.Common.{◌≡◌, ℤ, pos, Bool, true, false, not, cond, Option, Some, None, is_some, IsSomeAnd}
use Rattle.ep_pointers.proofs.Answering.{not_not}
use Rattle.std.proofs.Common.{IsTrue, refl, sym, ap, ◌∙◌, subst, arith}
use Rattle.std.proofs.lemmas.Int.{ints}
use Rattle.ep_int.specs.declared.types.Cmp.{Cmp}
use Rattle.ep_int.specs.declared.types.Scalar.{Scalar}
use Rattle.ep_int.specs.declared.types.Scalar.TheVariants.{Int, Pointer}
use Rattle.ep_int.specs.Arith.{compares, int_eq, IsOfSomeType}
use Rattle.ep_int.specs.Memory.{Value as Datum, int, null, pointer, has, faults, pointer_mix}
use Rattle.ep_domain.specs.Domain.{Ops, Lawful, IsSingle}
use Rattle.ep_pointers.specs.declared.compare.Truths.{Truths}
use Rattle.ep_pointers.specs.Value.{Pointers, HasOneMember, HoldsPointer, null_pointer, into, only_null, only_place}
use Rattle.ep_pointers.specs.Compare.{pointers_compare as compare_of, comparison_of, Answers, IsOneAnswer, only_yes}
use Rattle.ep_pointers.specs.Compare.{only_no, only_mixed, truths as these_truths}
use Rattle.ep_pointers.proofs.Gathered.{pointer_laws}
use Rattle.ep_cells.specs.declared.cell.Value.{Value}
use Rattle.ep_cells.specs.declared.cell.Value.TheVariants.{Num, Ptr}
use Rattle.ep_cells.specs.Meaning.{Allows}
use Rattle.ep_core.specs.Exec.{is_true, truth, pointers_compare}
use Rattle.ep_equalities.specs.declared.pair.SideValue.{SideValue}
use Rattle.ep_evaluation.specs.Operators.{test_of, may_be, truths_of, pointer_in}
use Rattle.ep_evaluation.specs.Evaluation.{truths}
use Rattle.ep_evaluation.proofs.Pointers.{at, IsPointer, Linked, as_truth, as_mix, linked}
use Rattle.ep_singles.specs.Cells.{IsOneValue, one_number, one_pointer}
use Rattle.ep_singles.proofs.Bytes.{held_single}
use Rattle.ep_single_places.specs.Laws.{is_of_truth}

pub truth_is : (b : Bool) → is_true (int (cond b (pos 1) (pos 0))) ≡ b
truth_is true = refl
truth_is false = refl

zero_fits : IsOfSomeType (pos 0)
zero_fits = record { low = omega (arith, ints); high = omega (arith, ints) }

module _ {N : Type 0} (D : Ops N) (law : Lawful D) where
  some_is : {A : Type 0} (o : Option A) (P : A → Type 0) → IsSomeAnd o P → is_some o ≡ true
  some_is None P h = absurd h
  some_is (Some a) P h = refl

  filter_one : (c : Cmp) (a b : N) (x y : ℤ) → IsSingle D a x → IsSingle D b y
      → is_some (D.filter c a b) ≡ compares c x y
  filter_one c a b x y s r = by (compares c x y) refl
    where
      by : (t : Bool) → compares c x y ≡ t → is_some (D.filter c a b) ≡ t
      by true e =
          some_is (D.filter c a b) _
          (law.filter_holds c a b x y e (law.range_single a x s) (law.range_single b y r))
      by false e = ap is_some (law.filter_single c a b x y e s r)

  test_is : (t : Bool) (z : ℤ) → compares (test_of t) z (pos 0) ≡ is_of_truth (is_true (int z)) t
  test_is true z = refl
  test_is false z = not_not (int_eq z (pos 0))

  number_truth : (n : N) (z : ℤ) → IsSingle D n z → (t : Bool)
      → may_be D (Some (Num n)) t ≡ is_of_truth (is_true (int z)) t
  number_truth n z e t =
      filter_one (test_of t) n (D.single (pos 0)) z (pos 0) e (law.single_range (pos 0) zero_fits) ∙ test_is t z

  pointer_truth : (p : Pointers N) (u : Datum) → HasOneMember D p → IsPointer u → HoldsPointer D p (at u) → (t : Bool)
      → may_be D (Some (Ptr p)) t ≡ is_of_truth (is_true u) t
  pointer_truth p (int z) h i a t = absurd i
  pointer_truth p null (only_null e) i a true = ap (λ p. may_be D (Some (Ptr p)) true) e
  pointer_truth p null (only_null e) i a false = ap (λ p. may_be D (Some (Ptr p)) false) e
  pointer_truth p null (only_place c n z e f) i a t =
      absurd (let d : false ≡ true = subst (λ (p : Pointers N). HoldsPointer D p null_pointer) e a in cc)
  pointer_truth p (pointer b q) (only_null e) i a t =
      absurd (subst (λ (p : Pointers N). HoldsPointer D p (into b q)) e a)
  pointer_truth p (pointer b q) (only_place c n z e f) i a true = ap (λ p. may_be D (Some (Ptr p)) true) e
  pointer_truth p (pointer b q) (only_place c n z e f) i a false = ap (λ p. may_be D (Some (Ptr p)) false) e

  pub truths_are_one : (w : Scalar) (o : Option (Value N)) (u : Datum) → IsOneValue D o
      → Allows D w o false (Some u) → (t : Bool) → may_be D o t ≡ is_of_truth (is_true u) t
  truths_are_one w None u i a t = elim i [ ]
  truths_are_one (Int s) (Some (Num n)) (int y) (one_number _ z e) a t =
      number_truth n z e t ∙ ap (λ z. is_of_truth (is_true (int z)) t) (sym (held_single D law n z y e a.1))
  truths_are_one (Int s) (Some (Num n)) null i a t = absurd a
  truths_are_one (Int s) (Some (Num n)) (pointer b q) i a t = absurd a
  truths_are_one Pointer (Some (Num n)) (int y) i a t = absurd a
  truths_are_one Pointer (Some (Num n)) null i a t = absurd a
  truths_are_one Pointer (Some (Num n)) (pointer b q) i a t = absurd a
  truths_are_one (Int s) (Some (Ptr p)) (int y) i a t = absurd a
  truths_are_one (Int s) (Some (Ptr p)) null i a t = absurd a
  truths_are_one (Int s) (Some (Ptr p)) (pointer b q) i a t = absurd a
  truths_are_one Pointer (Some (Ptr p)) (int y) i a t = absurd a
  truths_are_one Pointer (Some (Ptr p)) null (one_pointer _ h) a t = pointer_truth p null h tt a t
  truths_are_one Pointer (Some (Ptr p)) (pointer b q) (one_pointer _ h) a t =
      pointer_truth p (pointer b q) h tt a t

  -- ---- comparisons

  -- a pointer that can be one alone
  record IsOnePointer (o : Option (Value N)) (u : Datum) : Type 0 where
    p : Pointers N
    is : o ≡ Some (Ptr p)
    one : HasOneMember D p
    pointer_is : IsPointer u
    holds : HoldsPointer D p (at u)

  one_pointer_is : (o : Option (Value N)) (u : Datum) → IsOneValue D o → Allows D Pointer o false (Some u)
      → IsOnePointer o u
  one_pointer_is None u i a = elim i [ ]
  one_pointer_is (Some (Num n)) (int y) i a = absurd a
  one_pointer_is (Some (Num n)) null i a = absurd a
  one_pointer_is (Some (Num n)) (pointer b q) i a = absurd a
  one_pointer_is (Some (Ptr p)) (int y) i a = absurd a
  one_pointer_is (Some (Ptr p)) null (one_pointer _ h) a =
      record { p = p; is = refl; one = h; pointer_is = tt; holds = a }
  one_pointer_is (Some (Ptr p)) (pointer b q) (one_pointer _ h) a =
      record { p = p; is = refl; one = h; pointer_is = tt; holds = a }

  -- of one answer alone, it is that which is among them
  the_answer : (t : Truths) (r : Bool) → IsOneAnswer t → Answers (Some r) t → t ≡ these_truths r (not r) false
  the_answer t true (only_yes e) h = e
  the_answer t true (only_no e) h =
      absurd (let d : false ≡ true = subst (λ (t : Truths). IsTrue t.yes) e h in cc)
  the_answer t true (only_mixed e) h =
      absurd (let d : false ≡ true = subst (λ (t : Truths). IsTrue t.yes) e h in cc)
  the_answer t false (only_yes e) h =
      absurd (let d : false ≡ true = subst (λ (t : Truths). IsTrue t.no) e h in cc)
  the_answer t false (only_no e) h = e
  the_answer t false (only_mixed e) h =
      absurd (let d : false ≡ true = subst (λ (t : Truths). IsTrue t.no) e h in cc)

  pub comparisons_are_one : (c : Cmp) (x y : SideValue N) (u v d : Datum) → IsOneValue D x.value
      → IsOneValue D y.value → Allows D Pointer x.value false (Some u) → Allows D Pointer y.value false (Some v)
      → pointers_compare c u v ≡ has d → truths D c x y ≡ these_truths (is_true d) (not (is_true d)) false
  comparisons_are_one c x y u v d ox oy ax ay e = by (linked c u v i.pointer_is j.pointer_is)
    where
      i : IsOnePointer x.value u
      i = one_pointer_is x.value u ox ax

      j : IsOnePointer y.value v
      j = one_pointer_is y.value v oy ay

      same : (b : Bool) (d : Datum) → truth b ≡ has d → b ≡ is_true d
      same b d f = sym (truth_is b) ∙ ap is_true (let g : int (cond b (pos 1) (pos 0)) ≡ d = cc in g)

      by : Linked (pointers_compare c u v) (compare_of c (at u) (at v))
          → truths D c x y ≡ these_truths (is_true d) (not (is_true d)) false
      by (as_mix f g) = absurd (let z : faults pointer_mix ≡ has d = sym f ∙ e in cc)
      by (as_truth b f g) =
          let r : b ≡ is_true d = same b d (sym f ∙ e) in
          ap (λ o. truths_of D c o (pointer_in y.value)) (ap pointer_in i.is)
          ∙ ap (λ o. truths_of D c (Some i.p) o) (ap pointer_in j.is)
          ∙ the_answer (comparison_of D c i.p j.p) b ((pointer_laws D law).compare_one c i.p j.p i.one j.one)
          (subst (λ o. Answers o (comparison_of D c i.p j.p)) g
          ((pointer_laws D law).compare_answers c i.p j.p (at u) (at v) i.holds j.holds))
          ∙ ap (λ t. these_truths t (not t) false) r
