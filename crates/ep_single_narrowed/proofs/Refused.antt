-- What is not so can't be assumed of values that can be one alone.
use Rattle.std.proofs.Common.{◌≡◌, ℤ, pos, Bool, true, false, not, cond, Option, Some, None, refl, sym, ap, ◌∙◌, subst}
use Rattle.ep_single_places.proofs.Truths.{truth_is}
use Rattle.ep_int.specs.declared.types.Cmp.{Cmp}
use Rattle.ep_int.specs.declared.types.Cmp.TheVariants.{Ne}
use Rattle.ep_int.specs.declared.types.Scalar.{Scalar}
use Rattle.ep_int.specs.declared.types.Scalar.TheVariants.{Int, Pointer}
use Rattle.ep_int.specs.Arith.{compares, int_eq}
use Rattle.ep_int.specs.Memory.{Value as Datum, int, null, pointer}
use Rattle.ep_domain.specs.Domain.{Ops, Lawful, IsSingle}
use Rattle.ep_pointers.specs.Value.{null_alone, only_null}
use Rattle.ep_pointers.specs.Compare.{comparison_of, truths as these_truths}
use Rattle.ep_cells.specs.declared.cell.Cell.{Cell}
use Rattle.ep_cells.specs.declared.cell.Value.{Value}
use Rattle.ep_cells.specs.declared.cell.Value.TheVariants.{Num, Ptr}
use Rattle.ep_cells.specs.States.{Known}
use Rattle.ep_cells.specs.Meaning.{Allows}
use Rattle.ep_core.specs.Exec.{is_true, truth, pointers_compare}
use Rattle.ep_evaluation.specs.Operators.{pointer_in, test_of}
use Rattle.ep_evaluation.specs.Narrowed.{then_with, narrowed_by, numbers_narrowed, says_alike, null_side, answer}
use Rattle.ep_evaluation.specs.Narrowed.{pointers_narrowed}
use Rattle.ep_evaluation.specs.Evaluation.{formless, value_narrowed}
use Rattle.ep_evaluation.proofs.Assuming.{zero_type}
use Rattle.ep_singles.specs.Cells.{IsOneValue, one_number, one_pointer}
use Rattle.ep_singles.proofs.Bytes.{held_single}
use Rattle.ep_single_places.proofs.Truths.{comparisons_are_one}
use Rattle.ep_single_narrowed.proofs.Stays.{among, tested_so}

other_answer : (t : Bool) → answer (these_truths (not t) (not (not t)) false) t ≡ false
other_answer true = refl
other_answer false = refl

not_zero : (t : Bool) (z : ℤ) → is_true (int z) ≡ not t → compares (test_of t) z (pos 0) ≡ false
not_zero true z e = e
not_zero false z e = by (int_eq z (pos 0)) e
  where
    by : (b : Bool) → not b ≡ true → b ≡ false
    by true e = absurd (let d : false ≡ true = e in cc)
    by false e = refl

module _ {N : Type 0} (D : Ops N) (law : Lawful D) where
  pub numbers_are_refused : (c : Cmp) (x y : N) (u v : ℤ) → IsSingle D x u → IsSingle D y v → compares c u v ≡ false
      → (f g : Known N → Option (Cell N)) (k : Known N) → numbers_narrowed D c (Some x) (Some y) f g k ≡ None
  numbers_are_refused c x y u v sx sy e f g k =
      ap (λ r. narrowed_by D r f g k) (law.filter_single c x y u v e sx sy)

  pub pointers_are_refused : (c : Cmp) (t : Bool) (x y : Option (Value N)) (u v : Datum) → IsOneValue D x
      → IsOneValue D y → Allows D Pointer x false (Some u) → Allows D Pointer y false (Some v)
      → pointers_compare c u v ≡ truth (not t) → (f g : Known N → Option (Cell N)) (k : Known N)
      → pointers_narrowed D c t (pointer_in x) (pointer_in y) f g k ≡ None
  pointers_are_refused c t x y u v ox oy ax ay e f g k =
      let i = among D x u ax in
      let j = among D y v ay in
      let r = comparisons_are_one D law c (formless D (Some (Ptr i.p))) (formless D (Some (Ptr j.p))) u v
      (int (cond (not t) (pos 1) (pos 0))) (subst (IsOneValue D) i.is ox) (subst (IsOneValue D) j.is oy)
      (subst (λ o. Allows D Pointer o false (Some u)) i.is ax) (subst (λ o. Allows D Pointer o false (Some v)) j.is ay)
      e in
      let a : answer (comparison_of D c i.p j.p) t ≡ false
      = ap (λ r. answer r t) (r ∙ ap (λ b. these_truths b (not b) false) (truth_is (not t))) ∙ other_answer t in
      ap (λ o. pointers_narrowed D c t o (pointer_in y) f g k) (ap pointer_in i.is)
      ∙ ap (λ o. pointers_narrowed D c t (Some i.p) o f g k) (ap pointer_in j.is)
      ∙ ap (λ b. cond b (then_with (null_side j.p (says_alike c t) f k) (λ k. null_side i.p (says_alike c t) g k)) None)
      a

  pub tests_are_refused : (w : Scalar) (o : Option (Value N)) (u : Datum) → IsOneValue D o
      → Allows D w o false (Some u) → (t : Bool) → is_true u ≡ not t → (f : Known N → Option (Cell N)) (k : Known N)
      → value_narrowed D t o f k ≡ None
  tests_are_refused w None u i a t e f k = elim i [ ]
  tests_are_refused (Int r) (Some (Num n)) (int z) (one_number _ y d) a t e f k =
      numbers_are_refused (test_of t) n (D.single (pos 0)) z (pos 0)
      (subst (IsSingle D n) (sym (held_single D law n y z d a.1)) d) (law.single_range (pos 0) zero_type)
      (not_zero t z e) f (λ k. None) k
  tests_are_refused (Int r) (Some (Num n)) null i a t e f k = absurd a
  tests_are_refused (Int r) (Some (Num n)) (pointer b q) i a t e f k = absurd a
  tests_are_refused Pointer (Some (Num n)) (int z) i a t e f k = absurd a
  tests_are_refused Pointer (Some (Num n)) null i a t e f k = absurd a
  tests_are_refused Pointer (Some (Num n)) (pointer b q) i a t e f k = absurd a
  tests_are_refused (Int r) (Some (Ptr x)) (int z) i a t e f k = absurd a
  tests_are_refused (Int r) (Some (Ptr x)) null i a t e f k = absurd a
  tests_are_refused (Int r) (Some (Ptr x)) (pointer b q) i a t e f k = absurd a
  tests_are_refused Pointer (Some (Ptr x)) (int z) i a t e f k = absurd a
  tests_are_refused Pointer (Some (Ptr x)) null i a t e f k =
      pointers_are_refused Ne t (Some (Ptr x)) (Some (Ptr null_alone)) null null i
      (one_pointer null_alone (only_null refl)) a refl (tested_so null tt ∙ ap truth e) f (λ k. None) k
  tests_are_refused Pointer (Some (Ptr x)) (pointer b q) i a t e f k =
      pointers_are_refused Ne t (Some (Ptr x)) (Some (Ptr null_alone)) (pointer b q) null i
      (one_pointer null_alone (only_null refl)) a refl (tested_so (pointer b q) tt ∙ ap truth e) f (λ k. None) k
