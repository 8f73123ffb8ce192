-- Truths of values that can be one alone, on one side.
use Rattle.std.proofs.Common.{◌≡◌, Bool, true, false, ◌&&◌, ◌||◌, not, Option, Some, None, refl, sym, ap, ◌∙◌, subst}
use Rattle.ep_int.proofs.Basics.{not_not, or-false}
use Rattle.ep_int.specs.declared.types.Cmp.{Cmp}
use Rattle.ep_int.specs.declared.types.Scalar.{Scalar}
use Rattle.ep_int.specs.declared.types.Scalar.TheVariants.{Pointer}
use Rattle.ep_int.specs.Memory.{Value as Datum, has}
use Rattle.ep_domain.specs.Domain.{Ops, Lawful}
use Rattle.ep_pointers.specs.declared.compare.Truths.{Truths}
use Rattle.ep_cells.specs.declared.cell.Value.{Value}
use Rattle.ep_cells.specs.Both.{value_of_both}
use Rattle.ep_core.specs.Exec.{is_true, pointers_compare}
use Rattle.ep_equalities.specs.declared.pair.SideValue.{SideValue}
use Rattle.ep_evaluation.specs.Given.{nothing, shown_if}
use Rattle.ep_evaluation.specs.Operators.{truth_value, may_be}
use Rattle.ep_evaluation.specs.Evaluation.{not_side, truths, pointers_side, short_side, chosen_side}
use Rattle.ep_singles.specs.Cells.{IsOneValue}
use Rattle.ep_single_places.specs.Laws.{is_of_truth}
use Rattle.ep_single_places.proofs.Truths.{truths_are_one, comparisons_are_one}
use Rattle.ep_single_sides.specs.Laws.{IsOneAs}
use Rattle.ep_single_sides.proofs.Numbers.{one_truth}

module _ {N : Type 0} (D : Ops N) (law : Lawful D) where
  -- of what surely is b
  pub sure_truth : (b x y : Bool) → x ≡ b → y ≡ not b → IsOneValue D (truth_value D x y)
  sure_truth b x y e f =
      subst (λ z. IsOneValue D (truth_value D z y)) (sym e)
      (subst (λ z. IsOneValue D (truth_value D b z)) (sym f) (by b))
    where
      by : (b : Bool) → IsOneValue D (truth_value D b (not b))
      by true = one_truth D law true
      by false = one_truth D law false

  may : (w : Scalar) (x : SideValue N) (u : Datum) → IsOneAs D w x u → (t : Bool)
      → may_be D x.value t ≡ is_of_truth (is_true u) t
  may w x u a t = truths_are_one D law w x.value u a.one a.allowed t

  pub not_one : (w : Scalar) (x : SideValue N) (u : Datum) → IsOneAs D w x u → IsOneValue D (not_side D x).value
  not_one w x u a =
      sure_truth (not (is_true u)) (may_be D x.value false) (may_be D x.value true) (may w x u a false)
      (may w x u a true ∙ sym (not_not (is_true u)))

  pub pointers_one : (c : Cmp) (x y : SideValue N) (u v d : Datum) → IsOneAs D Pointer x u → IsOneAs D Pointer y v
      → pointers_compare c u v ≡ has d
      → (shown_if (truths D c x y).mixed ≡ None) × IsOneValue D (pointers_side D c x y).value
  pointers_one c x y u v d a b e =
      let r = comparisons_are_one D law c x y u v d a.one b.one a.allowed b.allowed e in (
        ap (λ (t : Truths). shown_if t.mixed) r,
        sure_truth (is_true d) (truths D c x y).yes (truths D c x y).no (ap (λ (t : Truths). t.yes) r)
            (ap (λ (t : Truths). t.no) r),
      )

  -- ---- `&&` and `||`

  -- the first has the truth that asks for the second: it adds nothing
  second_yes : (t : Bool) (x : SideValue N) (y : Bool) → may_be D x.value (not t) ≡ false
      → (y || (not t && may_be D x.value true)) ≡ y
  second_yes true x y e = or-false y
  second_yes false x y e = ap (λ b. y || b) e ∙ or-false y

  second_no : (t : Bool) (x : SideValue N) (y : Bool) → may_be D x.value (not t) ≡ false
      → (y || (t && may_be D x.value false)) ≡ y
  second_no true x y e = ap (λ b. y || b) e ∙ or-false y
  second_no false x y e = or-false y

  other_truth : (u t : Bool) → u ≡ t → is_of_truth u (not t) ≡ false
  other_truth true true e = refl
  other_truth true false e = absurd cc
  other_truth false true e = absurd cc
  other_truth false false e = refl

  pub short_second_one : (t : Bool) (a b : Scalar) (x y : SideValue N) (u v : Datum) → IsOneAs D a x u → IsOneAs D b y v
      → is_true u ≡ t → IsOneValue D (short_side D t x y).value
  short_second_one t a b x y u v i j e =
      let other : may_be D x.value (not t) ≡ false = may a x u i (not t) ∙ other_truth (is_true u) t e in
      sure_truth (is_true v) (may_be D y.value true || (not t && may_be D x.value true))
      (may_be D y.value false || (t && may_be D x.value false))
      (second_yes t x (may_be D y.value true) other ∙ may b y v j true)
      (second_no t x (may_be D y.value false) other ∙ may b y v j false)

  -- it has the other truth, which is that of the whole
  pub short_first_one : (t : Bool) (a : Scalar) (x : SideValue N) (u : Datum) → IsOneAs D a x u → is_true u ≡ not t
      → IsOneValue D (short_side D t x nothing).value
  short_first_one true a x u i e =
      sure_truth false false (may_be D x.value false) refl
      (may a x u i false ∙ ap not e)
  short_first_one false a x u i e =
      sure_truth true (may_be D x.value true) false
      (may a x u i true ∙ e) refl

  -- ---- `? :`

  pub chosen_second_one : (y : SideValue N) → IsOneValue D y.value → IsOneValue D (chosen_side D y nothing).value
  chosen_second_one y i = by y.value i
    where
      by : (o : Option (Value N)) → IsOneValue D o → IsOneValue D (value_of_both D.join o None)
      by None i = elim i [ ]
      by (Some v) i = i

  pub chosen_third_one : (z : SideValue N) → IsOneValue D z.value → IsOneValue D (chosen_side D nothing z).value
  chosen_third_one z i = i
