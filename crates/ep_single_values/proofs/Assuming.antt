-- What assuming a truth leaves where an expression has one value on each running machine.
use Rattle.std.proofs.Common.{◌≡◌, ℤ, pos, Bool, true, false, not, cond, List, [], ◌++◌, Option, Some, None, refl, sym}
use Rattle.std.proofs.Common.{ap, ◌∙◌, subst}
use Rattle.ep_int.specs.declared.types.Order.{Order}
use Rattle.ep_int.specs.declared.types.Cmp.{Cmp}
use Rattle.ep_int.specs.declared.types.IntType.{IntType}
use Rattle.ep_int.specs.declared.types.Scalar.{Scalar}
use Rattle.ep_int.specs.declared.types.Scalar.TheVariants.{Int, Pointer}
use Rattle.ep_int.specs.Arith.{compares}
use Rattle.ep_int.specs.Memory.{Value as Datum, int, has, faults, pointer_mix}
use Rattle.ep_domain.specs.Domain.{Ops, Lawful}
use Rattle.ep_pointers.proofs.Answering.{opposite_is}
use Rattle.ep_pointers.specs.Compare.{pointers_compare as compare_of}
use Rattle.ep_cells.specs.States.{Known}
use Rattle.ep_cells.specs.Meaning.{Memories}
use Rattle.ep_cell_ranges.proofs.Shareds.{has_one}
use Rattle.ep_core.specs.Program.{Program}
use Rattle.ep_core.specs.Exec.{is_true, with, with_number, truth, pointers_compare}
use Rattle.ep_core.specs.Runs.{Side, left, right}
use Rattle.ep_equalities.specs.declared.pair.Mode.{Mode}
use Rattle.ep_equalities.specs.declared.pair.Fault.{Fault}
use Rattle.ep_evaluation.specs.Given.{Given, on, alone, are_sure}
use Rattle.ep_evaluation.specs.Operators.{number_in}
use Rattle.ep_evaluation.specs.Narrowed.{again, when_not, numbers_narrowed, pointers_narrowed}
use Rattle.ep_evaluation.specs.Evaluation.{Means, ToCell, if_sure, value_narrowed, with_cell, compare_means}
use Rattle.ep_evaluation.specs.Evaluation.{number, pointer as pointer_of, pointers_means, not_means}
use Rattle.ep_evaluation.specs.Laws.{memory_of, Machine, Sound}
use Rattle.ep_evaluation.proofs.General.{reliable_none, sure_none, both_found, number_found}
use Rattle.ep_evaluation.proofs.Tests.{runs_alone}
use Rattle.ep_evaluation.proofs.Again.{again_has}
use Rattle.ep_evaluation.proofs.Sounds.{from_not}
use Rattle.ep_evaluation.proofs.Operators.{of_numbers}
use Rattle.ep_evaluation.proofs.Comparisons.{on_values}
use Rattle.ep_evaluation.proofs.Pointers.{at, Linked, as_truth, as_mix, linked}
use Rattle.ep_singles.specs.Numbers.{KeepsSingles}
use Rattle.ep_single_narrowed.specs.Laws.{IsKeptOne, IfKeptOne}
use Rattle.ep_single_narrowed.proofs.Stays.{among, numbers_stay_one, pointers_stay_one, tests_stay_one}
use Rattle.ep_single_narrowed.proofs.Refused.{numbers_are_refused, pointers_are_refused, tests_are_refused}
use Rattle.ep_single_places.specs.Laws.{is_of_truth}
use Rattle.ep_single_places.proofs.Truths.{truth_is}
use Rattle.ep_single_sides.specs.Laws.{IsOneAs}
use Rattle.ep_single_sides.proofs.Numbers.{IsOneNumber, number_of}
use Rattle.ep_single_given.specs.Laws.{FindAll, GivesOne}
use Rattle.ep_single_given.proofs.Given.{no_faults}
use Rattle.ep_single_values.specs.Laws.{OneMeans}
use Rattle.ep_single_values.proofs.Given.{OneGives, one_at}
use Rattle.ep_single_values.proofs.Operands.{value_part}

pub find_alone : (f : Side → Machine) (m : Memories) (s : Side) (v : Datum) → f s (memory_of s m) ≡ has v
    → FindAll (alone s) f m
find_alone f m left v e left r = (v, e)
find_alone f m left v e right r = absurd (let q : false ≡ true = r in cc)
find_alone f m right v e left r = absurd (let q : false ≡ true = r in cc)
find_alone f m right v e right r = (v, e)

-- ---- truths

pub of_same : (b t : Bool) → b ≡ t → is_of_truth b t ≡ true
of_same true true e = refl
of_same true false e = absurd (let q : true ≡ false = e in cc)
of_same false true e = absurd (let q : false ≡ true = e in cc)
of_same false false e = refl

of_other : (b t : Bool) → b ≡ not t → is_of_truth b t ≡ false
of_other true true e = absurd (let q : true ≡ false = e in cc)
of_other true false e = refl
of_other false true e = refl
of_other false false e = absurd (let q : false ≡ true = e in cc)

when_is : (c : Cmp) (t : Bool) (x y : ℤ) → compares (when_not c t) x y ≡ is_of_truth (compares c x y) t
when_is c true x y = refl
when_is c false x y = opposite_is c x y

-- the truth that a machine finds
pub found_truth : (b : Bool) (z : Datum) → truth b ≡ has z → is_true z ≡ b
found_truth b z e = sym (ap is_true (has_one (int (cond b (pos 1) (pos 0))) z e)) ∙ truth_is b

linked_truth : (c : Cmp) (u v z : Datum) (t : Bool) → Linked (pointers_compare c u v) (compare_of c (at u) (at v))
    → pointers_compare c u v ≡ has z → is_true z ≡ t → pointers_compare c u v ≡ truth t
linked_truth c u v z t (as_truth b f g) e q =
    f ∙ ap truth (sym (found_truth b z (sym f ∙ e)) ∙ q)
linked_truth c u v z t (as_mix f g) e q = absurd (let r : faults pointer_mix ≡ has z = sym f ∙ e in cc)

module _ {N : Type 0} (D : Ops N) (law : Lawful D) (keeps : KeepsSingles D) (p : Program) (ord : Side → Order) where
  sure_one : (k : Known N) (m : Memories) (l : Option (Known N)) (fs : List Fault) → fs ≡ []
      → IfKeptOne D p ord l m → IfKeptOne D p ord (if_sure D (are_sure fs) k l) m
  sure_one k m l fs e h = subst (λ b. IfKeptOne D p ord (if_sure D b k l) m) (sym (sure_none fs e)) h

  sure_refused : (k : Known N) (l : Option (Known N)) (fs : List Fault) → fs ≡ [] → l ≡ None
      → if_sure D (are_sure fs) k l ≡ None
  sure_refused k l fs e h = ap (λ b. if_sure D b k l) (sure_none fs e) ∙ h

  -- ---- expressions without a rule of their own

  module _ (w : Scalar) (f : Side → Machine) (g : Mode → Known N → Given N) (c : ToCell N)
      (sound : Sound D p ord w f (with_cell D g c)) (one : GivesOne D p ord f g) where
    module _ (k : Known N) (m : Memories) (s : IsKeptOne D p ord k m) (i : Side) (v : Datum)
        (e : f i (memory_of i m) ≡ has v) where
      no_fault : (g (alone i) k).faults ≡ []
      no_fault = (one k m s (alone i) (find_alone f m i v e)).quiet

      value_one : IsOneAs D w (on (g (alone i) k).pair i) v
      value_one = record {
        one = (one k m s (alone i) (find_alone f m i v e)).each i (runs_alone i);
        allowed = ((sound.gives k m s.kept (alone i)).held (reliable_none (alone i) (g (alone i) k).faults no_fault) i
            (runs_alone i) v e).value;
      }

    pub with_cell_one : OneMeans D p ord f (with_cell D g c)
    with_cell_one = record {
      gives = one;
      assumes = λ k m s i t v e q.
          sure_one k m (value_narrowed D t (on (g (alone i) k).pair i).value (c i) k) (g (alone i) k).faults
          (no_fault k m s i v e)
          (tests_stay_one D law keeps p ord k m s w (on (g (alone i) k).pair i).value v (value_one k m s i v e).one
          (value_one k m s i v e).allowed t q (c i) (λ j kj. sound.cell j m kj i v e));
      refuses = λ k m s i t v e q.
          sure_refused k (value_narrowed D t (on (g (alone i) k).pair i).value (c i) k) (g (alone i) k).faults
          (no_fault k m s i v e)
          (tests_are_refused D law w (on (g (alone i) k).pair i).value v (value_one k m s i v e).one
          (value_one k m s i v e).allowed t q (c i) k);
    }

  -- ---- comparisons of numbers

  module _ (c : Cmp) (t : IntType) (f h : Side → Machine) (a b : Means N) (oa : OneGives D p ord (Int t) f a.gives)
      (ob : OneGives D p ord (Int t) h b.gives) (sa : Sound D p ord (Int t) f a) (sb : Sound D p ord (Int t) h b) where
    abbrev both_numbers : Side → Machine
    both_numbers = of_numbers (λ x y. truth (compares c x y)) f h

    -- on the side of a machine that finds its truth
    record IsComparison (k : Known N) (m : Memories) (i : Side) (z : Datum) : Type 0 where
      u : ℤ
      v : ℤ
      first : f i (memory_of i m) ≡ has (int u)
      second : h i (memory_of i m) ≡ has (int v)
      is : is_true z ≡ compares c u v
      quiet : (a.gives (alone i) k).faults ++ (b.gives (alone i) k).faults ≡ []
      x : IsOneNumber D law t (on (a.gives (alone i) k).pair i).value u
      y : IsOneNumber D law t (on (b.gives (alone i) k).pair i).value v

    comparison_of : (k : Known N) (m : Memories) → IsKeptOne D p ord k m → (i : Side) (z : Datum)
        → both_numbers i (memory_of i m) ≡ has z → IsComparison k m i z
    comparison_of k m s i z e =
        let u = number_found (f i (memory_of i m))
        (λ x. with_number (h i (memory_of i m)) (λ y. truth (compares c x y))) z e in
        let v = number_found (h i (memory_of i m)) (λ y. truth (compares c u.0 y)) z u.2 in
        let gx = oa.one k m s (alone i) (find_alone f m i (int u.0) u.1) in
        let gy = ob.one k m s (alone i) (find_alone h m i (int v.0) v.1) in
        let x = one_at D p ord (Int t) f a.gives oa k m s (alone i) gx i (runs_alone i) (int u.0) u.1 in
        let y = one_at D p ord (Int t) h b.gives ob k m s (alone i) gy i (runs_alone i) (int v.0) v.1 in
        record {
          u = u.0;
          v = v.0;
          first = u.1;
          second = v.1;
          is = found_truth (compares c u.0 v.0) z v.2;
          quiet = no_faults (a.gives (alone i) k).faults (b.gives (alone i) k).faults gx.quiet gy.quiet;
          x = number_of D law t (on (a.gives (alone i) k).pair i).value u.0 x.one x.allowed;
          y = number_of D law t (on (b.gives (alone i) k).pair i).value v.0 y.one y.allowed;
        }

    abbrev narrowed : Side → Bool → Known N → Option (Known N)
    narrowed i r k =
        numbers_narrowed D (when_not c r) (number D (on (a.gives (alone i) k).pair i))
        (number D (on (b.gives (alone i) k).pair i)) (a.cell i) (again (b.cell i k)) k

    narrowed_at : (k : Known N) (m : Memories) (i : Side) (z : Datum) (q : IsComparison k m i z) (r : Bool)
        → narrowed i r k
        ≡ numbers_narrowed D (when_not c r) (Some q.x.n) (Some q.y.n) (a.cell i) (again (b.cell i k)) k
    narrowed_at k m i z q r =
        ap (λ o. numbers_narrowed D (when_not c r) o (number D (on (b.gives (alone i) k).pair i)) (a.cell i)
        (again (b.cell i k)) k) (ap number_in q.x.is)
        ∙ ap (λ o. numbers_narrowed D (when_not c r) (Some q.x.n) o (a.cell i) (again (b.cell i k)) k)
        (ap number_in q.y.is)

    pub compare_means_one : GivesOne D p ord both_numbers (compare_means D c a b).gives
        → OneMeans D p ord both_numbers (compare_means D c a b)
    compare_means_one one = record {
      gives = one;
      assumes = λ k m s i r z e truth_is.
          (let q = comparison_of k m s i z e in
          sure_one k m (narrowed i r k) ((a.gives (alone i) k).faults ++ (b.gives (alone i) k).faults) q.quiet
          (subst (λ o. IfKeptOne D p ord o m) (sym (narrowed_at k m i z q r))
          (numbers_stay_one D law keeps p ord k m s (when_not c r) q.x.n q.y.n q.u q.v q.x.single q.y.single
          (when_is c r q.u q.v ∙ of_same (compares c q.u q.v) r (sym q.is ∙ truth_is)) (a.cell i)
          (again (b.cell i k)) (λ j kj. sa.cell j m kj i (int q.u) q.first)
          (again_has D law p ord k m s.kept (b.cell i k) (int q.v) (sb.cell k m s.kept i (int q.v) q.second)))));
      refuses = λ k m s i r z e truth_is.
          (let q = comparison_of k m s i z e in
          sure_refused k (narrowed i r k) ((a.gives (alone i) k).faults ++ (b.gives (alone i) k).faults) q.quiet
          (narrowed_at k m i z q r
          ∙ numbers_are_refused D law (when_not c r) q.x.n q.y.n q.u q.v q.x.single q.y.single
          (when_is c r q.u q.v ∙ of_other (compares c q.u q.v) r (sym q.is ∙ truth_is)) (a.cell i)
          (again (b.cell i k)) k));
    }

  -- ---- comparisons of pointers

  module _ (c : Cmp) (f h : Side → Machine) (a b : Means N) (oa : OneGives D p ord Pointer f a.gives)
      (ob : OneGives D p ord Pointer h b.gives) (sa : Sound D p ord Pointer f a) (sb : Sound D p ord Pointer h b) where
    abbrev both_pointers : Side → Machine
    both_pointers = on_values f h (λ u v. pointers_compare c u v)

    record IsPair (k : Known N) (m : Memories) (i : Side) (z : Datum) : Type 0 where
      u : Datum
      v : Datum
      first : f i (memory_of i m) ≡ has u
      second : h i (memory_of i m) ≡ has v
      is : (t : Bool) → is_true z ≡ t → pointers_compare c u v ≡ truth t
      quiet : (a.gives (alone i) k).faults ++ (b.gives (alone i) k).faults ≡ []
      x : IsOneAs D Pointer (on (a.gives (alone i) k).pair i) u
      y : IsOneAs D Pointer (on (b.gives (alone i) k).pair i) v

    pair_of : (k : Known N) (m : Memories) → IsKeptOne D p ord k m → (i : Side) (z : Datum)
        → both_pointers i (memory_of i m) ≡ has z → IsPair k m i z
    pair_of k m s i z e =
        let u = both_found (f i (memory_of i m)) (λ u. with (h i (memory_of i m)) (λ v. pointers_compare c u v)) z e in
        let v = both_found (h i (memory_of i m)) (λ v. pointers_compare c u.0 v) z u.2 in
        let gx = oa.one k m s (alone i) (find_alone f m i u.0 u.1) in
        let gy = ob.one k m s (alone i) (find_alone h m i v.0 v.1) in
        let x = one_at D p ord Pointer f a.gives oa k m s (alone i) gx i (runs_alone i) u.0 u.1 in
        let y = one_at D p ord Pointer h b.gives ob k m s (alone i) gy i (runs_alone i) v.0 v.1 in
        let ix = among D (on (a.gives (alone i) k).pair i).value u.0 x.allowed in
        let iy = among D (on (b.gives (alone i) k).pair i).value v.0 y.allowed in
        record {
          u = u.0;
          v = v.0;
          first = u.1;
          second = v.1;
          is = λ t q. linked_truth c u.0 v.0 z t (linked c u.0 v.0 ix.pointer_is iy.pointer_is) v.2 q;
          quiet = no_faults (a.gives (alone i) k).faults (b.gives (alone i) k).faults gx.quiet gy.quiet;
          x = x;
          y = y;
        }

    abbrev pointers_left : Side → Bool → Known N → Option (Known N)
    pointers_left i r k =
        pointers_narrowed D c r (pointer_of D (on (a.gives (alone i) k).pair i))
        (pointer_of D (on (b.gives (alone i) k).pair i)) (a.cell i) (again (b.cell i k)) k

    pub pointers_means_one : GivesOne D p ord both_pointers (pointers_means D c a b).gives
        → OneMeans D p ord both_pointers (pointers_means D c a b)
    pointers_means_one one = record {
      gives = one;
      assumes = λ k m s i r z e truth_is.
          (let q = pair_of k m s i z e in
          sure_one k m (pointers_left i r k) ((a.gives (alone i) k).faults ++ (b.gives (alone i) k).faults) q.quiet
          (pointers_stay_one D law p ord k m s c r (on (a.gives (alone i) k).pair i).value
          (on (b.gives (alone i) k).pair i).value q.u q.v q.x.allowed q.y.allowed (q.is r truth_is) (a.cell i)
          (again (b.cell i k)) (λ j kj. sa.cell j m kj i q.u q.first)
          (again_has D law p ord k m s.kept (b.cell i k) q.v (sb.cell k m s.kept i q.v q.second))));
      refuses = λ k m s i r z e truth_is.
          (let q = pair_of k m s i z e in
          sure_refused k (pointers_left i r k) ((a.gives (alone i) k).faults ++ (b.gives (alone i) k).faults) q.quiet
          (pointers_are_refused D law c r (on (a.gives (alone i) k).pair i).value
          (on (b.gives (alone i) k).pair i).value q.u q.v q.x.one q.y.one q.x.allowed q.y.allowed
          (q.is (not r) truth_is) (a.cell i) (again (b.cell i k)) k));
    }

  -- ---- `!`

  pub not_means_one : (f : Side → Machine) (a : Means N) → OneMeans D p ord f a
      → GivesOne D p ord (λ s m. with (f s m) (λ v. truth (not (is_true v)))) (not_means D a).gives
      → OneMeans D p ord (λ s m. with (f s m) (λ v. truth (not (is_true v)))) (not_means D a)
  not_means_one f a oa one = record {
    gives = one;
    assumes = λ k m s i t z e q.
        (let u = value_part (λ v. truth (not (is_true v))) (f i (memory_of i m)) z e in
        oa.assumes k m s i (not t) u.u u.first
        (from_not (is_true u.u) t (sym (found_truth (not (is_true u.u)) z u.is) ∙ q)));
    refuses = λ k m s i t z e q.
        (let u = value_part (λ v. truth (not (is_true v))) (f i (memory_of i m)) z e in
        oa.refuses k m s i (not t) u.u u.first
        (from_not (is_true u.u) (not t) (sym (found_truth (not (is_true u.u)) z u.is) ∙ q)));
  }
