-- Comparisons of pointers.
use Rattle.std.proofs.Common.{◌≡◌, pos, Bool, true, false, cond, ◌++◌, Option, Some, None, IfSome, refl, sym, ap, ◌∙◌}
use Rattle.ep_evaluation.proofs.Tests.{runs_alone}
use Rattle.ep_cell_ranges.proofs.Shareds.{has_one}
use Rattle.std.proofs.Common.{subst}
use Rattle.ep_alarms.specs.declared.types.AlarmKind.TheVariants.{U8}
use Rattle.ep_int.specs.declared.types.Order.{Order}
use Rattle.ep_int.specs.declared.types.Cmp.{Cmp}
use Rattle.ep_int.specs.declared.types.IntType.TheVariants.{I32}
use Rattle.ep_int.specs.declared.types.Scalar.{Scalar}
use Rattle.ep_int.specs.declared.types.Scalar.TheVariants.{Int, Pointer}
use Rattle.ep_int.specs.Memory.{Value as Datum, int, null, pointer, Found, has, faults, pointer_mix}
use Rattle.ep_bitslice.specs.Bits.{Numbers}
use Rattle.ep_domain.specs.Domain.{Ops, Lawful}
use Rattle.ep_pointers.specs.declared.compare.Truths.{Truths}
use Rattle.ep_pointers.specs.Value.{Pointers, HoldsPointer}
use Rattle.ep_pointers.specs.Compare.{pointers_compare as compare_of, comparison_of, Answers}
use Rattle.ep_pointers.proofs.Gathered.{pointer_laws}
use Rattle.ep_cells.specs.declared.cell.Value.{Value}
use Rattle.ep_cells.specs.declared.cell.Value.TheVariants.{Num, Ptr}
use Rattle.ep_cells.specs.States.{Known}
use Rattle.ep_cells.specs.Meaning.{Memories, Allows}
use Rattle.ep_core.specs.Program.{Program}
use Rattle.ep_core.specs.Exec.{is_true, with, pointers_compare}
use Rattle.ep_core.specs.Runs.{Side}
use Rattle.ep_equalities.specs.declared.pair.Mode.{Mode}
use Rattle.ep_equalities.specs.declared.pair.SideValue.{SideValue}
use Rattle.ep_equalities.specs.Pairs.{SideIn}
use Rattle.ep_evaluation.specs.Given.{Given, on, alone, are_sure, shown_if, faults_on}
use Rattle.ep_evaluation.specs.Operators.{pointer_in}
use Rattle.ep_evaluation.specs.Narrowed.{again, pointers_narrowed}
use Rattle.ep_evaluation.specs.Evaluation.{Means, pointer as pointer_of, truths, pointers_side, pointers_given}
use Rattle.ep_evaluation.specs.Evaluation.{pointers_means}
use Rattle.ep_evaluation.specs.Laws.{memory_of, Machine, IsKept, IfKept, Sound}
use Rattle.ep_evaluation.proofs.General.{none_left, sure_parts, reliable_parts, unmarked, not_shown, both_found}
use Rattle.ep_evaluation.proofs.Generic.{Typed, Parts, Operator, IsOperator, HasFaults, two_hold, two_fit}
use Rattle.ep_evaluation.proofs.Operators.{truth_allowed, truth_sort, truth_rising}
use Rattle.ep_evaluation.proofs.Pointers.{at, IsPointer, Linked, as_truth, as_mix, linked, pointers_kept}
use Rattle.ep_evaluation.proofs.Pointers.{pointers_state}
use Rattle.ep_evaluation.proofs.Again.{again_has, again_there}
use Rattle.ep_evaluation.proofs.Sounds.{reliable_alone, sure_kept, sure_state}

-- a value that allows an address
pub record IsPtr {N : Type 0} (D : Ops N) (o : Option (Value N)) (u : Datum) : Type 0 where
  pub value : Pointers N
  pub is : o ≡ Some (Ptr value)
  pub holds : HoldsPointer D value (at u)
  pub kind : IsPointer u

pub is_ptr : {N : Type 0} (D : Ops N) (o : Option (Value N)) (u : Datum) → Allows D Pointer o false (Some u)
    → IsPtr D o u
is_ptr D None u a = absurd (let e : Some u ≡ None = a in cc)
is_ptr D (Some (Num n)) (int z) a = absurd a
is_ptr D (Some (Num n)) null a = absurd a
is_ptr D (Some (Num n)) (pointer b q) a = absurd a
is_ptr D (Some (Ptr x)) (int z) a = absurd a
is_ptr D (Some (Ptr x)) null a = record { value = x; is = refl; holds = a; kind = tt }
is_ptr D (Some (Ptr x)) (pointer b q) a = record { value = x; is = refl; holds = a; kind = tt }

-- what a machine finds of two values
abbrev pub on_values : (Side → Machine) → (Side → Machine) → (Datum → Datum → Found) → Side → Machine
on_values f h go s m = with (f s m) (λ u. with (h s m) (λ v. go u v))

values_parts : (go : Datum → Datum → Found) (x y : Found) (z : Datum) → with x (λ u. with y (λ v. go u v)) ≡ has z
    → Parts x y go z
values_parts go x y z e =
    let a = both_found x (λ u. with y (λ v. go u v)) z e in
    let b = both_found y (λ v. go a.0 v) z a.2 in
    record { u = a.0; v = b.0; first = a.1; second = b.1; is = b.2 }

pub values_are : {N : Type 0} (D : Ops N) (law : Lawful D) (p : Program) (ord : Side → Order) (a b : Scalar)
    (go : Datum → Datum → Found)
    (f h : Side → Machine) → IsOperator D law p ord a b go f h (on_values f h go)
values_are D law p ord a b go f h = record {
  parts = λ s m z e. values_parts go (f s m) (h s m) z e;
  whole = λ s m u v _ _ e k. rw (e, k) refl;
}

module _ {N : Type 0} (D : Ops N) (law : Lawful D) (p : Program) (ord : Side → Order) (c : Cmp) where
  abbrev go : Datum → Datum → Found
  go u v = pointers_compare c u v

  abbrev Quiet : SideValue N → SideValue N → Type 0
  Quiet x y = shown_if (truths D c x y).mixed ≡ None

  truths_at : (x y : SideValue N) (a b : Pointers N) → x.value ≡ Some (Ptr a) → y.value ≡ Some (Ptr b)
      → truths D c x y ≡ comparison_of D c a b
  truths_at x y a b e f = rw (e, f) refl

  -- a machine's answer is among them
  answer_of : (x y : SideValue N) (u v : Datum) → IsPtr D x.value u → IsPtr D y.value v
      → (o : Option Bool) → compare_of c (at u) (at v) ≡ o → Answers o (truths D c x y)
  answer_of x y u v i j o e =
      subst (λ t. Answers o t) (sym (truths_at x y i.value j.value i.is j.is))
      (subst (λ r. Answers r (comparison_of D c i.value j.value)) e
      ((pointer_laws D law).compare_answers c i.value j.value (at u) (at v) i.holds j.holds))

  yes_of : (t : Truths) → Answers (Some true) t → t.yes ≡ true
  yes_of t a = a

  no_of : (t : Truths) → Answers (Some false) t → t.no ≡ true
  no_of t a = a

  held_truth : (n : Numbers) (x y : SideValue N) (b : Bool) → Answers (Some b) (truths D c x y)
      → SideIn D n (Int I32) (pointers_side D c x y) (int (cond b (pos 1) (pos 0)))
  held_truth n x y b a = record {
    value = truth_allowed D law (truths D c x y).yes (truths D c x y).no b
        (λ e. yes_of (truths D c x y) (subst (λ z. Answers (Some z) (truths D c x y)) e a))
        (λ e. no_of (truths D c x y) (subst (λ z. Answers (Some z) (truths D c x y)) e a));
    form = tt;
  }

  held_by : (n : Numbers) (x y : SideValue N) (u v z : Datum) → IsPtr D x.value u → IsPtr D y.value v → go u v ≡ has z
      → Linked (go u v) (compare_of c (at u) (at v)) → SideIn D n (Int I32) (pointers_side D c x y) z
  held_by n x y u v z i j e (as_truth b f g) =
      subst (λ d. SideIn D n (Int I32) (pointers_side D c x y) d) (has_one (int (cond b (pos 1) (pos 0))) z (sym f ∙ e))
      (held_truth n x y b (answer_of x y u v i j (Some b) g))
  held_by n x y u v z i j e (as_mix f g) = absurd (let q : faults pointer_mix ≡ has z = sym f ∙ e in cc)

  found_by : (x y : SideValue N) (u v : Datum) → IsPtr D x.value u → IsPtr D y.value v → Quiet x y
      → Linked (go u v) (compare_of c (at u) (at v)) → (z : Datum) × (go u v ≡ has z)
  found_by x y u v i j q (as_truth b f g) = (int (cond b (pos 1) (pos 0)), f)
  found_by x y u v i j q (as_mix f g) =
      let m : (truths D c x y).mixed ≡ true = answer_of x y u v i j None g in
      absurd (let r : true ≡ false = sym m ∙ not_shown (truths D c x y).mixed q in cc)

  operator : Operator D law p ord (Int I32) Pointer Pointer go (pointers_side D c) Quiet
  operator = record {
    held = λ n k x y u v z _ _ _ _ h i e.
        (let a = is_ptr D x.value u h.value in
        let b = is_ptr D y.value v i.value in
        held_by n x y u v z a b e (linked c u v a.kind b.kind));
    found = λ n k x y u v _ _ _ _ h i q.
        (let a = is_ptr D x.value u h.value in
        let b = is_ptr D y.value v i.value in
        found_by x y u v a b q (linked c u v a.kind b.kind));
    fits = λ k x y h i. record { sort = truth_sort D law _ _; rising = truth_rising D law _ _; form = tt };
  }

  mixed_faults : (mode : Mode) (x y : Given N)
      → HasFaults D law p ord mode x y Quiet (pointers_given D c mode x y).faults
  mixed_faults mode x y =
      let own = faults_on mode U8 (λ s. shown_if (truths D c (on x.pair s) (on y.pair s)).mixed) in record {
        none_first = λ e. (none_left x.faults (y.faults ++ own) e).0;
        none_second = λ e. (none_left y.faults own (none_left x.faults (y.faults ++ own) e).1).0;
        quiet = λ e s i. unmarked mode U8 (λ s. shown_if (truths D c (on x.pair s) (on y.pair s)).mixed) s
            (none_left y.faults own (none_left x.faults (y.faults ++ own) e).1).1 i;
        sure_first = λ e. (reliable_parts mode x.faults (y.faults ++ own) e).0;
        sure_second = λ e. (reliable_parts mode y.faults own (reliable_parts mode x.faults (y.faults ++ own) e).1).0;
      }

  -- the truth that a machine finds
  compared_as : (u v z : Datum) (t : Bool) → go u v ≡ has z → is_true z ≡ t
      → Linked (go u v) (compare_of c (at u) (at v))
      → compare_of c (at u) (at v) ≡ Some t
  compared_as u v z t e q (as_truth b f g) =
      g ∙ ap Some (by b (has_one (int (cond b (pos 1) (pos 0))) z (sym f ∙ e)))
    where
      by : (b : Bool) → int (cond b (pos 1) (pos 0)) ≡ z → b ≡ t
      by true i = ap is_true i ∙ q
      by false i = ap is_true i ∙ q
  compared_as u v z t e q (as_mix f g) = absurd (let r : faults pointer_mix ≡ has z = sym f ∙ e in cc)

  module _ (f h : Side → Machine) (a b : Means N) (tf : Typed p Pointer f) (th : Typed p Pointer h)
      (sa : Sound D p ord Pointer f a) (sb : Sound D p ord Pointer h b) where
    abbrev both : Side → Machine
    both = on_values f h go

    some_pointer : (o : Option (Value N)) (u : Datum) → IsPtr D o u
        → IfSome (pointer_in o) (λ q. HoldsPointer D q (at u))
    some_pointer o u i = rw i.is i.holds

    assumed_kept : (k : Known N) (m : Memories) → IsKept D p ord k m → (s : Side) (r : Bool) (z : Datum)
        → both s (memory_of s m) ≡ has z
        → is_true z ≡ r → are_sure ((a.gives (alone s) k).faults ++ (b.gives (alone s) k).faults) ≡ true
        → IfKept D p ord (pointers_narrowed D c r (pointer_of D (on (a.gives (alone s) k).pair s))
        (pointer_of D (on (b.gives (alone s) k).pair s)) (a.cell s) (again (b.cell s k)) k) m
    assumed_kept k m kept s r z e q sure =
        let l = sure_parts (a.gives (alone s) k).faults (b.gives (alone s) k).faults sure in
        let w = values_parts go (f s (memory_of s m)) (h s (memory_of s m)) z e in
        let hx = (sa.gives k m kept (alone s)).held (reliable_alone s (a.gives (alone s) k).faults l.0) s
        (runs_alone s) w.u w.first in
        let hy = (sb.gives k m kept (alone s)).held (reliable_alone s (b.gives (alone s) k).faults l.1) s
        (runs_alone s) w.v w.second in
        let i = is_ptr D (on (a.gives (alone s) k).pair s).value w.u hx.value in
        let j = is_ptr D (on (b.gives (alone s) k).pair s).value w.v hy.value in
        pointers_kept D law p ord k m kept c r (pointer_of D (on (a.gives (alone s) k).pair s))
        (pointer_of D (on (b.gives (alone s) k).pair s))
        w.u w.v i.kind j.kind (some_pointer (on (a.gives (alone s) k).pair s).value w.u i)
        (some_pointer (on (b.gives (alone s) k).pair s).value w.v j)
        (compared_as w.u w.v z r w.is q (linked c w.u w.v i.kind j.kind))
        (a.cell s) (again (b.cell s k)) (λ l kl. sa.cell l m kl s w.u w.first)
        (again_has D law p ord k m kept (b.cell s k) w.v (sb.cell k m kept s w.v w.second))

    pub pointers_sound : Sound D p ord (Int I32) both (pointers_means D c a b)
    pointers_sound = record {
      gives = λ k m kept mode.
          two_hold D law p ord (Int I32) Pointer Pointer go (pointers_side D c) Quiet f h both operator
          (values_are D law p ord Pointer Pointer go f h) tf th k m kept mode (a.gives mode k) (b.gives mode k)
          (pointers_given D c mode (a.gives mode k) (b.gives mode k)).faults
          (mixed_faults mode (a.gives mode k) (b.gives mode k))
          (sa.gives k m kept mode) (sb.gives k m kept mode) (sa.fits k kept.state mode) (sb.fits k kept.state mode);
      assumes = λ k m kept s r v e q.
          sure_kept D law p ord k m (pointers_narrowed D c r (pointer_of D (on (a.gives (alone s) k).pair s))
          (pointer_of D (on (b.gives (alone s) k).pair s)) (a.cell s) (again (b.cell s k)) k)
          (are_sure ((a.gives (alone s) k).faults ++ (b.gives (alone s) k).faults)) kept
          (λ sure. assumed_kept k m kept s r v e q sure);
      cell = λ k m kept s v e. tt;
      fits = λ k st mode.
          two_fit D law p ord (Int I32) Pointer Pointer go (pointers_side D c) Quiet operator k mode (a.gives mode k)
          (b.gives mode k)
          (pointers_given D c mode (a.gives mode k) (b.gives mode k)).faults (sa.fits k st mode) (sb.fits k st mode);
      stays = λ k st s r.
          sure_state D law p ord k (pointers_narrowed D c r (pointer_of D (on (a.gives (alone s) k).pair s))
          (pointer_of D (on (b.gives (alone s) k).pair s)) (a.cell s) (again (b.cell s k)) k)
          (are_sure ((a.gives (alone s) k).faults ++ (b.gives (alone s) k).faults)) st
          (pointers_state D law p ord k st c r (pointer_of D (on (a.gives (alone s) k).pair s))
          (pointer_of D (on (b.gives (alone s) k).pair s)) (a.cell s) (again (b.cell s k)) (λ j sj. sa.there j sj s)
          (again_there D law p ord (b.cell s k)));
      there = λ k s i. tt;
    }
