-- What forms of expressions mean is sound where what their parts mean is.
use Rattle.std.proofs.Common.{◌≡◌, ℤ, pos, Bool, true, false, ◌&&◌, not, cond, List, ◌++◌, Option, Some, None, IfSome}
use Rattle.ep_evaluation.proofs.Tests.{runs_alone}
use Rattle.std.proofs.Common.{refl, sym, ap, ◌∙◌, subst}
use Rattle.ep_int.specs.declared.types.Order.{Order}
use Rattle.ep_int.specs.declared.types.Cmp.{Cmp}
use Rattle.ep_int.specs.declared.types.IntType.{IntType}
use Rattle.ep_int.specs.declared.types.IntType.TheVariants.{I32}
use Rattle.ep_int.specs.declared.types.Scalar.{Scalar}
use Rattle.ep_int.specs.declared.types.Scalar.TheVariants.{Int}
use Rattle.ep_int.specs.Arith.{compares}
use Rattle.ep_int.specs.Memory.{Value as Datum, int, Found, has}
use Rattle.ep_bitslice.specs.Bits.{Numbers}
use Rattle.ep_domain.specs.Domain.{Ops, Lawful}
use Rattle.ep_domain.specs.Domain.{Holds as HoldsNumber}
use Rattle.ep_cells.specs.declared.cell.Cell.{Cell}
use Rattle.ep_cells.specs.declared.cell.Value.{Value}
use Rattle.ep_cells.specs.declared.cell.Value.TheVariants.{Num, Ptr}
use Rattle.ep_cells.specs.Cells.{IsIn}
use Rattle.ep_cells.specs.States.{Known, IsOfSort}
use Rattle.ep_cells.specs.Meaning.{Memories, Allows}
use Rattle.ep_cells.specs.Laws.{JoinLaws}
use Rattle.ep_reads.specs.SplitLaws.{UnifyLaws}
use Rattle.ep_core.specs.Program.{Program}
use Rattle.ep_core.specs.Exec.{is_true, with, with_number, where_true, truth}
use Rattle.ep_core.specs.Runs.{Side, left, right}
use Rattle.ep_equalities.specs.declared.pair.Mode.{Mode}
use Rattle.ep_equalities.specs.declared.pair.Fault.{Fault}
use Rattle.ep_equalities.specs.declared.pair.SideValue.{SideValue}
use Rattle.ep_equalities.specs.Pairs.{SideIn}
use Rattle.ep_evaluation.specs.Given.{Given, on, are_sure, alone}
use Rattle.ep_evaluation.specs.Operators.{number_in, test_of, may_be}
use Rattle.ep_evaluation.specs.Narrowed.{again, when_not, numbers_narrowed}
use Rattle.ep_evaluation.specs.Evaluation.{Means, ToCell, same, number, if_sure, value_narrowed, with_cell, not_side}
use Rattle.ep_evaluation.specs.Evaluation.{compare_side, compare_means, short_side, later, later_side, later_same}
use Rattle.ep_evaluation.specs.Evaluation.{and_means, or_means, not_means}
use Rattle.ep_evaluation.specs.Laws.{memory_of, Machine, IsReliable, IsState, IfState, IsKept, IfKept, IsOfCell}
use Rattle.ep_evaluation.specs.Laws.{SideFits, Holds, Sound}
use Rattle.ep_evaluation.proofs.General.{none_left, sure_parts, reliable_parts, both_found, number_found, IsNum}
use Rattle.ep_evaluation.proofs.General.{is_int}
use Rattle.ep_evaluation.proofs.Generic.{Typed, Part, HasFaults, OperatorOf, one_holds, one_fits, two_hold}
use Rattle.ep_evaluation.proofs.Generic.{two_fit, pair_fits}
use Rattle.ep_evaluation.proofs.Operators.{on_numbers, of_numbers, numbers_are, comparison, opposite_compares}
use Rattle.ep_evaluation.proofs.Operators.{truth_allowed, truth_sort, truth_rising}
use Rattle.ep_evaluation.proofs.Assuming.{CellHas, CellThere, numbers_kept, numbers_state}
use Rattle.ep_evaluation.proofs.Again.{again_has, again_there}
use Rattle.ep_evaluation.proofs.Tests.{number_kept}
use Rattle.ep_evaluation.proofs.Later.{may_be_of}
use Rattle.ep_evaluation.proofs.Short.{ShortParts, of_second, of_first, IsShort, short_holds, short_stays}
use Rattle.ep_evaluation.proofs.Short.{short_all_kept, short_first_kept, short_second_kept}

pub reliable_alone : (s : Side) (fs : List Fault) → are_sure fs ≡ true → IsReliable (alone s) fs
reliable_alone left fs e = e
reliable_alone right fs e = e

pub from_not : (b t : Bool) → not b ≡ t → b ≡ not t
from_not true true e = absurd cc
from_not true false e = refl
from_not false true e = refl
from_not false false e = absurd cc

is_cond : (b : Bool) → b ≡ is_true (int (cond b (pos 1) (pos 0)))
is_cond true = refl
is_cond false = refl

module _ {N : Type 0} (D : Ops N) (law : Lawful D) (p : Program) (ord : Side → Order) where
  pub sure_kept : (k : Known N) (m : Memories) (l : Option (Known N)) (b : Bool) → IsKept D p ord k m
      → (b ≡ true → IfKept D p ord l m)
      → IfKept D p ord (if_sure D b k l) m
  sure_kept k m l true kept h = h refl
  sure_kept k m l false kept h = kept

  pub sure_state : (k : Known N) (l : Option (Known N)) (b : Bool) → IsState D p ord k → IfState D p ord l
      → IfState D p ord (if_sure D b k l)
  sure_state k l true s h = h
  sure_state k l false s h = s

  some_number : (t : IntType) (o : Option (Value N)) (z : ℤ) → IsNum D t o z
      → IfSome (number_in o) (λ a. HoldsNumber D a z)
  some_number t o z i = rw i.is i.holds

  pub value_kept : (k : Known N) (m : Memories) → IsKept D p ord k m
      → (b : Bool) (t : IntType) (o : Option (Value N)) (z : ℤ) → IsNum D t o z
      → is_true (int z) ≡ b → (f : Known N → Option (Cell N)) → CellHas D law p ord m f (int z)
      → IfKept D p ord (value_narrowed D b o f k) m
  value_kept k m kept b t o z i e f cf = rw i.is (number_kept D law p ord k m kept b i.number z i.holds e f cf)

  pub value_state : (k : Known N) → IsState D p ord k → (b : Bool) (t : IntType) (o : Option (Value N))
      → IsOfSort (Int t) o
      → (f : Known N → Option (Cell N)) → CellThere D law p ord f → IfState D p ord (value_narrowed D b o f k)
  value_state k s b t None i f cf = s
  value_state k s b t (Some (Num n)) i f cf = numbers_state D law p ord k s (test_of b) (Some n)
      (Some (D.single (pos 0))) f (λ k. None) cf (λ j h. tt)
  value_state k s b t (Some (Ptr q)) i f cf = absurd i

  -- ---- expressions of integer types that have no rule of their own for assuming

  pub with_cell_sound : (t : IntType) (f : Side → Machine) (g : Mode → Known N → Given N) (c : ToCell N)
      → ((k : Known N) (m : Memories) → IsKept D p ord k m → (mode : Mode)
      → Holds D p ord (Int t) (λ s. f s (memory_of s m)) k m mode (g mode k))
      → ((k : Known N) → IsState D p ord k → (mode : Mode) (s : Side)
      → SideFits D p ord k (Int t) (on (g mode k).pair s))
      → ((k : Known N) (m : Memories) → IsKept D p ord k m → (s : Side) (v : Datum) → f s (memory_of s m) ≡ has v
      → IfSome (c s k) (λ x. IsOfCell D p ord k m x v))
      → ((k : Known N) → IsState D p ord k → (s : Side) → IfSome (c s k) (λ x. IsIn x k.cells))
      → Sound D p ord (Int t) f (with_cell D g c)
  with_cell_sound t f g c holds fits cell there = record {
    gives = holds;
    assumes = λ k m kept s b v e q.
        sure_kept k m (value_narrowed D b (on (g (alone s) k).pair s).value (c s) k)
        (are_sure (g (alone s) k).faults) kept
        (λ sure.
        let h = (holds k m kept (alone s)).held (reliable_alone s (g (alone s) k).faults sure) s (runs_alone s) v e in
        let i = is_int D t (on (g (alone s) k).pair s).value v h.value in
        value_kept k m kept b t (on (g (alone s) k).pair s).value i.z i.num (sym (ap is_true i.datum) ∙ q) (c s)
        (λ j kj. cell j m kj s (int i.z) (e ∙ ap has i.datum)));
    cell = cell;
    fits = fits;
    stays = λ k s i b.
        sure_state k (value_narrowed D b (on (g (alone i) k).pair i).value (c i) k) (are_sure (g (alone i) k).faults) s
        (value_state k s b t (on (g (alone i) k).pair i).value (fits k s (alone i) i).sort (c i)
        (λ j sj. there j sj i));
    there = there;
  }

  -- ---- comparisons of numbers

  compares_as : (c : Cmp) (t : Bool) (x y : ℤ) (v : Datum) → truth (compares c x y) ≡ has v → is_true v ≡ t
      → compares (when_not c t) x y ≡ true
  compares_as c t x y v e q = by_truth (compares c x y) refl e
    where
      one_value : (u v : Datum) → has u ≡ has v → u ≡ v
      one_value u v e = cc

      by_truth : (b : Bool) → compares c x y ≡ b → truth b ≡ has v → compares (when_not c t) x y ≡ true
      by_truth true i j = subst (λ r. compares (when_not c r) x y ≡ true) (ap is_true (one_value (int (pos 1)) v j)
          ∙ q) i
      by_truth false i j = subst (λ r. compares (when_not c r) x y ≡ true) (ap is_true (one_value (int (pos 0)) v j)
          ∙ q) (opposite_compares c x y i)

  compare_faults : (mode : Mode) (x y : Given N)
      → HasFaults D law p ord mode x y (λ a b. Unit {0}) (x.faults ++ y.faults)
  compare_faults mode x y = record {
    none_first = λ e. (none_left x.faults y.faults e).0;
    none_second = λ e. (none_left x.faults y.faults e).1;
    quiet = λ e s r. tt;
    sure_first = λ e. (reliable_parts mode x.faults y.faults e).0;
    sure_second = λ e. (reliable_parts mode x.faults y.faults e).1;
  }

  module _ (c : Cmp) (t : IntType) (f h : Side → Machine) (a b : Means N) (tf : Typed p (Int t) f)
      (th : Typed p (Int t) h)
      (sa : Sound D p ord (Int t) f a) (sb : Sound D p ord (Int t) h b) where
    abbrev both : Side → Machine
    both = of_numbers (λ x y. truth (compares c x y)) f h

    compare_kept : (k : Known N) (m : Memories) → IsKept D p ord k m → (s : Side) (r : Bool) (v : Datum)
        → both s (memory_of s m) ≡ has v
        → is_true v ≡ r → are_sure ((a.gives (alone s) k).faults ++ (b.gives (alone s) k).faults) ≡ true
        → IfKept D p ord (numbers_narrowed D (when_not c r) (number D (on (a.gives (alone s) k).pair s))
        (number D (on (b.gives (alone s) k).pair s)) (a.cell s) (again (b.cell s k)) k) m
    compare_kept k m kept s r v e q sure =
        let l = sure_parts (a.gives (alone s) k).faults (b.gives (alone s) k).faults sure in
        let u = number_found (f s (memory_of s m))
        (λ x. with_number (h s (memory_of s m)) (λ y. truth (compares c x y))) v e in
        let w = number_found (h s (memory_of s m)) (λ y. truth (compares c u.0 y)) v u.2 in
        let hx = (sa.gives k m kept (alone s)).held (reliable_alone s (a.gives (alone s) k).faults l.0) s
        (runs_alone s) (int u.0) u.1 in
        let hy = (sb.gives k m kept (alone s)).held (reliable_alone s (b.gives (alone s) k).faults l.1) s
        (runs_alone s) (int w.0) w.1 in
        numbers_kept D law p ord k m kept (when_not c r) (number D (on (a.gives (alone s) k).pair s))
        (number D (on (b.gives (alone s) k).pair s)) u.0 w.0
        (known_int (on (a.gives (alone s) k).pair s).value u.0 hx.value)
        (known_int (on (b.gives (alone s) k).pair s).value w.0 hy.value)
        (compares_as c r u.0 w.0 v w.2 q) (a.cell s) (again (b.cell s k)) (λ j kj. sa.cell j m kj s (int u.0) u.1)
        (again_has D law p ord k m kept (b.cell s k) (int w.0) (sb.cell k m kept s (int w.0) w.1))
      where
        one_int : (x y : ℤ) → int x ≡ int y → x ≡ y
        one_int x y e = cc

        known_int : (o : Option (Value N)) (z : ℤ) → Allows D (Int t) o false (Some (int z))
            → IfSome (number_in o) (λ n. HoldsNumber D n z)
        known_int o z al =
            let i = is_int D t o (int z) al in
            subst (λ y. IfSome (number_in o) (λ n. HoldsNumber D n y)) (sym (one_int z i.z i.datum))
            (some_number t o i.z i.num)

    pub compare_sound : Sound D p ord (Int I32) both (compare_means D c a b)
    compare_sound = record {
      gives = λ k m kept mode.
          two_hold D law p ord (Int I32) (Int t) (Int t) (on_numbers (λ x y. truth (compares c x y)))
          (compare_side D c) (λ x y. Unit {0}) f h both
          (comparison D law p ord c t) (numbers_are D law p ord (λ x y. truth (compares c x y)) t t f h) tf th k m kept
          mode (a.gives mode k)
          (b.gives mode k) ((a.gives mode k).faults ++ (b.gives mode k).faults)
          (compare_faults mode (a.gives mode k) (b.gives mode k))
          (sa.gives k m kept mode) (sb.gives k m kept mode) (sa.fits k kept.state mode) (sb.fits k kept.state mode);
      assumes = λ k m kept s r v e q.
          sure_kept k m (numbers_narrowed D (when_not c r) (number D (on (a.gives (alone s) k).pair s))
          (number D (on (b.gives (alone s) k).pair s)) (a.cell s) (again (b.cell s k)) k)
          (are_sure ((a.gives (alone s) k).faults ++ (b.gives (alone s) k).faults)) kept
          (λ sure. compare_kept k m kept s r v e q sure);
      cell = λ k m kept s v e. tt;
      fits = λ k s mode.
          two_fit D law p ord (Int I32) (Int t) (Int t) (on_numbers (λ x y. truth (compares c x y))) (compare_side D c)
          (λ x y. Unit {0})
          (comparison D law p ord c t) k mode (a.gives mode k) (b.gives mode k)
          ((a.gives mode k).faults ++ (b.gives mode k).faults)
          (sa.fits k s mode) (sb.fits k s mode);
      stays = λ k st s r.
          sure_state k (numbers_narrowed D (when_not c r) (number D (on (a.gives (alone s) k).pair s))
          (number D (on (b.gives (alone s) k).pair s)) (a.cell s) (again (b.cell s k)) k)
          (are_sure ((a.gives (alone s) k).faults ++ (b.gives (alone s) k).faults)) st
          (numbers_state D law p ord k st (when_not c r) (number D (on (a.gives (alone s) k).pair s))
          (number D (on (b.gives (alone s) k).pair s)) (a.cell s) (again (b.cell s k))
          (λ j sj. sa.there j sj s) (again_there D law p ord (b.cell s k)));
      there = λ k s i. tt;
    }

  -- ---- `!`

  not_part : (x : Found) (z : Datum) → with x (λ v. truth (not (is_true v))) ≡ has z
      → Part x (λ v. truth (not (is_true v))) z
  not_part x z e = let r = both_found x (λ v. truth (not (is_true v))) z e in record { u = r.0; first = r.1; is = r.2 }

  one_truth : (u v : Datum) → has u ≡ has v → u ≡ v
  one_truth u v e = cc

  not_held : (n : Numbers) (w : Scalar) (x : SideValue N) (u z : Datum) → SideIn D n w x u
      → truth (not (is_true u)) ≡ has z
      → SideIn D n (Int I32) (not_side D x) z
  not_held n w x u z h e =
      subst (λ q. SideIn D n (Int I32) (not_side D x) q) (one_truth (int (cond (not (is_true u)) (pos 1) (pos 0))) z e)
      (record {
        value = truth_allowed D law (may_be D x.value false) (may_be D x.value true) (not (is_true u))
            (λ q. may_be_of D law p ord w x.value u false h.value (from_not (is_true u) true q))
            (λ q. may_be_of D law p ord w x.value u true h.value (from_not (is_true u) false q));
        form = tt;
      })

  negation : (w : Scalar)
      → OperatorOf D law p ord (Int I32) w (λ v. truth (not (is_true v))) (not_side D) (λ x. Unit {0})
  negation w = record {
    held = λ n k x u z _ _ h e. not_held n w x u z h e;
    found = λ n k x u _ _ h _. (int (cond (not (is_true u)) (pos 1) (pos 0)), refl);
    fits = λ k x h. record { sort = truth_sort D law _ _; rising = truth_rising D law _ _; form = tt };
  }

  abbrev not_machine : (Side → Machine) → Side → Machine
  not_machine f s m = with (f s m) (λ v. truth (not (is_true v)))

  pub not_sound : (w : Scalar) (f : Side → Machine) (a : Means N) → Typed p w f → Sound D p ord w f a
      → Sound D p ord (Int I32) (not_machine f) (not_means D a)
  not_sound w f a tf sa = record {
    gives = λ k m kept mode.
        one_holds D law p ord (Int I32) w (λ v. truth (not (is_true v))) (not_side D) (λ x. Unit {0}) f (not_machine f)
        (negation w)
        (record { part = λ s m z e. not_part (f s m) z e; whole_is = λ s m u _ e. rw e refl }) tf k m kept mode
        (a.gives mode k)
        (a.gives mode k).faults (record { none = λ e. e; quiet = λ e s r. tt; sure = λ e. e }) (sa.gives k m kept mode)
        (sa.fits k kept.state mode);
    assumes = λ k m kept s t v e q.
        let r = not_part (f s (memory_of s m)) v e in
        sa.assumes k m kept s (not t) r.u r.first
        (from_not (is_true r.u) t (is_cond (not (is_true r.u))
        ∙ (ap is_true (one_truth (int (cond (not (is_true r.u)) (pos 1) (pos 0))) v r.is) ∙ q)));
    cell = λ k m kept s v e. tt;
    fits = λ k s mode.
        one_fits D law p ord (Int I32) w (λ v. truth (not (is_true v))) (not_side D) (λ x. Unit {0})
        (negation w) k mode (a.gives mode k)
        (a.gives mode k).faults (sa.fits k s mode);
    stays = λ k st s t. sa.stays k st s (not t);
    there = λ k s i. tt;
  }

  -- ---- `&&`

  one_has : (u v : Datum) → has u ≡ has v → u ≡ v
  one_has u v e = cc

  abbrev and_machine : (Side → Machine) → (Side → Machine) → Side → Machine
  and_machine f h s m = with (f s m) (λ v. where_true (is_true v) (truth false) (with (h s m) (λ w. truth (is_true w))))

  is_and : (f h : Side → Machine) → IsShort true f h (and_machine f h)
  is_and f h = record {
    parts = λ s m z e. and_parts (f s m) (h s m) z e;
    second = λ s m w c e. rw (c.finds, c.truth, e) refl;
    first = λ s m c. rw (c.finds, c.truth) refl;
  }
    where
      of_truth : (x y : Found) (u z : Datum) (b : Bool) → x ≡ has u → is_true u ≡ b
          → where_true b (truth false) (with y (λ w. truth (is_true w))) ≡ has z → ShortParts true x y z
      of_truth x y u z true i j e =
          let r = both_found y (λ w. truth (is_true w)) z e in
          of_second (record { u = u; finds = i; truth = j }) r.0 r.1
          (sym (one_has (int (cond (is_true r.0) (pos 1) (pos 0))) z r.2))
      of_truth x y u z false i j e = of_first (record { u = u; finds = i; truth = j }) (sym (one_has (int (pos 0)) z e))

      and_parts : (x y : Found) (z : Datum)
          → with x (λ v. where_true (is_true v) (truth false) (with y (λ w. truth (is_true w)))) ≡ has z
          → ShortParts true x y z
      and_parts x y z e =
          let r = both_found x (λ v. where_true (is_true v) (truth false) (with y (λ w. truth (is_true w)))) z e in
          of_truth x y r.0 z (is_true r.0) r.1 refl r.2

  module _ (unify : UnifyLaws D) (join : JoinLaws D) (wf wh : Scalar) (f h : Side → Machine) (a b : Means N)
      (sa : Sound D p ord wf f a)
      (sb : Sound D p ord wh h b) where
    and_kept : (k : Known N) (m : Memories) → IsKept D p ord k m → (s : Side) (r : Bool) (v : Datum)
        → ShortParts true (f s (memory_of s m)) (h s (memory_of s m)) v → is_true v ≡ r
        → IfKept D p ord ((and_means D a b).assumes s r k) m
    and_kept k m kept s true v (of_second c w e q) i =
        short_all_kept D law p ord true wf wh f h (and_machine f h) (is_and f h) a b sa sb unify join k m kept s c w e
        (by_int (is_true w) (sym (ap is_true q) ∙ i))
      where
        by_int : (b : Bool) → is_true (int (cond b (pos 1) (pos 0))) ≡ true → b ≡ true
        by_int true e = refl
        by_int false e = absurd (let z : false ≡ true = e in cc)
    and_kept k m kept s false v (of_second c w e q) i =
        short_second_kept D law p ord true wf wh f h (and_machine f h)
        (is_and f h) a b sa sb unify join k m kept s c w e (by_int (is_true w) (sym (ap is_true q) ∙ i))
      where
        by_int : (b : Bool) → is_true (int (cond b (pos 1) (pos 0))) ≡ false → b ≡ false
        by_int true e = absurd (let z : true ≡ false = e in cc)
        by_int false e = refl
    and_kept k m kept s true v (of_first c q) i = absurd (let z : false ≡ true = sym (ap is_true q) ∙ i in cc)
    and_kept k m kept s false v (of_first c q) i =
        short_first_kept D law p ord true wf wh f h (and_machine f h) (is_and f h) a b sa sb unify join k m kept s c

    pub and_sound : Sound D p ord (Int I32) (and_machine f h) (and_means D a b)
    and_sound = record {
      gives = λ k m kept mode.
          short_holds D law p ord true wf wh f h (and_machine f h) (is_and f h) a b sa sb k m kept mode;
      assumes = λ k m kept s r v e q. and_kept k m kept s r v ((is_and f h).parts s (memory_of s m) v e) q;
      cell = λ k m kept s v e. tt;
      fits = λ k s mode.
          pair_fits D law p ord k (Int I32) mode
          (λ i. short_side D true (on (a.gives mode k).pair i)
          (later_side D (later D a b mode true k (a.gives mode k)) i))
          (same D (a.gives mode k) && later_same D (later D a b mode true k (a.gives mode k)))
          (λ i. record { sort = truth_sort D law _ _; rising = truth_rising D law _ _; form = tt });
      stays = λ k st s r. short_stays D law p ord true wf wh f h (and_machine f h)
          (is_and f h) a b sa sb unify join k st s r;
      there = λ k s i. tt;
    }

  -- ---- `||`

  abbrev or_machine : (Side → Machine) → (Side → Machine) → Side → Machine
  or_machine f h s m = with (f s m) (λ v. where_true (is_true v) (with (h s m) (λ w. truth (is_true w))) (truth true))

  is_or : (f h : Side → Machine) → IsShort false f h (or_machine f h)
  is_or f h = record {
    parts = λ s m z e. or_parts (f s m) (h s m) z e;
    second = λ s m w c e. rw (c.finds, c.truth, e) refl;
    first = λ s m c. rw (c.finds, c.truth) refl;
  }
    where
      of_truth : (x y : Found) (u z : Datum) (b : Bool) → x ≡ has u → is_true u ≡ b
          → where_true b (with y (λ w. truth (is_true w))) (truth true) ≡ has z → ShortParts false x y z
      of_truth x y u z false i j e =
          let r = both_found y (λ w. truth (is_true w)) z e in
          of_second (record { u = u; finds = i; truth = j }) r.0 r.1
          (sym (one_has (int (cond (is_true r.0) (pos 1) (pos 0))) z r.2))
      of_truth x y u z true i j e = of_first (record { u = u; finds = i; truth = j }) (sym (one_has (int (pos 1)) z e))

      or_parts : (x y : Found) (z : Datum)
          → with x (λ v. where_true (is_true v) (with y (λ w. truth (is_true w))) (truth true)) ≡ has z
          → ShortParts false x y z
      or_parts x y z e =
          let r = both_found x (λ v. where_true (is_true v) (with y (λ w. truth (is_true w))) (truth true)) z e in
          of_truth x y r.0 z (is_true r.0) r.1 refl r.2

  module _ (unify : UnifyLaws D) (join : JoinLaws D) (wf wh : Scalar) (f h : Side → Machine) (a b : Means N)
      (sa : Sound D p ord wf f a)
      (sb : Sound D p ord wh h b) where
    or_kept : (k : Known N) (m : Memories) → IsKept D p ord k m → (s : Side) (r : Bool) (v : Datum)
        → ShortParts false (f s (memory_of s m)) (h s (memory_of s m)) v → is_true v ≡ r
        → IfKept D p ord ((or_means D a b).assumes s r k) m
    or_kept k m kept s false v (of_second c w e q) i =
        short_all_kept D law p ord false wf wh f h (or_machine f h) (is_or f h) a b sa sb unify join k m kept s c w e
        (is_cond (is_true w) ∙ (sym (ap is_true q) ∙ i))
    or_kept k m kept s true v (of_second c w e q) i =
        short_second_kept D law p ord false wf wh f h (or_machine f h) (is_or f h) a b sa sb unify join k m kept s c w e
        (is_cond (is_true w) ∙ (sym (ap is_true q) ∙ i))
    or_kept k m kept s false v (of_first c q) i = absurd (let z : true ≡ false = sym (ap is_true q) ∙ i in cc)
    or_kept k m kept s true v (of_first c q) i =
        short_first_kept D law p ord false wf wh f h (or_machine f h) (is_or f h) a b sa sb unify join k m kept s c

    pub or_sound : Sound D p ord (Int I32) (or_machine f h) (or_means D a b)
    or_sound = record {
      gives = λ k m kept mode.
          short_holds D law p ord false wf wh f h (or_machine f h) (is_or f h) a b sa sb k m kept mode;
      assumes = λ k m kept s r v e q. or_kept k m kept s r v ((is_or f h).parts s (memory_of s m) v e) q;
      cell = λ k m kept s v e. tt;
      fits = λ k s mode.
          pair_fits D law p ord k (Int I32) mode
          (λ i. short_side D false (on (a.gives mode k).pair i)
          (later_side D (later D a b mode false k (a.gives mode k)) i))
          (same D (a.gives mode k) && later_same D (later D a b mode false k (a.gives mode k)))
          (λ i. record { sort = truth_sort D law _ _; rising = truth_rising D law _ _; form = tt });
      stays = λ k st s r. short_stays D law p ord false wf wh f h (or_machine f h)
          (is_or f h) a b sa sb unify join k st s (not r);
      there = λ k s i. tt;
    }
