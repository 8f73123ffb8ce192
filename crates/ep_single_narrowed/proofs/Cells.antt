-- Where the cell of an operand is narrowed, a state stands for one pair of memories still.
use Rattle.std.proofs.Common.{◌≡◌, ℤ, Bool, true, false, cond, Option, Some, None, IfSome, refl, sym, ap, ◌∙◌}
use Rattle.std.proofs.Common.{subst}
use Rattle.std.specs.Option.{option_map}
use Rattle.ep_int.specs.declared.types.Order.{Order}
use Rattle.ep_int.specs.declared.types.Scalar.{Scalar}
use Rattle.ep_int.specs.declared.types.Scalar.TheVariants.{Int, Pointer}
use Rattle.ep_int.specs.Memory.{Value as Datum, int, null, pointer}
use Rattle.ep_domain.specs.Domain.{Ops, Lawful, IsSingle}
use Rattle.ep_pointers.specs.Value.{Pointers, HasOneMember, null_alone, pointers, only_null, only_place}
use Rattle.ep_pointers.specs.Compare.{has_targets}
use Rattle.ep_cells.specs.declared.cell.Cell.{Cell}
use Rattle.ep_cells.specs.declared.cell.Value.{Value}
use Rattle.ep_cells.specs.declared.cell.Value.TheVariants.{Num, Ptr}
use Rattle.ep_cells.specs.States.{Known, IsOfSort, HasRisingBlocks}
use Rattle.ep_cells.specs.Meaning.{Memories, Allows}
use Rattle.ep_cell_ranges.specs.Narrow.{with_value}
use Rattle.ep_core.specs.Program.{Program}
use Rattle.ep_core.specs.Exec.{is_true}
use Rattle.ep_core.specs.Runs.{Side}
use Rattle.ep_evaluation.specs.Narrowed.{then_with, met, refined, null_met, null_refined}
use Rattle.ep_evaluation.specs.Laws.{IfKept, IsOfCell}
use Rattle.ep_evaluation.proofs.Assuming.{refined_kept}
use Rattle.ep_evaluation.proofs.Tests.{null_refined_kept}
use Rattle.ep_singles.specs.Numbers.{KeepsSingles}
use Rattle.ep_singles.specs.Cells.{IsOneValue, one_number, one_pointer, IsOneCell, no_value, one_value, IsOne}
use Rattle.ep_singles.proofs.Bytes.{held_single}
use Rattle.ep_singles.proofs.Narrows.{narrows_keep_one}
use Rattle.ep_single_narrowed.specs.Laws.{IsKeptOne, IfKeptOne}

module _ {N : Type 0} (D : Ops N) (law : Lawful D) (p : Program) (ord : Side → Order) where
  -- where there is a state, it stands for these memories alone
  abbrev pub IfOne : Option (Known N) → Memories → Type 0
  IfOne o m = IfSome o (λ j. IsOne D j m)

  pub both_are : (m : Memories) (o : Option (Known N)) → IfKept D p ord o m → IfOne o m → IfKeptOne D p ord o m
  both_are m None h i = h
  both_are m (Some j) h i = record { kept = h; one = i }

  pub then_one : (m : Memories) (o : Option (Known N)) (f : Known N → Option (Known N)) → IfKeptOne D p ord o m
      → ((j : Known N) → IsKeptOne D p ord j m → IfKeptOne D p ord (f j) m) → IfKeptOne D p ord (then_with o f) m
  then_one m None f h i = absurd h
  then_one m (Some j) f h i = i j h

  module _ (k : Known N) (m : Memories) (s : IsKeptOne D p ord k m) where
    -- a cell that surely has a value
    cell_one : (c : Cell N) (v : Datum) → IsOfCell D p ord k m c v → IsOneCell D c → IsOneValue D c.value
    cell_one c v h (one_value t i) = i
    cell_one c v h (no_value e) =
        let f = (s.kept.state.cells.each c h.is_in).fits.undefined e in
        absurd (let d : false ≡ true = sym h.sure ∙ f in cc)

    -- ---- numbers

    set_one : (c : Cell N) (z : ℤ) → IsOfCell D p ord k m c (int z) → (w : Scalar) → c.what ≡ w → (b : N)
        → IsSingle D b z → Allows D w (Some (Num b)) false (Some (int z)) → IsOne D (with_value c (Num b) k) m
    set_one c z h (Int t) e b i a =
        narrows_keep_one D k m s.one c h.is_in h.sure (Num b) (subst (λ w. IsOfSort w (Some (Num b))) (sym e) tt) tt
        (one_number b z i) (int z) h.stands
        (subst (λ w. Allows D w (Some (Num b)) false (Some (int z))) (sym e) a)
    set_one c z h Pointer e b i a = absurd a

    met_by : (c : Cell N) (z : ℤ) → IsOfCell D p ord k m c (int z) → (w : Scalar) → c.what ≡ w → (b : N)
        → Allows D w (Some (Num b)) false (Some (int z)) → (o : Option N) → IfSome o (λ x. IsSingle D x z)
        → IfOne (option_map (λ v. with_value c (Num v) k) o) m
    met_by c z h w e b a None i = tt
    met_by c z h (Int t) e b a (Some x) i = set_one c z h (Int t) e x i (a.0, law.range_single x z i)
    met_by c z h Pointer e b a (Some x) i = absurd a

    met_one : KeepsSingles D → (c : Cell N) (z : ℤ) (n : N) → IsOfCell D p ord k m c (int z) → IsSingle D n z
        → (w : Scalar) (o : Option (Value N)) → c.what ≡ w → IsOneValue D o → Allows D w o false (Some (int z))
        → IfOne (met D c o n k) m
    met_one keeps c z n h i w None e j a = elim j [ ]
    met_one keeps c z n h i w (Some (Ptr q)) e j a = s.one
    met_one keeps c z n h i (Int t) (Some (Num b)) e (one_number _ y r) a =
        met_by c z h (Int t) e b a (D.meet b n)
        (keeps.meet b n z (subst (IsSingle D b) (sym (held_single D law b y z r a.1)) r) i)
    met_one keeps c z n h i Pointer (Some (Num b)) e j a = absurd a

    pub refined_one : KeepsSingles D → (o : Option (Cell N)) (z : ℤ) (n : N)
        → IfSome o (λ c. IsOfCell D p ord k m c (int z)) → IsSingle D n z → IfKeptOne D p ord (refined D o n k) m
    refined_one keeps o z n h i =
        both_are m (refined D o n k) (refined_kept D law p ord k m s.kept o z n h (law.range_single n z i)) (by o h)
      where
        by : (o : Option (Cell N)) → IfSome o (λ c. IsOfCell D p ord k m c (int z)) → IfOne (refined D o n k) m
        by None h = s.one
        by (Some c) h =
            met_one keeps c z n h i c.what c.value refl (cell_one c (int z) h (s.one.each c h.is_in)) h.allowed

    -- ---- null

    -- the targets alone
    targets_one : (q : Pointers N) → HasOneMember D q → has_targets q.targets ≡ true
        → HasOneMember D (pointers false q.targets)
    targets_one q (only_null e) h =
        absurd (let d : false ≡ true = subst (λ (q : Pointers N). has_targets q.targets ≡ true) e h in cc)
    targets_one q (only_place b n v e i) h =
        only_place b n v (ap (λ (q : Pointers N). pointers false q.targets) e) i

    null_one : (c : Cell N) (u : Datum) → IsOfCell D p ord k m c u → (b : Bool) → (b ≡ true → u ≡ null)
        → (b ≡ false → is_true u ≡ true) → (w : Scalar) (o : Option (Value N)) → c.what ≡ w → IsOneValue D o
        → HasRisingBlocks o → Allows D w o false (Some u) → IfOne (null_met c b o k) m
    null_one c u h b i g w None e j r a = elim j [ ]
    null_one c u h b i g w (Some (Num n)) e j r a = s.one
    null_one c (int z) h b i g (Int t) (Some (Ptr q)) e j r a = absurd a
    null_one c null h b i g (Int t) (Some (Ptr q)) e j r a = absurd a
    null_one c (pointer x y) h b i g (Int t) (Some (Ptr q)) e j r a = absurd a
    null_one c (int z) h b i g Pointer (Some (Ptr q)) e j r a = absurd a
    null_one c (pointer x y) h true i g Pointer (Some (Ptr q)) e j r a =
        absurd (let f : pointer x y ≡ null = i refl in cc)
    null_one c null h true i g Pointer (Some (Ptr q)) e j r a =
        narrows_keep_one D k m s.one c h.is_in h.sure (Ptr null_alone)
        (subst (λ (w : Scalar). IsOfSort {N = N} w (Some (Ptr null_alone))) (sym e) tt) tt
        (one_pointer null_alone (only_null refl)) null h.stands
        (subst (λ w. Allows D w (Some (Ptr null_alone)) false (Some null)) (sym e) refl)
    null_one c null h false i g Pointer (Some (Ptr q)) e j r a =
        absurd (let f : false ≡ true = g refl in cc)
    null_one c (pointer x y) h false i g Pointer (Some (Ptr q)) e (one_pointer _ j) r a =
        by_targets (has_targets q.targets) refl
      where
        by_targets : (t : Bool) → has_targets q.targets ≡ t
            → IfOne (cond t (Some (with_value c (Ptr (pointers false q.targets)) k)) None) m
        by_targets false d = tt
        by_targets true d =
            narrows_keep_one D k m s.one c h.is_in h.sure (Ptr (pointers false q.targets))
            (subst (λ w. IsOfSort w (Some (Ptr (pointers false q.targets)))) (sym e) tt) r
            (one_pointer (pointers false q.targets) (targets_one q j d)) (pointer x y) h.stands
            (subst (λ w. Allows D w (Some (Ptr (pointers false q.targets))) false (Some (pointer x y))) (sym e) a)

    pub null_refined_one : (o : Option (Cell N)) (u : Datum) → IfSome o (λ c. IsOfCell D p ord k m c u) → (b : Bool)
        → (b ≡ true → u ≡ null) → (b ≡ false → is_true u ≡ true) → IfKeptOne D p ord (null_refined o b k) m
    null_refined_one o u h b i j =
        both_are m (null_refined o b k) (null_refined_kept D law p ord k m s.kept o u h b i j) (by o h)
      where
        by : (o : Option (Cell N)) → IfSome o (λ c. IsOfCell D p ord k m c u) → IfOne (null_refined o b k) m
        by None h = s.one
        by (Some c) h =
            null_one c u h b i j c.what c.value refl (cell_one c u h (s.one.each c h.is_in))
            (s.kept.state.cells.each c h.is_in).rising h.allowed
