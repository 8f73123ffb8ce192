-- Tests: what assuming the truth of a number or a pointer leaves.
use Rattle.std.proofs.Common.{◌≡◌, ℕ, ℤ, pos, Bool, true, false, not, cond, List, [], ◌∷◌, Option, Some, None, IfSome}
use Rattle.std.proofs.Common.{IsSomeAnd, refl, sym, subst}
use Rattle.ep_int.specs.declared.types.Order.{Order}
use Rattle.ep_int.specs.declared.types.Scalar.{Scalar}
use Rattle.ep_int.specs.declared.types.Scalar.TheVariants.{Int, Pointer}
use Rattle.ep_int.specs.Arith.{compares, int_eq}
use Rattle.ep_int.specs.Memory.{Value as Datum, int, null, pointer}
use Rattle.ep_domain.specs.Domain.{Ops, Lawful}
use Rattle.ep_domain.specs.Domain.{Holds as HoldsNumber}
use Rattle.ep_pointers.specs.Value.{Pointers, pointers, null_alone, HoldsPointer, into, offset_at}
use Rattle.ep_pointers.specs.Compare.{has_targets}
use Rattle.ep_cells.specs.declared.cell.Cell.{Cell}
use Rattle.ep_cells.specs.declared.cell.Value.{Value}
use Rattle.ep_cells.specs.declared.cell.Value.TheVariants.{Num, Ptr}
use Rattle.ep_cells.specs.Cells.{IsIn}
use Rattle.ep_cells.specs.States.{Known, IsOfSort, HasRisingBlocks}
use Rattle.ep_cells.specs.Meaning.{Memories, Allows}
use Rattle.ep_core.specs.Program.{Program}
use Rattle.ep_core.specs.Exec.{is_true}
use Rattle.ep_core.specs.Runs.{Side, left, right}
use Rattle.ep_evaluation.specs.Given.{alone, runs}
use Rattle.ep_evaluation.specs.Operators.{test_of}
use Rattle.ep_evaluation.specs.Narrowed.{null_met, null_refined}
use Rattle.ep_cell_ranges.specs.Narrow.{with_value}
use Rattle.ep_evaluation.specs.Evaluation.{value_narrowed}
use Rattle.ep_evaluation.specs.Laws.{IsState, IfState, IsKept, IfKept, IsOfCell}
use Rattle.ep_evaluation.proofs.Narrowing.{set_state, set_kept}
use Rattle.ep_evaluation.proofs.Assuming.{zero_type, CellHas, CellThere, numbers_kept}

abbrev null_only : (N : Type 0) → Value N
null_only N = Ptr null_alone

pub some_target : {N : Type 0} (D : Ops N) (q : Pointers N) (b o : ℕ) → HoldsPointer D q (into b o)
    → has_targets q.targets ≡ true
some_target D q b o h = by_targets D q.targets b o h
  where
    by_targets : {N : Type 0} (D : Ops N) (ts : List (ℕ × N)) (b o : ℕ)
        → IsSomeAnd (offset_at ts b) (λ n. HoldsNumber D n (pos o)) → has_targets ts ≡ true
    by_targets D [] b o h = absurd h
    by_targets D (t ∷ ts) b o h = refl

pub compares_zero : (t : Bool) (z : ℤ) → not (int_eq z (pos 0)) ≡ t → compares (test_of t) z (pos 0) ≡ true
compares_zero true z e = e
compares_zero false z e = by_not (int_eq z (pos 0)) e
  where
    by_not : (b : Bool) → not b ≡ false → b ≡ true
    by_not true e = refl
    by_not false e = absurd cc

pub runs_alone : (s : Side) → runs (alone s) s ≡ true
runs_alone left = refl
runs_alone right = refl

module _ {N : Type 0} (D : Ops N) (law : Lawful D) (p : Program) (ord : Side → Order) where
  -- ---- null

  null_kept : (k : Known N) (m : Memories) → IsKept D p ord k m → (c : Cell N) (u : Datum) → IsOfCell D p ord k m c u
      → (b : Bool)
      → (b ≡ true → u ≡ null) → (b ≡ false → is_true u ≡ true) → (w : Scalar) (o : Option (Value N)) → c.what ≡ w
      → HasRisingBlocks o
      → Allows D w o false (Some u) → IfKept D p ord (null_met c b o k) m
  null_kept k m kept c u h b i j (Int t) None e r a = kept
  null_kept k m kept c u h b i j Pointer None e r a = kept
  null_kept k m kept c u h b i j (Int t) (Some (Num n)) e r a = kept
  null_kept k m kept c u h b i j Pointer (Some (Num n)) e r a = kept
  null_kept k m kept c (int z) h b i j (Int t) (Some (Ptr q)) e r a = absurd a
  null_kept k m kept c null h b i j (Int t) (Some (Ptr q)) e r a = absurd a
  null_kept k m kept c (pointer x y) h b i j (Int t) (Some (Ptr q)) e r a = absurd a
  null_kept k m kept c (int z) h b i j Pointer (Some (Ptr q)) e r a = absurd a
  null_kept k m kept c null h true i j Pointer (Some (Ptr q)) e r a =
      set_kept D p ord k m kept c null h (null_only N) (subst (λ w. IsOfSort w (Some (null_only N))) (sym e) tt) tt
      (subst (λ w. Allows D w (Some (null_only N)) false (Some null)) (sym e) refl)
  null_kept k m kept c (pointer x y) h true i j Pointer (Some (Ptr q)) e r a =
      absurd (let f : pointer x y ≡ null = i refl in cc)
  null_kept k m kept c null h false i j Pointer (Some (Ptr q)) e r a = absurd (let f : false ≡ true = j refl in cc)
  null_kept k m kept c (pointer x y) h false i j Pointer (Some (Ptr q)) e r a =
      rw (some_target D q x y a)
      (set_kept D p ord k m kept c (pointer x y) h (Ptr (pointers false q.targets))
      (subst (λ w. IsOfSort w (Some (Ptr (pointers false q.targets)))) (sym e) tt) r
      (subst (λ w. Allows D w (Some (Ptr (pointers false q.targets))) false (Some (pointer x y))) (sym e) a))

  pub null_refined_kept : (k : Known N) (m : Memories) → IsKept D p ord k m → (o : Option (Cell N)) (u : Datum)
      → IfSome o (λ c. IsOfCell D p ord k m c u) → (b : Bool) → (b ≡ true → u ≡ null) → (b ≡ false → is_true u ≡ true)
      → IfKept D p ord (null_refined o b k) m
  null_refined_kept k m kept None u h b i j = kept
  null_refined_kept k m kept (Some c) u h b i j =
      null_kept k m kept c u h b i j c.what c.value refl (kept.state.cells.each c h.is_in).rising h.allowed

  null_state : (k : Known N) → IsState D p ord k → (c : Cell N) → IsIn c k.cells
      → (b : Bool) (w : Scalar) (o : Option (Value N)) → c.what ≡ w
      → IsOfSort w o → HasRisingBlocks o → IfState D p ord (null_met c b o k)
  null_state k s c i b w None e a r = s
  null_state k s c i b w (Some (Num n)) e a r = s
  null_state k s c i b (Int t) (Some (Ptr q)) e a r = absurd a
  null_state k s c i true Pointer (Some (Ptr q)) e a r =
      set_state D p ord k s c (null_only N) i (subst (λ w. IsOfSort w (Some (null_only N))) (sym e) tt) tt
  null_state k s c i false Pointer (Some (Ptr q)) e a r = by_targets (has_targets q.targets)
    where
      by_targets : (b : Bool) → IfState D p ord (cond b (Some (with_value c (Ptr (pointers false q.targets)) k)) None)
      by_targets true = set_state D p ord k s c (Ptr (pointers false q.targets)) i
          (subst (λ w. IsOfSort w (Some (Ptr (pointers false q.targets)))) (sym e) tt) r
      by_targets false = tt

  pub null_refined_state : (k : Known N) → IsState D p ord k → (o : Option (Cell N)) → IfSome o (λ c. IsIn c k.cells)
      → (b : Bool)
      → IfState D p ord (null_refined o b k)
  null_refined_state k s None h b = s
  null_refined_state k s (Some c) h b =
      null_state k s c h b c.what c.value refl (s.cells.each c h).fits.sort (s.cells.each c h).rising

  -- ---- the truth of a value

  no_cell_has : (m : Memories) (v : Datum) → CellHas D law p ord m (λ k. None) v
  no_cell_has m v j h = tt

  no_cell_there : CellThere D law p ord (λ k. None)
  no_cell_there j h = tt

  pub number_kept : (k : Known N) (m : Memories) → IsKept D p ord k m → (t : Bool) (n : N) (z : ℤ) → HoldsNumber D n z
      → is_true (int z) ≡ t → (f : Known N → Option (Cell N)) → CellHas D law p ord m f (int z)
      → IfKept D p ord (value_narrowed D t (Some (Num n)) f k) m
  number_kept k m kept t n z h e f cf =
      numbers_kept D law p ord k m kept (test_of t) (Some n) (Some (D.single (pos 0))) z (pos 0) h
      (law.single_holds (pos 0) zero_type)
      (compares_zero t z e) f (λ k. None) cf (no_cell_has m (int (pos 0)))
