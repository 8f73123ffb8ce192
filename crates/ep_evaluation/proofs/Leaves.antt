-- Constants, null, blocks, and pointers that stay the same; expressions of any sort that have no rule of their own for
-- assuming.
use Rattle.std.proofs.Common.{◌≡◌, ℕ, pos, Bool, true, false, List, Option, Some, IfSome, refl, sym, ap, ◌∙◌, subst}
use Rattle.ep_evaluation.proofs.Tests.{runs_alone}
use Rattle.ep_cell_ranges.proofs.Shareds.{has_one}
use Rattle.std.proofs.lemmas.Bool.{eq-eqb}
use Rattle.ep_int.specs.declared.types.Order.{Order}
use Rattle.ep_int.specs.declared.types.Scalar.{Scalar}
use Rattle.ep_int.specs.declared.types.Scalar.TheVariants.{Int, Pointer}
use Rattle.ep_int.specs.Memory.{Memory, Value as Datum, null, pointer, has, faults}
use Rattle.ep_domain.specs.Domain.{Ops, Lawful}
use Rattle.ep_pointers.specs.Value.{Pointers, null_alone, one_target, IsRising}
use Rattle.ep_cells.specs.declared.cell.Cell.{Cell}
use Rattle.ep_cells.specs.declared.cell.Value.{Value}
use Rattle.ep_cells.specs.declared.cell.Value.TheVariants.{Ptr}
use Rattle.ep_cells.specs.Cells.{IsIn}
use Rattle.ep_cells.specs.States.{Known, IsOfSort}
use Rattle.ep_cells.specs.Meaning.{Memories, Allows, numbers_of}
use Rattle.ep_core.specs.Program.{Program}
use Rattle.ep_core.specs.Exec.{is_true}
use Rattle.ep_core.specs.Runs.{Side, left, right}
use Rattle.ep_equalities.specs.declared.pair.Mode.{Mode}
use Rattle.ep_equalities.specs.Pairs.{SideIn}
use Rattle.ep_evaluation.specs.Given.{Given, on, are_sure, alone}
use Rattle.ep_evaluation.specs.Evaluation.{ToCell, no_cell, value_narrowed, with_cell, plain, formless, pointer_given}
use Rattle.ep_evaluation.specs.Evaluation.{same_side, same_given, pointer_means}
use Rattle.ep_evaluation.specs.Laws.{memory_of, Machine, IsState, IfState, IsKept, IfKept, IsOfCell, SideFits}
use Rattle.ep_evaluation.specs.Laws.{Holds, Sound, SoundPlace}
use Rattle.ep_evaluation.proofs.General.{on_running, is_int}
use Rattle.ep_evaluation.proofs.Generic.{Typed, OperatorOf, IsOperatorOf, one_holds, one_fits, pair_fits}
use Rattle.ep_evaluation.proofs.Assuming.{zero_type, CellHas, CellThere}
use Rattle.ep_evaluation.proofs.Pointers.{pointer_kept, pointer_state}
use Rattle.ep_evaluation.proofs.Sounds.{reliable_alone, sure_kept, sure_state, value_kept, value_state}

module _ {N : Type 0} (D : Ops N) (law : Lawful D) (p : Program) (ord : Side → Order) where
  tested_kept : (k : Known N) (m : Memories) → IsKept D p ord k m
      → (w : Scalar) (b : Bool) (o : Option (Value N)) (v : Datum)
      → Allows D w o false (Some v) → is_true v ≡ b → (f : Known N → Option (Cell N)) → CellHas D law p ord m f v
      → IfKept D p ord (value_narrowed D b o f k) m
  tested_kept k m kept (Int t) b o v a e f cf =
      let i = is_int D t o v a in
      value_kept D law p ord k m kept b t o i.z i.num (sym (ap is_true i.datum) ∙ e) f
      (subst (λ u. CellHas D law p ord m f u) i.datum cf)
  tested_kept k m kept Pointer b o v a e f cf = pointer_kept D law p ord k m kept b o v a e f cf

  tested_state : (k : Known N) → IsState D p ord k → (w : Scalar) (b : Bool) (o : Option (Value N)) → IsOfSort w o
      → (f : Known N → Option (Cell N)) → CellThere D law p ord f → IfState D p ord (value_narrowed D b o f k)
  tested_state k s (Int t) b o i f cf = value_state D law p ord k s b t o i f cf
  tested_state k s Pointer b o i f cf = pointer_state D law p ord k s b o i f cf

  pub any_sound : (w : Scalar) (f : Side → Machine) (g : Mode → Known N → Given N) (c : ToCell N)
      → ((k : Known N) (m : Memories) → IsKept D p ord k m → (mode : Mode)
      → Holds D p ord w (λ s. f s (memory_of s m)) k m mode (g mode k))
      → ((k : Known N) → IsState D p ord k → (mode : Mode) (s : Side) → SideFits D p ord k w (on (g mode k).pair s))
      → ((k : Known N) (m : Memories) → IsKept D p ord k m → (s : Side) (v : Datum) → f s (memory_of s m) ≡ has v
      → IfSome (c s k) (λ x. IsOfCell D p ord k m x v))
      → ((k : Known N) → IsState D p ord k → (s : Side) → IfSome (c s k) (λ x. IsIn x k.cells))
      → Sound D p ord w f (with_cell D g c)
  any_sound w f g c holds fits cell there = record {
    gives = holds;
    assumes = λ k m kept s b v e q.
        sure_kept D law p ord k m (value_narrowed D b (on (g (alone s) k).pair s).value (c s) k)
        (are_sure (g (alone s) k).faults) kept
        (λ sure.
        let h = (holds k m kept (alone s)).held (reliable_alone s (g (alone s) k).faults sure) s (runs_alone s) v e in
        tested_kept k m kept w b (on (g (alone s) k).pair s).value v h.value q (c s) (λ j kj. cell j m kj s v e));
    cell = cell;
    fits = fits;
    stays = λ k s i b.
        sure_state D law p ord k (value_narrowed D b (on (g (alone i) k).pair i).value (c i) k)
        (are_sure (g (alone i) k).faults) s
        (tested_state k s w b (on (g (alone i) k).pair i).value (fits k s (alone i) i).sort (c i)
        (λ j sj. there j sj i));
    there = there;
  }

  pub plain_sound : (w : Scalar) (f : Side → Machine) (g : Mode → Known N → Given N)
      → ((k : Known N) (m : Memories) → IsKept D p ord k m → (mode : Mode)
      → Holds D p ord w (λ s. f s (memory_of s m)) k m mode (g mode k))
      → ((k : Known N) → IsState D p ord k → (mode : Mode) (s : Side) → SideFits D p ord k w (on (g mode k).pair s))
      → Sound D p ord w f (plain D g)
  plain_sound w f g holds fits = any_sound w f g no_cell holds fits (λ k m kept s v e. tt) (λ k i s. tt)

  -- ---- pointers that are known

  known_pointer : (q : Pointers N) (u : Datum) (f : Side → Machine) → ((s : Side) (m : Memory) → f s m ≡ has u)
      → Allows D Pointer (Some (Ptr q)) false (Some u) → (k : Known N) (m : Memories) (mode : Mode)
      → Holds D p ord Pointer (λ s. f s (memory_of s m)) k m mode (pointer_given D q mode)
  known_pointer q u f finds a k m mode = record {
    held = λ rel s r v e.
        subst (λ x. SideIn D (numbers_of k.orders m) Pointer x v)
        (sym (on_running mode s (λ s. formless D (Some (Ptr q))) true r))
        (record {
          value = subst (λ x. Allows D Pointer (Some (Ptr q)) false (Some x))
              (has_one u v (sym (finds s (memory_of s m)) ∙ e)) a;
          form = tt;
        });
    found = λ none s r. (u, finds s (memory_of s m));
    same = λ b none e x y i j.
        has_one x y (sym i ∙ (finds left (memory_of left m) ∙ (sym (finds right (memory_of right m)) ∙ j)));
  }

  known_fits : (q : Pointers N) → IsRising q.targets → (k : Known N) (mode : Mode) (s : Side)
      → SideFits D p ord k Pointer (on (pointer_given D q mode).pair s)
  known_fits q r k mode s = pair_fits D law p ord k Pointer mode (λ s. formless D (Some (Ptr q))) true
      (λ i. record { sort = tt; rising = r; form = tt }) s

  pub null_sound : (f : Side → Machine) → ((s : Side) (m : Memory) → f s m ≡ has null)
      → Sound D p ord Pointer f (plain D (λ m k. pointer_given D null_alone m))
  null_sound f finds =
      plain_sound Pointer f (λ m k. pointer_given D null_alone m)
      (λ k m kept mode. known_pointer null_alone null f finds refl k m mode)
      (λ k i mode s. known_fits null_alone tt k mode s)

  block_held : (b : ℕ) → Allows D Pointer (Some (Ptr (one_target b (D.single (pos 0))))) false (Some (pointer b 0))
  block_held b = rw (eq-eqb b b refl) (law.single_holds (pos 0) zero_type)

  pub block_sound : (b : ℕ) (f : Side → Machine) → ((s : Side) (m : Memory) → f s m ≡ has (pointer b 0))
      → SoundPlace D p ord f (λ m k. pointer_given D (one_target b (D.single (pos 0))) m)
  block_sound b f finds = record {
    gives = λ k m kept mode.
        known_pointer (one_target b (D.single (pos 0))) (pointer b 0) f finds (block_held b) k m mode;
    fits = λ k i mode s. known_fits (one_target b (D.single (pos 0))) (tt, tt) k mode s;
  }

  -- ---- the same pointer
  module _ (sizes : List ℕ) where
    same_operator : OperatorOf D law p ord Pointer Pointer has (same_side D sizes) (λ x. Unit {0})
    same_operator = record {
      held = λ n k x u z _ _ h e.
          record { value = subst (λ v. Allows D Pointer x.value false (Some v)) (has_one u z e) h.value; form = tt };
      found = λ n k x u _ _ h _. (u, refl);
      fits = λ k x h. record { sort = h.sort; rising = h.rising; form = tt };
    }

    same_machine : (f : Side → Machine) → IsOperatorOf D law p ord Pointer has f f
    same_machine f = record { part = λ s m z e. record { u = z; first = e; is = refl }; whole_is = λ s m u _ e. e }

    pub same_holds : (f : Side → Machine) → Typed p Pointer f → (k : Known N) (m : Memories) → IsKept D p ord k m
        → (mode : Mode) (x : Given N)
        → Holds D p ord Pointer (λ s. f s (memory_of s m)) k m mode x
        → ((s : Side) → SideFits D p ord k Pointer (on x.pair s))
        → Holds D p ord Pointer (λ s. f s (memory_of s m)) k m mode (same_given D sizes mode x)
    same_holds f tf k m kept mode x hx fx =
        one_holds D law p ord Pointer Pointer has (same_side D sizes) (λ x. Unit {0}) f f same_operator
        (same_machine f) tf k m kept mode x x.faults
        (record { none = λ e. e; quiet = λ e s r. tt; sure = λ e. e }) hx fx

    pub same_fits : (k : Known N) (mode : Mode) (x : Given N) → ((s : Side) → SideFits D p ord k Pointer (on x.pair s))
        → (s : Side)
        → SideFits D p ord k Pointer (on (same_given D sizes mode x).pair s)
    same_fits k mode x hx s = one_fits D law p ord Pointer Pointer has (same_side D sizes)
        (λ x. Unit {0}) same_operator k mode x x.faults hx s

    -- the address of a place, and a pointer to another type
    pub pointer_sound : (f : Side → Machine) → Typed p Pointer f → (a : Mode → Known N → Given N)
        → ((k : Known N) (m : Memories) → IsKept D p ord k m → (mode : Mode)
        → Holds D p ord Pointer (λ s. f s (memory_of s m)) k m mode (a mode k))
        → ((k : Known N) → IsState D p ord k → (mode : Mode) (s : Side)
        → SideFits D p ord k Pointer (on (a mode k).pair s))
        → Sound D p ord Pointer f (pointer_means D sizes a)
    pointer_sound f tf a holds fits =
        plain_sound Pointer f (λ m k. same_given D sizes m (a m k))
        (λ k m kept mode. same_holds f tf k m kept mode (a mode k) (holds k m kept mode) (fits k kept.state mode))
        (λ k i mode s. same_fits k mode (a mode k) (fits k i mode) s)
