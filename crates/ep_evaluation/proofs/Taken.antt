-- A test is assumed where it lists no fault.
use Rattle.std.proofs.Common.{◌≡◌, ℤ, pos, Bool, true, false, ◌&&◌, not, [], Option, Some, None, refl, sym, ap, ◌∙◌}
use Rattle.ep_int.proofs.Arithmetic.{le_fact}
use Rattle.ep_evaluation.proofs.Tests.{runs_alone}
use Rattle.ep_equalities.proofs.Equal.{in_single}
use Rattle.ep_evaluation.proofs.Short.{not_both}
use Rattle.ep_evaluation.proofs.Sounds.{from_not}
use Rattle.std.proofs.Common.{arith}
use Rattle.std.specs.Prelude.{int_le}
use Rattle.std.specs.Ordering.{int_eq}
use Rattle.std.proofs.lemmas.Int.{ints}
use Rattle.std.proofs.lemmas.Bool.{and_parts}
use Rattle.std.proofs.lemmas.Bool.Decides.{Decides-int_eq}
use Rattle.ep_int.specs.Arith.{int_eq as is_equal}
use Rattle.ep_int.specs.declared.types.Order.{Order}
use Rattle.ep_int.specs.declared.types.Scalar.{Scalar}
use Rattle.ep_int.specs.declared.types.Scalar.TheVariants.{Int, Pointer}
use Rattle.ep_int.specs.Memory.{Value as Datum, int, null, pointer, has}
use Rattle.ep_domain.specs.Domain.{Ops, Lawful, Holds as HoldsNumber}
use Rattle.ep_pointers.specs.Value.{Pointers, HoldsPointer, null_pointer}
use Rattle.ep_cells.specs.declared.cell.Value.{Value}
use Rattle.ep_cells.specs.declared.cell.Value.TheVariants.{Num, Ptr}
use Rattle.ep_cells.specs.Reshare.{is_single}
use Rattle.ep_cells.specs.States.{Known}
use Rattle.ep_cells.specs.Meaning.{Memories, Allows}
use Rattle.ep_core.specs.Program.{Program}
use Rattle.ep_core.specs.Exec.{is_true}
use Rattle.ep_core.specs.Runs.{Side, left, right}
use Rattle.ep_equalities.specs.declared.pair.Mode.{Mode}
use Rattle.ep_equalities.specs.declared.pair.Mode.TheVariants.{Both}
use Rattle.ep_evaluation.specs.Given.{alone, on, runs}
use Rattle.ep_evaluation.specs.Operators.{is_only, is_one_place}
use Rattle.ep_evaluation.specs.Evaluation.{Means, is_other, test_taken, test_taken_by}
use Rattle.ep_evaluation.specs.Laws.{memory_of, Machine, IsKept, IfKept, Sound}
use Rattle.ep_evaluation.proofs.General.{reliable_none}
use Rattle.ep_evaluation.proofs.Assuming.{then_kept}
use Rattle.ep_evaluation.proofs.Pointers.{only_null}

-- ---- a value of one truth alone

pub zero_from : (z : ℤ) → is_equal z (pos 0) ≡ true → z ≡ pos 0
zero_from z e =
    let q = and_parts (int_le z (pos 0)) (int_le (pos 0) z) e in
    let a = le_fact z (pos 0) q.0 in
    let b = le_fact (pos 0) z q.1 in
    omega (arith, ints, a, b)

module _ {N : Type 0} (D : Ops N) (law : Lawful D) (prog : Program) (ord : Side → Order) where
  only_number : (n : N) (z : ℤ) (t : Bool) → HoldsNumber D n z → is_only D (Some (Num n)) t ≡ true → is_true (int z) ≡ t
  only_number n z true h e =
      let q = and_parts (is_single (D.range n)) (not (int_eq (D.range n).0 (pos 0))) e in
      let i = in_single (D.range n) z q.0 (law.range_encloses n z h) in
      by (is_equal z (pos 0)) refl i (from_not (int_eq (D.range n).0 (pos 0)) true q.1)
    where
      by : (b : Bool) → is_equal z (pos 0) ≡ b → z ≡ (D.range n).0 → int_eq (D.range n).0 (pos 0) ≡ false → not b ≡ true
      by false j i k = refl
      by true j i k =
          absurd (let r : true ≡ false = sym ((Decides-int_eq (D.range n).0 (pos 0)).1 (sym i ∙ zero_from z j))
          ∙ k in cc)
  only_number n z false h e =
      let q = and_parts (is_single (D.range n)) (int_eq (D.range n).0 (pos 0)) e in
      let i = in_single (D.range n) z q.0 (law.range_encloses n z h) in
      let j : z ≡ pos 0 = i ∙ (Decides-int_eq (D.range n).0 (pos 0)).0 q.1 in
      ap (λ x. is_true (int x)) j

  no_place : (p : Pointers N) → HoldsPointer D p null_pointer → (not p.null && is_one_place D p.targets) ≡ true → ⊥
  no_place p h e =
      let q = and_parts (not p.null) (is_one_place D p.targets) e in
      let r : p.null ≡ false = from_not p.null true q.0 in
      let s : true ≡ false = sym h ∙ r in cc

  only_pointer : (p : Pointers N) (v : Datum) (t : Bool) → Allows D Pointer (Some (Ptr p)) false (Some v)
      → is_only D (Some (Ptr p)) t ≡ true → is_true v ≡ t
  only_pointer p (int z) t a e = absurd a
  only_pointer p null true a e = absurd (no_place p a e)
  only_pointer p null false a e = refl
  only_pointer p (pointer b o) true a e = refl
  only_pointer p (pointer b o) false a e =
      absurd (let q : pointer b o ≡ null = only_null D law prog ord p (pointer b o) e a tt in cc)

  pub only_is : (w : Scalar) (o : Option (Value N)) (v : Datum) (t : Bool) → Allows D w o false (Some v)
      → is_only D o t ≡ true
      → is_true v ≡ t
  only_is w None v t a e = absurd (let q : false ≡ true = e in cc)
  only_is (Int r) (Some (Num n)) (int z) t a e = only_number n z t a.1 e
  only_is (Int r) (Some (Num n)) null t a e = absurd a
  only_is (Int r) (Some (Num n)) (pointer b q) t a e = absurd a
  only_is (Int r) (Some (Ptr x)) (int z) t a e = absurd a
  only_is (Int r) (Some (Ptr x)) null t a e = absurd a
  only_is (Int r) (Some (Ptr x)) (pointer b q) t a e = absurd a
  only_is Pointer (Some (Num n)) (int z) t a e = absurd a
  only_is Pointer (Some (Num n)) null t a e = absurd a
  only_is Pointer (Some (Num n)) (pointer b q) t a e = absurd a
  only_is Pointer (Some (Ptr x)) v t a e = only_pointer x v t a e

  pub not_only : (w : Scalar) (o : Option (Value N)) (v : Datum) (t : Bool) → Allows D w o false (Some v)
      → is_true v ≡ t
      → is_only D o (not t) ≡ false
  not_only w o v t a e = by (is_only D o (not t)) refl
    where
      by : (b : Bool) → is_only D o (not t) ≡ b → b ≡ false
      by false j = refl
      by true j = absurd (not_both t (sym e ∙ only_is w o v (not t) a j))

module _ {N : Type 0} (D : Ops N) (law : Lawful D) (p : Program) (ord : Side → Order) (w : Scalar) (f : Side → Machine)
    (a : Means N)
    (sound : Sound D p ord w f a) (k : Known N) (m : Memories) (kept : IsKept D p ord k m) where
  may : (mode : Mode) → (a.gives mode k).faults ≡ [] → (s : Side) → runs mode s ≡ true → (t : Bool) (v : Datum)
      → f s (memory_of s m) ≡ has v
      → is_true v ≡ t → is_other D (a.gives mode k) s t ≡ false
  may mode none s r t v e q =
      not_only D law p ord w (on (a.gives mode k).pair s).value v t
      ((sound.gives k m kept mode).held (reliable_none mode (a.gives mode k).faults none) s r v e).value q

  -- where both sides run
  pub taken_kept : (a.gives Both k).faults ≡ [] → (t u : Bool) (x y : Datum) → f left (memory_of left m) ≡ has x
      → is_true x ≡ t
      → f right (memory_of right m) ≡ has y → is_true y ≡ u → IfKept D p ord (test_taken D a t u k) m
  taken_kept none t u x y ex tx ey ty =
      rw (may Both none left refl t x ex tx, may Both none right refl u y ey ty)
      (then_kept D law p ord m (a.assumes left t k) (a.assumes right u) (sound.assumes k m kept left t x ex tx)
      (λ j i. sound.assumes j m i right u y ey ty))

  -- where one does
  pub taken_alone : (s : Side) → (a.gives (alone s) k).faults ≡ [] → (t : Bool) (x : Datum)
      → f s (memory_of s m) ≡ has x → is_true x ≡ t
      → IfKept D p ord (test_taken_by D s a t k) m
  taken_alone s none t x e q = rw (may (alone s) none s (runs_alone s) t x e q) (sound.assumes k m kept s t x e q)
