-- Where what is assumed is so, a state stands for one pair of memories still.
use Rattle.std.proofs.Common.{◌≡◌, ℤ, pos, Bool, true, false, not, cond, Option, Some, None, IfSome, IsSomeAnd}
use Rattle.ep_single_places.proofs.Truths.{truth_is}
use Rattle.std.proofs.Common.{refl, sym, ap, ◌∙◌, subst}
use Rattle.ep_int.specs.declared.types.Order.{Order}
use Rattle.ep_int.specs.declared.types.Cmp.{Cmp}
use Rattle.ep_int.specs.declared.types.Cmp.TheVariants.{Eq, Ne, Lt, Le, Gt, Ge}
use Rattle.ep_int.specs.declared.types.Scalar.{Scalar}
use Rattle.ep_int.specs.declared.types.Scalar.TheVariants.{Int, Pointer}
use Rattle.ep_int.specs.Arith.{compares}
use Rattle.ep_int.specs.Memory.{Value as Datum, int, null, pointer, has, faults, pointer_mix}
use Rattle.ep_domain.specs.Domain.{Ops, Lawful, Holds, IsSingle}
use Rattle.ep_pointers.specs.Value.{Pointers, null_alone, HoldsPointer, null_pointer}
use Rattle.ep_pointers.specs.Compare.{pointers_compare as compare_of}
use Rattle.ep_cells.specs.declared.cell.Cell.{Cell}
use Rattle.ep_cells.specs.declared.cell.Value.{Value}
use Rattle.ep_cells.specs.declared.cell.Value.TheVariants.{Num, Ptr}
use Rattle.ep_cells.specs.States.{Known}
use Rattle.ep_cells.specs.Meaning.{Memories, Allows}
use Rattle.ep_reads.specs.Bytes.{is_null_alone}
use Rattle.ep_core.specs.Program.{Program}
use Rattle.ep_core.specs.Exec.{is_true, truth, pointers_compare}
use Rattle.ep_core.specs.Runs.{Side}
use Rattle.ep_evaluation.specs.Operators.{pointer_in, test_of}
use Rattle.ep_evaluation.specs.Narrowed.{refined, narrowed_by, numbers_narrowed, null_refined, says_alike}
use Rattle.ep_evaluation.specs.Narrowed.{null_side, pointers_narrowed}
use Rattle.ep_evaluation.specs.Evaluation.{value_narrowed}
use Rattle.ep_evaluation.proofs.Pointers.{at, IsPointer, Linked, as_truth, as_mix, linked, only_null, answered}
use Rattle.ep_evaluation.proofs.Assuming.{zero_type}
use Rattle.ep_evaluation.proofs.Tests.{compares_zero}
use Rattle.ep_singles.specs.Numbers.{KeepsSingles}
use Rattle.ep_singles.specs.Cells.{IsOneValue, one_number}
use Rattle.ep_singles.proofs.Bytes.{held_single}
use Rattle.ep_single_narrowed.specs.Laws.{HasCell, IsKeptOne, IfKeptOne}
use Rattle.ep_single_narrowed.proofs.Cells.{then_one, refined_one, null_refined_one}

one_truth : (a b : Bool) → truth a ≡ truth b → a ≡ b
one_truth a b e =
    let d : int (cond a (pos 1) (pos 0)) ≡ int (cond b (pos 1) (pos 0)) = one_value e in
    sym (truth_is a) ∙ ap is_true d ∙ truth_is b
  where
    one_value : {u v : Datum} → has u ≡ has v → u ≡ v
    one_value e = cc

-- the comparison of the definition of pointers is that of the machine
pub compared_so : (c : Cmp) (u v : Datum) (t : Bool) → IsPointer u → IsPointer v → pointers_compare c u v ≡ truth t
    → compare_of c (at u) (at v) ≡ Some t
compared_so c u v t i j e = by (linked c u v i j)
  where
    by : Linked (pointers_compare c u v) (compare_of c (at u) (at v)) → compare_of c (at u) (at v) ≡ Some t
    by (as_truth b f g) = g ∙ ap Some (one_truth b t (sym f ∙ e))
    by (as_mix f g) = absurd (let z : faults pointer_mix ≡ has (int (cond t (pos 1) (pos 0))) = sym f ∙ e in cc)

-- a test of a pointer compares it with null
pub tested_so : (u : Datum) → IsPointer u → pointers_compare Ne u null ≡ truth (is_true u)
tested_so (int z) i = absurd i
tested_so null i = refl
tested_so (pointer b q) i = refl

-- what a comparison with null says of the other
says_of : (c : Cmp) (t b : Bool) (u : Datum) → IsPointer u → says_alike c t ≡ Some b
    → compare_of c (at u) null_pointer ≡ Some t → (b ≡ true → u ≡ null) × (b ≡ false → is_true u ≡ true)
says_of c t b (int z) i e f = absurd i
says_of Eq t b null i e f = (
  λ q. refl,
  λ q.
      (let x : t ≡ b = cc in let y : true ≡ t = cc in absurd (let z : true ≡ false = y ∙ (x ∙ q) in cc)),
)
says_of Eq t b (pointer c r) i e f = (
  λ q.
      (let x : t ≡ b = cc in let y : false ≡ t = cc in absurd (let z : false ≡ true = y ∙ (x ∙ q) in cc)),
  λ q. refl,
)
says_of Ne t b null i e f = (
  λ q. refl,
  λ q.
      (let x : not t ≡ b = cc in let y : false ≡ t = cc in absurd (let z : true ≡ false = ap not y ∙ (x ∙ q) in cc)),
)
says_of Ne t b (pointer c r) i e f = (
  λ q.
      (let x : not t ≡ b = cc in let y : true ≡ t = cc in absurd (let z : false ≡ true = ap not y ∙ (x ∙ q) in cc)),
  λ q. refl,
)
says_of Lt t b u i e f = absurd (let z : None ≡ Some b = e in cc)
says_of Le t b u i e f = absurd (let z : None ≡ Some b = e in cc)
says_of Gt t b u i e f = absurd (let z : None ≡ Some b = e in cc)
says_of Ge t b u i e f = absurd (let z : None ≡ Some b = e in cc)

null_swapped : (c : Cmp) (v : Datum) → compare_of c null_pointer (at v) ≡ compare_of c (at v) null_pointer
null_swapped c (int z) = refl
null_swapped c null = refl
null_swapped c (pointer b q) = refl

-- a pointer among those known
pub record IsAmong {N : Type 0} (D : Ops N) (o : Option (Value N)) (u : Datum) : Type 0 where
  pub p : Pointers N
  pub is : o ≡ Some (Ptr p)
  pub pointer_is : IsPointer u
  pub holds : HoldsPointer D p (at u)

pub among : {N : Type 0} (D : Ops N) (o : Option (Value N)) (u : Datum) → Allows D Pointer o false (Some u)
    → IsAmong D o u
among D None u a = absurd (let z : Some u ≡ None = a in cc)
among D (Some (Num n)) (int y) a = absurd a
among D (Some (Num n)) null a = absurd a
among D (Some (Num n)) (pointer b q) a = absurd a
among D (Some (Ptr p)) (int y) a = absurd a
among D (Some (Ptr p)) null a = record { p = p; is = refl; pointer_is = tt; holds = a }
among D (Some (Ptr p)) (pointer b q) a = record { p = p; is = refl; pointer_is = tt; holds = a }

module _ {N : Type 0} (D : Ops N) (law : Lawful D) where
  -- ---- numbers

  pub numbers_stay_one : KeepsSingles D → (p : Program) (ord : Side → Order) (k : Known N) (m : Memories)
      → IsKeptOne D p ord k m → (c : Cmp) (x y : N) (u v : ℤ) → IsSingle D x u → IsSingle D y v → compares c u v ≡ true
      → (f g : Known N → Option (Cell N)) → HasCell D p ord m f (int u) → HasCell D p ord m g (int v)
      → IfKeptOne D p ord (numbers_narrowed D c (Some x) (Some y) f g k) m
  numbers_stay_one keeps p ord k m s c x y u v sx sy e f g hf hg =
      by (D.filter c x y) (keeps.filter c x y u v e sx sy)
      (law.filter_holds c x y u v e (law.range_single x u sx) (law.range_single y v sy))
    where
      by : (r : Option (N × N)) → IfSome r (λ r. IsSingle D r.0 u × IsSingle D r.1 v)
          → IsSomeAnd r (λ r. Holds D r.0 u × Holds D r.1 v) → IfKeptOne D p ord (narrowed_by D r f g k) m
      by None h i = absurd i
      by (Some r) h i =
          then_one D law p ord m (refined D (f k) r.0 k) (λ k. refined D (g k) r.1 k)
          (refined_one D law p ord k m s keeps (f k) u r.0 (hf k s.kept) h.0)
          (λ j n. refined_one D law p ord j m n keeps (g j) v r.1 (hg j n.kept) h.1)

  -- ---- pointers

  null_side_one : (p : Program) (ord : Side → Order) (k : Known N) (m : Memories) → IsKeptOne D p ord k m
      → (q : Pointers N) (o : Option Bool) (f : Known N → Option (Cell N)) (u : Datum)
      → ((b : Bool) → o ≡ Some b → is_null_alone q ≡ true
      → (b ≡ true → u ≡ null) × (b ≡ false → is_true u ≡ true))
      → HasCell D p ord m f u → IfKeptOne D p ord (null_side q o f k) m
  null_side_one p ord k m s q None f u h hf = s
  null_side_one p ord k m s q (Some b) f u h hf = by_test (is_null_alone q) refl
    where
      by_test : (t : Bool) → is_null_alone q ≡ t → IfKeptOne D p ord (cond t (null_refined (f k) b k) (Some k)) m
      by_test true e =
          let r = h b refl e in null_refined_one D law p ord k m s (f k) u (hf k s.kept) b r.0 r.1
      by_test false e = s

  two_stay : (p : Program) (ord : Side → Order) (k : Known N) (m : Memories) → IsKeptOne D p ord k m
      → (c : Cmp) (t : Bool) (x y : Pointers N) (u v : Datum) → IsPointer u → IsPointer v
      → HoldsPointer D x (at u) → HoldsPointer D y (at v) → compare_of c (at u) (at v) ≡ Some t
      → (f g : Known N → Option (Cell N)) → HasCell D p ord m f u → HasCell D p ord m g v
      → IfKeptOne D p ord (pointers_narrowed D c t (Some x) (Some y) f g k) m
  two_stay p ord k m s c t x y u v iu iv hx hy e f g hf hg =
      rw (answered D law p ord c x y u v t hx hy e)
      (then_one D law p ord m (null_side y (says_alike c t) f k) (λ k. null_side x (says_alike c t) g k)
      (null_side_one p ord k m s y (says_alike c t) f u
      (λ b i n. says_of c t b u iu i
      (subst (λ w. compare_of c (at u) (at w) ≡ Some t) (only_null D law p ord y v n hy iv) e)) hf)
      (λ j sj. null_side_one p ord j m sj x (says_alike c t) g v
      (λ b i n. says_of c t b v iv i (sym (null_swapped c v)
      ∙ subst (λ w. compare_of c (at w) (at v) ≡ Some t) (only_null D law p ord x u n hx iu) e)) hg))

  pub pointers_stay_one : (p : Program) (ord : Side → Order) (k : Known N) (m : Memories) → IsKeptOne D p ord k m
      → (c : Cmp) (t : Bool) (x y : Option (Value N)) (u v : Datum) → Allows D Pointer x false (Some u)
      → Allows D Pointer y false (Some v) → pointers_compare c u v ≡ truth t → (f g : Known N → Option (Cell N))
      → HasCell D p ord m f u → HasCell D p ord m g v
      → IfKeptOne D p ord (pointers_narrowed D c t (pointer_in x) (pointer_in y) f g k) m
  pointers_stay_one p ord k m s c t x y u v ax ay e f g hf hg =
      let i = among D x u ax in
      let j = among D y v ay in
      subst (λ o. IfKeptOne D p ord (pointers_narrowed D c t o (pointer_in y) f g k) m) (sym (ap pointer_in i.is))
      (subst (λ o. IfKeptOne D p ord (pointers_narrowed D c t (Some i.p) o f g k) m) (sym (ap pointer_in j.is))
      (two_stay p ord k m s c t i.p j.p u v i.pointer_is j.pointer_is i.holds j.holds
      (compared_so c u v t i.pointer_is j.pointer_is e) f g hf hg))

  -- ---- tests

  no_cell : (p : Program) (ord : Side → Order) (m : Memories) (v : Datum) → HasCell D p ord m (λ k. None) v
  no_cell p ord m v j h = tt

  pointer_test : (p : Program) (ord : Side → Order) (k : Known N) (m : Memories) → IsKeptOne D p ord k m
      → (x : Pointers N) (u : Datum) → IsPointer u → HoldsPointer D x (at u) → (t : Bool) → is_true u ≡ t
      → (f : Known N → Option (Cell N)) → HasCell D p ord m f u
      → IfKeptOne D p ord (value_narrowed D t (Some (Ptr x)) f k) m
  pointer_test p ord k m s x u i h t e f hf =
      two_stay p ord k m s Ne t x null_alone u null i tt h refl
      (compared_so Ne u null t i tt (tested_so u i ∙ ap truth e)) f (λ k. None) hf (no_cell p ord m null)

  pub tests_stay_one : KeepsSingles D → (p : Program) (ord : Side → Order) (k : Known N) (m : Memories)
      → IsKeptOne D p ord k m → (w : Scalar) (o : Option (Value N)) (u : Datum) → IsOneValue D o
      → Allows D w o false (Some u) → (t : Bool) → is_true u ≡ t → (f : Known N → Option (Cell N))
      → HasCell D p ord m f u → IfKeptOne D p ord (value_narrowed D t o f k) m
  tests_stay_one keeps p ord k m s w None u i a t e f hf = elim i [ ]
  tests_stay_one keeps p ord k m s (Int r) (Some (Num n)) (int z) (one_number _ y d) a t e f hf =
      numbers_stay_one keeps p ord k m s (test_of t) n (D.single (pos 0)) z (pos 0)
      (subst (IsSingle D n) (sym (held_single D law n y z d a.1)) d) (law.single_range (pos 0) zero_type)
      (compares_zero t z e) f (λ k. None) hf (no_cell p ord m (int (pos 0)))
  tests_stay_one keeps p ord k m s (Int r) (Some (Num n)) null i a t e f hf = absurd a
  tests_stay_one keeps p ord k m s (Int r) (Some (Num n)) (pointer b q) i a t e f hf = absurd a
  tests_stay_one keeps p ord k m s Pointer (Some (Num n)) (int z) i a t e f hf = absurd a
  tests_stay_one keeps p ord k m s Pointer (Some (Num n)) null i a t e f hf = absurd a
  tests_stay_one keeps p ord k m s Pointer (Some (Num n)) (pointer b q) i a t e f hf = absurd a
  tests_stay_one keeps p ord k m s (Int r) (Some (Ptr x)) (int z) i a t e f hf = absurd a
  tests_stay_one keeps p ord k m s (Int r) (Some (Ptr x)) null i a t e f hf = absurd a
  tests_stay_one keeps p ord k m s (Int r) (Some (Ptr x)) (pointer b q) i a t e f hf = absurd a
  tests_stay_one keeps p ord k m s Pointer (Some (Ptr x)) (int z) i a t e f hf = absurd a
  tests_stay_one keeps p ord k m s Pointer (Some (Ptr x)) null i a t e f hf =
      pointer_test p ord k m s x null tt a t e f hf
  tests_stay_one keeps p ord k m s Pointer (Some (Ptr x)) (pointer b q) i a t e f hf =
      pointer_test p ord k m s x (pointer b q) tt a t e f hf
