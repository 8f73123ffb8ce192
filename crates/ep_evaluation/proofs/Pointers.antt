-- Pointers: comparisons, and what assuming leaves of their cells.
use Rattle.std.proofs.Common.{◌≡◌, ℕ, pos, Bool, true, false, ◌&&◌, not, nat_eq, cond, List, [], ◌∷◌, Option, Some}
use Rattle.ep_int.proofs.Arithmetic.{le_fact, le_test}
use Rattle.std.proofs.Common.{None, IfSome, IsSomeAnd, IsTrue, refl, sym, ap, ◌∙◌, subst, arith}
use Rattle.std.specs.Prelude.{int_le}
use Rattle.std.specs.List.{list_any}
use Rattle.std.proofs.lemmas.Int.{ints}
use Rattle.std.proofs.lemmas.Bool.{and_parts, eqb-true, eq-eqb}
use Rattle.ep_int.specs.declared.types.Order.{Order}
use Rattle.ep_int.specs.declared.types.Cmp.{Cmp}
use Rattle.ep_int.specs.declared.types.Cmp.TheVariants.{Eq, Ne, Lt, Le, Gt, Ge}
use Rattle.ep_int.specs.declared.types.Scalar.TheVariants.{Pointer}
use Rattle.ep_int.specs.Arith.{compares, int_eq}
use Rattle.ep_int.specs.Memory.{Value as Datum, int, null, pointer, Found, faults, pointer_mix}
use Rattle.ep_domain.specs.Domain.{Ops, Lawful}
use Rattle.ep_pointers.specs.Value.{Pointers, null_alone, HoldsPointer, Pointer as Address, null_pointer, into}
use Rattle.ep_pointers.specs.Value.{offset_at}
use Rattle.ep_pointers.specs.Compare.{pointers_compare as compare_of, comparison_of, Answers}
use Rattle.ep_pointers.proofs.Gathered.{pointer_laws}
use Rattle.ep_cells.specs.declared.cell.Cell.{Cell}
use Rattle.ep_cells.specs.declared.cell.Value.{Value}
use Rattle.ep_cells.specs.declared.cell.Value.TheVariants.{Num, Ptr}
use Rattle.ep_cells.specs.States.{Known, IsOfSort}
use Rattle.ep_cells.specs.Meaning.{Memories, Allows}
use Rattle.ep_reads.specs.Bytes.{is_null_alone}
use Rattle.ep_core.specs.Program.{Program}
use Rattle.ep_core.specs.Exec.{is_true, truth, pointers_compare}
use Rattle.ep_core.specs.Runs.{Side}
use Rattle.ep_evaluation.specs.Narrowed.{then_with, null_refined, says_alike, null_side, answer, pointers_narrowed}
use Rattle.ep_evaluation.specs.Evaluation.{value_narrowed}
use Rattle.ep_evaluation.specs.Laws.{IsState, IfState, IsKept, IfKept}
use Rattle.ep_evaluation.proofs.Assuming.{then_kept, then_state, CellHas, CellThere}
use Rattle.ep_evaluation.proofs.Tests.{null_refined_kept, null_refined_state}

-- a value as a pointer
abbrev pub at : Datum → Address
at (int z) = null_pointer
at null = null_pointer
at (pointer b q) = into b q

abbrev pub IsPointer : Datum → Type 0
IsPointer (int z) = ⊥
IsPointer null = Unit {0}
IsPointer (pointer b q) = Unit {0}

-- the machine's comparison and that of the definition of pointers
pub data Linked (f : Found) (o : Option Bool) : Type 0 where
  as_truth : (b : Bool) → f ≡ truth b → o ≡ Some b → Linked f o
  as_mix : f ≡ faults pointer_mix → o ≡ None → Linked f o

int_eq_pos : (q r : ℕ) → int_eq (pos q) (pos r) ≡ nat_eq q r
int_eq_pos q r = by_eq (nat_eq q r) refl
  where
    not_equal : (b : Bool) → nat_eq q r ≡ false → int_eq (pos q) (pos r) ≡ b → b ≡ false
    not_equal false i j = refl
    not_equal true i j =
        let p = and_parts (int_le (pos q) (pos r)) (int_le (pos r) (pos q)) j in
        let a = le_fact (pos q) (pos r) p.0 in
        let b = le_fact (pos r) (pos q) p.1 in
        let e : q ≡ r = omega (arith, ints, a, b) in
        let z : true ≡ false = sym (eq-eqb q r e) ∙ i in
        absurd cc

    by_eq : (b : Bool) → nat_eq q r ≡ b → int_eq (pos q) (pos r) ≡ b
    by_eq true i =
        let e : q ≡ r = eqb-true q r i in
        rw (le_test (pos q) (pos r) (omega (arith, ints, e)), le_test (pos r) (pos q) (omega (arith, ints, e))) refl
    by_eq false i = not_equal (int_eq (pos q) (pos r)) i refl

-- two pointers: the same offset in one block
same_into : (b c q r : ℕ) (t : Bool) → nat_eq b c ≡ t
    → Linked (truth (nat_eq b c && nat_eq q r)) (cond (nat_eq b c) (Some (compares Eq (pos q) (pos r))) (Some false))
same_into b c q r true i = rw i (as_truth (nat_eq q r) refl (ap Some (int_eq_pos q r)))
same_into b c q r false i = rw i (as_truth false refl refl)

other_into : (b c q r : ℕ) (t : Bool) → nat_eq b c ≡ t
    → Linked (truth (not (nat_eq b c && nat_eq q r)))
    (cond (nat_eq b c) (Some (compares Ne (pos q) (pos r))) (Some true))
other_into b c q r true i = rw i (as_truth (not (nat_eq q r)) refl (ap (λ x. Some (not x)) (int_eq_pos q r)))
other_into b c q r false i = rw i (as_truth true refl refl)

order_into : (k : Cmp) (b c q r : ℕ) (t : Bool) → nat_eq b c ≡ t
    → Linked (cond (nat_eq b c) (truth (compares k (pos q) (pos r))) (faults pointer_mix))
    (cond (nat_eq b c) (Some (compares k (pos q) (pos r))) None)
order_into k b c q r true i = rw i (as_truth (compares k (pos q) (pos r)) refl refl)
order_into k b c q r false i = rw i (as_mix refl refl)

pub linked : (c : Cmp) (u v : Datum) → IsPointer u → IsPointer v
    → Linked (pointers_compare c u v) (compare_of c (at u) (at v))
linked c (int z) v i j = absurd i
linked c null (int z) i j = absurd j
linked c (pointer b q) (int z) i j = absurd j
linked Eq null null i j = as_truth true refl refl
linked Eq null (pointer c r) i j = as_truth false refl refl
linked Eq (pointer b q) null i j = as_truth false refl refl
linked Eq (pointer b q) (pointer c r) i j = same_into b c q r (nat_eq b c) refl
linked Ne null null i j = as_truth false refl refl
linked Ne null (pointer c r) i j = as_truth true refl refl
linked Ne (pointer b q) null i j = as_truth true refl refl
linked Ne (pointer b q) (pointer c r) i j = other_into b c q r (nat_eq b c) refl
linked Lt null null i j = as_mix refl refl
linked Lt null (pointer c r) i j = as_mix refl refl
linked Lt (pointer b q) null i j = as_mix refl refl
linked Lt (pointer b q) (pointer c r) i j = order_into Lt b c q r (nat_eq b c) refl
linked Le null null i j = as_mix refl refl
linked Le null (pointer c r) i j = as_mix refl refl
linked Le (pointer b q) null i j = as_mix refl refl
linked Le (pointer b q) (pointer c r) i j = order_into Le b c q r (nat_eq b c) refl
linked Gt null null i j = as_mix refl refl
linked Gt null (pointer c r) i j = as_mix refl refl
linked Gt (pointer b q) null i j = as_mix refl refl
linked Gt (pointer b q) (pointer c r) i j = order_into Gt b c q r (nat_eq b c) refl
linked Ge null null i j = as_mix refl refl
linked Ge null (pointer c r) i j = as_mix refl refl
linked Ge (pointer b q) null i j = as_mix refl refl
linked Ge (pointer b q) (pointer c r) i j = order_into Ge b c q r (nat_eq b c) refl

-- what a comparison with null says of the other
says_of : (c : Cmp) (t b : Bool) (u : Datum) → IsPointer u → says_alike c t ≡ Some b
    → compare_of c (at u) null_pointer ≡ Some t
    → (b ≡ true → u ≡ null) × (b ≡ false → is_true u ≡ true)
says_of c t b (int z) i e f = absurd i
says_of Eq t b null i e f = (
  λ q. refl,
  λ q.
      (let x : t ≡ b = cc in let y : true ≡ t = cc in absurd (let z : true ≡ false = y ∙ (x ∙ q) in cc)),
)
says_of Eq t b (pointer c r) i e f = (
  λ q.
      (let x : t ≡ b = cc in let y : false ≡ t = cc in absurd (let z : false ≡ true = y ∙ (x ∙ q) in cc)),
  λ q. refl,
)
says_of Ne t b null i e f = (
  λ q. refl,
  λ q.
      (let x : not t ≡ b = cc in let y : false ≡ t = cc in absurd (let z : true ≡ false = ap not y ∙ (x ∙ q) in cc)),
)
says_of Ne t b (pointer c r) i e f = (
  λ q.
      (let x : not t ≡ b = cc in let y : true ≡ t = cc in absurd (let z : false ≡ true = ap not y ∙ (x ∙ q) in cc)),
  λ q.
      refl,
)
says_of Lt t b u i e f = absurd (let z : None ≡ Some b = e in cc)
says_of Le t b u i e f = absurd (let z : None ≡ Some b = e in cc)
says_of Gt t b u i e f = absurd (let z : None ≡ Some b = e in cc)
says_of Ge t b u i e f = absurd (let z : None ≡ Some b = e in cc)

null_swapped : (c : Cmp) (v : Datum) → compare_of c null_pointer (at v) ≡ compare_of c (at v) null_pointer
null_swapped c (int z) = refl
null_swapped c null = refl
null_swapped c (pointer b q) = refl

module _ {N : Type 0} (D : Ops N) (law : Lawful D) (p : Program) (ord : Side → Order) where
  no_target : (ts : List (ℕ × N)) → list_any (λ t. true) ts ≡ false → ts ≡ []
  no_target [] e = refl
  no_target (t ∷ ts) e = absurd (let z : true ≡ false = e in cc)

  pub only_null : (q : Pointers N) (v : Datum) → is_null_alone q ≡ true → HoldsPointer D q (at v) → IsPointer v
      → v ≡ null
  only_null q (int z) e h i = absurd i
  only_null q null e h i = refl
  only_null q (pointer b o) e h i =
      let r = and_parts q.null (not (list_any (λ t. true) q.targets)) e in
      let none = no_target q.targets (from_not (list_any (λ t. true) q.targets) r.1) in
      absurd (subst (λ ts. IsSomeAnd (offset_at ts b) (λ n. IsTrue (D.holds n (pos o)))) none h)
    where
      from_not : (b : Bool) → not b ≡ true → b ≡ false
      from_not true e = absurd cc
      from_not false e = refl

  null_side_kept : (k : Known N) (m : Memories) → IsKept D p ord k m
      → (q : Pointers N) (o : Option Bool) (f : Known N → Option (Cell N))
      (u : Datum) → ((b : Bool) → o ≡ Some b → is_null_alone q ≡ true
      → (b ≡ true → u ≡ null) × (b ≡ false → is_true u ≡ true))
      → CellHas D law p ord m f u → IfKept D p ord (null_side q o f k) m
  null_side_kept k m kept q None f u h cf = kept
  null_side_kept k m kept q (Some b) f u h cf = by_test (is_null_alone q) refl
    where
      by_test : (t : Bool) → is_null_alone q ≡ t → IfKept D p ord (cond t (null_refined (f k) b k) (Some k)) m
      by_test true e = let r = h b refl e in null_refined_kept D law p ord k m kept (f k) u (cf k kept) b r.0 r.1
      by_test false e = kept

  null_side_state : (k : Known N) → IsState D p ord k
      → (q : Pointers N) (o : Option Bool) (f : Known N → Option (Cell N))
      → CellThere D law p ord f → IfState D p ord (null_side q o f k)
  null_side_state k s q None f cf = s
  null_side_state k s q (Some b) f cf = by_test (is_null_alone q)
    where
      by_test : (t : Bool) → IfState D p ord (cond t (null_refined (f k) b k) (Some k))
      by_test true = null_refined_state D law p ord k s (f k) (cf k s) b
      by_test false = s

  pub answered : (c : Cmp) (x y : Pointers N) (u v : Datum) (t : Bool) → HoldsPointer D x (at u)
      → HoldsPointer D y (at v)
      → compare_of c (at u) (at v) ≡ Some t → answer (comparison_of D c x y) t ≡ true
  answered c x y u v true hx hy e =
      subst (λ o. Answers o (comparison_of D c x y)) e ((pointer_laws D law).compare_answers c x y (at u) (at v) hx hy)
  answered c x y u v false hx hy e =
      subst (λ o. Answers o (comparison_of D c x y)) e ((pointer_laws D law).compare_answers c x y (at u) (at v) hx hy)

  -- two pointers whose comparison is of a truth
  pub pointers_kept : (k : Known N) (m : Memories) → IsKept D p ord k m
      → (c : Cmp) (t : Bool) (x y : Option (Pointers N)) (u v : Datum)
      → IsPointer u → IsPointer v → IfSome x (λ q. HoldsPointer D q (at u)) → IfSome y (λ q. HoldsPointer D q (at v))
      → compare_of c (at u) (at v) ≡ Some t → (f g : Known N → Option (Cell N)) → CellHas D law p ord m f u
      → CellHas D law p ord m g v
      → IfKept D p ord (pointers_narrowed D c t x y f g k) m
  pointers_kept k m kept c t None y u v iu iv hx hy e f g cf cg = kept
  pointers_kept k m kept c t (Some x) None u v iu iv hx hy e f g cf cg = kept
  pointers_kept k m kept c t (Some x) (Some y) u v iu iv hx hy e f g cf cg =
      rw (answered c x y u v t hx hy e)
      (then_kept D law p ord m (null_side y (says_alike c t) f k) (λ k. null_side x (says_alike c t) g k)
      (null_side_kept k m kept y (says_alike c t) f u
      (λ b i n. says_of c t b u iu i (subst (λ w. compare_of c (at u) (at w) ≡ Some t) (only_null y v n hy iv) e)) cf)
      (λ j kj. null_side_kept j m kj x (says_alike c t) g v
      (λ b i n. says_of c t b v iv i (sym (null_swapped c v)
      ∙ subst (λ w. compare_of c (at w) (at v) ≡ Some t) (only_null x u n hx iu) e)) cg))

  pub pointers_state : (k : Known N) → IsState D p ord k
      → (c : Cmp) (t : Bool) (x y : Option (Pointers N)) (f g : Known N → Option (Cell N))
      → CellThere D law p ord f → CellThere D law p ord g → IfState D p ord (pointers_narrowed D c t x y f g k)
  pointers_state k s c t None y f g cf cg = s
  pointers_state k s c t (Some x) None f g cf cg = s
  pointers_state k s c t (Some x) (Some y) f g cf cg = by_answer (answer (comparison_of D c x y) t)
    where
      by_answer : (b : Bool)
          → IfState D p ord (cond b
          (then_with (null_side y (says_alike c t) f k) (λ k. null_side x (says_alike c t) g k)) None)
      by_answer true = then_state D law p ord (null_side y (says_alike c t) f k) (λ k. null_side x (says_alike c t) g k)
          (null_side_state k s y (says_alike c t) f cf) (λ j sj. null_side_state j sj x (says_alike c t) g cg)
      by_answer false = tt

  -- a pointer that is tested
  pub pointer_kept : (k : Known N) (m : Memories) → IsKept D p ord k m → (t : Bool) (o : Option (Value N)) (u : Datum)
      → Allows D Pointer o false (Some u) → is_true u ≡ t → (f : Known N → Option (Cell N)) → CellHas D law p ord m f u
      → IfKept D p ord (value_narrowed D t o f k) m
  pointer_kept k m kept t None u a e f cf = kept
  pointer_kept k m kept t (Some (Num n)) (int z) a e f cf = absurd a
  pointer_kept k m kept t (Some (Num n)) null a e f cf = absurd a
  pointer_kept k m kept t (Some (Num n)) (pointer b q) a e f cf = absurd a
  pointer_kept k m kept t (Some (Ptr x)) (int z) a e f cf = absurd a
  pointer_kept k m kept t (Some (Ptr x)) null a e f cf =
      pointers_kept k m kept Ne t (Some x) (Some null_alone) null null tt tt a refl (ap Some e) f (λ k. None) cf
      (λ j h. tt)
  pointer_kept k m kept t (Some (Ptr x)) (pointer b q) a e f cf =
      pointers_kept k m kept Ne t (Some x) (Some null_alone) (pointer b q) null tt tt a refl (ap Some e) f
      (λ k. None) cf (λ j h. tt)

  pub pointer_state : (k : Known N) → IsState D p ord k → (t : Bool) (o : Option (Value N)) → IsOfSort Pointer o
      → (f : Known N → Option (Cell N)) → CellThere D law p ord f → IfState D p ord (value_narrowed D t o f k)
  pointer_state k s t None i f cf = s
  pointer_state k s t (Some (Num n)) i f cf = absurd i
  pointer_state k s t (Some (Ptr x)) i f cf = pointers_state k s Ne t (Some x) (Some null_alone) f (λ k. None) cf
      (λ j h. tt)
