-- Two values that can only be one number or one pointer: what one allows the other allows too, and there is one thing
-- that may stand for both.
use Rattle.std.proofs.Common.{◌≡◌, ℕ, ℤ, pos, Bool, true, false, ◌&&◌, ◌||◌, not, nat_eq, cond, IsSomeAnd, List, []}
use Rattle.std.proofs.lemmas.Bool.{not-true}
use Rattle.std.proofs.Common.{◌∷◌, Option, Some, None, inr, ⊎_elim, refl, sym, ap, ◌∙◌, subst, arith}
use Rattle.std.specs.List.{list_any}
use Rattle.std.specs.Ordering.{int_eq}
use Rattle.std.proofs.lemmas.Int.{ints}
use Rattle.std.proofs.lemmas.Bool.{and_from, and_parts, or_cases, both_ways, eqb-true, eq-eqb}
use Rattle.std.proofs.lemmas.Bool.Decides.{Decides-int_eq}
use Rattle.ep_int.specs.declared.types.Order.{Order}
use Rattle.ep_int.specs.declared.types.Scalar.{Scalar}
use Rattle.ep_int.specs.declared.types.Scalar.TheVariants.{Int, Pointer}
use Rattle.ep_int.specs.Memory.{Memory, Value as Datum, int, null, pointer, is_number, undefined}
use Rattle.ep_range_laws.specs.Ranges.{LiesIn}
use Rattle.ep_domain.specs.Domain.{Ops, Holds, Lawful}
use Rattle.ep_pointers.specs.Value.{Pointers, Target, offset_at}
use Rattle.ep_cells.specs.declared.cell.Value.{Value}
use Rattle.ep_cells.specs.declared.cell.Value.TheVariants.{Num, Ptr}
use Rattle.ep_cells.specs.Meaning.{Allows, HasBytes}
use Rattle.ep_cells.specs.Reshare.{are_one_number, is_single}
use Rattle.ep_reads.specs.Bytes.{has_targets, is_null_alone}
use Rattle.ep_equalities.specs.Same.{are_one_offset, are_one_target, are_one_place, are_one_pointer}
use Rattle.ep_equalities.proofs.Equal.{same_values}
use Rattle.ep_evaluation.specs.Given.{pair}
use Rattle.ep_transfers.specs.Writes.{lacks}
use Rattle.ep_transfers.proofs.PieceSources.{some_any}

module _ {N : Type 0} (D : Ops N) (law : Lawful D) where
  abbrev pub are_one : Option (Value N) → Option (Value N) → Bool
  are_one u v = are_one_number D u v || are_one_pointer D u v

  in_single : (r : ℤ × ℤ) (z : ℤ) → is_single r ≡ true → LiesIn r z → z ≡ r.0
  in_single r z h l =
      let e : r.0 ≡ r.1 = (Decides-int_eq r.0 r.1).0 h in
      let low = l.low in
      let high = l.high in
      omega (arith, ints, e, low, high)

  single_pair : (r : ℤ × ℤ) (z : ℤ) → r.0 ≡ z → r.1 ≡ z → r ≡ (z, z)
  single_pair r z e f = ap (λ (x : ℤ). (x, r.1)) e ∙ ap (λ (x : ℤ). (z, x)) f

  -- of the same single number one holds what the other holds
  one_holds : (a b : N) (z : ℤ) → (is_single (D.range a) && (is_single (D.range b) && int_eq (D.range a).0
      (D.range b).0))
      ≡ true → Holds D b z → Holds D a z
  one_holds a b z e h =
      let p = and_parts (is_single (D.range a)) (is_single (D.range b) && int_eq (D.range a).0 (D.range b).0) e in
      let q = and_parts (is_single (D.range b)) (int_eq (D.range a).0 (D.range b).0) p.1 in
      let own : (D.range a).0 ≡ (D.range a).1 = (Decides-int_eq (D.range a).0 (D.range a).1).0 p.0 in
      let same : (D.range a).0 ≡ (D.range b).0 = (Decides-int_eq (D.range a).0 (D.range b).0).0 q.1 in
      let at : z ≡ (D.range b).0 = in_single (D.range b) z q.0 (law.range_encloses b z h) in
      let low : (D.range a).0 ≡ z = same ∙ sym at in
      law.range_single a z (single_pair (D.range a) z low (sym own ∙ low))

  number_allows : (w : Scalar) (a b : N) (c e : Bool) (x : Datum)
      → (is_single (D.range a) && (is_single (D.range b) && int_eq (D.range a).0 (D.range b).0)) ≡ true
      → Allows D w (Some (Num b)) c (Some x) → Allows D w (Some (Num a)) e (Some x)
  number_allows (Int t) a b c e (int z) h l = (l.0, one_holds a b z h l.1)
  number_allows (Int t) a b c e null h l = absurd l
  number_allows (Int t) a b c e (pointer x y) h l = absurd l
  number_allows Pointer a b c e (int z) h l = absurd l
  number_allows Pointer a b c e null h l = absurd l
  number_allows Pointer a b c e (pointer x y) h l = absurd l

  target_if : (s t : Target N) (c r : ℕ) (u : Bool) → nat_eq t.0 c ≡ u → nat_eq s.0 t.0 ≡ true
      → are_one_offset D s.1 t.1 ≡ true → IsSomeAnd (cond u (Some t.1) None) (λ n. Holds D n (pos r))
      → IsSomeAnd (cond (nat_eq s.0 c) (Some s.1) None) (λ n. Holds D n (pos r))
  target_if s t c r true e b o h =
      let same : nat_eq s.0 c ≡ true = ap (λ z. nat_eq z c) (eqb-true s.0 t.0 b) ∙ e in
      subst (λ u. IsSomeAnd (cond u (Some s.1) None) (λ n. Holds D n (pos r))) (sym same)
      (one_holds s.1 t.1 (pos r) o h)
  target_if s t c r false e b o h = absurd h

  targets_allow : (ss ts : List (Target N)) (c r : ℕ) → are_one_target D ss ts ≡ true
      → IsSomeAnd (offset_at ts c) (λ n. Holds D n (pos r)) → IsSomeAnd (offset_at ss c) (λ n. Holds D n (pos r))
  targets_allow [] ts c r e h = absurd (cc)
  targets_allow (s ∷ []) [] c r e h = absurd (cc)
  targets_allow (s ∷ []) (t ∷ []) c r e h =
      let p = and_parts (nat_eq s.0 t.0) (are_one_offset D s.1 t.1) e in
      target_if s t c r (nat_eq t.0 c) refl p.0 p.1 h
  targets_allow (s ∷ []) (t ∷ u ∷ us) c r e h = absurd (cc)
  targets_allow (s ∷ q ∷ ss) ts c r e h = absurd (cc)

  some_target : (ts : List (Target N)) (c : ℕ) (P : N → Type 0) → IsSomeAnd (offset_at ts c) P
      → list_any (λ t. true) ts ≡ true
  some_target [] c P h = absurd h
  some_target (t ∷ ts) c P h = refl

  pointer_allows : (w : Scalar) (p q : Pointers N) (c e : Bool) (x : Datum) → are_one_place D p q ≡ true
      → Allows D w (Some (Ptr q)) c (Some x) → Allows D w (Some (Ptr p)) e (Some x)
  pointer_allows (Int t) p q c e (int z) h l = absurd l
  pointer_allows (Int t) p q c e null h l = absurd l
  pointer_allows (Int t) p q c e (pointer x y) h l = absurd l
  pointer_allows Pointer p q c e (int z) h l = absurd l
  pointer_allows Pointer p q c e null h l =
      ⊎_elim
      (λ both.
      let n = and_parts (is_null_alone p) (is_null_alone q) both in
      (and_parts p.null (not (has_targets p)) n.0).0)
      (λ one.
      let n = and_parts (not p.null) (not q.null && are_one_target D p.targets q.targets) one in
      let m = and_parts (not q.null) (are_one_target D p.targets q.targets) n.1 in
      absurd (both_ways q.null (not-true q.null m.0) l))
      (or_cases (is_null_alone p && is_null_alone q)
      (not p.null && (not q.null && are_one_target D p.targets q.targets)) h)
  pointer_allows Pointer p q c e (pointer x y) h l =
      ⊎_elim
      (λ both.
      let n = and_parts (is_null_alone p) (is_null_alone q) both in
      let t = and_parts q.null (not (has_targets q)) n.1 in
      absurd (both_ways (has_targets q) (not-true (has_targets q) t.1)
      (some_target q.targets x (λ i. Holds D i (pos y)) l)))
      (λ one.
      let n = and_parts (not p.null) (not q.null && are_one_target D p.targets q.targets) one in
      let m = and_parts (not q.null) (are_one_target D p.targets q.targets) n.1 in
      targets_allow p.targets q.targets x y m.1 l)
      (or_cases (is_null_alone p && is_null_alone q)
      (not p.null && (not q.null && are_one_target D p.targets q.targets)) h)

  by_number : (w : Scalar) (u v : Option (Value N)) (c e : Bool) (x : Datum) → are_one_number D u v ≡ true
      → Allows D w v c (Some x) → Allows D w u e (Some x)
  by_number w None v c e x h l = absurd (cc)
  by_number w (Some (Ptr p)) v c e x h l = absurd (cc)
  by_number w (Some (Num a)) None c e x h l = absurd (cc)
  by_number w (Some (Num a)) (Some (Ptr q)) c e x h l = absurd (cc)
  by_number w (Some (Num a)) (Some (Num b)) c e x h l = number_allows w a b c e x h l

  by_pointer : (w : Scalar) (u v : Option (Value N)) (c e : Bool) (x : Datum) → are_one_pointer D u v ≡ true
      → Allows D w v c (Some x) → Allows D w u e (Some x)
  by_pointer w None v c e x h l = absurd (cc)
  by_pointer w (Some u) None c e x h l = absurd (cc)
  by_pointer w (Some (Ptr p)) (Some (Ptr q)) c e x h l = pointer_allows w p q c e x h l
  by_pointer w (Some (Ptr p)) (Some (Num b)) c e x h l = absurd (cc)
  by_pointer w (Some (Num a)) (Some v) c e x h l = absurd (cc)

  -- what the right allows, the left allows
  pub left_allows : (w : Scalar) (u v : Option (Value N)) (c e : Bool) (x : Datum) → are_one u v ≡ true
      → Allows D w v c (Some x) → Allows D w u e (Some x)
  left_allows w u v c e x h l =
      ⊎_elim (λ n. by_number w u v c e x n l) (λ n. by_pointer w u v c e x n l)
      (or_cases (are_one_number D u v) (are_one_pointer D u v) h)

  -- ---- the test is the same from the other side

  int_back : (a b : ℤ) → int_eq a b ≡ true → int_eq b a ≡ true
  int_back a b h = (Decides-int_eq b a).1 (sym ((Decides-int_eq a b).0 h))

  offset_back : (a b : N) → (is_single (D.range a) && (is_single (D.range b) && int_eq (D.range a).0 (D.range b).0))
      ≡ true → (is_single (D.range b) && (is_single (D.range a) && int_eq (D.range b).0 (D.range a).0)) ≡ true
  offset_back a b e =
      let p = and_parts (is_single (D.range a)) (is_single (D.range b) && int_eq (D.range a).0 (D.range b).0) e in
      let q = and_parts (is_single (D.range b)) (int_eq (D.range a).0 (D.range b).0) p.1 in
      and_from (is_single (D.range b)) (is_single (D.range a) && int_eq (D.range b).0 (D.range a).0) q.0
      (and_from (is_single (D.range a)) (int_eq (D.range b).0 (D.range a).0) p.0
      (int_back (D.range a).0 (D.range b).0 q.1))

  number_back : (u v : Option (Value N)) → are_one_number D u v ≡ true → are_one_number D v u ≡ true
  number_back None v h = absurd (cc)
  number_back (Some (Ptr p)) v h = absurd (cc)
  number_back (Some (Num a)) None h = absurd (cc)
  number_back (Some (Num a)) (Some (Ptr q)) h = absurd (cc)
  number_back (Some (Num a)) (Some (Num b)) h = offset_back a b h

  target_back : (ss ts : List (Target N)) → are_one_target D ss ts ≡ true → are_one_target D ts ss ≡ true
  target_back [] ts h = absurd (cc)
  target_back (s ∷ []) [] h = absurd (cc)
  target_back (s ∷ []) (t ∷ []) h =
      let p = and_parts (nat_eq s.0 t.0) (are_one_offset D s.1 t.1) h in
      and_from (nat_eq t.0 s.0) (are_one_offset D t.1 s.1) (eq-eqb t.0 s.0 (sym (eqb-true s.0 t.0 p.0)))
      (offset_back s.1 t.1 p.1)
  target_back (s ∷ []) (t ∷ u ∷ us) h = absurd (cc)
  target_back (s ∷ q ∷ ss) ts h = absurd (cc)

  left_or : (a b : Bool) → a ≡ true → (a || b) ≡ true
  left_or true b e = refl
  left_or false b e = absurd (cc)

  right_or : (a b : Bool) → b ≡ true → (a || b) ≡ true
  right_or true b e = refl
  right_or false b e = e

  place_back : (p q : Pointers N) → are_one_place D p q ≡ true → are_one_place D q p ≡ true
  place_back p q h =
      ⊎_elim
      (λ both.
      let n = and_parts (is_null_alone p) (is_null_alone q) both in
      left_or (is_null_alone q && is_null_alone p) (not q.null && (not p.null && are_one_target D q.targets p.targets))
      (and_from (is_null_alone q) (is_null_alone p) n.1 n.0))
      (λ one.
      let n = and_parts (not p.null) (not q.null && are_one_target D p.targets q.targets) one in
      let m = and_parts (not q.null) (are_one_target D p.targets q.targets) n.1 in
      right_or (is_null_alone q && is_null_alone p) (not q.null &&
      (not p.null && are_one_target D q.targets p.targets))
      (and_from (not q.null) (not p.null && are_one_target D q.targets p.targets) m.0
      (and_from (not p.null) (are_one_target D q.targets p.targets) n.0 (target_back p.targets q.targets m.1))))
      (or_cases (is_null_alone p && is_null_alone q)
      (not p.null && (not q.null && are_one_target D p.targets q.targets)) h)

  pointer_back : (u v : Option (Value N)) → are_one_pointer D u v ≡ true → are_one_pointer D v u ≡ true
  pointer_back None v h = absurd (cc)
  pointer_back (Some u) None h = absurd (cc)
  pointer_back (Some (Ptr p)) (Some (Ptr q)) h = place_back p q h
  pointer_back (Some (Ptr p)) (Some (Num b)) h = absurd (cc)
  pointer_back (Some (Num a)) (Some v) h = absurd (cc)

  pub one_back : (u v : Option (Value N)) → are_one u v ≡ true → are_one v u ≡ true
  one_back u v h =
      ⊎_elim (λ n. left_or (are_one_number D v u) (are_one_pointer D v u) (number_back u v n))
      (λ n. right_or (are_one_number D v u) (are_one_pointer D v u) (pointer_back u v n))
      (or_cases (are_one_number D u v) (are_one_pointer D u v) h)

  -- ---- one thing for both

  pub record OneDatum (w : Scalar) (size : ℕ) (lv rv : Option (Value N)) (lm rm : Bool) (ol or : Order)
      (ml mr : Memory) (b q : ℕ) : Type 0
    where
      pub datum : Option Datum
      pub left_allowed : Allows D w lv (lacks lm lv) datum
      pub right_allowed : Allows D w rv (lacks rm rv) datum
      pub left_stands : HasBytes ol ml size w (lacks lm lv) b q datum
      pub right_stands : HasBytes or mr size w (lacks rm rv) b q datum

  some_of : (u v : Option (Value N)) → are_one u v ≡ true → (x : Value N) × (u ≡ Some x)
  some_of None v h = absurd (cc)
  some_of (Some x) v h = (x, refl)

  unset : (w : Scalar) (u : Option (Value N)) (x : Value N) (m : Bool) → u ≡ Some x → Allows D w u m None → m ≡ true
  unset w None x m e a = absurd (let z : None ≡ Some x = e in cc)
  unset w (Some y) x m e a = a

  -- what may be undefined, and is, may be any value
  undefined_as : (o : Order) (m : Memory) (size : ℕ) (w : Scalar) (maybe : Bool) (b q : ℕ) (y : Datum) → maybe ≡ true
      → HasBytes o m size w maybe b q None → HasBytes o m size w maybe b q (Some y)
  undefined_as o m size w false b q y e h = absurd (cc)
  undefined_as o m size (Int t) true b q y e h = λ p l. inr (ap is_number (h p l))
  undefined_as o m size Pointer true b q y e h = inr h

  pub by_value : (w : Scalar) (size : ℕ) (lv rv : Option (Value N)) (lm rm : Bool) (ol or : Order) (ml mr : Memory)
      (b q : ℕ) (dl dr : Option Datum) → are_one lv rv ≡ true → Allows D w lv (lacks lm lv) dl
      → Allows D w rv (lacks rm rv) dr → HasBytes ol ml size w (lacks lm lv) b q dl
      → HasBytes or mr size w (lacks rm rv) b q dr → OneDatum w size lv rv lm rm ol or ml mr b q
  by_value w size lv rv lm rm ol or ml mr b q None None h al ar sl sr = record {
    datum = None;
    left_allowed = al;
    right_allowed = ar;
    left_stands = sl;
    right_stands = sr;
  }
  by_value w size lv rv lm rm ol or ml mr b q None (Some y) h al ar sl sr =
      let x = some_of lv rv h in
      record {
        datum = Some y;
        left_allowed = left_allows w lv rv (lacks rm rv) (lacks lm lv) y h ar;
        right_allowed = ar;
        left_stands = undefined_as ol ml size w (lacks lm lv) b q y (unset w lv x.0 (lacks lm lv) x.1 al) sl;
        right_stands = sr;
      }
  by_value w size lv rv lm rm ol or ml mr b q (Some y) None h al ar sl sr =
      let back = one_back lv rv h in
      let x = some_of rv lv back in
      record {
        datum = Some y;
        left_allowed = al;
        right_allowed = left_allows w rv lv (lacks lm lv) (lacks rm rv) y back al;
        left_stands = sl;
        right_stands = undefined_as or mr size w (lacks rm rv) b q y (unset w rv x.0 (lacks rm rv) x.1 ar) sr;
      }
  by_value w size lv rv lm rm ol or ml mr b q (Some y) (Some z) h al ar sl sr =
      let p = pair (record { value = lv; form = None }) (record { value = rv; form = None }) false in
      let same : y ≡ z = same_values D law p h (λ n. pos 0) w y z (record {
        left = λ e. record { value = some_any D law w lv (lacks lm lv) false y al; form = tt };
        right = λ e. record { value = some_any D law w rv (lacks rm rv) false z ar; form = tt };
        equal = λ e f. absurd (cc);
      }) in
      record {
        datum = Some y;
        left_allowed = al;
        right_allowed = subst (λ d. Allows D w rv (lacks rm rv) (Some d)) (sym same) ar;
        left_stands = sl;
        right_stands = subst (λ d. HasBytes or mr size w (lacks rm rv) b q (Some d)) (sym same) sr;
      }
