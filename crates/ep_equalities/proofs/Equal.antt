-- Values that are surely the same are equal.
use Rattle.std.proofs.Common.{◌≡◌, ℕ, ◌^◌, ℤ, pos, Bool, true, false, ◌&&◌, ◌||◌, not, nat_eq, cond, List, [], ◌∷◌}
use Rattle.ep_cells.proofs.Reshare.{same_residue}
use Rattle.std.proofs.lemmas.Bool.{not-true}
use Rattle.std.proofs.Common.{⊎_elim, Option, Some, None, IfSome, IsSomeAnd, refl, sym, ◌∙◌, ap, subst, arith}
use Rattle.std.specs.List.{list_any}
use Rattle.std.specs.Ordering.{int_eq}
use Rattle.std.proofs.lemmas.Bool.{and_parts, or_cases, eqb-true}
use Rattle.std.proofs.lemmas.Bool.Decides.{Decides-int_eq}
use Rattle.std.proofs.lemmas.Int.{ints}
use Rattle.ep_int.specs.declared.types.IntType.{IntType}
use Rattle.ep_int.specs.declared.types.Scalar.{Scalar}
use Rattle.ep_int.specs.declared.types.Scalar.TheVariants.{Int, Pointer}
use Rattle.ep_int.specs.Types.{InRange}
use Rattle.ep_int.specs.Memory.{Value as Datum, int, null, pointer}
use Rattle.ep_bitslice.specs.declared.segment.Segment.{Segment}
use Rattle.ep_bitslice.specs.Bits.{Numbers}
use Rattle.ep_domain.specs.Domain.{Ops, Lawful}
use Rattle.ep_domain.specs.Domain.{Holds as HoldsNumber}
use Rattle.ep_range_laws.specs.Ranges.{LiesIn}
use Rattle.ep_pointers.specs.Value.{Pointers, Target, offset_at, HoldsPointer, into}
use Rattle.ep_cells.specs.declared.cell.Value.{Value}
use Rattle.ep_cells.specs.declared.cell.Value.TheVariants.{Num, Ptr}
use Rattle.ep_cells.specs.Forms.{have_same_form}
use Rattle.ep_cells.specs.Meaning.{Allows}
use Rattle.ep_cells.specs.Reshare.{are_one_number, is_single}
use Rattle.ep_cells.proofs.Both.{segments_same}
use Rattle.ep_reads.specs.Bytes.{has_targets, is_null_alone}
use Rattle.ep_equalities.specs.declared.pair.PairValue.{PairValue}
use Rattle.ep_equalities.specs.Pairs.{HasFormNumber, AreEqualIf}
use Rattle.ep_equalities.specs.Same.{are_one_offset, are_one_target, are_one_place, are_one_pointer, is_same}

-- ---- numbers in ranges of one number

pub in_single : (r : ℤ × ℤ) (z : ℤ) → is_single r ≡ true → LiesIn r z → z ≡ r.0
in_single r z h l =
    let e : r.0 ≡ r.1 = (Decides-int_eq r.0 r.1).0 h in
    let low = l.low in
    let high = l.high in
    omega (arith, ints, e, low, high)

one_offset : {N : Type 0} (D : Ops N) → Lawful D → (a b : N) (x y : ℤ) → are_one_offset D a b ≡ true
    → HoldsNumber D a x → HoldsNumber D b y → x ≡ y
one_offset D law a b x y h i j =
    let p = and_parts (is_single (D.range a)) (is_single (D.range b) && int_eq (D.range a).0 (D.range b).0) h in
    let q = and_parts (is_single (D.range b)) (int_eq (D.range a).0 (D.range b).0) p.1 in
    let e : x ≡ (D.range a).0 = in_single (D.range a) x p.0 (law.range_encloses a x i) in
    let f : y ≡ (D.range b).0 = in_single (D.range b) y q.0 (law.range_encloses b y j) in
    let g : (D.range a).0 ≡ (D.range b).0 = (Decides-int_eq (D.range a).0 (D.range b).0).0 q.1 in
    e ∙ (g ∙ sym f)

-- ---- one form

pub allowed_number : {N : Type 0} (D : Ops N) (t : IntType) (v : Option (Value N)) (x : ℤ)
    → Allows D (Int t) v false (Some (int x)) → InRange t x
allowed_number D t None x h = absurd (cc)
allowed_number D t (Some (Num n)) x h = h.0
allowed_number D t (Some (Ptr p)) x h = absurd h

of_one_form : {N : Type 0} (D : Ops N) (n : Numbers) (w : Scalar) (u v : Option (Value N)) (x y : Datum)
    → (ss : List Segment) → Allows D w u false (Some x) → Allows D w v false (Some y) → HasFormNumber n w x ss
    → HasFormNumber n w y ss → x ≡ y
of_one_form D n (Int t) u v (int x) (int y) ss h k i j =
    ap int (same_residue t x y (allowed_number D t u x h) (allowed_number D t v y k) (i ∙ sym j))
of_one_form D n (Int t) u v null y ss h k i j = absurd i
of_one_form D n (Int t) u v (pointer b q) y ss h k i j = absurd i
of_one_form D n (Int t) u v (int x) null ss h k i j = absurd j
of_one_form D n (Int t) u v (int x) (pointer b q) ss h k i j = absurd j
of_one_form D n Pointer u v x y ss h k i j = absurd i

same_form : {N : Type 0} (D : Ops N) (n : Numbers) (w : Scalar) (u v : Option (Value N)) (x y : Datum)
    → (f g : Option (List Segment)) → have_same_form f g ≡ true → Allows D w u false (Some x)
    → Allows D w v false (Some y) → IfSome f (HasFormNumber n w x) → IfSome g (HasFormNumber n w y) → x ≡ y
same_form D n w u v x y None g e h k i j = absurd (cc)
same_form D n w u v x y (Some f) None e h k i j = absurd (cc)
same_form D n w u v x y (Some f) (Some g) e h k i j =
    of_one_form D n w u v x y f h k i (subst (HasFormNumber n w y) (sym (segments_same f g e)) j)

-- ---- one number

of_one_number : {N : Type 0} (D : Ops N) → Lawful D → (w : Scalar) (a b : N) (x y : Datum)
    → are_one_offset D a b ≡ true → Allows D w (Some (Num a)) false (Some x) → Allows D w (Some (Num b)) false (Some y)
    → x ≡ y
of_one_number D law (Int t) a b (int x) (int y) e h k = ap int (one_offset D law a b x y e h.1 k.1)
of_one_number D law (Int t) a b null y e h k = absurd h
of_one_number D law (Int t) a b (pointer c q) y e h k = absurd h
of_one_number D law (Int t) a b (int x) null e h k = absurd k
of_one_number D law (Int t) a b (int x) (pointer c q) e h k = absurd k
of_one_number D law Pointer a b (int x) y e h k = absurd h
of_one_number D law Pointer a b null y e h k = absurd h
of_one_number D law Pointer a b (pointer c q) y e h k = absurd h

same_number : {N : Type 0} (D : Ops N) → Lawful D → (w : Scalar) (u v : Option (Value N)) (x y : Datum)
    → are_one_number D u v ≡ true → Allows D w u false (Some x) → Allows D w v false (Some y) → x ≡ y
same_number D law w None v x y e h k = absurd (cc)
same_number D law w (Some (Ptr p)) v x y e h k = absurd (cc)
same_number D law w (Some (Num a)) None x y e h k = absurd (cc)
same_number D law w (Some (Num a)) (Some (Ptr q)) x y e h k = absurd (cc)
same_number D law w (Some (Num a)) (Some (Num b)) x y e h k = of_one_number D law w a b x y e h k

-- ---- one pointer

nothing : {N : Type 0} (ts : List (Target N)) → list_any (λ t. true) ts ≡ false → ts ≡ []
nothing [] h = refl
nothing (t ∷ ts) h = absurd (cc)

only_null : {N : Type 0} (D : Ops N) (p : Pointers N) (x : Datum) → is_null_alone p ≡ true
    → Allows D Pointer (Some (Ptr p)) false (Some x) → x ≡ null
only_null D p (int z) h k = absurd k
only_null D p null h k = refl
only_null D p (pointer c q) h k =
    let e = and_parts p.null (not (has_targets p)) h in
    let f : p.targets ≡ [] = nothing p.targets (not-true (has_targets p) e.1) in
    absurd (subst (λ ts. IsSomeAnd (offset_at ts c) (λ n. HoldsNumber D n (pos q))) f k)

-- the block and the offset of a pointer into one target
record IsInto {N : Type 0} (D : Ops N) (s : Target N) (c q : ℕ) : Type 0 where
  block : s.0 ≡ c
  offset : HoldsNumber D s.1 (pos q)

into_if : {N : Type 0} (D : Ops N) (s : Target N) (c q : ℕ) (b : Bool) → nat_eq s.0 c ≡ b
    → IsSomeAnd (cond b (Some s.1) None) (λ n. HoldsNumber D n (pos q)) → IsInto D s c q
into_if D s c q true e h = record { block = eqb-true s.0 c e; offset = h }
into_if D s c q false e h = absurd h

into_one : {N : Type 0} (D : Ops N) (p : Pointers N) (s : Target N) (c q : ℕ) → p.targets ≡ s ∷ []
    → HoldsPointer D p (into c q) → IsInto D s c q
into_one D p s c q e h =
    into_if D s c q (nat_eq s.0 c) refl (subst (λ ts. IsSomeAnd (offset_at ts c) (λ n. HoldsNumber D n (pos q))) e h)

of_one_target : {N : Type 0} (D : Ops N) → Lawful D → (p q : Pointers N) (s t : Target N) (x y : Datum)
    → p.targets ≡ s ∷ [] → q.targets ≡ t ∷ [] → p.null ≡ false → q.null ≡ false
    → (nat_eq s.0 t.0 && are_one_offset D s.1 t.1) ≡ true → Allows D Pointer (Some (Ptr p)) false (Some x)
    → Allows D Pointer (Some (Ptr q)) false (Some y) → x ≡ y
of_one_target D law p q s t (int z) y e f i j o h k = absurd h
of_one_target D law p q s t null y e f i j o h k = absurd (cc)
of_one_target D law p q s t (pointer b a) (int z) e f i j o h k = absurd k
of_one_target D law p q s t (pointer b a) null e f i j o h k = absurd (cc)
of_one_target D law p q s t (pointer b a) (pointer d c) e f i j o h k =
    let u = into_one D p s b a e h in
    let v = into_one D q t d c f k in
    let w = and_parts (nat_eq s.0 t.0) (are_one_offset D s.1 t.1) o in
    let same_block : b ≡ d = sym u.block ∙ (eqb-true s.0 t.0 w.0 ∙ v.block) in
    let same_offset : pos a ≡ pos c = one_offset D law s.1 t.1 (pos a) (pos c) w.1 u.offset v.offset in
    let same : a ≡ c = cc in
    cc

in_one_target : {N : Type 0} (D : Ops N) → Lawful D → (p q : Pointers N) (ss ts : List (Target N)) (x y : Datum)
    → p.targets ≡ ss → q.targets ≡ ts → p.null ≡ false → q.null ≡ false → are_one_target D ss ts ≡ true
    → Allows D Pointer (Some (Ptr p)) false (Some x) → Allows D Pointer (Some (Ptr q)) false (Some y) → x ≡ y
in_one_target D law p q [] ts x y e f i j o h k = absurd (cc)
in_one_target D law p q (s ∷ []) [] x y e f i j o h k = absurd (cc)
in_one_target D law p q (s ∷ []) (t ∷ []) x y e f i j o h k = of_one_target D law p q s t x y e f i j o h k
in_one_target D law p q (s ∷ []) (t ∷ u ∷ us) x y e f i j o h k = absurd (cc)
in_one_target D law p q (s ∷ r ∷ ss) ts x y e f i j o h k = absurd (cc)

in_one_place : {N : Type 0} (D : Ops N) → Lawful D → (p q : Pointers N) (x y : Datum) → are_one_place D p q ≡ true
    → Allows D Pointer (Some (Ptr p)) false (Some x) → Allows D Pointer (Some (Ptr q)) false (Some y) → x ≡ y
in_one_place D law p q x y e h k = ⊎_elim
    (λ both. let n = and_parts (is_null_alone p) (is_null_alone q) both in
    only_null D p x n.0 h ∙ sym (only_null D q y n.1 k))
    (λ one. let n = and_parts (not p.null) (not q.null && are_one_target D p.targets q.targets) one in
    let m = and_parts (not q.null) (are_one_target D p.targets q.targets) n.1 in
    in_one_target D law p q p.targets q.targets x y refl refl (not-true p.null n.0) (not-true q.null m.0) m.1 h k)
    (or_cases (is_null_alone p && is_null_alone q) (not p.null && (not q.null && are_one_target D p.targets q.targets))
    e)

-- a pointer stands where the value is one
of_pointers : {N : Type 0} (D : Ops N) → Lawful D → (w : Scalar) (p q : Pointers N) (x y : Datum)
    → are_one_place D p q ≡ true → Allows D w (Some (Ptr p)) false (Some x) → Allows D w (Some (Ptr q)) false (Some y)
    → x ≡ y
of_pointers D law Pointer p q x y e h k = in_one_place D law p q x y e h k
of_pointers D law (Int t) p q (int z) y e h k = absurd h
of_pointers D law (Int t) p q null y e h k = absurd h
of_pointers D law (Int t) p q (pointer c o) y e h k = absurd h

same_pointer : {N : Type 0} (D : Ops N) → Lawful D → (w : Scalar) (u v : Option (Value N)) (x y : Datum)
    → are_one_pointer D u v ≡ true → Allows D w u false (Some x) → Allows D w v false (Some y) → x ≡ y
same_pointer D law w None v x y e h k = absurd (cc)
same_pointer D law w (Some u) None x y e h k = absurd (cc)
same_pointer D law w (Some (Ptr p)) (Some (Ptr q)) x y e h k = of_pointers D law w p q x y e h k
same_pointer D law w (Some (Ptr p)) (Some (Num b)) x y e h k = absurd (cc)
same_pointer D law w (Some (Num a)) (Some v) x y e h k = absurd (cc)

-- ---- pairs

pub same_values : {N : Type 0} (D : Ops N) → Lawful D → (p : PairValue N) → AreEqualIf (is_same D p) D p
same_values D law p e n w x y h =
    let l = h.left refl in
    let r = h.right refl in
    ⊎_elim (λ equal. h.equal refl equal) (λ rest. ⊎_elim
    (λ form. same_form D n w p.left.value p.right.value x y p.left.form p.right.form form l.value r.value l.form r.form)
    (λ last. ⊎_elim (λ number. same_number D law w p.left.value p.right.value x y number l.value r.value)
    (λ pointers. same_pointer D law w p.left.value p.right.value x y pointers l.value r.value)
    (or_cases (are_one_number D p.left.value p.right.value) (are_one_pointer D p.left.value p.right.value) last))
    (or_cases (have_same_form p.left.form p.right.form) (are_one_number D p.left.value p.right.value
    || are_one_pointer D p.left.value p.right.value) rest))
    (or_cases p.equal (have_same_form p.left.form p.right.form || (are_one_number D p.left.value p.right.value
    || are_one_pointer D p.left.value p.right.value)) e)
