-- What is found by looking at the cells of a list in turn.
use Rattle.std.proofs.Common.{◌≡◌, ℕ, zero, suc, ◌+◌, ◌-◌, ◌*◌, ◌<◌, ◌≤◌, Bool, true, false, ◌&&◌, ◌||◌, not, nat_eq}
use Rattle.ep_bitslice.proofs.Joining.{side_back}
use Rattle.ep_cells.proofs.Places.{side_below}
use Rattle.std.proofs.lemmas.Bool.{not-true, not_from_false}
use Rattle.std.proofs.Common.{nat_lt, nat_le, cond, ◌↔◌, ◌⊎◌, inl, inr, ⊎_elim, List, [], ◌∷◌, length, get_or, drop}
use Rattle.std.proofs.Common.{IsTrue, refl, sym, ◌∙◌, ap, subst, arith}
use Rattle.std.specs.List.Sorted.{IsPartitionedBy, IsPartitionPoint}
use Rattle.std.proofs.lemmas.List.{length-drop}
use Rattle.std.proofs.lemmas.Bool.{and_from, and_parts, and_left, and_right, leb-true, ltb-true, or_left, or_right}
use Rattle.std.proofs.lemmas.Bool.{or_cases, both_ways, eqb-true, eq-eqb, ne_eqb, le-ltb, cases_order}
use Rattle.ep_int.specs.declared.types.Model.{Model}
use Rattle.ep_int.specs.declared.types.Scalar.TheVariants.{Int}
use Rattle.ep_int.specs.Types.{size_of}
use Rattle.ep_bitslice.specs.declared.cell.CellName.{CellName}
use Rattle.ep_bitslice.specs.declared.segment.Segment.{Segment}
use Rattle.ep_bitslice.specs.declared.segment.Segment.TheVariants.{Bits, Fixed}
use Rattle.ep_bitslice.specs.Bits.{side_number, mentions}
use Rattle.ep_bitslice.specs.Segments.{run_bits, fixed_bits, bits, width, AreSegments, IsForm}
use Rattle.ep_bitslice.proofs.Joining.{same_cell, cell_itself}
use Rattle.ep_bitslice.proofs.Pieces.{mentions-fixed, mentions-run, mentions-append}
use Rattle.ep_cells.specs.declared.cell.Cell.{Cell}
use Rattle.ep_cells.specs.Cells.{place_of, touches, share_memory, key_of, is_same_side, is_same_scalar, scalar_number}
use Rattle.ep_cells.specs.Cells.{IsNamed, IsIn, first, later, put, put_all}
use Rattle.ep_cells.specs.declared.place.ByteRange.{ByteRange}
use Rattle.ep_cells.specs.States.{IsCell, HasWidth, IsFormOf, HasForm, IsThere, Each, EachPair, AreApart, AreCells}
use Rattle.ep_cells.proofs.Lists.{each_at, each_from}
use Rattle.ep_cells.proofs.Places.{before_at, Before, in_block, by_block, before_true, before_from}
use Rattle.ep_cells.proofs.Places.{before_trans}
use Rattle.ep_cells.proofs.Both.{scalar_same}
use Rattle.ep_cell_changes.proofs.Turns.{next_cell}
use Rattle.ep_cell_changes.specs.Tests.{IsBefore, AreInOrder, is_before_name, is_sure_cell, AreThere}

-- ---- what holds of each

each_more : {N : Type 0} (P Q : Cell N → Type 0) (cs : List (Cell N)) → ((y : Cell N) → P y → Q y) → Each P cs → Each Q cs
each_more P Q [] h e = tt
each_more P Q (c ∷ cs) h e = (h c e.0, each_more P Q cs h e.1)

each_nth : {N : Type 0} (P : Cell N → Type 0) (cs : List (Cell N)) (j : ℕ) (d : Cell N) → Each P cs → j < length cs
    → P (get_or cs j d)
each_nth P [] j d e h = absurd (omega arith)
each_nth P (c ∷ cs) zero d e h = e.0
each_nth P (c ∷ cs) (suc j) d e h = each_nth P cs j d e.1 (omega arith)

-- ---- order

order_trans : {N : Type 0} (x y z : Cell N) → IsBefore x y → IsBefore y z → IsBefore x z
order_trans x y z h k =
    before_from x.block (key_of x) z.block (key_of z)
    (before_trans x.block (key_of x) y.block (key_of y) z.block (key_of z) (before_true x.block (key_of x) y.block
    (key_of y) h) (before_true y.block (key_of y) z.block (key_of z) k))

-- one cell more in front
order_more : {N : Type 0} (c x : Cell N) (cs : List (Cell N)) → IsBefore c x → AreInOrder (x ∷ cs)
    → AreInOrder (c ∷ x ∷ cs)
order_more c x cs h a = ((h, each_more (IsBefore x) (IsBefore c) cs (λ y k. order_trans c x y h k) a.0), a)

pub nth_before : {N : Type 0} (cs : List (Cell N)) (i j : ℕ) (d : Cell N) → AreInOrder cs → i < j → j < length cs
    → IsBefore (get_or cs i d) (get_or cs j d)
nth_before [] i j d a h l = absurd (omega arith)
nth_before (c ∷ cs) i zero d a h l = absurd (omega arith)
nth_before (c ∷ cs) zero (suc j) d a h l = each_nth (IsBefore c) cs j d a.0 (omega arith)
nth_before (c ∷ cs) (suc i) (suc j) d a h l = nth_before cs i j d a.1 (omega arith) (omega arith)

-- ---- overlaps

-- y begins where x ends, or later
abbrev pub IsPast : {N : Type 0} → Model → Cell N → Cell N → Type 0
IsPast d x y = (x.block ≡ y.block → ⊥) ⊎ (x.offset + size_of d x.what ≤ y.offset)

past_from : {N : Type 0} (d : Model) (x y : Cell N)
    → (not (nat_eq x.block y.block) || nat_le (x.offset + size_of d x.what) y.offset) ≡ true → IsPast d x y
past_from d x y h =
    ⊎_elim
    (λ e. inl (λ f. both_ways (nat_eq x.block y.block) (not_true (nat_eq x.block y.block) e) (eq-eqb x.block y.block f)))
    (λ e. inr (leb-true (x.offset + size_of d x.what) y.offset e))
    (or_cases (not (nat_eq x.block y.block)) (nat_le (x.offset + size_of d x.what) y.offset) h)
  where
    not_true : (b : Bool) → not b ≡ true → b ≡ false
    not_true true h = absurd (cc)
    not_true false h = refl

-- the cell after one that is past x is past x
past_more : {N : Type 0} (d : Model) (x y z : Cell N) → IsBefore x y → IsBefore y z → IsPast d x y → IsPast d x z
past_more d x y z h k p =
    by (before_true x.block (key_of x) y.block (key_of y) h) (before_true y.block (key_of y) z.block (key_of z) k) p
  where
    by : Before x.block (key_of x) y.block (key_of y) → Before y.block (key_of y) z.block (key_of z) → IsPast d x y
        → IsPast d x z
    by (by_block l) (by_block m) p = inl (λ e. omega arith)
    by (by_block l) (in_block f m) p = inl (λ e. omega arith)
    by (in_block e l) (by_block m) p = inl (λ f. omega arith)
    by (in_block e l) (in_block f m) p =
        ⊎_elim (λ far. absurd (far e)) (λ past. inr (omega (arith, side_below y.side, side_below z.side))) p

past_apart : {N : Type 0} (d : Model) (x y : Cell N) → IsBefore x y → IsPast d x y → AreApart d x y
past_apart d x y h p = record {
  ordered = h;
  apart = and_right (share_memory x.side y.side) (touches (place_of d x) (place_of d y)) (⊎_elim
      (λ far. and_left (nat_eq x.block y.block) (nat_lt x.offset (y.offset + size_of d y.what) && nat_lt y.offset
      (x.offset + size_of d x.what)) (ne_eqb x.block y.block far))
      (λ past. and_right (nat_eq x.block y.block) (nat_lt x.offset (y.offset + size_of d y.what) && nat_lt y.offset
      (x.offset + size_of d x.what)) (and_right (nat_lt x.offset (y.offset + size_of d y.what)) (nat_lt y.offset
      (x.offset + size_of d x.what)) (le-ltb y.offset (x.offset + size_of d x.what) past)))
      p);
}

-- and so are all after it
all_past : {N : Type 0} (d : Model) (x y : Cell N) (cs : List (Cell N)) → IsBefore x y → Each (IsBefore y) cs
    → IsPast d x y → Each (AreApart d x) cs
all_past d x y [] h a p = tt
all_past d x y (z ∷ cs) h a p = (
  past_apart d x z (order_trans x y z h a.0) (past_more d x y z h a.0 p),
  all_past d x y cs h a.1 p,
)

pub past_ends : {N : Type 0} (d : Model) (A : Type 0) (x y : Cell N) (rest xs : List (Cell N)) → xs ≡ y ∷ rest
    → AreInOrder (x ∷ xs) → IsPast d x y → (Each (AreApart d x) xs ↔ A) → IsTrue true ↔ A
past_ends d A x y rest xs e o p h =
    let a = subst (λ z. AreInOrder (x ∷ z)) e o in
    (λ f. h.0 (subst (Each (AreApart d x)) (sym e) (past_apart d x y a.0.0 p, all_past d x y rest a.0.0 a.1.0 p)), λ b. refl)

-- ---- the cell of a name

sure_from : {N : Type 0} (n : CellName) (c : Cell N) → IsNamed n c → c.maybe ≡ false → is_sure_cell n c ≡ true
sure_from n c k m =
    and_from (is_same_side c.side n.side && nat_eq c.block n.block)
    ((nat_eq c.offset n.offset && is_same_scalar c.what (Int n.t)) && not c.maybe)
    (and_from (is_same_side c.side n.side) (nat_eq c.block n.block) (eq-eqb (side_number c.side) (side_number n.side)
    (ap side_number k.side)) (eq-eqb c.block n.block k.block))
    (and_from (nat_eq c.offset n.offset && is_same_scalar c.what (Int n.t)) (not c.maybe)
    (and_from (nat_eq c.offset n.offset) (is_same_scalar c.what (Int n.t)) (eq-eqb c.offset n.offset k.offset)
    (eq-eqb (scalar_number c.what) (scalar_number (Int n.t)) (ap scalar_number k.what)))
    (ap not m))

pub named_from : {N : Type 0} (n : CellName) (c : Cell N) (cs : List (Cell N)) → IsIn c cs → is_sure_cell n c ≡ true
    → IsThere n cs
named_from n c cs i h =
    let p = and_parts (is_same_side c.side n.side && nat_eq c.block n.block)
    ((nat_eq c.offset n.offset && is_same_scalar c.what (Int n.t)) && not c.maybe) h in
    let q = and_parts (is_same_side c.side n.side) (nat_eq c.block n.block) p.0 in
    let r = and_parts (nat_eq c.offset n.offset && is_same_scalar c.what (Int n.t)) (not c.maybe) p.1 in
    let t = and_parts (nat_eq c.offset n.offset) (is_same_scalar c.what (Int n.t)) r.0 in
    record {
      cell = c;
      is_in = i;
      named = record {
        side = side_back c.side n.side (eqb-true (side_number c.side) (side_number n.side) q.0);
        block = eqb-true c.block n.block q.1;
        offset = eqb-true c.offset n.offset t.0;
        what = scalar_same c.what (Int n.t) t.1;
      };
      sure = not-true c.maybe r.1;
    }

nth_in : {N : Type 0} (cs : List (Cell N)) (j : ℕ) (d : Cell N) → j < length cs → IsIn (get_or cs j d) cs
nth_in [] j d h = absurd (omega arith)
nth_in (c ∷ cs) zero d h = first cs
nth_in (c ∷ cs) (suc j) d h = later c cs (nth_in cs j d (omega arith))

record IsAt {N : Type 0} (c : Cell N) (cs : List (Cell N)) (d : Cell N) : Type 0 where
  place : ℕ
  within : place < length cs
  is : get_or cs place d ≡ c

place_in : {N : Type 0} (c d : Cell N) (cs : List (Cell N)) → IsIn c cs → IsAt c cs d
place_in c d _ (first cs) = record { place = zero; within = omega arith; is = refl }
place_in c d _ (later x cs k) =
    let p = place_in c d cs k in record { place = suc p.place; within = omega (arith, p.within); is = p.is }

-- where a cell begins as a name does, the same cells come before it
before_alike : {N : Type 0} (n : CellName) (x c : Cell N) → IsNamed n c → IsBefore x c → is_before_name n x ≡ true
before_alike n x c k h =
    subst (λ b. before_at x.block (key_of x) b (3 * n.offset + side_number n.side) ≡ true) k.block
    (subst (λ q. before_at x.block (key_of x) c.block (3 * q + side_number n.side) ≡ true) k.offset
    (subst (λ s. before_at x.block (key_of x) c.block (3 * c.offset + side_number s) ≡ true) k.side h))

not_itself : {N : Type 0} (n : CellName) (c : Cell N) → IsNamed n c → is_before_name n c ≡ true → ⊥
not_itself n c k h =
    let same : 3 * c.offset + side_number c.side ≡ 3 * n.offset + side_number n.side =
    ap (λ q. 3 * q + side_number c.side) k.offset ∙ ap (λ s. 3 * n.offset + side_number s) k.side in
    by (before_true c.block (key_of c) n.block (3 * n.offset + side_number n.side) h) same k.block
  where
    by : {b j e i : ℕ} → Before b j e i → j ≡ i → b ≡ e → ⊥
    by (in_block e l) f g = omega arith
    by (by_block l) f g = omega arith

before_by : {N : Type 0} (n : CellName) (x y : Cell N) → IsBefore x y → is_before_name n y ≡ true
    → is_before_name n x ≡ true
before_by n x y h k =
    let m = 3 * n.offset + side_number n.side in
    before_from x.block (key_of x) n.block m
    (before_trans x.block (key_of x) y.block (key_of y) n.block m (before_true x.block (key_of x) y.block (key_of y) h)
    (before_true y.block (key_of y) n.block m k))

-- cells that come before a name stand before those that don't
pub parted : {N : Type 0} (n : CellName) (cs : List (Cell N)) → AreInOrder cs → IsPartitionedBy (is_before_name n) cs
parted n cs a i j d le h t = by (cases_order i j)
  where
    by : (i ≡ j) ⊎ ((i < j) ⊎ (j < i)) → is_before_name n (get_or cs i d) ≡ true
    by o = ⊎_elim (λ e. subst (λ k. is_before_name n (get_or cs k d) ≡ true) (sym e) t)
        (λ p. ⊎_elim (λ l. before_by n (get_or cs i d) (get_or cs j d) (nth_before cs i j d a l h) t) (λ l. absurd (omega
        arith)) p) o

found_there : {N : Type 0} (n : CellName) (cs : List (Cell N)) (i : ℕ) (d : Cell N) → i < length cs
    → is_sure_cell n (get_or cs i d) ≡ true → IsThere n cs
found_there n cs i d h e = named_from n (get_or cs i d) cs (nth_in cs i d h) e

-- the cell of a name is the first that doesn't come before it
there_found : {N : Type 0} (n : CellName) (cs : List (Cell N)) (i : ℕ) (d : Cell N) → AreInOrder cs → i ≤ length cs
    → IsPartitionPoint (λ c. is_before_name n c ≡ true) (λ c. is_before_name n c ≡ false) cs i → IsThere n cs
    → (i < length cs) × (is_sure_cell n (get_or cs i d) ≡ true)
there_found n cs i d a l point t =
    let p = place_in t.cell d cs t.is_in in
    let found : is_before_name n (get_or cs p.place d) ≡ true → ⊥ =
    λ e. not_itself n t.cell t.named (subst (λ c. is_before_name n c ≡ true) p.is e) in
    ⊎_elim
    (λ same. (
      omega (arith, p.within, same),
      subst (λ k. is_sure_cell n (get_or cs k d) ≡ true) (sym same)
          (subst (λ c. is_sure_cell n c ≡ true) (sym p.is) (sure_from n t.cell t.named t.sure)),
    ))
    (λ o.
    ⊎_elim
    (λ before.
    let first : IsBefore (get_or cs i d) t.cell = subst (λ c. IsBefore (get_or cs i d) c) p.is (nth_before cs i p.place
    d a before p.within) in
    absurd (both_ways (is_before_name n (get_or cs i d)) (point.1 i d (omega arith) (omega (arith, p.within)))
    (before_alike n (get_or cs i d) t.cell t.named first)))
    (λ after. absurd (found (point.0 p.place d (omega arith) after)))
    o)
    (cases_order i p.place)

-- ---- forms

pub there_all : {N : Type 0} (cs : List (Cell N)) (ss : List Segment) → AreSegments ss → AreThere cs ss → (n : CellName)
    → mentions n (bits ss) ≡ true → IsThere n cs
there_all cs [] a t n h = absurd (cc)
there_all cs (Bits c from to ∷ ss) a t n h =
    ⊎_elim
    (λ e. subst (λ z. IsThere z cs) (same_cell c n (sym (mentions-run n c from (to - from) (omega (arith, a.0.0))) ∙ e))
    t.0)
    (λ e. there_all cs ss a.1 t.1 n e)
    (or_cases (mentions n (run_bits c from (to - from))) (mentions n (bits ss)) (sym (mentions-append n (run_bits c from
    (to - from)) (bits ss)) ∙ h))
there_all cs (Fixed v w ∷ ss) a t n h =
    ⊎_elim
    (λ e. absurd (both_ways (mentions n (fixed_bits w v)) (mentions-fixed n w v) e))
    (λ e. there_all cs ss a.1 t n e)
    (or_cases (mentions n (fixed_bits w v)) (mentions n (bits ss)) (sym (mentions-append n (fixed_bits w v) (bits ss))
    ∙ h))

all_there : {N : Type 0} (cs : List (Cell N)) (ss : List Segment) → AreSegments ss
    → ((n : CellName) → mentions n (bits ss) ≡ true → IsThere n cs) → AreThere cs ss
all_there cs [] a h = tt
all_there cs (Bits c from to ∷ ss) a h = (
  h c (mentions-append c (run_bits c from (to - from)) (bits ss) ∙ or_left (mentions c (run_bits c from (to - from)))
      (mentions c (bits ss)) (mentions-run c c from (to - from) (omega (arith, a.0.0)) ∙ cell_itself c)),
  all_there cs ss a.1 (λ n e. h n (mentions-append n (run_bits c from (to - from)) (bits ss) ∙ or_right (mentions n
      (run_bits c from (to - from))) (mentions n (bits ss)) e)),
)
all_there cs (Fixed v w ∷ ss) a h =
    all_there cs ss a.1 (λ n e. h n (mentions-append n (fixed_bits w v) (bits ss) ∙ or_right (mentions n (fixed_bits w
    v)) (mentions n (bits ss)) e))

-- ---- all

cells_from_tests : {N : Type 0} (d : Model) (cs : List (Cell N)) → Each (IsCell d) cs → EachPair (AreApart d) cs
    → Each (HasForm cs) cs → AreCells d cs
cells_from_tests d cs each pairs forms = record {
  each = λ c h. each_at (IsCell d) c cs each h;
  pairs = pairs;
  forms = λ c h. each_at (HasForm cs) c cs forms h;
}

each_of : {N : Type 0} (d : Model) (cs : List (Cell N)) → AreCells d cs → Each (IsCell d) cs
each_of d cs a = each_from (IsCell d) cs a.each

forms_of : {N : Type 0} (d : Model) (cs : List (Cell N)) → AreCells d cs → Each (HasForm cs) cs
forms_of d cs a = each_from (HasForm cs) cs a.forms

pub order_of : {N : Type 0} (d : Model) (cs : List (Cell N)) → EachPair (AreApart d) cs → AreInOrder cs
order_of d [] a = tt
order_of d (c ∷ cs) a = (each_more (AreApart d c) (IsBefore c) cs (λ y h. h.ordered) a.0, order_of d cs a.1)

-- ---- the code's turns

pub order_turn : {N : Type 0} (A : Type 0) (cs : List (Cell N)) (i : ℕ) (c x : Cell N) → 1 ≤ i → i < length cs
    → c ≡ get_or cs (i - 1) c → x ≡ get_or cs i x → IsBefore c x → (AreInOrder (drop (i - 1) cs) ↔ A)
    → AreInOrder (drop (i + 1 - 1) cs) ↔ A
order_turn A cs i c x lo hi e f b h =
    let here : drop i cs ≡ x ∷ drop (i + 1) cs = next_cell cs i x hi f in
    let back : i - 1 + 1 ≡ i = omega arith in
    let behind : drop (i - 1) cs ≡ c ∷ drop i cs =
    next_cell cs (i - 1) c (omega arith) e ∙ ap (λ k. c ∷ drop k cs) back in
    let same : i + 1 - 1 ≡ i = omega arith in
    subst (λ k. AreInOrder (drop k cs) ↔ A) (sym same) (
      λ a. h.0 (subst AreInOrder (sym behind) (subst (λ z. AreInOrder (c ∷ z)) (sym here) (order_more c x (drop (i + 1) cs) b
          (subst AreInOrder here a)))),
      λ a. (subst AreInOrder behind (h.1 a)).1,
    )

short_order : {N : Type 0} (xs : List (Cell N)) → length xs ≤ 1 → AreInOrder xs
short_order [] h = tt
short_order (x ∷ []) h = (tt, tt)
short_order (x ∷ y ∷ xs) h = absurd (omega arith)

pub order_ends : {N : Type 0} (A : Type 0) (cs : List (Cell N)) (i : ℕ) → length cs ≤ i
    → (AreInOrder (drop (i - 1) cs) ↔ A) → IsTrue true ↔ A
order_ends A cs i l h =
    let few = length-drop (i - 1) cs in
    (λ f. h.0 (short_order (drop (i - 1) cs) (omega (arith, few))), λ a. refl)

pub there_is : {N : Type 0} (n : CellName) (cs : List (Cell N)) (i : ℕ) (x : Cell N) (r : Bool) → AreInOrder cs
    → i ≤ length cs
    → IsPartitionPoint (λ c. is_before_name n c ≡ true) (λ c. is_before_name n c ≡ false) cs i → i < length cs
    → x ≡ get_or cs i x → r ≡ is_sure_cell n x → IsTrue r ↔ IsThere n cs
there_is n cs i x r a w point l e s =
    let at : r ≡ is_sure_cell n (get_or cs i x) = s ∙ ap (is_sure_cell n) e in
    (λ h. found_there n cs i x l (sym at ∙ h), λ t. at ∙ (there_found n cs i x a w point t).1)

pub not_there : {N : Type 0} (n : CellName) (cs : List (Cell N)) (i : ℕ) → AreInOrder cs → i ≤ length cs
    → IsPartitionPoint (λ c. is_before_name n c ≡ true) (λ c. is_before_name n c ≡ false) cs i → length cs ≤ i
    → IsTrue (nat_lt i (length cs)) ↔ IsThere n cs
not_there n cs i a w point l = (
  λ h. absurd (omega (arith, ltb-true i (length cs) h)),
  λ t. absurd (omega (arith, (there_found n cs i t.cell a w point t).0)),
)

pub past_at : {N : Type 0} (d : Model) (x y : Cell N) (p : ByteRange) (r : Bool) → p ≡ place_of d x
    → r ≡ (not (nat_eq p.block y.block) || nat_le (p.offset + p.bytes) y.offset) → r ≡ true → IsPast d x y
past_at d x y p r e f h =
    past_from d x y (subst (λ (z : ByteRange). (not (nat_eq z.block y.block) || nat_le (z.offset + z.bytes) y.offset) ≡ true) e
    (sym f ∙ h))

pub form_is : {N : Type 0} (cs : List (Cell N)) (c : Cell N) (ss sg : List Segment) (k : ℕ) (w t : Bool) → IsForm ss
    → k ≡ width ss → sg ≡ ss → (IsTrue w ↔ HasWidth c.what k) → (IsTrue t ↔ AreThere cs sg)
    → IsTrue ((not c.maybe && w) && t) ↔ IsFormOf cs c ss
form_is cs c ss sg k w t f e s hw ht = (
  λ h.
      let p = and_parts (not c.maybe && w) t h in
      let q = and_parts (not c.maybe) w p.0 in
      record {
        sure = not-true c.maybe q.0;
        wide = subst (HasWidth c.what) e (hw.0 q.1);
        form = f;
        mentioned = there_all cs ss f.segments (subst (AreThere cs) s (ht.0 p.1));
      },
  λ a.
      and_from (not c.maybe && w) t
      (and_from (not c.maybe) w (not_from_false c.maybe a.sure) (hw.1 (subst (HasWidth c.what) (sym e) a.wide)))
      (ht.1 (subst (AreThere cs) (sym s) (all_there cs ss f.segments a.mentioned))),
)

pub no_cells : {N : Type 0} (d : Model) (cs : List (Cell N)) (r : Bool) → (IsTrue r ↔ AreInOrder cs) → r ≡ false
    → IsTrue false ↔ AreCells d cs
no_cells d cs r h f = (λ e. absurd (cc), λ a. absurd (both_ways r f (h.1 (order_of d cs a.pairs))))

pub cells_are : {N : Type 0} (d : Model) (cs : List (Cell N)) (a p f : Bool) → (IsTrue a ↔ Each (IsCell d) cs)
    → (IsTrue p ↔ EachPair (AreApart d) cs) → (IsTrue f ↔ Each (HasForm cs) cs) → IsTrue ((a && p) && f) ↔ AreCells d cs
cells_are d cs a p f ha hp hf = (
  λ h.
      let x = and_parts (a && p) f h in
      let y = and_parts a p x.0 in
      cells_from_tests d cs (ha.0 y.0) (hp.0 y.1) (hf.0 x.1),
  λ k. and_from (a && p) f (and_from a p (ha.1 (each_of d cs k)) (hp.1 k.pairs)) (hf.1 (forms_of d cs k)),
)

put_first : {N : Type 0} (c : Cell N) (cs : List (Cell N)) → Each (IsBefore c) cs → put c cs ≡ c ∷ cs
put_first c [] h = refl
put_first c (x ∷ cs) h = ap (λ b. cond b (c ∷ x ∷ cs) (x ∷ put c cs)) h.0

pub put_in_order : {N : Type 0} (cs : List (Cell N)) → AreInOrder cs → put_all cs [] ≡ cs
put_in_order [] h = refl
put_in_order (c ∷ cs) h = ap (put c) (put_in_order cs h.1) ∙ put_first c cs h.0
