-- Cells of a list in order, and a window of it.
use Rattle.std.proofs.Common.{◌≡◌, ℕ, zero, suc, ◌+◌, ◌-◌, ◌<◌, ◌≤◌, Bool, true, false, ◌&&◌, ◌||◌, nat_eq, nat_lt}
use Rattle.ep_cells.proofs.Places.{side_below}
use Rattle.std.proofs.Common.{cond, ◌⊎◌, ⊎_elim, List, [], ◌∷◌, ◌++◌, length, get_or, take, drop, Option, Some, None}
use Rattle.std.proofs.Common.{refl, sym, ◌∙◌, ap, subst, arith}
use Rattle.std.specs.List.{list_any}
use Rattle.std.specs.List.Sorted.{IsPartitionedBy, IsPartitionPoint}
use Rattle.std.proofs.lemmas.List.{take-append-drop}
use Rattle.std.proofs.lemmas.Bool.{and_parts, and_from, ltb-true, eqb-true, eq-eqb, or_left, or_right, or_cases}
use Rattle.std.proofs.lemmas.Bool.{both_ways, lt-ltb, cases_order}
use Rattle.ep_int.specs.declared.types.Model.{Model}
use Rattle.ep_int.specs.Types.{size_of}
use Rattle.ep_layout.proofs.Sizes.{size_of_scalar}
use Rattle.ep_bitslice.specs.declared.cell.Side.{Side}
use Rattle.ep_cells.specs.declared.cell.Cell.{Cell}
use Rattle.ep_cells.specs.declared.place.ByteRange.{ByteRange}
use Rattle.ep_cells.specs.Cells.{place_of, key_of, meets, touches, share_memory, is_same_cell, is_same_place}
use Rattle.ep_cells.specs.Cells.{is_same_side, is_same_scalar}
use Rattle.ep_cells.specs.Both.{cell_like}
use Rattle.ep_cells.specs.Reshare.{cell_from}
use Rattle.ep_cells.specs.States.{Each}
use Rattle.ep_cells.proofs.Places.{Before, by_block, in_block, before_true}
use Rattle.ep_cell_changes.specs.Tests.{IsBefore, AreInOrder}
use Rattle.ep_cell_changes.specs.Begins.{begins_before, BeginsIn, IsOutside, IsWindow}
use Rattle.ep_cell_changes.proofs.Checked.{nth_before}

-- ---- the order parts a list

-- a cell before one that begins before an offset does so too
earlier : {N : Type 0} (b q : ℕ) (x y : Cell N) → IsBefore x y → begins_before b q y ≡ true → begins_before b q x ≡ true
earlier b q x y h k =
    by (before_true _ _ _ _ h) (or_cases (nat_lt y.block b) (nat_eq y.block b && nat_lt y.offset q) k)
  where
    less : x.block < b → begins_before b q x ≡ true
    less l = or_left (nat_lt x.block b) (nat_eq x.block b && nat_lt x.offset q) (lt-ltb x.block b l)

    there : x.block ≡ b → x.offset < q → begins_before b q x ≡ true
    there e l =
        or_right (nat_lt x.block b) (nat_eq x.block b && nat_lt x.offset q)
        (and_from (nat_eq x.block b) (nat_lt x.offset q) (eq-eqb x.block b e) (lt-ltb x.offset q l))

    by : Before x.block (key_of x) y.block (key_of y) → (nat_lt y.block b ≡ true) ⊎ ((nat_eq y.block b && nat_lt y.offset q) ≡ true)
        → begins_before b q x ≡ true
    by (by_block l) o =
        ⊎_elim (λ e. less (omega (arith, ltb-true y.block b e)))
        (λ e. let p = and_parts (nat_eq y.block b) (nat_lt y.offset q) e in
        less (omega (arith, eqb-true y.block b p.0))) o
    by (in_block f l) o =
        ⊎_elim (λ e. less (omega (arith, ltb-true y.block b e)))
        (λ e. let p = and_parts (nat_eq y.block b) (nat_lt y.offset q) e in
        there (omega (arith, eqb-true y.block b p.0)) (omega (arith, ltb-true y.offset q p.1, side_below x.side, side_below y.side))) o

pub is_parted : {N : Type 0} (b q : ℕ) (cs : List (Cell N)) → AreInOrder cs → IsPartitionedBy (begins_before b q) cs
is_parted b q cs a i j d le h t = by (cases_order i j)
  where
    by : (i ≡ j) ⊎ ((i < j) ⊎ (j < i)) → begins_before b q (get_or cs i d) ≡ true
    by o = ⊎_elim (λ e. subst (λ k. begins_before b q (get_or cs k d) ≡ true) (sym e) t)
        (λ p. ⊎_elim (λ l. earlier b q (get_or cs i d) (get_or cs j d) (nth_before cs i j d a l h) t) (λ l. absurd (omega
        arith)) p) o

pub order_drop : {N : Type 0} (cs : List (Cell N)) (n : ℕ) → AreInOrder cs → AreInOrder (drop n cs)
order_drop [] zero a = a
order_drop [] (suc n) a = a
order_drop (c ∷ cs) zero a = a
order_drop (c ∷ cs) (suc n) a = order_drop cs n a.1

-- ---- the parts

each_take : {N : Type 0} (P : Cell N → Type 0) (cs : List (Cell N)) (n : ℕ)
    → ((j : ℕ) (d : Cell N) → zero ≤ j → j < n → P (get_or cs j d)) → n ≤ length cs → Each P (take n cs)
each_take P [] zero h l = tt
each_take P [] (suc n) h l = absurd (omega arith)
each_take P (c ∷ cs) zero h l = tt
each_take P (c ∷ cs) (suc n) h l = (
  h zero c (omega arith) (omega arith),
  each_take P cs n (λ j d a b. h (suc j) d (omega arith) (omega arith)) (omega arith),
)

each_drop : {N : Type 0} (P : Cell N → Type 0) (cs : List (Cell N)) (n : ℕ)
    → ((j : ℕ) (d : Cell N) → n ≤ j → j < length cs → P (get_or cs j d)) → Each P (drop n cs)
each_drop P [] zero h = tt
each_drop P [] (suc n) h = tt
each_drop P (c ∷ cs) zero h = (
  h zero c (omega arith) (omega arith),
  each_drop P cs zero (λ j d a b. h (suc j) d (omega arith) (omega arith)),
)
each_drop P (c ∷ cs) (suc n) h = each_drop P cs n (λ j d a b. h (suc j) d (omega arith) (omega arith))

too_early : {N : Type 0} (b low high : ℕ) (c : Cell N) → begins_before b low c ≡ true → IsOutside b low high c
too_early b low high c h i =
    ⊎_elim (λ e. absurd (omega (arith, ltb-true c.block b e, i.block)))
    (λ e. absurd (omega (arith, ltb-true c.offset low (and_parts (nat_eq c.block b) (nat_lt c.offset low) e).1, i.low)))
    (or_cases (nat_lt c.block b) (nat_eq c.block b && nat_lt c.offset low) h)

too_late : {N : Type 0} (b low high : ℕ) (c : Cell N) → begins_before b high c ≡ false → IsOutside b low high c
too_late b low high c h i =
    absurd (both_ways (begins_before b high c) h (or_right (nat_lt c.block b) (nat_eq c.block b && nat_lt c.offset high)
    (and_from (nat_eq c.block b) (nat_lt c.offset high) (eq-eqb c.block b i.block) (lt-ltb c.offset high i.high))))

pub window_is : {N : Type 0} (b low high n m : ℕ) (cs rest ws : List (Cell N)) → n ≤ length cs
    → IsPartitionPoint (λ c. begins_before b low c ≡ true) (λ c. begins_before b low c ≡ false) cs n
    → rest ≡ drop n cs → m ≤ length rest
    → IsPartitionPoint (λ c. begins_before b high c ≡ true) (λ c. begins_before b high c ≡ false) rest m
    → ws ≡ take m rest → IsWindow b low high cs ws
window_is b low high n m cs rest ws ln p er lm q ew = record {
  before = take n cs;
  after = drop m rest;
  all = sym (ap (λ z. take n cs ++ (z ++ drop m rest)) ew ∙ ap (λ z. take n cs ++ z) (take-append-drop m rest ∙ er)
      ∙ take-append-drop n cs);
  none_before = each_take (IsOutside b low high) cs n (λ j d x y. too_early b low high (get_or cs j d) (p.0 j d x y)) ln;
  none_after = each_drop (IsOutside b low high) rest m (λ j d x y. too_late b low high (get_or rest j d) (q.1 j d x y));
}

-- ---- what is found in a window is what is found in the list

none_of : {N : Type 0} (f : Cell N → Bool) (P : Cell N → Type 0) (xs ys : List (Cell N)) → ((y : Cell N) → f y ≡ true → P y)
    → Each (λ y. P y → ⊥) xs → list_any f (xs ++ ys) ≡ list_any f ys
none_of f P [] ys h e = refl
none_of f P (x ∷ xs) ys h e = at (f x) refl (none_of f P xs ys h e.1)
  where
    at : (t : Bool) → f x ≡ t → list_any f (xs ++ ys) ≡ list_any f ys → (f x || list_any f (xs ++ ys)) ≡ list_any f ys
    at true k r = absurd (e.0 (h x k))
    at false k r = ap (λ t. t || list_any f (xs ++ ys)) k ∙ r

none_behind : {N : Type 0} (f : Cell N → Bool) (P : Cell N → Type 0) (xs ys : List (Cell N))
    → ((y : Cell N) → f y ≡ true → P y) → Each (λ y. P y → ⊥) ys → list_any f (xs ++ ys) ≡ list_any f xs
none_behind f P [] [] h e = refl
none_behind f P [] (y ∷ ys) h e = at (f y) refl (none_behind f P [] ys h e.1)
  where
    at : (t : Bool) → f y ≡ t → list_any f ys ≡ false → (f y || list_any f ys) ≡ false
    at true k r = absurd (e.0 (h y k))
    at false k r = ap (λ t. t || list_any f ys) k ∙ r
none_behind f P (x ∷ xs) ys h e = ap (λ t. f x || t) (none_behind f P xs ys h e)

pub any_there : {N : Type 0} (f : Cell N → Bool) (b low high : ℕ) (cs ws : List (Cell N)) → IsWindow b low high cs ws
    → ((y : Cell N) → f y ≡ true → BeginsIn b low high y) → list_any f ws ≡ list_any f cs
any_there f b low high cs ws w h =
    sym (ap (list_any f) w.all ∙ none_of f (BeginsIn b low high) w.before (ws ++ w.after) h w.none_before
    ∙ none_behind f (BeginsIn b low high) ws w.after h w.none_after)

-- the first cell that passes a test
abbrev seek : {N : Type 0} → (Cell N → Bool) → List (Cell N) → Option (Cell N)
seek f [] = None
seek f (c ∷ cs) = cond (f c) (Some c) (seek f cs)

seek_behind : {N : Type 0} (f : Cell N → Bool) (P : Cell N → Type 0) (ys : List (Cell N)) → ((y : Cell N) → f y ≡ true → P y)
    → Each (λ y. P y → ⊥) ys → seek f ys ≡ None
seek_behind f P [] h e = refl
seek_behind f P (y ∷ ys) h e = at (f y) refl (seek_behind f P ys h e.1)
  where
    at : (t : Bool) → f y ≡ t → seek f ys ≡ None → cond (f y) (Some y) (seek f ys) ≡ None
    at true k r = absurd (e.0 (h y k))
    at false k r = ap (λ t. cond t (Some y) (seek f ys)) k ∙ r

seek_before : {N : Type 0} (f : Cell N → Bool) (P : Cell N → Type 0) (xs ys : List (Cell N))
    → ((y : Cell N) → f y ≡ true → P y) → Each (λ y. P y → ⊥) xs → seek f (xs ++ ys) ≡ seek f ys
seek_before f P [] ys h e = refl
seek_before f P (x ∷ xs) ys h e = at (f x) refl (seek_before f P xs ys h e.1)
  where
    at : (t : Bool) → f x ≡ t → seek f (xs ++ ys) ≡ seek f ys → cond (f x) (Some x) (seek f (xs ++ ys)) ≡ seek f ys
    at true k r = absurd (e.0 (h x k))
    at false k r = ap (λ t. cond t (Some x) (seek f (xs ++ ys))) k ∙ r

seek_ends : {N : Type 0} (f : Cell N → Bool) (xs ys : List (Cell N)) → seek f ys ≡ None → seek f (xs ++ ys) ≡ seek f xs
seek_ends f [] ys h = h
seek_ends f (x ∷ xs) ys h = ap (cond (f x) (Some x)) (seek_ends f xs ys h)

seek_there : {N : Type 0} (f : Cell N → Bool) (b low high : ℕ) (cs ws : List (Cell N)) → IsWindow b low high cs ws
    → ((y : Cell N) → f y ≡ true → BeginsIn b low high y) → seek f ws ≡ seek f cs
seek_there f b low high cs ws w h =
    sym (ap (seek f) w.all ∙ seek_before f (BeginsIn b low high) w.before (ws ++ w.after) h w.none_before
    ∙ seek_ends f ws w.after (seek_behind f (BeginsIn b low high) w.after h w.none_after))

like_seek : {N : Type 0} (x : Cell N) (cs : List (Cell N)) → cell_like x cs ≡ seek (λ y. is_same_cell y x) cs
like_seek x [] = refl
like_seek x (c ∷ cs) = ap (cond (is_same_cell c x) (Some c)) (like_seek x cs)

from_seek : {N : Type 0} (s : Side) (b q : ℕ) (cs : List (Cell N))
    → cell_from s b q cs ≡ seek (λ c. is_same_side c.side s && (nat_eq c.block b && nat_eq c.offset q)) cs
from_seek s b q [] = refl
from_seek s b q (c ∷ cs) =
    ap (cond (is_same_side c.side s && (nat_eq c.block b && nat_eq c.offset q)) (Some c)) (from_seek s b q cs)

-- ---- what begins there

at_place : {N : Type 0} (b q : ℕ) (c : Cell N) → c.block ≡ b → c.offset ≡ q → BeginsIn b q (q + 1) c
at_place b q c e f = record { block = e; low = omega (arith, f); high = omega (arith, f) }

pub like_there : {N : Type 0} (x : Cell N) (cs ws : List (Cell N)) → IsWindow x.block x.offset (x.offset + 1) cs ws
    → cell_like x ws ≡ cell_like x cs
like_there {N = N} x cs ws w =
    like_seek x ws ∙ seek_there (λ y. is_same_cell y x) x.block x.offset (x.offset + 1) cs ws w (λ y h. begins y h)
    ∙ sym (like_seek x cs)
  where
    begins : (y : Cell N) → is_same_cell y x ≡ true → BeginsIn x.block x.offset (x.offset + 1) y
    begins y h =
        let p = (and_parts (is_same_side y.side x.side) (is_same_place y x) h).1 in
        let q = and_parts (nat_eq y.block x.block) (nat_eq y.offset x.offset && is_same_scalar y.what x.what) p in
        at_place x.block x.offset y (eqb-true y.block x.block q.0) (eqb-true y.offset x.offset (and_parts (nat_eq y.offset
        x.offset) (is_same_scalar y.what x.what) q.1).0)

pub from_there : {N : Type 0} (s : Side) (b q : ℕ) (cs ws : List (Cell N)) → IsWindow b q (q + 1) cs ws
    → cell_from s b q ws ≡ cell_from s b q cs
from_there {N = N} s b q cs ws w =
    from_seek s b q ws ∙ seek_there (λ c. is_same_side c.side s && (nat_eq c.block b && nat_eq c.offset q)) b q (q + 1) cs
    ws w (λ y h. begins y h) ∙ sym (from_seek s b q cs)
  where
    begins : (y : Cell N) → (is_same_side y.side s && (nat_eq y.block b && nat_eq y.offset q)) ≡ true
        → BeginsIn b q (q + 1) y
    begins y h =
        let p = (and_parts (is_same_side y.side s) (nat_eq y.block b && nat_eq y.offset q) h).1 in
        let r = and_parts (nat_eq y.block b) (nat_eq y.offset q) p in
        at_place b q y (eqb-true y.block b r.0) (eqb-true y.offset q r.1)

pub meets_there : {N : Type 0} (d : Model) (p : ByteRange) (y : Cell N) → meets p (place_of d y) ≡ true
    → BeginsIn p.block (p.offset - 7) (p.offset + p.bytes) y
meets_there d p y h =
    let s : size_of d y.what ≤ 8 = (size_of_scalar d y.what).1 in
    let t = (and_parts (share_memory p.side y.side) (touches p (place_of d y)) h).1 in
    let u = and_parts (nat_eq p.block y.block) (nat_lt p.offset (y.offset + size_of d y.what) && nat_lt y.offset
    (p.offset + p.bytes)) t in
    let v = and_parts (nat_lt p.offset (y.offset + size_of d y.what)) (nat_lt y.offset (p.offset + p.bytes)) u.1 in
    record {
      block = sym (eqb-true p.block y.block u.0);
      low = omega (arith, ltb-true p.offset (y.offset + size_of d y.what) v.0, s);
      high = ltb-true y.offset (p.offset + p.bytes) v.1;
    }
