-- Two lists in order, walked together.
use Rattle.std.proofs.Common.{◌≡◌, ℕ, ◌+◌, ◌*◌, ◌&&◌, ◌||◌, nat_eq, nat_lt, Bool, true, false, not, cond, is_some}
use Rattle.std.proofs.Common.{Some, List, [], ◌∷◌, ◌++◌, append_assoc, append-nil, refl, sym, ◌∙◌, ap, subst}
use Rattle.std.specs.List.{filter}
use Rattle.std.proofs.lemmas.Bool.{false_from_ne_true, both_ways}
use Rattle.ep_bitslice.specs.declared.cell.Side.{Side}
use Rattle.ep_bitslice.specs.Bits.{side_number}
use Rattle.ep_cells.specs.declared.cell.Cell.{Cell}
use Rattle.ep_cells.specs.Cells.{comes_before, key_of, is_same_cell, IsIn, first, later}
use Rattle.ep_cells.specs.Both.{cell_like}
use Rattle.ep_cells.proofs.Lists.{each_at}
use Rattle.ep_cells.proofs.Places.{before_true, before_from, before_trans, not_both}
use Rattle.ep_cells.proofs.Both.{alike_same}
use Rattle.ep_cell_changes.specs.Tests.{IsBefore, AreInOrder}
use Rattle.ep_reads.specs.Single.{without_like}
use Rattle.ep_reads.proofs.Members.{same_back}
use Rattle.ep_reads.proofs.Liked.{has_like}
use Rattle.ep_state_looks.specs.Looks.{from_cell, begins_like}

-- ---- order

before_then : {N : Type 0} (x y z : Cell N) → comes_before x y ≡ true → comes_before y z ≡ true
    → comes_before x z ≡ true
before_then x y z h k =
    before_from x.block (key_of x) z.block (key_of z)
    (before_trans x.block (key_of x) y.block (key_of y) z.block (key_of z)
    (before_true x.block (key_of x) y.block (key_of y) h) (before_true y.block (key_of y) z.block (key_of z) k))

never_itself : {N : Type 0} (x : Cell N) → comes_before x x ≡ true → ⊥
never_itself x h =
    let b = before_true x.block (key_of x) x.block (key_of x) h in
    not_both x.block (key_of x) x.block (key_of x) b b

-- like cells stand at one place of the order
before_like : {N : Type 0} (x y z : Cell N) → is_same_cell y z ≡ true → comes_before x z ≡ true
    → comes_before x y ≡ true
before_like x y z s h =
    let a = alike_same y z s in
    subst (λ (b : ℕ). before b (key_of y) ≡ true) (sym a.block)
    (subst (λ (k : ℕ). before z.block k ≡ true)
    (sym (ap (λ (q : ℕ). 3 * q + side_number y.side) a.offset
    ∙ ap (λ (t : Side). 3 * z.offset + side_number t) a.side)) h)
  where
    before : (b k : ℕ) → Bool
    before b k = nat_lt x.block b || (nat_eq x.block b && nat_lt (key_of x) k)

-- a cell before another isn't like one from that on
not_like : {N : Type 0} (y x z : Cell N) → comes_before y x ≡ true → comes_before x z ≡ true → is_same_cell y z ≡ false
not_like y x z h k =
    false_from_ne_true (is_same_cell y z) (λ s.
    let b : comes_before x y ≡ true = before_like x y z s k in
    never_itself x (before_then x y x b h))

not_same : {N : Type 0} (y x : Cell N) → comes_before y x ≡ true → is_same_cell y x ≡ false
not_same y x h =
    false_from_ne_true (is_same_cell y x) (λ s. never_itself y (before_like y y x s h))

before_back : {N : Type 0} (x y z : Cell N) → is_same_cell z y ≡ true → comes_before x z ≡ true
    → comes_before x y ≡ true
before_back x y z s h = before_like x y z (same_back z y s) h

-- ---- what is skipped is like no cell that is still to come

skipped : {N : Type 0} (x z : Cell N) (ys : List (Cell N))
    → ((y : Cell N) → comes_before y x ≡ true → is_same_cell y z ≡ false)
    → cell_like z (from_cell x ys) ≡ cell_like z ys
skipped x z [] h = refl
skipped {N = N} x z (y ∷ ys) h = by (comes_before y x) refl (skipped x z ys h)
  where
    by : (b : Bool) → comes_before y x ≡ b → cell_like z (from_cell x ys) ≡ cell_like z ys
        → cell_like z (cond b (from_cell x ys) (y ∷ ys)) ≡ cell_like z (y ∷ ys)
    by true e i = i ∙ sym (ap (λ t. cond t (Some y) (cell_like z ys)) (h y e))
    by false e i = refl

-- the first one that doesn't come before x alone may be like it
first_alone : {N : Type 0} (x : Cell N) (ys : List (Cell N)) → AreInOrder ys
    → is_some (cell_like x (from_cell x ys)) ≡ begins_like x (from_cell x ys)
first_alone x [] o = refl
first_alone {N = N} x (y ∷ ys) o = by (comes_before y x) refl (first_alone x ys o.1)
  where
    alone : comes_before y x ≡ false → (s : Bool) → is_same_cell y x ≡ s
        → is_some (cond s (Some y) (cell_like x ys)) ≡ s
    alone e true f = refl
    alone e false f =
        false_from_ne_true (is_some (cell_like x ys)) (λ h.
        let l = has_like x ys h in
        both_ways (comes_before y x) e
        (before_back y x l.cell l.same (each_at (IsBefore y) l.cell ys o.0 l.is_in)))

    by : (b : Bool) → comes_before y x ≡ b → is_some (cell_like x (from_cell x ys)) ≡ begins_like x (from_cell x ys)
        → is_some (cell_like x (cond b (from_cell x ys) (y ∷ ys))) ≡ begins_like x (cond b (from_cell x ys) (y ∷ ys))
    by true e i = i
    by false e i = alone e (is_same_cell y x) refl

filter_where : {N : Type 0} (P Q : Cell N → Bool) (cs : List (Cell N)) → ((x : Cell N) → IsIn x cs → P x ≡ Q x)
    → filter P cs ≡ filter Q cs
filter_where P Q [] h = refl
filter_where P Q (c ∷ cs) h =
    ap (λ b. cond b (c ∷ filter P cs) (filter P cs)) (h c (first cs))
    ∙ ap (λ l. cond (Q c) (c ∷ l) l) (filter_where P Q cs (λ x i. h x (later c cs i)))

pub lacked_one : {N : Type 0} (x : Cell N) (xs ys : List (Cell N)) → AreInOrder (x ∷ xs) → AreInOrder ys
    → without_like ys (x ∷ xs)
    ≡ cond (not (begins_like x (from_cell x ys))) (x ∷ []) [] ++ without_like (from_cell x ys) xs
lacked_one {N = N} x xs ys o p =
    ap (λ b. cond b (x ∷ without_like ys xs) (without_like ys xs)) (ap not here)
    ∙ ap (λ l. cond (not (begins_like x (from_cell x ys))) (x ∷ l) l) more
    ∙ by (not (begins_like x (from_cell x ys)))
  where
    here : is_some (cell_like x ys) ≡ begins_like x (from_cell x ys)
    here = ap is_some (sym (skipped x x ys (λ y h. not_same y x h))) ∙ first_alone x ys p

    more : without_like ys xs ≡ without_like (from_cell x ys) xs
    more =
        filter_where (λ z. not (is_some (cell_like z ys))) (λ z. not (is_some (cell_like z (from_cell x ys)))) xs
        (λ z i. ap (λ o. not (is_some o)) (sym (skipped x z ys (λ y h. not_like y x z h
        (each_at (IsBefore x) z xs o.0 i)))))

    by : (b : Bool) → cond b (x ∷ without_like (from_cell x ys) xs) (without_like (from_cell x ys) xs)
        ≡ cond b (x ∷ []) []
        ++ without_like (from_cell x ys) xs
    by true = refl
    by false = refl

-- ---- what is left is in order

pub order_from : {N : Type 0} (x : Cell N) (ys : List (Cell N)) → AreInOrder ys → AreInOrder (from_cell x ys)
order_from x [] o = tt
order_from {N = N} x (y ∷ ys) o = by (comes_before y x) (order_from x ys o.1)
  where
    by : (b : Bool) → AreInOrder (from_cell x ys) → AreInOrder (cond b (from_cell x ys) (y ∷ ys))
    by true h = h
    by false h = o

-- a turn of the walk
pub record IsWalked {N : Type 0} (out xs ys all : List (Cell N)) : Type 0 where
  pub rest : out ++ without_like ys xs ≡ all
  pub first : AreInOrder xs
  pub second : AreInOrder ys

pub walk_next : {N : Type 0} (x : Cell N) (out outs xs rest ys yz all : List (Cell N)) (b : Bool) → xs ≡ x ∷ rest
    → yz ≡ from_cell x ys → b ≡ begins_like x yz → outs ≡ out ++ cond (not b) (x ∷ []) []
    → IsWalked out xs ys all → IsWalked outs rest yz all
walk_next {N = N} x out outs xs rest ys yz all b e f g h w =
    let o : AreInOrder (x ∷ rest) = subst AreInOrder e w.first in
    record {
      rest = ap (λ l. l ++ without_like yz rest) h
          ∙ append_assoc out (cond (not b) (x ∷ []) []) (without_like yz rest)
          ∙ ap (λ l. out ++ (cond (not b) (x ∷ []) [] ++ without_like l rest)) f
          ∙ ap (λ t. out ++ (cond (not t) (x ∷ []) [] ++ without_like (from_cell x ys) rest)) (g ∙ ap (begins_like x) f)
          ∙ ap (λ l. out ++ l) (sym (lacked_one x rest ys o w.second))
          ∙ sym (ap (λ l. out ++ without_like ys l) e)
          ∙ w.rest;
      first = o.1;
      second = subst AreInOrder (sym f) (order_from x ys w.second);
    }

pub walk_end : {N : Type 0} (out xs ys all : List (Cell N)) → xs ≡ [] → IsWalked out xs ys all → out ≡ all
walk_end out xs ys all e w = sym (append-nil out) ∙ sym (ap (λ l. out ++ without_like ys l) e) ∙ w.rest
