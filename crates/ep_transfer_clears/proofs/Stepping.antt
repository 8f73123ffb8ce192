-- Leaves in step with the bytes of their type.
use Rattle.std.proofs.Common.{◌≡◌, ℕ, zero, suc, ◌+◌, ◌-◌, ◌<◌, ◌≤◌, Bool, true, false, ◌&&◌, ◌||◌, nat_eq, nat_le}
use Rattle.ep_int.proofs.Basics.{size_positive as size_positive}
use Rattle.ep_cells.proofs.Entry.{leaves_end}
use Rattle.std.proofs.Common.{nat_lt, cond, List, [], ◌∷◌, Option, Some, None, IfSome, refl, sym, ◌∙◌, ap, subst}
use Rattle.std.proofs.Common.{arith, length, drop, add-one}
use Rattle.std.proofs.lemmas.Bool.{and_from, or_left, ne_eqb, eq-eqb, eqb-true, le-leb, lt-ltb, le-ltb, lt-leb}
use Rattle.ep_int.specs.declared.types.Model.{Model}
use Rattle.ep_int.specs.declared.types.Scalar.{Scalar}
use Rattle.ep_int.specs.Types.{size_of}
use Rattle.ep_layout.specs.declared.types.Leaf.{Leaf}
use Rattle.ep_domain.specs.Domain.{Ops}
use Rattle.ep_equalities.specs.declared.pair.Mode.{Mode}
use Rattle.ep_cells.specs.Kill.{leaf_at, is_in_leaf, AreLeavesIn}
use Rattle.ep_cells.specs.States.{Known}
use Rattle.ep_transfers.specs.Places.{Places}
use Rattle.ep_transfers.specs.Transfers.{cleared_here, cleared_from, cleared_bytes}
use Rattle.ep_transfer_places.specs.Room.{BothHaveRoom}
use Rattle.ep_transfer_places.proofs.Moving.{less_both}
use Rattle.ep_transfer_clears.specs.Walk.{first_at, BeginsFrom, IsAt}

-- ---- offsets before all leaves

record IsBeside (d : Model) (ls : List Leaf) (q : ℕ) : Type 0 where
  none : leaf_at ls q ≡ None
  outside : is_in_leaf d ls q ≡ false

beside : (d : Model) (e size q : ℕ) (ls : List Leaf) → AreLeavesIn d e size ls → q < e → IsBeside d ls q
beside d e size q [] a h = record { none = refl; outside = refl }
beside d e size q (l ∷ ls) a h =
    let low = a.0 in
    let rest = beside d (l.offset + size_of d l.what) size q ls a.1 (omega (arith, low, h)) in
    let far : nat_eq l.offset q ≡ false = ne_eqb l.offset q (λ g. omega (arith, low, h, g)) in
    let above : nat_le l.offset q ≡ false = lt-leb l.offset q (omega (arith, low, h)) in
    record {
      none = ap (λ t. cond t (Some l.what) (leaf_at ls q)) far ∙ rest.none;
      outside = ap (λ t. (t && nat_lt q (l.offset + size_of d l.what)) || is_in_leaf d ls q) above ∙ rest.outside;
    }

begins_from : (d : Model) (e size q : ℕ) (ls : List Leaf) → AreLeavesIn d e size ls → q ≤ e → BeginsFrom q ls
begins_from d e size q [] a h = tt
begins_from d e size q (l ∷ ls) a h = let low = a.0 in omega (arith, low, h)

-- ---- the leaf that begins here

first_is : (d : Model) (e size q : ℕ) (ls : List Leaf) → AreLeavesIn d e size ls → BeginsFrom q ls
    → leaf_at ls q ≡ first_at ls q
first_is d e size q [] a b = refl
first_is d e size q (l ∷ ls) a b =
    let some = size_positive d l.what in
    ap (λ x. cond (nat_eq l.offset q) (Some l.what) x)
    (beside d (l.offset + size_of d l.what) size q ls a.1 (omega (arith, b, some))).none

not_here : (w : Scalar) (a q : ℕ) (t : Bool) → nat_eq a q ≡ t → cond t (Some w) None ≡ None → a ≡ q → ⊥
not_here w a q true f n e = absurd (cc)
not_here w a q false f n e = absurd (let g = eq-eqb a q e in let h : true ≡ false = sym g ∙ f in cc)

none_in : (d : Model) (e size q : ℕ) (ls : List Leaf) → AreLeavesIn d e size ls → BeginsFrom q ls
    → first_at ls q ≡ None → is_in_leaf d ls q ≡ false
none_in d e size q [] a b n = refl
none_in d e size q (l ∷ ls) a b n =
    let far = not_here l.what l.offset q (nat_eq l.offset q) refl n in
    (beside d (q + 1) size q (l ∷ ls) (above l.offset q b far, a.1) (omega arith)).outside
  where
    above : (a q : ℕ) → q ≤ a → (a ≡ q → ⊥) → q + 1 ≤ a
    above a q h n = grind (arith)

next_from : (d : Model) (e size q : ℕ) (ls : List Leaf) → AreLeavesIn d e size ls → BeginsFrom q ls
    → first_at ls q ≡ None → BeginsFrom (q + 1) ls
next_from d e size q [] a b n = tt
next_from d e size q (l ∷ ls) a b n = above l.offset q b (not_here l.what l.offset q (nat_eq l.offset q) refl n)
  where
    above : (a q : ℕ) → q ≤ a → (a ≡ q → ⊥) → q + 1 ≤ a
    above a q h n = grind (arith)

-- the first one left
drop_more : (n : ℕ) (ls more : List Leaf) (l : Leaf) → drop n ls ≡ l ∷ more → drop (suc n) ls ≡ more
drop_more zero [] more l h = absurd (cc)
drop_more zero (x ∷ ls) more l h = cc
drop_more (suc n) [] more l h = absurd (cc)
drop_more (suc n) (x ∷ ls) more l h = drop_more n ls more l h

module _ (d : Model) (size : ℕ) (ls : List Leaf) where
  pub starts : AreLeavesIn d 0 size ls → IsAt d size ls 0 0 0
  starts a = record {
    rest = a;
    ahead = begins_from d 0 size 0 ls a (omega arith);
    begins = λ j h. refl;
    behind = λ j h. refl;
    inside = λ j h i. absurd (omega (arith, i));
  }

  module _ (q n e : ℕ) (w : IsAt d size ls q n e) where
    pub leaf_is : leaf_at ls q ≡ first_at (drop n ls) q
    leaf_is = w.begins q (omega arith) ∙ first_is d e size q (drop n ls) w.rest w.ahead

    pub inside_is : (t : Bool) → nat_lt q e ≡ t → first_at (drop n ls) q ≡ None → is_in_leaf d ls q ≡ t
    inside_is true t h = w.inside q (omega arith) (ltb_true q e t)
      where
        ltb_true : (q e : ℕ) → nat_lt q e ≡ true → q < e
        ltb_true q e h = grind (arith)
    inside_is false t h = w.behind q (ltb_false q e t) ∙ none_in d e size q (drop n ls) w.rest w.ahead h
      where
        ltb_false : (q e : ℕ) → nat_lt q e ≡ false → e ≤ q
        ltb_false q e h = grind (arith)

    pub no_leaf : first_at (drop n ls) q ≡ None → IsAt d size ls (q + 1) n e
    no_leaf h = record {
      rest = w.rest;
      ahead = next_from d e size q (drop n ls) w.rest w.ahead h;
      begins = λ j i. w.begins j (omega (arith, i));
      behind = w.behind;
      inside = λ j i. w.inside j (omega (arith, i));
    }

    -- with the leaf that begins here
    begun : (l : Leaf) (more : List Leaf) (what : Scalar) → drop n ls ≡ l ∷ more → l.offset ≡ q → l.what ≡ what
        → IsAt d size ls (q + 1) (suc n) (q + size_of d what)
    begun l more what h o f =
        let a : AreLeavesIn d e size (l ∷ more) = subst (AreLeavesIn d e size) h w.rest in
        let low = a.0 in
        let some = size_positive d l.what in
        let m : drop (suc n) ls ≡ more = drop_more n ls more l h in
        let s : l.offset + size_of d l.what ≡ q + size_of d what
        = ap (λ x. x + size_of d l.what) o ∙ ap (λ x. q + size_of d x) f in
        let here : AreLeavesIn d (l.offset + size_of d l.what) size (drop (suc n) ls)
        = subst (AreLeavesIn d (l.offset + size_of d l.what) size) (sym m) a.1 in
        record {
          rest = subst (λ x. AreLeavesIn d x size (drop (suc n) ls)) s here;
          ahead = begins_from d (l.offset + size_of d l.what) size (q + 1) (drop (suc n) ls) here
              (omega (arith, o, some));
          begins = λ j i. w.begins j (omega (arith, i)) ∙ ap (λ x. leaf_at x j) h
              ∙ ap (λ t. cond t (Some l.what) (leaf_at more j)) (ne_eqb l.offset j (λ g. omega (arith, o, i, g)))
              ∙ ap (λ x. leaf_at x j) (sym m);
          behind = λ j i. w.behind j (omega (arith, low, o, i)) ∙ ap (λ x. is_in_leaf d x j) h
              ∙ beyond (nat_le l.offset j) (nat_lt j (l.offset + size_of d l.what)) (is_in_leaf d more j)
              (le-ltb j (l.offset + size_of d l.what) (omega (arith, s, i)))
              ∙ ap (λ x. is_in_leaf d x j) (sym m);
          inside = λ j i k. w.behind j (omega (arith, low, o, i)) ∙ ap (λ x. is_in_leaf d x j) h
              ∙ or_left (nat_le l.offset j && nat_lt j (l.offset + size_of d l.what)) (is_in_leaf d more j)
              (and_from (nat_le l.offset j) (nat_lt j (l.offset + size_of d l.what))
              (le-leb l.offset j (omega (arith, o, i)))
              (lt-ltb j (l.offset + size_of d l.what) (omega (arith, s, k))));
        }
      where
        beyond : (x y z : Bool) → y ≡ false → ((x && y) || z) ≡ z
        beyond true y z h = ap (λ t. t || z) h
        beyond false y z h = refl

    by_test : (l : Leaf) (more : List Leaf) (what : Scalar) (t : Bool) → drop n ls ≡ l ∷ more → nat_eq l.offset q ≡ t
        → cond t (Some l.what) None ≡ Some what → IsAt d size ls (q + 1) (suc n) (q + size_of d what)
    by_test l more what true h f g =
        let k : l.what ≡ what = cc in begun l more what h (eqb-true l.offset q f) k
    by_test l more what false h f g = absurd (cc)

    by_rest : (xs : List Leaf) (what : Scalar) → drop n ls ≡ xs → first_at xs q ≡ Some what
        → IsAt d size ls (q + 1) (suc n) (q + size_of d what)
    by_rest [] what h g = absurd (cc)
    by_rest (l ∷ more) what h g = by_test l more what (nat_eq l.offset q) h refl g

    pub leaf_begins : (what : Scalar) (s : ℕ) → s ≡ size_of d what → first_at (drop n ls) q ≡ Some what
        → IsAt d size ls (q + 1) (n + 1) (q + s)
    leaf_begins what s e h =
        subst (λ x. IsAt d size ls (q + 1) x (q + s)) (sym (add-one n))
        (subst (λ x. IsAt d size ls (q + 1) (suc n) (q + x)) (sym e) (by_rest (drop n ls) what refl h))

    -- it ends inside the size
    pub leaf_ends : (what : Scalar) → first_at (drop n ls) q ≡ Some what → q + size_of d what ≤ size
    leaf_ends what h =
        let x = by_rest (drop n ls) what refl h in leaves_end d (q + size_of d what) size (drop (suc n) ls) x.rest

    -- it begins behind the last one
    pub leaf_low : (what : Scalar) → first_at (drop n ls) q ≡ Some what → e ≤ q
    leaf_low what h = by_list (drop n ls) refl h
      where
        by_place : (l : Leaf) (more : List Leaf) (t : Bool) → AreLeavesIn d e size (l ∷ more) → nat_eq l.offset q ≡ t
            → cond t (Some l.what) None ≡ Some what → e ≤ q
        by_place l more true a f g = let low = a.0 in let at = eqb-true l.offset q f in omega (arith, low, at)
        by_place l more false a f g = absurd (cc)

        by_list : (xs : List Leaf) → drop n ls ≡ xs → first_at xs q ≡ Some what → e ≤ q
        by_list [] f g = absurd (cc)
        by_list (l ∷ more) f g =
            by_place l more (nat_eq l.offset q) (subst (AreLeavesIn d e size) f w.rest) refl g

    -- all leaves end inside the size
    pub end_low : e ≤ size
    end_low = leaves_end d e size (drop n ls) w.rest

    -- and there is one
    pub is_there : (what : Scalar) → first_at (drop n ls) q ≡ Some what → n < length ls
    is_there what h = left n ls (drop n ls) refl what h
      where
        left : (n : ℕ) (ls xs : List Leaf) → drop n ls ≡ xs → (what : Scalar) → first_at xs q ≡ Some what → n < length ls
        left n ls [] f what h = absurd (cc)
        left zero [] (x ∷ xs) f what h = absurd (cc)
        left zero (l ∷ ls) (x ∷ xs) f what h = omega arith
        left (suc n) [] (x ∷ xs) f what h = absurd (cc)
        left (suc n) (l ∷ ls) (x ∷ xs) f what h = let g = left n ls (x ∷ xs) f what h in omega (arith, g)

    -- all places have room for it
    pub leaf_room : (k : Model) → k ≡ d → (p : Places) → BothHaveRoom size p → (what : Option Scalar)
        → what ≡ first_at (drop n ls) q → IfSome what (λ x. BothHaveRoom (q + size_of k x) p)
    leaf_room k f p r None h = tt
    leaf_room k f p r (Some what) h =
        subst (λ x. BothHaveRoom (q + size_of x what) p) (sym f)
        (less_both size (q + size_of d what) p (leaf_ends what (sym h)) r)

-- ---- byte after byte

module _ {N : Type 0} (D : Ops N) (m : Mode) (ls : List Leaf) (to : Bool) (p : Places) where
  here_by : (q : ℕ) (w : Option Scalar) (t u : Bool) (k : Known N) → (w ≡ None → u ≡ t)
      → cleared_here D [] m 0 ls to p q w u k ≡ cleared_here D [] m 0 [] to p q w t k
  here_by q (Some w) t u k h = refl
  here_by q None t u k h = ap (λ x. cleared_here D [] m 0 ls to p q None x k) (h refl)

  one_less : (n i : ℕ) → i < n → n - i ≡ suc (n - (i + 1))
  one_less n i h = omega (arith, h)

  pub next_turn : (d : Model) (n q : ℕ) (w : Option Scalar) (t : Bool) (k j all : Known N) → q < n → k.model ≡ d
      → leaf_at ls q ≡ w → (w ≡ None → is_in_leaf d ls q ≡ t) → j ≡ cleared_here D [] m 0 [] to p q w t k
      → cleared_from D [] m 0 ls to p q (n - q) k ≡ all
      → cleared_from D [] m 0 ls to p (q + 1) (n - (q + 1)) j ≡ all
  next_turn d n q w t k j all h e f g x c =
      ap (cleared_from D [] m 0 ls to p (q + 1) (n - (q + 1)))
      (x ∙ sym (ap (λ z. cleared_here D [] m 0 ls to p q z (is_in_leaf k.model ls q) k) f
      ∙ here_by q w t (is_in_leaf k.model ls q) k (λ z. ap (λ y. is_in_leaf y ls q) e ∙ g z)))
      ∙ sym (ap (λ z. cleared_from D [] m 0 ls to p q z k) (one_less n q h)) ∙ c

  pub last_turn : (n q : ℕ) (k all : Known N) → (q < n → ⊥) → cleared_from D [] m 0 ls to p q (n - q) k ≡ all → k ≡ all
  last_turn n q k all h c = sym (ap (λ z. cleared_from D [] m 0 ls to p q z k) (none_more n q h)) ∙ c
    where
      none_more : (n i : ℕ) → (i < n → ⊥) → n - i ≡ 0
      none_more n i h = omega (arith, h)

  pub some_bytes : (n : ℕ) (k : Known N) → (n ≡ 0 → ⊥)
      → cleared_from D [] m 0 ls to p 0 n k ≡ cleared_bytes D [] m n ls to p n k
  some_bytes zero k h = absurd (h refl)
  some_bytes (suc n) k h = refl
