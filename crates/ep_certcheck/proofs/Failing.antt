-- Cells that a state has within others, and the first that it fails.
use Rattle.std.proofs.Common.{◌≡◌, ℕ, ◌+◌, ◌*◌, ◌<◌, suc, Bool, true, false, ◌&&◌, nat_eq, nat_lt, if◌then◌else◌}
use Rattle.std.proofs.Common.{List, [], ◌∷◌, length, Option, Some, None, ⊎_elim, refl, sym, ap, ◌∙◌, arith}
use Rattle.std.specs.Option.{option_map_or}
use Rattle.std.proofs.lemmas.Bool.{and_parts, or_cases, ltb-true, eqb-true}
use Rattle.ep_bitslice.specs.Bits.{side_number}
use Rattle.ep_domain.specs.Domain.{Ops}
use Rattle.ep_int.specs.declared.types.Model.{Model}
use Rattle.ep_cells.specs.declared.cell.Cell.{Cell}
use Rattle.ep_cells.specs.Both.{cell_like, is_cell_within, are_within}
use Rattle.ep_cells.specs.Cells.{comes_before, key_of, is_same_cell, is_same_side, is_same_scalar}
use Rattle.ep_cells.specs.Reshare.{cell_from}
use Rattle.ep_cells.specs.States.{Each, EachPair, AreApart, AreCells}
use Rattle.ep_certcheck.specs.Verdict.{has_within, first_failed_cell}

-- ---- cells of one side that begin at one offset

abbrev begins : {N : Type 0} → Cell N → Cell N → Bool
begins c y = is_same_side c.side y.side && (nat_eq c.block y.block && nat_eq c.offset y.offset)

record IsBegun {N : Type 0} (c y : Cell N) : Type 0 where
  side : side_number c.side ≡ side_number y.side
  block : c.block ≡ y.block
  offset : c.offset ≡ y.offset

begun : {N : Type 0} (c y : Cell N) → begins c y ≡ true → IsBegun c y
begun c y h =
    let p = and_parts (is_same_side c.side y.side) (nat_eq c.block y.block && nat_eq c.offset y.offset) h in
    let q = and_parts (nat_eq c.block y.block) (nat_eq c.offset y.offset) p.1 in
    record {
      side = eqb-true (side_number c.side) (side_number y.side) p.0;
      block = eqb-true c.block y.block q.0;
      offset = eqb-true c.offset y.offset q.1;
    }

same_begun : {N : Type 0} (x y : Cell N) → is_same_cell x y ≡ true → IsBegun x y
same_begun x y h =
    let p = and_parts (is_same_side x.side y.side)
    (nat_eq x.block y.block && (nat_eq x.offset y.offset && is_same_scalar x.what y.what)) h in
    let q = and_parts (nat_eq x.block y.block) (nat_eq x.offset y.offset && is_same_scalar x.what y.what) p.1 in
    let r = and_parts (nat_eq x.offset y.offset) (is_same_scalar x.what y.what) q.1 in
    record {
      side = eqb-true (side_number x.side) (side_number y.side) p.0;
      block = eqb-true x.block y.block q.0;
      offset = eqb-true x.offset y.offset r.0;
    }

not_less : (a b c : ℕ) → a ≡ c → b ≡ c → a < b → ⊥
not_less a b c e f h = omega (arith, e, f, h)

not_before : {N : Type 0} (c x y : Cell N) → comes_before c x ≡ true → IsBegun c y → IsBegun x y → ⊥
not_before c x y h p q =
    ⊎_elim
    (λ i. not_less c.block x.block y.block p.block q.block (ltb-true c.block x.block i))
    (λ i. not_less (key_of c) (key_of x) (key_of y) (one_key c.offset (side_number c.side) y.offset (side_number y.side)
    p.offset p.side) (one_key x.offset (side_number x.side) y.offset (side_number y.side) q.offset q.side)
    (ltb-true (key_of c) (key_of x)
    (and_parts (nat_eq c.block x.block) (nat_lt (key_of c) (key_of x)) i).1))
    (or_cases (nat_lt c.block x.block) (nat_eq c.block x.block && nat_lt (key_of c) (key_of x)) h)
  where
    one_key : (a s b t : ℕ) → a ≡ b → s ≡ t → 3 * a + s ≡ 3 * b + t
    one_key a s b t e f = omega (arith, e, f)

unlike : {N : Type 0} (c x y : Cell N) (t : Bool) → is_same_cell x y ≡ t → comes_before c x ≡ true → IsBegun c y
    → is_same_cell x y ≡ false
unlike c x y true e h p = absurd (not_before c x y h p (same_begun x y e))
unlike c x y false e h p = e

none_later : {N : Type 0} (d : Model) (c y : Cell N) (xs : List (Cell N)) → IsBegun c y → Each (AreApart d c) xs
    → cell_like y xs ≡ None
none_later d c y [] p h = refl
none_later d c y (x ∷ xs) p h =
    ap (λ t. if t then Some x else cell_like y xs) (unlike c x y (is_same_cell x y) refl h.0.ordered p)
    ∙ none_later d c y xs p h.1

-- ---- a cell that is found by where it begins

abbrev or_not : {A : Type 0} → (A → Bool) → Option A → Bool
or_not f o = option_map_or f o false

found_by : {A : Type 0} (s b o w v : Bool) (x : A) (l r : Option A) (f g : A → Bool) → f x ≡ v
    → g x ≡ ((s && (b && (o && w))) && v) → ((s && (b && o)) ≡ true → l ≡ None) → or_not f l ≡ or_not g r
    → or_not f (if s && (b && (o && w)) then Some x else l) ≡ or_not g (if s && (b && o) then Some x else r)
found_by false b o w v x l r f g e i n h = h
found_by true false o w v x l r f g e i n h = h
found_by true true false w v x l r f g e i n h = h
found_by true true true false v x l r f g e i n h = ap (or_not f) (n refl) ∙ sym i
found_by true true true true v x l r f g e i n h = e ∙ sym i

module _ {N : Type 0} (D : Ops N) where
  abbrev pub is_like_within : Cell N → Cell N → Bool
  is_like_within y x = is_same_cell x y && is_cell_within D x y

  pub found_where : (d : Model) (y : Cell N) (xs : List (Cell N)) → EachPair (AreApart d) xs
      → has_within D xs y ≡ or_not (is_like_within y) (cell_from y.side y.block y.offset xs)
  found_where d y [] h = refl
  found_where d y (x ∷ xs) h =
      found_by (is_same_side x.side y.side) (nat_eq x.block y.block) (nat_eq x.offset y.offset)
      (is_same_scalar x.what y.what) (is_cell_within D x y) x (cell_like y xs) (cell_from y.side y.block y.offset xs)
      (λ z. is_cell_within D z y) (is_like_within y) refl refl (λ e. none_later d x y xs (begun x y e) h.0)
      (found_where d y xs h.1)

  -- ---- the first cell that is failed

  pub failed_here : (xs ys : List (Cell N)) (y : Cell N) → has_within D xs y ≡ false
      → first_failed_cell D xs (y ∷ ys) ≡ 0
  failed_here xs ys y e = ap (λ t. if t then suc (first_failed_cell D xs ys) else 0) e

  pub failed_later : (xs ys : List (Cell N)) (y : Cell N) → has_within D xs y ≡ true
      → first_failed_cell D xs (y ∷ ys) ≡ suc (first_failed_cell D xs ys)
  failed_later xs ys y e = ap (λ t. if t then suc (first_failed_cell D xs ys) else 0) e

  below_by : (t : Bool) (n k : ℕ) (rest : Bool) → (t && rest) ≡ false → (rest ≡ false → n < k)
      → (if t then suc n else 0) < suc k
  below_by true n k rest e h = let i : n < k = h e in omega (arith, i)
  below_by false n k rest e h = omega arith

  -- where not all cells are within, one is failed
  pub failed_below : (xs ys : List (Cell N)) → are_within D xs ys ≡ false → first_failed_cell D xs ys < length ys
  failed_below xs [] h = absurd cc
  failed_below xs (y ∷ ys) h =
      below_by (has_within D xs y) (first_failed_cell D xs ys) (length ys) (are_within D xs ys) h
      (λ e. failed_below xs ys e)

  pub by_where : (d : Model) (y : Cell N) (xs : List (Cell N)) → AreCells d xs → (o : Option (Cell N))
      → o ≡ cell_from y.side y.block y.offset xs → or_not (is_like_within y) o ≡ has_within D xs y
  by_where d y xs a o e = ap (or_not (is_like_within y)) e ∙ sym (found_where d y xs a.pairs)
