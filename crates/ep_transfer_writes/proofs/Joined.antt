-- Two places next to each other, w and then n bytes: what a write of one and then of the other does to names and
-- cells.
use Rattle.std.proofs.Common.{◌≡◌, ℕ, ◌+◌, ◌<◌, Bool, true, false, ◌&&◌, ◌||◌, cond, List, [], ◌∷◌}
use Rattle.ep_int.proofs.Basics.{size_positive}
use Rattle.ep_state_ranges.proofs.Row.{touches_by}
use Rattle.std.proofs.Common.{◌++◌, Option, Some, None, refl, sym, ap, ◌∙◌}
use Rattle.std.specs.Option.{option_map}
use Rattle.ep_int.specs.declared.types.Model.{Model}
use Rattle.ep_int.specs.declared.types.Model.TheVariants.{Ilp32}
use Rattle.ep_int.specs.declared.types.Scalar.TheVariants.{Int}
use Rattle.ep_bitslice.specs.declared.cell.Side.{Side}
use Rattle.ep_bitslice.specs.declared.cell.Side.TheVariants.{Left, Right, Shared}
use Rattle.ep_bitslice.specs.declared.cell.CellName.{CellName}
use Rattle.ep_cells.specs.declared.cell.Cell.{Cell}
use Rattle.ep_cells.specs.declared.place.ByteRange.{ByteRange}
use Rattle.ep_cells.specs.Cells.{place_of, place_of_name, touches, side_without, with_side, each_becomes}
use Rattle.ep_cells.specs.Write.{left_by_write, fate_by_write}
use Rattle.ep_cells.proofs.Places.{at}
use Rattle.ep_reads.proofs.Composed.{gone_on, then_fate}

-- ---- places

pub joined_touches : (s : Side) (b a w n t : ℕ) (q : ByteRange) → t ≡ w + n → 0 < q.bytes
    → touches (at s b a t) q ≡ (touches (at s b a w) q || touches (at s b (a + w) n) q)
joined_touches s b a w n t q e h = touches_by b a w n t q.block q.offset q.bytes e h

-- ---- sides

-- what is left of a side once it has lost what the other one takes too
abbrev pub without_both : Side → Option Side → Option Side
without_both p None = None
without_both p (Some r) = side_without p r

pub taken_before : (p s q : Side) → side_without p s ≡ None → without_both p (side_without s q) ≡ side_without p q
taken_before Left Left Left e = refl
taken_before Left Left Right e = refl
taken_before Left Left Shared e = refl
taken_before Left Right q e = absurd (let r : Some Right ≡ None = e in cc)
taken_before Left Shared q e = absurd (let r : Some Right ≡ None = e in cc)
taken_before Right Right Left e = refl
taken_before Right Right Right e = refl
taken_before Right Right Shared e = refl
taken_before Right Left q e = absurd (let r : Some Left ≡ None = e in cc)
taken_before Right Shared q e = absurd (let r : Some Left ≡ None = e in cc)
taken_before Shared Left Left e = refl
taken_before Shared Left Right e = refl
taken_before Shared Left Shared e = refl
taken_before Shared Right Left e = refl
taken_before Shared Right Right e = refl
taken_before Shared Right Shared e = refl
taken_before Shared Shared Left e = refl
taken_before Shared Shared Right e = refl
taken_before Shared Shared Shared e = refl

pub takes_itself : (s : Side) → side_without s s ≡ None
takes_itself Left = refl
takes_itself Right = refl
takes_itself Shared = refl

-- ---- names

abbrev pub name_on : CellName → Option Side → Option CellName
name_on n o = option_map (λ r. record n { side = r }) o

-- a name of a side that was taken before
pub name_taken_before : (s : Side) (p : ByteRange) (n : CellName) → touches p (place_of_name n) ≡ true
    → side_without p.side s ≡ None → gone_on (fate_by_write p) (name_on n (side_without s n.side)) ≡ fate_by_write p n
name_taken_before s p n t e =
    by (side_without s n.side) ∙ ap (name_on n) (taken_before p.side s n.side e)
    ∙ sym (ap (λ x. cond x (name_on n (side_without p.side n.side)) (Some n)) t)
  where
    by : (o : Option Side) → gone_on (fate_by_write p) (name_on n o) ≡ name_on n (without_both p.side o)
    by None = refl
    by (Some r) = ap (λ x. cond x (name_on n (side_without p.side r)) (Some (record n { side = r }))) t

name_positive : (n : CellName) → 0 < (place_of_name n).bytes
name_positive n = size_positive Ilp32 (Int n.t)

-- a name that is met by the first of two writes on one side
two_by : (s : Side) (b a w m : ℕ) (n : CellName) (t : Bool) → touches (at s b a w) (place_of_name n) ≡ t
    → gone_on (fate_by_write (at s b (a + w) m)) (cond t (name_on n (side_without s n.side)) (Some n))
    ≡ cond (t || touches (at s b (a + w) m) (place_of_name n)) (name_on n (side_without s n.side)) (Some n)
two_by s b a w m n false e = refl
two_by s b a w m n true e = by (side_without s n.side) (taken_before s s n.side (takes_itself s))
  where
    kept : (r : Side) (t : Bool) → side_without s r ≡ Some r
        → cond t (name_on n (side_without s r)) (Some (record n { side = r })) ≡ Some (record n { side = r })
    kept r true h = ap (name_on n) h
    kept r false h = refl

    by : (o : Option Side) → without_both s o ≡ o
        → gone_on (fate_by_write (at s b (a + w) m)) (name_on n o) ≡ name_on n o
    by None h = refl
    by (Some r) h = kept r (touches (at s b (a + w) m) (place_of_name n)) h

pub two_fates : (s : Side) (b a w m t : ℕ) (n : CellName) → t ≡ w + m
    → then_fate (fate_by_write (at s b a w)) (fate_by_write (at s b (a + w) m)) n ≡ fate_by_write (at s b a t) n
two_fates s b a w m t n e =
    two_by s b a w m n (touches (at s b a w) (place_of_name n)) refl
    ∙ sym (ap (λ x. cond x (name_on n (side_without s n.side)) (Some n))
    (joined_touches s b a w m t (place_of_name n) e (name_positive n)))

-- ---- cells

pub append_none : {N : Type 0} (xs : List (Cell N)) → xs ++ [] ≡ xs
append_none [] = refl
append_none (x ∷ xs) = ap (λ ys. x ∷ ys) (append_none xs)

module _ {N : Type 0} (d : Model) where
  -- a cell of a side that was taken before
  pub cell_taken_before : (s : Side) (p : ByteRange) (x : Cell N) → touches p (place_of d x) ≡ true
      → side_without p.side s ≡ None
      → each_becomes (left_by_write d p) (with_side x (side_without s x.side)) ≡ left_by_write d p x
  cell_taken_before s p x t e =
      by (side_without s x.side) ∙ ap (with_side x) (taken_before p.side s x.side e)
      ∙ sym (ap (λ c. cond c (with_side x (side_without p.side x.side)) (x ∷ [])) t)
    where
      by : (o : Option Side) → each_becomes (left_by_write d p) (with_side x o) ≡ with_side x (without_both p.side o)
      by None = refl
      by (Some r) =
          append_none (left_by_write d p (record x { side = r }))
          ∙ ap (λ c. cond c (with_side x (side_without p.side r)) (record x { side = r } ∷ [])) t

  left_by : (s : Side) (b a w m : ℕ) (x : Cell N) (t : Bool)
      → each_becomes (left_by_write d (at s b (a + w) m)) (cond t (with_side x (side_without s x.side)) (x ∷ []))
      ≡ cond (t || touches (at s b (a + w) m) (place_of d x)) (with_side x (side_without s x.side)) (x ∷ [])
  left_by s b a w m x false = append_none (left_by_write d (at s b (a + w) m) x)
  left_by s b a w m x true = by (side_without s x.side) (taken_before s s x.side (takes_itself s))
    where
      kept : (r : Side) (t : Bool) → side_without s r ≡ Some r
          → cond t (with_side x (side_without s r)) (record x { side = r } ∷ []) ≡ record x { side = r } ∷ []
      kept r true h = ap (with_side x) h
      kept r false h = refl

      by : (o : Option Side) → without_both s o ≡ o
          → each_becomes (left_by_write d (at s b (a + w) m)) (with_side x o) ≡ with_side x o
      by None h = refl
      by (Some r) h =
          append_none (left_by_write d (at s b (a + w) m) (record x { side = r }))
          ∙ kept r (touches (at s b (a + w) m) (place_of d x)) h

  pub two_lefts : (s : Side) (b a w m t : ℕ) (x : Cell N) → t ≡ w + m
      → each_becomes (left_by_write d (at s b (a + w) m)) (left_by_write d (at s b a w) x)
      ≡ left_by_write d (at s b a t) x
  two_lefts s b a w m t x e =
      left_by s b a w m x (touches (at s b a w) (place_of d x))
      ∙ sym (ap (λ z. cond z (with_side x (side_without s x.side)) (x ∷ []))
      (joined_touches s b a w m t (place_of d x) e (size_positive d x.what)))
