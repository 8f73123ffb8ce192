-- The laws of unification as changes of single cells: each way of looking at fewer cells comes to the same, and what
-- single changes leave is a state.
use Rattle.std.specs.Prelude.{◌≡◌, ℕ, true, List, [], ◌++◌, map, Some}
use Rattle.std.specs.List.{filter}
use Rattle.ep_int.specs.declared.types.Model.{Model}
use Rattle.ep_bitslice.specs.declared.cell.Side.TheVariants.{Left, Right, Shared}
use Rattle.ep_domain.specs.Domain.{Ops}
use Rattle.ep_cells.specs.declared.cell.Cell.{Cell}
use Rattle.ep_cells.specs.Cells.{IsIn, put, each_becomes}
use Rattle.ep_cells.specs.Forms.{reformed}
use Rattle.ep_cells.specs.Reshare.{are_same, cell_from, reshared_cell, left_by_reshare, fate_by_reshare}
use Rattle.ep_cells.specs.States.{Known, AreCells}
use Rattle.ep_reads.specs.Unify.{parted, is_crossed, crossed_all, uncrossed, had_by_both}
use Rattle.ep_reads.specs.Single.{Spots, parted_where, facing, either, faced, on_left_alone, Kinds, without}
use Rattle.ep_reads.specs.Single.{is_kind_among, either_kind, without_like}

-- the tests agree on the Shared ones of these cells
abbrev pub Agree : {N : Type 0} → Spots → Spots → List (Cell N) → Type 0
Agree {N = N} P Q cs = (x : Cell N) → IsIn x cs → x.side ≡ Shared
    → P x.block x.offset x.what ≡ Q x.block x.offset x.what

-- It is enough to look at the cells ts of ys for what faces xs, and at the cells us of xs for what faces ys.
pub record Turning {N : Type 0} (d : Model) (xs ys ts us : List (Cell N)) : Type 0 where
  pub left : AreCells d xs
  pub right : AreCells d ys
  pub for_left : Agree (facing d ys) (facing d ts) xs
  pub for_right : Agree (facing d xs) (facing d us) ys

-- those that are to be looked at for the second one after that
abbrev pub more_for : {N : Type 0} → Model → (xs ts us : List (Cell N)) → List (Cell N)
more_for d xs ts us = us ++ map on_left_alone (faced d ts xs)

-- Shared cells come apart: all at once or by tests one after another, and by turns, in which only those that the other
-- state lacks are looked at first, and then those that came apart.
pub record PartLaws (N : Type 0) : Type 0 where
  pub cells : (d : Model) (P : Spots) (cs : List (Cell N)) → AreCells d cs → AreCells d (parted_where P cs)
  pub twice : (P Q : Spots) (cs : List (Cell N)) → parted_where Q (parted_where P cs) ≡ parted_where (either P Q) cs
  pub first_turn : (d : Model) (xs ys : List (Cell N)) → AreCells d xs → AreCells d ys
      → Turning d xs ys (without_like xs ys) (without_like ys xs)
  pub left_turn : (d : Model) (xs ys ts us : List (Cell N)) → Turning d xs ys ts us
      → parted d ys xs ≡ parted_where (facing d ts) xs
  pub right_turn : (d : Model) (xs ys ts us : List (Cell N)) → Turning d xs ys ts us
      → parted d (parted d ys xs) ys ≡ parted_where (facing d (more_for d xs ts us)) ys
  pub next_turn : (d : Model) (xs ys ts us : List (Cell N)) → Turning d xs ys ts us
      → Turning d (parted_where (facing d ts) xs) (parted_where (facing d (more_for d xs ts us)) ys)
      (map on_left_alone (faced d (more_for d xs ts us) ys)) []

-- Cells go that the other state lacks: all at once or by tests one after another.
pub record DropLaws (N : Type 0) : Type 0 where
  pub cells : (d : Model) (P : Kinds) (cs : List (Cell N)) → AreCells d cs → AreCells d (without P cs)
  pub twice : (P Q : Kinds) (cs : List (Cell N)) → without Q (without P cs) ≡ without (either_kind P Q) cs
  pub lacked : (d : Model) (xs ys : List (Cell N)) → AreCells d xs
      → had_by_both ys xs ≡ without (is_kind_among (without_like ys xs)) xs

pub record StepLaws {N : Type 0} (D : Ops N) : Type 0 where
  pub parts : PartLaws N
  pub drops : DropLaws N
  -- only cells that the other state lacks are crossed
  pub crossed : (k : Known N) (xs ys : List (Cell N)) → AreCells k.model ys
      → uncrossed D k ys xs ≡ crossed_all D k (filter (is_crossed k.model ys) (without_like ys xs)) xs
  -- cells that are surely the same become one
  pub reshared : (d : Model) (block offset : ℕ) (cs : List (Cell N)) (l r : Cell N) → AreCells d cs
      → cell_from Left block offset cs ≡ Some l → cell_from Right block offset cs ≡ Some r → are_same D l r ≡ true
      → AreCells d (map (reformed (fate_by_reshare l r)) (put (reshared_cell D l r) (each_becomes (left_by_reshare l)
      cs)))
