-- Two states come to have cells of the same sides, places and types (this project's rules).
use Rattle.std.specs.Prelude.{ℕ, zero, suc, ◌+◌, Bool, true, false, ◌&&◌, not, if◌then◌else◌, List, [], ◌∷◌, length}
use Rattle.std.specs.Prelude.{map, Some, None, is_some}
use Rattle.std.specs.Option.{option_map_or}
use Rattle.std.specs.List.{list_any, filter}
use Rattle.ep_int.specs.declared.types.IntType.TheVariants.{I8, U8, I16, U16, I32, U32, I64, U64}
use Rattle.ep_int.specs.declared.types.Model.{Model}
use Rattle.ep_int.specs.declared.types.Scalar.{Scalar}
use Rattle.ep_int.specs.declared.types.Scalar.TheVariants.{Int, Pointer}
use Rattle.ep_bitslice.specs.declared.cell.Side.TheVariants.{Left, Shared}
use Rattle.ep_domain.specs.Domain.{Ops}
use Rattle.ep_cells.specs.declared.cell.Cell.{Cell}
use Rattle.ep_cells.specs.declared.place.ByteRange.{ByteRange}
use Rattle.ep_cells.specs.Cells.{each_becomes, is_same_cell, is_same_side, meets, parts_of, place_of, place_of_name}
use Rattle.ep_cells.specs.Cells.{put_all}
use Rattle.ep_cells.specs.Forms.{Fate, reformed}
use Rattle.ep_cells.specs.Both.{cell_like}
use Rattle.ep_cells.specs.Reshare.{reshared}
use Rattle.ep_cells.specs.States.{Known}
use Rattle.ep_reads.specs.Bytes.{order_on}
use Rattle.ep_reads.specs.Split.{byte_cells, is_name_of}

-- ---- Shared cells that face cells of one side are parted

abbrev pub is_of_one_side : {N : Type 0} → Cell N → Bool
is_of_one_side x = not (is_same_side x.side Shared)

-- a Shared place where one of these cells of one side has a byte
abbrev pub faces : {N : Type 0} → Model → List (Cell N) → ByteRange → Bool
faces {N = N} d ys p =
    is_same_side p.side Shared && list_any (λ (y : Cell N). is_of_one_side y && meets p (place_of d y)) ys

abbrev pub left_by_facing : {N : Type 0} → Model → List (Cell N) → Cell N → List (Cell N)
left_by_facing d ys x = if faces d ys (place_of d x) then parts_of x else x ∷ []

-- mentions of a parted cell become mentions of its Left part
abbrev pub fate_by_facing : {N : Type 0} → Model → List (Cell N) → Fate
fate_by_facing d ys n = Some (if faces d ys (place_of_name n) then record n { side = Left } else n)

-- each Shared cell that faces one of the other state's cells of one side is parted
abbrev pub parted : {N : Type 0} → Model → List (Cell N) → List (Cell N) → List (Cell N)
parted d ys xs = map (reformed (fate_by_facing d ys)) (put_all (each_becomes (left_by_facing d ys) xs) [])

-- by turns, so many times
abbrev pub parted_times : {N : Type 0} → Model → ℕ → List (Cell N) × List (Cell N) → List (Cell N) × List (Cell N)
parted_times d zero p = p
parted_times d (suc n) p = parted_times d n (parted d p.1 p.0, parted d (parted d p.1 p.0) p.1)

-- Again until no Shared cell faces such a cell. Each time but the last one parts a cell, so there are no more times
-- than cells.
abbrev pub parted_both : {N : Type 0} → Model → List (Cell N) × List (Cell N) → List (Cell N) × List (Cell N)
parted_both d p = parted_times d (length p.0 + length p.1) p

-- ---- cells that overlap and aren't alike are split

-- one of these cells has a byte of it and another side, place or type
abbrev pub is_crossed : {N : Type 0} → Model → List (Cell N) → Cell N → Bool
is_crossed {N = N} d ys x =
    list_any (λ (y : Cell N). meets (place_of d x) (place_of d y) && not (is_same_cell x y)) ys

abbrev pub is_byte : Scalar → Bool
is_byte (Int I8) = false
is_byte (Int U8) = true
is_byte (Int I16) = false
is_byte (Int U16) = false
is_byte (Int I32) = false
is_byte (Int U32) = false
is_byte (Int I64) = false
is_byte (Int U64) = false
is_byte Pointer = false

-- the bytes of an integer cell of one side, with the slices of its stored form
abbrev pub bytes_on : {N : Type 0} → Ops N → Known N → Cell N → List (Cell N)
bytes_on D k x = byte_cells D k.model (order_on x.side k.orders) x.side x.form x

-- A pointer cell is gone. A cell that is a byte already is parted at the most.
abbrev pub crossed_parts : {N : Type 0} → Ops N → Known N → Cell N → Scalar → List (Cell N)
crossed_parts D k x Pointer = []
crossed_parts D k x (Int t) = if is_byte (Int t) then parts_of x else each_becomes (bytes_on D k) (parts_of x)

abbrev pub left_by_crossing : {N : Type 0} → Cell N → Cell N → List (Cell N)
left_by_crossing x y = if is_same_cell y x then [] else y ∷ []

-- mentions of a byte go on as mentions of it, or of its Left part; those of a larger cell go
abbrev pub fate_by_crossing : {N : Type 0} → Cell N → Fate
fate_by_crossing x n =
    if is_name_of n x
    then (if is_byte x.what then Some (if is_of_one_side x then n else record n { side = Left }) else None)
    else Some n

abbrev pub crossed_cell : {N : Type 0} → Ops N → Known N → Cell N → List (Cell N) → List (Cell N)
crossed_cell D k x cs =
    map (reformed (fate_by_crossing x))
    (put_all (crossed_parts D k x x.what) (each_becomes (left_by_crossing x) cs))

-- the cell like this one, as it is now
abbrev pub crossed_like : {N : Type 0} → Ops N → Known N → Cell N → List (Cell N) → List (Cell N)
crossed_like D k x cs = option_map_or (λ y. crossed_cell D k y cs) (cell_like x cs) cs

-- one after the other, each with the form that the ones before it left
abbrev pub crossed_all : {N : Type 0} → Ops N → Known N → List (Cell N) → List (Cell N) → List (Cell N)
crossed_all D k [] cs = cs
crossed_all D k (x ∷ xs) cs = crossed_all D k xs (crossed_like D k x cs)

-- all cells of the first state that those of the second cross
abbrev pub uncrossed : {N : Type 0} → Ops N → Known N → List (Cell N) → List (Cell N) → List (Cell N)
uncrossed D k ys xs = crossed_all D k (filter (is_crossed k.model ys) xs) xs

-- ---- cells that the other state lacks are gone

abbrev pub left_by_lack : {N : Type 0} → List (Cell N) → Cell N → List (Cell N)
left_by_lack ys x = if is_some (cell_like x ys) then x ∷ [] else []

abbrev pub fate_by_lack : {N : Type 0} → List (Cell N) → Fate
fate_by_lack ys n = if list_any (is_name_of n) ys then Some n else None

abbrev pub had_by_both : {N : Type 0} → List (Cell N) → List (Cell N) → List (Cell N)
had_by_both ys xs = map (reformed (fate_by_lack ys)) (each_becomes (left_by_lack ys) xs)

-- ---- both states: reshared, parted, split, and without what the other one lacks

abbrev pub uncrossed_both : {N : Type 0} → Ops N → Known N → List (Cell N) × List (Cell N)
    → List (Cell N) × List (Cell N)
uncrossed_both D k p = (uncrossed D k p.1 p.0, uncrossed D k p.0 p.1)

abbrev pub had_both : {N : Type 0} → List (Cell N) × List (Cell N) → List (Cell N) × List (Cell N)
had_both p = (had_by_both p.1 p.0, had_by_both p.0 p.1)

-- the cells of the two states, which have the same orders and model
abbrev pub unified : {N : Type 0} → Ops N → Known N → Known N → List (Cell N) × List (Cell N)
unified D k l = had_both (uncrossed_both D k (parted_both k.model (reshared D k.cells, reshared D l.cells)))
