-- Cells next to each other that may be written at each of several places (this project's rules, after Miné 2006).
use Rattle.std.specs.Prelude.{◌≡◌, ℕ, ◌+◌, Bool, true, false, ◌&&◌, ◌||◌, not, nat_eq, nat_lt, nat_le, List, [], ◌∷◌}
use Rattle.std.specs.Prelude.{◌++◌, if◌then◌else◌}
use Rattle.ep_int.specs.declared.types.Model.{Model}
use Rattle.ep_int.specs.Types.{size_of}
use Rattle.ep_bitslice.specs.declared.cell.Side.TheVariants.{Shared}
use Rattle.ep_domain.specs.Domain.{Ops}
use Rattle.ep_cells.specs.declared.cell.Cell.{Cell}
use Rattle.ep_cells.specs.declared.place.ByteRange.{ByteRange}
use Rattle.ep_cells.specs.Cells.{place_of, touches, is_same_place, each_becomes}
use Rattle.ep_cells.specs.Weaken.{with_join}
use Rattle.ep_cells.specs.States.{Known, Each, IsCell}
use Rattle.ep_cell_ranges.specs.Moves.{weakened_each}
use Rattle.ep_cell_ranges.specs.Spots.{Spot}

-- a cell at a place, where its offset says how far behind the place it is
abbrev pub further : {N : Type 0} → Cell N → Spot → Cell N
further c q = record c { block = q.0; offset = q.1 + c.offset }

-- each cell may be written at each place, one cell after the other
abbrev pub each_weakened : {N : Type 0} → Ops N → List Spot → List (Cell N) → Known N → Known N
each_weakened D qs [] k = k
each_weakened D qs (c ∷ cs) k = each_weakened D qs cs (weakened_each D (further c) true qs k)

-- Shared cells, each behind the one before it
abbrev pub IsRow : {N : Type 0} → Model → (from : ℕ) → List (Cell N) → Type 0
IsRow d a [] = Unit {0}
IsRow d a (c ∷ cs) = (c.side ≡ Shared) × (c.offset ≡ a) × IsRow d (a + size_of d c.what) cs

abbrev pub row_bytes : {N : Type 0} → Model → List (Cell N) → ℕ
row_bytes d [] = 0
row_bytes d (c ∷ cs) = size_of d c.what + row_bytes d cs

-- each of them may be a cell at each of these places
abbrev pub FitAt : {N : Type 0} → Model → List (Cell N) → List Spot → Type 0
FitAt d cs [] = Unit {0}
FitAt d cs (q ∷ qs) = Each (λ c. IsCell d (further c q)) cs × FitAt d cs qs

-- ---- places of so many bytes, each behind the one before it

abbrev pub is_beyond : (bytes : ℕ) → Spot → Spot → Bool
is_beyond n q r = nat_lt q.0 r.0 || (nat_eq q.0 r.0 && nat_le (q.1 + n) r.1)

abbrev pub AreBeyond : (bytes : ℕ) → Spot → List Spot → Type 0
AreBeyond n q [] = Unit {0}
AreBeyond n q (r ∷ rs) = (is_beyond n q r ≡ true) × AreBeyond n q rs

abbrev pub AreSpaced : (bytes : ℕ) → List Spot → Type 0
AreSpaced n [] = Unit {0}
AreSpaced n (q ∷ qs) = AreBeyond n q qs × AreSpaced n qs

-- ---- what stands in a row at a place

-- a cell of the row stands just where this one does
abbrev pub stands_in : {N : Type 0} → List (Cell N) → Spot → Cell N → Bool
stands_in [] q x = false
stands_in (c ∷ cs) q x = is_same_place (further c q) x || stands_in cs q x

-- the first one that does
abbrev pub partner : {N : Type 0} → List (Cell N) → Spot → Cell N → Cell N
partner [] q x = x
partner (c ∷ cs) q x = if is_same_place (further c q) x then c else partner cs q x

abbrev pub joined_by : {N : Type 0} → Ops N → List (Cell N) → Spot → Cell N → Cell N
joined_by D cs q x = with_join D (partner cs q x) x

abbrev pub not_in_row : {N : Type 0} → Model → List (Cell N) → Spot → ByteRange → Cell N → List (Cell N)
not_in_row d cs q p x = if touches p (place_of d x) && not (stands_in cs q x) then x ∷ [] else []

abbrev pub joined_in : {N : Type 0} → Ops N → Model → List (Cell N) → Spot → ByteRange → Cell N → List (Cell N)
joined_in D d cs q p x = if touches p (place_of d x) then joined_by D cs q x ∷ [] else []

-- it stands just where the first one of these does, and is added, joined with that
abbrev pub Joins : {N : Type 0} → Ops N → List (Cell N) → Spot → Cell N → (old new : List (Cell N)) → Type 0
Joins D [] q x old new = ⊥
Joins D (c ∷ cs) q x old new = (is_same_place (further c q) x ≡ true) × (new ≡ old ++ with_join D c x ∷ [])

-- The place is that of the row, no cell has bytes in it but such as stand where one of the row does, and new are those,
-- joined.
pub record Faces {N : Type 0} (D : Ops N) (k : Known N) (cs : List (Cell N)) (a : ℕ) (q : Spot) (p : ByteRange)
    (new : List (Cell N))
    : Type 0 where
  pub place : p ≡ record { side = Shared; block = q.0; offset = q.1 + a; bytes = row_bytes k.model cs }
  pub others : each_becomes (not_in_row k.model cs q p) k.cells ≡ []
  pub joined : new ≡ each_becomes (joined_in D k.model cs q p) k.cells
