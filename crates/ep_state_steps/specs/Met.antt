-- Places that meet Shared cells, several next to one another as one (this project's rules).
use Rattle.std.specs.Prelude.{◌≡◌, ℕ, ◌<◌, Bool, ◌||◌, List, [], ◌∷◌, ◌++◌, Option}
use Rattle.std.specs.Option.{option_map_or}
use Rattle.std.specs.List.{list_any}
use Rattle.ep_int.specs.declared.types.Model.{Model}
use Rattle.ep_cells.specs.declared.place.ByteRange.{ByteRange}
use Rattle.ep_cells.specs.Cells.{touches}
use Rattle.ep_reads.specs.Single.{Spots}
use Rattle.ep_state_looks.specs.Looks.{met_by}

-- Shared places with an offset of one of these
abbrev pub met_by_any : Model → List ByteRange → Spots
met_by_any d ps b q w = list_any (λ (p : ByteRange). met_by d p b q w) ps

-- these places, and last the one that may still grow
abbrev pub with_last : List ByteRange → Option ByteRange → List ByteRange
with_last ps last = option_map_or (λ p. ps ++ p ∷ []) last ps

-- one of these places touches it
abbrev pub is_touched : List ByteRange → ByteRange → Bool
is_touched ps r = list_any (λ (p : ByteRange). touches p r) ps

-- what touches u touches p or q
abbrev pub AreOne : (p q u : ByteRange) → Type 0
AreOne p q u = (r : ByteRange) → 0 < r.bytes → touches u r ≡ (touches p r || touches q r)

-- what one of the places qs touches is touched by p or by one of the places ps
abbrev pub IsOneMore : (ps : List ByteRange) (p : ByteRange) (qs : List ByteRange) → Type 0
IsOneMore ps p qs = (r : ByteRange) → 0 < r.bytes → is_touched qs r ≡ (is_touched ps r || touches p r)
