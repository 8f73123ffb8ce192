-- Cells and parts that change where they stand.
use Rattle.std.specs.Prelude.{◌≡◌, ℕ, ◌<◌, Bool, true, false, ◌&&◌, ◌||◌, not, nat_eq, nat_le, nat_lt, List, length}
use Rattle.std.specs.Prelude.{get_or}
use Rattle.ep_int.specs.declared.types.Model.{Model}
use Rattle.ep_bitslice.specs.declared.segment.Segment.{Segment}
use Rattle.ep_bitslice.specs.declared.segment.Segment.TheVariants.{Bits, Fixed}
use Rattle.ep_cells.specs.declared.cell.Cell.{Cell}
use Rattle.ep_cells.specs.Cells.{place_of, touches, is_same_cell}
use Rattle.ep_cells.specs.Kill.{has_target}
use Rattle.ep_shared_parts.specs.declared.parts.Part.{Part}
use Rattle.ep_shared_parts.specs.declared.parts.Edit.{Edit}
use Rattle.ep_shared_parts.specs.Plans.{is_edited}
use Rattle.ep_bicells.specs.declared.changes.Step.{Step}
use Rattle.ep_bicells.specs.declared.changes.Step.TheVariants.{Write, WeakWrite, Kill, Blur, Split, Cross, Unshare}
use Rattle.ep_bicells.specs.declared.changes.Step.TheVariants.{Lack, Reshare}

-- the step leaves the cell, but for its form
abbrev pub passes : {N : Type 0} → Model → Step N → Cell N → Bool
passes d (Write p) x = not (touches p (place_of d x))
passes d (WeakWrite c stays) x = not (touches (place_of d c) (place_of d x))
passes d (Kill s b) x = not (nat_eq x.block b || has_target b x.value)
passes d (Blur p) x = not (touches p (place_of d x))
passes d (Split s y) x = not (is_same_cell x y)
passes d (Cross y) x = not (is_same_cell x y)
passes d (Unshare p) x = not (touches p (place_of d x))
passes d (Lack y) x = not (is_same_cell x y)
passes d (Reshare l r) x = not (nat_eq x.block l.block && nat_eq x.offset l.offset)

-- a number's bits
abbrev pub is_number : Segment → Bool
is_number (Bits c from to) = false
is_number (Fixed v w) = true

-- a part at one of the places from `first` up to `end` that isn't edited
abbrev pub is_spanned : {X : Type 0} → (first end : ℕ) → List (Edit X) → ℕ → Bool
is_spanned first end es i = nat_le first i && nat_lt i end && not (is_edited i es)

-- what h makes of the items of a part
pub record IsMade {X : Type 0} (h : List X → List X) (p q : Part X) : Type 0 where
  pub start : q.start ≡ p.start
  pub items : q.items.value.items ≡ h p.items.value.items

-- the parts of a span change, and the others stay
pub record AreSpanned {X : Type 0} (h : List X → List X) (first end : ℕ) (es : List (Edit X)) (ps qs : List (Part X)) :
    Type 0 where
  pub as_many : length qs ≡ length ps
  pub made : (i : ℕ) (d : Part X) → i < length ps → is_spanned first end es i ≡ true
      → IsMade h (get_or ps i d) (get_or qs i d)
  pub same : (i : ℕ) (d : Part X) → i < length ps → is_spanned first end es i ≡ false
      → get_or qs i d ≡ get_or ps i d
