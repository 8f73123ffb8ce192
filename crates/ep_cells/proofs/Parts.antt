-- The parts of a cell on the sides that it has, and what a side leaves of it.
use Rattle.std.proofs.Common.{◌≡◌, true, false, ◌&&◌, None, refl, sym, subst}
use Rattle.std.proofs.lemmas.Bool.{and_from, or_left, or_right, false_from_ne_true, both_ways}
use Rattle.ep_bitslice.specs.declared.cell.Side.{Side}
use Rattle.ep_bitslice.specs.declared.cell.Side.TheVariants.{Left, Right, Shared}
use Rattle.ep_cells.specs.declared.cell.Cell.{Cell}
use Rattle.ep_cells.specs.Cells.{on_left, on_right, share_memory, side_without, IsIn, first, later, parts_on, parts_of}
use Rattle.ep_cells.proofs.Places.{Within, within_itself, within_shared, IsRest}

-- ---- sides

pub unshared_left : (s t : Side) → share_memory s t ≡ false → on_left t ≡ true → on_left s ≡ false
unshared_left s t e h =
    false_from_ne_true (on_left s) (λ k. both_ways (share_memory s t) e (or_left (on_left s && on_left t) (on_right s
    && on_right t) (and_from (on_left s) (on_left t) k h)))

pub unshared_right : (s t : Side) → share_memory s t ≡ false → on_right t ≡ true → on_right s ≡ false
unshared_right s t e h =
    false_from_ne_true (on_right s) (λ k. both_ways (share_memory s t) e (or_right (on_left s && on_left t) (on_right
    s && on_right t) (and_from (on_right s) (on_right t) k h)))

-- a side with no memory of s is left by it
pub rest_of_unshared : (s t q : Side) → share_memory s t ≡ false → Within t q → IsRest s q t
rest_of_unshared s t q e w = record {
  left = unshared_left s t e;
  right = unshared_right s t e;
  within = w;
  apart = e;
}

-- a part has one memory
pub record IsPart {N : Type 0} (x z : Cell N) : Type 0 where
  pub side : Side
  pub is : z ≡ record x { side = side }
  pub within : Within side x.side
  pub covered : (s : Side) → share_memory s side ≡ true → Within side s

pub covered_left : (s : Side) → share_memory s Left ≡ true → Within Left s
covered_left Left e = within_itself Left
covered_left Right e = absurd (cc)
covered_left Shared e = within_shared Left

pub covered_right : (s : Side) → share_memory s Right ≡ true → Within Right s
covered_right Left e = absurd (cc)
covered_right Right e = within_itself Right
covered_right Shared e = within_shared Right

pub part_on : {N : Type 0} (x z : Cell N) (q : Side) → x.side ≡ q → IsIn z (parts_on x q) → IsPart x z
part_on x _ Left e (first _) = record {
  side = x.side;
  is = refl;
  within = within_itself x.side;
  covered = λ s h.
      subst (λ (t : Side). Within t s) (sym e) (covered_left s (subst (λ (t : Side). share_memory s t ≡ true) e h));
}
part_on x z Left e (later _ _ h) = elim h [ ]
part_on x _ Right e (first _) = record {
  side = x.side;
  is = refl;
  within = within_itself x.side;
  covered = λ s h.
      subst (λ (t : Side). Within t s) (sym e) (covered_right s (subst (λ (t : Side). share_memory s t ≡ true) e h));
}
part_on x z Right e (later _ _ h) = elim h [ ]
part_on x _ Shared e (first _) = record {
  side = Left;
  is = refl;
  within = subst (Within Left) (sym e) (within_shared
      Left);
  covered = covered_left;
}
part_on x _ Shared e (later _ _ (first _)) = record {
  side = Right;
  is = refl;
  within = subst (Within Right) (sym e)
      (within_shared Right);
  covered = covered_right;
}
part_on x z Shared e (later _ _ (later _ _ h)) = elim h [ ]

pub part_is : {N : Type 0} (x z : Cell N) → IsIn z (parts_of x) → IsPart x z
part_is x z h = part_on x z x.side refl h

pub none_within : (s q : Side) → side_without s q ≡ None → Within q s
none_within Left Left e = within_itself Left
none_within Left Right e = absurd (cc)
none_within Left Shared e = absurd (cc)
none_within Right Left e = absurd (cc)
none_within Right Right e = within_itself Right
none_within Right Shared e = absurd (cc)
none_within Shared q e = within_shared q
