-- Equal forms are found to be the same.
use Rattle.std.proofs.Common.{◌≡◌, Bool, true, ◌&&◌, nat_eq, List, [], ◌∷◌, ◌↔◌, refl, subst}
use Rattle.ep_int.proofs.Basics.{nat_eq-self}
use Rattle.std.proofs.lemmas.Bool.{and_from}
use Rattle.std.proofs.lemmas.Bool.Decides.{same_from_decides}
use Rattle.ep_bitslice.specs.declared.segment.Segment.{Segment}
use Rattle.ep_bitslice.specs.declared.segment.Segment.TheVariants.{Bits, Fixed}
use Rattle.ep_bitslice.specs.Bits.{is_same_cell}
use Rattle.ep_bitslice.proofs.Joining.{cell_itself}
use Rattle.ep_cells.specs.Forms.{is_same_segment, are_same_segments}
use Rattle.ep_cells.proofs.Both.{segments_same}

pub segment_itself : (s : Segment) → is_same_segment s s ≡ true
segment_itself (Bits c f t) = and_from (is_same_cell c c) (nat_eq f f && nat_eq t t) (cell_itself c) (and_from
    (nat_eq f f) (nat_eq t t) (nat_eq-self f) (nat_eq-self t))
segment_itself (Fixed v w) = and_from (nat_eq v v) (nat_eq w w) (nat_eq-self v) (nat_eq-self w)

pub segments_itself : (ss : List Segment) → are_same_segments ss ss ≡ true
segments_itself [] = refl
segments_itself (s ∷ ss) = and_from (is_same_segment s s) (are_same_segments ss ss) (segment_itself s)
    (segments_itself ss)

pub same_is : (b : Bool) (ss ts : List Segment) → ((b ≡ true) ↔ (ss ≡ ts)) → b ≡ are_same_segments ss ts
same_is b ss ts h =
    same_from_decides {P = ss ≡ ts} b (are_same_segments ss ts) h
    (segments_same ss ts, λ e. subst (λ z. are_same_segments ss z ≡ true) e (segments_itself ss))
