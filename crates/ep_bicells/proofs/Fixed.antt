-- A cell that a step passes stays as it is, where its form mentions no cell.
use Rattle.std.proofs.Common.{◌≡◌, ℕ, zero, suc, ◌/◌, Bool, true, false, ◌&&◌, ◌||◌, not, nat_eq, cond, List, [], ◌∷◌}
use Rattle.std.proofs.Common.{◌++◌, map, Option, Some, None, refl, sym, ap, ◌∙◌}
use Rattle.std.specs.Option.{option_map}
use Rattle.std.specs.List.{list_all}
use Rattle.std.proofs.lemmas.Bool.{and_parts}
use Rattle.ep_int.specs.declared.types.Model.{Model}
use Rattle.ep_bitslice.specs.declared.segment.Segment.{Segment}
use Rattle.ep_bitslice.specs.declared.segment.Segment.TheVariants.{Bits, Fixed}
use Rattle.ep_bitslice.specs.Bits.{Bit, fixed}
use Rattle.ep_bitslice.specs.Segments.{fixed_bits, bits, normal}
use Rattle.ep_domain.specs.Domain.{Ops}
use Rattle.ep_cells.specs.declared.cell.Cell.{Cell}
use Rattle.ep_cells.specs.Cells.{place_of, touches, is_same_cell, is_same_place, parts_of, with_side, side_without}
use Rattle.ep_cells.specs.Cells.{each_becomes}
use Rattle.ep_cells.specs.Forms.{Fate, put_bit, bits_after, form_after, reformed}
use Rattle.ep_cells.specs.Kill.{has_target, killed_pointer}
use Rattle.ep_cells.specs.Weaken.{weak_cell, weak_part}
use Rattle.ep_cell_ranges.specs.Ranges.{blurred_part}
use Rattle.ep_bicells.specs.declared.changes.Step.{Step}
use Rattle.ep_bicells.specs.declared.changes.Step.TheVariants.{Write, WeakWrite, Kill, Blur, Split, Cross, Unshare}
use Rattle.ep_bicells.specs.declared.changes.Step.TheVariants.{Lack, Reshare}
use Rattle.ep_bicells.specs.Standing.{passes, is_number}
use Rattle.ep_bicells.specs.Steps.{left_by_step, fate_of_step, after_step}

-- ---- forms

number_stays : (f : Fate) (w v : ℕ) (bs : List Bit) → bits_after f bs ≡ Some bs
    → bits_after f (fixed_bits w v ++ bs) ≡ Some (fixed_bits w v ++ bs)
number_stays f zero v bs h = h
number_stays f (suc w) v bs h = ap (put_bit (Some (fixed _))) (number_stays f w (v / 2) bs h)

all_stay : (f : Fate) (ss : List Segment) → list_all is_number ss ≡ true → bits_after f (bits ss) ≡ Some (bits ss)
all_stay f [] h = refl
all_stay f (Bits c i j ∷ ss) h =
    absurd (let e : false ≡ true = (and_parts false (list_all is_number ss) h).0 in cc)
all_stay f (Fixed v w ∷ ss) h =
    number_stays f w v (bits ss) (all_stay f ss (and_parts true (list_all is_number ss) h).1)

form_stays : (f : Fate) (ss : List Segment) → list_all is_number ss ≡ true → normal (bits ss) ≡ ss
    → form_after f (Some ss) ≡ Some ss
form_stays f ss h e = ap (option_map normal) (all_stay f ss h) ∙ ap (λ z. Some z) e

-- ---- cells

module _ {N : Type 0} where
  off : (t : Bool) (there here : List (Cell N)) → not t ≡ true → cond t there here ≡ here
  off true there here h = absurd (let e : false ≡ true = h in cc)
  off false there here h = refl

  alive : (t u : Bool) (gone pointer here : List (Cell N)) → not (t || u) ≡ true
      → cond t gone (cond u pointer here) ≡ here
  alive true u gone pointer here h = absurd (let e : false ≡ true = h in cc)
  alive false true gone pointer here h = absurd (let e : false ≡ true = h in cc)
  alive false false gone pointer here h = refl

  module _ (D : Ops N) (d : Model) where
    passed : (step : Step N) (x : Cell N) → passes d step x ≡ true → left_by_step D d step x ≡ x ∷ []
    passed (Write p) x h = off (touches p (place_of d x)) (with_side x (side_without p.side x.side)) (x ∷ []) h
    passed (WeakWrite c stays) x h =
        ap (λ t. cond t (x ∷ []) (cond (stays && is_same_place c x) (weak_cell D c x)
        (each_becomes (weak_part D c) (parts_of x)))) h
    passed (Kill s b) x h =
        alive (nat_eq x.block b) (has_target b x.value) (with_side x (side_without s x.side))
        (killed_pointer s b x (side_without s x.side)) (x ∷ []) h
    passed (Blur p) x h =
        off (touches p (place_of d x)) (each_becomes (blurred_part D p.side) (parts_of x)) (x ∷ []) h
    passed (Split s y) x h = off (is_same_cell x y) (with_side x (side_without s x.side)) (x ∷ []) h
    passed (Cross y) x h = off (is_same_cell x y) [] (x ∷ []) h
    passed (Unshare p) x h = off (touches p (place_of d x)) (parts_of x) (x ∷ []) h
    passed (Lack y) x h = off (is_same_cell x y) [] (x ∷ []) h
    passed (Reshare l r) x h = off (nat_eq x.block l.block && nat_eq x.offset l.offset) [] (x ∷ []) h

    pub fixed_stays : (step : Step N) (x : Cell N) (ss : List Segment) → list_all is_number ss ≡ true
        → normal (bits ss) ≡ ss → x.form ≡ Some ss → passes d step x ≡ true
        → after_step D d step (x ∷ []) ≡ x ∷ []
    fixed_stays step x ss all e h p =
        let f = fate_of_step d step in
        ap (λ l. map (reformed f) (l ++ [])) (passed step x p)
        ∙ ap (λ z. record x { form = z } ∷ []) (ap (form_after f) h ∙ form_stays f ss all e ∙ sym h)
