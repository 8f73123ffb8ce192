-- What the edits of a place that may have been written come to.
use Rattle.std.proofs.Common.{◌≡◌, ℕ, ◌⊎◌, inl, inr, ⊎_elim, Bool, true, false, cond, List, [], ◌∷◌, Some, None, refl}
use Rattle.std.proofs.Common.{sym, ◌∙◌, ap, subst}
use Rattle.ep_int.specs.declared.types.Model.{Model}
use Rattle.ep_int.specs.declared.types.Order.TheVariants.{Little, Big}
use Rattle.ep_int.specs.declared.types.Scalar.{Scalar}
use Rattle.ep_int.specs.declared.types.Scalar.TheVariants.{Int, Pointer}
use Rattle.ep_bitslice.specs.declared.cell.Side.{Side}
use Rattle.ep_bitslice.specs.declared.cell.Side.TheVariants.{Left, Right, Shared}
use Rattle.ep_domain.specs.Domain.{Ops}
use Rattle.ep_cells.specs.declared.cell.Cell.{Cell}
use Rattle.ep_cells.specs.declared.place.ByteRange.{ByteRange}
use Rattle.ep_cells.specs.Cells.{IsIn, first, later, place_of, place_of_name, touches, share_memory, parts_of}
use Rattle.ep_cells.specs.Cells.{parts_on, each_becomes}
use Rattle.ep_cells.specs.States.{Known, AreCells}
use Rattle.ep_cells.specs.Weaken.{blurred, first_part, fate_by_weak_write}
use Rattle.ep_cells.proofs.Lists.{in_each}
use Rattle.ep_cell_ranges.specs.Ranges.{blurred_part, left_by_blur}
use Rattle.ep_cell_ranges.specs.Laws.{BlurLaws}
use Rattle.ep_shared_parts.specs.declared.parts.Part.{Part}
use Rattle.ep_shared_parts.specs.declared.parts.Edit.{Edit}
use Rattle.ep_shared_parts.specs.declared.uses.Use.{Use}
use Rattle.ep_shared_parts.specs.Spread.{all_items, installed}
use Rattle.ep_shared_parts.specs.Mentions.{number_of, AreIndexed}
use Rattle.ep_bicells.specs.Steps.{IsPlan}
use Rattle.ep_bicells.proofs.Looking.{Reaches}
use Rattle.ep_shared_parts.proofs.Planning.{Becomes, becomes_items, becomes_spread}
use Rattle.ep_cell_steps.specs.PartsInvariant.{AreKept}
use Rattle.ep_cell_steps.specs.Left.{cells_blurred}
use Rattle.ep_cell_steps.proofs.Local.{changed, IsLocal, keeps_numbers, goes_apart, indexed_reformed, indexed_each}
use Rattle.ep_cell_steps.proofs.Writing.{IsConfined, planned, apart_in, apart_name}
use Rattle.ep_cell_steps.proofs.Weakening.{weak_name}

-- a cell begins where another does, with its form or none
pub record Made {N : Type 0} (x y : Cell N) : Type 0 where
  pub block : y.block ≡ x.block
  pub offset : y.offset ≡ x.offset
  pub form : (y.form ≡ None) ⊎ (y.form ≡ x.form)

pub made_self : {N : Type 0} (x y : Cell N) → IsIn y (x ∷ []) → Made x y
made_self x _ (first _) = record { block = refl; offset = refl; form = inr refl }
made_self x y (later _ _ h) = elim h [ ]

pub blurred_made : {N : Type 0} (D : Ops N) (z y : Cell N) (w : Scalar) → IsIn y (blurred D z w) → Made z y
blurred_made D z _ (Int t) (first _) = record { block = refl; offset = refl; form = inl refl }
blurred_made D z y (Int t) (later _ _ h) = elim h [ ]
blurred_made D z y Pointer h = elim h [ ]

part_made : {N : Type 0} (D : Ops N) (z y : Cell N) (b : Bool) → IsIn y (cond b (blurred D z z.what) (z ∷ [])) → Made z y
part_made D z y true h = blurred_made D z y z.what h
part_made D z y false h = made_self z y h

pub record IsPart {N : Type 0} (x z : Cell N) : Type 0 where
  pub block : z.block ≡ x.block
  pub offset : z.offset ≡ x.offset
  pub form : z.form ≡ x.form

pub parts_are : {N : Type 0} (x z : Cell N) (s : Side) → IsIn z (parts_on x s) → IsPart x z
parts_are x _ Left (first _) = record { block = refl; offset = refl; form = refl }
parts_are x z Left (later _ _ h) = elim h [ ]
parts_are x _ Right (first _) = record { block = refl; offset = refl; form = refl }
parts_are x z Right (later _ _ h) = elim h [ ]
parts_are x _ Shared (first _) = record { block = refl; offset = refl; form = refl }
parts_are x _ Shared (later _ _ (first _)) = record { block = refl; offset = refl; form = refl }
parts_are x z Shared (later _ _ (later _ _ h)) = elim h [ ]

left_made : {N : Type 0} (D : Ops N) (s : Side) (x y : Cell N) (b : Bool)
    → IsIn y (cond b (each_becomes (blurred_part D s) (parts_of x)) (x ∷ [])) → Made x y
left_made D s x y true h =
    let r = in_each (blurred_part D s) y (parts_of x) h in
    let p = parts_are x r.origin x.side r.is_in in
    let m = part_made D r.origin y (share_memory s r.origin.side) r.becomes in
    record {
      block = m.block ∙ p.block;
      offset = m.offset ∙ p.offset;
      form = ⊎_elim (λ e. inl e) (λ e. inr (e ∙ p.form)) m.form;
    }
left_made D s x y false h = made_self x y h

pub blur_local : {N : Type 0} (D : Ops N) (d : Model) (p : ByteRange)
    → IsLocal (left_by_blur D d p) (fate_by_weak_write p)
blur_local D d p = record {
  stays = λ x y k.
      let m = left_made D p.side x y (touches p (place_of d x)) k in
      record { block = m.block; offset = m.offset };
  forms = λ x y k. (left_made D p.side x y (touches p (place_of d x)) k).form;
  names = λ n m h. weak_name n m (touches p (place_of_name n)) (share_memory p.side (first_part n.side)) h;
}

pub blur_confined : {N : Type 0} (D : Ops N) (d : Model) (p : ByteRange) (from last : ℕ) (cs : List (Cell N))
    → Reaches p from last → AreCells d cs → IsConfined d from last (left_by_blur D d p) (fate_by_weak_write p) cs
blur_confined D d p from last cs r a = record {
  cells = λ x i h. ap (λ b. cond b (each_becomes (blurred_part D p.side) (parts_of x)) (x ∷ [])) (apart_in d p x from
      last r i h);
  names = λ n t h. ap (λ b. cond b (cond (share_memory p.side (first_part n.side)) None (Some (record n {
    side = first_part n.side;
  }))) (Some n)) (apart_name d p n cs from last r a t h);
}

blur_becomes : {N : Type 0} (D : Ops N) (d : Model) (p : ByteRange) (from last : ℕ) (us : List (Part Use)) (ps : List (Part
    (Cell N))) (es : List (Edit (Cell N))) → AreKept d ps us → Reaches p from last
    → IsPlan (changed (left_by_blur D d p) (fate_by_weak_write p)) from last (all_items us) ps es
    → Becomes (changed (left_by_blur D d p) (fate_by_weak_write p)) ps (installed es ps)
blur_becomes D d p from last us ps es k r w =
    planned d (left_by_blur D d p) (fate_by_weak_write p) from last (all_items us) ps es k.cells k.indexed
    (blur_confined D d p from last (all_items ps) r k.cells) w

pub blur_items : {N : Type 0} (D : Ops N) (d : Model) (p : ByteRange) (from last : ℕ) (us : List (Part Use)) (ps : List
    (Part (Cell N))) (es : List (Edit (Cell N))) → AreKept d ps us → Reaches p from last
    → IsPlan (changed (left_by_blur D d p) (fate_by_weak_write p)) from last (all_items us) ps es
    → all_items (installed es ps) ≡ cells_blurred D d p (all_items ps)
blur_items D d p from last us ps es k r w =
    becomes_items (changed (left_by_blur D d p) (fate_by_weak_write p)) ps (installed es ps)
    (goes_apart (left_by_blur D d p) (fate_by_weak_write p)) (blur_becomes D d p from last us ps es k r w)

pub blur_kept : {N : Type 0} (D : Ops N) (d : Model) (p : ByteRange) (from last : ℕ) (us : List (Part Use)) (ps : List
    (Part (Cell N))) (es : List (Edit (Cell N))) → AreKept d ps us → BlurLaws D → Reaches p from last
    → IsPlan (changed (left_by_blur D d p) (fate_by_weak_write p)) from last (all_items us) ps es
    → AreKept d (installed es ps) us
blur_kept {N = N} D d p from last us ps es k law r w =
    let l = blur_local D d p in
    let e = blur_items D d p from last us ps es k r w in
    let known : Known N = record { orders = (Little, Big); model = d; cells = all_items ps } in
    record {
      spread = becomes_spread number_of (changed (left_by_blur D d p) (fate_by_weak_write p)) ps (installed es ps)
          (keeps_numbers (left_by_blur D d p) (fate_by_weak_write p) l) (blur_becomes D d p from last us ps es k r w)
          k.spread;
      uses = k.uses;
      cells = subst (AreCells d) (sym e) (law.cells known p k.cells);
      indexed = subst (AreIndexed (all_items us)) (sym e) (indexed_reformed (all_items us) (fate_by_weak_write p)
          (each_becomes (left_by_blur D d p) (all_items ps)) l.names (indexed_each (all_items us) (left_by_blur D d p)
          (fate_by_weak_write p) (all_items ps) l k.indexed));
    }
