-- What the edits of a weak write come to.
use Rattle.std.proofs.Common.{◌≡◌, ℕ, ◌⊎◌, inl, inr, Bool, true, false, cond, ◌&&◌, not, List, [], ◌∷◌, length, Some}
use Rattle.std.proofs.Common.{None, sym, ap, subst}
use Rattle.ep_int.specs.declared.types.Model.{Model}
use Rattle.ep_bitslice.specs.declared.cell.CellName.{CellName}
use Rattle.ep_bitslice.specs.declared.cell.Side.TheVariants.{Shared}
use Rattle.ep_domain.specs.Domain.{Ops}
use Rattle.ep_cells.specs.declared.cell.Cell.{Cell}
use Rattle.ep_cells.specs.declared.place.ByteRange.{ByteRange}
use Rattle.ep_cells.specs.Cells.{place_of, place_of_name, touches, share_memory, parts_of, is_same_place, each_becomes}
use Rattle.ep_cells.specs.States.{Fits, AreCells, HasRisingBlocks}
use Rattle.ep_cells.specs.Weaken.{weak_cell, weak_part, left_by_weak_write, first_part, fate_by_weak_write, weakened}
use Rattle.ep_cells.specs.Laws.{WeakWriteLaws}
use Rattle.ep_cells.proofs.WeakCells.{AfterWeak, beside, other, joined, blurry, after_weak, after_made}
use Rattle.ep_shared_parts.specs.declared.parts.Part.{Part}
use Rattle.ep_shared_parts.specs.declared.parts.Edit.{Edit}
use Rattle.ep_shared_parts.specs.declared.uses.Use.{Use}
use Rattle.ep_bicells.specs.declared.changes.Step.TheVariants.{WeakWrite}
use Rattle.ep_shared_parts.specs.Spread.{outlines, all_items, AreSpread, installed, AreWithin}
use Rattle.ep_shared_parts.specs.Mentions.{number_of, number_of_name, AreIndexed}
use Rattle.ep_bicells.specs.Steps.{after_step, IsPlan}
use Rattle.ep_bicells.proofs.Looking.{Reaches}
use Rattle.ep_shared_parts.proofs.Planning.{Becomes, becomes_items, becomes_spread, edits_within}
use Rattle.ep_cell_steps.specs.PartsInvariant.{AreKept}
use Rattle.ep_cell_steps.specs.Weakened.{AreWeakened}
use Rattle.ep_cell_steps.proofs.Local.{changed, IsLocal, keeps_numbers, goes_apart, indexed_reformed, indexed_each}
use Rattle.ep_cell_steps.proofs.Writing.{IsConfined, planned, apart_in, apart_name}

weak_form : {N : Type 0} (D : Ops N) (d : Model) (c : Cell N) (stays : Bool) (x y : Cell N) → AfterWeak D d c stays x y
    → (y.form ≡ None) ⊎ (y.form ≡ x.form)
weak_form D d c stays x y (beside e t) = inr (ap (λ z. z.form) e)
weak_form D d c stays x y (other t e i) = inr (ap (λ z. z.form) e)
weak_form D d c stays x y (joined j) = inl (ap (λ z. z.form) j.is)
weak_form D d c stays x y (blurry j) = inl (ap (λ z. z.form) j.is)

pub weak_name : (n m : CellName) (a b : Bool)
    → cond a (cond b None (Some (record n { side = first_part n.side }))) (Some n) ≡ Some m
    → number_of_name m ≡ number_of_name n
weak_name n m true true h = absurd (cc)
weak_name n m true false h = let e : m ≡ record n { side = first_part n.side } = cc in ap number_of_name e
weak_name n m false b h = let e : m ≡ n = cc in ap number_of_name e

pub weak_local : {N : Type 0} (D : Ops N) (d : Model) (c : Cell N) (stays : Bool) → (stays ≡ true → c.side ≡ Shared)
    → IsLocal (left_by_weak_write D d c stays) (fate_by_weak_write (place_of d c))
weak_local D d c stays s = record {
  stays = λ x y k.
      let m = after_made D d c stays x y (after_weak D d c x y stays s k) in
      record { block = ap (λ z. z.block) m.is; offset = ap (λ z. z.offset) m.is };
  forms = λ x y k. weak_form D d c stays x y (after_weak D d c x y stays s k);
  names = λ n m h. weak_name n m (touches (place_of d c) (place_of_name n)) (share_memory c.side (first_part n.side)) h;
}

pub weak_confined : {N : Type 0} (D : Ops N) (d : Model) (c : Cell N) (stays : Bool) (from last : ℕ) (cs : List (Cell
    N)) → Reaches (place_of d c) from last → AreCells d cs
    → IsConfined d from last (left_by_weak_write D d c stays) (fate_by_weak_write (place_of d c)) cs
weak_confined D d c stays from last cs r a = record {
  cells = λ x i h. ap (λ b. cond (not b) (x ∷ []) (cond (stays && is_same_place c x) (weak_cell D c x) (each_becomes
      (weak_part D c) (parts_of x)))) (apart_in d (place_of d c) x from last r i h);
  names = λ n t h. ap (λ b. cond b (cond (share_memory c.side (first_part n.side)) None (Some (record n {
    side = first_part n.side;
  }))) (Some n)) (apart_name d (place_of d c) n cs from last r a t h);
}

pub weak_done : {N : Type 0} (D : Ops N) (d : Model) (c : Cell N) (stays : Bool) (us : List (Part Use)) (ps : List (Part
    (Cell N))) (es : List (Edit (Cell N))) → AreKept d ps us → (stays ≡ true → c.side ≡ Shared)
    → AreWeakened D d c stays (all_items us) ps es
    → (all_items (installed es ps) ≡ weakened D d c stays (all_items ps)) × AreSpread (outlines number_of (installed es
    ps))
weak_done {N = N} D d c stays us ps es k s w =
    let g : Cell N → List (Cell N) = left_by_weak_write D d c stays in
    let f = fate_by_weak_write (place_of d c) in
    let l : IsLocal g f = weak_local D d c stays s in
    let b : Becomes (changed g f) ps (installed es ps) = planned d g f w.from w.last (all_items us) ps es k.cells
    k.indexed (weak_confined D d c stays w.from w.last (all_items ps) w.reaches k.cells) w.plan in (
      becomes_items (changed g f) ps (installed es ps) (goes_apart g f) b,
      becomes_spread number_of (changed g f) ps (installed es ps) (keeps_numbers g f l) b k.spread,
    )

pub weak_within : {N : Type 0} (D : Ops N) (d : Model) (c : Cell N) (stays : Bool) (us : List Use) (ps : List (Part (Cell
    N))) (es : List (Edit (Cell N))) → AreWeakened D d c stays us ps es → AreWithin (length ps) es
weak_within D d c stays us ps es w = edits_within (after_step D d (WeakWrite c stays)) ps es w.plan.edits

pub weak_kept : {N : Type 0} (D : Ops N) (d : Model) (c : Cell N) (stays : Bool) (us : List (Part Use)) (ps : List (Part
    (Cell N))) (es : List (Edit (Cell N))) → AreKept d ps us → WeakWriteLaws D → Fits d c → HasRisingBlocks c.value
    → (stays ≡ true → c.side ≡ Shared) → AreWeakened D d c stays (all_items us) ps es → AreKept d (installed es ps) us
weak_kept D d c stays us ps es k law t r s w =
    let l = weak_local D d c stays s in
    let done = weak_done D d c stays us ps es k s w in
    record {
      spread = done.1;
      uses = k.uses;
      cells = subst (AreCells d) (sym done.0) (law.cells d c stays (all_items ps) k.cells t r s);
      indexed = subst (AreIndexed (all_items us)) (sym done.0) (indexed_reformed (all_items us) (fate_by_weak_write
          (place_of d c)) (each_becomes (left_by_weak_write D d c stays) (all_items ps)) l.names (indexed_each (all_items
          us) (left_by_weak_write D d c stays) (fate_by_weak_write (place_of d c)) (all_items ps) l k.indexed));
    }

-- ---- in the code's terms

pub weakened_from : {N : Type 0} (D : Ops N) (d : Model) (c x : Cell N) (p : ByteRange) (stays : Bool) (from last : ℕ) (us :
    List Use) (ps : List (Part (Cell N))) (es : List (Edit (Cell N))) → p ≡ place_of d c → x ≡ c
    → Reaches p from last → IsPlan (after_step D d (WeakWrite x stays)) from last us ps es
    → AreWeakened D d c stays us ps es
weakened_from D d c x p stays from last us ps es e i h l = record {
  from = from;
  last = last;
  reaches = subst (λ z. Reaches z from last) e h;
  plan = subst (λ z. IsPlan (after_step D d (WeakWrite z stays)) from last us ps es) i l;
}
