-- Forms that are held while a cell may be written.
use Rattle.std.proofs.Common.{◌≡◌, Bool, true, false, ◌&&◌, not, cond, List, [], ◌∷◌, Some, None, refl, sym, ap, ◌∙◌}
use Rattle.ep_cells.proofs.Weaken.{first_in}
use Rattle.std.proofs.Common.{subst}
use Rattle.std.proofs.lemmas.Bool.{both_ways}
use Rattle.ep_int.specs.declared.types.Model.{Model}
use Rattle.ep_int.specs.declared.types.Order.{Order}
use Rattle.ep_int.specs.Memory.{Memory}
use Rattle.ep_bitslice.specs.declared.cell.Side.{Side}
use Rattle.ep_bitslice.specs.declared.cell.Side.TheVariants.{Shared}
use Rattle.ep_bitslice.specs.declared.cell.CellName.{CellName}
use Rattle.ep_domain.specs.Domain.{Ops}
use Rattle.ep_cells.specs.declared.cell.Cell.{Cell}
use Rattle.ep_cells.specs.declared.place.ByteRange.{ByteRange}
use Rattle.ep_cells.specs.Cells.{on_left, on_right, share_memory, place_of, place_of_name, touches, is_same_place}
use Rattle.ep_cells.specs.Cells.{parts_of, IsNamed, IsIn, first, each_becomes}
use Rattle.ep_cells.specs.Weaken.{weak_cell, weak_part, left_by_weak_write, first_part, fate_by_weak_write, weakened}
use Rattle.ep_cells.specs.Sound.{MayBeWritten, as_it_was, rewritten}
use Rattle.ep_cells.proofs.Lists.{each_in}
use Rattle.ep_cells.proofs.Changes.{there_reformed}
use Rattle.ep_cells.proofs.Write.{Follows, place_named}
use Rattle.ep_cells.proofs.Beside.{left_of, right_of}
use Rattle.ep_cells.proofs.WeakCells.{shared_all}
use Rattle.ep_cell_ranges.specs.Laws.{MoreWeakWriteLaws}
use Rattle.ep_cell_ranges.proofs.Held.{Leads, held_fits, held_numbers, KeepsBeside, same_keeps, broken_keeps}
use Rattle.ep_cell_ranges.proofs.Held.{weak_names}

-- ---- where a mention goes on

-- the cell where the place doesn't touch it, its first part where that isn't written
follows_by : {N : Type 0} (x : Cell N) (l : List (Cell N)) (q : ByteRange) (a e : CellName) (t u : Bool) → IsNamed a x
    → touches q (place_of_name a) ≡ t → share_memory q.side (first_part a.side) ≡ u
    → (touches q (place_of_name a) ≡ false → IsIn x l)
    → (touches q (place_of_name a) ≡ true → share_memory q.side (first_part a.side) ≡ false
    → IsIn (record x { side = first_part a.side }) l)
    → cond t (cond u None (Some (record a { side = first_part a.side }))) (Some a) ≡ Some e → Follows x l e
follows_by x l q a e true true i g h there part k = absurd (cc)
follows_by x l q a e true false i g h there part k =
    let is : record a { side = first_part a.side } ≡ e = cc in
    record {
      side = first_part a.side;
      is_in = part g h;
      named = subst (λ z. IsNamed z (record x { side = first_part a.side })) is (record {
        side = refl;
        block = i.block;
        offset = i.offset;
        what = i.what;
      });
    }
follows_by x l q a e false u i g h there part k =
    let is : a ≡ e = cc in
    record { side = x.side; is_in = there g; named = subst (λ z. IsNamed z x) is i }

pub follows_first : {N : Type 0} (x : Cell N) (l : List (Cell N)) (q : ByteRange) (a e : CellName) → IsNamed a x
    → (touches q (place_of_name a) ≡ false → IsIn x l)
    → (touches q (place_of_name a) ≡ true → share_memory q.side (first_part a.side) ≡ false
    → IsIn (record x { side = first_part a.side }) l)
    → fate_by_weak_write q a ≡ Some e → Follows x l e
follows_first x l q a e i there part h =
    follows_by x l q a e (touches q (place_of_name a)) (share_memory q.side (first_part a.side)) i refl refl there part
    h

-- ---- a weak write

module _ {N : Type 0} (D : Ops N) where
  own_part_in : (c z : Cell N) (b : Bool) → b ≡ false → IsIn z (cond b (weak_cell D c z) (z ∷ []))
  own_part_in c z true e = absurd (cc)
  own_part_in c z false e = first []

  part_in : (c x : Cell N) → share_memory c.side (first_part x.side) ≡ false
      → IsIn (record x { side = first_part x.side }) (each_becomes (weak_part D c) (parts_of x))
  part_in c x h =
      let z : Cell N = record x { side = first_part x.side } in
      each_in (weak_part D c) z z (parts_of x) (first_in x x.side refl)
      (own_part_in c z (share_memory c.side (first_part x.side)) h)

  not_shared : (s t : Side) → share_memory s t ≡ false → s ≡ Shared → ⊥
  not_shared s t h e =
      both_ways (share_memory Shared t) (subst (λ (q : Side). share_memory q t ≡ false) e h) (shared_all t)

  stays_in : (c x z : Cell N) (stays b : Bool) → (stays ≡ true → ⊥) → (stays && is_same_place c x) ≡ b
      → IsIn z (each_becomes (weak_part D c) (parts_of x))
      → IsIn z (cond b (weak_cell D c x) (each_becomes (weak_part D c) (parts_of x)))
  stays_in c x z true b e f h = absurd (e refl)
  stays_in c x z false true e f h = absurd (cc)
  stays_in c x z false false e f h = h

  untouched_in : (d : Model) (c x : Cell N) (stays b : Bool) → b ≡ false
      → IsIn x (cond (not b) (x ∷ []) (cond (stays && is_same_place c x) (weak_cell D c x)
      (each_becomes (weak_part D c) (parts_of x))))
  untouched_in d c x stays true e = absurd (cc)
  untouched_in d c x stays false e = first []

  -- a cell whose first part isn't written has it, whether it is touched or not
  first_left : (d : Model) (c x : Cell N) (stays b : Bool) → (stays ≡ true → c.side ≡ Shared) → b ≡ true
      → share_memory c.side (first_part x.side) ≡ false
      → IsIn (record x { side = first_part x.side }) (cond (not b) (x ∷ []) (cond (stays && is_same_place c x)
      (weak_cell D c x) (each_becomes (weak_part D c) (parts_of x))))
  first_left d c x stays true s e h =
      stays_in c x (record x { side = first_part x.side }) stays (stays && is_same_place c x)
      (λ t. not_shared c.side (first_part x.side) h (s t)) refl (part_in c x h)
  first_left d c x stays false s e h = absurd (cc)

  follows_weak : (d : Model) (c x : Cell N) (stays : Bool) (a e : CellName) → IsNamed a x
      → (stays ≡ true → c.side ≡ Shared) → fate_by_weak_write (place_of d c) a ≡ Some e
      → Follows x (left_by_weak_write D d c stays x) e
  follows_weak d c x stays a e i s h =
      let same : touches (place_of d c) (place_of d x) ≡ touches (place_of d c) (place_of_name a) =
      ap (touches (place_of d c)) (place_named d a x i) in
      follows_first x (left_by_weak_write D d c stays x) (place_of d c) a e i
      (λ g. untouched_in d c x stays (touches (place_of d c) (place_of d x)) (same ∙ g))
      (λ g f. subst (λ (q : Side). IsIn (record x { side = first_part q }) (left_by_weak_write D d c stays x)) i.side
      (first_left d c x stays (touches (place_of d c) (place_of d x)) s (same ∙ g)
      (subst (λ (q : Side). share_memory c.side (first_part q) ≡ false) (sym i.side) f))) h

  pub weak_leads : (d : Model) (c : Cell N) (stays : Bool) (cs : List (Cell N)) → (stays ≡ true → c.side ≡ Shared)
      → Leads cs (weakened D d c stays cs) (fate_by_weak_write (place_of d c))
  weak_leads d c stays cs s = λ a e t h.
      let f = follows_weak d c t.cell stays a e t.named s h in
      there_reformed (fate_by_weak_write (place_of d c)) e (each_becomes (left_by_weak_write D d c stays) cs) (record {
        cell = record t.cell { side = f.side };
        is_in = each_in (left_by_weak_write D d c stays) t.cell (record t.cell { side = f.side }) cs t.is_in f.is_in;
        named = f.named;
        sure = t.sure;
      })

  written_keeps : (o : Order) (d : Model) (c : Cell N) (written : Bool) (m n : Memory)
      → MayBeWritten D o d c written m n
      → KeepsBeside (place_of d c) written m n
  written_keeps o d c written m n (as_it_was e) = same_keeps (place_of d c) written m n e
  written_keeps o d c written m n (rewritten w r v a h) = broken_keeps d (place_of d c) written m n w r

  pub of_more_weak_writes : MoreWeakWriteLaws D
  of_more_weak_writes = record {
    fits = λ k c stays s w f h.
        held_fits k.cells (weakened D k.model c stays k.cells) (fate_by_weak_write (place_of k.model c))
        (weak_leads k.model c stays k.cells s) w f h;
    numbers = λ k c stays m n i w v f h s.
        held_numbers k.orders m n k.cells (fate_by_weak_write (place_of k.model c))
        (weak_names k.orders (place_of k.model c) m n k.cells (record {
          left = written_keeps k.orders.0 k.model c (on_left c.side) m.left n.left (left_of D k c stays m n i);
          right = written_keeps k.orders.1 k.model c (on_right c.side) m.right n.right (right_of D k c stays m n i);
        })) w v f h s;
  }
