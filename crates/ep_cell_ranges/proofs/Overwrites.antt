-- New cells take a place of n bytes.
use Rattle.std.proofs.Common.{◌≡◌, ◌+◌, Bool, true, false, ◌&&◌, nat_eq, nat_lt, nat_le, cond, List, [], ◌∷◌, ⊎_elim}
use Rattle.ep_cells.proofs.Write.{own_rest}
use Rattle.std.proofs.Common.{Some, refl, sym, ◌∙◌, subst, arith}
use Rattle.std.proofs.lemmas.Bool.{and_parts, and_from, or_cases, or_left, or_right, leb-true, ltb-true, lt-ltb}
use Rattle.std.proofs.lemmas.Bool.{eqb-true, eq-eqb, false_from_ne_true, both_ways}
use Rattle.ep_int.specs.declared.types.Model.{Model}
use Rattle.ep_int.specs.declared.types.Order.{Order}
use Rattle.ep_bitslice.specs.declared.cell.Side.{Side}
use Rattle.ep_bitslice.specs.declared.cell.CellName.{CellName}
use Rattle.ep_domain.specs.Domain.{Ops}
use Rattle.ep_cells.specs.declared.cell.Cell.{Cell}
use Rattle.ep_cells.specs.declared.place.ByteRange.{ByteRange}
use Rattle.ep_cells.specs.Cells.{on_left, on_right, share_memory, side_without, with_side, place_of, place_of_name}
use Rattle.ep_cells.specs.Cells.{touches, meets, encloses, IsNamed, IsIn, put_all, each_becomes}
use Rattle.ep_cells.specs.Write.{left_by_write, fate_by_write}
use Rattle.ep_cells.specs.States.{Known, IsThere, EachPair, AreApart, AreCells}
use Rattle.ep_cells.specs.Meaning.{Memories, Says, In}
use Rattle.ep_cells.specs.Memories.{AreRewritten}
use Rattle.ep_cells.proofs.Lists.{each_in, put_all_keeps}
use Rattle.ep_cells.proofs.Places.{share_sym}
use Rattle.ep_cells.proofs.Changes.{there_reformed}
use Rattle.ep_cells.proofs.Write.{left_is, Follows, follows_by, place_named, keeps_kept}
use Rattle.ep_reads.proofs.Steps.{IsSided, IsStep, step_cells, step_holds}
use Rattle.ep_cell_ranges.specs.Ranges.{overwritten}
use Rattle.ep_cell_ranges.specs.Sound.{IsInside, AreNew, SayNew}
use Rattle.ep_cell_ranges.specs.Laws.{OverwriteLaws}
use Rattle.ep_cell_ranges.proofs.Held.{Leads, KeepsNames, held_fits, held_numbers}

-- ---- a cell in the place misses what misses the place

pub share_more : (a t s : Side) → (on_left t ≡ true → on_left s ≡ true) → (on_right t ≡ true → on_right s ≡ true)
    → share_memory a t ≡ true → share_memory a s ≡ true
share_more a t s l r h =
    ⊎_elim
    (λ e. let q = and_parts (on_left a) (on_left t) e in or_left (on_left a && on_left s) (on_right a && on_right s)
    (and_from (on_left a) (on_left s) q.0 (l q.1)))
    (λ e. let q = and_parts (on_right a) (on_right t) e in or_right (on_left a && on_left s) (on_right a && on_right s)
    (and_from (on_right a) (on_right s) q.0 (r q.1)))
    (or_cases (on_left a && on_left t) (on_right a && on_right t) h)

pub touches_more : (p q r : ByteRange) → q.block ≡ p.block → encloses p q ≡ true → touches q r ≡ true → touches p r ≡ true
touches_more p q r e i h =
    let a = and_parts (nat_eq q.block r.block) (nat_lt q.offset (r.offset + r.bytes) && nat_lt r.offset
    (q.offset + q.bytes)) h in
    let b = and_parts (nat_lt q.offset (r.offset + r.bytes)) (nat_lt r.offset (q.offset + q.bytes)) a.1 in
    let low = ltb-true q.offset (r.offset + r.bytes) b.0 in
    let high = ltb-true r.offset (q.offset + q.bytes) b.1 in
    let c = and_parts (nat_le p.offset q.offset) (nat_le (q.offset + q.bytes) (p.offset + p.bytes)) i in
    let from = leb-true p.offset q.offset c.0 in
    let to = leb-true (q.offset + q.bytes) (p.offset + p.bytes) c.1 in
    and_from (nat_eq p.block r.block) (nat_lt p.offset (r.offset + r.bytes) && nat_lt r.offset (p.offset + p.bytes))
    (eq-eqb p.block r.block (sym e ∙ eqb-true q.block r.block a.0))
    (and_from (nat_lt p.offset (r.offset + r.bytes)) (nat_lt r.offset (p.offset + p.bytes))
    (lt-ltb p.offset (r.offset + r.bytes) (omega (arith, from, low)))
    (lt-ltb r.offset (p.offset + p.bytes) (omega (arith, high, to))))

module _ {N : Type 0} where
  inside_away : (d : Model) (p : ByteRange) (c y : Cell N) → IsInside d p c → meets p (place_of d y) ≡ false
      → meets (place_of d c) (place_of d y) ≡ false
  inside_away d p c y i e =
      false_from_ne_true (meets (place_of d c) (place_of d y)) (λ h.
      let a = and_parts (share_memory c.side y.side) (touches (place_of d c) (place_of d y)) h in
      both_ways (meets p (place_of d y)) e
      (and_from (share_memory p.side y.side) (touches p (place_of d y))
      (share_sym p.side y.side ∙ share_more y.side c.side p.side i.left i.right (share_sym y.side c.side ∙ a.0))
      (touches_more p (place_of d c) (place_of d y) i.block i.bytes a.1)))

  -- ---- what is left

  left_sided : (d : Model) (p : ByteRange) (x y : Cell N) → IsIn y (left_by_write d p x) → IsSided x y
  left_sided d p x y h = let l = left_is d p x y h in record { side = l.side; is = l.is; within = l.within }

  own_left : (d : Model) (p : ByteRange) (x : Cell N) (b : Bool)
      → EachPair (AreApart d) (cond b (with_side x (side_without p.side x.side)) (x ∷ []))
  own_left d p x true = own_rest d x (side_without p.side x.side)
  own_left d p x false = (tt, tt)

  follows_write : (d : Model) (p : ByteRange) (x : Cell N) (c e : CellName) → IsNamed c x → fate_by_write p c ≡ Some e
      → Follows x (left_by_write d p x) e
  follows_write d p x c e i h =
      subst (λ z. Follows x (cond (touches p z) (with_side x (side_without p.side x.side)) (x ∷ [])) e)
      (sym (place_named d c x i))
      (subst (λ (s : Side). Follows x (cond (touches p (place_of_name c)) (with_side x (side_without p.side s))
      (x ∷ [])) e)
      (sym i.side) (follows_by x c e (side_without p.side c.side) (touches p (place_of_name c)) i h))

  there_left : (d : Model) (p : ByteRange) (cs new : List (Cell N)) (c e : CellName) → IsThere c cs
      → fate_by_write p c ≡ Some e → IsThere e (put_all new (each_becomes (left_by_write d p) cs))
  there_left d p cs new c e t h =
      let f = follows_write d p t.cell c e t.named h in record {
        cell = record t.cell { side = f.side };
        is_in = put_all_keeps new (record t.cell { side = f.side }) (each_becomes (left_by_write d p) cs)
            (each_in (left_by_write d p) t.cell (record t.cell { side = f.side }) cs t.is_in f.is_in);
        named = f.named;
        sure = t.sure;
      }

  over_step : (d : Model) (p : ByteRange) (cs new : List (Cell N)) → AreNew d p cs new
      → IsStep d [] cs new (left_by_write d p) (fate_by_write p)
  over_step d p cs new n = record {
    each = n.each;
    pairs = n.apart;
    forms = n.forms;
    sided = λ x y i j. left_sided d p x y j;
    own = λ x i. own_left d p x (touches p (place_of d x));
    away = λ c x y i j h. inside_away d p c y (n.inside c i) (left_is d p x y h).apart;
    fates = λ c e t h. there_left d p cs new c e t h;
  }

module _ {N : Type 0} (D : Ops N) where
  pub write_names : (os : Order × Order) (d : Model) (m n : Memories) (p : ByteRange) (cs : List (Cell N)) → AreCells d cs
      → ((x : Cell N) → IsIn x cs → Says D os d m x) → AreRewritten p m n → KeepsNames os m n cs (fate_by_write p)
  write_names os d m n p cs a says w = λ c e t h.
      let f = follows_write d p t.cell c e t.named h in
      let y : Cell N = record t.cell { side = f.side } in
      let l = left_is d p t.cell y f.is_in in
      keeps_kept D os d m n t.cell y c e (l.kept D os m n w) (a.each t.cell t.is_in).fits t.sure (says t.cell t.is_in)
      refl t.named f.named

  pub over_cells : (k : Known N) (p : ByteRange) (new : List (Cell N)) → AreCells k.model k.cells
      → AreNew k.model p k.cells new → AreCells k.model (overwritten D p new k).cells
  over_cells k p new a n =
      step_cells k.model [] k.cells new (left_by_write k.model p) (fate_by_write p) a
      (over_step k.model p k.cells new n)

  pub over_holds : (k : Known N) (p : ByteRange) (new : List (Cell N)) → AreCells k.model k.cells
      → AreNew k.model p k.cells new → (m n : Memories) → In D k m → AreRewritten p m n → SayNew D k new m n
      → In D (overwritten D p new k) n
  over_holds k p new a w m n i r says =
      step_holds D k.orders k.model m n [] k.cells new (left_by_write k.model p) (fate_by_write p) a
      (over_step k.model p k.cells new w) i (record {
        says = λ y j. (says y j).cell;
        numbers = λ y j. (says y j).form;
        kept = λ x y j h. (left_is k.model p x y h).kept D k.orders m n r;
        keeps = λ c e t h. write_names k.orders k.model m n p k.cells a i.cells r c e t h;
      })

  pub over_leads : (k : Known N) (p : ByteRange) (new : List (Cell N))
      → Leads k.cells (overwritten D p new k).cells (fate_by_write p)
  over_leads k p new = λ c e t h.
      there_reformed (fate_by_write p) e (put_all new (each_becomes (left_by_write k.model p) k.cells))
      (there_left k.model p k.cells new c e t h)

  pub of_overwrites : OverwriteLaws D
  of_overwrites = record {
    cells = over_cells;
    holds = over_holds;
    fits = λ k p new w f h. held_fits k.cells (overwritten D p new k).cells (fate_by_write p) (over_leads k p new) w f
        h;
    numbers = λ k p a m n i r w v f h s.
        held_numbers k.orders m n k.cells (fate_by_write p) (write_names k.orders k.model m n p k.cells a i.cells r) w v
        f h s;
  }
