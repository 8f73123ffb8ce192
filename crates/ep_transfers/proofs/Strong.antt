-- A cell is written at one place: what lies partly in it is split first.
use Rattle.std.proofs.Common.{◌≡◌, ◌+◌, ◌^◌, ◌≤◌, Bool, true, false, ◌||◌, List, [], ◌∷◌, Option, Some, None, IfSome}
use Rattle.std.proofs.Common.{refl}
use Rattle.ep_int.specs.declared.types.Model.{Model}
use Rattle.ep_int.specs.declared.types.Order.{Order}
use Rattle.ep_int.specs.declared.types.Scalar.{Scalar}
use Rattle.ep_int.specs.declared.types.Scalar.TheVariants.{Int, Pointer}
use Rattle.ep_int.specs.Types.{size_of}
use Rattle.ep_int.specs.Memory.{Memory, Value as Datum, int, null}
use Rattle.ep_bitslice.specs.declared.cell.Side.{Side as CellSide}
use Rattle.ep_bitslice.specs.declared.segment.Segment.{Segment}
use Rattle.ep_bitslice.specs.Segments.{number}
use Rattle.ep_domain.specs.Domain.{Ops}
use Rattle.ep_cells.specs.declared.cell.Cell.{Cell}
use Rattle.ep_cells.specs.declared.cell.Value.{Value}
use Rattle.ep_cells.specs.declared.place.ByteRange.{ByteRange}
use Rattle.ep_cells.specs.Cells.{place_of, on_left, on_right, is_partly_in, IsIn, first, later}
use Rattle.ep_cells.specs.Look.{is_some_partly_in}
use Rattle.ep_cells.specs.Write.{written}
use Rattle.ep_cells.specs.States.{Known, IsOfSort, HasRisingBlocks, IsFormOf, AreCells, CanWrite}
use Rattle.ep_cells.specs.Meaning.{Memories, Says, HasNumber, numbers_of, name_of, In}
use Rattle.ep_cells.specs.Memories.{IsRewritten}
use Rattle.ep_cells.specs.Laws.{WriteLaws}
use Rattle.ep_reads.specs.Laws.{IsFormRead}
use Rattle.ep_reads.specs.SplitLaws.{SplitLaws}
use Rattle.ep_cell_ranges.specs.Spots.{Spot}
use Rattle.ep_cell_ranges.specs.Ranges.{Form, with_form, cut, form_by_cut}
use Rattle.ep_transfers.specs.Writes.{lacks, form_unless, new_cell}
use Rattle.ep_cell_ranges.specs.Follow.{FormFits, FormHas}
use Rattle.ep_cell_ranges.specs.Sound.{IsStored, AreStored}
use Rattle.ep_cell_ranges.specs.Laws.{MoreSplitLaws}
use Rattle.ep_cell_ranges.proofs.Cut.{broken_if, broken_on, is_cut, none_by_cut}

module _ {N : Type 0} (D : Ops N) (law : SplitLaws D) (more : MoreSplitLaws D) where
  -- ---- the new cell

  -- what is written of a side, or of both, fits a state
  pub record CanGo (k : Known N) (q : Spot) (w : Scalar) (v : Option (Value N)) (f : Form) : Type 0 where
    pub sort : IsOfSort w v
    pub rising : HasRisingBlocks v
    pub last : q.1 + size_of k.model w ≤ 2 ^ 32
    pub form : FormFits k.cells w f

  undefined_by : (v : Option (Value N)) (b : Bool) → v ≡ None → lacks b v ≡ true
  undefined_by None true e = refl
  undefined_by None false e = refl
  undefined_by (Some v) b e = absurd (let q : Some v ≡ None = e in cc)

  form_of : (cs : List (Cell N)) (c : Cell N) (o : Form) → (c.maybe ≡ false) → IfSome o (IsFormRead cs c.what false) →
      IfSome o (IsFormOf cs c)
  form_of cs c None e h = tt
  form_of cs c (Some ss) e h = record { sure = e; wide = h.wide; form = h.form; mentioned = h.mentioned }

  if_none : (o : Form) (P : List Segment → Type 0) → o ≡ None → IfSome o P
  if_none None P e = tt
  if_none (Some ss) P e = absurd (let q : Some ss ≡ None = e in cc)

  has_form : (s : CellSide) (k : Known N) (q : Spot) (w : Scalar) (v : Option (Value N)) (b t : Bool) (f : Form) →
      lacks b v ≡ t → FormFits k.cells w f
      → AreCells k.model k.cells
      → IfSome (form_by_cut D (place_of k.model (new_cell s q w v b f)) k (form_unless t f))
      (IsFormOf (cut D (place_of k.model (new_cell s q w v b f)) k).cells
      (with_form (form_by_cut D (place_of k.model (new_cell s q w v b f)) k) (new_cell s q w v b f)))
  has_form s k q w v b true f e h a = if_none _ _ (none_by_cut D law more s q.0 q.1 (size_of k.model w) k)
  has_form s k q w v b false f e h a = form_of _ _ _ e
      ((is_cut D law more s q.0 q.1 (size_of k.model w) k a).fits w f h)

  none_cut_of : (d : Model) (p : ByteRange) (cs : List (Cell N)) (x : Cell N) → is_some_partly_in d p cs ≡ false → IsIn x
      cs → is_partly_in p (place_of d x) ≡ false
  none_cut_of d p [] x h i = elim i [ ]
  none_cut_of d p (c ∷ cs) x h (first _) = (or_false (is_partly_in p (place_of d x)) (is_some_partly_in d p cs) h).0
    where
      or_false : (x y : Bool) → (x || y) ≡ false → (x ≡ false) × (y ≡ false)
      or_false true y h = absurd (cc)
      or_false false y h = (refl, h)
  none_cut_of d p (c ∷ cs) x h (later _ _ i) = none_cut_of d p cs x
      (or_false (is_partly_in p (place_of d c)) (is_some_partly_in d p cs) h) i
    where
      or_false : (x y : Bool) → (x || y) ≡ false → y ≡ false
      or_false true y h = absurd (cc)
      or_false false y h = h

  pub can_write : (s : CellSide) (k : Known N) (q : Spot) (w : Scalar) (v : Option (Value N)) (b : Bool) (f : Form) →
      AreCells k.model k.cells
      → CanGo k q w v f
      → CanWrite k.model (with_form (form_by_cut D (place_of k.model (new_cell s q w v b f)) k) (new_cell s q w v b f))
      (cut D (place_of k.model (new_cell s q w v b f)) k).cells
  can_write s k q w v b f a g = record {
    fits = record { sort = g.sort; undefined = undefined_by v b; last = g.last };
    form = has_form s k q w v b (lacks b v) f refl g.form a;
    none_cut = λ x i. none_cut_of k.model (place_of k.model (new_cell s q w v b f))
        (cut D (place_of k.model (new_cell s q w v b f)) k).cells x
        (is_cut D law more s q.0 q.1 (size_of k.model w) k a).uncut i;
  }

  -- ---- the law

  pub rewritten : (d : Model) (p : ByteRange) (t : Bool) (m n : Memory) → IsStored d p t m n → IsRewritten p t
      (broken_if t d p m) n
  rewritten d p true m n h = record { elsewhere = λ b q e. (h.stored refl).beside b q e }
  rewritten d p false m n h = record { elsewhere = λ b q e. h.stays refl b q }

  -- the form of the new cell says its number in the old memories
  abbrev pub NewForm : (k : Known N) (m n : Memories) → Cell N → Type 0
  NewForm k m n c = IfSome c.form (λ ss. HasNumber k.orders n c c.what (number (numbers_of k.orders m) ss))

  -- a number that stands for the cell's
  abbrev datum_of : (os : Order × Order) (n : Memories) (c : Cell N) (w : Scalar) → Datum
  datum_of os n c (Int t) = int (numbers_of os n (name_of c t))
  datum_of os n c Pointer = null

  to_datum : (os : Order × Order) (m n : Memories) (c : Cell N) (w : Scalar) (o : Form)
      → IfSome o (λ ss. HasNumber os n c w (number (numbers_of os m) ss)) → FormHas os m w (datum_of os n c w) o
  to_datum os m n c w None h = tt
  to_datum os m n c (Int t) (Some ss) h = h
  to_datum os m n c Pointer (Some ss) h = absurd h

  from_datum : (os : Order × Order) (m n : Memories) (c : Cell N) (w : Scalar) (o : Form) → FormHas os m w
      (datum_of os n c w) o
      → IfSome o (λ ss. HasNumber os n c w (number (numbers_of os m) ss))
  from_datum os m n c w None h = tt
  from_datum os m n c (Int t) (Some ss) h = h
  from_datum os m n c Pointer (Some ss) h = absurd h

  says_formed : (os : Order × Order) (d : Model) (n : Memories) (c : Cell N) (g : Form → Form) → Says D os d n c →
      Says D os d n (with_form g c)
  says_formed os d n c g h = record {
    datum = h.datum;
    allowed = h.allowed;
    stands = record
        { left = h.stands.left; right = h.stands.right };
  }

  fits_of : (s : CellSide) (k : Known N) (q : Spot) (w : Scalar) (v : Option (Value N)) (b : Bool) (f : Form) →
      FormFits k.cells w f
      → FormFits k.cells w (form_unless b f)
  fits_of s k q w v true f h = tt
  fits_of s k q w v false f h = h

  module _ (write : WriteLaws D) where
    pub strong_cells : (s : CellSide) (k : Known N) (q : Spot) (w : Scalar) (v : Option (Value N)) (b : Bool) (f : Form)
        → AreCells k.model k.cells → CanGo k q w v f
        → AreCells k.model (written k.model (with_form (form_by_cut D (place_of k.model (new_cell s q w v b f)) k)
        (new_cell s q w v b f))
        (cut D (place_of k.model (new_cell s q w v b f)) k).cells)
    strong_cells s k q w v b f a g =
        write.cells k.model (with_form (form_by_cut D (place_of k.model (new_cell s q w v b f)) k)
        (new_cell s q w v b f))
        (cut D (place_of k.model (new_cell s q w v b f)) k).cells
        (is_cut D law more s q.0 q.1 (size_of k.model w) k a).cells (can_write s k q w v b f a g) g.rising

    pub strong_holds : (s : CellSide) (k : Known N) (q : Spot) (w : Scalar) (v : Option (Value N)) (b : Bool) (f : Form)
        → AreCells k.model k.cells → CanGo k q w v f → (m n : Memories) → In D k m
        → AreStored k.model (place_of k.model (new_cell s q w v b f)) m n → Says D k.orders k.model n
        (new_cell s q w v b f)
        → NewForm k m n (new_cell s q w v b f)
        → In D (record k {
          cells = written k.model (with_form (form_by_cut D (place_of k.model (new_cell s q w v b f))
              k) (new_cell s q w v b f))
              (cut D (place_of k.model (new_cell s q w v b f)) k).cells;
        }) n
    strong_holds s k q w v b f a g m n i r says form =
        let c : Cell N = new_cell s q w v b f in
        let p = place_of k.model c in
        let l : Known N = record k { cells = (cut D p k).cells } in
        let u = is_cut D law more s q.0 q.1 (size_of k.model w) k a in
        write.holds l (with_form (form_by_cut D p k) c) u.cells (can_write s k q w v b f a g) g.rising
        (broken_on k.model p m) n (u.holds m i)
        (record {
          left = rewritten k.model p (on_left s) m.left n.left r.left;
          right = rewritten k.model p
              (on_right s) m.right n.right r.right;
        })
        (record {
          cell = says_formed k.orders k.model n c (form_by_cut D p k) says;
          form = from_datum k.orders (broken_on k.model p m) n c w (form_by_cut D p k c.form)
              (u.numbers m i w (datum_of k.orders n c w) c.form (fits_of s k q w v (lacks b v) f g.form)
              (to_datum k.orders m n c w c.form form));
        })
