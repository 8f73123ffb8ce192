-- A place is cut, and new cells take it.
use Rattle.std.proofs.Common.{◌≡◌, ℕ, Bool, true, false, List, map, Some, None, IfSome, refl, sym, ap, subst}
use Rattle.ep_int.specs.declared.types.Model.{Model}
use Rattle.ep_int.specs.declared.types.Order.{Order}
use Rattle.ep_int.specs.declared.types.Scalar.{Scalar}
use Rattle.ep_int.specs.declared.types.Scalar.TheVariants.{Int, Pointer}
use Rattle.ep_int.specs.Memory.{Memory, Value as Datum, int, null}
use Rattle.ep_bitslice.specs.declared.cell.Side.{Side}
use Rattle.ep_bitslice.specs.declared.cell.Side.TheVariants.{Left, Right, Shared}
use Rattle.ep_bitslice.specs.Segments.{number}
use Rattle.ep_domain.specs.Domain.{Ops}
use Rattle.ep_cells.specs.declared.cell.Cell.{Cell}
use Rattle.ep_cells.specs.declared.place.ByteRange.{ByteRange}
use Rattle.ep_cells.specs.Cells.{on_left, on_right}
use Rattle.ep_cells.specs.States.{Known, IsCell, IsFormOf, HasForm, AreCells}
use Rattle.ep_cells.specs.Meaning.{Memories, Says, HasNumber, numbers_of, name_of, In}
use Rattle.ep_cells.specs.Memories.{IsRewritten, AreRewritten}
use Rattle.ep_cells.specs.Sound.{SaysNew}
use Rattle.ep_cells.proofs.Lists.{in_map, pairs_map}
use Rattle.ep_reads.specs.SplitLaws.{SplitLaws}
use Rattle.ep_cell_ranges.specs.Ranges.{Form, with_form, cut, form_by_cut, overwritten, form_by_replace}
use Rattle.ep_cell_ranges.specs.Follow.{FormFits, FormHas}
use Rattle.ep_cell_ranges.specs.Sound.{IsStored, AreStored, IsInside, Misses, AreNew, SayNew}
use Rattle.ep_cell_ranges.specs.Laws.{MoreSplitLaws, OverwriteLaws, ReplaceLaws}
use Rattle.ep_cell_ranges.proofs.Cut.{broken_if, broken_on, IsCut, is_cut, none_by_cut}

rewritten : (d : Model) (p : ByteRange) (t : Bool) (m n : Memory) → IsStored d p t m n
    → IsRewritten p t (broken_if t d p m) n
rewritten d p true m n h = record { elsewhere = λ b q e. (h.stored refl).beside b q e }
rewritten d p false m n h = record { elsewhere = λ b q e. h.stays refl b q }

pub are_rewritten : (d : Model) (p : ByteRange) (m n : Memories) → AreStored d p m n → AreRewritten p (broken_on d p m) n
are_rewritten d p m n h = record {
  left = rewritten d p (on_left p.side) m.left n.left h.left;
  right = rewritten d p (on_right p.side) m.right n.right h.right;
}

module _ {N : Type 0} (D : Ops N) where
  -- the machines stay
  cut_by : (s : Side) (b q n : ℕ) (k : Known N)
      → cut D (record { side = s; block = b; offset = q; bytes = n }) k
      ≡ record k { cells = (cut D (record { side = s; block = b; offset = q; bytes = n }) k).cells }
  cut_by Left b q n k = refl
  cut_by Right b q n k = refl
  cut_by Shared b q n k = refl

  pub cut_is : (p : ByteRange) (k : Known N) → cut D p k ≡ record k { cells = (cut D p k).cells }
  cut_is p k = cut_by p.side p.block p.offset p.bytes k

  -- ---- the form of a new cell, and that of what is held

  fits_of : (cs : List (Cell N)) (c : Cell N) (o : Form) → IfSome o (IsFormOf cs c) → FormFits cs c.what o
  fits_of cs c None h = tt
  fits_of cs c (Some ss) h = record { sure = refl; wide = h.wide; form = h.form; mentioned = h.mentioned }

  form_of : (cs : List (Cell N)) (c : Cell N) (o : Form) → c.maybe ≡ false → FormFits cs c.what o
      → IfSome o (IsFormOf cs c)
  form_of cs c None e h = tt
  form_of cs c (Some ss) e h = record { sure = e; wide = h.wide; form = h.form; mentioned = h.mentioned }

  -- a number that stands for the cell's
  abbrev datum_of : (os : Order × Order) (n : Memories) (c : Cell N) (w : Scalar) → Datum
  datum_of os n c (Int t) = int (numbers_of os n (name_of c t))
  datum_of os n c Pointer = null

  to_datum : (os : Order × Order) (m n : Memories) (c : Cell N) (w : Scalar) (o : Form)
      → IfSome o (λ ss. HasNumber os n c w (number (numbers_of os m) ss)) → FormHas os m w (datum_of os n c w) o
  to_datum os m n c w None h = tt
  to_datum os m n c (Int t) (Some ss) h = h
  to_datum os m n c Pointer (Some ss) h = absurd h

  from_datum : (os : Order × Order) (m n : Memories) (c : Cell N) (w : Scalar) (o : Form)
      → FormHas os m w (datum_of os n c w) o → IfSome o (λ ss. HasNumber os n c w (number (numbers_of os m) ss))
  from_datum os m n c w None h = tt
  from_datum os m n c (Int t) (Some ss) h = h
  from_datum os m n c Pointer (Some ss) h = absurd h

  says_formed : (os : Order × Order) (d : Model) (n : Memories) (c : Cell N) (g : Form → Form) → Says D os d n c
      → Says D os d n (with_form g c)
  says_formed os d n c g h = record {
    datum = h.datum;
    allowed = h.allowed;
    stands = record { left = h.stands.left; right = h.stands.right };
  }

  module _ (law : SplitLaws D) (more : MoreSplitLaws D) where
    cut_at : (k : Known N) (p : ByteRange) → AreCells k.model k.cells → IsCut D law more k p
    cut_at k p a = is_cut D law more p.side p.block p.offset p.bytes k a

    none_at : (k : Known N) (p : ByteRange) → form_by_cut D p k None ≡ None
    none_at k p = none_by_cut D law more p.side p.block p.offset p.bytes k

    abbrev formed : Known N → ByteRange → List (Cell N) → List (Cell N)
    formed k p new = map (with_form (form_by_cut D p k)) new

    -- ---- new cells, after the cut

    form_by : (k : Known N) (p : ByteRange) (c : Cell N) (o : Form) → c.form ≡ o → AreCells k.model k.cells
        → IfSome o (IsFormOf k.cells c)
        → IfSome (form_by_cut D p k o) (IsFormOf (cut D p k).cells (with_form (form_by_cut D p k) c))
    form_by k p c None e a h =
        subst (λ o. IfSome o (IsFormOf (cut D p k).cells (with_form (form_by_cut D p k) c))) (sym (none_at k p)) tt
    form_by k p c (Some ss) e a h =
        form_of (cut D p k).cells (with_form (form_by_cut D p k) c) (form_by_cut D p k (Some ss)) h.sure
        ((cut_at k p a).fits c.what (Some ss) (fits_of k.cells c (Some ss) h))

    new_after : (k : Known N) (p : ByteRange) (new : List (Cell N)) → AreCells k.model k.cells
        → AreNew k.model p k.cells new
        → AreNew k.model p (cut D p k).cells (formed k p new)
    new_after k p new a n =
        let g = with_form (form_by_cut D p k) in record {
          each = λ y i.
              let t = in_map g y new i in
              let c = n.each t.origin t.is_in in
              subst (IsCell k.model) (sym t.is)
              (let r : IsCell k.model (g t.origin) = record {
                fits = record { sort = c.fits.sort; undefined = c.fits.undefined; last = c.fits.last };
                rising = c.rising;
              } in r);
          inside = λ y i.
              let t = in_map g y new i in
              let c = n.inside t.origin t.is_in in
              subst (IsInside k.model p) (sym t.is)
              (let r : IsInside k.model p (g t.origin) = record {
                left = c.left;
                right = c.right;
                block = c.block;
                bytes = c.bytes;
              } in r);
          apart = pairs_map (Misses k.model) g new n.apart (λ x y r. r);
          forms = λ y i.
              let t = in_map g y new i in
              subst (HasForm (cut D p k).cells) (sym t.is)
              (form_by k p t.origin t.origin.form refl a (n.forms t.origin t.is_in));
        }

    new_says : (k : Known N) (p : ByteRange) (c : Cell N) (m n : Memories) → AreCells k.model k.cells → In D k m
        → HasForm k.cells c → SaysNew D k c m n
        → SaysNew D (record k { cells = (cut D p k).cells }) (with_form (form_by_cut D p k) c) (broken_on k.model p m) n
    new_says k p c m n a i h s = record {
      cell = says_formed k.orders k.model n c (form_by_cut D p k) s.cell;
      form = from_datum k.orders (broken_on k.model p m) n c c.what (form_by_cut D p k c.form)
          ((cut_at k p a).numbers m i c.what (datum_of k.orders n c c.what) c.form (fits_of k.cells c c.form h)
          (to_datum k.orders m n c c.what c.form s.form));
    }

    says_after : (k : Known N) (p : ByteRange) (new : List (Cell N)) (m n : Memories) → AreCells k.model k.cells → In D k m
        → AreNew k.model p k.cells new → SayNew D k new m n
        → SayNew D (record k { cells = (cut D p k).cells }) (formed k p new) (broken_on k.model p m) n
    says_after k p new m n a i w s = λ y j.
        let t = in_map (with_form (form_by_cut D p k)) y new j in
        subst (λ z. SaysNew D (record k { cells = (cut D p k).cells }) z (broken_on k.model p m) n) (sym t.is)
        (new_says k p t.origin m n a i (w.forms t.origin t.is_in) (s t.origin t.is_in))

    -- ---- the laws

    module _ (over : OverwriteLaws D) where
      pub of_replaces : ReplaceLaws D
      of_replaces = record {
        orders = λ k p new. ap (λ (l : Known N). l.orders) (cut_is p k);
        model = λ k p new. ap (λ (l : Known N). l.model) (cut_is p k);
        cells = λ k p new a w.
            subst (λ l. AreCells k.model (overwritten D p (formed k p new) l).cells) (sym (cut_is p k))
            (over.cells (record k { cells = (cut D p k).cells }) p (formed k p new) (cut_at k p a).cells
            (new_after k p new a w));
        holds = λ k p new a w m n i r s.
            subst (λ l. In D (overwritten D p (formed k p new) l) n) (sym (cut_is p k))
            (over.holds (record k { cells = (cut D p k).cells }) p (formed k p new) (cut_at k p a).cells
            (new_after k p new a w)
            (broken_on k.model p m) n ((cut_at k p a).holds m i) (are_rewritten k.model p m n r)
            (says_after k p new m n a i w s));
        fits = λ k p new a w f h.
            subst (λ l. FormFits (overwritten D p (formed k p new) l).cells w (form_by_replace D p k f))
            (sym (cut_is p k))
            (over.fits (record k { cells = (cut D p k).cells }) p (formed k p new) w (form_by_cut D p k f)
            ((cut_at k p a).fits w f h));
        numbers = λ k p a m n i r w v f h s.
            over.numbers (record k { cells = (cut D p k).cells }) p (cut_at k p a).cells (broken_on k.model p m) n
            ((cut_at k p a).holds m i) (are_rewritten k.model p m n r) w v (form_by_cut D p k f)
            ((cut_at k p a).fits w f h)
            ((cut_at k p a).numbers m i w v f h s);
      }
