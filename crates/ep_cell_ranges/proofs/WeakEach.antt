-- A cell may be written at one of several places.
use Rattle.std.proofs.Common.{Bool, true, false, List, [], ◌∷◌, refl}
use Rattle.ep_int.specs.declared.types.Model.{Model}
use Rattle.ep_int.specs.declared.types.Scalar.{Scalar}
use Rattle.ep_int.specs.Memory.{Value as Datum}
use Rattle.ep_domain.specs.Domain.{Ops}
use Rattle.ep_cells.specs.declared.cell.Cell.{Cell}
use Rattle.ep_cells.specs.Cells.{place_of}
use Rattle.ep_cells.specs.Forms.{form_after}
use Rattle.ep_cells.specs.Weaken.{weakened, fate_by_weak_write}
use Rattle.ep_cells.specs.States.{Known, AreCells}
use Rattle.ep_cells.specs.Meaning.{Memories, In}
use Rattle.ep_cells.specs.Laws.{WeakWriteLaws}
use Rattle.ep_cells.specs.Sound.{as_it_was, MayBeWeaklyWritten, each_side, neither, both_sides}
use Rattle.ep_cell_ranges.specs.Spots.{Spot}
use Rattle.ep_cell_ranges.specs.Ranges.{Form, with_cells}
use Rattle.ep_cell_ranges.specs.Moves.{weakened_each, form_by_weak_each}
use Rattle.ep_cell_ranges.specs.Follow.{FormFits, FormHas}
use Rattle.ep_cell_ranges.specs.Sound.{IsAmong, at_first, behind, FitEach}
use Rattle.ep_cell_ranges.specs.Laws.{MoreWeakWriteLaws, WeakEachLaws}

module _ {N : Type 0} (D : Ops N) where
  -- the memories stay as they are
  still : (k : Known N) (c : Cell N) (stays : Bool) (m : Memories) → MayBeWeaklyWritten D k c stays m m
  still k c true m = neither (λ b q. refl) (λ b q. refl)
  still k c false m = each_side refl (as_it_was (λ b q. refl)) (as_it_was (λ b q. refl))

  -- a write is one of the same machines, whatever is known
  carried : (k : Known N) (cs : List (Cell N)) (c : Cell N) (stays : Bool) (m n : Memories)
      → MayBeWeaklyWritten D k c stays m n → MayBeWeaklyWritten D (with_cells k cs) c stays m n
  carried k cs c stays m n (each_side e l r) = each_side e l r
  carried k cs c stays m n (neither l r) = neither l r
  carried k cs c stays m n (both_sides e l r s) = both_sides e l r s

  rest_fit : (d : Model) (c : Spot → Cell N) (stays : Bool) (r : Spot) (qs : List Spot) → FitEach d c stays (r ∷ qs)
      → FitEach d c stays qs
  rest_fit d c stays r qs f = record {
    cell = λ q i. f.cell q (behind r qs i);
    shared = λ q i. f.shared q (behind r qs i);
  }

  abbrev after : (Spot → Cell N) → Bool → Spot → Known N → Known N
  after c stays q k = with_cells k (weakened D k.model (c q) stays k.cells)

  module _ (weak : WeakWriteLaws D) where
    one_cells : (c : Spot → Cell N) (stays : Bool) (q : Spot) (qs : List Spot) (k : Known N) → AreCells k.model k.cells
        → FitEach k.model c stays (q ∷ qs) → AreCells k.model (after c stays q k).cells
    one_cells c stays q qs k a f =
        let e = f.cell q (at_first qs) in
        weak.cells k.model (c q) stays k.cells a e.fits e.rising (f.shared q (at_first qs))

    one_holds : (c : Spot → Cell N) (stays : Bool) (q : Spot) (qs : List Spot) (k : Known N) → AreCells k.model k.cells
        → FitEach k.model c stays (q ∷ qs) → (m n : Memories) → In D k m → MayBeWeaklyWritten D k (c q) stays m n
        → In D (after c stays q k) n
    one_holds c stays q qs k a f m n i w =
        let e = f.cell q (at_first qs) in
        weak.holds k (c q) stays a e.fits e.rising (f.shared q (at_first qs)) m n i w

    each_cells : (c : Spot → Cell N) (stays : Bool) (qs : List Spot) (k : Known N) → AreCells k.model k.cells
        → FitEach k.model c stays qs → AreCells k.model (weakened_each D c stays qs k).cells
    each_cells c stays [] k a f = a
    each_cells c stays (q ∷ qs) k a f =
        each_cells c stays qs (after c stays q k) (one_cells c stays q qs k a f) (rest_fit k.model c stays q qs f)

    none_holds : (c : Spot → Cell N) (stays : Bool) (qs : List Spot) (k : Known N) → AreCells k.model k.cells
        → FitEach k.model c stays qs → (m : Memories) → In D k m → In D (weakened_each D c stays qs k) m
    none_holds c stays [] k a f m i = i
    none_holds c stays (q ∷ qs) k a f m i =
        none_holds c stays qs (after c stays q k) (one_cells c stays q qs k a f) (rest_fit k.model c stays q qs f) m
        (one_holds c stays q qs k a f m m i (still k (c q) stays m))

    some_holds : (c : Spot → Cell N) (stays : Bool) (q : Spot) (k : Known N) (qs : List Spot) → IsAmong q qs
        → AreCells k.model k.cells → FitEach k.model c stays qs → (m n : Memories) → In D k m
        → MayBeWeaklyWritten D k (c q) stays m n → In D (weakened_each D c stays qs k) n
    some_holds c stays q k _ (at_first qs) a f m n i w =
        none_holds c stays qs (after c stays q k) (one_cells c stays q qs k a f) (rest_fit k.model c stays q qs f) n
        (one_holds c stays q qs k a f m n i w)
    some_holds c stays q k _ (behind r qs j) a f m n i w =
        some_holds c stays q (after c stays r k) qs j (one_cells c stays r qs k a f) (rest_fit k.model c stays r qs f) m
        n
        (one_holds c stays r qs k a f m m i (still k (c r) stays m))
        (carried k (weakened D k.model (c r) stays k.cells) (c q) stays m n w)

    -- ---- forms that are held

    module _ (more : MoreWeakWriteLaws D) where
      one_fits : (c : Spot → Cell N) (stays : Bool) (q : Spot) (qs : List Spot) (k : Known N)
          → FitEach k.model c stays (q ∷ qs) → (w : Scalar) (f : Form) → FormFits k.cells w f
          → FormFits (after c stays q k).cells w (form_after (fate_by_weak_write (place_of k.model (c q))) f)
      one_fits c stays q qs k e w f h = more.fits k (c q) stays (e.shared q (at_first qs)) w f h

      each_fits : (c : Spot → Cell N) (stays : Bool) (qs : List Spot) (k : Known N) → FitEach k.model c stays qs
          → (w : Scalar) (f : Form) → FormFits k.cells w f
          → FormFits (weakened_each D c stays qs k).cells w (form_by_weak_each k.model c qs f)
      each_fits c stays [] k e w f h = h
      each_fits c stays (q ∷ qs) k e w f h =
          each_fits c stays qs (after c stays q k) (rest_fit k.model c stays q qs e) w
          (form_after (fate_by_weak_write (place_of k.model (c q))) f) (one_fits c stays q qs k e w f h)

      none_numbers : (c : Spot → Cell N) (stays : Bool) (qs : List Spot) (k : Known N) → FitEach k.model c stays qs
          → (m : Memories) (w : Scalar) (v : Datum) (f : Form) → FormFits k.cells w f → FormHas k.orders m w v f
          → FormHas k.orders m w v (form_by_weak_each k.model c qs f)
      none_numbers c stays [] k e m w v f h s = s
      none_numbers c stays (q ∷ qs) k e m w v f h s =
          none_numbers c stays qs (after c stays q k) (rest_fit k.model c stays q qs e) m w v
          (form_after (fate_by_weak_write (place_of k.model (c q))) f) (one_fits c stays q qs k e w f h)
          (more.numbers k (c q) stays m m (still k (c q) stays m) w v f h s)

      some_numbers : (c : Spot → Cell N) (stays : Bool) (q : Spot) (k : Known N) (qs : List Spot) → IsAmong q qs
          → FitEach k.model c stays qs → (m n : Memories) → MayBeWeaklyWritten D k (c q) stays m n
          → (w : Scalar) (v : Datum) (f : Form) → FormFits k.cells w f → FormHas k.orders m w v f
          → FormHas k.orders n w v (form_by_weak_each k.model c qs f)
      some_numbers c stays q k _ (at_first qs) e m n i w v f h s =
          none_numbers c stays qs (after c stays q k) (rest_fit k.model c stays q qs e) n w v
          (form_after (fate_by_weak_write (place_of k.model (c q))) f) (one_fits c stays q qs k e w f h)
          (more.numbers k (c q) stays m n i w v f h s)
      some_numbers c stays q k _ (behind r qs j) e m n i w v f h s =
          some_numbers c stays q (after c stays r k) qs j (rest_fit k.model c stays r qs e) m n
          (carried k (weakened D k.model (c r) stays k.cells) (c q) stays m n i) w v
          (form_after (fate_by_weak_write (place_of k.model (c r))) f) (one_fits c stays r qs k e w f h)
          (more.numbers k (c r) stays m m (still k (c r) stays m) w v f h s)

      pub of_weak_each : WeakEachLaws D
      of_weak_each = record {
        cells = λ k c stays qs a f. each_cells c stays qs k a f;
        holds = λ k c stays qs q a f j m n i w. some_holds c stays q k qs j a f m n i w;
        fits = λ k c stays qs e w f h. each_fits c stays qs k e w f h;
        numbers = λ k c stays qs q e j m n i w v f h s. some_numbers c stays q k qs j e m n i w v f h s;
      }
