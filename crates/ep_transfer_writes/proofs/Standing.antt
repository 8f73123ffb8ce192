-- New cells of what waits may be cells of the state.
use Rattle.std.proofs.Common.{◌≡◌, ℕ, ◌+◌, ◌^◌, ◌≤◌, Bool, true, false, cond, List, [], ◌∷◌, Option, Some, None}
use Rattle.std.proofs.Common.{IfSome, refl, subst}
use Rattle.std.specs.Option.{option_map_or}
use Rattle.ep_int.specs.declared.types.Model.{Model}
use Rattle.ep_int.specs.declared.types.IntType.{IntType}
use Rattle.ep_int.specs.declared.types.Scalar.{Scalar}
use Rattle.ep_int.specs.declared.types.Scalar.TheVariants.{Int, Pointer}
use Rattle.ep_int.specs.Types.{size_of}
use Rattle.ep_bitslice.specs.declared.cell.Side.{Side as CellSide}
use Rattle.ep_bitslice.specs.declared.cell.Side.TheVariants.{Shared}
use Rattle.ep_domain.specs.Domain.{Ops}
use Rattle.ep_cells.specs.declared.cell.Cell.{Cell}
use Rattle.ep_cells.specs.declared.cell.Value.{Value}
use Rattle.ep_cells.specs.declared.cell.Value.TheVariants.{Num, Ptr}
use Rattle.ep_cells.specs.Forms.{have_same_form, common_form}
use Rattle.ep_cells.specs.States.{Known, IsOfSort, HasRisingBlocks, IsFormOf, Fits}
use Rattle.ep_reads.specs.Laws.{IsFormRead}
use Rattle.ep_cell_ranges.specs.Ranges.{Form}
use Rattle.ep_cell_ranges.specs.Spots.{Spot}
use Rattle.ep_cell_ranges.specs.Follow.{FormFits}
use Rattle.ep_cell_ranges.specs.Sound.{IsAmong, at_first, behind, FitEach}
use Rattle.ep_state_ranges.specs.HeldForms.{at_spot, FitsAtEach}
use Rattle.ep_transfers.specs.Writes.{lacks, form_unless, new_cell, value_of_same}
use Rattle.ep_transfer_places.specs.Room.{HaveRoom}
use Rattle.ep_transfer_writes.specs.Waiting.{CanStand}

nowhere : (P : Type 0) (q : Spot) → IsAmong q [] → P
nowhere P q one = elim one [ ]

room_at : (n : ℕ) (q : Spot) (qs : List Spot) → IsAmong q qs → HaveRoom n qs → q.1 + n ≤ 2 ^ 32
room_at n q _ (at_first qs) h = h.0
room_at n q _ (behind r qs one) h = room_at n q qs one h.1

common_if : (t : Bool) (f : Form) (P : Form → Type 0) → P f → P None → P (cond t f None)
common_if true f P h i = h
common_if false f P h i = i

module _ {N : Type 0} where
  undefined_by : (v : Option (Value N)) (b : Bool) → v ≡ None → lacks b v ≡ true
  undefined_by None true e = refl
  undefined_by None false e = refl
  undefined_by (Some v) b e = absurd (let q : Some v ≡ None = e in cc)

  sure_form : (cs : List (Cell N)) (c : Cell N) (f : Form) → c.maybe ≡ false → IfSome f (IsFormRead cs c.what false)
      → IfSome f (IsFormOf cs c)
  sure_form cs c None e h = tt
  sure_form cs c (Some ss) e h = record { sure = e; wide = h.wide; form = h.form; mentioned = h.mentioned }

  form_of_new : (cs : List (Cell N)) (s : CellSide) (q : Spot) (w : Scalar) (v : Option (Value N)) (b t : Bool)
      (f : Form)
      → lacks b v ≡ t → FormFits cs w f → IfSome (form_unless t f) (IsFormOf cs (new_cell s q w v b f))
  form_of_new cs s q w v b true f e h = tt
  form_of_new cs s q w v b false f e h = sure_form cs (new_cell s q w v b f) f e h

  pub new_stands : (k : Known N) (s : CellSide) (q : Spot) (w : Scalar) (v : Option (Value N)) (b : Bool) (f : Form)
      → IsOfSort w v → HasRisingBlocks v → q.1 + size_of k.model w ≤ 2 ^ 32 → FormFits k.cells w f
      → CanStand k (new_cell s q w v b f)
  new_stands k s q w v b f sort rising room form = record {
    cell = record {
      fits = record { sort = sort; undefined = undefined_by v b; last = room };
      rising = rising;
    };
    form = form_of_new k.cells s q w v b (lacks b v) f refl form;
  }

  -- ---- what both sides have

  pub common_fits : (cs : List (Cell N)) (w : Scalar) (f g : Form) → FormFits cs w f → FormFits cs w (common_form f g)
  common_fits cs w f g h = common_if (have_same_form f g) f (FormFits cs w) h tt

  met_sort : (t : IntType) (a : N) (o : Option N) → IsOfSort (Int t) (option_map_or (λ c. Some (Num c)) o (Some
      (Num a)))
  met_sort t a None = tt
  met_sort t a (Some c) = tt

  pub same_sort : (D : Ops N) (w : Scalar) (u v : Option (Value N)) → IsOfSort w u → IsOfSort w v
      → IsOfSort w (value_of_same D u v)
  same_sort D w None v a b = b
  same_sort D w (Some u) None a b = a
  same_sort D w (Some (Ptr p)) (Some v) a b = a
  same_sort D w (Some (Num x)) (Some (Ptr p)) a b = a
  same_sort D Pointer (Some (Num x)) (Some (Num y)) a b = absurd a
  same_sort D (Int t) (Some (Num x)) (Some (Num y)) a b = met_sort t x (D.meet x y)

-- ---- one cell at several places

module _ {N : Type 0} where
  each_fits : (d : Model) (c : Cell N) (qs : List Spot) → ((q : Spot) → IsAmong q qs → Fits d (at_spot c q))
      → FitsAtEach d c qs
  each_fits d c [] h = tt
  each_fits d c (q ∷ qs) h = (h q (at_first qs), each_fits d c qs (λ r one. h r (behind q qs one)))

  pub fits_at_each : (d : Model) (c : Cell N) (stays : Bool) (qs : List Spot) → FitEach d (at_spot c) stays qs
      → FitsAtEach d c qs
  fits_at_each d c stays qs h = each_fits d c qs (λ q one. (h.cell q one).fits)

  pub shared_at_each : (d : Model) (c : Cell N) (stays : Bool) (qs : List Spot) → FitEach d (at_spot c) stays qs
      → (q : Spot) → IsAmong q qs → stays ≡ true → c.side ≡ Shared
  shared_at_each d c stays qs h q one e = h.shared q one e

  pub stands_at_each : (k : Known N) (c : Cell N) (n : ℕ) (stays : Bool) (qs : List Spot) → CanStand k c
      → n ≡ size_of k.model c.what → HaveRoom n qs → (stays ≡ true → c.side ≡ Shared)
      → FitEach k.model (at_spot c) stays qs
  stands_at_each k c n stays qs h e room shared = record {
    cell = λ q one. record {
      fits = record {
        sort = h.cell.fits.sort;
        undefined = h.cell.fits.undefined;
        last = subst (λ z. q.1 + z ≤ 2 ^ 32) e (room_at n q qs one room);
      };
      rising = h.cell.rising;
    };
    shared = λ q one e. shared e;
  }
