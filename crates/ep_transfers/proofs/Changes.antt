-- Changes of what is known, one after the other: what it says still holds, and forms that are held are still those of
-- values.
use Rattle.std.proofs.Common.{◌≡◌, ℕ, ◌+◌, ◌^◌, ◌≤◌, Bool, true, false, List, [], ◌∷◌, Option, Some, None, refl, sym}
use Rattle.std.proofs.Common.{ap, ◌∙◌, subst}
use Rattle.ep_int.specs.declared.types.Model.{Model}
use Rattle.ep_int.specs.declared.types.Order.{Order}
use Rattle.ep_int.specs.declared.types.Scalar.{Scalar}
use Rattle.ep_int.specs.Types.{size_of}
use Rattle.ep_int.specs.Memory.{Value as Datum}
use Rattle.ep_bitslice.specs.declared.cell.Side.{Side as CellSide}
use Rattle.ep_bitslice.specs.declared.cell.Side.TheVariants as cell_side
use Rattle.ep_domain.specs.Domain.{Ops}
use Rattle.ep_cells.specs.declared.cell.Cell.{Cell}
use Rattle.ep_cells.specs.declared.cell.Value.{Value}
use Rattle.ep_cells.specs.Cells.{place_of, on_left, on_right}
use Rattle.ep_cells.specs.Forms.{form_after}
use Rattle.ep_cells.specs.Weaken.{fate_by_weak_write}
use Rattle.ep_bitslice.specs.declared.cell.CellName.{CellName}
use Rattle.ep_cells.specs.States.{Known, IsOfSort, HasRisingBlocks, Fits, IsThere, AreCells}
use Rattle.ep_cells.specs.Meaning.{Memories, Allows, Says, numbers_of, In}
use Rattle.ep_cells.specs.Laws.{WriteLaws, WeakWriteLaws}
use Rattle.ep_cells.specs.Sound.{MayBeWeaklyWritten}
use Rattle.ep_reads.specs.Laws.{IsNumberOf}
use Rattle.ep_reads.specs.SplitLaws.{SplitLaws}
use Rattle.ep_equalities.specs.declared.pair.SideValue.{SideValue}
use Rattle.ep_cell_ranges.specs.Ranges.{Form, Reform, with_form, cut, form_by_cut, form_by_replace}
use Rattle.ep_cell_ranges.specs.Spots.{Spot}
use Rattle.ep_cell_ranges.specs.Follow.{FormFits, FormHas}
use Rattle.ep_cell_ranges.specs.Sound.{AreStored}
use Rattle.ep_cell_ranges.specs.Laws.{MoreSplitLaws, MoreWriteLaws, MoreWeakWriteLaws}
use Rattle.ep_cell_ranges.proofs.Same.{SameMemories, number_same, in_same, on_same}
use Rattle.ep_cell_ranges.proofs.Cut.{broken_on, is_cut}
use Rattle.ep_transfers.specs.Writes.{Underway, formed, formed_side, lacks, new_cell, strongly, weakly, weakly_each}
use Rattle.ep_transfers.proofs.Elsewhere.{apart_by, written_there, weak_there, cut_there}
use Rattle.ep_transfers.proofs.Strong.{CanGo, NewForm, can_write, strong_cells, strong_holds, rewritten}

-- a place is one of these
pub data IsOne (q : Spot) : List Spot → Type 0 where
  here : (qs : List Spot) → IsOne q (q ∷ qs)
  there : (r : Spot) (qs : List Spot) → IsOne q qs → IsOne q (r ∷ qs)

-- blocks that may be written
abbrev pub Blocks : Type 0
Blocks = ℕ → Bool

-- each place is in one of these blocks and has room for a scalar
abbrev pub HaveRoom : Blocks → Model → Scalar → List Spot → Type 0
HaveRoom bs d w [] = Unit {0}
HaveRoom bs d w (q ∷ qs) = ((bs q.0 ≡ true) × (q.1 + size_of d w ≤ 2 ^ 32)) × HaveRoom bs d w qs

module _ {N : Type 0} (D : Ops N) where
  -- what is known is a state that holds of these memories
  pub record IsKnown (k : Known N) (m : Memories) : Type 0 where
    pub cells : AreCells k.model k.cells
    pub holds : In D k m

  -- from one state and its memories to another, where forms that are held go on so
  pub record IsChange (k j : Known N) (g : Reform) (m n : Memories) : Type 0 where
    pub orders : j.orders ≡ k.orders
    pub model : j.model ≡ k.model
    pub after : IsKnown j n
    pub fits : (w : Scalar) (f : Form) → FormFits k.cells w f → FormFits j.cells w (g f)
    pub numbers : (w : Scalar) (x : Datum) (f : Form) → FormFits k.cells w f → FormHas k.orders m w x f
        → FormHas k.orders n w x (g f)

  has_same : (os : Order × Order) (m n : Memories) → SameMemories m n → (w : Scalar) (x : Datum) (f : Form)
      → FormHas os m w x f → FormHas os n w x f
  has_same os m n e w x None h = tt
  has_same os m n e w x (Some ss) h =
      subst (IsNumberOf w x) (sym (number_same (numbers_of os n) (numbers_of os m) ss
      (λ c. on_same c.side os m n c e))) h

  -- nothing changes
  pub no_change : (k : Known N) (m n : Memories) → IsKnown k m → SameMemories m n → IsChange k k (λ f. f) m n
  no_change k m n i e = record {
    orders = refl;
    model = refl;
    after = record { cells = i.cells; holds = in_same D k m n e i.holds };
    fits = λ w f h. h;
    numbers = λ w x f h s. has_same k.orders m n e w x f s;
  }

  pub then_change : (k j l : Known N) (g h : Reform) (m n o : Memories) → IsChange k j g m n → IsChange j l h n o
      → IsChange k l (λ f. h (g f)) m o
  then_change k j l g h m n o a b = record {
    orders = b.orders ∙ a.orders;
    model = b.model ∙ a.model;
    after = b.after;
    fits = λ w f z. b.fits w (g f) (a.fits w f z);
    numbers = λ w x f z s. subst (λ os. FormHas os o w x (h (g f))) a.orders
        (b.numbers w x (g f) (a.fits w f z) (subst (λ os. FormHas os n w x (g f)) (sym a.orders)
        (a.numbers w x f z s)));
  }

  -- What is known and what waits go on together. Cells that may be mentioned stay in all other blocks.
  pub record Goes (bs : Blocks) (u v : Underway N) (m n : Memories) : Type 0 where
    pub reform : Reform
    pub item : v.item ≡ formed reform u.item
    pub change : IsChange u.known v.known reform m n
    pub elsewhere : (c : CellName) → bs c.block ≡ false → IsThere c u.known.cells → IsThere c v.known.cells

  pub stays : (bs : Blocks) (u : Underway N) (m n : Memories) → IsKnown u.known m → SameMemories m n → Goes bs u u m n
  stays bs u m n i e = record {
    reform = λ f. f;
    item = refl;
    change = no_change u.known m n i e;
    elsewhere = λ c off
        t. t;
  }

  pub then_goes : (bs : Blocks) (u v z : Underway N) (m n o : Memories) → Goes bs u v m n → Goes bs v z n o → Goes bs
      u z m o
  then_goes bs u v z m n o a b = record {
    reform = λ f. b.reform (a.reform f);
    item = b.item ∙ ap (formed b.reform) a.item;
    change = then_change u.known v.known z.known a.reform b.reform m n o a.change b.change;
    elsewhere = λ c off t. b.elsewhere c off (a.elsewhere c off t);
  }

  -- ---- a side of what waits

  -- it may be the value and the form of a cell, where this is to stand there
  pub record IsSide (k : Known N) (m : Memories) (w : Scalar) (s : SideValue N) (maybe : Bool) (x : Option Datum) :
      Type 0 where
    pub sort : IsOfSort w s.value
    pub rising : HasRisingBlocks s.value
    pub form : FormFits k.cells w s.form
    pub allowed : Allows D w s.value (lacks maybe s.value) x
    pub says : (z : Datum) → x ≡ Some z → lacks maybe s.value ≡ false → FormHas k.orders m w z s.form

  pub side_after : (k j : Known N) (g : Reform) (m n : Memories) → IsChange k j g m n → (w : Scalar) (s : SideValue N)
      (maybe : Bool) (x : Option Datum) → IsSide k m w s maybe x → IsSide j n w (formed_side g s) maybe x
  side_after k j g m n a w s maybe x h = record {
    sort = h.sort;
    rising = h.rising;
    form = a.fits w s.form h.form;
    allowed = h.allowed;
    says = λ z e l. subst (λ os. FormHas os n w z (g s.form)) (sym a.orders)
        (a.numbers w z s.form h.form (h.says z e l));
  }

  -- ---- one place

  module _ (bs : Blocks) (split : SplitLaws D) (more : MoreSplitLaws D) (wr : WriteLaws D) (wmore : MoreWriteLaws D)
    where
      pub strong_goes : (s : CellSide) (q : Spot) (w : Scalar) (v : Option (Value N)) (b : Bool) (f : Form)
          (u : Underway N) (m n : Memories) → bs q.0 ≡ true → IsKnown u.known m → CanGo D split more u.known q w v f
          → AreStored u.known.model (place_of u.known.model (new_cell s q w v b f)) m n
          → Says D u.known.orders u.known.model n (new_cell s q w v b f)
          → NewForm D split more u.known m n (new_cell s q w v b f) → Goes bs u (strongly D (new_cell s q w v b f) u) m n
      strong_goes cell_side.Left q w v b f u m n inside i g r says form =
          let k = u.known in
          let c : Cell N = new_cell cell_side.Left q w v b f in
          let p = place_of k.model c in
          let t = is_cut D split more cell_side.Left q.0 q.1 (size_of k.model w) k i.cells in
          record {
            reform = form_by_replace D p k;
            item = refl;
            change = record {
              orders = refl;
              model = refl;
              after = record {
                cells = strong_cells D split more wr cell_side.Left k q w v b f i.cells g;
                holds = strong_holds D split more wr cell_side.Left k q w v b f i.cells g m n i.holds r says form;
              };
              fits = λ w' f' h. wmore.fits (cut D p k) (with_form (form_by_cut D p k) c) t.cells
                  (can_write D split more cell_side.Left k q w v b f i.cells g) g.rising w' (form_by_cut D p k f')
                  (t.fits w' f' h);
              numbers = λ w' x f' h y. wmore.numbers (cut D p k) (with_form (form_by_cut D p k) c) t.cells
                  (broken_on k.model p m) n (t.holds m i.holds)
                  (record {
                    left = rewritten D split more k.model p (on_left cell_side.Left) m.left n.left r.left;
                    right = rewritten D split more k.model p (on_right cell_side.Left) m.right n.right r.right;
                  })
                  w' x (form_by_cut D p k f') (t.fits w' f' h) (t.numbers m i.holds w' x f' h y);
            };
            elsewhere = λ e off h. written_there D k.model (with_form (form_by_cut D p k) c) (cut D p k).cells t.cells
                (can_write D split more cell_side.Left k q w v b f i.cells g) g.rising e
                (apart_by bs q.0 e.block inside off)
                (cut_there D split cell_side.Left q.0 q.1 (size_of k.model w) k i.cells e
                (apart_by bs q.0 e.block inside off) h);
          }
      strong_goes cell_side.Right q w v b f u m n inside i g r says form =
          let k = u.known in
          let c : Cell N = new_cell cell_side.Right q w v b f in
          let p = place_of k.model c in
          let t = is_cut D split more cell_side.Right q.0 q.1 (size_of k.model w) k i.cells in
          record {
            reform = form_by_replace D p k;
            item = refl;
            change = record {
              orders = refl;
              model = refl;
              after = record {
                cells = strong_cells D split more wr cell_side.Right k q w v b f i.cells g;
                holds = strong_holds D split more wr cell_side.Right k q w v b f i.cells g m n i.holds r says form;
              };
              fits = λ w' f' h. wmore.fits (cut D p k) (with_form (form_by_cut D p k) c) t.cells
                  (can_write D split more cell_side.Right k q w v b f i.cells g) g.rising w' (form_by_cut D p k f')
                  (t.fits w' f' h);
              numbers = λ w' x f' h y. wmore.numbers (cut D p k) (with_form (form_by_cut D p k) c) t.cells
                  (broken_on k.model p m) n (t.holds m i.holds)
                  (record {
                    left = rewritten D split more k.model p (on_left cell_side.Right) m.left n.left r.left;
                    right = rewritten D split more k.model p (on_right cell_side.Right) m.right n.right r.right;
                  })
                  w' x (form_by_cut D p k f') (t.fits w' f' h) (t.numbers m i.holds w' x f' h y);
            };
            elsewhere = λ e off h. written_there D k.model (with_form (form_by_cut D p k) c) (cut D p k).cells t.cells
                (can_write D split more cell_side.Right k q w v b f i.cells g) g.rising e
                (apart_by bs q.0 e.block inside off)
                (cut_there D split cell_side.Right q.0 q.1 (size_of k.model w) k i.cells e
                (apart_by bs q.0 e.block inside off) h);
          }
      strong_goes cell_side.Shared q w v b f u m n inside i g r says form =
          let k = u.known in
          let c : Cell N = new_cell cell_side.Shared q w v b f in
          let p = place_of k.model c in
          let t = is_cut D split more cell_side.Shared q.0 q.1 (size_of k.model w) k i.cells in
          record {
            reform = form_by_replace D p k;
            item = refl;
            change = record {
              orders = refl;
              model = refl;
              after = record {
                cells = strong_cells D split more wr cell_side.Shared k q w v b f i.cells g;
                holds = strong_holds D split more wr cell_side.Shared k q w v b f i.cells g m n i.holds r says form;
              };
              fits = λ w' f' h. wmore.fits (cut D p k) (with_form (form_by_cut D p k) c) t.cells
                  (can_write D split more cell_side.Shared k q w v b f i.cells g) g.rising w' (form_by_cut D p k f')
                  (t.fits w' f' h);
              numbers = λ w' x f' h y. wmore.numbers (cut D p k) (with_form (form_by_cut D p k) c) t.cells
                  (broken_on k.model p m) n (t.holds m i.holds)
                  (record {
                    left = rewritten D split more k.model p (on_left cell_side.Shared) m.left n.left r.left;
                    right = rewritten D split more k.model p (on_right cell_side.Shared) m.right n.right r.right;
                  })
                  w' x (form_by_cut D p k f') (t.fits w' f' h) (t.numbers m i.holds w' x f' h y);
            };
            elsewhere = λ e off h. written_there D k.model (with_form (form_by_cut D p k) c) (cut D p k).cells t.cells
                (can_write D split more cell_side.Shared k q w v b f i.cells g) g.rising e
                (apart_by bs q.0 e.block inside off)
                (cut_there D split cell_side.Shared q.0 q.1 (size_of k.model w) k i.cells e
                (apart_by bs q.0 e.block inside off) h);
          }

  -- ---- several places

  module _ (bs : Blocks) (weak : WeakWriteLaws D) (wait : MoreWeakWriteLaws D) (s : CellSide) (shared : Bool)
      (is_shared : shared ≡ true → s ≡ cell_side.Shared) (w : Scalar) (v : Option (Value N)) (b : Bool)
      (sort : IsOfSort w v) (rising : HasRisingBlocks v) where
    abbrev pub cell_at : Spot → Cell N
    cell_at q = new_cell s q w v b None

    abbrev pub MayBe : Known N → Spot → Memories → Memories → Type 0
    MayBe k q m n = MayBeWeaklyWritten D k (cell_at q) shared m n

    undefined_by : (v : Option (Value N)) (b : Bool) → v ≡ None → lacks b v ≡ true
    undefined_by None true e = refl
    undefined_by None false e = refl
    undefined_by (Some x) b e = absurd (let q : Some x ≡ None = e in cc)

    weak_goes : (q : Spot) (u : Underway N) (m n : Memories) → IsKnown u.known m
        → (bs q.0 ≡ true) × (q.1 + size_of u.known.model w ≤ 2 ^ 32) → MayBe u.known q m n
        → Goes bs u (weakly D (cell_at q) shared u) m n
    weak_goes q u m n i l r =
        let k = u.known in
        let fit : Fits k.model (cell_at q) = record { sort = sort; undefined = undefined_by v b; last = l.1 } in
        record {
          reform = form_after (fate_by_weak_write (place_of k.model (cell_at q)));
          item = refl;
          change = record {
            orders = refl;
            model = refl;
            after = record {
              cells = weak.cells k.model (cell_at q) shared k.cells i.cells fit rising is_shared;
              holds = weak.holds k (cell_at q) shared i.cells fit rising is_shared m n i.holds r;
            };
            fits = λ w' f h. wait.fits k (cell_at q) shared is_shared w' f h;
            numbers = λ w' x f h y. wait.numbers k (cell_at q) shared m n r w' x f h y;
          };
          elsewhere = λ e off h. weak_there D k.model (cell_at q) shared k.cells is_shared e
              (apart_by bs q.0 e.block l.0 off) h;
        }

    -- where the memories stay so, too
    module _ (still : (k : Known N) (q : Spot) (m : Memories) → MayBe k q m m) where
      none_goes : (qs : List Spot) (u : Underway N) (m : Memories) → IsKnown u.known m → HaveRoom bs u.known.model w qs
          → Goes bs u (weakly_each D cell_at shared qs u) m m
      none_goes [] u m i l = stays bs u m m i (record { left = λ b j. refl; right = λ b j. refl })
      none_goes (q ∷ qs) u m i l =
          let v1 = weakly D (cell_at q) shared u in
          let a = weak_goes q u m m i l.0 (still u.known q m) in
          then_goes bs u v1 (weakly_each D cell_at shared qs v1) m m m a (none_goes qs v1 m a.change.after l.1)

      pub each_goes : (q : Spot) (qs : List Spot) → IsOne q qs → (u : Underway N) (m n : Memories) → IsKnown u.known m
          → HaveRoom bs u.known.model w qs
          → ((k : Known N) → k.orders ≡ u.known.orders → k.model ≡ u.known.model → MayBe k q m n)
          → Goes bs u (weakly_each D cell_at shared qs u) m n
      each_goes q _ (here qs) u m n i l r =
          let v1 = weakly D (cell_at q) shared u in
          let a = weak_goes q u m n i l.0 (r u.known refl refl) in
          then_goes bs u v1 (weakly_each D cell_at shared qs v1) m n n a (none_goes qs v1 n a.change.after l.1)
      each_goes q _ (there p qs one) u m n i l r =
          let v1 = weakly D (cell_at p) shared u in
          let a = weak_goes p u m m i l.0 (still u.known p m) in
          then_goes bs u v1 (weakly_each D cell_at shared qs v1) m m n a
          (each_goes q qs one v1 m n a.change.after l.1 r)
