-- A pair is written at one place of each side: side by side, or as one cell of both.
use Rattle.std.proofs.Common.{◌≡◌, ℕ, ◌+◌, ◌^◌, ℤ, Bool, true, false, cond, List, [], ◌∷◌, Option, Some, None, IfSome}
use Rattle.std.proofs.Common.{IsSomeAnd, refl, ap, ◌∙◌}
use Rattle.std.specs.Option.{option_map_or}
use Rattle.ep_int.specs.declared.types.Model.{Model}
use Rattle.ep_int.specs.declared.types.Order.{Order}
use Rattle.ep_int.specs.declared.types.IntType.{IntType}
use Rattle.ep_int.specs.declared.types.Scalar.{Scalar}
use Rattle.ep_int.specs.declared.types.Scalar.TheVariants.{Int, Pointer}
use Rattle.ep_int.specs.Types.{bits_of, size_of, InRange, residue}
use Rattle.ep_int.specs.Memory.{Memory, Value as Datum, int, null, pointer, stored}
use Rattle.ep_int.proofs.Memories.{stored_covered}
use Rattle.ep_bitslice.specs.declared.cell.Side.{Side as CellSide}
use Rattle.ep_bitslice.specs.declared.cell.Side.TheVariants as cell_side
use Rattle.ep_bitslice.specs.declared.segment.Segment.{Segment}
use Rattle.ep_bitslice.specs.Segments.{number}
use Rattle.ep_domain.specs.Domain.{Ops, Lawful, Holds}
use Rattle.ep_cells.specs.declared.cell.Cell.{Cell}
use Rattle.ep_cells.specs.declared.cell.Value.{Value}
use Rattle.ep_cells.specs.declared.cell.Value.TheVariants.{Num, Ptr}
use Rattle.ep_cells.specs.Cells.{place_of, on_left, on_right}
use Rattle.ep_cells.specs.Forms.{have_same_form, common_form}
use Rattle.ep_cells.specs.States.{Known, IsOfSort, HasRisingBlocks, AreCells}
use Rattle.ep_cells.specs.Meaning.{Memories, Allows, Has, Says, StandsAt, HasNumber, numbers_of, In}
use Rattle.ep_cells.specs.Memories.{IsBroken}
use Rattle.ep_cells.specs.Laws.{WriteLaws}
use Rattle.ep_cells.proofs.Bytes.{number_of_cell}
use Rattle.ep_reads.specs.SplitLaws.{SplitLaws}
use Rattle.ep_core.specs.Runs.{left, right}
use Rattle.ep_equalities.specs.declared.pair.SideValue.{SideValue}
use Rattle.ep_equalities.specs.declared.pair.PairValue.{PairValue}
use Rattle.ep_equalities.specs.Pairs.{HasFormNumber, SideIn}
use Rattle.ep_cell_ranges.specs.Spots.{Spot}
use Rattle.ep_evaluation.specs.Operators.{Form}
use Rattle.ep_cell_ranges.specs.Ranges.{with_form, cut, form_by_cut, form_by_replace}
use Rattle.ep_transfers.specs.Writes.{Item, underway, new_cell, write_side, write_sides, value_of_same, write_shared}
use Rattle.ep_reads.specs.Laws.{IsNumberOf}
use Rattle.ep_cell_ranges.specs.Follow.{FormFits, FormHas}
use Rattle.ep_cell_ranges.specs.Laws.{MoreSplitLaws, MoreWriteLaws}
use Rattle.ep_cell_ranges.proofs.Cut.{broken_on, is_cut}
use Rattle.ep_transfers.proofs.Strong.{CanGo, can_write, strong_cells, strong_holds}

-- ---- a value in memory, and its cell

-- the memory is one with this value there
abbrev pub IsWith : Order → Model → Scalar → Spot → Datum → (m n : Memory) → Type 0
IsWith o d w q x m n = (b j : ℕ) → n b j ≡ stored o d m w q.0 q.1 x b j

pub with_beside : (o : Order) (d : Model) (w : Scalar) (s : CellSide) (q : Spot) (x : Datum) (m n : Memory) → IsWith o
    d w q x m n
    → IsBroken d (record { side = s; block = q.0; offset = q.1; bytes = size_of d w }) m n
with_beside o d w s q x m n h = record { beside = λ b j e. h b j ∙ rw e refl }

pub with_there : (o : Order) (d : Model) (w : Scalar) (q : Spot) (x : Datum) (m n : Memory) → IsWith o d w q x m n
    → Has o n w q.0 q.1 (size_of d w) x
with_there o d w q x m n h = λ j l. h q.0 (q.1 + j) ∙ stored_covered o d m w q.0 q.1 x j l

module _ {N : Type 0} (D : Ops N) where
  pub new_says : (s : CellSide) (os : Order × Order) (d : Model) (n : Memories) (q : Spot) (w : Scalar)
      (v : Option (Value N)) (f : Form) (x : Datum)
      → Allows D w v false (Some x) → (on_left s ≡ true → Has os.0 n.left w q.0 q.1 (size_of d w) x)
      → (on_right s ≡ true → Has os.1 n.right w q.0 q.1 (size_of d w) x) → Says D os d n (new_cell s q w v false f)
  new_says s os d n q w None f x a l r = absurd (let e : Some x ≡ None = a in cc)
  new_says s os d n q w (Some u) f x a l r = record {
    datum = Some x;
    allowed = a;
    stands = record {
      left = l;
      right =
          r;
    };
  }

  -- its form has the number that the value has
  pub form_says : (s : CellSide) (os : Order × Order) (d : Model) (m n : Memories) (q : Spot) (w : Scalar)
      (u : Value N) (f : Form) (x : Datum)
      → Allows D w (Some u) false (Some x) → (on_left s ≡ true → Has os.0 n.left w q.0 q.1 (size_of d w) x)
      → (on_right s ≡ true → Has os.1 n.right w q.0 q.1 (size_of d w) x) → (g : Form) → FormHas os m w x g
      → IfSome g (λ ss. HasNumber os n (new_cell s q w (Some u) false f) w (number (numbers_of os m) ss))
  form_says s os d m n q w u f x a l r None h = tt
  form_says s os d m n q Pointer u f x a l r (Some ss) h = absurd h
  form_says s os d m n q (Int t) (Ptr p) f x a l r (Some ss) h = absurd (never x a)
    where
      never : (x : Datum) → Allows D (Int t) (Some (Ptr p)) false (Some x) → ⊥
      never (int z) a = a
      never null a = a
      never (pointer b o) a = a
  form_says s os d m n q (Int t) (Num v) f null a l r (Some ss) h = absurd a
  form_says s os d m n q (Int t) (Num v) f (pointer b o) a l r (Some ss) h = absurd a
  form_says s os d m n q (Int t) (Num v) f (int z) a l r (Some ss) h =
      let c : Cell N = new_cell s q (Int t) (Some (Num v)) false f in
      let stands : StandsAt os d n c (Some (int z)) = record { left = l; right = r } in
      ap (λ y. residue (2 ^ bits_of t) y) (number_of_cell os d n c t z refl refl a.0 stands) ∙ h

  pub new_form : (s : CellSide) (os : Order × Order) (d : Model) (m n : Memories) (q : Spot) (w : Scalar)
      (v : Option (Value N)) (f : Form) (x : Datum)
      → Allows D w v false (Some x) → (on_left s ≡ true → Has os.0 n.left w q.0 q.1 (size_of d w) x)
      → (on_right s ≡ true → Has os.1 n.right w q.0 q.1 (size_of d w) x) → FormHas os m w x f
      → IfSome (new_cell s q w v false f).form (λ ss. HasNumber os n (new_cell s q w v false f) w
      (number (numbers_of os m) ss))
  new_form s os d m n q w None f x a l r h = absurd (let e : Some x ≡ None = a in cc)
  new_form s os d m n q w (Some u) f x a l r h = form_says s os d m n q w u f x a l r f h

-- ---- what a side's form says is what a held form says

number_held : (os : Order × Order) (m : Memories) (w : Scalar) (x : Datum) (ss : List Segment)
    → HasFormNumber (numbers_of os m) w x ss → IsNumberOf w x (number (numbers_of os m) ss)
number_held os m (Int t) (int z) ss h = h
number_held os m (Int t) null ss h = absurd h
number_held os m (Int t) (pointer b o) ss h = absurd h
number_held os m Pointer x ss h = absurd h

held_number : (os : Order × Order) (m : Memories) (w : Scalar) (x : Datum) (ss : List Segment)
    → IsNumberOf w x (number (numbers_of os m) ss) → HasFormNumber (numbers_of os m) w x ss
held_number os m (Int t) (int z) ss h = h
held_number os m (Int t) null ss h = absurd h
held_number os m (Int t) (pointer b o) ss h = absurd h
held_number os m Pointer x ss h = absurd h

pub as_held : (os : Order × Order) (m : Memories) (w : Scalar) (x : Datum) (f : Form)
    → IfSome f (HasFormNumber (numbers_of os m) w x) → FormHas os m w x f
as_held os m w x None h = tt
as_held os m w x (Some ss) h = number_held os m w x ss h

pub from_held : (os : Order × Order) (m : Memories) (w : Scalar) (x : Datum) (f : Form) → FormHas os m w x f
    → IfSome f (HasFormNumber (numbers_of os m) w x)
from_held os m w x None h = tt
from_held os m w x (Some ss) h = held_number os m w x ss h

-- ---- one side

module _ {N : Type 0} (D : Ops N) (law : SplitLaws D) (more : MoreSplitLaws D) (write : WriteLaws D) where
  abbrev pub Fit : Known N → Spot → Scalar → SideValue N → Type 0
  Fit k q w x = CanGo D law more k q w x.value x.form

  pub record IsWritten (k after : Known N) (n : Memories) : Type 0 where
    pub orders : after.orders ≡ k.orders
    pub model : after.model ≡ k.model
    pub cells : AreCells k.model after.cells
    pub holds : In D (record k { cells = after.cells }) n

  -- of a pair that surely has values
  abbrev pub sure_item : PairValue N → Bool → Item N
  sure_item v same = record { pair = v; left_maybe = false; right_maybe = false; same = same }

  pub left_written : (k : Known N) (q : Spot) (w : Scalar) (v : PairValue N) (same : Bool) (m n : Memories)
      (x : Datum) → AreCells k.model k.cells
      → In D k m → Fit k q w v.left → SideIn D (numbers_of k.orders m) w v.left x → IsWith k.orders.0 k.model w q x
      m.left n.left
      → ((b j : ℕ) → n.right b j ≡ m.right b j)
      → IsWritten k (write_side D left w (q ∷ []) (underway k (sure_item v same))).known n
  left_written k q w v same m n x a i g h l r =
      let there = with_there k.orders.0 k.model w q x m.left n.left l in record {
        orders = refl;
        model = refl;
        cells = strong_cells D law more write cell_side.Left k q w v.left.value false v.left.form a g;
        holds = strong_holds D law more write cell_side.Left k q w v.left.value false v.left.form a g m n i
            (record {
              left = record {
                stored = λ e. with_beside k.orders.0 k.model w cell_side.Left q x m.left n.left l;
                stays
                    = λ e. absurd (cc);
              };
              right = record { stored = λ e. absurd (cc); stays = λ e b j. r b j };
            })
            (new_says D cell_side.Left k.orders k.model n q w v.left.value v.left.form x h.value (λ e. there)
            (λ e. absurd (cc)))
            (new_form D cell_side.Left k.orders k.model m n q w v.left.value v.left.form x h.value (λ e. there)
            (λ e. absurd (cc)) (as_held k.orders m w x v.left.form h.form));
      }

  pub right_written : (k : Known N) (q : Spot) (w : Scalar) (v : PairValue N) (same : Bool) (m n : Memories)
      (x : Datum) → AreCells k.model k.cells
      → In D k m → Fit k q w v.right → SideIn D (numbers_of k.orders m) w v.right x → IsWith k.orders.1 k.model w q x
      m.right n.right
      → ((b j : ℕ) → n.left b j ≡ m.left b j)
      → IsWritten k (write_side D right w (q ∷ []) (underway k (sure_item v same))).known n
  right_written k q w v same m n x a i g h l r =
      let there = with_there k.orders.1 k.model w q x m.right n.right l in record {
        orders = refl;
        model = refl;
        cells = strong_cells D law more write cell_side.Right k q w v.right.value false v.right.form a g;
        holds = strong_holds D law more write cell_side.Right k q w v.right.value false v.right.form a g m n i
            (record {
              left = record { stored = λ e. absurd (cc); stays = λ e b j. r b j };
              right = record {
                stored = λ e. with_beside k.orders.1 k.model w cell_side.Right q x m.right n.right l;
                stays = λ e. absurd (cc);
              };
            })
            (new_says D cell_side.Right k.orders k.model n q w v.right.value v.right.form x h.value (λ e. absurd (cc))
            (λ e. there))
            (new_form D cell_side.Right k.orders k.model m n q w v.right.value v.right.form x h.value
            (λ e. absurd (cc)) (λ e. there) (as_held k.orders m w x v.right.form h.form));
      }

  -- ---- the left, then the right: the form of the right value follows

  module _ (wmore : MoreWriteLaws D) where
    abbrev after_left : (k : Known N) (q : Spot) (w : Scalar) (v : PairValue N) → Form → Form
    after_left k q w v f = form_by_replace D (place_of k.model
        (new_cell cell_side.Left q w v.left.value false v.left.form)) k f

    follows : (k : Known N) (q : Spot) (w : Scalar) (v : PairValue N) → AreCells k.model k.cells → Fit k q w v.left
        → (same : Bool) (u : Scalar) (f : Form) → FormFits k.cells u f
        → FormFits (write_side D left w (q ∷ []) (underway k (sure_item v same))).known.cells u (after_left k q w v f)
    follows k q w v a g same u f h =
        let c : Cell N = new_cell cell_side.Left q w v.left.value false v.left.form in
        let p = place_of k.model c in
        let t = is_cut D law more cell_side.Left q.0 q.1 (size_of k.model w) k a in
        wmore.fits (cut D p k) (with_form (form_by_cut D p k) c) t.cells
        (can_write D law more cell_side.Left k q w v.left.value false v.left.form a g) g.rising
        u (form_by_cut D p k f) (t.fits u f h)

    says_after : (k : Known N) (q : Spot) (w : Scalar) (v : PairValue N) (m n : Memories) (x : Datum) → AreCells
        k.model k.cells → In D k m
        → IsWith k.orders.0 k.model w q x m.left n.left → ((b j : ℕ) → n.right b j ≡ m.right b j)
        → (u : Scalar) (y : Datum) (f : Form) → FormFits k.cells u f → FormHas k.orders m u y f → FormHas k.orders n u
        y (after_left k q w v f)
    says_after k q w v m n x a i l r u y f h s =
        let c : Cell N = new_cell cell_side.Left q w v.left.value false v.left.form in
        let p = place_of k.model c in
        let t = is_cut D law more cell_side.Left q.0 q.1 (size_of k.model w) k a in
        wmore.numbers (cut D p k) (with_form (form_by_cut D p k) c) t.cells (broken_on k.model p m) n (t.holds m i)
        (record {
          left = record {
            elsewhere = λ b j e. (with_beside k.orders.0 k.model w cell_side.Left q x m.left n.left
                l).beside b j e;
          };
          right = record { elsewhere = λ b j e. r b j };
        })
        u y (form_by_cut D p k f) (t.fits u f h) (t.numbers m i u y f h s)

    pub sides_written : (k : Known N) (q r : Spot) (w : Scalar) (v : PairValue N) (same : Bool) (m n : Memories)
        (x y : Datum) → AreCells k.model k.cells
        → In D k m → Fit k q w v.left → Fit k r w v.right → SideIn D (numbers_of k.orders m) w v.left x
        → SideIn D (numbers_of k.orders m) w v.right y → IsWith k.orders.0 k.model w q x m.left n.left
        → IsWith k.orders.1 k.model w r y m.right n.right
        → IsWritten k (write_sides D w (record { left = q ∷ []; right = r ∷ [] })
        (underway k (sure_item v same))).known n
    sides_written k q r w v same m n x y a i g h sx sy l t =
        let h1 : Memories = record { left = n.left; right = m.right } in
        let one = left_written k q w v same m h1 x a i g sx l (λ b j. refl) in
        let k1 = (write_side D left w (q ∷ []) (underway k (sure_item v same))).known in
        let v1 = (write_side D left w (q ∷ []) (underway k (sure_item v same))).item.pair in
        let two = right_written k1 r w v1 same h1 n y one.cells one.holds
        (record {
          sort = h.sort;
          rising = h.rising;
          last = h.last;
          form = follows k q w v a g same w v.right.form
              h.form;
        })
        (record {
          value = sy.value;
          form = from_held k.orders h1 w y (after_left k q w v v.right.form)
              (says_after k q w v m h1 x a i l (λ b j. refl) w y v.right.form h.form
              (as_held k.orders m w y v.right.form sy.form));
        })
        t (λ b j. refl) in
        record { orders = refl; model = refl; cells = two.cells; holds = two.holds }

  -- ---- one cell of both

  module _ (lawful : Lawful D) where
    met_allowed : (t : IntType) (a b : N) (z : ℤ) (o : Option N) → IsSomeAnd o (λ c. Holds D c z) → InRange t z →
        Holds D a z
        → Allows D (Int t) (option_map_or (λ c. Some (Num c)) o (Some (Num a))) false (Some (int z))
    met_allowed t a b z None h r i = absurd h
    met_allowed t a b z (Some c) h r i = (r, h)

    pub same_allowed : (w : Scalar) (u v : Option (Value N)) (x : Datum) → Allows D w u false (Some x) → Allows D w v
        false (Some x)
        → Allows D w (value_of_same D u v) false (Some x)
    same_allowed w None v x a b = b
    same_allowed w (Some u) None x a b = a
    same_allowed w (Some (Ptr p)) (Some v) x a b = a
    same_allowed w (Some (Num a1)) (Some (Ptr p)) x a b = a
    same_allowed Pointer (Some (Num a1)) (Some (Num b1)) x a b = absurd (never x a)
      where
        never : (x : Datum) → Allows D Pointer (Some (Num a1)) false (Some x) → ⊥
        never (int z) a = a
        never null a = a
        never (pointer c o) a = a
    same_allowed (Int t) (Some (Num a1)) (Some (Num b1)) null a b = absurd a
    same_allowed (Int t) (Some (Num a1)) (Some (Num b1)) (pointer c o) a b = absurd a
    same_allowed (Int t) (Some (Num a1)) (Some (Num b1)) (int z) a b =
        met_allowed t a1 b1 z (D.meet a1 b1) (lawful.meet_holds a1 b1 z a.1 b.1) a.0 a.1

    met_sort : (t : IntType) (a : N) (o : Option N) → IsOfSort (Int t)
        (option_map_or (λ c. Some (Num c)) o (Some (Num a)))
    met_sort t a None = tt
    met_sort t a (Some c) = tt

    met_rising : (a : N) (o : Option N) → HasRisingBlocks (option_map_or (λ c. Some (Num c)) o (Some (Num a)))
    met_rising a None = tt
    met_rising a (Some c) = tt

    pub same_sort : (w : Scalar) (u v : Option (Value N)) → IsOfSort w u → IsOfSort w v → IsOfSort w
        (value_of_same D u v)
    same_sort w None v a b = b
    same_sort w (Some u) None a b = a
    same_sort w (Some (Ptr p)) (Some v) a b = a
    same_sort w (Some (Num x)) (Some (Ptr p)) a b = a
    same_sort Pointer (Some (Num x)) (Some (Num y)) a b = absurd a
    same_sort (Int t) (Some (Num x)) (Some (Num y)) a b = met_sort t x (D.meet x y)

    pub same_rising : (u v : Option (Value N)) → HasRisingBlocks u → HasRisingBlocks v → HasRisingBlocks
        (value_of_same D u v)
    same_rising None v a b = b
    same_rising (Some u) None a b = a
    same_rising (Some (Ptr p)) (Some v) a b = a
    same_rising (Some (Num x)) (Some (Ptr p)) a b = a
    same_rising (Some (Num x)) (Some (Num y)) a b = met_rising x (D.meet x y)

    common_if : (f g : Form) (P : Form → Type 0) (t : Bool) → P f → P None → P (cond t f None)
    common_if f g P true h i = h
    common_if f g P false h i = i

    pub shared_written : (k : Known N) (q : Spot) (w : Scalar) (v : PairValue N) (same : Bool) (m n : Memories)
        (x : Datum) → AreCells k.model k.cells
        → In D k m → Fit k q w v.left → Fit k q w v.right → SideIn D (numbers_of k.orders m) w v.left x
        → SideIn D (numbers_of k.orders m) w v.right x → IsWith k.orders.0 k.model w q x m.left n.left
        → IsWith k.orders.1 k.model w q x m.right n.right
        → IsWritten k (write_shared D w q (underway k (sure_item v same))).known n
    shared_written k q w v same m n x a i g h sx sy l r =
        let f : Form = common_form v.left.form v.right.form in
        let u = value_of_same D v.left.value v.right.value in
        let there_l = with_there k.orders.0 k.model w q x m.left n.left l in
        let there_r = with_there k.orders.1 k.model w q x m.right n.right r in
        let allowed = same_allowed w v.left.value v.right.value x sx.value sy.value in
        let says : FormHas k.orders m w x f = common_if v.left.form v.right.form (FormHas k.orders m w x)
        (have_same_form v.left.form v.right.form) (as_held k.orders m w x v.left.form sx.form) tt in
        let go : CanGo D law more k q w u f = record {
          sort = same_sort w v.left.value v.right.value g.sort h.sort;
          rising = same_rising v.left.value v.right.value g.rising h.rising;
          last = g.last;
          form = common_if v.left.form v.right.form (FormFits k.cells w) (have_same_form v.left.form v.right.form)
              g.form tt;
        } in
        record {
          orders = refl;
          model = refl;
          cells = strong_cells D law more write cell_side.Shared k q w u false f a go;
          holds = strong_holds D law more write cell_side.Shared k q w u false f a go m n i
              (record {
                left = record {
                  stored = λ e. with_beside k.orders.0 k.model w cell_side.Shared q x m.left n.left l;
                  stays = λ e. absurd (cc);
                };
                right = record {
                  stored = λ e. with_beside k.orders.1 k.model w cell_side.Shared q x m.right n.right
                      r;
                  stays = λ e. absurd (cc);
                };
              })
              (new_says D cell_side.Shared k.orders k.model n q w u f x allowed (λ e. there_l) (λ e. there_r))
              (new_form D cell_side.Shared k.orders k.model m n q w u f x allowed (λ e. there_l) (λ e. there_r) says);
        }
