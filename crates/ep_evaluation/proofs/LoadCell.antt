-- The cell of a load, and loads as a whole.
use Rattle.std.proofs.Common.{◌≡◌, ℕ, Bool, true, false, ◌&&◌, not, nat_eq, cond, List, [], ◌∷◌, Option, Some, None}
use Rattle.std.proofs.lemmas.Bool.{not-true}
use Rattle.std.proofs.Common.{IfSome, refl, sym, ap, ◌∙◌, subst}
use Rattle.std.proofs.lemmas.Bool.{and_parts, eqb-true}
use Rattle.ep_int.specs.declared.types.Order.{Order}
use Rattle.ep_int.specs.declared.types.Scalar.{Scalar}
use Rattle.ep_int.specs.declared.types.Scalar.TheVariants.{Int, Pointer}
use Rattle.ep_int.specs.Types.{size_of}
use Rattle.ep_int.specs.Memory.{Value as Datum, int, null, pointer, has, bytes_from, value_of_bytes}
use Rattle.ep_int.proofs.Wrapping.{wrapped_same}
use Rattle.ep_bitslice.specs.declared.segment.Segment.{Segment}
use Rattle.ep_domain.specs.Domain.{Ops, Lawful}
use Rattle.ep_cells.specs.declared.cell.Cell.{Cell}
use Rattle.ep_cells.specs.declared.cell.Value.{Value}
use Rattle.ep_cells.specs.declared.cell.Value.TheVariants.{Num, Ptr}
use Rattle.ep_cells.specs.Cells.{IsIn, is_same_scalar}
use Rattle.ep_cells.specs.Look.{cell_at}
use Rattle.ep_cells.specs.States.{Known}
use Rattle.ep_cells.specs.Meaning.{Memories, Allows, Has, HasBytes}
use Rattle.ep_cells.proofs.Both.{scalar_same}
use Rattle.ep_reads.specs.Bytes.{order_on}
use Rattle.ep_reads.specs.Read.{read, is_same_sort}
use Rattle.ep_reads.specs.Laws.{memory_on, IsFormRead, ReadLaws}
use Rattle.ep_reads.proofs.Found.{covering, stands_there}
use Rattle.ep_core.specs.Program.{Program}
use Rattle.ep_core.specs.Exec.{size_at}
use Rattle.ep_core.specs.Runs.{Side, left, right}
use Rattle.ep_equalities.specs.declared.pair.Mode.{Mode}
use Rattle.ep_evaluation.specs.Given.{Given, cells_of, on}
use Rattle.ep_evaluation.specs.Accesses.{reads_of, form_of_reads}
use Rattle.ep_cell_ranges.specs.Spots.{Spot}
use Rattle.ep_evaluation.specs.Narrowed.{sure_cell, cell_of}
use Rattle.ep_evaluation.specs.Evaluation.{same, places_at, load_side, all_shared, load_given}
use Rattle.ep_evaluation.specs.Laws.{memory_of, IsState, IsKept, IsOfCell, SideFits, sizes_of}
use Rattle.ep_evaluation.proofs.Generic.{pair_fits}
use Rattle.ep_evaluation.proofs.Spots.{Among, here, behind, reads_sort, reads_rising}
use Rattle.ep_evaluation.proofs.Loads.{Loads, memory_at, order_at}
use Rattle.ep_cell_ranges.proofs.Shareds.{as_read, found_as, of_cell}

pub same_sort : (w : Scalar) → is_same_sort w w ≡ true
same_sort (Int t) = refl
same_sort Pointer = refl

module _ {N : Type 0} (D : Ops N) (law : Lawful D) (reads : ReadLaws D) (p : Program) (ord : Side → Order)
    (w : Scalar) where
  -- ---- that it fits

  read_form : (k : Known N) (maybe : Bool) (f : Option (List Segment)) → IfSome f (IsFormRead k.cells w maybe)
      → IfSome f (IsFormRead k.cells w false)
  read_form k maybe None h = tt
  read_form k maybe (Some ss) h = record { sure = refl; wide = h.wide; form = h.form; mentioned = h.mentioned }

  reads_form : (k : Known N) (a : IsState D p ord k) (s : Side) (qs : List Spot)
      → IfSome (form_of_reads (reads_of D k (cells_of s) w qs)) (IsFormRead k.cells w false)
  reads_form k a s [] = tt
  reads_form k a s (q ∷ []) = read_form k (read D k (cells_of s) q.0 q.1 w).maybe
      (read D k (cells_of s) q.0 q.1 w).form (reads.fits k (cells_of s) q.0 q.1 w a.cells).form
  reads_form k a s (q ∷ r ∷ qs) = tt

  pub load_fits : (k : Known N) → IsState D p ord k → (mode : Mode) (x : Given N) (s : Side)
      → SideFits D p ord k w (on (load_given D (sizes_of p.blocks) w mode k x).pair s)
  load_fits k a mode x s =
      pair_fits D law p ord k w mode (λ s. load_side D (sizes_of p.blocks) w k (on x.pair s) s)
      (same D x && all_shared D (sizes_of p.blocks) mode w k x.pair)
      (λ i. (let qs = places_at D (sizes_of p.blocks) w k (on x.pair i) in record {
        sort = reads_sort D law reads k a.cells (cells_of i) w qs;
        rising = reads_rising D law reads k a.cells (cells_of i) w qs;
        form = reads_form k a i qs;
      })) s

  -- ---- its cell

  as_it_is : (c : Option (Value N)) (z : Datum) → Allows D w c false (Some z) → as_read w z ≡ z
  as_it_is c z a = by_type w c z a
    where
      by_type : (w : Scalar) (c : Option (Value N)) (z : Datum) → Allows D w c false (Some z) → as_read w z ≡ z
      by_type Pointer c z a = refl
      by_type (Int r) c null a = refl
      by_type (Int r) c (pointer b q) a = refl
      by_type (Int r) None (int z) a = absurd (let e : Some (int z) ≡ None = a in cc)
      by_type (Int r) (Some (Num n)) (int z) a = ap int (wrapped_same r z a.0)
      by_type (Int r) (Some (Ptr x)) (int z) a = absurd a

  there_by : (k : Known N) (s : Side) (q : Spot) (o : Option (Cell N))
      → cell_at k.model (cells_of s) q.0 q.1 k.cells ≡ o
      → IfSome (sure_cell w q o) (λ c. IsIn c k.cells)
  there_by k s q None e = tt
  there_by k s q (Some x) e = by_test (nat_eq x.offset q.1 && (is_same_scalar x.what w && not x.maybe))
    where
      by_test : (b : Bool) → IfSome (cond b (Some x) None) (λ c. IsIn c k.cells)
      by_test true = (covering k.model (cells_of s) q.0 q.1 k.cells x e).is_in
      by_test false = tt

  pub cell_there : (k : Known N) (s : Side) (qs : List Spot) → IfSome (cell_of k s w qs) (λ c. IsIn c k.cells)
  cell_there k s [] = tt
  cell_there k s (q ∷ []) = there_by k s q (cell_at k.model (cells_of s) q.0 q.1 k.cells) refl
  cell_there k s (q ∷ r ∷ qs) = tt

  module _ (k : Known N) (m : Memories) (kept : IsKept D p ord k m) (s : Side) (v : Datum) where
    stands : (b q : ℕ) → Loads (ord s) p.types.model (size_at (ord s) p b) (memory_of s m) w b q v → (x : Cell N)
        → cell_at k.model (cells_of s) b q k.cells ≡ Some x → x.offset ≡ q → x.what ≡ w → x.maybe ≡ false
        → IsOfCell D p ord k m x v
    stands b q l x at offset what sure =
        let c = covering k.model (cells_of s) b q k.cells x at in
        let says = kept.holds.cells x c.is_in in
        let z = of_cell D law x says.datum sure says.allowed (kept.state.cells.each x c.is_in).fits.undefined in
        let a : Allows D x.what x.value false (Some z.0) = subst (λ t. Allows D x.what x.value t (Some z.0)) sure
        (subst (Allows D x.what x.value x.maybe) z.1 says.allowed) in
        let h0 = stands_there D k m (cells_of s) x c.sides says in
        let h1 = subst (λ y. HasBytes (order_on (cells_of s) k.orders) (memory_on (cells_of s) m)
        (size_of k.model x.what) x.what x.maybe x.block x.offset y) z.1 h0 in
        let h2 : Has (order_on (cells_of s) k.orders) (memory_on (cells_of s) m) x.what x.block x.offset
        (size_of k.model x.what) z.0 =
        subst (λ y. HasBytes (order_on (cells_of s) k.orders) (memory_on (cells_of s) m)
        (size_of k.model x.what) x.what y x.block x.offset (Some z.0)) sure h1 in
        let h3 : Has (order_on (cells_of s) k.orders) (memory_on (cells_of s) m) x.what b x.offset
        (size_of k.model x.what) z.0 =
        subst (λ y. Has (order_on (cells_of s) k.orders) (memory_on (cells_of s) m) x.what y x.offset
        (size_of k.model x.what) z.0) c.in_block h2 in
        let h4 : Has (order_on (cells_of s) k.orders) (memory_on (cells_of s) m) x.what b q
        (size_of k.model x.what) z.0 =
        subst (λ y. Has (order_on (cells_of s) k.orders) (memory_on (cells_of s) m) x.what b y
        (size_of k.model x.what) z.0) offset h3 in
        let found : value_of_bytes (order_on (cells_of s) k.orders) w
        (bytes_from (memory_on (cells_of s) m) b q (size_of k.model w)) ≡ has v =
        ap (λ o. value_of_bytes o w (bytes_from (memory_on (cells_of s) m) b q (size_of k.model w)))
        (order_at s k.orders ord kept.state.orders)
        ∙ (ap (λ n. value_of_bytes (ord s) w (bytes_from n b q (size_of k.model w))) (memory_at s m)
        ∙ (ap (λ d. value_of_bytes (ord s) w (bytes_from (memory_of s m) b q (size_of d w))) kept.state.model
        ∙ l.found)) in
        let is : v ≡ as_read w z.0 =
        found_as D law k.model (order_on (cells_of s) k.orders) (memory_on (cells_of s) m) w x.what b q x.value z.0 v
        (ap (size_of k.model) what)
        (subst (λ y. is_same_sort y w ≡ true) (sym what) (same_sort w)) a h4 found in
        let same_is : z.0 ≡ v = sym (is
        ∙ as_it_is x.value z.0 (subst (λ y. Allows D y x.value false (Some z.0)) what a)) in
        record {
          is_in = c.is_in;
          sure = sure;
          stands = record {
            left = λ e. subst (λ y.
                HasBytes k.orders.0 m.left (size_of k.model x.what) x.what x.maybe x.block x.offset y) (z.1
                ∙ ap Some same_is) (says.stands.left e);
            right = λ e. subst (λ y.
                HasBytes k.orders.1 m.right (size_of k.model x.what) x.what x.maybe x.block x.offset y) (z.1
                ∙ ap Some same_is) (says.stands.right e);
          };
          allowed = subst (λ y. Allows D x.what x.value false (Some y)) same_is a;
        }

    cell_by : (q : Spot) → Loads (ord s) p.types.model (size_at (ord s) p q.0) (memory_of s m) w q.0 q.1 v
        → (o : Option (Cell N))
        → cell_at k.model (cells_of s) q.0 q.1 k.cells ≡ o → IfSome (sure_cell w q o) (λ c. IsOfCell D p ord k m c v)
    cell_by q l None e = tt
    cell_by q l (Some x) e = by_test (nat_eq x.offset q.1 && (is_same_scalar x.what w && not x.maybe)) refl
      where
        by_test : (b : Bool) → (nat_eq x.offset q.1 && (is_same_scalar x.what w && not x.maybe)) ≡ b
            → IfSome (cond b (Some x) None) (λ c. IsOfCell D p ord k m c v)
        by_test true i =
            let r = and_parts (nat_eq x.offset q.1) (is_same_scalar x.what w && not x.maybe) i in
            let t = and_parts (is_same_scalar x.what w) (not x.maybe) r.1 in
            stands q.0 q.1 l x e (eqb-true x.offset q.1 r.0) (scalar_same x.what w t.0) (not-true x.maybe t.1)
        by_test false i = tt

    -- where the machine's place is the only one
    pub cell_is : (q : Spot) → Loads (ord s) p.types.model (size_at (ord s) p q.0) (memory_of s m) w q.0 q.1 v
        → (qs : List Spot) → Among q qs
        → IfSome (cell_of k s w qs) (λ c. IsOfCell D p ord k m c v)
    cell_is q l [] h = elim h [ ]
    cell_is q l (_ ∷ []) (here _) = cell_by q l (cell_at k.model (cells_of s) q.0 q.1 k.cells) refl
    cell_is q l (y ∷ []) (behind _ _ h) = elim h [ ]
    cell_is q l (y ∷ z ∷ qs) h = tt
