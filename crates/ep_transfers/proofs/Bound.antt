-- The parameters of a call are set, one after another, while the arguments behind them wait.
use Rattle.std.proofs.Common.{◌≡◌, ℕ, ◌+◌, pos, Bool, true, false, nat_eq, List, [], ◌∷◌, ◌++◌, map, slice_get}
use Rattle.ep_int.proofs.Basics.{size_positive}
use Rattle.std.proofs.Common.{Option, Some, None, refl, sym, ap, ◌∙◌, subst}
use Rattle.std.specs.Option.{option_map, option_map_or}
use Rattle.std.specs.List.{filter}
use Rattle.std.proofs.lemmas.Bool.{eqb-true, both_ways}
use Rattle.ep_int.specs.declared.types.Model.{Model}
use Rattle.ep_int.specs.declared.types.Order.{Order}
use Rattle.ep_int.specs.declared.types.Scalar.{Scalar}
use Rattle.ep_int.specs.Types.{size_of}
use Rattle.ep_int.specs.Memory.{Memory, Value as Datum, null, pointer, Found, has, faults, contains, stored}
use Rattle.ep_int.specs.Memory.{store_fault, number_in}
use Rattle.ep_int.proofs.Encodings.{decoded_same}
use Rattle.ep_bitslice.specs.declared.cell.Side.{Side as CellSide}
use Rattle.ep_bitslice.specs.declared.cell.Side.TheVariants as cell_side
use Rattle.ep_bitslice.specs.declared.cell.CellName.{CellName}
use Rattle.ep_bitslice.specs.declared.segment.Segment.{Segment}
use Rattle.ep_bitslice.specs.Bits.{Bit, fixed, cell_bit}
use Rattle.ep_bitslice.specs.Segments.{bits, normal}
use Rattle.ep_bitslice.proofs.Appending.{bits-normal}
use Rattle.ep_domain.specs.Domain.{Ops}
use Rattle.ep_pointers.specs.Value.{one_target}
use Rattle.ep_cells.specs.Forms.{bit_after, put_bit, bits_after, form_after}
use Rattle.ep_cells.specs.States.{Known}
use Rattle.ep_cells.specs.Meaning.{Memories, number_at, number_on}
use Rattle.ep_core.specs.Program.{Expr, Program}
use Rattle.ep_core.specs.Exec.{State, Outcome, have, first_and, value, values, remembers, unless, size_at}
use Rattle.ep_core.specs.Exec.{bound as set}
use Rattle.ep_core.specs.Runs.{Side, left, right}
use Rattle.ep_core.specs.Typed.{ValueFits, MemoryFits}
use Rattle.ep_core.specs.WellFormed.{blocks_fit}
use Rattle.ep_core.proofs.Bytes.{stored_bytes}
use Rattle.ep_equalities.specs.declared.pair.Mode.{Mode}
use Rattle.ep_equalities.specs.declared.pair.Mode.TheVariants.{Both, Left, Right}
use Rattle.ep_equalities.specs.declared.pair.PairValue.{PairValue}
use Rattle.ep_evaluation.specs.Given.{Given, on, pair, runs}
use Rattle.ep_evaluation.specs.Accesses.{held_spots, offsets_in, spots}
use Rattle.ep_evaluation.specs.Evaluation.{pointer_given, targets_of}
use Rattle.ep_evaluation.specs.Evaluation.{pointer as pointer_of}
use Rattle.ep_cell_ranges.specs.Ranges.{Form}
use Rattle.ep_cell_ranges.specs.Spots.{Spot}
use Rattle.ep_evaluation.specs.Laws.{memory_of, sizes_of, IsKept, ExpressionsHold, PlacesHold}
use Rattle.ep_evaluation.proofs.General.{none_left}
use Rattle.ep_transfers.specs.Writes.{formed_side, formed_pair}
use Rattle.ep_transfers.specs.Transfers.{stepped, fate_off_blocks, to_block, gives, assigned}
use Rattle.ep_transfers.specs.Calls.{given_all, waiting, bound}
use Rattle.ep_transfers.specs.Laws.{memories, CellLaws}
use Rattle.ep_transfers.proofs.Changes.{Blocks}
use Rattle.ep_transfers.proofs.Puts.{memory_on}
use Rattle.ep_transfers.proofs.Rooms.{small}
use Rattle.ep_transfers.proofs.Assigned.{AreInside, Operands, With, AreStored, At, at, u, after, assigned_goes}
use Rattle.ep_transfers.proofs.Assigned.{next_is}
use Rattle.ep_transfers.proofs.Evaluated.{Evaluated, goes_state, known, operated, stores_there, stored_so}
use Rattle.ep_transfers.proofs.Stored.{block_is}
use Rattle.ep_transfers.proofs.Waiting.{OthersStay, still_evaluated}

-- ---- what each running machine does to its memory

abbrev pub changed : Mode → (Side → Memory → Memory) → Memories → Memories
changed Both f m = memories (f left m.left) (f right m.right)
changed Left f m = memories (f left m.left) m.right
changed Right f m = memories m.left (f right m.right)

then_changed : (mode : Mode) (f g : Side → Memory → Memory) (m : Memories)
    → changed mode g (changed mode f m) ≡ changed mode (λ s z. g s (f s z)) m
then_changed Both f g m = refl
then_changed Left f g m = refl
then_changed Right f g m = refl

pub unchanged : (mode : Mode) (m : Memories) → changed mode (λ s z. z) m ≡ m
unchanged Both m = refl
unchanged Left m = refl
unchanged Right m = refl

at_running : (mode : Mode) (s : Side) → runs mode s ≡ true → (f : Side → Memory → Memory) (m : Memories)
    → memory_on s (changed mode f m) ≡ f s (memory_on s m)
at_running Both left r f m = refl
at_running Both right r f m = refl
at_running Left left r f m = refl
at_running Left right r f m = absurd (cc)
at_running Right left r f m = absurd (cc)
at_running Right right r f m = refl

pub fits_changed : (p : Program) (mode : Mode) (f : Side → Memory → Memory) (m : Memories)
    → ((s : Side) → MemoryFits p (memory_of s m))
    → ((s : Side) → runs mode s ≡ true → (z : Memory) → MemoryFits p z → MemoryFits p (f s z))
    → (s : Side) → MemoryFits p (memory_of s (changed mode f m))
fits_changed p Both f m h g left = g left refl m.left (h left)
fits_changed p Both f m h g right = g right refl m.right (h right)
fits_changed p Left f m h g left = g left refl m.left (h left)
fits_changed p Left f m h g right = h right
fits_changed p Right f m h g left = h left
fits_changed p Right f m h g right = g right refl m.right (h right)

-- names of which nothing changes keep their numbers
module _ (mode : Mode) (f : Side → Memory → Memory) (m : Memories) (c : CellName)
    (h : (o : Order) (s : Side) (z : Memory) → number_at o (f s z) c ≡ number_at o z c) where
  left_number : (mode : Mode) (o : Order) → number_at o (changed mode f m).left c ≡ number_at o m.left c
  left_number Both o = h o left m.left
  left_number Left o = h o left m.left
  left_number Right o = refl

  right_number : (mode : Mode) (o : Order) → number_at o (changed mode f m).right c ≡ number_at o m.right c
  right_number Both o = h o right m.right
  right_number Left o = refl
  right_number Right o = h o right m.right

  number_stays : (s : CellSide) (os : Order × Order) → number_on s os (changed mode f m) c ≡ number_on s os m c
  number_stays cell_side.Left os = left_number mode os.0
  number_stays cell_side.Right os = right_number mode os.1
  number_stays cell_side.Shared os = left_number mode os.0

pub beside_stored : (o q : Order) (d : Model) (z : Memory) (w : Scalar) (b : ℕ) (v : Datum) (c : CellName)
    → nat_eq b c.block ≡ false → number_at o (stored q d z w b 0 v) c ≡ number_at o z c
beside_stored o q d z w b v c e =
    decoded_same o c.t (λ j. number_in (stored q d z w b 0 v c.block (c.offset + j)))
    (λ j. number_in (z c.block (c.offset + j))) (λ j l. rw e refl)

-- ---- blocks of a frame

pub not_one : (b c : ℕ) (frame : List ℕ) (t : Bool) → nat_eq b c ≡ t → contains b frame ≡ true → contains c frame ≡ false
    → nat_eq b c ≡ false
not_one b c frame true e i o =
    absurd (both_ways (contains c frame) o (subst (λ x. contains x frame ≡ true) (eqb-true b c e) i))
not_one b c frame false e i o = e

module _ (bs : Blocks) (b : ℕ) (inside : bs b ≡ true) where
  map_inside : (qs : List ℕ) → AreInside bs (map (λ q. (b, q)) qs)
  map_inside [] = tt
  map_inside (q ∷ qs) = (inside, map_inside qs)

  with_none : (qs : List Spot) → AreInside bs qs → AreInside bs (qs ++ [])
  with_none [] h = tt
  with_none (q ∷ qs) h = (h.0, with_none qs h.1)

  module _ {N : Type 0} (D : Ops N) (n a : ℕ) (x : N) where
    held_inside : (o : Option ℕ) → AreInside bs (held_spots D n a (b, x) o)
    held_inside None = tt
    held_inside (Some size) = map_inside (filter (λ q. D.holds x (pos q)) (offsets_in size n a))

    one_inside : (sizes : List ℕ) → AreInside bs (spots D sizes n a ((b, x) ∷ []))
    one_inside sizes = with_none (held_spots D n a (b, x) (slice_get sizes b)) (held_inside (slice_get sizes b))

    side_inside : (sizes : List ℕ) (mode : Mode) (s : Side)
        → AreInside bs (spots D sizes n a (targets_of D sizes
        (pointer_of D (on (pointer_given D (one_target b x) mode).pair s))))
    side_inside sizes Both left = one_inside sizes
    side_inside sizes Both right = one_inside sizes
    side_inside sizes Left left = one_inside sizes
    side_inside sizes Left right = tt
    side_inside sizes Right left = tt
    side_inside sizes Right right = one_inside sizes

-- ---- a form that has lost its mentions of a frame has none to lose

module _ (frame : List ℕ) where
  bit_by : (c : CellName) (k : ℕ) (e : Bit) (t : Bool) → contains c.block frame ≡ t
      → bit_after (fate_off_blocks frame) (cell_bit c k) ≡ Some e → bit_after (fate_off_blocks frame) e ≡ Some e
  bit_by c k e true t h =
      absurd (let q : bit_after (fate_off_blocks frame) (cell_bit c k) ≡ None = rw t refl in cc)
  bit_by c k e false t h =
      let q : bit_after (fate_off_blocks frame) (cell_bit c k) ≡ Some (cell_bit c k) = rw t refl in
      let same : cell_bit c k ≡ e = cc in
      subst (λ x. bit_after (fate_off_blocks frame) x ≡ Some x) same q

  bit_kept : (b e : Bit) → bit_after (fate_off_blocks frame) b ≡ Some e → bit_after (fate_off_blocks frame) e ≡ Some e
  bit_kept (fixed x) e h =
      let same : fixed x ≡ e = cc in subst (λ x. bit_after (fate_off_blocks frame) x ≡ Some x) same refl
  bit_kept (cell_bit c k) e h = bit_by c k e (contains c.block frame) refl h

  put_kept : (b : Option Bit) (bs : Option (List Bit)) (es : List Bit) → put_bit b bs ≡ Some es
      → ((e : Bit) → b ≡ Some e → bit_after (fate_off_blocks frame) e ≡ Some e)
      → ((ds : List Bit) → bs ≡ Some ds → bits_after (fate_off_blocks frame) ds ≡ Some ds)
      → bits_after (fate_off_blocks frame) es ≡ Some es
  put_kept None bs es h f g = absurd (cc)
  put_kept (Some b) None es h f g = absurd (cc)
  put_kept (Some b) (Some bs) es h f g =
      let same : b ∷ bs ≡ es = cc in
      subst (λ z. bits_after (fate_off_blocks frame) z ≡ Some z) same
      (ap (λ z. put_bit z (bits_after (fate_off_blocks frame) bs)) (f b refl) ∙ ap (put_bit (Some b)) (g bs refl))

  bits_kept : (xs ys : List Bit) → bits_after (fate_off_blocks frame) xs ≡ Some ys
      → bits_after (fate_off_blocks frame) ys ≡ Some ys
  bits_kept [] ys h =
      let same : [] ≡ ys = cc in subst (λ z. bits_after (fate_off_blocks frame) z ≡ Some z) same refl
  bits_kept (x ∷ xs) ys h =
      put_kept (bit_after (fate_off_blocks frame) x) (bits_after (fate_off_blocks frame) xs) ys h
      (λ e i. bit_kept x e i) (λ ds i. bits_kept xs ds i)

  form_by : (ss : List Segment) (o : Option (List Bit)) → bits_after (fate_off_blocks frame) (bits ss) ≡ o
      → form_after (fate_off_blocks frame) (option_map normal o) ≡ option_map normal o
  form_by ss None e = refl
  form_by ss (Some bs) e =
      ap (λ z. option_map normal (bits_after (fate_off_blocks frame) z)) (bits-normal bs)
      ∙ ap (option_map normal) (bits_kept (bits ss) bs e)

  form_kept : (f : Form) → form_after (fate_off_blocks frame) (form_after (fate_off_blocks frame) f)
      ≡ form_after (fate_off_blocks frame) f
  form_kept None = refl
  form_kept (Some ss) = form_by ss (bits_after (fate_off_blocks frame) (bits ss)) refl

  pair_kept : {N : Type 0} (v : PairValue N)
      → formed_pair (form_after (fate_off_blocks frame)) (formed_pair (form_after (fate_off_blocks frame)) v)
      ≡ formed_pair (form_after (fate_off_blocks frame)) v
  pair_kept v =
      ap (λ (f : Form). pair (record { value = v.left.value; form = f }) (formed_side (form_after
      (fate_off_blocks frame)) (formed_side (form_after (fate_off_blocks frame)) v.right)) v.equal)
      (form_kept v.left.form)
      ∙ ap (λ (f : Form). pair (formed_side (form_after (fate_off_blocks frame)) v.left)
      (record { value = v.right.value; form = f }) v.equal) (form_kept v.right.form)

-- ---- what machines find

abbrev pub datum_of : Found → Datum
datum_of (has v) = v
datum_of (faults k) = null

pub found_is : (f : Found) (v : Datum) → f ≡ has v → f ≡ has (datum_of f)
found_is (has u) v e = refl
found_is (faults k) v e = absurd (let q : faults k ≡ has v = e in cc)

same_pointer : (b q c r : ℕ) → has (pointer b q) ≡ has (pointer c r) → (b ≡ c) × (q ≡ r)
same_pointer b q c r e =
    let f : pointer b q ≡ pointer c r = cc in
    (let g : b ≡ c = cc in g, let g : q ≡ r = cc in g)

same_datum : (f : Found) (u v : Datum) → f ≡ has u → f ≡ has v → u ≡ v
same_datum f u v e g = let h : has u ≡ has v = sym e ∙ g in cc

same_stored : (o : Order) (d : Model) (z : Memory) (w : Scalar) (b q c r : ℕ) (u v : Datum) → b ≡ c → q ≡ r → u ≡ v
    → stored o d z w b q u ≡ stored o d z w c r v
same_stored o d z w b q c r u v e f g =
    ap (λ x. stored o d z w x q u) e ∙ ap (λ x. stored o d z w c x u) f ∙ ap (λ x. stored o d z w c r x) g

module _ {N : Type 0} (D : Ops N) (bs : Blocks) (laws : CellLaws D) (p : Program) (ord : Side → Order) (w : Scalar)
    (k : Known N) (m : Memories) (fit : blocks_fit p.types p.blocks ≡ true) (kept : IsKept D p ord k m) where
  abbrev Operands' : Mode → Type 0
  Operands' mode = Operands D bs laws p ord (sizes_of p.blocks) (small p fit) w k m
      (known D p ord bs laws fit w k m kept) (size_positive k.model w) mode

  abbrev At' : (mode : Mode) (z : Operands' mode) (s : Side) → Type 0
  At' mode z s = At D bs laws p ord (sizes_of p.blocks) (small p fit) w k m (known D p ord bs laws fit w k m kept)
      (size_positive k.model w) mode z s

  abbrev at' : (mode : Mode) (z : Operands' mode) (s : Side) → runs mode s ≡ true → At' mode z s
  at' mode z s r = at D bs laws p ord (sizes_of p.blocks) (small p fit) w k m (known D p ord bs laws fit w k m kept)
      (size_positive k.model w) mode z s r

  abbrev With' : (mode : Mode) (z : Operands' mode) (s : Side) → At' mode z s → Memories → Type 0
  With' mode z s a n = With D bs laws p ord (sizes_of p.blocks) (small p fit) w k m
      (known D p ord bs laws fit w k m kept) (size_positive k.model w) mode z s a n

  are_stored : (f : Side → Memory → Memory) (mode : Mode) (z : Operands' mode)
      → ((s : Side) (r : runs mode s ≡ true) → With' mode z s (at' mode z s r) (changed mode f m))
      → AreStored D bs laws p ord (sizes_of p.blocks) (small p fit) w k m (known D p ord bs laws fit w k m kept)
      (size_positive k.model w) mode z (changed mode f m)
  are_stored f Both z h = (h left refl, h right refl)
  are_stored f Left z h = (h left refl, λ b j. refl)
  are_stored f Right z h = (h right refl, λ b j. refl)

-- ---- arguments that were evaluated in a state j and these memories, and wait while a frame comes and is set

module _ {N : Type 0} (D : Ops N) (laws : CellLaws D) (p : Program) (ord : Side → Order)
    (fit : blocks_fit p.types p.blocks ≡ true) (exprs : ExpressionsHold D p ord) (plcs : PlacesHold D p ord)
    (mode : Mode) (frame : List ℕ) (j : Known N) (before : Memories) where
  abbrev pub kept_value : Expr → Given N
  kept_value e = record {
    pair = formed_pair (form_after (fate_off_blocks frame)) (gives D p e mode j).pair;
    faults = [];
  }

  abbrev pub datum_at : Side → Expr → Datum
  datum_at s e = datum_of (value (ord s) p e (memory_of s before))

  pub record Waits (k : Known N) (m : Memories) (b : ℕ × Scalar) (e : Expr) : Type 0 where
    pub evaluated : Evaluated D p ord mode k m b.1 (λ s z. value (ord s) p e (memory_of s before)) (kept_value e)
    pub found : (s : Side) → runs mode s ≡ true → value (ord s) p e (memory_of s before) ≡ has (datum_at s e)
    pub fits : (s : Side) → runs mode s ≡ true → ValueFits p b.1 (datum_at s e)
    pub inside : contains b.0 frame ≡ true

  -- an argument for each parameter
  abbrev pub AllWait : Known N → Memories → List (ℕ × Scalar) → List Expr → Type 0
  AllWait k m [] [] = Unit {0}
  AllWait k m [] (e ∷ es) = ⊥
  AllWait k m (b ∷ bs) [] = ⊥
  AllWait k m (b ∷ bs) (e ∷ es) = Waits k m b e × AllWait k m bs es

  waits_on : (k l : Known N) (m n : Memories) → OthersStay D p ord frame k l m n → (b : ℕ × Scalar) (e : Expr)
      → Waits k m b e → Waits l n b e
  waits_on k l m n s b e h = record {
    evaluated = subst
        (λ z. Evaluated D p ord mode l n b.1 (λ s z. value (ord s) p e (memory_of s before))
        (record { pair = z; faults = [] })) (pair_kept frame (gives D p e mode j).pair)
        (still_evaluated D p ord frame k l m n s mode b.1 (λ s z. value (ord s) p e (memory_of s before))
        (kept_value e) h.evaluated refl);
    found = h.found;
    fits = h.fits;
    inside = h.inside;
  }

  all_wait_on : (k l : Known N) (m n : Memories) → OthersStay D p ord frame k l m n → (bs : List (ℕ × Scalar))
      (es : List Expr) → AllWait k m bs es → AllWait l n bs es
  all_wait_on k l m n s [] [] h = tt
  all_wait_on k l m n s [] (e ∷ es) h = absurd h
  all_wait_on k l m n s (b ∷ bs) [] h = absurd h
  all_wait_on k l m n s (b ∷ bs) (e ∷ es) h = (waits_on k l m n s b e h.0, all_wait_on k l m n s bs es h.1)

  -- the values that a machine finds
  pub all_found : (k : Known N) (m : Memories) (bs : List (ℕ × Scalar)) (es : List Expr) → AllWait k m bs es
      → (s : Side) → runs mode s ≡ true → values (ord s) p es (memory_of s before) ≡ have (map (datum_at s) es)
  all_found k m [] [] h s r = refl
  all_found k m [] (e ∷ es) h s r = absurd h
  all_found k m (b ∷ bs) [] h s r = absurd h
  all_found k m (b ∷ bs) (e ∷ es) h s r =
      ap (λ f. first_and f (values (ord s) p es (memory_of s before))) (h.0.found s r)
      ∙ ap (first_and (has (datum_at s e))) (all_found k m bs es h.1 s r)

  -- ---- one parameter is set

  abbrev pub puts : ℕ × Scalar → Expr → Side → Memory → Memory
  puts b e s z = stored (ord s) p.types.model z b.1 b.0 0 (datum_at s e)

  record BoundOne (k : Known N) (m : Memories) (b : ℕ × Scalar) (e : Expr) : Type 0 where
    known : Known N
    next : (assigned D (sizes_of p.blocks) mode b.1 (to_block D mode b.0) (kept_value e).pair k).next ≡ Some known
    kept : IsKept D p ord known (changed mode (puts b e) m)
    others : OthersStay D p ord frame k known m (changed mode (puts b e) m)
    stores : (s : Side) → runs mode s ≡ true → store_fault p.types.model (size_at (ord s) p b.0) b.1 0 ≡ None

  one_bound : (k : Known N) (m : Memories) → IsKept D p ord k m → (b : ℕ × Scalar) (e : Expr) → Waits k m b e
      → (assigned D (sizes_of p.blocks) mode b.1 (to_block D mode b.0) (kept_value e).pair k).faults ≡ []
      → BoundOne k m b e
  one_bound k m kept b e h quiet =
      let bs : Blocks = λ c. contains c frame in
      let sizes = sizes_of p.blocks in
      let kn = known D p ord bs laws fit b.1 k m kept in
      let some = size_positive k.model b.1 in
      let z = operated D p ord bs laws fit b.1 k m kept mode (λ i z. has (pointer b.0 0))
      (λ i z. value (ord i) p e (memory_of i before)) (pointer_given D (one_target b.0 (D.single (pos 0))) mode)
      (kept_value e) (block_is D laws p ord fit exprs plcs b.0 k m kept mode) h.evaluated refl refl quiet
      (λ s. side_inside bs b.0 h.inside D (size_of k.model b.1) (size_of k.model b.1) (D.single (pos 0)) sizes mode
      s) in
      let n = changed mode (puts b e) m in
      let g = assigned_goes D bs laws p ord sizes (small p fit) b.1 k m kn some mode z n
      (are_stored D bs laws p ord b.1 k m fit kept (puts b e) mode z
      (λ s r.
      let a = at D bs laws p ord sizes (small p fit) b.1 k m kn some mode z s r in
      let q = same_pointer b.0 0 a.stored.block a.stored.offset a.stored.address in
      let v = same_datum (value (ord s) p e (memory_of s before)) (datum_at s e) a.stored.datum (h.found s r)
      a.stored.value in
      λ c i. ap (λ (f : Memory). f c i) (at_running mode s r (puts b e) m)
      ∙ ap (λ (f : Memory). f c i) (same_stored (ord s) p.types.model (memory_on s m) b.1 b.0 0 a.stored.block
      a.stored.offset (datum_at s e) a.stored.datum q.0 q.1 v)
      ∙ stored_so D p ord bs laws fit b.1 k m kept s (z.fa s) (z.fv s) a.stored kept.state.orders c i)) in
      record {
        known = (after D bs laws p ord sizes (small p fit) b.1 k m kn some mode z).known;
        next = next_is D bs laws p ord sizes (small p fit) b.1 k m kn some mode z;
        kept = record {
          state = goes_state D p ord bs (u D bs laws p ord sizes (small p fit) b.1 k m kn some mode z)
              (after D bs laws p ord sizes (small p fit) b.1 k m kn some mode z) m n kept.state g;
          holds = g.change.after.holds;
          fits = fits_changed p mode (puts b e) m kept.fits
              (λ s r y i. stored_bytes p (ord s) p.types.model y b.1 b.0 0 (datum_at s e) i (h.fits s r));
        };
        others = record {
          orders = g.change.orders;
          there = λ c off t. g.elsewhere c off t;
          numbers = λ c off. number_stays mode (puts b e) m c
              (λ o s y. beside_stored o (ord s) p.types.model y b.1 b.0 (datum_at s e) c
              (not_one b.0 c.block frame (nat_eq b.0 c.block) refl h.inside off)) c.side k.orders;
        };
        stores = λ s r.
            let a = at D bs laws p ord sizes (small p fit) b.1 k m kn some mode z s r in
            let q = same_pointer b.0 0 a.stored.block a.stored.offset a.stored.address in
            subst (λ c. store_fault p.types.model (size_at (ord s) p c) b.1 0 ≡ None) (sym q.0)
            (subst (λ o. store_fault p.types.model (size_at (ord s) p a.stored.block) b.1 o ≡ None) (sym q.1)
            (stores_there D p ord bs laws fit b.1 k m kept (ord s) (z.fa s) (z.fv s) a.stored));
      }

  -- ---- all of them

  abbrev pub puts_all : List (ℕ × Scalar) → List Expr → Side → Memory → Memory
  puts_all [] es s z = z
  puts_all (b ∷ bs) [] s z = z
  puts_all (b ∷ bs) (e ∷ es) s z = puts_all bs es s (puts b e s z)

  pub record BoundAll (k : Known N) (m : Memories) (bs : List (ℕ × Scalar)) (es : List Expr) : Type 0 where
    pub known : Known N
    pub next : (bound D p mode bs (waiting D p frame (given_all D p es mode j)) k).next ≡ Some known
    pub kept : IsKept D p ord known (changed mode (puts_all bs es) m)
    pub machine : (s : Side) → runs mode s ≡ true → (l : ℕ) (st : State) (go : State → Outcome)
        → set (ord s) p bs (map (datum_at s) es) l st go ≡ go (remembers (puts_all bs es s st.memory) st)

  more_bound : (k : Known N) (m : Memories) (b : ℕ × Scalar) (bs : List (ℕ × Scalar)) (e : Expr) (es : List Expr)
      (a : BoundOne k m b e) → BoundAll a.known (changed mode (puts b e) m) bs es → BoundAll k m (b ∷ bs) (e ∷ es)
  more_bound k m b bs e es a rest = record {
    known = rest.known;
    next =
        ap (λ (o : Option (Known N)). (option_map_or (bound D p mode bs (waiting D p frame (given_all D p es mode j))) o
        (stepped [] None)).next) a.next
        ∙ rest.next;
    kept = subst (IsKept D p ord rest.known) (then_changed mode (puts b e) (puts_all bs es) m) rest.kept;
    machine = λ s r l st go.
        ap (λ o. unless o l st (set (ord s) p bs (map (datum_at s) es) l (remembers (puts b e s st.memory) st) go))
        (a.stores s r)
        ∙ rest.machine s r l (remembers (puts b e s st.memory) st) go;
  }

  pub all_bound : (bs : List (ℕ × Scalar)) (es : List Expr) (k : Known N) (m : Memories) → IsKept D p ord k m
      → AllWait k m bs es → (bound D p mode bs (waiting D p frame (given_all D p es mode j)) k).faults ≡ []
      → BoundAll k m bs es
  all_bound [] [] k m kept h q = record {
    known = k;
    next = refl;
    kept = subst (IsKept D p ord k) (sym (unchanged mode m)) kept;
    machine = λ s r l st go. refl;
  }
  all_bound [] (e ∷ es) k m kept h q = absurd h
  all_bound (b ∷ bs) [] k m kept h q = absurd h
  all_bound (b ∷ bs) (e ∷ es) k m kept h q =
      let first = assigned D (sizes_of p.blocks) mode b.1 (to_block D mode b.0) (kept_value e).pair k in
      let go = bound D p mode bs (waiting D p frame (given_all D p es mode j)) in
      let f = none_left first.faults (option_map_or go first.next (stepped [] None)).faults q in
      let a = one_bound k m kept b e h.0 f.0 in
      let n = changed mode (puts b e) m in
      more_bound k m b bs e es a
      (all_bound bs es a.known n a.kept (all_wait_on k a.known m n a.others bs es h.1)
      (subst (λ (o : Option (Known N)). (option_map_or go o (stepped [] None)).faults ≡ []) a.next f.1))
