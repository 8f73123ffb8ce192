-- What a copy takes says what the bytes of the place are.
use Rattle.std.proofs.Common.{◌≡◌, ℕ, ◌+◌, ◌<◌, true, false, ◌&&◌, not, nat_eq, nat_lt, nat_le, cond, List, Option}
use Rattle.ep_cells.proofs.Beside.{nothing_stays, number_stays, others_by}
use Rattle.std.proofs.Common.{Some, None, IfSome, refl, sym, ap, ◌∙◌, subst, arith}
use Rattle.std.proofs.lemmas.Bool.{and_parts, and_from, leb-true, le-leb, not-true, false_from_ne_true, both_ways}
use Rattle.ep_int.specs.declared.types.Model.{Model}
use Rattle.ep_int.specs.declared.types.Order.{Order}
use Rattle.ep_int.specs.declared.types.Scalar.{Scalar}
use Rattle.ep_int.specs.Types.{size_of, pointer_bytes}
use Rattle.ep_int.specs.Memory.{Byte, undefined, fragment, Memory, Value as Datum, is_number, lies_partly, broken}
use Rattle.ep_bitslice.specs.declared.cell.Side.{Side}
use Rattle.ep_bitslice.specs.declared.cell.Side.TheVariants.{Left, Right, Shared}
use Rattle.ep_bitslice.specs.declared.segment.Segment.{Segment}
use Rattle.ep_bitslice.specs.Segments.{number as form_number}
use Rattle.ep_domain.specs.Domain.{Ops, Lawful}
use Rattle.ep_cells.specs.declared.cell.Cell.{Cell}
use Rattle.ep_cells.specs.declared.place.ByteRange.{ByteRange}
use Rattle.ep_cells.specs.Cells.{on_left, on_right, share_memory, place_of, touches, meets, encloses, is_partly_in}
use Rattle.ep_cells.specs.Cells.{is_same_side, IsIn}
use Rattle.ep_cells.specs.States.{Known, IsFormOf, IsCell, AreCells}
use Rattle.ep_cells.specs.Meaning.{Memories, Allows, HasBytes, Says, HasNumber, FormSays, numbers_of, In}
use Rattle.ep_cells.specs.Sound.{SaysNew}
use Rattle.ep_cells.proofs.Kept.{KeepsByte, KeepsBytes, bytes_kept}
use Rattle.ep_cells.proofs.Places.{at, Within}
use Rattle.ep_cells.proofs.Changes.{IsKept, kept_says, kept_number, number_on_kept}
use Rattle.ep_cells.proofs.Beside.{PointerWide}
use Rattle.ep_reads.specs.Bytes.{order_on, form_of_cell}
use Rattle.ep_reads.specs.Laws.{memory_on}
use Rattle.ep_reads.proofs.Bytes.{cell_form_fits, cell_form_says}
use Rattle.ep_reads.specs.SplitLaws.{AreBroken}
use Rattle.ep_reads.proofs.Sides.{on_one}
use Rattle.ep_reads.proofs.ByteCells.{IsLoose, byte_is, byte_says, says_on_side, byte_numbers}
use Rattle.ep_reads.proofs.OneSplit.{stored_says, in_range_by}
use Rattle.ep_reads.proofs.Broken.{between}
use Rattle.ep_cell_ranges.proofs.Blurs.{wide_of}
use Rattle.ep_cell_ranges.proofs.TakenCells.{whole_cell, taken_byte, IsTaken, whole, byte}

-- On the sides of s pointers that lie partly in the place are undefined.
pub record BrokenFor (d : Model) (p : ByteRange) (s : Side) (m n : Memories) : Type 0 where
  pub left : on_left s ≡ true → (b q : ℕ) → n.left b q ≡ broken d m.left p.block p.offset p.bytes b q
  pub right : on_right s ≡ true → (b q : ℕ) → n.right b q ≡ broken d m.right p.block p.offset p.bytes b q

-- ---- a cell that is all in the place

-- a part of a pointer that is all in the place
part_inside : (d : Model) (m : Memory) (p : ByteRange) (s : Side) (b q j c o : ℕ)
    → encloses p (at s b q (pointer_bytes d)) ≡ true → m b (q + j) ≡ fragment c o j
    → (nat_eq p.block b && lies_partly d p.offset p.bytes (m b (q + j)) (q + j)) ≡ false
part_inside d m p s b q j c o i h =
    false_from_ne_true (nat_eq p.block b && lies_partly d p.offset p.bytes (m b (q + j)) (q + j)) (λ e.
    let x = and_parts (nat_eq p.block b) (lies_partly d p.offset p.bytes (m b (q + j)) (q + j)) e in
    let y : lies_partly d p.offset p.bytes (fragment c o j) (q + j) ≡ true =
    subst (λ z. lies_partly d p.offset p.bytes z (q + j) ≡ true) h x.1 in
    let z = and_parts (nat_lt (q + j) (p.offset + p.bytes + j) && nat_lt (p.offset + j) (q + j + pointer_bytes d))
    (not (nat_le (p.offset + j) (q + j) && nat_le (q + j + pointer_bytes d) (p.offset + p.bytes + j))) y in
    let out = not-true (nat_le (p.offset + j) (q + j) && nat_le (q + j + pointer_bytes d) (p.offset + p.bytes + j)) z.1
    in
    let w = and_parts (nat_le p.offset q) (nat_le (q + pointer_bytes d) (p.offset + p.bytes)) i in
    let from = leb-true p.offset q w.0 in
    let to = leb-true (q + pointer_bytes d) (p.offset + p.bytes) w.1 in
    both_ways (nat_le (p.offset + j) (q + j) && nat_le (q + j + pointer_bytes d) (p.offset + p.bytes + j)) out
    (and_from (nat_le (p.offset + j) (q + j)) (nat_le (q + j + pointer_bytes d) (p.offset + p.bytes + j))
    (le-leb (p.offset + j) (q + j) (omega (arith, from)))
    (le-leb (q + j + pointer_bytes d) (p.offset + p.bytes + j) (omega (arith, to)))))

byte_inside : (d : Model) (m : Memory) (p : ByteRange) (s : Side) (b q size j : ℕ) (v : Option Datum)
    → encloses p (at s b q size) ≡ true → PointerWide d size v
    → KeepsByte v j (m b (q + j)) (broken d m p.block p.offset p.bytes b (q + j))
byte_inside d m p s b q size j v i w = record {
  numbers = λ k h. number_stays d m p.block p.offset p.bytes b (q + j) k h;
  nothing = λ h. nothing_stays d m p.block p.offset p.bytes b (q + j) h;
  others = λ h. others_by (nat_eq p.block b && lies_partly d p.offset p.bytes (m b (q + j)) (q + j)) (m b (q + j)) h;
  parts = λ c o e h.
      ap (λ z. cond z undefined (m b (q + j)))
      (part_inside d m p s b q j c o (subst (λ (k : ℕ). encloses p (at s b q k) ≡ true) (w.wide c o e) i) h)
      ∙ h;
}

bytes_inside : (d : Model) (m n : Memory) (p : ByteRange) (s : Side) (b q size : ℕ) (v : Option Datum)
    → ((c r : ℕ) → n c r ≡ broken d m p.block p.offset p.bytes c r) → encloses p (at s b q size) ≡ true
    → PointerWide d size v → KeepsBytes v m n b q size
bytes_inside d m n p s b q size v e i w = record {
  at = λ j l. subst (KeepsByte v j (m b (q + j))) (sym (e b (q + j))) (byte_inside d m p s b q size j v i w);
}

-- ---- a byte of a cell that lies partly in the place

loose_then : (d : Model) (w : Scalar) (p : ByteRange) (h n : Memory) (x : Byte) (b q : ℕ) → IsLoose w x (h b q)
    → n b q ≡ broken d h p.block p.offset p.bytes b q → IsLoose w x (n b q)
loose_then d w p h n x b q k e = record {
  numbers = λ i r. e ∙ number_stays d h p.block p.offset p.bytes b q i (k.numbers i r);
  nothing = λ r. e ∙ nothing_stays d h p.block p.offset p.bytes b q (k.nothing r);
  others = λ r. ap is_number e ∙ others_by (nat_eq p.block b && lies_partly d p.offset p.bytes (h b q) q) (h b q)
      (k.others r);
  parts = λ r g. e ∙ nothing_stays d h p.block p.offset p.bytes b q (k.parts r g);
}

module _ {N : Type 0} (D : Ops N) where
  loose_on : (os : Order × Order) (d : Model) (s : Side) (a o i : ℕ) (x : Cell N) (m n : Memories) (v : Option Datum)
      → is_same_side s Shared ≡ false → BrokenFor d (at s a o i) s m n → is_partly_in (at s a o i) (place_of d x) ≡ true
      → HasBytes (order_on s os) (memory_on s m) (size_of d x.what) x.what x.maybe x.block x.offset v
      → (j : ℕ) → j < size_of d x.what
      → IsLoose x.what (memory_on s m x.block (x.offset + j)) (memory_on s n x.block (x.offset + j))
  loose_on os d Left a o i x m n v e b cut h j l =
      let one : Memories = record { left = n.left; right = m.right } in
      let r : AreBroken d (at Left a o i) m one = record {
        left = record { here_broken = λ f c q. b.left refl c q; whole = λ f. absurd (cc) };
        right = record { here_broken = λ f. absurd (cc); whole = λ f c q. refl };
      } in
      let t = between os d (at Left a o i) x x.what m one v refl refl cut r h in
      loose_then d x.what (at Left a o i) t.between.left n.left (m.left x.block (x.offset + j)) x.block (x.offset + j)
      (t.loosened.bytes j l) (t.broken.left.here_broken refl x.block (x.offset + j))
  loose_on os d Right a o i x m n v e b cut h j l =
      let one : Memories = record { left = m.left; right = n.right } in
      let r : AreBroken d (at Right a o i) m one = record {
        left = record { here_broken = λ f. absurd (cc); whole = λ f c q. refl };
        right = record { here_broken = λ f c q. b.right refl c q; whole = λ f. absurd (cc) };
      } in
      let t = between os d (at Right a o i) x x.what m one v refl refl cut r h in
      loose_then d x.what (at Right a o i) t.between.right n.right (m.right x.block (x.offset + j)) x.block
      (x.offset + j)
      (t.loosened.bytes j l) (t.broken.right.here_broken refl x.block (x.offset + j))
  loose_on os d Shared a o i x m n v e b cut h j l = absurd (cc)

  -- ---- what is taken says so

  kept_inside : (os : Order × Order) (d : Model) (p : ByteRange) (s : Side) (x : Cell N) (m n : Memories)
      → BrokenFor d p s m n
      → Within s x.side → encloses p (place_of d x) ≡ true → IsKept D os d m n x (record x { side = s })
  kept_inside os d p s x m n b w i = record {
    side = s;
    is = refl;
    within = w;
    stands = λ v a h. record {
      left = λ e. bytes_kept os.0 m.left n.left (size_of d x.what) x.what x.maybe x.block x.offset v
          (bytes_inside d m.left n.left p x.side x.block x.offset (size_of d x.what) v (b.left e) i
          (wide_of D d x.what x.value x.maybe v a)) (h.left (w.left e));
      right = λ e. bytes_kept os.1 m.right n.right (size_of d x.what) x.what x.maybe x.block x.offset v
          (bytes_inside d m.right n.right p x.side x.block x.offset (size_of d x.what) v (b.right e) i
          (wide_of D d x.what x.value x.maybe v a)) (h.right (w.right e));
    };
  }

  whole_number : (k : Known N) (s : Side) (x : Cell N) (m n : Memories) (o : Option (List Segment))
      → IsKept D k.orders k.model m n x (record x { side = s }) → IsCell k.model x → Says D k.orders k.model m x
      → IfSome o (IsFormOf k.cells x) → IfSome o (FormSays k.orders m x)
      → IfSome o (λ ss. HasNumber k.orders n (whole_cell D s x) x.what (form_number (numbers_of k.orders m) ss))
  whole_number k s x m n None q c says f g = tt
  whole_number k s x m n (Some ss) q c says f g =
      number_on_kept k.orders m n x (whole_cell D s x) x.what (form_number (numbers_of k.orders m) ss)
      (λ t w. kept_number D k.orders k.model m n x (record x { side = s }) t q c.fits w f.sure says) g

  whole_says : (k : Known N) (p : ByteRange) (s : Side) (x : Cell N) (m n : Memories) → AreCells k.model k.cells → In D k m
      → IsIn x k.cells → BrokenFor k.model p s m n → Within s x.side → encloses p (place_of k.model x) ≡ true
      → SaysNew D k (whole_cell D s x) m n
  whole_says k p s x m n a i j b w e =
      let q = kept_inside k.orders k.model p s x m n b w e in
      let r = kept_says D k.orders k.model m n x (record x { side = s }) q (i.cells x j) in record {
        cell = record {
          datum = r.datum;
          allowed = r.allowed;
          stands = record { left = r.stands.left; right = r.stands.right };
        };
        form = whole_number k s x m n (form_of_cell x) q (a.each x j) (i.cells x j)
            (cell_form_fits k.model k.cells x a j)
            (cell_form_says D k m x i j);
      }

  byte_new : (law : Lawful D) (k : Known N) (p : ByteRange) (x : Cell N) (j : ℕ) (m n : Memories) → AreCells k.model k.cells
      → In D k m
      → IsIn x k.cells → is_same_side p.side Shared ≡ false → share_memory p.side x.side ≡ true
      → BrokenFor k.model p p.side m n → is_partly_in p (place_of k.model x) ≡ true → j < size_of k.model x.what
      → SaysNew D k (taken_byte D k p x j) m n
  byte_new law k p x j m n a i h e share b cut l =
      let os = k.orders in
      let d = k.model in
      let s = p.side in
      let o = order_on s os in
      let f = form_of_cell x in
      let says = i.cells x h in
      let bytes = on_one (λ u y. HasBytes u y (size_of d x.what) x.what x.maybe x.block x.offset says.datum) os m s
      x.side
      e share says.stands.left says.stands.right in
      let loose = loose_on os d s p.block p.offset p.bytes x m n says.datum e b cut bytes j l in
      let fits = cell_form_fits d k.cells x a h in record {
        cell = says_on_side D os d n s (taken_byte D k p x j) e
            (ap (λ (z : Cell N). z.side) (byte_is D o s f x x.what x.value j).is)
            (byte_says D law d o (memory_on s m) (memory_on s n) s f x x.what x.value says.datum j says.allowed bytes l
            loose);
        form = byte_numbers D d os m n k.cells s f x x x.what x.value says.datum j e refl refl says.allowed bytes l
            loose fits
            (λ t z w q. stored_says os d m k.cells x says.datum t z f w
            (in_range_by D x.what x.value x.maybe t z w (subst (Allows D x.what x.value x.maybe) q says.allowed)) q
            says.stands fits (cell_form_says D k m x i h));
      }

  pub taken_says : (law : Lawful D) (k : Known N) (p : ByteRange) (s : Side) (x y : Cell N) (m n : Memories)
      → AreCells k.model k.cells
      → In D k m → IsIn x k.cells → is_same_side p.side Shared ≡ false → Within s x.side → BrokenFor k.model p s m n
      → BrokenFor k.model p p.side m n → share_memory p.side x.side ≡ true → touches p (place_of k.model x) ≡ true
      → IsTaken D k p s x y → SaysNew D k y m n
  taken_says law k p s x y m n a i h e w b c share touch (whole f is) =
      subst (λ z. SaysNew D k z m n) (sym is) (whole_says k p s x m n a i h b w f)
  taken_says law k p s x y m n a i h e w b c share touch (byte j f l is g) =
      subst (λ z. SaysNew D k z m n) (sym is)
      (byte_new law k p x j m n a i h e share c
      (and_from (meets p (place_of k.model x)) (not (encloses p (place_of k.model x)))
      (and_from (share_memory p.side x.side) (touches p (place_of k.model x)) share touch) (ap not f)) l)
