-- Memories in which pointers that lie partly in a place are undefined: what cells say of them, and what a split leaves.
use Rattle.std.proofs.Common.{◌≡◌, ℕ, ◌+◌, ◌-◌, ◌<◌, Bool, true, false, ◌&&◌, not, nat_eq, nat_le, nat_lt, cond, List}
use Rattle.ep_cells.proofs.Beside.{nothing_stays, number_stays, others_by}
use Rattle.std.proofs.Common.{[], ◌∷◌, map, ⊎_elim, Option, Some, None, IfSome, refl, sym, ◌∙◌, ap, subst, arith}
use Rattle.std.specs.Option.{option_map}
use Rattle.std.proofs.lemmas.Bool.{and_parts, and_from, and_left, and_right, or_left, or_right, eqb-true, eq-eqb}
use Rattle.std.proofs.lemmas.Bool.{leb-true, le-leb, lt-ltb, ltb-true, not-true, false_from_ne_true, both_ways}
use Rattle.ep_int.specs.declared.types.IntType.{IntType}
use Rattle.ep_int.specs.declared.types.Order.{Order}
use Rattle.ep_int.specs.declared.types.Model.{Model}
use Rattle.ep_int.specs.declared.types.Scalar.{Scalar}
use Rattle.ep_int.specs.declared.types.Scalar.TheVariants.{Int, Pointer}
use Rattle.ep_int.specs.Types.{size_of, pointer_bytes}
use Rattle.ep_int.specs.Memory.{Byte, undefined, number, fragment, Memory, Value as Datum, int, null, pointer}
use Rattle.ep_int.specs.Memory.{is_number, lies_partly, broken, bytes_of_value}
use Rattle.ep_bitslice.specs.declared.cell.Side.{Side}
use Rattle.ep_bitslice.specs.declared.cell.Side.TheVariants.{Left, Right, Shared}
use Rattle.ep_bitslice.specs.declared.segment.Segment.{Segment}
use Rattle.ep_bitslice.specs.Bits.{Bit, fixed, cell_bit}
use Rattle.ep_bitslice.specs.Segments.{bits, normal}
use Rattle.ep_bitslice.proofs.NormalForm.{form_is_normal}
use Rattle.ep_domain.specs.Domain.{Ops}
use Rattle.ep_cells.specs.declared.cell.Cell.{Cell}
use Rattle.ep_cells.specs.declared.cell.Value.{Value}
use Rattle.ep_cells.specs.declared.cell.Value.TheVariants.{Num, Ptr}
use Rattle.ep_cells.specs.declared.place.ByteRange.{ByteRange}
use Rattle.ep_cells.specs.Cells.{on_left, on_right, share_memory, place_of, touches, meets, encloses, is_partly_in}
use Rattle.ep_cells.specs.Cells.{is_same_side, IsNamed, IsIn, first, later}
use Rattle.ep_cells.specs.Forms.{Fate, put_bit, bits_after, form_after, reformed}
use Rattle.ep_cells.specs.States.{IsThere, IsFormOf, HasForm, AreCells}
use Rattle.ep_cells.specs.Meaning.{Memories, Allows, HasBytes, In}
use Rattle.ep_cells.specs.Memories.{is_byte_of, AreRewritten}
use Rattle.ep_cells.proofs.Bytes.{bytes_same}
use Rattle.ep_cells.proofs.Kept.{KeepsByte, bytes_kept}
use Rattle.ep_cells.proofs.Places.{at, within_itself}
use Rattle.ep_cells.proofs.Changes.{IsKept, kept_says, IsChange, change_holds}
use Rattle.ep_cells.proofs.Write.{keeps_kept, numbers_kept}
use Rattle.ep_reads.specs.Bytes.{order_on}
use Rattle.ep_reads.specs.Laws.{memory_on}
use Rattle.ep_reads.specs.SplitLaws.{IsBrokenAt, AreBroken}
use Rattle.ep_reads.proofs.ByteCells.{IsLoose, integer_loose}
use Rattle.ep_reads.proofs.OneSplit.{IsLoosened}

-- ---- bytes

-- whether a pointer at b, q has bytes in a place, and others
abbrev is_cut_at : Model → ByteRange → (b q : ℕ) → Bool
is_cut_at d p b q =
    (nat_eq p.block b && (nat_lt p.offset (q + pointer_bytes d) && nat_lt q (p.offset + p.bytes)))
    && not (nat_le p.offset q && nat_le (q + pointer_bytes d) (p.offset + p.bytes))

-- a part of a pointer lies partly in the place where the pointer does
part_cut : (d : Model) (p : ByteRange) (b q j c o : ℕ) → nat_eq p.block b ≡ true
    → lies_partly d p.offset p.bytes (fragment c o j) (q + j) ≡ true → is_cut_at d p b q ≡ true
part_cut d p b q j c o e h =
    let y = and_parts (nat_lt (q + j) (p.offset + p.bytes + j) && nat_lt (p.offset + j) (q + j + pointer_bytes d))
    (not (nat_le (p.offset + j) (q + j) && nat_le (q + j + pointer_bytes d) (p.offset + p.bytes + j))) h in
    let w = and_parts (nat_lt (q + j) (p.offset + p.bytes + j)) (nat_lt (p.offset + j) (q + j + pointer_bytes d)) y.0 in
    let low = ltb-true (q + j) (p.offset + p.bytes + j) w.0 in
    let high = ltb-true (p.offset + j) (q + j + pointer_bytes d) w.1 in
    let out = not-true (nat_le (p.offset + j) (q + j) && nat_le (q + j + pointer_bytes d) (p.offset + p.bytes + j))
    y.1 in
    and_from (nat_eq p.block b && (nat_lt p.offset (q + pointer_bytes d) && nat_lt q (p.offset + p.bytes)))
    (not (nat_le p.offset q && nat_le (q + pointer_bytes d) (p.offset + p.bytes)))
    (and_from (nat_eq p.block b) (nat_lt p.offset (q + pointer_bytes d) && nat_lt q (p.offset + p.bytes)) e
    (and_from (nat_lt p.offset (q + pointer_bytes d)) (nat_lt q (p.offset + p.bytes)) (lt-ltb p.offset (q +
    pointer_bytes
    d) (omega (arith, high))) (lt-ltb q (p.offset + p.bytes) (omega (arith, low)))))
    (ap not (false_from_ne_true (nat_le p.offset q && nat_le (q + pointer_bytes d) (p.offset + p.bytes)) (λ i.
    let k = and_parts (nat_le p.offset q) (nat_le (q + pointer_bytes d) (p.offset + p.bytes)) i in
    let a = leb-true p.offset q k.0 in
    let g = leb-true (q + pointer_bytes d) (p.offset + p.bytes) k.1 in
    both_ways (nat_le (p.offset + j) (q + j) && nat_le (q + j + pointer_bytes d) (p.offset + p.bytes + j)) out
    (and_from (nat_le (p.offset + j) (q + j)) (nat_le (q + j + pointer_bytes d) (p.offset + p.bytes + j)) (le-leb
    (p.offset + j) (q + j) (omega (arith, a))) (le-leb (q + j + pointer_bytes d) (p.offset + p.bytes + j) (omega (
      arith,
      g,
    )))))))

-- and a pointer that does has only such parts
cut_part : (d : Model) (p : ByteRange) (b q j c o : ℕ) → is_cut_at d p b q ≡ true
    → (nat_eq p.block b && lies_partly d p.offset p.bytes (fragment c o j) (q + j)) ≡ true
cut_part d p b q j c o h =
    let y = and_parts (nat_eq p.block b && (nat_lt p.offset (q + pointer_bytes d) && nat_lt q (p.offset + p.bytes)))
    (not
    (nat_le p.offset q && nat_le (q + pointer_bytes d) (p.offset + p.bytes))) h in
    let t = and_parts (nat_eq p.block b) (nat_lt p.offset (q + pointer_bytes d) && nat_lt q (p.offset + p.bytes)) y.0 in
    let w = and_parts (nat_lt p.offset (q + pointer_bytes d)) (nat_lt q (p.offset + p.bytes)) t.1 in
    let low = ltb-true p.offset (q + pointer_bytes d) w.0 in
    let high = ltb-true q (p.offset + p.bytes) w.1 in
    let out = not-true (nat_le p.offset q && nat_le (q + pointer_bytes d) (p.offset + p.bytes)) y.1 in
    and_from (nat_eq p.block b) (lies_partly d p.offset p.bytes (fragment c o j) (q + j)) t.0
    (and_from (nat_lt (q + j) (p.offset + p.bytes + j) && nat_lt (p.offset + j) (q + j + pointer_bytes d))
    (not (nat_le (p.offset + j) (q + j) && nat_le (q + j + pointer_bytes d) (p.offset + p.bytes + j)))
    (and_from (nat_lt (q + j) (p.offset + p.bytes + j)) (nat_lt (p.offset + j) (q + j + pointer_bytes d)) (lt-ltb (q
    + j)
    (p.offset + p.bytes + j) (omega (arith, high))) (lt-ltb (p.offset + j) (q + j + pointer_bytes d) (omega (
      arith,
      low,
    ))))
    (ap not (false_from_ne_true (nat_le (p.offset + j) (q + j) && nat_le (q + j + pointer_bytes d) (p.offset +
    p.bytes + j))
    (λ i.
    let k = and_parts (nat_le (p.offset + j) (q + j)) (nat_le (q + j + pointer_bytes d) (p.offset + p.bytes + j)) i in
    let a = leb-true (p.offset + j) (q + j) k.0 in
    let g = leb-true (q + j + pointer_bytes d) (p.offset + p.bytes + j) k.1 in
    both_ways (nat_le p.offset q && nat_le (q + pointer_bytes d) (p.offset + p.bytes)) out
    (and_from (nat_le p.offset q) (nat_le (q + pointer_bytes d) (p.offset + p.bytes)) (le-leb p.offset q (omega (
      arith,
      a,
    ))) (le-leb (q + pointer_bytes d) (p.offset + p.bytes) (omega (arith, g))))))))

-- ---- cells that don't lie partly in the place

-- a pointer isn't cut
record IsWhole (d : Model) (p : ByteRange) (b q : ℕ) (v : Option Datum) : Type 0 where
  whole : (c o : ℕ) → v ≡ Some (pointer c o) → is_cut_at d p b q ≡ false

byte_whole : (d : Model) (m : Memory) (p : ByteRange) (b q j : ℕ) (v : Option Datum) → IsWhole d p b q v
    → KeepsByte v j (m b (q + j)) (broken d m p.block p.offset p.bytes b (q + j))
byte_whole d m p b q j v w = record {
  numbers = λ k h. number_stays d m p.block p.offset p.bytes b (q + j) k h;
  nothing = λ h. nothing_stays d m p.block p.offset p.bytes b (q + j) h;
  others = λ h. others_by (nat_eq p.block b && lies_partly d p.offset p.bytes (m b (q + j)) (q + j)) (m b (q + j)) h;
  parts = λ c o e h.
      ap (λ z. cond z undefined (m b (q + j)))
      (false_from_ne_true (nat_eq p.block b && lies_partly d p.offset p.bytes (m b (q + j)) (q + j)) (λ i.
      let x = and_parts (nat_eq p.block b) (lies_partly d p.offset p.bytes (m b (q + j)) (q + j)) i in
      both_ways (is_cut_at d p b q) (w.whole c o e)
      (part_cut d p b q j c o x.0 (subst (λ z. lies_partly d p.offset p.bytes z (q + j) ≡ true) h x.1))))
      ∙ h;
}

broken_kept : (o : Order) (d : Model) (p : ByteRange) (here : Bool) (m n : Memory) (size : ℕ) (w : Scalar) (maybe :
    Bool) (b q
    : ℕ) (v : Option Datum) → IsBrokenAt d p here m n → (here ≡ true → IsWhole d p b q v)
    → HasBytes o m size w maybe b q v → HasBytes o n size w maybe b q v
broken_kept o d p true m n size w maybe b q v r i h =
    bytes_kept o m n size w maybe b q v
    (record {
      at = λ j l. subst (KeepsByte v j (m b (q + j))) (sym (r.here_broken refl b (q + j))) (byte_whole d m p b q j v (i
          refl));
    }) h
broken_kept o d p false m n size w maybe b q v r i h =
    bytes_same o m n size w maybe b q v (record { same = λ j l. r.whole refl b (q + j) }) h

pointer_by : {N : Type 0} (D : Ops N) (w : Scalar) (u : Option (Value N)) (maybe : Bool) (c o : ℕ)
    → Allows D w u maybe (Some (pointer c o)) → w ≡ Pointer
pointer_by D w None maybe c o a = absurd (let e : Some (pointer c o) ≡ None = a in cc)
pointer_by D (Int t) (Some (Num n)) maybe c o a = absurd a
pointer_by D (Int t) (Some (Ptr n)) maybe c o a = absurd a
pointer_by D Pointer (Some u) maybe c o a = refl

whole_of : {N : Type 0} (D : Ops N) (d : Model) (p : ByteRange) (x : Cell N) (v : Option Datum)
    → is_partly_in p (place_of d x) ≡ false → share_memory p.side x.side ≡ true → Allows D x.what x.value x.maybe v
    → IsWhole d p x.block x.offset v
whole_of D d p x v e s a = record {
  whole = λ c o i.
      let w : x.what ≡ Pointer = pointer_by D x.what x.value x.maybe c o (subst (Allows D x.what x.value x.maybe) i
      a) in
      let f : is_partly_in p (at x.side x.block x.offset (pointer_bytes d)) ≡ false = subst (λ z. is_partly_in p (at
      x.side x.block x.offset (size_of d z)) ≡ false) w e in
      let place = at x.side x.block x.offset (pointer_bytes d) in
      false_from_ne_true (is_cut_at d p x.block x.offset) (λ k.
      let y = and_parts (touches p place) (not (encloses p place)) k in
      both_ways (is_partly_in p place) f (and_from (meets p place) (not (encloses p place)) (and_from (share_memory
      p.side
      x.side) (touches p place) s y.0) y.1));
}

share_left : (s q : Side) → on_left s ≡ true → on_left q ≡ true → share_memory s q ≡ true
share_left s q e h =
    or_left (on_left s && on_left q) (on_right s && on_right q) (and_from (on_left s) (on_left q) e h)

share_right : (s q : Side) → on_right s ≡ true → on_right q ≡ true → share_memory s q ≡ true
share_right s q e h =
    or_right (on_left s && on_left q) (on_right s && on_right q) (and_from (on_right s) (on_right q) e h)

kept_whole : {N : Type 0} (D : Ops N) (os : Order × Order) (d : Model) (p : ByteRange) (x : Cell N) (m n : Memories)
    → AreBroken d p m n → is_partly_in p (place_of d x) ≡ false → IsKept D os d m n x x
kept_whole D os d p x m n r e = record {
  side = x.side;
  is = refl;
  within = within_itself x.side;
  stands = λ v a h. record {
    left = λ i. broken_kept os.0 d p (on_left p.side) m.left n.left (size_of d x.what) x.what x.maybe x.block x.offset v
        r.left (λ k. whole_of D d p x v e (share_left p.side x.side k i) a) (h.left i);
    right = λ i. broken_kept os.1 d p (on_right p.side) m.right n.right (size_of d x.what) x.what x.maybe x.block
        x.offset
        v r.right (λ k. whole_of D d p x v e (share_right p.side x.side k i) a) (h.right i);
  };
}

-- ---- mentions that all go on as they are

abbrev unchanged : Fate
unchanged n = Some n

bits_same : (bs : List Bit) → bits_after unchanged bs ≡ Some bs
bits_same [] = refl
bits_same (fixed b ∷ bs) = ap (put_bit (Some (fixed b))) (bits_same bs)
bits_same (cell_bit c k ∷ bs) = ap (put_bit (Some (cell_bit c k))) (bits_same bs)

form_same : {N : Type 0} (cs : List (Cell N)) (x : Cell N) (o : Option (List Segment)) → IfSome o (IsFormOf cs x)
    → form_after unchanged o ≡ o
form_same cs x None h = refl
form_same cs x (Some ss) h = ap (option_map normal) (bits_same (bits ss)) ∙ ap Some (form_is_normal ss h.form)

all_same : {N : Type 0} (l cs : List (Cell N)) → ((x : Cell N) → IsIn x cs → HasForm l x)
    → map (reformed unchanged) cs ≡ cs
all_same l [] h = refl
all_same {N = N} l (x ∷ cs) h =
    let here : reformed unchanged x ≡ x = ap (λ g. let z : Cell N = record x { form = g } in z) (form_same l x
    x.form (h x
    (first cs))) in
    ap (λ y. y ∷ map (reformed unchanged) cs) here ∙ ap (λ ys. x ∷ ys) (all_same l cs (λ y k. h y (later x cs k)))

-- where no cell lies partly in the place, a state holds of the broken memories too
pub whole_holds : {N : Type 0} (D : Ops N) (os : Order × Order) (d : Model) (p : ByteRange) (cs : List (Cell N)) (m n :
    Memories) → AreCells d cs → ((x : Cell N) → IsIn x cs → is_partly_in p (place_of d x) ≡ false)
    → In D (record { orders = os; model = d; cells = cs }) m → AreBroken d p m n
    → In D (record { orders = os; model = d; cells = cs }) n
whole_holds D os d p cs m n a none i r =
    let change : IsChange d cs cs unchanged = record {
      each = a.each;
      pairs = a.pairs;
      forms = a.forms;
      fates = λ c e t h. let same : c ≡ e = let k : Some c ≡ Some e = h in cc in subst (λ z. IsThere z cs) same t;
    } in
    subst (λ l. In D (record { orders = os; model = d; cells = l }) n) (all_same cs cs a.forms)
    (change_holds D os d m n cs cs unchanged change
    (record {
      says = λ y j. kept_says D os d m n y y (kept_whole D os d p y m n r (none y j)) (i.cells y j);
      numbers = λ y j. numbers_kept D os d m n cs y y y.side refl (kept_whole D os d p y m n r (none y j)) (a.each y
          j).fits (i.cells y j) (a.forms y j) (i.forms y j);
      keeps = λ c e t h.
          let same : c ≡ e = let k : Some c ≡ Some e = h in cc in
          keeps_kept D os d m n t.cell t.cell c e (kept_whole D os d p t.cell m n r (none t.cell t.is_in)) (a.each
          t.cell
          t.is_in).fits t.sure (i.cells t.cell t.is_in) refl t.named (subst (λ z. IsNamed z t.cell) same t.named);
    }))

-- ---- memories in which one pointer is undefined

-- bytes of a place that are no numbers are undefined
abbrev loose : Memory → (b q size : ℕ) → Memory
loose m b q size c r =
    cond ((nat_eq b c && (nat_le q r && nat_lt r (q + size))) && not (is_number (m c r))) undefined (m c r)

abbrev loose_on : Side → Memories → (b q size : ℕ) → Memories
loose_on Left m b q size = record { left = loose m.left b q size; right = m.right }
loose_on Right m b q size = record { left = m.left; right = loose m.right b q size }
loose_on Shared m b q size = m

loose_by : (w : Scalar) (y : Byte) (t : Bool) → t ≡ not (is_number y) → IsLoose w y (cond t undefined y)
loose_by w undefined true e = record {
  numbers = λ k h. h;
  nothing = λ h. refl;
  others = λ h. refl;
  parts = λ i h. refl;
}
loose_by w undefined false e = absurd (let c : false ≡ true = e in cc)
loose_by w (number v) true e = absurd (let c : true ≡ false = e in cc)
loose_by w (number v) false e = record {
  numbers = λ k h. h;
  nothing = λ h. h;
  others = λ h. h;
  parts = λ i h. absurd (let c : true ≡ false = h in cc);
}
loose_by w (fragment c o k) true e = record {
  numbers = λ i h. absurd (cc);
  nothing = λ h. refl;
  others = λ h. refl;
  parts = λ i h. refl;
}
loose_by w (fragment c o k) false e = absurd (let c : false ≡ true = e in cc)

in_place : (b q size j : ℕ) → j < size → (nat_eq b b && (nat_le q (q + j) && nat_lt (q + j) (q + size))) ≡ true
in_place b q size j l =
    and_from (nat_eq b b) (nat_le q (q + j) && nat_lt (q + j) (q + size)) (eq-eqb b b refl)
    (and_from (nat_le q (q + j)) (nat_lt (q + j) (q + size)) (le-leb q (q + j) (omega arith)) (lt-ltb (q + j) (q + size)
    (omega (arith, l))))

loose_bytes : (w : Scalar) (m : Memory) (b q size j : ℕ) → j < size
    → IsLoose w (m b (q + j)) (loose m b q size b (q + j))
loose_bytes w m b q size j l =
    loose_by w (m b (q + j)) ((nat_eq b b && (nat_le q (q + j) && nat_lt (q + j) (q + size))) && not (is_number (m b
    (q +
    j)))) (ap (λ t. t && not (is_number (m b (q + j)))) (in_place b q size j l))

loose_elsewhere : (s : Side) (m : Memory) (b q size c r : ℕ) → is_byte_of (at s b q size) c r ≡ false
    → loose m b q size c r ≡ m c r
loose_elsewhere s m b q size c r e =
    ap (λ t. cond t undefined (m c r)) (and_left (nat_eq b c && (nat_le q r && nat_lt r (q + size))) (not (is_number
    (m c
    r))) e)

loose_rewritten : (s : Side) (m : Memories) (b q size : ℕ)
    → AreRewritten (at s b q size) m (loose_on s m b q size)
loose_rewritten Left m b q size = record {
  left = record { elsewhere = λ c r e. loose_elsewhere Left m.left b q size c r e };
  right = record { elsewhere = λ c r e. refl };
}
loose_rewritten Right m b q size = record {
  left = record { elsewhere = λ c r e. refl };
  right = record { elsewhere = λ c r e. loose_elsewhere Right m.right b q size c r e };
}
loose_rewritten Shared m b q size = record {
  left = record { elsewhere = λ c r e. refl };
  right = record { elsewhere = λ c r e. refl };
}

-- a byte of a pointer cell that is no number is undefined, or the part of a pointer that stands there
data PartAt (j : ℕ) (y : Byte) : Type 0 where
  nothing : y ≡ undefined → PartAt j y
  part : (c o : ℕ) → y ≡ fragment c o j → PartAt j y

value_part : (o : Order) (v : Datum) (j : ℕ) (y : Byte) → y ≡ bytes_of_value o Pointer v j → is_number y ≡ false
    → PartAt j y
value_part o (int z) j y h e = nothing h
value_part o null j y h e = absurd (let c : true ≡ false = sym (ap is_number h) ∙ e in cc)
value_part o (pointer c q) j y h e = part c q h

pointer_part : (o : Order) (m : Memory) (size : ℕ) (maybe : Bool) (b q j : ℕ) (v : Option Datum)
    → HasBytes o m size Pointer maybe b q v → j < size → is_number (m b (q + j)) ≡ false → PartAt j (m b (q + j))
pointer_part o m size maybe b q j None h l e = nothing (h j l)
pointer_part o m size false b q j (Some v) h l e = value_part o v j (m b (q + j)) (h j l) e
pointer_part o m size true b q j (Some v) h l e =
    ⊎_elim (λ k. value_part o v j (m b (q + j)) (k j l) e) (λ k. nothing (k j l)) h

-- what becomes of a byte
abbrev broken_byte : Model → ByteRange → (c r : ℕ) → Byte → Byte
broken_byte d p c r y = cond (nat_eq p.block c && lies_partly d p.offset p.bytes y r) undefined y

part_breaks : (d : Model) (p : ByteRange) (b q j : ℕ) (y : Byte) → is_cut_at d p b q ≡ true → PartAt j y
    → broken_byte d p b (q + j) y ≡ undefined
part_breaks d p b q j y e (nothing h) =
    ap (broken_byte d p b (q + j)) h
    ∙ ap (λ t. cond t undefined undefined) (and_right (nat_eq p.block b) false refl)
part_breaks d p b q j y e (part c o h) =
    ap (broken_byte d p b (q + j)) h ∙ ap (λ t. cond t undefined (fragment c o j)) (cut_part d p b q j c o e)

undefined_breaks : (d : Model) (p : ByteRange) (c r : ℕ) → broken_byte d p c r undefined ≡ undefined
undefined_breaks d p c r = ap (λ t. cond t undefined undefined) (and_right (nat_eq p.block c) false refl)

same_broken : (d : Model) (p : ByteRange) (m : Memory) (b q size c r : ℕ) (t : Bool)
    → ((nat_eq b c && (nat_le q r && nat_lt r (q + size))) && not (is_number (m c r))) ≡ t
    → is_cut_at d p b q ≡ true
    → ((j : ℕ) → j < size → is_number (m b (q + j)) ≡ false → PartAt j (m b (q + j)))
    → broken_byte d p c r (cond t undefined (m c r)) ≡ broken_byte d p c r (m c r)
same_broken d p m b q size c r false e h parts = refl
same_broken d p m b q size c r true e h parts =
    let x = and_parts (nat_eq b c && (nat_le q r && nat_lt r (q + size))) (not (is_number (m c r))) e in
    let y = and_parts (nat_eq b c) (nat_le q r && nat_lt r (q + size)) x.0 in
    let z = and_parts (nat_le q r) (nat_lt r (q + size)) y.1 in
    let low = leb-true q r z.0 in
    let high = ltb-true r (q + size) z.1 in
    let here : b ≡ c = eqb-true b c y.0 in
    let there : q + (r - q) ≡ r = omega (arith, low) in
    let none : is_number (m b (q + (r - q))) ≡ false = subst (λ i. is_number (m b i) ≡ false) (sym there) (subst (λ i.
    is_number (m i r) ≡ false) (sym here) (not-true (is_number (m c r)) x.1)) in
    let k : broken_byte d p b (q + (r - q)) (m b (q + (r - q))) ≡ undefined = part_breaks d p b q (r - q) (m b (q + (r -
    q))) h (parts (r - q) (omega (arith, low, high)) none) in
    let l : broken_byte d p c r (m c r) ≡ undefined = subst (λ i. broken_byte d p i r (m i r) ≡ undefined) here
    (subst (λ
    i. broken_byte d p b i (m b i) ≡ undefined) there k) in
    undefined_breaks d p c r ∙ sym l

still_broken : (d : Model) (p : ByteRange) (m n : Memory) (b q size : ℕ) → IsBrokenAt d p true m n
    → is_cut_at d p b q ≡ true
    → ((j : ℕ) → j < size → is_number (m b (q + j)) ≡ false → PartAt j (m b (q + j)))
    → IsBrokenAt d p true (loose m b q size) n
still_broken d p m n b q size r h parts = record {
  here_broken = λ e c i. r.here_broken refl c i ∙ sym (same_broken d p m b q size c i ((nat_eq b c && (nat_le q i &&
      nat_lt i (q + size))) && not (is_number (m c i))) refl h parts);
  whole = λ e. absurd (let c : true ≡ false = e in cc);
}

still_broken_on : (d : Model) (s : Side) (a o i : ℕ) (m n : Memories) (b q size : ℕ) → is_same_side s Shared ≡ false
    → AreBroken d (at s a o i) m n → is_cut_at d (at s a o i) b q ≡ true
    → ((j : ℕ) → j < size → is_number (memory_on s m b (q + j)) ≡ false → PartAt j (memory_on s m b (q + j)))
    → AreBroken d (at s a o i) (loose_on s m b q size) n
still_broken_on d Left a o i m n b q size e r h parts = record {
  left = still_broken d (at Left a o i) m.left n.left b q size r.left h parts;
  right = r.right;
}
still_broken_on d Right a o i m n b q size e r h parts = record {
  left = r.left;
  right = still_broken d (at Right a o i) m.right n.right b q size r.right h parts;
}
still_broken_on d Shared a o i m n b q size e r h parts = absurd (let c : true ≡ false = e in cc)

loose_on_bytes : (s : Side) (w : Scalar) (m : Memories) (b q size j : ℕ) → is_same_side s Shared ≡ false → j < size
    → IsLoose w (memory_on s m b (q + j)) (memory_on s (loose_on s m b q size) b (q + j))
loose_on_bytes Left w m b q size j e l = loose_bytes w m.left b q size j l
loose_on_bytes Right w m b q size j e l = loose_bytes w m.right b q size j l
loose_on_bytes Shared w m b q size j e l = absurd (let c : true ≡ false = e in cc)

-- ---- the memories after one split

-- Memories that a split of x leaves, of which the broken ones are those of the memories before.
pub record IsBetween {N : Type 0} (d : Model) (p : ByteRange) (x : Cell N) (m n : Memories) : Type 0 where
  pub between : Memories
  pub loosened : IsLoosened d p.side x m between
  pub broken : AreBroken d p between n

unchanged_between : {N : Type 0} (d : Model) (p : ByteRange) (x : Cell N) (t : IntType) (m n : Memories) → x.what ≡ Int t
    → AreBroken d p m n → IsBetween d p x m n
unchanged_between d p x t m n w r = record {
  between = m;
  loosened = record {
    rewritten = record { left = record { elsewhere = λ b q e. refl }; right = record { elsewhere = λ b q e. refl } };
    bytes = λ j l. subst (λ z. IsLoose z (memory_on p.side m x.block (x.offset + j)) (memory_on p.side m x.block
        (x.offset
        + j))) (sym w) (integer_loose t (memory_on p.side m x.block (x.offset + j)) (memory_on p.side m x.block
        (x.offset
        + j)) refl);
  };
  broken = r;
}

cut_of : {N : Type 0} (d : Model) (p : ByteRange) (x : Cell N) → x.what ≡ Pointer → is_partly_in p (place_of d x) ≡ true
    → is_cut_at d p x.block x.offset ≡ true
cut_of d p x w h =
    let place = at x.side x.block x.offset (pointer_bytes d) in
    let f : is_partly_in p (at x.side x.block x.offset (pointer_bytes d)) ≡ true = subst (λ z. is_partly_in p (at x.side
    x.block x.offset (size_of d z)) ≡ true) w h in
    let a = and_parts (meets p place) (not (encloses p place)) f in
    let b = and_parts (share_memory p.side x.side) (touches p place) a.0 in
    and_from (touches p place) (not (encloses p place)) b.1 a.1

loose_between : {N : Type 0} (os : Order × Order) (d : Model) (p : ByteRange) (x : Cell N) (m n : Memories) (v : Option
    Datum)
    → x.what ≡ Pointer → is_same_side p.side Shared ≡ false → is_partly_in p (place_of d x) ≡ true → AreBroken d p m n
    → HasBytes (order_on p.side os) (memory_on p.side m) (size_of d x.what) x.what x.maybe x.block x.offset v
    → IsBetween d p x m n
loose_between os d p x m n v w e h r bytes =
    let size = size_of d x.what in
    let known : HasBytes (order_on p.side os) (memory_on p.side m) (size_of d x.what) Pointer x.maybe x.block
    x.offset v =
    subst (λ z. HasBytes (order_on p.side os) (memory_on p.side m) (size_of d x.what) z x.maybe x.block x.offset v) w
    bytes in
    record {
      between = loose_on p.side m x.block x.offset size;
      loosened = record {
        rewritten = loose_rewritten p.side m x.block x.offset size;
        bytes = λ j l. loose_on_bytes p.side x.what m x.block x.offset size j e l;
      };
      broken = still_broken_on d p.side p.block p.offset p.bytes m n x.block x.offset size e r (cut_of d p x w h)
          (λ j l i. pointer_part (order_on p.side os) (memory_on p.side m) size x.maybe x.block x.offset j v known l i);
    }

pub between : {N : Type 0} (os : Order × Order) (d : Model) (p : ByteRange) (x : Cell N) (w : Scalar) (m n : Memories) (v :
    Option Datum) → x.what ≡ w → is_same_side p.side Shared ≡ false → is_partly_in p (place_of d x) ≡ true
    → AreBroken d p m n
    → HasBytes (order_on p.side os) (memory_on p.side m) (size_of d x.what) x.what x.maybe x.block x.offset v
    → IsBetween d p x m n
between os d p x (Int t) m n v w e h r bytes = unchanged_between d p x t m n w r
between os d p x Pointer m n v w e h r bytes = loose_between os d p x m n v w e h r bytes
