-- Bytes and cells that a weak write leaves as they are.
use Rattle.std.proofs.Common.{◌≡◌, ℕ, ◌+◌, ◌<◌, Bool, true, false, ◌&&◌, not, nat_eq, nat_le, nat_lt, cond, Option}
use Rattle.std.proofs.Common.{Some, None, refl, sym, ◌∙◌, ap, subst, arith}
use Rattle.std.proofs.lemmas.Bool.{and_parts, and_from, and_right, lt-ltb, ltb-true, false_from_ne_true, both_ways}
use Rattle.ep_int.specs.declared.types.Order.{Order}
use Rattle.ep_int.specs.declared.types.Model.{Model}
use Rattle.ep_int.specs.declared.types.Scalar.{Scalar}
use Rattle.ep_int.specs.declared.types.Scalar.TheVariants.{Int, Pointer}
use Rattle.ep_int.specs.Types.{size_of, pointer_bytes}
use Rattle.ep_int.specs.Memory.{Byte, undefined, number, fragment, Memory, Value as Datum, pointer, is_number}
use Rattle.ep_int.specs.Memory.{lies_partly, broken}
use Rattle.ep_bitslice.specs.declared.cell.Side.{Side}
use Rattle.ep_domain.specs.Domain.{Ops}
use Rattle.ep_cells.specs.declared.cell.Cell.{Cell}
use Rattle.ep_cells.specs.declared.cell.Value.{Value}
use Rattle.ep_cells.specs.declared.cell.Value.TheVariants.{Num, Ptr}
use Rattle.ep_cells.specs.declared.place.ByteRange.{ByteRange}
use Rattle.ep_cells.specs.Cells.{on_left, on_right, place_of, touches}
use Rattle.ep_cells.specs.States.{Known}
use Rattle.ep_cells.specs.Meaning.{Memories, Allows}
use Rattle.ep_cells.specs.Memories.{is_byte_of}
use Rattle.ep_cells.specs.Sound.{MayBeWritten, as_it_was, rewritten, MayBeWeaklyWritten, each_side, neither}
use Rattle.ep_cells.specs.Sound.{both_sides}
use Rattle.ep_cells.proofs.Bytes.{SameBytes, bytes_same}
use Rattle.ep_cells.proofs.Kept.{KeepsByte, byte_same, KeepsBytes, bytes_kept}
use Rattle.ep_cells.proofs.Places.{at, within_itself, IsRest}
use Rattle.ep_cells.proofs.Changes.{IsKept}
use Rattle.ep_cells.proofs.Write.{both_have}

-- ---- bytes of cells that the place doesn't touch

-- a part of a pointer at b, q that doesn't lie in the place
pub part_kept : (d : Model) (m : Memory) (p : ByteRange) (s : Side) (b q j c o : ℕ)
    → touches p (at s b q (pointer_bytes d)) ≡ false → m b (q + j) ≡ fragment c o j
    → (nat_eq p.block b && lies_partly d p.offset p.bytes (m b (q + j)) (q + j)) ≡ false
part_kept d m p s b q j c o t h =
    false_from_ne_true (nat_eq p.block b && lies_partly d p.offset p.bytes (m b (q + j)) (q + j)) (λ e.
    let x = and_parts (nat_eq p.block b) (lies_partly d p.offset p.bytes (m b (q + j)) (q + j)) e in
    let y : lies_partly d p.offset p.bytes (fragment c o j) (q + j) ≡ true = subst (λ z. lies_partly d p.offset
    p.bytes z (q + j) ≡ true) h x.1 in
    let z = and_parts (nat_lt (q + j) (p.offset + p.bytes + j) && nat_lt (p.offset + j) (q + j + pointer_bytes d))
    (not (nat_le (p.offset + j) (q + j) && nat_le (q + j + pointer_bytes d) (p.offset + p.bytes + j))) y in
    let w = and_parts (nat_lt (q + j) (p.offset + p.bytes + j)) (nat_lt (p.offset + j) (q + j + pointer_bytes d)) z.0
    in
    let low = ltb-true (q + j) (p.offset + p.bytes + j) w.0 in
    let high = ltb-true (p.offset + j) (q + j + pointer_bytes d) w.1 in
    both_ways (touches p (at s b q (pointer_bytes d))) t
    (and_from (nat_eq p.block b) (nat_lt p.offset (q + pointer_bytes d) && nat_lt q (p.offset + p.bytes)) x.0
    (and_from (nat_lt p.offset (q + pointer_bytes d)) (nat_lt q (p.offset + p.bytes)) (lt-ltb p.offset (q +
    pointer_bytes d) (omega arith)) (lt-ltb q (p.offset + p.bytes) (omega arith)))))

-- a pointer has as many bytes as the data model says
pub record PointerWide (d : Model) (size : ℕ) (v : Option Datum) : Type 0 where
  pub wide : (c o : ℕ) → v ≡ Some (pointer c o) → size ≡ pointer_bytes d

pub number_stays : (d : Model) (m : Memory) (b here n c p k : ℕ) → m c p ≡ number k → broken d m b here n c p ≡ number k
number_stays d m b here n c p k h =
    let f : (nat_eq b c && lies_partly d here n (m c p) p) ≡ false = and_right (nat_eq b c) (lies_partly d here n (m
    c p) p) (ap (λ x. lies_partly d here n x p) h) in
    ap (λ t. cond t undefined (m c p)) f ∙ h

pub nothing_stays : (d : Model) (m : Memory) (b here n c p : ℕ) → m c p ≡ undefined → broken d m b here n c p ≡ undefined
nothing_stays d m b here n c p h =
    let f : (nat_eq b c && lies_partly d here n (m c p) p) ≡ false = and_right (nat_eq b c) (lies_partly d here n (m
    c p) p) (ap (λ x. lies_partly d here n x p) h) in
    ap (λ t. cond t undefined (m c p)) f ∙ h

pub others_by : (t : Bool) (x : Byte) → is_number x ≡ false → is_number (cond t undefined x) ≡ false
others_by true x h = refl
others_by false x h = h

byte_broken : (d : Model) (m : Memory) (p : ByteRange) (s : Side) (b q size j : ℕ) (v : Option Datum)
    → touches p (at s b q size) ≡ false → PointerWide d size v
    → KeepsByte v j (m b (q + j)) (broken d m p.block p.offset p.bytes b (q + j))
byte_broken d m p s b q size j v t w = record {
  numbers = λ k h. number_stays d m p.block p.offset p.bytes b (q + j) k h;
  nothing = λ h. nothing_stays d m p.block p.offset p.bytes b (q + j) h;
  others = λ h. others_by (nat_eq p.block b && lies_partly d p.offset p.bytes (m b (q + j)) (q + j)) (m b (q + j)) h;
  parts = λ c o e h.
      ap (λ z. cond z undefined (m b (q + j)))
      (part_kept d m p s b q j c o (subst (λ (k : ℕ). touches p (at s b q k) ≡ false) (w.wide c o e) t) h)
      ∙ h;
}

pub not_in : (p : ByteRange) (s : Side) (b q size j : ℕ) → touches p (at s b q size) ≡ false → j < size
    → is_byte_of p b (q + j) ≡ false
not_in p s b q size j t l = false_from_ne_true (is_byte_of p b (q + j)) (λ h. both_ways (touches p (at s b q size)) t
    (both_have p s b q size j l h))

bytes_beside : {N : Type 0} (D : Ops N) (o : Order) (d : Model) (c : Cell N) (written : Bool) (m n : Memory) (s :
    Side) (b q size : ℕ) (v : Option Datum)
    → MayBeWritten D o d c written m n → touches (place_of d c) (at s b q size) ≡ false → PointerWide d size v →
    KeepsBytes v m n b q size
bytes_beside D o d c written m n s b q size v (as_it_was e) t w = record {
  at = λ j l. byte_same v j (m b (q + j)) (n
      b (q + j)) (e b (q + j));
}
bytes_beside D o d c written m n s b q size v (rewritten f r u a h) t w = record {
  at = λ j l.
      subst (KeepsByte v j (m b (q + j))) (sym (r.beside b (q + j) (not_in (place_of d c) s b q size j t l)))
      (byte_broken d m (place_of d c) s b q size j v t w);
}

-- what is written of one memory
pub left_of : {N : Type 0} (D : Ops N) (k : Known N) (c : Cell N) (stays : Bool) (m n : Memories)
    → MayBeWeaklyWritten D k c stays m n → MayBeWritten D k.orders.0 k.model c (on_left c.side) m.left n.left
left_of D k c stays m n (each_side e l r) = l
left_of D k c stays m n (neither l r) = as_it_was l
left_of D k c stays m n (both_sides e l r s) =
    let on : on_left c.side ≡ true = ap on_left e in
    rewritten on l s.datum s.allowed (s.stands.left on)

pub right_of : {N : Type 0} (D : Ops N) (k : Known N) (c : Cell N) (stays : Bool) (m n : Memories)
    → MayBeWeaklyWritten D k c stays m n → MayBeWritten D k.orders.1 k.model c (on_right c.side) m.right n.right
right_of D k c stays m n (each_side e l r) = r
right_of D k c stays m n (neither l r) = as_it_was r
right_of D k c stays m n (both_sides e l r s) =
    let on : on_right c.side ≡ true = ap on_right e in
    rewritten on r s.datum s.allowed (s.stands.right on)

-- both memories, each by itself
pub record Sides {N : Type 0} (D : Ops N) (os : Order × Order) (d : Model) (c : Cell N) (m n : Memories) : Type 0
  where
    pub left : MayBeWritten D os.0 d c (on_left c.side) m.left n.left
    pub right : MayBeWritten D os.1 d c (on_right c.side) m.right n.right

wide_by : {N : Type 0} (D : Ops N) (d : Model) (w : Scalar) (u : Option (Value N)) (maybe : Bool) (c o : ℕ)
    → Allows D w u maybe (Some (pointer c o)) → size_of d w ≡ pointer_bytes d
wide_by D d w None maybe c o a = absurd (let e : Some (pointer c o) ≡ None = a in cc)
wide_by D d (Int t) (Some (Num n)) maybe c o a = absurd a
wide_by D d (Int t) (Some (Ptr n)) maybe c o a = absurd a
wide_by D d Pointer (Some u) maybe c o a = refl

wide_of : {N : Type 0} (D : Ops N) (d : Model) (w : Scalar) (u : Option (Value N)) (maybe : Bool) (v : Option Datum)
    → Allows D w u maybe v → PointerWide d (size_of d w) v
wide_of D d w u maybe v a = record { wide = λ c o e. wide_by D d w u maybe c o (subst (Allows D w u maybe) e a) }

-- ---- cells that are kept

pub kept_beside : {N : Type 0} (D : Ops N) (os : Order × Order) (d : Model) (c x : Cell N) (m n : Memories)
    → Sides D os d c m n → touches (place_of d c) (place_of d x) ≡ false → IsKept D os d m n x x
kept_beside D os d c x m n s t = record {
  side = x.side;
  is = refl;
  within = within_itself x.side;
  stands = λ v a h. record {
    left = λ e. bytes_kept os.0 m.left n.left (size_of d x.what) x.what x.maybe x.block x.offset v
        (bytes_beside D os.0 d c (on_left c.side) m.left n.left x.side x.block x.offset (size_of d x.what) v s.left t
        (wide_of D d x.what x.value x.maybe v a)) (h.left e);
    right = λ e. bytes_kept os.1 m.right n.right (size_of d x.what) x.what x.maybe x.block x.offset v
        (bytes_beside D os.1 d c (on_right c.side) m.right n.right x.side x.block x.offset (size_of d x.what) v
        s.right t (wide_of D d x.what x.value x.maybe v a)) (h.right e);
  };
}

unwritten : {N : Type 0} (D : Ops N) (o : Order) (d : Model) (c : Cell N) (written : Bool) (m n : Memory) (b q size :
    ℕ) → MayBeWritten D o d c written m n → written ≡ false → SameBytes m n b q size
unwritten D o d c written m n b q size (as_it_was e) w = record { same = λ j l. e b (q + j) }
unwritten D o d c written m n b q size (rewritten f r u a h) w = absurd (both_ways written w f)

pub kept_other : {N : Type 0} (D : Ops N) (os : Order × Order) (d : Model) (c x : Cell N) (m n : Memories) (t : Side)
    → Sides D os d c m n → IsRest c.side x.side t → IsKept D os d m n x (record x { side = t })
kept_other D os d c x m n t s i = record {
  side = t;
  is = refl;
  within = i.within;
  stands = λ v a h. record {
    left = λ e. bytes_same os.0 m.left n.left (size_of d x.what) x.what x.maybe x.block x.offset v
        (unwritten D os.0 d c (on_left c.side) m.left n.left x.block x.offset (size_of d x.what) s.left (i.left e))
        (h.left (i.within.left e));
    right = λ e. bytes_same os.1 m.right n.right (size_of d x.what) x.what x.maybe x.block x.offset v
        (unwritten D os.1 d c (on_right c.side) m.right n.right x.block x.offset (size_of d x.what) s.right (i.right
        e)) (h.right (i.within.right e));
  };
}
