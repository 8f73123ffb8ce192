-- Forms that are held while cells change: they follow the names by which mentions go on.
use Rattle.std.proofs.Common.{◌≡◌, ℕ, ◌+◌, ◌^◌, ◌%◌, ◌<◌, Bool, true, false, ◌&&◌, nat_eq, cond, List, Option, Some}
use Rattle.std.proofs.Common.{None, IfSome, refl, sym, ap, ◌∙◌, subst}
use Rattle.std.specs.Option.{option_map}
use Rattle.std.proofs.lemmas.Bool.{false_from_ne_true, both_ways}
use Rattle.ep_int.specs.declared.types.Model.{Model}
use Rattle.ep_int.specs.declared.types.Order.{Order}
use Rattle.ep_int.specs.declared.types.Scalar.{Scalar}
use Rattle.ep_int.specs.declared.types.Scalar.TheVariants.{Int, Pointer}
use Rattle.ep_int.specs.Types.{bits_of, bytes_of}
use Rattle.ep_int.specs.Memory.{Byte, undefined, number as byte_number, fragment, Memory, Value as Datum, int, null}
use Rattle.ep_int.specs.Memory.{pointer, lies_partly, number_in}
use Rattle.ep_int.proofs.Encodings.{decoded_same}
use Rattle.ep_bitslice.specs.declared.cell.Side.{Side}
use Rattle.ep_bitslice.specs.declared.cell.Side.TheVariants.{Left, Right, Shared}
use Rattle.ep_bitslice.specs.declared.cell.CellName.{CellName}
use Rattle.ep_bitslice.specs.declared.segment.Segment.{Segment}
use Rattle.ep_bitslice.specs.Bits.{Bit, number_of_bits, mentions}
use Rattle.ep_bitslice.specs.Segments.{bits, normal, number}
use Rattle.ep_bitslice.proofs.Appending.{bits-normal}
use Rattle.ep_bitslice.proofs.Numbers.{number-bits}
use Rattle.ep_cells.specs.declared.cell.Cell.{Cell}
use Rattle.ep_cells.specs.declared.place.ByteRange.{ByteRange}
use Rattle.ep_cells.specs.Cells.{on_left, on_right, share_memory, place_of_name, touches}
use Rattle.ep_cells.specs.Forms.{Fate, bits_after, form_after}
use Rattle.ep_cells.specs.Weaken.{first_part, fate_by_weak_write}
use Rattle.ep_cells.specs.States.{HasWidth, IsThere}
use Rattle.ep_cells.specs.Meaning.{Memories, number_at, number_on, numbers_of}
use Rattle.ep_cells.specs.Memories.{is_byte_of, IsBroken}
use Rattle.ep_cells.proofs.Forms.{KeepsNumbers, number_after, mentioned_after, form_after_is, width_after}
use Rattle.ep_cells.proofs.Write.{both_have}
use Rattle.ep_cells.proofs.Parts.{unshared_left, unshared_right}
use Rattle.ep_reads.specs.Laws.{IsNumberOf, IsFormRead}
use Rattle.ep_cell_ranges.specs.Ranges.{Form}
use Rattle.ep_cell_ranges.specs.Follow.{FormFits, FormHas}

-- ---- that they fit

-- names by which mentions of cells of the first list go on are those of cells of the second
abbrev pub Leads : {N : Type 0} → List (Cell N) → List (Cell N) → Fate → Type 0
Leads cs after f = (c e : CellName) → IsThere c cs → f c ≡ Some e → IsThere e after

fits_left : {N : Type 0} (cs after : List (Cell N)) (f : Fate) → Leads cs after f → (w : Scalar) (ss : List Segment)
    → IsFormRead cs w false ss → (o : Option (List Bit)) → bits_after f (bits ss) ≡ o
    → FormFits after w (option_map normal o)
fits_left cs after f k w ss h None e = tt
fits_left cs after f k w ss h (Some bs) e = record {
  sure = h.sure;
  wide = subst (HasWidth w) (sym (width_after f ss bs e)) h.wide;
  form = form_after_is f ss bs h.form e;
  mentioned = λ n i.
      let r = mentioned_after f (bits ss) bs n e (subst (λ z. mentions n z ≡ true) (bits-normal bs) i) in
      k r.name n (h.mentioned r.name r.mentioned) r.fate;
}

pub held_fits : {N : Type 0} (cs after : List (Cell N)) (f : Fate) → Leads cs after f → (w : Scalar) (g : Form)
    → FormFits cs w g → FormFits after w (form_after f g)
held_fits cs after f k w None h = tt
held_fits cs after f k w (Some ss) h = fits_left cs after f k w ss h (bits_after f (bits ss)) refl

-- ---- that they keep their number

-- and their numbers are the same in the memories after as in those before
abbrev pub KeepsNames : {N : Type 0} → (Order × Order) → Memories → Memories → List (Cell N) → Fate → Type 0
KeepsNames os m n cs f = (c e : CellName) → IsThere c cs → f c ≡ Some e → numbers_of os n e ≡ numbers_of os m c

pub says_by : (os : Order × Order) (m n : Memories) (w : Scalar) (v : Datum) (ss ts : List Segment)
    → number (numbers_of os n) ts ≡ number (numbers_of os m) ss → IsNumberOf w v (number (numbers_of os m) ss)
    → IsNumberOf w v (number (numbers_of os n) ts)
says_by os m n (Int t) (int z) ss ts e h = h ∙ ap (λ (k : ℕ). k % 2 ^ bits_of t) (sym e)
says_by os m n (Int t) null ss ts e h = absurd h
says_by os m n (Int t) (pointer b o) ss ts e h = absurd h
says_by os m n Pointer v ss ts e h = absurd h

number_left : {N : Type 0} (os : Order × Order) (m n : Memories) (cs : List (Cell N)) (f : Fate)
    → KeepsNames os m n cs f → (w : Scalar) (v : Datum) (ss : List Segment) → IsFormRead cs w false ss
    → IsNumberOf w v (number (numbers_of os m) ss) → (o : Option (List Bit)) → bits_after f (bits ss) ≡ o
    → IfSome (option_map normal o) (λ ts. IsNumberOf w v (number (numbers_of os n) ts))
number_left os m n cs f k w v ss h s None e = tt
number_left os m n cs f k w v ss h s (Some bs) e =
    let keeps : KeepsNumbers f (numbers_of os m) (numbers_of os n) (bits ss) = record {
      keeps = λ c b i j. k c b (h.mentioned c i) j;
    } in
    says_by os m n w v ss (normal bs)
    (number-bits (numbers_of os n) (normal bs) (form_after_is f ss bs h.form e).segments
    ∙ ap (number_of_bits (numbers_of os n)) (bits-normal bs)
    ∙ number_after f (numbers_of os m) (numbers_of os n) (bits ss) bs keeps e
    ∙ sym (number-bits (numbers_of os m) ss h.form.segments))
    s

pub held_numbers : {N : Type 0} (os : Order × Order) (m n : Memories) (cs : List (Cell N)) (f : Fate)
    → KeepsNames os m n cs f → (w : Scalar) (v : Datum) (g : Form) → FormFits cs w g → FormHas os m w v g
    → FormHas os n w v (form_after f g)
held_numbers os m n cs f k w v None h s = tt
held_numbers os m n cs f k w v (Some ss) h s = number_left os m n cs f k w v ss h s (bits_after f (bits ss)) refl

-- ---- bytes that keep their numbers

undefined_in : (t : Bool) → number_in (cond t undefined undefined) ≡ 0
undefined_in true = refl
undefined_in false = refl

number_stays : (t : Bool) (v : ℕ) → number_in (cond (t && false) undefined (byte_number v)) ≡ v
number_stays true v = refl
number_stays false v = refl

pub part_in : (t : Bool) (b o k : ℕ) → number_in (cond t undefined (fragment b o k)) ≡ 0
part_in true b o k = refl
part_in false b o k = refl

pub byte_broken : (d : Model) (b here n c p : ℕ) (x : Byte)
    → number_in (cond (nat_eq b c && lies_partly d here n x p) undefined x) ≡ number_in x
byte_broken d b here n c p undefined = undefined_in (nat_eq b c && false)
byte_broken d b here n c p (byte_number v) = number_stays (nat_eq b c) v
byte_broken d b here n c p (fragment e o k) = part_in (nat_eq b c && lies_partly d here n (fragment e o k) p) e o k

-- A memory stays where it isn't written; beside the place its bytes keep their numbers.
pub record KeepsBeside (p : ByteRange) (written : Bool) (m n : Memory) : Type 0 where
  pub unwritten : written ≡ false → (b q : ℕ) → n b q ≡ m b q
  pub beside : (b q : ℕ) → is_byte_of p b q ≡ false → number_in (n b q) ≡ number_in (m b q)

pub record KeepBeside (p : ByteRange) (m n : Memories) : Type 0 where
  pub left : KeepsBeside p (on_left p.side) m.left n.left
  pub right : KeepsBeside p (on_right p.side) m.right n.right

pub same_keeps : (p : ByteRange) (written : Bool) (m n : Memory) → ((b q : ℕ) → n b q ≡ m b q) → KeepsBeside p written m n
same_keeps p written m n e = record { unwritten = λ w b q. e b q; beside = λ b q i. ap number_in (e b q) }

pub broken_keeps : (d : Model) (p : ByteRange) (written : Bool) (m n : Memory) → written ≡ true → IsBroken d p m n
    → KeepsBeside p written m n
broken_keeps d p written m n w r = record {
  unwritten = λ e. absurd (both_ways written e w);
  beside = λ b q i. ap number_in (r.beside b q i) ∙ byte_broken d p.block p.offset p.bytes b q (m b q);
}

not_in : (p : ByteRange) (s : Side) (b q size j : ℕ)
    → touches p (record { side = s; block = b; offset = q; bytes = size }) ≡ false
    → j < size → is_byte_of p b (q + j) ≡ false
not_in p s b q size j t l =
    false_from_ne_true (is_byte_of p b (q + j)) (λ h.
    both_ways (touches p (record { side = s; block = b; offset = q; bytes = size })) t (both_have p s b q size j l h))

at_beside : (o : Order) (p : ByteRange) (written : Bool) (m n : Memory) (c : CellName) → KeepsBeside p written m n
    → touches p (place_of_name c) ≡ false → number_at o n c ≡ number_at o m c
at_beside o p written m n c k t =
    decoded_same o c.t (λ j. number_in (n c.block (c.offset + j))) (λ j. number_in (m c.block (c.offset + j)))
    (λ j l. k.beside c.block (c.offset + j) (not_in p c.side c.block c.offset (bytes_of c.t) j t l))

pub at_unwritten : (o : Order) (m n : Memory) (c : CellName) → ((b q : ℕ) → n b q ≡ m b q)
    → number_at o n c ≡ number_at o m c
at_unwritten o m n c e =
    decoded_same o c.t (λ j. number_in (n c.block (c.offset + j))) (λ j. number_in (m c.block (c.offset + j)))
    (λ j l. ap number_in (e c.block (c.offset + j)))

on_beside : (s : Side) (os : Order × Order) (p : ByteRange) (m n : Memories) (c : CellName) → KeepBeside p m n
    → touches p (place_of_name c) ≡ false → number_on s os n c ≡ number_on s os m c
on_beside Left os p m n c k t = at_beside os.0 p (on_left p.side) m.left n.left c k.left t
on_beside Right os p m n c k t = at_beside os.1 p (on_right p.side) m.right n.right c k.right t
on_beside Shared os p m n c k t = at_beside os.0 p (on_left p.side) m.left n.left c k.left t

-- the first part of a side that isn't written
on_first : (s : Side) (os : Order × Order) (p : ByteRange) (m n : Memories) (c : CellName) → KeepBeside p m n
    → share_memory p.side (first_part s) ≡ false
    → number_on (first_part s) os n (record c { side = first_part s }) ≡ number_on s os m c
on_first Left os p m n c k t = at_unwritten os.0 m.left n.left c (k.left.unwritten (unshared_left p.side Left t refl))
on_first Right os p m n c k t =
    at_unwritten os.1 m.right n.right c (k.right.unwritten (unshared_right p.side Right t refl))
on_first Shared os p m n c k t = at_unwritten os.0 m.left n.left c (k.left.unwritten (unshared_left p.side Left t refl))

weak_by : (os : Order × Order) (p : ByteRange) (m n : Memories) (c e : CellName) (t u : Bool) → KeepBeside p m n
    → touches p (place_of_name c) ≡ t → share_memory p.side (first_part c.side) ≡ u
    → cond t (cond u None (Some (record c { side = first_part c.side }))) (Some c) ≡ Some e
    → numbers_of os n e ≡ numbers_of os m c
weak_by os p m n c e true true k g h i = absurd (cc)
weak_by os p m n c e true false k g h i =
    let is : record c { side = first_part c.side } ≡ e = cc in
    ap (numbers_of os n) (sym is) ∙ on_first c.side os p m n c k h
weak_by os p m n c e false u k g h i =
    let is : c ≡ e = cc in
    ap (numbers_of os n) (sym is) ∙ on_beside c.side os p m n c k g

-- mentions that a weak write lets go on
pub weak_names : {N : Type 0} (os : Order × Order) (p : ByteRange) (m n : Memories) (cs : List (Cell N)) → KeepBeside p m n
    → KeepsNames os m n cs (fate_by_weak_write p)
weak_names os p m n cs k =
    λ c e i h. weak_by os p m n c e (touches p (place_of_name c)) (share_memory p.side (first_part c.side)) k refl refl
    h
