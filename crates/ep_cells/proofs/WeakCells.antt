-- What a weak write leaves of a cell, and the numbers that may then be in its bytes.
use Rattle.std.proofs.Common.{◌≡◌, ℕ, ◌+◌, ◌-◌, ◌^◌, ◌<◌, ℤ, Bool, true, false, ◌&&◌, ◌||◌, not, nat_eq, nat_le}
use Rattle.std.proofs.Common.{nat_lt, cond, [], ◌∷◌, ◌⊎◌, inl, inr, ⊎_elim, Option, Some, None, refl, sym, ◌∙◌, ap}
use Rattle.std.proofs.Common.{subst, arith}
use Rattle.std.proofs.lemmas.Bool.{and_parts, eqb-true, ltb-true, leb-true, cases_Bool}
use Rattle.ep_int.specs.declared.types.Order.{Order}
use Rattle.ep_int.specs.declared.types.Model.{Model}
use Rattle.ep_int.specs.declared.types.IntType.{IntType}
use Rattle.ep_int.specs.declared.types.Scalar.{Scalar}
use Rattle.ep_int.specs.declared.types.Scalar.TheVariants.{Int, Pointer}
use Rattle.ep_int.specs.Types.{bytes_of, size_of, InRange}
use Rattle.ep_int.specs.Encoding.{place, encoded, decoded, sum_of_bytes}
use Rattle.ep_int.specs.Memory.{Byte, undefined, number, fragment, Memory, Value as Datum, int, null, pointer}
use Rattle.ep_int.specs.Memory.{is_number, number_in, lies_partly, bytes_of_value}
use Rattle.ep_int.proofs.Wrapping.{represented_in_range}
use Rattle.ep_int.proofs.Places.{width_of, place_below}
use Rattle.ep_int.proofs.Encodings.{byte_below, bytes_pow, sum_of_bytes_below, encoded_decoded}
use Rattle.ep_bitslice.specs.declared.cell.Side.{Side}
use Rattle.ep_bitslice.specs.declared.cell.Side.TheVariants.{Left, Right, Shared}
use Rattle.ep_domain.specs.Domain.{Ops}
use Rattle.ep_cells.specs.declared.cell.Cell.{Cell}
use Rattle.ep_cells.specs.declared.cell.Value.TheVariants.{Num}
use Rattle.ep_cells.specs.declared.place.ByteRange.{ByteRange}
use Rattle.ep_cells.specs.Cells.{on_left, on_right, share_memory, place_of, touches, is_same_place, IsIn, first}
use Rattle.ep_cells.specs.Cells.{later, each_becomes, parts_on, parts_of}
use Rattle.ep_cells.specs.Meaning.{HasBytes, HasNumbersOf}
use Rattle.ep_cells.specs.Weaken.{blurred, with_join, weak_cell, weak_part, left_by_weak_write}
use Rattle.ep_cells.specs.Both.{value_of_both}
use Rattle.ep_cells.specs.Memories.{is_byte_of}
use Rattle.ep_cells.specs.Sound.{MayBeWritten, as_it_was, rewritten}
use Rattle.ep_cells.proofs.Lists.{in_each}
use Rattle.ep_cells.proofs.Places.{Within, within_itself, within_shared, IsRest, IsMadeFrom}
use Rattle.ep_cells.proofs.Parts.{rest_of_unshared, IsPart, part_is}

-- ---- numbers in bytes that anything may have been written to

-- a byte that is a number is below 256
pub record IsSmall (x : Byte) : Type 0 where
  pub small : (k : ℕ) → x ≡ number k → k < 256

pub small_value : (o : Order) (w : Scalar) (v : Datum) (j : ℕ) (x : Byte) → x ≡ bytes_of_value o w v j → IsSmall x
small_value o (Int t) (int z) j x h = record {
  small = λ k e. let i : encoded o t z j ≡ k = let f : number (encoded o
      t z j) ≡ number k = sym h ∙ e in cc in subst (λ (y : ℕ). y < 256) i (byte_below _ _);
}
small_value o (Int t) null j x h = record { small = λ k e. absurd (let f : undefined ≡ number k = sym h ∙ e in cc) }
small_value o (Int t) (pointer c q) j x h = record {
  small = λ k e. absurd (let f : undefined ≡ number k = sym h ∙ e
      in cc);
}
small_value o Pointer (int z) j x h = record {
  small = λ k e. absurd (let f : undefined ≡ number k = sym h ∙ e in cc);
}
small_value o Pointer null j x h = record {
  small = λ k e. let i : 0 ≡ k = let f : number 0 ≡ number k = sym h ∙ e in
      cc in subst (λ (y : ℕ). y < 256) i (omega arith);
}
small_value o Pointer (pointer c q) j x h = record {
  small = λ k e. absurd (let f : fragment c q j ≡ number k = sym h
      ∙ e in cc);
}

pub small_undefined : (x : Byte) → x ≡ undefined → IsSmall x
small_undefined x h = record { small = λ k e. absurd (let f : undefined ≡ number k = sym h ∙ e in cc) }

pub small_other : (x : Byte) → is_number x ≡ false → IsSmall x
small_other x h = record { small = λ k e. absurd (let f : true ≡ false = sym (ap is_number e) ∙ h in cc) }

pub small_bytes : (o : Order) (m : Memory) (size : ℕ) (w : Scalar) (maybe : Bool) (b q : ℕ) (v : Option Datum)
    → HasBytes o m size w maybe b q v → (j : ℕ) → j < size → IsSmall (m b (q + j))
small_bytes o m size w maybe b q None h j l = small_undefined (m b (q + j)) (h j l)
small_bytes o m size w false b q (Some v) h j l = small_value o w v j (m b (q + j)) (h j l)
small_bytes o m size (Int t) true b q (Some v) h j l = ⊎_elim (λ e. small_value o (Int t) v j (m b (q + j)) e) (λ e.
    small_other (m b (q + j)) e) (h j l)
small_bytes o m size Pointer true b q (Some v) h j l = ⊎_elim (λ e. small_value o Pointer v j (m b (q + j)) (e j l))
    (λ e. small_undefined (m b (q + j)) (e j l)) h

pub small_broken : (t : Bool) (x : Byte) → IsSmall x → IsSmall (cond t undefined x)
small_broken true x h = small_undefined undefined refl
small_broken false x h = h

-- the byte j of a place is byte i of another
pub small_in : (p : ByteRange) (n : Memory) (b q j : ℕ) → ((i : ℕ) → i < p.bytes → IsSmall (n p.block (p.offset + i)))
    → is_byte_of p b (q + j) ≡ true → IsSmall (n b (q + j))
small_in p n b q j h e =
    let x = and_parts (nat_eq p.block b) (nat_le p.offset (q + j) && nat_lt (q + j) (p.offset + p.bytes)) e in
    let y = and_parts (nat_le p.offset (q + j)) (nat_lt (q + j) (p.offset + p.bytes)) x.1 in
    let low = leb-true p.offset (q + j) y.0 in
    let high = ltb-true (q + j) (p.offset + p.bytes) y.1 in
    let i : p.offset + (q + j - p.offset) ≡ q + j = omega arith in
    subst (λ (k : ℕ). IsSmall (n k (q + j))) (eqb-true p.block b x.0) (subst (λ (k : ℕ). IsSmall (n p.block k)) i (h
    (q + j - p.offset) (omega arith)))

pub small_after : {N : Type 0} (D : Ops N) (o : Order) (d : Model) (c : Cell N) (written : Bool) (m n : Memory) (b q j :
    ℕ) → MayBeWritten D o d c written m n → IsSmall (m b (q + j)) → IsSmall (n b (q + j))
small_after D o d c written m n b q j (as_it_was e) h = subst IsSmall (sym (e b (q + j))) h
small_after D o d c written m n b q j (rewritten f r u a k) h =
    ⊎_elim
    (λ e. small_in (place_of d c) n b q j (λ i l. small_bytes o n (size_of d c.what) c.what c.maybe c.block c.offset
    u k i l) e)
    (λ e. subst IsSmall (sym (r.beside b (q + j) e)) (small_broken (nat_eq c.block b && lies_partly d c.offset
    (size_of d c.what) (m b (q + j)) (q + j)) (m b (q + j)) h))
    (cases_Bool (is_byte_of (place_of d c) b (q + j)))

-- some number of the type has the bytes of a place that are numbers
pub number_small : (x : Byte) → IsSmall x → number_in x < 256
number_small undefined h = omega arith
number_small (number k) h = h.small k refl
number_small (fragment c o k) h = omega arith

pub number_byte : (x : Byte) (k : ℕ) → k ≡ number_in x → (x ≡ number k) ⊎ (is_number x ≡ false)
number_byte undefined k e = inr refl
number_byte (number i) k e = inl (ap number (sym e))
number_byte (fragment c o i) k e = inr refl

abbrev pub number_here : Order → IntType → Memory → (b q : ℕ) → ℤ
number_here o t n b q = decoded o t (λ j. number_in (n b (q + j)))

pub some_number : (o : Order) (t : IntType) (n : Memory) (b q : ℕ) → ((j : ℕ) → j < bytes_of t → IsSmall (n b (q + j)))
    → HasNumbersOf o n (Int t) b q (bytes_of t) (int (number_here o t n b q))
some_number o t n b q h = λ j l.
    number_byte (n b (q + j)) (encoded o t (number_here o t n b q) j)
    (encoded_decoded o t (λ i. number_in (n b (q + i))) j (λ i k. number_small (n b (q + i)) (h i k)) l)

pub some_in_range : (o : Order) (t : IntType) (n : Memory) (b q : ℕ) → ((j : ℕ) → j < bytes_of t
    → IsSmall (n b (q + j))) → InRange t (number_here o t n b q)
some_in_range o t n b q h =
    let w = bytes_of t in
    let f : ℕ → ℕ = λ k. number_in (n b (q + place o w k)) in
    let below : sum_of_bytes f w < 256 ^ w = sum_of_bytes_below f w (λ k l. number_small (n b (q + place o w k)) (h
    (place o w k) (place_below o w k (width_of t) l))) in
    represented_in_range t (sum_of_bytes f w) (subst (λ (z : ℕ). sum_of_bytes f w < z) (bytes_pow w) below)

-- ---- what becomes of a cell

pub record IsJoined {N : Type 0} (D : Ops N) (c : Cell N) (stays : Bool) (x y : Cell N) : Type 0 where
  pub side : Side
  pub is : y ≡ with_join D c (record x { side = side })
  pub within : Within side x.side
  pub written : Within side c.side
  pub shared : share_memory c.side side ≡ true
  pub same : is_same_place c x ≡ true
  -- a part has one memory, unless Shared cells stay
  pub one : stays ≡ false → (on_left side && on_right side) ≡ false

pub record IsBlurred {N : Type 0} (D : Ops N) (c : Cell N) (x y : Cell N) : Type 0 where
  pub side : Side
  pub t : IntType
  pub what : x.what ≡ Int t
  pub is : y ≡ record {
    side = side;
    block = x.block;
    offset = x.offset;
    what = x.what;
    value = Some (Num (D.top t));
    maybe = true;
    form = None;
  }
  pub within : Within side x.side
  pub shared : share_memory c.side side ≡ true
  pub one : (on_left side && on_right side) ≡ false

pub data AfterWeak {N : Type 0} (D : Ops N) (d : Model) (c : Cell N) (stays : Bool) (x y : Cell N) : Type 0 where
  beside : y ≡ x → touches (place_of d c) (place_of d x) ≡ false → AfterWeak D d c stays x y
  other : (t : Side) → y ≡ record x { side = t } → IsRest c.side x.side t → AfterWeak D d c stays x y
  joined : IsJoined D c stays x y → AfterWeak D d c stays x y
  blurry : IsBlurred D c x y → AfterWeak D d c stays x y

-- a part of a cell has one memory
pub one_part : {N : Type 0} (x z : Cell N) (q : Side) → x.side ≡ q → IsIn z (parts_on x q)
    → (on_left z.side && on_right z.side) ≡ false
one_part x _ Left e (first _) = ap (λ (s : Side). on_left s && on_right s) e
one_part x z Left e (later _ _ h) = elim h [ ]
one_part x _ Right e (first _) = ap (λ (s : Side). on_left s && on_right s) e
one_part x z Right e (later _ _ h) = elim h [ ]
one_part x _ Shared e (first _) = refl
one_part x _ Shared e (later _ _ (first _)) = refl
one_part x z Shared e (later _ _ (later _ _ h)) = elim h [ ]

pub blurred_by : {N : Type 0} (D : Ops N) (d : Model) (c x y : Cell N) (stays : Bool) (s : Side) (w : Scalar)
    → x.what ≡ w → Within s x.side → share_memory c.side s ≡ true
    → (on_left s && on_right s) ≡ false → IsIn y (blurred D (record x { side = s }) w) → AfterWeak D d c stays x y
blurred_by D d c x _ stays s (Int t) e w g o (first _) = blurry (record {
  side = s;
  t = t;
  what = e;
  is = refl;
  within = w;
  shared = g;
  one = o;
})
blurred_by D d c x y stays s (Int t) e w g o (later _ _ h) = elim h [ ]
blurred_by D d c x y stays s Pointer e w g o h = elim h [ ]

pub cell_by : {N : Type 0} (D : Ops N) (d : Model) (c x y : Cell N) (stays : Bool) (s : Side) (b : Bool)
    → is_same_place c x ≡ b → Within s x.side → Within s c.side → share_memory c.side s ≡ true
    → (on_left s && on_right s) ≡ false → IsIn y (cond b (with_join D c (record x { side = s }) ∷ []) (blurred D
    (record x { side = s }) x.what)) → AfterWeak D d c stays x y
cell_by D d c x _ stays s true e w v g o (first _) = joined (record {
  side = s;
  is = refl;
  within = w;
  written = v;
  shared = g;
  same = e;
  one = λ h. o;
})
cell_by D d c x y stays s true e w v g o (later _ _ h) = elim h [ ]
cell_by D d c x y stays s false e w v g o h = blurred_by D d c x y stays s x.what refl w g o h

pub part_by : {N : Type 0} (D : Ops N) (d : Model) (c x y : Cell N) (stays : Bool) (s : Side) (b : Bool)
    → share_memory c.side s ≡ b → Within s x.side → (share_memory c.side s ≡ true → Within s c.side)
    → (on_left s && on_right s) ≡ false → IsIn y (cond b (weak_cell D c (record x { side = s })) (record x {
      side = s;
    } ∷ [])) → AfterWeak D d c stays x y
part_by D d c x y stays s true g w v o h = cell_by D d c x y stays s (is_same_place c x) refl w (v g) g o h
part_by D d c x _ stays s false g w v o (first _) = other s refl (rest_of_unshared c.side s x.side g w)
part_by D d c x y stays s false g w v o (later _ _ h) = elim h [ ]

pub part_after : {N : Type 0} (D : Ops N) (d : Model) (c x y z : Cell N) (stays : Bool) → IsPart x z
    → (on_left z.side && on_right z.side) ≡ false → IsIn y (weak_part D c z) → AfterWeak D d c stays x y
part_after D d c x y z stays p o h =
    part_by D d c x y stays p.side (share_memory c.side p.side) refl p.within (p.covered c.side)
    (subst (λ q. (on_left q.side && on_right q.side) ≡ false) p.is o) (subst (λ q. IsIn y (weak_part D c q)) p.is h)

pub parts_after : {N : Type 0} (D : Ops N) (d : Model) (c x y : Cell N) (stays : Bool)
    → IsIn y (each_becomes (weak_part D c) (parts_of x)) → AfterWeak D d c stays x y
parts_after D d c x y stays h =
    let r = in_each (weak_part D c) y (parts_of x) h in
    part_after D d c x y r.origin stays (part_is x r.origin r.is_in) (one_part x r.origin x.side refl r.is_in)
    r.becomes

pub shared_all : (s : Side) → share_memory Shared s ≡ true
shared_all Left = refl
shared_all Right = refl
shared_all Shared = refl

pub whole_by : {N : Type 0} (D : Ops N) (d : Model) (c x y : Cell N) (b : Bool) → c.side ≡ Shared
    → is_same_place c x ≡ b → b ≡ true → IsIn y (cond b (with_join D c x ∷ []) (blurred D x x.what))
    → AfterWeak D d c true x y
whole_by D d c x _ true s e f (first _) = joined (record {
  side = x.side;
  is = refl;
  within = within_itself x.side;
  written = subst (Within x.side) (sym s) (within_shared x.side);
  shared = subst (λ (q : Side). share_memory q x.side ≡ true) (sym s) (shared_all x.side);
  same = e;
  one = λ h. absurd (cc);
})
whole_by D d c x y true s e f (later _ _ h) = elim h [ ]
whole_by D d c x y false s e f h = absurd (cc)

pub stays_by : {N : Type 0} (D : Ops N) (d : Model) (c x y : Cell N) (stays b : Bool) → (stays ≡ true
    → c.side ≡ Shared) → (stays && is_same_place c x) ≡ b
    → IsIn y (cond b (weak_cell D c x) (each_becomes (weak_part D c) (parts_of x))) → AfterWeak D d c stays x y
stays_by D d c x y true true s e h = whole_by D d c x y (is_same_place c x) (s refl) refl e h
stays_by D d c x y false true s e h = absurd (cc)
stays_by D d c x y stays false s e h = parts_after D d c x y stays h

pub touch_by : {N : Type 0} (D : Ops N) (d : Model) (c x y : Cell N) (stays b : Bool) → (stays ≡ true
    → c.side ≡ Shared) → touches (place_of d c) (place_of d x) ≡ b
    → IsIn y (cond (not b) (x ∷ []) (cond (stays && is_same_place c x) (weak_cell D c x) (each_becomes (weak_part D
    c) (parts_of x)))) → AfterWeak D d c stays x y
touch_by D d c x y stays true s e h = stays_by D d c x y stays (stays && is_same_place c x) s refl h
touch_by D d c x _ stays false s e (first _) = beside refl e
touch_by D d c x y stays false s e (later _ _ h) = elim h [ ]

pub after_weak : {N : Type 0} (D : Ops N) (d : Model) (c x y : Cell N) (stays : Bool) → (stays ≡ true
    → c.side ≡ Shared) → IsIn y (left_by_weak_write D d c stays x) → AfterWeak D d c stays x y
after_weak D d c x y stays s h = touch_by D d c x y stays (touches (place_of d c) (place_of d x)) s refl h

pub after_made : {N : Type 0} (D : Ops N) (d : Model) (c : Cell N) (stays : Bool) (x y : Cell N)
    → AfterWeak D d c stays x y → IsMadeFrom x y
after_made D d c stays x y (beside e t) = record {
  side = x.side;
  value = x.value;
  maybe = x.maybe;
  form = x.form;
  is
      = e;
  within = within_itself x.side;
}
after_made D d c stays x y (other t e i) = record {
  side = t;
  value = x.value;
  maybe = x.maybe;
  form = x.form;
  is =
      e;
  within = i.within;
}
after_made D d c stays x y (joined j) = record {
  side = j.side;
  value = value_of_both D.join x.value c.value;
  maybe =
      x.maybe || c.maybe;
  form = None;
  is = j.is;
  within = j.within;
}
after_made D d c stays x y (blurry j) = record {
  side = j.side;
  value = Some (Num (D.top j.t));
  maybe = true;
  form =
      None;
  is = j.is;
  within = j.within;
}
