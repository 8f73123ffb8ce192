-- Bytes of a piece that are parts of pointers are marked with what the piece's value has there: whether such a byte is
-- this number or undefined, the piece's value allows it.
use Rattle.std.proofs.Common.{◌≡◌, ℕ, ◌+◌, ◌-◌, ◌<◌, ◌≤◌, ℤ, Bool, true, false, List, Option, Some, None, ◌⊎◌, inl}
use Rattle.ep_cell_ranges.proofs.Moved.{bytes_moved}
use Rattle.ep_transfers.proofs.Patches.{part_of as in_part, whole_of}
use Rattle.std.proofs.Common.{inr, ⊎_elim, refl, sym, ap, ◌∙◌, subst, arith}
use Rattle.ep_int.specs.declared.types.IntType.{IntType}
use Rattle.ep_int.specs.declared.types.Order.{Order}
use Rattle.ep_int.specs.declared.types.Scalar.{Scalar}
use Rattle.ep_int.specs.declared.types.Scalar.TheVariants.{Int, Pointer}
use Rattle.ep_int.specs.Types.{size_of}
use Rattle.ep_int.specs.Encoding.{encoded}
use Rattle.ep_int.specs.Memory.{Byte, undefined, number, fragment, Memory, Value as Datum, int, null, pointer}
use Rattle.ep_int.specs.Memory.{is_number, bytes_of_value}
use Rattle.ep_layout.specs.declared.types.Leaf.{Leaf}
use Rattle.ep_domain.specs.Domain.{Ops}
use Rattle.ep_cells.specs.declared.cell.Value.{Value}
use Rattle.ep_cells.specs.declared.cell.Value.TheVariants.{Num, Ptr}
use Rattle.ep_cells.specs.Kill.{AreLeavesIn}
use Rattle.ep_cells.specs.States.{Known}
use Rattle.ep_cells.specs.Meaning.{Allows, HasBytes}
use Rattle.ep_core.specs.Runs.{Side}
use Rattle.ep_evaluation.specs.Given.{cells_of}
use Rattle.ep_cell_ranges.specs.Spots.{Spot}
use Rattle.ep_transfers.specs.Places.{Places, at_side}
use Rattle.ep_transfers.specs.Copies.{Piece, none, leaf, byte, are_exact, scalar_of_piece}
use Rattle.ep_transfers.specs.Laws.{CellLaws}
use Rattle.ep_transfers.proofs.Puts.{order_on}
use Rattle.ep_transfers.proofs.Patches.{IsPlain, AllMiss, plain_misses}
use Rattle.ep_transfers.proofs.Chosen.{chosen}
use Rattle.ep_transfers.proofs.PieceWrites.{bytes_as, piece_of}
use Rattle.ep_transfers.proofs.PieceEnds.{by_choice, patches}
use Rattle.ep_transfers.proofs.PiecePlaces.{Over, over}
use Rattle.ep_transfers.proofs.PieceMisses.{ends_before, all_missed}

-- ---- one byte

abbrev pub mark_of : Order → IntType → ℤ → (part : ℕ) → Byte → Option ℕ
mark_of o t z p undefined = None
mark_of o t z p (number v) = None
mark_of o t z p (fragment b q k) = Some (encoded o t z p)

abbrev pub marked : Order → Scalar → Option Datum → (part : ℕ) → Byte → Option ℕ
marked o Pointer d p y = None
marked o (Int t) None p y = None
marked o (Int t) (Some (int z)) p y = mark_of o t z p y
marked o (Int t) (Some null) p y = None
marked o (Int t) (Some (pointer b q)) p y = None

part_of : (o : Order) (t : IntType) (z : ℤ) (p : ℕ) (y : Byte) (a : ℕ) → mark_of o t z p y ≡ Some a
    → is_number y ≡ false
part_of o t z p undefined a e = refl
part_of o t z p (number v) a e = absurd (let q : None ≡ Some a = e in cc)
part_of o t z p (fragment b q k) a e = refl

pub marked_part : (o : Order) (w : Scalar) (d : Option Datum) (p : ℕ) (y : Byte) (a : ℕ) → marked o w d p y ≡ Some a
    → is_number y ≡ false
marked_part o Pointer d p y a e = absurd (let q : None ≡ Some a = e in cc)
marked_part o (Int t) None p y a e = absurd (let q : None ≡ Some a = e in cc)
marked_part o (Int t) (Some (int z)) p y a e = part_of o t z p y a e
marked_part o (Int t) (Some null) p y a e = absurd (let q : None ≡ Some a = e in cc)
marked_part o (Int t) (Some (pointer b q)) p y a e = absurd (let q : None ≡ Some a = e in cc)

sure_stays : (o : Order) (t : IntType) (z : ℤ) (p v : ℕ) (y : Byte) (c : Bool) → y ≡ number v
    → chosen (mark_of o t z p y) c y ≡ number v
sure_stays o t z p v undefined c e = absurd (cc)
sure_stays o t z p v (number u) c e = e
sure_stays o t z p v (fragment b q k) c e = absurd (cc)

either_stays : (o : Order) (t : IntType) (z : ℤ) (p : ℕ) (y : Byte) (c : Bool)
    → (y ≡ number (encoded o t z p)) ⊎ (is_number y ≡ false)
    → (chosen (mark_of o t z p y) c y ≡ number (encoded o t z p)) ⊎ (is_number (chosen
    (mark_of o t z p y) c y) ≡ false)
either_stays o t z p undefined c h = h
either_stays o t z p (number u) c h = h
either_stays o t z p (fragment b q k) true h = inl refl
either_stays o t z p (fragment b q k) false h = inr refl

-- ---- the bytes of a value

pub marked_stays : (o : Order) (m n : Memory) (size : ℕ) (w : Scalar) (maybe : Bool) (b q : ℕ) (d : Option Datum)
    (c : ℕ → Bool)
    → ((p : ℕ) → p < size → n b (q + p) ≡ chosen (marked o w d p (m b (q + p))) (c p) (m b (q + p)))
    → HasBytes o m size w maybe b q d → HasBytes o n size w maybe b q d
marked_stays o m n size Pointer maybe b q d c e h = bytes_moved o m n size Pointer maybe b q b q d e h
marked_stays o m n size (Int t) maybe b q None c e h = bytes_moved o m n size (Int t) maybe b q b q None e h
marked_stays o m n size (Int t) maybe b q (Some null) c e h =
    bytes_moved o m n size (Int t) maybe b q b q (Some null) e h
marked_stays o m n size (Int t) maybe b q (Some (pointer x y)) c e h =
    bytes_moved o m n size (Int t) maybe b q b q (Some (pointer x y)) e h
marked_stays o m n size (Int t) false b q (Some (int z)) c e h =
    λ p l. e p l ∙ sure_stays o t z p (encoded o t z p) (m b (q + p)) (c p) (h p l)
marked_stays o m n size (Int t) true b q (Some (int z)) c e h =
    λ p l. subst (λ y. (y ≡ number (encoded o t z p)) ⊎ (is_number y ≡ false)) (sym (e p l))
    (either_stays o t z p (m b (q + p)) (c p) (h p l))

-- the part of a pointer that has this number
abbrev pub IsPart : (part : ℕ) → Byte → Type 0
IsPart p undefined = ⊥
IsPart p (number v) = ⊥
IsPart p (fragment b q k) = k ≡ p

abbrev pub IsWholeOr : Scalar → (part : ℕ) → Byte → Type 0
IsWholeOr w p y = IsPlain y ⊎ ((w ≡ Pointer) × IsPart p y)

plain_undefined : (y : Byte) → y ≡ undefined → IsPlain y
plain_undefined y e = subst IsPlain (sym e) tt

plain_number : (y : Byte) (v : ℕ) → y ≡ number v → IsPlain y
plain_number y v e = subst IsPlain (sym e) tt

unmarked : (o : Order) (t : IntType) (z : ℤ) (p : ℕ) (y : Byte) → mark_of o t z p y ≡ None → IsPlain y
unmarked o t z p undefined e = tt
unmarked o t z p (number v) e = tt
unmarked o t z p (fragment b q k) e = absurd (let q : Some (encoded o t z p) ≡ None = e in cc)

of_pointer : (o : Order) (v : Datum) (p : ℕ) (y : Byte) → y ≡ bytes_of_value o Pointer v p → IsWholeOr Pointer p y
of_pointer o (int z) p y e = inl (plain_undefined y e)
of_pointer o null p y e = inl (plain_number y 0 e)
of_pointer o (pointer b q) p y e = inr (refl, subst (IsPart p) (sym e) refl)

module _ {N : Type 0} (D : Ops N) where
  no_null : (t : IntType) (u : Option (Value N)) (maybe : Bool) → Allows D (Int t) u maybe (Some null) → ⊥
  no_null t None maybe a = let q : Some null ≡ None = a in cc
  no_null t (Some (Num n)) maybe a = a
  no_null t (Some (Ptr n)) maybe a = a

  no_pointer : (t : IntType) (u : Option (Value N)) (maybe : Bool) (b q : ℕ)
      → Allows D (Int t) u maybe (Some (pointer b q)) → ⊥
  no_pointer t None maybe b q a = let z : Some (pointer b q) ≡ None = a in cc
  no_pointer t (Some (Num n)) maybe b q a = a
  no_pointer t (Some (Ptr n)) maybe b q a = a

  -- what isn't marked is no part of a pointer, or that of a pointer which goes as a whole
  pub left_whole : (o : Order) (m : Memory) (size : ℕ) (w : Scalar) (u : Option (Value N)) (maybe : Bool) (b q : ℕ)
      (d : Option Datum) → Allows D w u maybe d → HasBytes o m size w maybe b q d → (p : ℕ) → p < size
      → marked o w d p (m b (q + p)) ≡ None → IsWholeOr w p (m b (q + p))
  left_whole o m size w u maybe b q None a h p l e = inl (plain_undefined (m b (q + p)) (h p l))
  left_whole o m size Pointer u false b q (Some v) a h p l e = of_pointer o v p (m b (q + p)) (h p l)
  left_whole o m size Pointer u true b q (Some v) a h p l e =
      ⊎_elim (λ i. of_pointer o v p (m b (q + p)) (i p l)) (λ i. inl (plain_undefined (m b (q + p)) (i p l))) h
  left_whole o m size (Int t) u maybe b q (Some (int z)) a h p l e = inl (unmarked o t z p (m b (q + p)) e)
  left_whole o m size (Int t) u maybe b q (Some null) a h p l e = absurd (no_null t u maybe a)
  left_whole o m size (Int t) u maybe b q (Some (pointer x y)) a h p l e = absurd (no_pointer t u maybe x y a)

-- ---- pieces

later_byte : (i t s j : ℕ) → i < s → s ≤ i + t → i + j ≤ s → t < j → ⊥
later_byte i t s j a b c e = omega (arith, a, b, c, e)

none_before : (s i t j : ℕ) → s < i → i + t < s + j → s + j ≤ i → ⊥
none_before s i t j a b c = omega (arith, a, b, c)

one_place : (s i : ℕ) → (s < i → ⊥) → (i < s → ⊥) → s ≡ i
one_place s i a b = omega (arith, a, b)

part_at : (i t s : ℕ) → s ≡ i → i + t - s ≡ t
part_at i t s e = omega (arith, e)

byte_first : (i t s : ℕ) → s < i → i + t < s + 1 → ⊥
byte_first i t s a b = omega (arith, a, b)

byte_last : (i t s : ℕ) → i < s → s ≤ i + t → t < 1 → ⊥
byte_last i t s a b c = omega (arith, a, b, c)

start_below : (s j n : ℕ) → s ≤ j → j < n → s < n
start_below s j n l h = omega (arith, l, h)

module _ {N : Type 0} (D : Ops N) (laws : CellLaws D) (k : Known N) (to from : Places) (leaves : List Leaf) (n : ℕ)
    (s : Side) (apart : AreLeavesIn k.model 0 n leaves) where
  abbrev tests : ℕ → Scalar → Bool
  tests o w = are_exact D k (cells_of s) o w (at_side from s)

  abbrev pub at_byte : (j : ℕ) → Over D k.model tests leaves n apart j
  at_byte j = over D k.model tests leaves n apart j

  -- no piece begins between the start of a piece and one of its bytes
  not_between : (c e : Piece D) (i r t : ℕ) → piece_of D laws k to from leaves n s i ≡ c
      → piece_of D laws k to from leaves n s r ≡ e → (e ≡ none → ⊥) → i < r → r ≤ i + t
      → t < size_of k.model (scalar_of_piece D c) → (c ≡ none → ⊥) → ⊥
  not_between none e i r t a b some lo hi l out = out refl
  not_between (leaf w) e i r t a b some lo hi l out =
      later_byte i t r (size_of k.model w) lo hi (ends_before D k.model tests leaves n apart i r w e a b some lo) l
  not_between byte e i r t a b some lo hi l out = byte_last i t r lo hi l

  -- the piece of a byte is the one that begins before it
  pub starts_there : (c : Piece D) (i t : ℕ) → piece_of D laws k to from leaves n s i ≡ c → (c ≡ none → ⊥)
      → t < size_of k.model (scalar_of_piece D c) → (at_byte (i + t)).start ≡ i
  starts_there c i t a some l =
      let r = at_byte (i + t) in
      one_place r.start i (λ lo. before r.what r.is r.some lo r.high)
      (λ lo. not_between c r.what i r.start t a r.is r.some lo r.low l some)
    where
      before : (e : Piece D) → piece_of D laws k to from leaves n s (at_byte (i + t)).start ≡ e → (e ≡ none → ⊥)
          → (at_byte (i + t)).start < i → i + t < (at_byte (i + t)).start + size_of k.model (scalar_of_piece D e) → ⊥
      before none g out lo hi = out refl
      before (leaf w) g out lo hi =
          none_before (at_byte (i + t)).start i t (size_of k.model w) lo hi
          (ends_before D k.model tests leaves n apart (at_byte (i + t)).start i w c g a some lo)
      before byte g out lo hi = byte_first i t (at_byte (i + t)).start lo hi

  -- what stands at a piece
  pub record StandsIn (new : ℕ → Byte) (o : ℕ) (c : Piece D) (d : Option Datum) : Type 0 where
    pub value : Option (Value N)
    pub maybe : Bool
    pub allowed : Allows D (scalar_of_piece D c) value maybe d
    pub stands : HasBytes (order_on s k.orders) (bytes_as new) (size_of k.model (scalar_of_piece D c))
        (scalar_of_piece D c) maybe 0 o d

  abbrev pub IfStands : (ℕ → Byte) → ℕ → Piece D → Option Datum → Type 0
  IfStands new o none d = Unit {0}
  IfStands new o (leaf w) d = StandsIn new o (leaf w) d
  IfStands new o byte d = StandsIn new o byte d

  if_stands : (new : ℕ → Byte) (o : ℕ) (c : Piece D) (d : Option Datum) → (c ≡ none → ⊥) → IfStands new o c d
      → StandsIn new o c d
  if_stands new o none d out h = absurd (out refl)
  if_stands new o (leaf w) d out h = h
  if_stands new o byte d out h = h

  module _ (new : ℕ → Byte) (stood : ℕ → Option Datum) where
    abbrev pub mark : ℕ → Option ℕ
    mark j =
        marked (order_on s k.orders) (scalar_of_piece D (at_byte j).what) (stood (at_byte j).start)
        (j - (at_byte j).start) (new j)

    pub mark_part : (j a : ℕ) → mark j ≡ Some a → is_number (new j) ≡ false
    mark_part j a e =
        marked_part (order_on s k.orders) (scalar_of_piece D (at_byte j).what) (stood (at_byte j).start)
        (j - (at_byte j).start) (new j) a e

    mark_is : (c : Piece D) (i t : ℕ) → piece_of D laws k to from leaves n s i ≡ c → (c ≡ none → ⊥)
        → t < size_of k.model (scalar_of_piece D c)
        → mark (i + t) ≡ marked (order_on s k.orders) (scalar_of_piece D c) (stood i) t (new (i + t))
    mark_is c i t a some l =
        let r = at_byte (i + t) in
        let same = starts_there c i t a some l in
        let what : r.what ≡ c = sym r.is ∙ (ap (λ z. piece_of D laws k to from leaves n s z) same ∙ a) in
        ap (λ x. marked (order_on s k.orders) (scalar_of_piece D x) (stood r.start) (i + t - r.start) (new
        (i + t))) what
        ∙ (ap (λ x. marked (order_on s k.orders) (scalar_of_piece D c) (stood x) (i + t - r.start) (new (i + t))) same
        ∙ ap (λ x. marked (order_on s k.orders) (scalar_of_piece D c) (stood i) x (new (i + t)))
        (part_at i t r.start same))

    -- as is chosen, the piece's value stands there
    pub stays_chosen : (h : Spot) (c : Piece D) (i : ℕ) → piece_of D laws k to from leaves n s i ≡ c → (c ≡ none → ⊥)
        → (maybe : Bool) (pick : ℕ → Bool)
        → HasBytes (order_on s k.orders) (bytes_as new) (size_of k.model (scalar_of_piece D c)) (scalar_of_piece D c)
        maybe 0 i (stood i)
        → HasBytes (order_on s k.orders) (bytes_as (by_choice h n mark new pick))
        (size_of k.model (scalar_of_piece D c)) (scalar_of_piece D c) maybe 0 i (stood i)
    stays_chosen h c i a some maybe pick st =
        marked_stays (order_on s k.orders) (bytes_as new) (bytes_as (by_choice h n mark new pick))
        (size_of k.model (scalar_of_piece D c)) (scalar_of_piece D c) maybe 0 i (stood i) (λ p. pick (i + p))
        (λ p l. at_zero i p (ap (λ x. chosen x (pick (i + p)) (new (i + p))) (mark_is c i p a some l))) st
      where
        at_zero : (i p : ℕ)
            → chosen (mark (i + p)) (pick (i + p)) (new (i + p))
            ≡ chosen (marked (order_on s k.orders) (scalar_of_piece D c) (stood i) p (new (i + p))) (pick (i + p))
            (new (i + p))
            → chosen (mark (i + p)) (pick (i + p)) (new (i + p))
            ≡ chosen (marked (order_on s k.orders) (scalar_of_piece D c) (stood i) p (new (i + p))) (pick (i + p))
            (new (i + p))
        at_zero i p e = e

    module _ (facts : (i : ℕ) → i < n → IfStands new i (piece_of D laws k to from leaves n s i) (stood i)) where
      -- each byte is no part of a pointer, or one of a pointer that goes as a whole
      whole_or : (j : ℕ) → j < n → mark j ≡ None
          → IsWholeOr (scalar_of_piece D (at_byte j).what) (j - (at_byte j).start) (new j)
      whole_or j l e =
          let r = at_byte j in
          let h = if_stands new r.start r.what (stood r.start) r.some
          (subst (λ c. IfStands new r.start c (stood r.start)) r.is
          (facts r.start (start_below r.start j n r.low l))) in
          let at = whole_of r.start j r.low in
          subst (λ x. IsWholeOr (scalar_of_piece D r.what) (j - r.start) (new x)) at
          (left_whole D (order_on s k.orders) (bytes_as new) (size_of k.model (scalar_of_piece D r.what))
          (scalar_of_piece D r.what) h.value h.maybe 0 r.start (stood r.start) h.allowed h.stands (j - r.start)
          (in_part r.start j (size_of k.model (scalar_of_piece D r.what)) r.low r.high)
          (ap (λ x. marked (order_on s k.orders) (scalar_of_piece D r.what) (stood r.start) (j - r.start) (new x)) at
          ∙ e))

      pointer_piece : (c : Piece D) → (c ≡ none → ⊥) → scalar_of_piece D c ≡ Pointer → c ≡ leaf Pointer
      pointer_piece none out e = absurd (out refl)
      pointer_piece (leaf w) out e = ap leaf e
      pointer_piece byte out e = absurd (cc)

      pub misses : (h : Spot) (pick : ℕ → Bool) (j : ℕ) → j < n
          → AllMiss k.model h.1 (patches D laws k to from leaves n s (by_choice h n mark new pick) 0 n) (h.1 + j)
          (by_choice h n mark new pick j)
      misses h pick j l = by_mark (mark j) refl (pick j)
        where
          by_part : (y : Byte) → IsWholeOr (scalar_of_piece D (at_byte j).what) (j - (at_byte j).start) y
              → AllMiss k.model h.1
              (patches D laws k to from leaves n s (by_choice h n mark new pick) 0 n) (h.1 + j) y
          by_part undefined w =
              plain_misses k.model h.1 (patches D laws k to from leaves n s (by_choice h n mark new pick) 0 n)
              (h.1 + j) undefined tt
          by_part (number v) w =
              plain_misses k.model h.1 (patches D laws k to from leaves n s (by_choice h n mark new pick) 0 n)
              (h.1 + j) (number v) tt
          by_part (fragment b o p) w =
              ⊎_elim (λ (z : ⊥). absurd z)
              (λ (z : (scalar_of_piece D (at_byte j).what ≡ Pointer) × (p ≡ j - (at_byte j).start)).
              let r = at_byte j in
              let whole = pointer_piece r.what r.some z.0 in
              subst (λ x. AllMiss k.model h.1
              (patches D laws k to from leaves n s (by_choice h n mark new pick) 0 n) (h.1 + x) (fragment b o p))
              (ap (λ x. r.start + x) z.1 ∙ whole_of r.start j r.low)
              (all_missed D laws k to from leaves n s (by_choice h n mark new pick) apart h.1 r.start p b o
              (r.is ∙ whole) 0 n)) w

          by_mark : (t : Option ℕ) → mark j ≡ t → (c : Bool)
              → AllMiss k.model h.1 (patches D laws k to from leaves n s (by_choice h n mark new pick) 0 n) (h.1 + j)
              (chosen t c (new j))
          by_mark None e c = by_part (new j) (whole_or j l e)
          by_mark (Some a) e true =
              plain_misses k.model h.1 (patches D laws k to from leaves n s (by_choice h n mark new pick) 0 n)
              (h.1 + j) (number a) tt
          by_mark (Some a) e false =
              plain_misses k.model h.1 (patches D laws k to from leaves n s (by_choice h n mark new pick) 0 n)
              (h.1 + j) undefined tt
