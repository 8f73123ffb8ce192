-- The bytes with which a program begins: those of the first values of its globals, zero in the rest of these and in
-- main's result, and none that is defined anywhere else.
use Rattle.std.proofs.Common.{◌≡◌, ℕ, ◌+◌, ◌-◌, ◌%◌, ◌^◌, ◌<◌, ◌≤◌, ℤ, pos, Bool, true, false, ◌&&◌, ◌||◌, nat_eq}
use Rattle.std.proofs.Common.{nat_lt, nat_le, if◌then◌else◌, cond, List, [], ◌∷◌, Option, Some, None, IfSome, refl}
use Rattle.std.proofs.Common.{sym, ap, ◌∙◌, subst, arith}
use Rattle.std.specs.List.{list_any, fold}
use Rattle.std.proofs.Math.Nat.{zero-div, zero-mod}
use Rattle.std.proofs.lemmas.Bool.{and_parts, eq-eqb, eqb-true}
use Rattle.ep_int.specs.declared.types.IntType.{IntType}
use Rattle.ep_int.specs.declared.types.Model.{Model}
use Rattle.ep_int.specs.declared.types.Order.{Order}
use Rattle.ep_int.specs.declared.types.Scalar.{Scalar}
use Rattle.ep_int.specs.declared.types.Scalar.TheVariants.{Int}
use Rattle.ep_int.specs.Types.{bits_of, bytes_of, size_of, InRange}
use Rattle.ep_int.specs.Encoding.{place, byte_of, encoded}
use Rattle.ep_int.specs.Memory.{Byte, undefined, number, fragment, Memory, Value as Datum, int, forgotten}
use Rattle.ep_int.specs.Memory.{lies_partly, broken, bytes_of_value, stored}
use Rattle.ep_int.proofs.Memories.{stored_covered}
use Rattle.ep_layout.specs.declared.types.Leaf.{Leaf}
use Rattle.ep_cells.specs.Kill.{AreLeavesIn, leaf_at, is_in_leaf}
use Rattle.ep_core.specs.Program.{Init, Program}
use Rattle.ep_core.specs.Exec.{model}
use Rattle.ep_core.specs.WellFormed.{is_same_scalar, is_leaf_at}
use Rattle.ep_core.proofs.Sorts.{same_scalar}
use Rattle.ep_domain.specs.Domain.{Ops}
use Rattle.ep_transfers.specs.Ends.{value_in}

-- ---- bytes that are no part of a pointer

abbrev pub IsPlain : Byte → Type 0
IsPlain undefined = Unit {0}
IsPlain (number v) = Unit {0}
IsPlain (fragment b o k) = ⊥

abbrev pub ArePlain : Memory → Type 0
ArePlain m = (b q : ℕ) → IsPlain (m b q)

pub plain_if : (t : Bool) (x y : Byte) → IsPlain x → IsPlain y → IsPlain (if t then x else y)
plain_if true x y h i = h
plain_if false x y h i = i

unbroken : (t : Bool) (d : Model) (here n p : ℕ) (x : Byte) → IsPlain x
    → (if t && lies_partly d here n x p then undefined else x) ≡ x
unbroken true d here n p undefined h = refl
unbroken false d here n p undefined h = refl
unbroken true d here n p (number v) h = refl
unbroken false d here n p (number v) h = refl
unbroken t d here n p (fragment b o k) h = absurd h

stored_off : (o : Order) (d : Model) (m : Memory) (w : Scalar) (b here : ℕ) (v : Datum) (c q : ℕ) → ArePlain m
    → (nat_eq b c && (nat_le here q && nat_lt q (here + size_of d w))) ≡ false → stored o d m w b here v c q ≡ m c q
stored_off o d m w b here v c q plain e =
    rw e (unbroken (nat_eq b c) d here (size_of d w) q (m c q) (plain c q))

stored_plain : (o : Order) (d : Model) (m : Memory) (t : IntType) (b here : ℕ) (v : ℤ) → ArePlain m
    → ArePlain (stored o d m (Int t) b here (int v))
stored_plain o d m t b here v plain c q =
    plain_if (nat_eq b c && (nat_le here q && nat_lt q (here + size_of d (Int t))))
    (bytes_of_value o (Int t) (int v) (q - here)) (broken d m b here (size_of d (Int t)) c q) tt
    (plain_if (nat_eq b c && lies_partly d here (size_of d (Int t)) (m c q) q) undefined (m c q) tt (plain c q))

pub forgotten_plain : (bs : List ℕ) (x : Byte) → IsPlain x → forgotten bs x ≡ x
forgotten_plain bs undefined h = refl
forgotten_plain bs (number v) h = refl
forgotten_plain bs (fragment b o k) h = absurd h

-- zero has zero bytes
pub zero_bytes : (o : Order) (t : IntType) (p : ℕ) → encoded o t (pos 0) p ≡ 0
zero_bytes o t p =
    let k = place o (bytes_of t) p in
    ap (byte_of k) (zero-mod (2 ^ bits_of t)) ∙ ap (λ x. x % 256) (zero-div (256 ^ k)) ∙ zero-mod 256

-- ---- leaves of a block

-- where a leaf begins, at or behind the others
leaf_from : (d : Model) (e size o : ℕ) (t : IntType) (ls : List Leaf) → AreLeavesIn d e size ls
    → list_any (is_leaf_at o (Int t)) ls ≡ true → e ≤ o
leaf_from d e size o t [] a h = absurd (cc)
leaf_from d e size o t (l ∷ ls) a h =
    by_test (is_leaf_at o (Int t) l) refl h (λ g. leaf_from d (l.offset + size_of d l.what) size o t ls a.1 g)
  where
    by_test : (u : Bool) → is_leaf_at o (Int t) l ≡ u → (u || list_any (is_leaf_at o (Int t)) ls) ≡ true
        → (list_any (is_leaf_at o (Int t)) ls ≡ true → l.offset + size_of d l.what ≤ o) → e ≤ o
    by_test true f g r =
        let q = eqb-true l.offset o (and_parts (nat_eq l.offset o) (is_same_scalar l.what (Int t)) f).0 in
        omega (arith, q, a.0)
    by_test false f g r = let s = r g in omega (arith, s, a.0)

behind_leaf : (d : Model) (e size q : ℕ) (w : Scalar) (ls : List Leaf) → AreLeavesIn d e size ls
    → leaf_at ls q ≡ Some w → e ≤ q
behind_leaf d e size q w [] a h = absurd (cc)
behind_leaf d e size q w (l ∷ ls) a h =
    by_test (nat_eq l.offset q) refl h (λ g. behind_leaf d (l.offset + size_of d l.what) size q w ls a.1 g)
  where
    by_test : (t : Bool) → nat_eq l.offset q ≡ t → cond t (Some l.what) (leaf_at ls q) ≡ Some w
        → (leaf_at ls q ≡ Some w → l.offset + size_of d l.what ≤ q) → e ≤ q
    by_test true f g r = let s = eqb-true l.offset q f in omega (arith, s, a.0)
    by_test false f g r = let s = r g in omega (arith, s, a.0)

-- A leaf of a number is this one, or lies before it or behind it.
pub data Meeting (d : Model) (o : ℕ) (t : IntType) (q : ℕ) (w : Scalar) : Type 0 where
  is_one : o ≡ q → Int t ≡ w → Meeting d o t q w
  before : o + size_of d (Int t) ≤ q → Meeting d o t q w
  behind : q + size_of d w ≤ o → Meeting d o t q w

module _ (d : Model) (size o : ℕ) (t : IntType) (q : ℕ) (w : Scalar) where
  meeting_by : (e : ℕ) (l : Leaf) (ls : List Leaf) → AreLeavesIn d e size (l ∷ ls) → (s u : Bool)
      → nat_eq l.offset q ≡ s → is_leaf_at o (Int t) l ≡ u → cond s (Some l.what) (leaf_at ls q) ≡ Some w
      → (u || list_any (is_leaf_at o (Int t)) ls) ≡ true
      → (leaf_at ls q ≡ Some w → list_any (is_leaf_at o (Int t)) ls ≡ true → Meeting d o t q w) → Meeting d o t q w
  meeting_by e l ls a true true f g h i r =
      let b = and_parts (nat_eq l.offset o) (is_same_scalar l.what (Int t)) g in
      let what : l.what ≡ w = cc in
      is_one (sym (eqb-true l.offset o b.0) ∙ eqb-true l.offset q f)
      (sym (same_scalar l.what (Int t) b.1) ∙ what)
  meeting_by e l ls a true false f g h i r =
      let what : l.what ≡ w = cc in
      let x = leaf_from d (l.offset + size_of d l.what) size o t ls a.1 i in
      let s = eqb-true l.offset q f in
      behind (subst (λ z. q + size_of d z ≤ o) what (omega (arith, x, s)))
  meeting_by e l ls a false true f g h i r =
      let b = and_parts (nat_eq l.offset o) (is_same_scalar l.what (Int t)) g in
      let x = behind_leaf d (l.offset + size_of d l.what) size q w ls a.1 h in
      let s = eqb-true l.offset o b.0 in
      before (subst (λ z. o + size_of d z ≤ q) (same_scalar l.what (Int t) b.1) (omega (arith, x, s)))
  meeting_by e l ls a false false f g h i r = r h i

  pub leaves_meet : (e : ℕ) (ls : List Leaf) → AreLeavesIn d e size ls → leaf_at ls q ≡ Some w
      → list_any (is_leaf_at o (Int t)) ls ≡ true → Meeting d o t q w
  leaves_meet e [] a h i = absurd (cc)
  leaves_meet e (l ∷ ls) a h i =
      meeting_by e l ls a (nat_eq l.offset q) (is_leaf_at o (Int t) l) refl refl h i
      (λ g k. leaves_meet (l.offset + size_of d l.what) ls a.1 g k)

-- what lies in no leaf doesn't lie in this one
pub outside_leaf : (d : Model) (o : ℕ) (t : IntType) (q : ℕ) (ls : List Leaf) → is_in_leaf d ls q ≡ false
    → list_any (is_leaf_at o (Int t)) ls ≡ true → (nat_le o q && nat_lt q (o + size_of d (Int t))) ≡ false
outside_leaf d o t q [] h i = absurd (cc)
outside_leaf d o t q (l ∷ ls) h i =
    by_tests (nat_le l.offset q && nat_lt q (l.offset + size_of d l.what)) (is_leaf_at o (Int t) l) refl refl h i
    (λ g k. outside_leaf d o t q ls g k)
  where
    by_tests : (s u : Bool) → (nat_le l.offset q && nat_lt q (l.offset + size_of d l.what)) ≡ s
        → is_leaf_at o (Int t) l ≡ u → (s || is_in_leaf d ls q) ≡ false
        → (u || list_any (is_leaf_at o (Int t)) ls) ≡ true
        → (is_in_leaf d ls q ≡ false → list_any (is_leaf_at o (Int t)) ls ≡ true
        → (nat_le o q && nat_lt q (o + size_of d (Int t))) ≡ false)
        → (nat_le o q && nat_lt q (o + size_of d (Int t))) ≡ false
    by_tests true u f g h i r = absurd (cc)
    by_tests false true f g h i r =
        let b = and_parts (nat_eq l.offset o) (is_same_scalar l.what (Int t)) g in
        subst (λ (z : Scalar). (nat_le o q && nat_lt q (o + size_of d z)) ≡ false) (same_scalar l.what (Int t) b.1)
        (subst (λ (z : ℕ). (nat_le z q && nat_lt q (z + size_of d l.what)) ≡ false) (eqb-true l.offset o b.0) f)
    by_tests false false f g h i r = r h i

-- ---- first values are stored, one after another

module _ {N : Type 0} (D : Ops N) (p : Program) (o : Order) where
  abbrev one_stored : Memory → Init → Memory
  one_stored m i = stored o p.types.model m (Int i.t) i.block i.offset (int i.value)

  abbrev pub begun : List Init → Memory → Memory
  begun is m = fold (λ (m : Memory) (i : Init). stored o (model o p) m (Int i.t) i.block i.offset (int i.value)) m is

  abbrev pub covers : Init → (block offset : ℕ) → Bool
  covers i c q = nat_eq i.block c && (nat_le i.offset q && nat_lt q (i.offset + size_of p.types.model (Int i.t)))

  -- where none of them stands
  abbrev pub AllOff : List Init → (block offset : ℕ) → Type 0
  AllOff [] c q = Unit {0}
  AllOff (i ∷ is) c q = (covers i c q ≡ false) × AllOff is c q

  pub begun_plain : (is : List Init) (m : Memory) → ArePlain m → ArePlain (begun is m)
  begun_plain [] m h = h
  begun_plain (i ∷ is) m h =
      begun_plain is (one_stored m i) (stored_plain o p.types.model m i.t i.block i.offset i.value h)

  pub begun_off : (is : List Init) (m : Memory) → ArePlain m → (c q : ℕ) → AllOff is c q → begun is m c q ≡ m c q
  begun_off [] m h c q a = refl
  begun_off (i ∷ is) m h c q a =
      begun_off is (one_stored m i) (stored_plain o p.types.model m i.t i.block i.offset i.value h) c q a.1
      ∙ stored_off o p.types.model m (Int i.t) i.block i.offset (int i.value) c q h a.0

  -- ---- at a leaf of a number

  module _ (b q : ℕ) (t : IntType) where
    -- it is a first value of this leaf, or stands beside it
    pub data Standing (i : Init) : Type 0 where
      here : i.block ≡ b → i.offset ≡ q → i.t ≡ t → Standing i
      beside : (nat_eq i.block b && nat_eq i.offset q) ≡ false
          → ((j : ℕ) → j < bytes_of t → covers i b (q + j) ≡ false) → Standing i

    abbrev pub AllStand : List Init → Type 0
    AllStand [] = Unit {0}
    AllStand (i ∷ is) = (Standing i × InRange i.t i.value) × AllStand is

    -- the bytes of a first value, or those that were there
    abbrev pub byte_or : Option ℤ → (byte : ℕ) → Byte → Byte
    byte_or None j x = x
    byte_or (Some v) j x = bytes_of_value o (Int t) (int v) j

    pub record AreBytes (is : List Init) (m : Memory) : Type 0 where
      pub bytes : (j : ℕ) → j < bytes_of t → begun is m b (q + j) ≡ byte_or (value_in D p is b q) j (m b (q + j))
      pub range : IfSome (value_in D p is b q) (InRange t)

    -- the value of a later one, or else this
    abbrev value_or : Option ℤ → Init → Option ℤ
    value_or (Some v) i = Some v
    value_or None i = if nat_eq i.block b && nat_eq i.offset q then Some i.value else None

    value_more : (i : Init) (is : List Init) (u : Option ℤ) → value_in D p is b q ≡ u
        → value_in D p (i ∷ is) b q ≡ value_or u i
    value_more i is None e = rw e refl
    value_more i is (Some v) e = rw e refl

    stands_here : (i : Init) (m : Memory) → i.block ≡ b → i.offset ≡ q → i.t ≡ t → (j : ℕ) → j < bytes_of t
        → one_stored m i b (q + j) ≡ bytes_of_value o (Int t) (int i.value) j
    stands_here i m eb eq et j l =
        ap (λ (z : IntType). stored o p.types.model m (Int z) i.block i.offset (int i.value) b (q + j)) et
        ∙ ap (λ (z : ℕ). stored o p.types.model m (Int t) z i.offset (int i.value) b (q + j)) eb
        ∙ ap (λ (z : ℕ). stored o p.types.model m (Int t) b z (int i.value) b (q + j)) eq
        ∙ stored_covered o p.types.model m (Int t) b q (int i.value) j l

    byte_more : (i : Init) (m : Memory) → ArePlain m → Standing i → (u : Option ℤ) (j : ℕ) → j < bytes_of t
        → byte_or u j (one_stored m i b (q + j)) ≡ byte_or (value_or u i) j (m b (q + j))
    byte_more i m h s (Some v) j l = refl
    byte_more i m h (here eb eq et) None j l =
        stands_here i m eb eq et j l ∙ rw (eq-eqb i.block b eb, eq-eqb i.offset q eq) refl
    byte_more i m h (beside e off) None j l =
        stored_off o p.types.model m (Int i.t) i.block i.offset (int i.value) b (q + j) h (off j l) ∙ rw e refl

    range_more : (i : Init) → Standing i → InRange i.t i.value → (u : Option ℤ) → IfSome u (InRange t)
        → IfSome (value_or u i) (InRange t)
    range_more i s r (Some v) h = h
    range_more i (here eb eq et) r None h =
        rw (eq-eqb i.block b eb, eq-eqb i.offset q eq) (subst (λ z. InRange z i.value) et r)
    range_more i (beside e off) r None h = rw e tt

    pub begun_at : (is : List Init) (m : Memory) → ArePlain m → AllStand is → AreBytes is m
    begun_at [] m h a = record { bytes = λ j l. refl; range = tt }
    begun_at (i ∷ is) m h a =
        let r = begun_at is (one_stored m i) (stored_plain o p.types.model m i.t i.block i.offset i.value h) a.1 in
        let u = value_in D p is b q in
        record {
          bytes = λ j l.
              r.bytes j l ∙ byte_more i m h a.0.0 u j l
              ∙ ap (λ (z : Option ℤ). byte_or z j (m b (q + j))) (sym (value_more i is u refl));
          range = subst (λ (z : Option ℤ). IfSome z (InRange t)) (sym (value_more i is u refl))
              (range_more i a.0.0 a.0.1 u r.range);
        }
