-- What holds of all memories in which some bytes are numbers or undefined, each as it likes, holds where these bytes
-- are parts of pointers.
use Rattle.std.proofs.Common.{◌≡◌, ℕ, zero, suc, ◌+◌, ◌^◌, ◌<◌, ◌≤◌, Bool, true, false, ◌&&◌, not, nat_eq, Option}
use Rattle.std.proofs.Common.{Some, None, IfSome, List, ◌⊎◌, inl, inr, ⊎_elim, refl, sym, ap, ◌∙◌, subst, arith}
use Rattle.std.proofs.lemmas.Bool.{eq-eqb, eqb-true, false_from_ne_true}
use Rattle.ep_int.specs.declared.types.Model.{Model}
use Rattle.ep_int.specs.declared.types.Model.TheVariants.{Ilp32, Lp64}
use Rattle.ep_int.specs.declared.types.Order.{Order}
use Rattle.ep_int.specs.declared.types.Scalar.{Scalar}
use Rattle.ep_int.specs.declared.types.Scalar.TheVariants.{Int, Pointer}
use Rattle.ep_int.specs.Types.{bits_of, size_of, residue}
use Rattle.ep_int.specs.Memory.{Byte, undefined, number as byte_number, fragment, Memory, Value as Datum, int, null}
use Rattle.ep_int.specs.Memory.{pointer, is_number, number_in, bytes_of_value}
use Rattle.ep_int.proofs.Encodings.{decoded_same}
use Rattle.ep_bitslice.specs.declared.cell.Side.{Side as CellSide}
use Rattle.ep_bitslice.specs.declared.cell.Side.TheVariants as cell_side
use Rattle.ep_bitslice.specs.declared.cell.CellName.{CellName}
use Rattle.ep_bitslice.specs.declared.segment.Segment.{Segment}
use Rattle.ep_bitslice.specs.Segments.{number}
use Rattle.ep_domain.specs.Domain.{Ops}
use Rattle.ep_cells.specs.declared.cell.Cell.{Cell}
use Rattle.ep_cells.specs.declared.cell.Value.{Value}
use Rattle.ep_cells.specs.declared.cell.Value.TheVariants.{Num, Ptr}
use Rattle.ep_cells.specs.Cells.{IsIn}
use Rattle.ep_cells.specs.States.{Known}
use Rattle.ep_cells.specs.Meaning.{Memories, Allows, IsUndefined, Has, HasBytes, Says, HasNumber, FormSays, number_at}
use Rattle.ep_cells.specs.Meaning.{number_on, numbers_of, name_of, In}
use Rattle.ep_cell_ranges.proofs.Same.{number_same}

-- ---- bytes that are marked with a number: they are it, or undefined

abbrev pub Marks : Type 0
Marks = ℕ → ℕ → Option ℕ

abbrev pub Choice : Type 0
Choice = ℕ → ℕ → Bool

abbrev pub chosen : Option ℕ → Bool → Byte → Byte
chosen None t y = y
chosen (Some a) true y = byte_number a
chosen (Some a) false y = undefined

abbrev pub filled_by : Marks → Choice → Memory → Memory
filled_by marks c m b q = chosen (marks b q) (c b q) (m b q)

-- what is marked is no number
pub record AreParts (marks : Marks) (m : Memory) : Type 0 where
  pub part : (b q a : ℕ) → marks b q ≡ Some a → is_number (m b q) ≡ false

abbrev every : Choice
every b q = true

abbrev none : Choice
none b q = false

abbrev all_but : (block offset : ℕ) → Choice
all_but b q c r = not (nat_eq b c && nat_eq q r)

-- ---- one byte

not_undefined : (o : Option ℕ) (y : Byte) → chosen o true y ≡ undefined → y ≡ undefined
not_undefined None y e = e
not_undefined (Some a) y e = absurd (cc)

kept_zero : (y : Byte) → is_number y ≡ false → number_in y ≡ 0
kept_zero undefined e = refl
kept_zero (byte_number v) e = absurd (cc)
kept_zero (fragment b o k) e = refl

no_number : (o : Option ℕ) (y : Byte) → ((a : ℕ) → o ≡ Some a → is_number y ≡ false)
    → number_in y ≡ number_in (chosen o false y)
no_number None y h = refl
no_number (Some a) y h = kept_zero y (h a refl)

either_way : (o : Option ℕ) (x y : Byte) → ((a : ℕ) → o ≡ Some a → is_number y ≡ false)
    → (chosen o true y ≡ x) ⊎ (is_number (chosen o true y) ≡ false) → (y ≡ x) ⊎ (is_number y ≡ false)
either_way None x y h e = e
either_way (Some a) x y h e = inr (h a refl)

-- ---- values

module _ {N : Type 0} (D : Ops N) where
  -- an allowed value has no undefined byte
  defined : (o : Order) (w : Scalar) (x : Option (Value N)) (b : Bool) (v : Datum) (p : ℕ) → Allows D w x b (Some v)
      → bytes_of_value o w v p ≡ undefined → ⊥
  defined o w None b v p a e = absurd (let q : Some v ≡ None = a in cc)
  defined o (Int t) (Some (Num n)) b (int z) p a e = absurd (cc)
  defined o (Int t) (Some (Num n)) b null p a e = absurd a
  defined o (Int t) (Some (Num n)) b (pointer c q) p a e = absurd a
  defined o (Int t) (Some (Ptr n)) b (int z) p a e = absurd a
  defined o (Int t) (Some (Ptr n)) b null p a e = absurd a
  defined o (Int t) (Some (Ptr n)) b (pointer c q) p a e = absurd a
  defined o Pointer (Some (Num n)) b (int z) p a e = absurd a
  defined o Pointer (Some (Num n)) b null p a e = absurd a
  defined o Pointer (Some (Num n)) b (pointer c q) p a e = absurd a
  defined o Pointer (Some (Ptr n)) b (int z) p a e = absurd a
  defined o Pointer (Some (Ptr n)) b null p a e = absurd (cc)
  defined o Pointer (Some (Ptr n)) b (pointer c q) p a e = absurd (cc)

  surely : (w : Scalar) (x : Option (Value N)) (v : Datum) (b : Bool) → Allows D w x b (Some v)
      → Allows D w x false None
      → ⊥
  surely w None v b a e = absurd (let q : Some v ≡ None = a in cc)
  surely w (Some x) v b a e = absurd (let q : false ≡ true = e in cc)

  -- what is known of a cell in a memory
  pub record OneSays (o : Order) (size : ℕ) (w : Scalar) (x : Option (Value N)) (maybe : Bool) (b q : ℕ) (m : Memory) :
      Type 0
    where
      pub datum : Option Datum
      pub allowed : Allows D w x maybe datum
      pub stands : HasBytes o m size w maybe b q datum

  self_but : (b q : ℕ) → all_but b q b q ≡ false
  self_but b q = let e : nat_eq b b ≡ true = eq-eqb b b refl in let f : nat_eq q q ≡ true = eq-eqb q q refl in
      rw (e, f) refl

  other_but : (b q r : ℕ) → (q ≡ r → ⊥) → all_but b q b r ≡ true
  other_but b q r h =
      let e : nat_eq b b ≡ true = eq-eqb b b refl in
      let f : nat_eq q r ≡ false = false_from_ne_true (nat_eq q r) (λ t. h (eqb-true q r t)) in
      rw (e, f) refl

  -- another byte of the cell
  other_of : (q p : ℕ) → (r : ℕ) × (r < 2) × (q + p ≡ q + r → ⊥)
  other_of q zero = (1, omega arith, λ e. omega (arith, e))
  other_of q (suc p) = (0, omega arith, λ e. omega (arith, e))

  module _ (o : Order) (size : ℕ) (two : 2 ≤ size) (x : Option (Value N)) (b q : ℕ) (marks : Marks) (m : Memory)
      (all : (c : Choice) → OneSays o size Pointer x true b q (filled_by marks c m)) where
    -- a pointer has no marked byte
    never : (v : Datum) → Allows D Pointer x true (Some v) → Has o (filled_by marks every m) Pointer b q size v
        → (p a : ℕ) → p < size → marks b (q + p) ≡ Some a → ⊥
    never v al h p a l e =
        let c = all_but b (q + p) in
        let s = all c in
        let r = other_of q p in
        let in_size : r.0 < size = (let i = r.1 in omega (arith, i, two)) in
        let here : filled_by marks c m b (q + p) ≡ undefined
        = ap (λ t. chosen t (c b (q + p)) (m b (q + p))) e ∙ ap (λ t. chosen (Some a) t (m b (q + p)))
        (self_but b (q + p)) in
        let there : filled_by marks c m b (q + r.0) ≡ bytes_of_value o Pointer v r.0
        = ap (λ t. chosen (marks b (q + r.0)) t (m b (q + r.0))) (other_but b (q + p) (q + r.0) r.2) ∙ h r.0 in_size in
        by_datum s.datum s.allowed s.stands here
        (λ u. defined o Pointer x true v r.0 al (sym there ∙ u r.0 in_size))
      where
        by_datum : (d : Option Datum) → Allows D Pointer x true d
            → HasBytes o (filled_by marks (all_but b (q + p)) m) size Pointer true b q d
            → filled_by marks (all_but b (q + p)) m b (q + p) ≡ undefined
            → (IsUndefined (filled_by marks (all_but b (q + p)) m) b q size → ⊥) → ⊥
        by_datum None al i k none = none i
        by_datum (Some d) al i k none =
            ⊎_elim
            (λ (i : Has o (filled_by marks (all_but b (q + p)) m) Pointer b q size d).
            defined o Pointer x true d p al (sym (i p l) ∙ k))
            none i

    same_there : (v : Datum) → Allows D Pointer x true (Some v) → Has o (filled_by marks every m) Pointer b q size v
        → (p : ℕ) → p < size → (t : Option ℕ) → marks b (q + p) ≡ t → chosen t true (m b (q + p))
        ≡ bytes_of_value o Pointer v p
        → m b (q + p) ≡ bytes_of_value o Pointer v p
    same_there v al h p l None e f = f
    same_there v al h p l (Some a) e f = absurd (never v al h p a l e)

  module _ (o : Order) (size : ℕ) (b q : ℕ) (marks : Marks) (m : Memory) (parts : AreParts marks m) where
    still_sure : (w : Scalar) (x : Option (Value N)) (v : Datum) → Allows D w x false (Some v)
        → ((c : Choice) → OneSays o size w x false b q (filled_by marks c m))
        → (p : ℕ) → p < size → (t : Option ℕ) → marks b (q + p) ≡ t → chosen t true (m b (q + p))
        ≡ bytes_of_value o w v p
        → m b (q + p) ≡ bytes_of_value o w v p
    still_sure w x v al all p l None e f = f
    still_sure w x v al all p l (Some a) e f = absurd (by_datum s.datum s.allowed s.stands)
      where
        s : OneSays o size w x false b q (filled_by marks none m)
        s = all none

        by_datum : (d : Option Datum) → Allows D w x false d
            → HasBytes o (filled_by marks none m) size w false b q d → ⊥
        by_datum None al' i = surely w x v false al al'
        by_datum (Some d) al' i = defined o w x false d p al'
            (sym (i p l) ∙ ap (λ t. chosen t false (m b (q + p))) e)

    -- so the cell says the same of the memory itself
    still : (w : Scalar) → (w ≡ Pointer → 2 ≤ size) → (x : Option (Value N)) (maybe : Bool) (d : Option Datum)
        → Allows D w x maybe d
        → ((c : Choice) → OneSays o size w x maybe b q (filled_by marks c m))
        → HasBytes o (filled_by marks every m) size w maybe b q d → HasBytes o m size w maybe b q d
    still w two x maybe None al all h = λ p l. not_undefined (marks b (q + p)) (m b (q + p)) (h p l)
    still w two x false (Some v) al all h =
        λ p l. still_sure w x v al all p l (marks b (q + p)) refl (h p l)
    still (Int t) two x true (Some v) al all h =
        λ p l. either_way (marks b (q + p)) (bytes_of_value o (Int t) v p) (m b (q + p))
        (λ a e. parts.part b (q + p) a e) (h p l)
    still Pointer two x true (Some v) al all h =
        ⊎_elim
        (λ (i : Has o (filled_by marks every m) Pointer b q size v). inl
        (λ p l. same_there o size (two refl) x b q marks m all v al i p l (marks b (q + p)) refl (i p l)))
        (λ (i : IsUndefined (filled_by marks every m) b q size). inr
        (λ p l. not_undefined (marks b (q + p)) (m b (q + p)) (i p l))) h

  two : (d : Model) → 2 ≤ size_of d Pointer
  two Ilp32 = omega arith
  two Lp64 = omega arith

  two_of : (d : Model) (w : Scalar) → w ≡ Pointer → 2 ≤ size_of d w
  two_of d w e = subst (λ v. 2 ≤ size_of d v) (sym e) (two d)

  at_none : (o : Order) (marks : Marks) (m : Memory) (c : CellName) → AreParts marks m
      → number_at o m c ≡ number_at o (filled_by marks none m) c
  at_none o marks m c parts =
      decoded_same o c.t (λ p. number_in (m c.block (c.offset + p)))
      (λ p. number_in (filled_by marks none m c.block (c.offset + p)))
      (λ p l. no_number (marks c.block (c.offset + p)) (m c.block (c.offset + p))
      (λ a e. parts.part c.block (c.offset + p) a e))

  -- ---- all that is known

  module _ (k : Known N) (l r : Marks) (m : Memories) (pl : AreParts l m.left) (pr : AreParts r m.right)
      (all : (c e : Choice) → In D k (record { left = filled_by l c m.left; right = filled_by r e m.right })) where
    abbrev bare : Memories
    bare = record { left = filled_by l none m.left; right = filled_by r none m.right }

    cell_says : (c : Cell N) → IsIn c k.cells → Says D k.orders k.model m c
    cell_says c i =
        let h = (all every every).cells c i in
        record {
          datum = h.datum;
          allowed = h.allowed;
          stands = record {
            left = λ s. still k.orders.0 (size_of k.model c.what) c.block c.offset l m.left pl c.what
                (two_of k.model c.what) c.value c.maybe h.datum h.allowed
                (λ e. let g = (all e every).cells c i in record {
                  datum = g.datum;
                  allowed = g.allowed;
                  stands = g.stands.left s;
                }) (h.stands.left s);
            right = λ s. still k.orders.1 (size_of k.model c.what) c.block c.offset r m.right pr
                c.what (two_of k.model c.what) c.value c.maybe h.datum h.allowed
                (λ e. let g = (all every e).cells c i in record {
                  datum = g.datum;
                  allowed = g.allowed;
                  stands = g.stands.right s;
                }) (h.stands.right s);
          };
        }

    on_none : (s : CellSide) (c : CellName) → number_on s k.orders m c ≡ number_on s k.orders bare c
    on_none cell_side.Left c = at_none k.orders.0 l m.left c pl
    on_none cell_side.Right c = at_none k.orders.1 r m.right c pr
    on_none cell_side.Shared c = at_none k.orders.0 l m.left c pl

    has_none : (c : Cell N) (w : Scalar) (j : ℕ) → HasNumber k.orders bare c w j → HasNumber k.orders m c w j
    has_none c (Int t) j h = ap (λ z. residue (2 ^ bits_of t) z) (on_none c.side (name_of c t)) ∙ h
    has_none c Pointer j h = absurd h

    form_says : (c : Cell N) (f : Option (List Segment)) → IfSome f (FormSays k.orders bare c)
        → IfSome f (FormSays k.orders m c)
    form_says c None h = tt
    form_says c (Some ss) h =
        subst (HasNumber k.orders m c c.what)
        (sym (number_same (numbers_of k.orders m) (numbers_of k.orders bare) ss (λ e. on_none e.side e)))
        (has_none c c.what (number (numbers_of k.orders bare) ss) h)

    pub holds_of_parts : In D k m
    holds_of_parts = record {
      cells = cell_says;
      forms = λ c i. form_says c c.form ((all none none).forms c i);
    }
