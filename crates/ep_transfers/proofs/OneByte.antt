-- What is read of one byte of a cell allows what stands there, where pointers that lie partly in a place may be
-- undefined.
use Rattle.std.proofs.Common.{◌≡◌, ℕ, ◌+◌, ◌-◌, ◌*◌, ◌^◌, ◌<◌, ℤ, pos, negsuc, Bool, true, false, ◌||◌, not, cond}
use Rattle.ep_transfers.proofs.Filled.{first_alone}
use Rattle.ep_reads.proofs.ByteCells.{encoded_byte}
use Rattle.ep_int.proofs.Basics.{plus-zero}
use Rattle.ep_reads.proofs.Wholes.{converted_bytes}
use Rattle.std.proofs.lemmas.Bool.{or_left}
use Rattle.std.proofs.Common.{IsSomeAnd, List, [], ◌∷◌, Option, Some, None, ◌⊎◌, inl, inr, ⊎_elim, refl, sym, ap, ◌∙◌}
use Rattle.std.proofs.Common.{subst, arith}
use Rattle.std.specs.Option.{option_map}
use Rattle.std.specs.List.{list_any}
use Rattle.std.proofs.lemmas.Int.{ints}
use Rattle.std.proofs.lemmas.Bool.{and_from, both_ways}
use Rattle.ep_int.specs.declared.types.IntType.{IntType}
use Rattle.ep_int.specs.declared.types.IntType.TheVariants.{U8}
use Rattle.ep_int.specs.declared.types.Order.{Order}
use Rattle.ep_int.specs.declared.types.Model.{Model}
use Rattle.ep_int.specs.declared.types.Scalar.{Scalar}
use Rattle.ep_int.specs.declared.types.Scalar.TheVariants.{Int, Pointer}
use Rattle.ep_int.specs.Types.{bytes_of, bits_of, size_of, InRange, wrapped}
use Rattle.ep_int.specs.Encoding.{place, encoded}
use Rattle.ep_int.specs.Memory.{Byte, undefined, number, fragment, Memory, Value as Datum, int, null, pointer}
use Rattle.ep_int.specs.Memory.{is_number, broken}
use Rattle.ep_int.proofs.Places.{width_of, place_below}
use Rattle.ep_int.proofs.Wrapping.{wrapped_in_range, wrapped_same}
use Rattle.ep_bitslice.specs.declared.cell.Side.TheVariants as cell_side
use Rattle.ep_domain.specs.Domain.{Ops, Holds, Lawful}
use Rattle.ep_pointers.specs.Value.{Pointers, Target, offset_at}
use Rattle.ep_cells.specs.declared.cell.Cell.{Cell}
use Rattle.ep_cells.specs.declared.cell.Value.{Value}
use Rattle.ep_cells.specs.declared.cell.Value.TheVariants.{Num, Ptr}
use Rattle.ep_cells.specs.States.{IsOfSort}
use Rattle.ep_cells.specs.Meaning.{Allows, HasBytes}
use Rattle.ep_reads.specs.declared.read.ReadValue.{ReadValue}
use Rattle.ep_reads.specs.Bytes.{byte_at, byte_value, has_targets, is_null_alone, byte_of_value, pointer_byte}
use Rattle.ep_reads.specs.Bytes.{zero_form}
use Rattle.ep_reads.specs.Read.{integer_read, weighted, whole_read}
use Rattle.ep_reads.specs.Split.{byte_with}
use Rattle.ep_reads.proofs.Numbers.{product_held, single_held, small_number, byte_held}
use Rattle.ep_reads.proofs.ByteCells.{ByteSays, byte_says, byte_in_range}
use Rattle.ep_transfers.specs.Copies.{fragment_source, may_point}
use Rattle.ep_transfers.proofs.PieceSources.{IsSource}
use Rattle.ep_transfers.proofs.BrokenBytes.{number_kept, nothing_kept, others_kept, integer_loose}

-- ---- one byte as a number

sure_byte : (o : Order) (n : Memory) (b q v : ℕ) → v < 256 → n b q ≡ number v
    → HasBytes o n 1 (Int U8) false b q (Some (int (pos v)))
sure_byte o n b q v l h = λ p e.
    subst (λ i. n b (q + i) ≡ number (encoded o U8 (pos v) i)) (first_alone p e)
    (subst (λ i. n b i ≡ number (encoded o U8 (pos v) 0)) (plus-zero q) (h ∙ ap number (sym (encoded_byte o v l))))

any_byte : (o : Order) (n : Memory) (b q v : ℕ) → v < 256 → (n b q ≡ number v) ⊎ (is_number (n b q) ≡ false)
    → HasBytes o n 1 (Int U8) true b q (Some (int (pos v)))
any_byte o n b q v l h = λ p e.
    subst (λ i. (n b (q + i) ≡ number (encoded o U8 (pos v) i)) ⊎ (is_number (n b (q + i)) ≡ false)) (first_alone p e)
    (subst (λ i. (n b i ≡ number (encoded o U8 (pos v) 0)) ⊎ (is_number (n b i) ≡ false)) (plus-zero q)
    (⊎_elim (λ k. inl (k ∙ ap number (sym (encoded_byte o v l)))) (λ k. inr k) h))

no_byte : (n : Memory) (b q : ℕ) → n b q ≡ undefined → (p : ℕ) → p < 1 → n b (q + p) ≡ undefined
no_byte n b q h p e =
    subst (λ i. n b (q + i) ≡ undefined) (first_alone p e) (subst (λ i. n b i ≡ undefined) (plus-zero q) h)

pub converted_has : (o : Order) (n : Memory) (t : IntType) (maybe : Bool) (b q : ℕ) (z : ℤ) → bytes_of t ≡ bytes_of U8
    → HasBytes o n (bytes_of t) (Int t) maybe b q (Some (int z))
    → HasBytes o n 1 (Int U8) maybe b q (Some (int (wrapped U8 z)))
converted_has o n t false b q z e h = λ p l.
    h p (subst (λ x. p < x) (sym e) l) ∙ ap number (converted_bytes o t U8 z p e)
converted_has o n t true b q z e h = λ p l.
    ⊎_elim (λ i. inl (i ∙ ap number (converted_bytes o t U8 z p e))) (λ i. inr i)
    (h p (subst (λ x. p < x) (sym e) l))

pub sized_has : (o : Order) (n : Memory) (w : Scalar) (maybe : Bool) (x y b q : ℕ) (v : Option Datum) → x ≡ y
    → HasBytes o n x w maybe b q v → HasBytes o n y w maybe b q v
sized_has o n w maybe x y b q v e h = subst (λ z. HasBytes o n z w maybe b q v) e h

byte_range : (z : ℤ) → InRange U8 z → (v : ℕ) × (v < 256) × (z ≡ pos v)
byte_range (pos v) h = (v, (let a = h.high in omega (arith, ints, a)), refl)
byte_range (negsuc v) h = absurd (let a = h.low in omega (arith, ints, a))

or_none : (b : Bool) → b ≡ (b || false)
or_none true = refl
or_none false = refl

module _ {N : Type 0} (D : Ops N) (law : Lawful D) where
  -- what may be anything
  pub fragment_is : (o : Order) (n : Memory) (b q : ℕ) → ((v : ℕ) → n b q ≡ number v → v < 256)
      → IsSource D law o 1 (Int U8) (fragment_source D) b q n
  fragment_is o n b q below = by_byte (n b q) refl
    where
      at : (v : ℕ) → v < 256 → (n b q ≡ number v) ⊎ (is_number (n b q) ≡ false)
          → IsSource D law o 1 (Int U8) (fragment_source D) b q n
      at v l h = record {
        datum = Some (int (pos v));
        allowed = (byte_in_range v l, law.top_holds U8 (pos v) (byte_in_range v l));
        stands = any_byte o n b q v l h;
        unset = λ e. absurd (cc);
      }

      by_byte : (y : Byte) → n b q ≡ y → IsSource D law o 1 (Int U8) (fragment_source D) b q n
      by_byte undefined e = at 0 (omega arith) (inr (ap is_number e))
      by_byte (number v) e = at v (below v e) (inl e)
      by_byte (fragment x y z) e = at 0 (omega arith) (inr (ap is_number e))

  -- what is surely undefined
  nothing_is : (o : Order) (n : Memory) (b q : ℕ) (r : ReadValue N) → r.value ≡ None → r.maybe ≡ true
      → n b q ≡ undefined → IsSource D law o 1 (Int U8) r b q n
  nothing_is o n b q r v m h = record {
    datum = None;
    allowed = subst (λ u. Allows D (Int U8) u r.maybe None) (sym v) refl;
    stands = no_byte n b q h;
    unset = λ e. m;
  }

  pub lacking : (w : Scalar) (u : Option (Value N)) (maybe : Bool) → maybe ≡ true → Allows D w u maybe None
  lacking w None maybe e = refl
  lacking w (Some u) maybe e = e

  lacks_it : (w : Scalar) (u : Value N) (maybe : Bool) → Allows D w (Some u) maybe None → maybe ≡ true
  lacks_it w u maybe e = e

  -- what may be undefined, and is
  unset_is : (o : Order) (n : Memory) (b q : ℕ) (r : ReadValue N) → r.maybe ≡ true → n b q ≡ undefined
      → IsSource D law o 1 (Int U8) r b q n
  unset_is o n b q r m h = record {
    datum = None;
    allowed = lacking (Int U8) r.value r.maybe m;
    stands = no_byte n b q h;
    unset = λ e. m;
  }

  -- ---- a byte, read as an integer of one byte

  abbrev one_of : ReadValue N → Option (Value N)
  one_of r = option_map (λ c. Num (D.convert c U8)) (weighted D U8 0 r.value)

  times_one : (v : ℕ) → v * 256 ^ 0 ≡ v
  times_one v = omega arith

  small_one : (v : ℕ) → v < 256 → v * 256 ^ 0 < 2 ^ bits_of U8
  small_one v l = omega (arith, l)

  record GivesByte (u : Option (Value N)) (v : ℕ) : Type 0 where
    one : N
    is : u ≡ Some (Num one)
    holds : Holds D one (pos v)

  held_one : (v : ℕ) (c : N) → v < 256 → Holds D c (pos v)
      → GivesByte (option_map (λ c. Num (D.convert c U8)) (weighted D U8 0 (Some (Num c)))) v
  held_one v c l h =
      let g = product_held D law U8 c (D.single (pos (256 ^ 0))) v (256 ^ 0) refl l (omega arith) (small_one v l) h
      (single_held D law U8 (256 ^ 0) refl (omega arith)) in
      record {
        one = D.convert g.one U8;
        is = ap (λ x. option_map (λ c. Num (D.convert c U8)) x) g.is;
        holds = subst (Holds D (D.convert g.one U8)) (wrapped_same U8 (pos v) (byte_in_range v l))
            (law.convert_holds g.one U8 (pos v) (subst (λ x. Holds D g.one (pos x)) (times_one v) g.holds));
      }

  more_maybe : (o : Order) (n : Memory) (b q : ℕ) (maybe : Bool) (v : Option Datum)
      → HasBytes o n 1 (Int U8) maybe b q v → HasBytes o n 1 (Int U8) (maybe || false) b q v
  more_maybe o n b q maybe v h = subst (λ t. HasBytes o n 1 (Int U8) t b q v) (or_none maybe) h

  -- what a byte is, an integer read of it alone is
  pub alone_is : (o : Order) (n : Memory) (b q : ℕ) (r : ReadValue N) → IsSource D law o 1 (Int U8) r b q n
      → IsSource D law o 1 (Int U8) (integer_read D U8 (r ∷ [])) b q n
  alone_is o n b q r s = by_datum s.datum s.allowed s.stands
    where
      unset_to : (u : Option (Value N)) → r.value ≡ u → Allows D (Int U8) u r.maybe None → r.maybe ≡ true
      unset_to None e a = s.unset e
      unset_to (Some u) e a = a

      by_number : (z : ℤ) (u : Option (Value N)) → r.value ≡ u → Allows D (Int U8) u r.maybe (Some (int z))
          → HasBytes o n 1 (Int U8) r.maybe b q (Some (int z))
          → IsSource D law o 1 (Int U8) (integer_read D U8 (r ∷ [])) b q n
      by_number z None e a h = absurd (let k : Some (int z) ≡ None = a in cc)
      by_number z (Some (Ptr c)) e a h = absurd a
      by_number z (Some (Num c)) e a h =
          let v = byte_range z a.0 in
          let g = held_one v.0 c v.1 (subst (Holds D c) v.2 a.1) in
          let is : one_of r ≡ Some (Num g.one) = ap (λ u. option_map (λ c. Num (D.convert c U8)) (weighted D U8 0 u)) e
          ∙ g.is in
          record {
            datum = Some (int z);
            allowed = subst (λ u. Allows D (Int U8) u (r.maybe || false) (Some (int z))) (sym is)
                (a.0, subst (Holds D g.one) (sym v.2) g.holds);
            stands = more_maybe o n b q r.maybe (Some (int z)) h;
            unset = λ k. absurd (let x : Some (Num g.one) ≡ None = sym is ∙ k in cc);
          }

      not_null : (u : Option (Value N)) (maybe : Bool) → Allows D (Int U8) u maybe (Some null) → ⊥
      not_null None maybe a = let k : Some null ≡ None = a in cc
      not_null (Some (Num c)) maybe a = a
      not_null (Some (Ptr c)) maybe a = a

      not_pointer : (u : Option (Value N)) (maybe : Bool) (x y : ℕ)
          → Allows D (Int U8) u maybe (Some (pointer x y)) → ⊥
      not_pointer None maybe x y a = let k : Some (pointer x y) ≡ None = a in cc
      not_pointer (Some (Num c)) maybe x y a = a
      not_pointer (Some (Ptr c)) maybe x y a = a

      by_datum : (v : Option Datum) → Allows D (Int U8) r.value r.maybe v → HasBytes o n 1 (Int U8) r.maybe b q v
          → IsSource D law o 1 (Int U8) (integer_read D U8 (r ∷ [])) b q n
      by_datum None a h =
          let m : (r.maybe || false) ≡ true = or_left r.maybe false (unset_to r.value refl a) in
          record {
            datum = None;
            allowed = lacking (Int U8) (one_of r) (r.maybe || false) m;
            stands = h;
            unset = λ e. m;
          }
      by_datum (Some (int z)) a h = by_number z r.value refl a h
      by_datum (Some null) a h = absurd (not_null r.value r.maybe a)
      by_datum (Some (pointer x y)) a h = absurd (not_pointer r.value r.maybe x y a)

  -- ---- a byte of an integer cell

  module _ (d : Model) (o : Order) (m : Memory) (b here size : ℕ) (x : Cell N) (j : ℕ) where
    abbrev left : Memory
    left = broken d m b here size

    from_with : (t : IntType) (g : Option N) → ByteSays D d o left (byte_with cell_side.Left x j g x.maybe None)
        → (g ≡ None → x.maybe ≡ true) → (k : Bool) (r : ReadValue N) → r.value ≡ option_map Num g → r.maybe ≡ x.maybe
        → IsSource D law o 1 (Int U8) r x.block (x.offset + j) left
    from_with t (Some a) s un k r ev em = record {
      datum = s.datum;
      allowed = subst (λ u. Allows D (Int U8) u r.maybe s.datum) (sym ev)
          (subst (λ u. Allows D (Int U8) (Some (Num a)) u s.datum) (sym em) s.allowed);
      stands = subst (λ u. HasBytes o left 1 (Int U8) u x.block (x.offset + j) s.datum) (sym em) s.stands;
      unset = λ e. absurd (let z : Some (Num a) ≡ None = sym ev ∙ e in cc);
    }
    from_with t None s un k r ev em =
        let is : s.datum ≡ None = s.allowed in
        let st : HasBytes o left 1 (Int U8) true x.block (x.offset + j) None =
        subst (λ u. HasBytes o left 1 (Int U8) true x.block (x.offset + j) u) is s.stands in
        record {
          datum = None;
          allowed = subst (λ u. Allows D (Int U8) u r.maybe None) (sym ev) refl;
          stands = st;
          unset = λ e. em ∙ un refl;
        }

    no_byte_value : (t : IntType) (c : N) (v : Option Datum) → j < bytes_of t
        → Allows D (Int t) (Some (Num c)) x.maybe v → byte_value D t (byte_at o t j) c ≡ None → x.maybe ≡ true
    no_byte_value t c None l a e = a
    no_byte_value t c (Some (int z)) l a e =
        let g = byte_held D law t (byte_at o t j) c z (place_below o (bytes_of t) j (width_of t) l) a.0 a.1 in
        absurd (let z : Some g.one ≡ None = sym g.is ∙ e in cc)
    no_byte_value t c (Some null) l a e = absurd a
    no_byte_value t c (Some (pointer y z)) l a e = absurd a

    integer_is : (t : IntType) (c : N) (v : Option Datum) → Allows D (Int t) (Some (Num c)) x.maybe v
        → HasBytes o m (bytes_of t) (Int t) x.maybe x.block x.offset v → j < bytes_of t
        → IsSource D law o 1 (Int U8) (byte_of_value D o x (Int t) (Some (Num c)) j) x.block (x.offset + j) left
    integer_is t c v a h l =
        from_with t (byte_value D t (byte_at o t j) c)
        (byte_says D law d o m left cell_side.Left None x (Int t) (Some (Num c)) v j a h l
        (integer_loose d m b here size x.block (x.offset + j) t))
        (λ e. no_byte_value t c v l a e) true (byte_of_value D o x (Int t) (Some (Num c)) j) refl refl

    -- ---- a byte of a pointer to nothing

    some_target : (ts : List (Target N)) (c : ℕ) (P : N → Type 0) → IsSomeAnd (offset_at ts c) P
        → list_any (λ t. true) ts ≡ true
    some_target [] c P h = absurd h
    some_target (t ∷ ts) c P h = refl

    null_alone : (p : Pointers N) → p.null ≡ true → has_targets p ≡ false → is_null_alone p ≡ true
    null_alone p e f = and_from p.null (not (has_targets p)) e (ap not f)

    unset_pointer : (maybe t : Bool) (p : Pointers N) → is_null_alone p ≡ t → maybe ≡ true
        → left x.block (x.offset + j) ≡ undefined
        → IsSource D law o 1 (Int U8) (pointer_byte D maybe p) x.block (x.offset + j) left
    unset_pointer maybe t p e f h = by_test (is_null_alone p)
      where
        by_test : (t : Bool)
            → IsSource D law o 1 (Int U8)
            (cond t
            (record {
              value = Some (Num (D.single (pos 0)));
              maybe = maybe;
              mixed = false;
              form = cond maybe None (Some zero_form);
            }) (record { value = None; maybe = maybe; mixed = true; form = None })) x.block (x.offset + j) left
        by_test true = unset_is o left x.block (x.offset + j) _ f h
        by_test false = unset_is o left x.block (x.offset + j) _ f h

    zero_byte : (maybe : Bool) → HasBytes o m (size_of d Pointer) Pointer maybe x.block x.offset (Some null)
        → j < size_of d Pointer → HasBytes o left 1 (Int U8) maybe x.block (x.offset + j) (Some (int (pos 0)))
    zero_byte false h l =
        sure_byte o left x.block (x.offset + j) 0 (omega arith)
        (number_kept d m b here size x.block (x.offset + j) 0 (h j l))
    zero_byte true h l =
        any_byte o left x.block (x.offset + j) 0 (omega arith)
        (⊎_elim (λ i. inl (number_kept d m b here size x.block (x.offset + j) 0 (i j l)))
        (λ i. inr (others_kept d m b here size x.block (x.offset + j) (ap is_number (i j l)))) h)

    pointer_is : (p : Pointers N) (v : Option Datum) → has_targets p ≡ false
        → Allows D Pointer (Some (Ptr p)) x.maybe v
        → HasBytes o m (size_of d Pointer) Pointer x.maybe x.block x.offset v → j < size_of d Pointer
        → IsSource D law o 1 (Int U8) (byte_of_value D o x Pointer (Some (Ptr p)) j) x.block (x.offset + j) left
    pointer_is p None f a h l =
        unset_pointer x.maybe (is_null_alone p) p refl a
        (nothing_kept d m b here size x.block (x.offset + j) (h j l))
    pointer_is p (Some (int z)) f a h l = absurd a
    pointer_is p (Some (pointer c r)) f a h l =
        absurd (both_ways (has_targets p) f (some_target p.targets c (λ i. Holds D i (pos r)) a))
    pointer_is p (Some null) f a h l =
        let e = null_alone p a f in
        let r = pointer_byte D x.maybe p in
        let ev : r.value ≡ Some (Num (D.single (pos 0))) = rw e refl in
        let em : r.maybe ≡ x.maybe = rw e refl in
        record {
          datum = Some (int (pos 0));
          allowed = subst (λ u. Allows D (Int U8) u r.maybe (Some (int (pos 0)))) (sym ev)
              (byte_in_range 0 (omega arith), law.single_holds (pos 0) (small_number 0 (omega arith)));
          stands = subst (λ u. HasBytes o left 1 (Int U8) u x.block (x.offset + j) (Some (int (pos 0)))) (sym em)
              (zero_byte x.maybe h l);
          unset = λ k. absurd (let z : Some (Num (D.single (pos 0))) ≡ None = sym ev ∙ k in cc);
        }

    -- ---- a byte of any cell that is no pointer to something

    pub cell_byte_is : (w : Scalar) (u : Option (Value N)) (v : Option Datum) → IsOfSort w u
        → may_point D u ≡ false → Allows D w u x.maybe v → HasBytes o m (size_of d w) w x.maybe x.block x.offset v
        → j < size_of d w → IsSource D law o 1 (Int U8) (byte_of_value D o x w u j) x.block (x.offset + j) left
    cell_byte_is (Int t) (Some (Num c)) v so f a h l = integer_is t c v a h l
    cell_byte_is (Int t) (Some (Ptr c)) v so f a h l = absurd so
    cell_byte_is Pointer (Some (Num c)) v so f a h l = absurd so
    cell_byte_is Pointer (Some (Ptr p)) v so f a h l = pointer_is p v f a h l
    cell_byte_is (Int t) None v so f a h l =
        nothing_is o left x.block (x.offset + j) (byte_of_value D o x (Int t) None j) refl refl
        (nothing_kept d m b here size x.block (x.offset + j)
        (gone (subst (λ y. HasBytes o m (bytes_of t) (Int t) x.maybe x.block x.offset y) a h)))
      where
        gone : HasBytes o m (bytes_of t) (Int t) x.maybe x.block x.offset None
            → m x.block (x.offset + j) ≡ undefined
        gone i = i j l
    cell_byte_is Pointer None v so f a h l =
        nothing_is o left x.block (x.offset + j) (byte_of_value D o x Pointer None j) refl refl
        (nothing_kept d m b here size x.block (x.offset + j)
        (gone (subst (λ y. HasBytes o m (size_of d Pointer) Pointer x.maybe x.block x.offset y) a h)))
      where
        gone : HasBytes o m (size_of d Pointer) Pointer x.maybe x.block x.offset None
            → m x.block (x.offset + j) ≡ undefined
        gone i = i j l

  -- ---- a cell of one byte, read whole

  pub whole_byte_is : (o : Order) (n : Memory) (x : Cell N) (t : IntType) (v : Option Datum) → x.what ≡ Int t
      → bytes_of t ≡ bytes_of U8 → IsOfSort (Int t) x.value → (x.value ≡ None → x.maybe ≡ true)
      → Allows D (Int t) x.value x.maybe v → HasBytes o n (bytes_of t) (Int t) x.maybe x.block x.offset v
      → IsSource D law o 1 (Int U8) (whole_read D (Int U8) x) x.block x.offset n
  whole_byte_is o n x t v w e so un a h = by_value x.value refl so a v refl
    where
      by_value : (u : Option (Value N)) → x.value ≡ u → IsOfSort (Int t) u → Allows D (Int t) u x.maybe v
          → (y : Option Datum) → v ≡ y → IsSource D law o 1 (Int U8) (whole_read D (Int U8) x) x.block x.offset n
      by_value u f so a None g =
          let m = set u f (subst (Allows D (Int t) u x.maybe) g a) in
          record {
            datum = None;
            allowed = lacking (Int U8) (whole_read D (Int U8) x).value x.maybe m;
            stands = sized_has o n (Int t) x.maybe (bytes_of t) 1 x.block x.offset None e
                (subst (λ z. HasBytes o n (bytes_of t) (Int t) x.maybe x.block x.offset z) g h);
            unset = λ k. m;
          }
        where
          set : (u : Option (Value N)) → x.value ≡ u → Allows D (Int t) u x.maybe None → x.maybe ≡ true
          set None f a = un f
          set (Some u) f a = a
      by_value None f so a (Some y) g = absurd (let z : Some y ≡ None = sym g ∙ a in cc)
      by_value (Some (Ptr c)) f so a (Some y) g = absurd so
      by_value (Some (Num c)) f so a (Some null) g = absurd (subst (Allows D (Int t) (Some (Num c)) x.maybe) g a)
      by_value (Some (Num c)) f so a (Some (pointer y z)) g =
          absurd (subst (Allows D (Int t) (Some (Num c)) x.maybe) g a)
      by_value (Some (Num c)) f so a (Some (int z)) g =
          let r = whole_read D (Int U8) x in
          let al : Allows D (Int t) (Some (Num c)) x.maybe (Some (int z)) = subst
          (Allows D (Int t) (Some (Num c)) x.maybe) g a in
          let ev : r.value ≡ Some (Num (D.convert c U8)) = rw f refl in
          record {
            datum = Some (int (wrapped U8 z));
            allowed = subst (λ u. Allows D (Int U8) u x.maybe (Some (int (wrapped U8 z)))) (sym ev)
                (wrapped_in_range U8 z, law.convert_holds c U8 z al.1);
            stands = converted_has o n t x.maybe x.block x.offset z e
                (subst (λ y. HasBytes o n (bytes_of t) (Int t) x.maybe x.block x.offset y) g h);
            unset = λ k. absurd (let y : Some (Num (D.convert c U8)) ≡ None = sym ev ∙ k in cc);
          }
