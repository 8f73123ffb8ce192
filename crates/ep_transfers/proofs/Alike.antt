-- What is known says nothing of bytes that are parts of pointers, where no pointer has so many parts: it holds of
-- memories that are alike but for such bytes.
use Rattle.std.proofs.Common.{◌≡◌, ℕ, ◌+◌, ◌^◌, ◌<◌, ◌≤◌, Bool, true, false, List, Option, Some, None, IfSome, ◌⊎◌}
use Rattle.std.proofs.Common.{inl, inr, ⊎_elim, refl, sym, ap, ◌∙◌, subst, arith}
use Rattle.ep_int.specs.declared.types.Model.{Model}
use Rattle.ep_int.specs.declared.types.Order.{Order}
use Rattle.ep_int.specs.declared.types.Scalar.{Scalar}
use Rattle.ep_int.specs.declared.types.Scalar.TheVariants.{Int, Pointer}
use Rattle.ep_int.specs.Types.{bits_of, pointer_bytes, size_of, residue}
use Rattle.ep_int.specs.Memory.{Byte, undefined, number as byte_number, fragment, Memory, Value as Datum, int, null}
use Rattle.ep_int.specs.Memory.{pointer, bytes_of_value, is_number, number_in}
use Rattle.ep_int.proofs.Encodings.{decoded_same}
use Rattle.ep_bitslice.specs.declared.cell.Side.{Side as CellSide}
use Rattle.ep_bitslice.specs.declared.cell.Side.TheVariants as cell_side
use Rattle.ep_bitslice.specs.declared.cell.CellName.{CellName}
use Rattle.ep_bitslice.specs.declared.segment.Segment.{Segment}
use Rattle.ep_bitslice.specs.Segments.{number}
use Rattle.ep_domain.specs.Domain.{Ops}
use Rattle.ep_cells.specs.declared.cell.Cell.{Cell}
use Rattle.ep_cells.specs.States.{Known}
use Rattle.ep_cells.specs.Meaning.{Memories, IsUndefined, Has, HasBytes, Says, HasNumber, FormSays, number_at}
use Rattle.ep_cells.specs.Meaning.{number_on, numbers_of, name_of, In}
use Rattle.ep_reads.specs.Laws.{IsNumberOf}
use Rattle.ep_cell_ranges.specs.Ranges.{Form}
use Rattle.ep_cell_ranges.specs.Follow.{FormHas}
use Rattle.ep_cell_ranges.proofs.Same.{number_same}
use Rattle.ep_transfers.specs.Writes.{Underway}
use Rattle.ep_transfers.proofs.Changes.{Blocks, IsKnown, Goes}

-- a part that no pointer has
abbrev pub IsOdd : Model → Byte → Type 0
IsOdd d undefined = ⊥
IsOdd d (byte_number v) = ⊥
IsOdd d (fragment b o k) = pointer_bytes d ≤ k

abbrev pub IsLike : Model → Byte → Byte → Type 0
IsLike d x y = (x ≡ y) ⊎ (IsOdd d x × IsOdd d y)

abbrev pub IsAlike : Model → Memory → Memory → Type 0
IsAlike d m n = (b q : ℕ) → IsLike d (m b q) (n b q)

pub record AreAlike (d : Model) (m n : Memories) : Type 0 where
  pub left : IsAlike d m.left n.left
  pub right : IsAlike d m.right n.right

pub alike_itself : (d : Model) (m : Memory) → IsAlike d m m
alike_itself d m b q = inl refl

-- ---- bytes of values

pub no_room : (n k : ℕ) → k < n → n ≤ k → ⊥
no_room n k h i = omega (arith, h, i)

value_is_even : (o : Order) (d : Model) (w : Scalar) (v : Datum) (p : ℕ) → p < size_of d w
    → IsOdd d (bytes_of_value o w v p) → ⊥
value_is_even o d (Int t) (int z) p l h = h
value_is_even o d (Int t) null p l h = h
value_is_even o d (Int t) (pointer b q) p l h = h
value_is_even o d Pointer (int z) p l h = h
value_is_even o d Pointer null p l h = h
value_is_even o d Pointer (pointer b q) p l h = no_room (pointer_bytes d) p l h

odd_number : (d : Model) (x : Byte) → IsOdd d x → is_number x ≡ false
odd_number d undefined h = refl
odd_number d (byte_number v) h = absurd h
odd_number d (fragment b o k) h = refl

odd_zero : (d : Model) (x : Byte) → IsOdd d x → number_in x ≡ 0
odd_zero d undefined h = refl
odd_zero d (byte_number v) h = absurd h
odd_zero d (fragment b o k) h = refl

like_undefined : (d : Model) (x y : Byte) → IsLike d x y → x ≡ undefined → y ≡ undefined
like_undefined d x y h e =
    ⊎_elim (λ s. sym s ∙ e) (λ (o : IsOdd d x × IsOdd d y). absurd (subst (IsOdd d) e o.0)) h

like_value : (o : Order) (d : Model) (w : Scalar) (v : Datum) (p : ℕ) (x y : Byte) → p < size_of d w → IsLike d x y
    → x ≡ bytes_of_value o w v p → y ≡ bytes_of_value o w v p
like_value o d w v p x y l h e =
    ⊎_elim (λ s. sym s ∙ e)
    (λ (z : IsOdd d x × IsOdd d y). absurd (value_is_even o d w v p l (subst (IsOdd d) e z.0))) h

like_not : (d : Model) (x y : Byte) → IsLike d x y → is_number x ≡ false → is_number y ≡ false
like_not d x y h e =
    ⊎_elim (λ s. subst (λ z. is_number z ≡ false) s e) (λ (o : IsOdd d x × IsOdd d y). odd_number d y o.1) h

like_number : (d : Model) (x y : Byte) → IsLike d x y → number_in y ≡ number_in x
like_number d x y h =
    ⊎_elim (λ s. ap number_in (sym s))
    (λ (o : IsOdd d x × IsOdd d y). odd_zero d y o.1 ∙ sym (odd_zero d x o.0)) h

like_either : (o : Order) (d : Model) (w : Scalar) (v : Datum) (p : ℕ) (x y : Byte) → p < size_of d w → IsLike d x y
    → (x ≡ bytes_of_value o w v p) ⊎ (is_number x ≡ false) → (y ≡ bytes_of_value o w v p) ⊎ (is_number y ≡ false)
like_either o d w v p x y l h e =
    ⊎_elim (λ s. inl (like_value o d w v p x y l h s)) (λ s. inr (like_not d x y h s)) e

bytes_like : (o : Order) (d : Model) (m n : Memory) (w : Scalar) (maybe : Bool) (b q : ℕ) (x : Option Datum)
    → IsAlike d m n → HasBytes o m (size_of d w) w maybe b q x → HasBytes o n (size_of d w) w maybe b q x
bytes_like o d m n w maybe b q None e h = λ p l. like_undefined d (m b (q + p)) (n b (q + p)) (e b (q + p)) (h p l)
bytes_like o d m n w false b q (Some v) e h =
    λ p l. like_value o d w v p (m b (q + p)) (n b (q + p)) l (e b (q + p)) (h p l)
bytes_like o d m n (Int t) true b q (Some v) e h =
    λ p l. like_either o d (Int t) v p (m b (q + p)) (n b (q + p)) l (e b (q + p)) (h p l)
bytes_like o d m n Pointer true b q (Some v) e h =
    ⊎_elim
    (λ (s : Has o m Pointer b q (size_of d Pointer) v). inl
    (λ p l. like_value o d Pointer v p (m b (q + p)) (n b (q + p)) l (e b (q + p)) (s p l)))
    (λ (s : IsUndefined m b q (size_of d Pointer)). inr
    (λ p l. like_undefined d (m b (q + p)) (n b (q + p)) (e b (q + p)) (s p l))) h

-- ---- numbers of names

at_like : (o : Order) (d : Model) (m n : Memory) (c : CellName) → IsAlike d m n → number_at o n c ≡ number_at o m c
at_like o d m n c e =
    decoded_same o c.t (λ p. number_in (n c.block (c.offset + p))) (λ p. number_in (m c.block (c.offset + p)))
    (λ p l. like_number d (m c.block (c.offset + p)) (n c.block (c.offset + p)) (e c.block (c.offset + p)))

on_like : (s : CellSide) (os : Order × Order) (d : Model) (m n : Memories) (c : CellName) → AreAlike d m n
    → number_on s os n c ≡ number_on s os m c
on_like cell_side.Left os d m n c e = at_like os.0 d m.left n.left c e.left
on_like cell_side.Right os d m n c e = at_like os.1 d m.right n.right c e.right
on_like cell_side.Shared os d m n c e = at_like os.0 d m.left n.left c e.left

form_number : (os : Order × Order) (d : Model) (m n : Memories) (ss : List Segment) → AreAlike d m n
    → number (numbers_of os n) ss ≡ number (numbers_of os m) ss
form_number os d m n ss e =
    number_same (numbers_of os n) (numbers_of os m) ss (λ c. on_like c.side os d m n c e)

module _ {N : Type 0} (D : Ops N) where
  has_like : (os : Order × Order) (d : Model) (m n : Memories) (c : Cell N) (w : Scalar) (k : ℕ) → AreAlike d m n
      → HasNumber os m c w k → HasNumber os n c w k
  has_like os d m n c (Int t) k e h =
      ap (λ z. residue (2 ^ bits_of t) z) (on_like c.side os d m n (name_of c t) e) ∙ h
  has_like os d m n c Pointer k e h = absurd h

  form_like : (os : Order × Order) (d : Model) (m n : Memories) (c : Cell N) (o : Form) → AreAlike d m n
      → IfSome o (FormSays os m c) → IfSome o (FormSays os n c)
  form_like os d m n c None e h = tt
  form_like os d m n c (Some ss) e h =
      subst (HasNumber os n c c.what) (sym (form_number os d m n ss e))
      (has_like os d m n c c.what (number (numbers_of os m) ss) e h)

  says_like : (k : Known N) (m n : Memories) (c : Cell N) → AreAlike k.model m n → Says D k.orders k.model m c
      → Says D k.orders k.model n c
  says_like k m n c e h = record {
    datum = h.datum;
    allowed = h.allowed;
    stands = record {
      left = λ r. bytes_like k.orders.0 k.model m.left n.left c.what c.maybe c.block c.offset h.datum e.left
          (h.stands.left r);
      right = λ r. bytes_like k.orders.1 k.model m.right n.right c.what c.maybe c.block c.offset h.datum e.right
          (h.stands.right r);
    };
  }

  pub in_like : (k : Known N) (m n : Memories) → AreAlike k.model m n → In D k m → In D k n
  in_like k m n e h = record {
    cells = λ c i. says_like k m n c e (h.cells c i);
    forms = λ c i. form_like k.orders k.model m n c c.form e (h.forms c i);
  }

  held_like : (os : Order × Order) (d : Model) (m n : Memories) → AreAlike d m n → (w : Scalar) (x : Datum) (f : Form)
      → FormHas os m w x f → FormHas os n w x f
  held_like os d m n e w x None h = tt
  held_like os d m n e w x (Some ss) h = subst (IsNumberOf w x) (sym (form_number os d m n ss e)) h

  -- nothing is done
  pub stays_like : (bs : Blocks) (u : Underway N) (m n : Memories) → IsKnown D u.known m
      → AreAlike u.known.model m n → Goes D bs u u m n
  stays_like bs u m n i e = record {
    reform = λ f. f;
    item = refl;
    change = record {
      orders = refl;
      model = refl;
      after = record { cells = i.cells; holds = in_like u.known m n e i.holds };
      fits = λ w f h. h;
      numbers = λ w x f h s. held_like u.known.orders u.known.model m n e w x f s;
    };
    elsewhere = λ c off t. t;
  }
