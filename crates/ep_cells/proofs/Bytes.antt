-- The bytes of cells, and the numbers that they are.
use Rattle.std.proofs.Common.{◌≡◌, ℕ, ◌+◌, ◌<◌, ℤ, Bool, true, false, inl, inr, ⊎_elim, Option, Some, None, refl, ◌∙◌}
use Rattle.std.proofs.Common.{ap, subst}
use Rattle.ep_int.specs.declared.types.Order.{Order}
use Rattle.ep_int.specs.declared.types.Model.{Model}
use Rattle.ep_int.specs.declared.types.IntType.{IntType}
use Rattle.ep_int.specs.declared.types.Scalar.{Scalar}
use Rattle.ep_int.specs.declared.types.Scalar.TheVariants.{Int, Pointer}
use Rattle.ep_int.specs.Types.{bytes_of, size_of, InRange}
use Rattle.ep_int.specs.Encoding.{encoded, decoded}
use Rattle.ep_int.specs.Memory.{Memory, Value as Datum, int, null, pointer, number_in, is_number}
use Rattle.ep_int.proofs.Encodings.{decoded_same, decoded_encoded}
use Rattle.ep_bitslice.specs.declared.cell.Side.{Side}
use Rattle.ep_bitslice.specs.declared.cell.Side.TheVariants.{Left, Right, Shared}
use Rattle.ep_domain.specs.Domain.{Ops}
use Rattle.ep_cells.specs.declared.cell.Cell.{Cell}
use Rattle.ep_cells.specs.declared.cell.Value.{Value}
use Rattle.ep_cells.specs.declared.cell.Value.TheVariants.{Num, Ptr}
use Rattle.ep_cells.specs.Cells.{on_left, on_right}
use Rattle.ep_cells.specs.States.{IsOfSort}
use Rattle.ep_cells.specs.Meaning.{Memories, Allows, Has, HasBytes, StandsAt, number_on, numbers_of, name_of}

-- two memories have the same bytes at a place
pub record SameBytes (m n : Memory) (b q size : ℕ) : Type 0 where
  pub same : (p : ℕ) → p < size → n b (q + p) ≡ m b (q + p)

pub bytes_same : (o : Order) (m n : Memory) (size : ℕ) (w : Scalar) (maybe : Bool) (b q : ℕ) (v : Option Datum)
    → SameBytes m n b q size → HasBytes o m size w maybe b q v → HasBytes o n size w maybe b q v
bytes_same o m n size w maybe b q None e h = λ p l. e.same p l ∙ h p l
bytes_same o m n size (Int t) false b q (Some v) e h = λ p l. e.same p l ∙ h p l
bytes_same o m n size Pointer false b q (Some v) e h = λ p l. e.same p l ∙ h p l
bytes_same o m n size (Int t) true b q (Some v) e h = λ p l.
    ⊎_elim (λ k. inl (e.same p l ∙ k)) (λ k. inr (ap is_number (e.same p l) ∙ k)) (h p l)
bytes_same o m n size Pointer true b q (Some v) e h =
    ⊎_elim (λ k. inl (λ p l. e.same p l ∙ k p l)) (λ k. inr (λ p l. e.same p l ∙ k p l)) h

-- ---- numbers

pub number_stands : (o : Order) (m : Memory) (t : IntType) (b q : ℕ) (z : ℤ) → InRange t z
    → Has o m (Int t) b q (bytes_of t) (int z)
    → decoded o t (λ p. number_in (m b (q + p))) ≡ z
number_stands o m t b q z r h =
    decoded_same o t (λ p. number_in (m b (q + p))) (encoded o t z) (λ p l. ap number_in (h p l)) ∙ decoded_encoded o
    t z r

-- a sure integer cell has a number of its type
pub record IsNumber (t : IntType) (v : Option Datum) : Type 0 where
  pub number : ℤ
  pub is : v ≡ Some (int number)
  pub in_range : InRange t number

pub sure_number : {N : Type 0} (D : Ops N) (t : IntType) (u : Option (Value N)) (v : Option Datum)
    → IsOfSort (Int t) u
    → (u ≡ None → false ≡ true) → Allows D (Int t) u false v → IsNumber t v
sure_number D t None v s h a = absurd (let e : false ≡ true = h refl in cc)
sure_number D t (Some (Ptr p)) v s h a = absurd s
sure_number D t (Some (Num n)) None s h a = absurd (let e : false ≡ true = a in cc)
sure_number D t (Some (Num n)) (Some (int z)) s h a = record { number = z; is = refl; in_range = a.0 }
sure_number D t (Some (Num n)) (Some null) s h a = absurd a
sure_number D t (Some (Num n)) (Some (pointer c q)) s h a = absurd a

-- an integer cell's number
stands_on : (os : Order × Order) (m : Memories) (s : Side) (t : IntType) (b q : ℕ) (z : ℤ) → InRange t z
    → (on_left s ≡ true → HasBytes os.0 m.left (bytes_of t) (Int t) false b q (Some (int z)))
    → (on_right s ≡ true → HasBytes os.1 m.right (bytes_of t) (Int t) false b q (Some (int z)))
    → number_on s os m (record { side = s; block = b; offset = q; t = t }) ≡ z
stands_on os m Left t b q z r l h = number_stands os.0 m.left t b q z r (l refl)
stands_on os m Right t b q z r l h = number_stands os.1 m.right t b q z r (h refl)
stands_on os m Shared t b q z r l h = number_stands os.0 m.left t b q z r (l refl)

pub number_of_cell : {N : Type 0} (os : Order × Order) (d : Model) (m : Memories) (c : Cell N) (t : IntType) (z : ℤ)
    → c.what ≡ Int t → c.maybe ≡ false → InRange t z → StandsAt os d m c (Some (int z)) → numbers_of os m (name_of c
    t) ≡ z
number_of_cell os d m c t z w s r h =
    stands_on os m c.side t c.block c.offset z r
    (λ e. by os.0 m.left (h.left e)) (λ e. by os.1 m.right (h.right e))
  where
    by : (o : Order) (n : Memory) → HasBytes o n (size_of d c.what) c.what c.maybe c.block c.offset (Some (int z))
        → HasBytes o n (bytes_of t) (Int t) false c.block c.offset (Some (int z))
    by o n k =
        subst (λ x. HasBytes o n (bytes_of t) (Int t) x c.block c.offset (Some (int z))) s
        (subst (λ x. HasBytes o n (size_of d x) x c.maybe c.block c.offset (Some (int z))) w k)
