-- Where places of a tame program lie in their blocks: at equal steps, which is a row.
use Rattle.std.specs.Prelude.{◌≡◌, ℕ, ◌+◌, ◌-◌, ◌*◌, ◌≤◌, ◌<◌, ◌⊎◌, true, Some}
use Rattle.ep_layout.specs.Table.{Table, size, elements_of, aggregate_of, has_member_at}
use Rattle.ep_core.specs.Program.{Place, block, deref, member, element, Expr}

-- a member of this type at this offset of the aggregate that a type is
abbrev pub IsMember : Table → (aggregate offset ty : ℕ) → Type 0
IsMember t g q ty = (a : ℕ) × (aggregate_of t g ≡ Some a) × (has_member_at t a q ty ≡ true)

-- an object of type `ty` lies at this offset of one of type `whole`, as a member or an element (C11 6.2.5)
pub data HasScalar (t : Table) (whole : ℕ) : (offset ty : ℕ) → Type 0 where
  here : HasScalar t whole 0 whole
  in_member : (o g q ty : ℕ) → HasScalar t whole o g → IsMember t g q ty → HasScalar t whole (o + q) ty
  in_element : (o a e n i u : ℕ) → HasScalar t whole o a → elements_of t a ≡ Some (e, n) → i < n → size t e ≡ Some u
      → HasScalar t whole (o + u * i) e

-- The type itself, or one of the elements of arrays in it, with its size, and how many there are beside the first.
pub data IsInChain (t : Table) (whole : ℕ) : (ty step most : ℕ) → Type 0 where
  itself : (s : ℕ) → IsInChain t whole whole s 0
  of_elements : (a e n u m : ℕ) → IsInChain t whole a (u * n) m → elements_of t a ≡ Some (e, n) → size t e ≡ Some u
      → 0 < n → IsInChain t whole e u (n * m + (n - 1))

-- places for objects of a type: the first, and those after it at equal steps, so many
pub record Row : Type 0 where
  pub ty : ℕ
  pub first : ℕ
  pub step : ℕ
  pub most : ℕ

abbrev pub row : (ty first step most : ℕ) → Row
row ty f s m = record { ty = ty; first = f; step = s; most = m }

-- On which row a place lies in block b, which has type `whole` and so many bytes, by the text alone. An element of an
-- array is on a row where the array is alone, or is the step of its row.
pub data IsRow (t : Table) (b whole bytes : ℕ) : Place → Row → Type 0 where
  of_block : IsRow t b whole bytes (block b) (row whole 0 bytes 0)
  of_target : (e : Expr) (ty n m : ℕ) → IsInChain t whole ty n m → IsRow t b whole bytes (deref e) (row ty 0 n m)
  of_member : (a : Place) (r : Row) (q ty : ℕ) → IsRow t b whole bytes a r → IsMember t r.ty q ty
      → IsRow t b whole bytes (member a q) (row ty (r.first + q) r.step r.most)
  of_element : (a : Place) (r : Row) (e n u : ℕ) (i : Expr) → IsRow t b whole bytes a r
      → elements_of t r.ty ≡ Some (e, n) → size t e ≡ Some u → 0 < n → (r.most ≡ 0) ⊎ (r.step ≡ u * n)
      → IsRow t b whole bytes (element a n u i) (row e r.first u (n * r.most + (n - 1)))

-- at each place of the row such an object lies
abbrev pub AreLaid : Table → (whole : ℕ) → Row → Type 0
AreLaid t whole r = (k : ℕ) → k ≤ r.most → HasScalar t whole (r.first + r.step * k) r.ty
