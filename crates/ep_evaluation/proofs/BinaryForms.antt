-- Arithmetic, with its forms.
use Rattle.std.proofs.Common.{◌≡◌, ℤ, false, List, Option, Some, None, IfSome, refl, sym, subst}
use Rattle.ep_int.specs.declared.types.Order.{Order}
use Rattle.ep_int.specs.declared.types.BinOp.{BinOp}
use Rattle.ep_int.specs.declared.types.BinOp.TheVariants.{Shl, Shr}
use Rattle.ep_int.specs.declared.types.IntType.{IntType}
use Rattle.ep_int.specs.declared.types.Scalar.TheVariants.{Int}
use Rattle.ep_int.specs.Memory.{int}
use Rattle.ep_bitslice.specs.declared.segment.Segment.{Segment}
use Rattle.ep_domain.specs.Domain.{Ops, Lawful}
use Rattle.ep_cells.specs.declared.cell.Value.TheVariants.{Num}
use Rattle.ep_core.specs.Program.{Program}
use Rattle.ep_core.specs.Runs.{Side}
use Rattle.ep_equalities.specs.declared.pair.SideValue.{SideValue}
use Rattle.ep_equalities.specs.Pairs.{HasFormNumber}
use Rattle.ep_reads.specs.Laws.{IsFormRead}
use Rattle.ep_evaluation.specs.Operators.{Form, form_by}
use Rattle.ep_evaluation.specs.Evaluation.{number, outcome, form_if, form_of_numbers, binary_side}
use Rattle.ep_evaluation.proofs.Arithmetic.{BinaryForms}
use Rattle.ep_evaluation.proofs.Forms.{both_fit, both_say, shl_fits, shl_says, shr_fits, shr_says}

module _ {N : Type 0} (D : Ops N) (law : Lawful D) (p : Program) (ord : Side → Order) where
  if_form : (P : List Segment → Type 0) (a : Option N) (f : Form) → IfSome f P → IfSome (form_if D a f) P
  if_form P None f h = tt
  if_form P (Some n) f h = h

  numbers_fit : (P : List Segment → Type 0) (o : BinOp) (t : IntType) (f g : Form) (a b : Option N)
      → ((r s : ℤ × ℤ) → IfSome (form_by o t f r g s) P) → IfSome (form_of_numbers D o t f a g b) P
  numbers_fit P o t f g None b h = tt
  numbers_fit P o t f g (Some a) None h = tt
  numbers_fit P o t f g (Some a) (Some b) h = h (D.range a) (D.range b)

  form_fits : (P : List Segment → Type 0) (o : BinOp) (t : IntType) (x y : SideValue N)
      → ((r s : ℤ × ℤ) → IfSome (form_by o t x.form r y.form s) P) → IfSome (binary_side D o t x y).form P
  form_fits P o t x y h =
      if_form P (outcome D o t x y).value (form_of_numbers D o t x.form (number D x) y.form (number D y))
      (numbers_fit P o t x.form y.form (number D x) (number D y) h)

  numbers_are : (o : BinOp) (t : IntType) (x y : SideValue N) (a b : N) → x.value ≡ Some (Num a)
      → y.value ≡ Some (Num b)
      → form_of_numbers D o t x.form (number D x) y.form (number D y) ≡ form_by o t x.form (D.range a) y.form
      (D.range b)
  numbers_are o t x y a b e f = rw (e, f) refl

  form_says : (P : List Segment → Type 0) (o : BinOp) (t : IntType) (x y : SideValue N) (a b : N)
      → x.value ≡ Some (Num a)
      → y.value ≡ Some (Num b) → IfSome (form_by o t x.form (D.range a) y.form (D.range b)) P
      → IfSome (binary_side D o t x y).form P
  form_says P o t x y a b e f h =
      if_form P (outcome D o t x y).value (form_of_numbers D o t x.form (number D x) y.form (number D y))
      (subst (λ g. IfSome g P) (sym (numbers_are o t x y a b e f)) h)

  -- of two operands of the type
  pub both_forms : (o : BinOp) (t : IntType) → BinaryForms D law p ord o t t
  both_forms o t = record {
    says = λ n k x y u v z fx fy h g i j e.
        form_says (HasFormNumber n (Int t) (int z)) o t x y i.number j.number i.is j.is
        (both_say k.cells t o n x.form y.form (D.range i.number) (D.range j.number) u v z fx.form fy.form h.form g.form
        (law.range_encloses i.number u i.holds) (law.range_encloses j.number v j.holds) i.range j.range e);
    fits = λ k x y fx fy.
        form_fits (IsFormRead k.cells (Int t) false) o t x y
        (λ r s. both_fit k.cells t o x.form y.form r s fx.form fy.form);
  }

  -- shifts, whose amount is of any type
  pub left_forms : (t r : IntType) → BinaryForms D law p ord Shl t r
  left_forms t r = record {
    says = λ n k x y u v z fx fy h g i j e.
        form_says (HasFormNumber n (Int t) (int z)) Shl t x y i.number j.number i.is j.is
        (shl_says k.cells t n x.form y.form (D.range i.number) (D.range j.number) u v z fx.form h.form
        (law.range_encloses j.number v j.holds) e);
    fits = λ k x y fx fy.
        form_fits (IsFormRead k.cells (Int t) false) Shl t x y (λ r s. shl_fits k.cells t x.form y.form r s fx.form);
  }

  pub right_forms : (t r : IntType) → BinaryForms D law p ord Shr t r
  right_forms t r = record {
    says = λ n k x y u v z fx fy h g i j e.
        form_says (HasFormNumber n (Int t) (int z)) Shr t x y i.number j.number i.is j.is
        (shr_says k.cells t n x.form y.form (D.range i.number) (D.range j.number) u v z fx.form h.form
        (law.range_encloses i.number u i.holds) (law.range_encloses j.number v j.holds) i.range e);
    fits = λ k x y fx fy.
        form_fits (IsFormRead k.cells (Int t) false) Shr t x y (λ r s. shr_fits k.cells t x.form y.form r s fx.form);
  }
