-- The cell that the input gets.
use Rattle.std.proofs.Common.{◌≡◌, ℕ, ◌+◌, ◌^◌, ◌<◌, ◌≤◌, Bool, true, false, cond, nat_eq}
use Rattle.std.proofs.Common.{[], ◌∷◌, Option, Some, None, refl, ap}
use Rattle.std.proofs.Common.{◌∙◌, arith}
use Rattle.std.proofs.lemmas.Bool.{eqb-true}
use Rattle.ep_int.specs.declared.types.IntType.TheVariants.{U8}
use Rattle.ep_int.specs.declared.types.Scalar.TheVariants.{Int}
use Rattle.ep_int.specs.Types.{bits_of}
use Rattle.ep_int.proofs.Basics.{nat_eq-self}
use Rattle.ep_bitslice.specs.declared.cell.CellName.{CellName}
use Rattle.ep_bitslice.specs.declared.cell.Side.TheVariants.{Shared}
use Rattle.ep_bitslice.specs.declared.segment.Segment.TheVariants.{Bits}
use Rattle.ep_domain.specs.Domain.{Ops}
use Rattle.ep_cells.specs.declared.cell.Cell.{Cell}
use Rattle.ep_cells.specs.declared.cell.Value.{Value}
use Rattle.ep_cells.specs.declared.cell.Value.TheVariants.{Num}
use Rattle.ep_cells.specs.Cells.{place_of}
use Rattle.ep_cells.specs.States.{Known}
use Rattle.ep_reads.specs.Bytes.{own_form, form_or, form_of_cell}
use Rattle.ep_cell_ranges.specs.Sound.{AreNew}
use Rattle.ep_equalities.specs.declared.pair.Mode.TheVariants.{Both}
use Rattle.ep_equalities.specs.declared.pair.PairValue.{PairValue}
use Rattle.ep_transfers.specs.Transfers.{input_pair}
use Rattle.ep_transfers.specs.Writes.{lacks, form_unless, value_of_same}
use Rattle.ep_mover_bits.specs.Laws.{Inputs}
use Rattle.ep_mover_stores.specs.Laws.{with_input}
use Rattle.ep_mover_stores.proofs.Cells.{not_lacking, stored_cell, are_new}
use Rattle.ep_mover_stores.proofs.Stores.{same_value}

-- ---- the cells of inputs

module _ (base : Inputs) (count : ℕ) (name : CellName) where
  pub old_same : (i : ℕ) → i < count → with_input base count name i ≡ base i
  old_same i l = by (nat_eq i count) refl
    where
      by : (t : Bool) → nat_eq i count ≡ t → cond t name (base i) ≡ base i
      by false e = refl
      by true e = absurd (let f = eqb-true i count e in let z : ⊥ = omega (arith, f, l) in z)

  pub new_is : with_input base count name count ≡ name
  new_is = ap (λ t. cond t name (base count)) (nat_eq-self count)

-- ---- the new cell

module _ {N : Type 0} (D : Ops N) (k : Known N) (b q : ℕ) where
  abbrev pub name : CellName
  name = record { side = Shared; block = b; offset = q; t = U8 }

  abbrev pub v : PairValue N
  v = input_pair D Both U8 (Int U8)

  abbrev pub value : Option (Value N)
  value = value_of_same D v.left.value v.right.value

  abbrev pub input_cell : Cell N
  input_cell = stored_cell k Shared (b, q) U8 value None

  number : (n : N) × (value ≡ Some (Num n))
  number = same_value D v.left.value v.right.value (D.convert (D.top U8) U8) (D.convert (D.top U8) U8) refl refl

  pub formless : input_cell.form ≡ None
  formless = by (lacks false value)
    where
      by : (t : Bool) → form_unless t None ≡ None
      by true = refl
      by false = refl

  pub sure : input_cell.maybe ≡ false
  sure = not_lacking value number.0 number.1

  pub own : form_of_cell input_cell ≡ Some (Bits name 0 (bits_of U8) ∷ [])
  own =
      ap (λ t. cond t None (form_or input_cell.form (own_form input_cell (Int U8)))) sure
      ∙ ap (λ f. form_or f (own_form input_cell (Int U8))) formless

  pub new : q + 1 ≤ 2 ^ 32 → AreNew k.model (place_of k.model input_cell) k.cells (input_cell ∷ [])
  new last = are_new k Shared (b, q) U8 value None number.0 number.1 tt last
