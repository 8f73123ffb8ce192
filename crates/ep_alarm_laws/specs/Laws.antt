-- Of which kinds the faults of operations on cells are (this project's rules).
use Rattle.std.specs.Prelude.{◌≡◌, ℕ, pos, Bool, true, IsTrue, IfSome}
use Rattle.ep_int.specs.declared.types.IntType.TheVariants.{I64}
use Rattle.ep_int.specs.declared.types.BinOp.TheVariants.{Mul}
use Rattle.ep_domain.specs.Domain.{Ops, IsSingle, IsStride}
use Rattle.ep_cells.specs.States.{Known}
use Rattle.ep_pass.specs.ReportLaws.{AreHonest}
use Rattle.ep_transfers.specs.Cells.{cell_ops}

-- In programs whose table of types was built by the rules, each is of a kind that the text may have, where numbers keep
-- strides, or don't.
abbrev pub CellsAreHonest : {N : Type 0} → Ops N → (strides : Bool) → Type 0
CellsAreHonest {N = N} D strides = AreHonest (Known N) (cell_ops D) strides

-- a product by 1 has the strides of the other factor
abbrev pub ProductsKeepStrides : {N : Type 0} → Ops N → Type 0
ProductsKeepStrides {N = N} D =
    (a b : N) (r s : ℕ) → IsStride r s → IsTrue (D.has_stride a r s) → IsSingle D b (pos 1)
    → IfSome (D.op Mul I64 a b).value (λ c. IsTrue (D.has_stride c r s))

-- Where numbers keep strides, an element by an index of an object that a declaration names may not be misaligned.
abbrev pub EvenCellsAreHonest : {N : Type 0} → Ops N → Type 0
EvenCellsAreHonest D = D.keeps_strides ≡ true → ProductsKeepStrides D → CellsAreHonest D true
