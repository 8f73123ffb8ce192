-- Reads, splits and unifications of worked states, over any domain.
use Rattle.std.proofs.Common.{◌≡◌, ℕ, true, false, List, [], ◌∷◌, Option, Some, None, refl, pos}
use Rattle.ep_int.specs.declared.types.IntType.{IntType}
use Rattle.ep_int.specs.declared.types.IntType.TheVariants.{U8, U16, U32}
use Rattle.ep_int.specs.declared.types.Model.TheVariants.{Ilp32}
use Rattle.ep_int.specs.declared.types.Order.{Order}
use Rattle.ep_int.specs.declared.types.Order.TheVariants.{Little, Big, SwappedWords}
use Rattle.ep_int.specs.declared.types.Scalar.{Scalar}
use Rattle.ep_int.specs.declared.types.Scalar.TheVariants.{Int, Pointer}
use Rattle.ep_bitslice.specs.declared.cell.Side.{Side}
use Rattle.ep_bitslice.specs.declared.cell.Side.TheVariants.{Left, Right, Shared}
use Rattle.ep_bitslice.specs.declared.cell.CellName.{CellName}
use Rattle.ep_bitslice.specs.declared.segment.Segment.{Segment}
use Rattle.ep_bitslice.specs.declared.segment.Segment.TheVariants.{Bits, Fixed}
use Rattle.ep_domain.specs.Domain.{Ops}
use Rattle.ep_pointers.specs.Value.{null_alone, one_target}
use Rattle.ep_cells.specs.declared.cell.Cell.{Cell}
use Rattle.ep_cells.specs.declared.cell.Value.{Value}
use Rattle.ep_cells.specs.declared.cell.Value.TheVariants.{Num, Ptr}
use Rattle.ep_cells.specs.States.{Known}
use Rattle.ep_reads.specs.declared.read.ReadValue.{ReadValue}
use Rattle.ep_reads.specs.Read.{read}
use Rattle.ep_reads.specs.Split.{split}
use Rattle.ep_reads.specs.Unify.{unified}

abbrev known : {N : Type 0} → Order × Order → List (Cell N) → Known N
known os cs = record { orders = os; model = Ilp32; cells = cs }

abbrev cell : {N : Type 0} → Side → (offset : ℕ) → Scalar → Option (Value N) → Option (List Segment) → Cell N
cell s q w v f = record { side = s; block = 0; offset = q; what = w; value = v; maybe = false; form = f }

abbrev name : Side → (offset : ℕ) → IntType → CellName
name s q t = record { side = s; block = 0; offset = q; t = t }

-- ---- reads

-- the low byte of a Shared short on the left, and its high byte on the right
low_byte : {N : Type 0} (D : Ops N) (a : N)
    → (read D (known (Little, Big) (cell Shared 0 (Int U16) (Some (Num a)) None ∷ [])) Left 0 0 (Int U8)).form
    ≡ Some (Bits (name Shared 0 U16) 0 8 ∷ [])
low_byte D a = refl

high_byte : {N : Type 0} (D : Ops N) (a : N)
    → (read D (known (Little, Big) (cell Shared 0 (Int U16) (Some (Num a)) None ∷ [])) Right 0 0 (Int U8)).form
    ≡ Some (Bits (name Shared 0 U16) 8 16 ∷ [])
high_byte D a = refl

-- two shorts as a word: the first is the low half in little order, and the high half where words are swapped
low_half : {N : Type 0} (D : Ops N) (a b : N)
    → (read D (known (Little, SwappedWords) (cell Shared 0 (Int U16) (Some (Num a)) None
    ∷ cell Shared 2 (Int U16) (Some (Num b)) None ∷ [])) Left 0 0 (Int U32)).form
    ≡ Some (Bits (name Shared 0 U16) 0 16 ∷ Bits (name Shared 2 U16) 0 16 ∷ [])
low_half D a b = refl

high_half : {N : Type 0} (D : Ops N) (a b : N)
    → (read D (known (Little, SwappedWords) (cell Shared 0 (Int U16) (Some (Num a)) None
    ∷ cell Shared 2 (Int U16) (Some (Num b)) None ∷ [])) Right 0 0 (Int U32)).form
    ≡ Some (Bits (name Shared 2 U16) 0 16 ∷ Bits (name Shared 0 U16) 0 16 ∷ [])
high_half D a b = refl

-- a short across a byte and a gap may be anything there
abbrev gap : {N : Type 0} → Ops N → N → ReadValue N
gap D a = read D (known (Little, Big) (cell Left 0 (Int U8) (Some (Num a)) None ∷ [])) Left 0 0 (Int U16)

gap_maybe : {N : Type 0} (D : Ops N) (a : N) → (gap D a).maybe ≡ true
gap_maybe D a = refl

gap_mixed : {N : Type 0} (D : Ops N) (a : N) → (gap D a).mixed ≡ true
gap_mixed D a = refl

gap_form : {N : Type 0} (D : Ops N) (a : N) → (gap D a).form ≡ None
gap_form D a = refl

-- a pointer isn't read as a number, but null is
pointer_as_number : {N : Type 0} (D : Ops N) (a : N)
    → read D (known (Little, Big) (cell Shared 0 Pointer (Some (Ptr (one_target 1 a))) None ∷ [])) Left 0 0 (Int U32)
    ≡ record { value = None; maybe = false; mixed = true; form = None }
pointer_as_number D a = refl

null_as_number : {N : Type 0} (D : Ops N)
    → (read D (known (Little, Big) (cell Shared 0 Pointer (Some (Ptr null_alone)) None ∷ [])) Left 0 0 (Int U32)).form
    ≡ Some (Fixed 0 32 ∷ [])
null_as_number D = refl

-- ---- splits

abbrev zero_byte : {N : Type 0} → Ops N → Side → (offset : ℕ) → Cell N
zero_byte D s q = cell s q (Int U8) (Some (Num (D.single (pos 0)))) None

-- a Shared null pointer of which one byte is wanted on the left
split_null : {N : Type 0} (D : Ops N)
    → split D (known (Little, Big) (cell Shared 0 Pointer (Some (Ptr null_alone)) None ∷ []))
    (record { side = Left; block = 0; offset = 0; bytes = 1 })
    ≡ (zero_byte D Left 0 ∷ cell Right 0 Pointer (Some (Ptr null_alone)) None ∷ zero_byte D Left 1
    ∷ zero_byte D Left 2 ∷ zero_byte D Left 3 ∷ [])
split_null D = refl

-- a cell inside the place stays
split_inside : {N : Type 0} (D : Ops N) (a : N)
    → split D (known (Little, Big) (cell Left 0 (Int U16) (Some (Num a)) None ∷ []))
    (record { side = Left; block = 0; offset = 0; bytes = 4 })
    ≡ (cell Left 0 (Int U16) (Some (Num a)) None ∷ [])
split_inside D a = refl

-- ---- unification

-- a Shared cell that faces a Left and a Right one is parted
unified_sides : {N : Type 0} (D : Ops N) (a : N)
    → (unified D (known (Little, Big) (cell Shared 0 Pointer (Some (Ptr (one_target 1 a))) None ∷ []))
    (known (Little, Big) (cell Left 0 Pointer (Some (Ptr null_alone)) None
    ∷ cell Right 0 Pointer (Some (Ptr null_alone)) None ∷ []))).0
    ≡ (cell Left 0 Pointer (Some (Ptr (one_target 1 a))) None ∷ cell Right 0 Pointer (Some (Ptr (one_target 1 a))) None
    ∷ [])
unified_sides D a = refl

-- a pointer that bytes cross is gone, and so are the bytes then
unified_bytes : {N : Type 0} (D : Ops N) (a b : N)
    → unified D (known (Little, Big) (cell Shared 0 Pointer (Some (Ptr (one_target 1 a))) None ∷ []))
    (known (Little, Big) (cell Shared 0 (Int U8) (Some (Num b)) None ∷ []))
    ≡ ([], [])
unified_bytes D a b = refl

-- a cell that one state lacks is gone, with what mentions it
unified_lack : {N : Type 0} (D : Ops N) (a b : N)
    → unified D (known (Little, Big) (cell Shared 0 (Int U16) (Some (Num a)) None
    ∷ cell Shared 2 (Int U16) (Some (Num b)) (Some (Bits (name Shared 0 U16) 0 16 ∷ [])) ∷ []))
    (known (Little, Big) (cell Shared 2 (Int U16) (Some (Num b)) None ∷ []))
    ≡ (cell Shared 2 (Int U16) (Some (Num b)) None ∷ [], cell Shared 2 (Int U16) (Some (Num b)) None ∷ [])
unified_lack D a b = refl
