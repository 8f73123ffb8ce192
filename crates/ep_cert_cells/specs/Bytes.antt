-- Cells as bytes: this project's format. Each number has its bytes lowest first.
use Rattle.std.specs.Prelude.{◌≡◌, ℕ, zero, suc, ◌/◌, ◌%◌, ◌^◌, ◌<◌, ℤ, pos, Bool, false, if◌then◌else◌}
use Rattle.std.specs.Prelude.{List, [], ◌∷◌, ◌++◌, length, Option, Some, None, IfSome}
use Rattle.std.specs.List.{flat_map}
use Rattle.std.specs.Int.{w128, cast_unsigned}
use Rattle.ep_bitslice.specs.declared.cell.CellName.{CellName}
use Rattle.ep_bitslice.specs.declared.segment.Segment.{Segment}
use Rattle.ep_bitslice.specs.declared.segment.Segment.TheVariants.{Bits, Fixed}
use Rattle.ep_bitslice.specs.Bits.{side_number, type_number}
use Rattle.ep_bitslice.specs.Segments.{IsForm}
use Rattle.ep_pointers.specs.Value.{Pointers, Target, IsRising}
use Rattle.ep_cells.specs.declared.cell.Cell.{Cell}
use Rattle.ep_cells.specs.declared.cell.Value.{Value}
use Rattle.ep_cells.specs.declared.cell.Value.TheVariants.{Num, Ptr}
use Rattle.ep_cells.specs.Cells.{scalar_number}
use Rattle.ep_cert_cells.specs.Numbers.{Numbers}

-- ---- numbers

-- so many bytes of a number
unfoldable pub low : ℕ → ℕ → List ℕ
low zero n = []
low (suc w) n = n % 256 ∷ low w (n / 256)

-- 16 bytes, in two's complement
abbrev pub signed : ℤ → List ℕ
signed z = low 16 (cast_unsigned w128 z)

abbrev pub flag : Bool → ℕ
flag b = if b then 1 else 0

-- the ends of the interval, then remainder and modulus
unfoldable pub number_bytes : Numbers → List ℕ
number_bytes n = signed n.left.lo ++ (signed n.left.hi ++ (signed n.right.remainder ++ signed (pos n.right.modulus)))

-- ---- pointers

-- the block, and the offsets there
unfoldable pub target_bytes : Target Numbers → List ℕ
target_bytes t = low 4 t.0 ++ number_bytes t.1

unfoldable pub pointer_bytes : Pointers Numbers → List ℕ
pointer_bytes p = flag p.null ∷ (low 4 (length p.targets) ++ flat_map target_bytes p.targets)

-- ---- cells

-- a cell without value, with a number, with a pointer
abbrev pub value_bytes : Option (Value Numbers) → List ℕ
value_bytes None = 0 ∷ []
value_bytes (Some (Num n)) = 1 ∷ number_bytes n
value_bytes (Some (Ptr p)) = 2 ∷ pointer_bytes p

unfoldable pub name_bytes : CellName → List ℕ
name_bytes c = side_number c.side ∷ (low 4 c.block ++ (low 4 c.offset ++ type_number c.t ∷ []))

abbrev pub segment_bytes : Segment → List ℕ
segment_bytes (Bits c from to) = 0 ∷ (name_bytes c ++ from ∷ to ∷ [])
segment_bytes (Fixed v w) = 1 ∷ (low 8 v ++ w ∷ [])

-- a cell without form has no segments
abbrev pub form_bytes : Option (List Segment) → List ℕ
form_bytes None = 0 ∷ []
form_bytes (Some ss) = length ss ∷ flat_map segment_bytes ss

unfoldable pub cell_bytes : Cell Numbers → List ℕ
cell_bytes c =
    side_number c.side ∷ (low 4 c.block ++ (low 4 c.offset ++ scalar_number c.what ∷ flag c.maybe
    ∷ (value_bytes c.value ++ form_bytes c.form)))

-- ---- what has bytes

-- each of them
abbrev pub Every : {X : Type 0} → (X → Type 0) → List X → Type 0
Every P [] = Unit {0}
Every P (x ∷ xs) = P x × Every P xs

-- four bytes have room for it
abbrev pub HasRoom : ℕ → Type 0
HasRoom n = n < 2 ^ 32

abbrev pub IsTarget : Target Numbers → Type 0
IsTarget t = HasRoom t.0

-- the blocks of a pointer rise, and it may be something
pub record IsPointer (p : Pointers Numbers) : Type 0 where
  pub count : HasRoom (length p.targets)
  pub blocks : Every IsTarget p.targets
  pub rising : IsRising p.targets
  pub some : p.null ≡ false → p.targets ≡ [] → ⊥

abbrev pub IsValue : Option (Value Numbers) → Type 0
IsValue None = Unit {0}
IsValue (Some (Num n)) = Unit {0}
IsValue (Some (Ptr p)) = IsPointer p

pub record IsName (c : CellName) : Type 0 where
  pub block : HasRoom c.block
  pub offset : HasRoom c.offset

abbrev pub HasName : Segment → Type 0
HasName (Bits c from to) = IsName c
HasName (Fixed v w) = Unit {0}

-- a form is in normal form, and has bits
pub record HasForm (ss : List Segment) : Type 0 where
  pub form : IsForm ss
  pub names : Every HasName ss
  pub some : ss ≡ [] → ⊥

pub record HasBytes (c : Cell Numbers) : Type 0 where
  pub block : HasRoom c.block
  pub offset : HasRoom c.offset
  pub value : IsValue c.value
  pub form : IfSome c.form HasForm
