-- The statements that read and write a bit-field are well formed (the typing rules are those of core programs).
use Rattle.std.specs.Prelude.{◌≡◌, ℕ, Bool, true, List, Option}
use Rattle.ep_int.specs.declared.types.IntType.{IntType}
use Rattle.ep_int.specs.declared.types.Scalar.TheVariants.{Int}
use Rattle.ep_core.specs.Program.{Place, Expr, Dest, Program}
use Rattle.ep_core.specs.WellFormed.{has_scalar, has_sort, int_type_of, is_int, place_has, some_type, what_fits}
use Rattle.ep_bitfield.specs.declared.field.Field.{Field}
use Rattle.ep_bitfield.specs.Bits.{is_field}
use Rattle.ep_bitfield.specs.Accesses.{reading, writing}

-- in a program, where these blocks can be named
module _ (p : Program) (seen : List ℕ) where
  -- a place of an integer type
  abbrev pub is_place_of : IntType → Place → Bool
  is_place_of t a = some_type p.types p.blocks seen (λ u. has_scalar u (Int t)) (place_has p.types p.blocks seen a)

  -- an expression that is a number
  abbrev pub is_number : Expr → Bool
  is_number e = is_int (int_type_of e) (has_sort p.types p.blocks seen e)

-- from a unit of the field's type, to a place of any integer type
abbrev pub ReadingsFit : Type 0
ReadingsFit =
    (p : Program) (here : ℕ) (result : Option ℕ) (seen : List ℕ) (in_loop : Bool) (l : ℕ) (unit : Place) (f : Field)
    (to : Dest) (t : IntType) → is_field f ≡ true → is_place_of p seen f.t unit ≡ true → to.what ≡ Int t
    → is_place_of p seen t to.place ≡ true → what_fits p here result (reading l unit f to) seen in_loop ≡ true

-- to a unit of the field's type, from a number of any integer type
abbrev pub WritingsFit : Type 0
WritingsFit =
    (p : Program) (here : ℕ) (result : Option ℕ) (seen : List ℕ) (in_loop : Bool) (l : ℕ) (unit : Place) (f : Field)
    (new : Expr) → is_field f ≡ true → is_place_of p seen f.t unit ≡ true → is_number p seen new ≡ true
    → what_fits p here result (writing l unit f new) seen in_loop ≡ true
