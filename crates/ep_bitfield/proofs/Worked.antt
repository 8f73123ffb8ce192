-- Worked rows: what the definitions say of bit-fields of a status register.
use Rattle.std.proofs.Common.{◌≡◌, pos, [], ◌∷◌, refl}
use Rattle.ep_int.specs.declared.types.IntType.TheVariants.{U8, U16, U32}
use Rattle.ep_int.specs.declared.types.Order.TheVariants.{Little, Big, SwappedWords}
use Rattle.ep_bitfield.specs.declared.field.Field.{Field}
use Rattle.ep_bitfield.specs.Bits.{number_in_field, unit_with}
use Rattle.ep_bitfield.specs.Units.{packed}

-- three bits, and the five bits behind them
abbrev first : Field
first = record { t = U8; used = 0; width = 3 }

abbrev second : Field
second = record { t = U8; used = 3; width = 5 }

stored_little : unit_with Little first (pos 0) (pos 5) ≡ 5
stored_little = refl

stored_big : unit_with Big first (pos 0) (pos 5) ≡ 160
stored_big = refl

stored_swapped : unit_with SwappedWords first (pos 0) (pos 5) ≡ 5
stored_swapped = refl

-- only the lowest bits of a value go into the field, and the other bits stay
cut_little : unit_with Little second (pos 7) (pos 33) ≡ 15
cut_little = refl

cut_big : unit_with Big second (pos 224) (pos 33) ≡ 225
cut_big = refl

read_little : number_in_field Little second (pos 143) ≡ 17
read_little = refl

read_big : number_in_field Big second (pos 241) ≡ 17
read_big = refl

-- a full unit, one bit of the next, another type, and an end
in_a_row : packed ((U8, 3) ∷ (U8, 5) ∷ (U8, 1) ∷ (U16, 9) ∷ (U16, 0) ∷ (U16, 3) ∷ (U32, 0) ∷ [])
    ≡ (0, first) ∷ (0, second) ∷ (1, record { t = U8; used = 0; width = 1 })
    ∷ (2, record { t = U16; used = 0; width = 9 }) ∷ (2, record { t = U16; used = 0; width = 0 })
    ∷ (3, record { t = U16; used = 0; width = 3 }) ∷ (3, record { t = U32; used = 0; width = 0 }) ∷ []
in_a_row = refl
