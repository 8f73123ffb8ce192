-- The place of a byte in a number.
use Rattle.std.proofs.Common.{◌≡◌, ℕ, ◌<◌, true, refl, arith}
use Rattle.ep_int.specs.declared.types.IntType.{IntType}
use Rattle.ep_int.specs.declared.types.IntType.TheVariants.{I8, U8, I16, U16, I32, U32, I64, U64}
use Rattle.ep_int.specs.declared.types.Order.{Order}
use Rattle.ep_int.specs.declared.types.Order.TheVariants.{Little, Big, SwappedWords}
use Rattle.ep_int.specs.Types.{bytes_of}
use Rattle.ep_int.specs.Encoding.{is_width, place}

pub width_of : (t : IntType) → is_width (bytes_of t) ≡ true
width_of I8 = refl
width_of U8 = refl
width_of I16 = refl
width_of U16 = refl
width_of I32 = refl
width_of U32 = refl
width_of I64 = refl
width_of U64 = refl

pub place_below : (o : Order) (w k : ℕ) → is_width w ≡ true → k < w → place o w k < w
place_below Little w k e h = h
place_below Big w k e h = omega arith
place_below SwappedWords w k e h = grind arith

-- placing twice leads back
pub place_back : (o : Order) (w k : ℕ) → is_width w ≡ true → k < w → place o w (place o w k) ≡ k
place_back Little w k e h = refl
place_back Big w k e h = omega arith
place_back SwappedWords w k e h = grind arith
