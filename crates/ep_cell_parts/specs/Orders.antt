-- Byte orders that are one.
use Rattle.std.specs.Prelude.{Bool, true, false}
use Rattle.ep_int.specs.declared.types.Order.{Order}
use Rattle.ep_int.specs.declared.types.Order.TheVariants.{Little, Big, SwappedWords}

abbrev pub is_order : Order → Order → Bool
is_order Little Little = true
is_order Little Big = false
is_order Little SwappedWords = false
is_order Big Little = false
is_order Big Big = true
is_order Big SwappedWords = false
is_order SwappedWords Little = false
is_order SwappedWords Big = false
is_order SwappedWords SwappedWords = true
