-- The parts of two ranges that arithmetic takes.
use Rattle.std.proofs.Common.{ℤ, Bool, true, false, arith}
use Rattle.std.proofs.lemmas.Int.{ints, clamps}
use Rattle.ep_int.specs.declared.types.IntType.{IntType}
use Rattle.ep_int.specs.declared.types.BinOp.{BinOp}
use Rattle.ep_int.specs.declared.types.BinOp.TheVariants.{Add, Sub, Mul, Div, Rem, And, Or, Xor, Shl, Shr}
use Rattle.ep_int.specs.Types.{InRange}
use Rattle.ep_int.specs.Arith.{IsOfSomeType, IsRightOperand}
use Rattle.ep_range_laws.specs.Ranges.{IsRange, LiesIn}
use Rattle.ep_range_laws.specs.Faults.{is_shift, part_of, right_part}
use Rattle.ep_range_laws.proofs.Comparisons.{le_trans}

pub part_in_range : (t : IntType) (r : ℤ × ℤ) (x : ℤ) → LiesIn (part_of t r) x → InRange t x
part_in_range t r x h = record { low = let p = h.low in omega (arith, ints, clamps); high = let p = h.high in omega (arith, ints, clamps) }

pub part_in_whole : (t : IntType) (r : ℤ × ℤ) (x : ℤ) → LiesIn (part_of t r) x → LiesIn r x
part_in_whole t r x h = record { low = let p = h.low in omega (arith, ints, clamps); high = let p = h.high in omega (arith, ints, clamps) }

pub into_part : (t : IntType) (r : ℤ × ℤ) (x : ℤ) → LiesIn r x → InRange t x → LiesIn (part_of t r) x
into_part t r x h k = record { low = let p = h.low in let q = k.low in omega (arith, ints, clamps); high = let p = h.high in let q = k.high in omega (arith, ints, clamps) }

number_between : (s : ℤ × ℤ) (y : ℤ) → IsRange s.0 s.1 → LiesIn s y → IsOfSomeType y
number_between s y r h = record { low = le_trans _ _ _ r.above h.low; high = le_trans _ _ _ h.high r.below }

pub right_is_right : (o : BinOp) (t : IntType) (s : ℤ × ℤ) (y : ℤ) → IsRange s.0 s.1 → LiesIn (right_part o t s) y → IsRightOperand o t y
right_is_right Add t s y r h = part_in_range t s y h
right_is_right Sub t s y r h = part_in_range t s y h
right_is_right Mul t s y r h = part_in_range t s y h
right_is_right Div t s y r h = part_in_range t s y h
right_is_right Rem t s y r h = part_in_range t s y h
right_is_right And t s y r h = part_in_range t s y h
right_is_right Or t s y r h = part_in_range t s y h
right_is_right Xor t s y r h = part_in_range t s y h
right_is_right Shl t s y r h = number_between s y r h
right_is_right Shr t s y r h = number_between s y r h

pub right_in_whole : (o : BinOp) (t : IntType) (s : ℤ × ℤ) (y : ℤ) → LiesIn (right_part o t s) y → LiesIn s y
right_in_whole o t s y h = by_test (is_shift o) h
  where
    by_test : (b : Bool) → LiesIn (Rattle.std.specs.Prelude.cond b s (part_of t s)) y → LiesIn s y
    by_test true h = h
    by_test false h = part_in_whole t s y h

pub into_right : (o : BinOp) (t : IntType) (s : ℤ × ℤ) (y : ℤ) → LiesIn s y → IsRightOperand o t y → LiesIn (right_part o t s) y
into_right Add t s y h k = into_part t s y h k
into_right Sub t s y h k = into_part t s y h k
into_right Mul t s y h k = into_part t s y h k
into_right Div t s y h k = into_part t s y h k
into_right Rem t s y h k = into_part t s y h k
into_right And t s y h k = into_part t s y h k
into_right Or t s y h k = into_part t s y h k
into_right Xor t s y h k = into_part t s y h k
into_right Shl t s y h k = h
into_right Shr t s y h k = h
