-- What the code takes for granted of an expression, and what the types of programs give: constants are in range, units
-- are some bytes, and operands have the types of their operators.
use Rattle.std.specs.Prelude.{◌≡◌, ℕ, ◌≤◌, Some}
use Rattle.ep_int.specs.Types.{InRange}
use Rattle.ep_core.specs.Program.{Place, block, deref, member, element, Expr, const, null_value, load, addr_of, binary}
use Rattle.ep_core.specs.Program.{convert, compare, ptr_compare, logical_and, logical_or, logical_not, conditional}
use Rattle.ep_core.specs.Program.{ptr_add, cast}
use Rattle.ep_core.specs.WellFormed.{int_type_of, right_type}

abbrev mutual
  pub ExprIsFit : Expr → Type 0
  ExprIsFit (const t v) = InRange t v
  ExprIsFit null_value = Unit {0}
  ExprIsFit (load what a) = PlaceIsFit a
  ExprIsFit (addr_of a) = PlaceIsFit a
  ExprIsFit (binary o t a b) =
      ExprIsFit a × ExprIsFit b × (int_type_of a ≡ Some t) × (right_type o t (int_type_of b) ≡ int_type_of b)
  ExprIsFit (convert t e) = ExprIsFit e
  ExprIsFit (compare c t a b) = ExprIsFit a × ExprIsFit b
  ExprIsFit (ptr_compare c a b) = ExprIsFit a × ExprIsFit b
  ExprIsFit (logical_and a b) = ExprIsFit a × ExprIsFit b
  ExprIsFit (logical_or a b) = ExprIsFit a × ExprIsFit b
  ExprIsFit (logical_not e) = ExprIsFit e
  ExprIsFit (conditional e a b) = ExprIsFit e × ExprIsFit a × ExprIsFit b
  ExprIsFit (ptr_add e unit n back) = ExprIsFit e × ExprIsFit n × (1 ≤ unit)
  ExprIsFit (cast e) = ExprIsFit e

  pub PlaceIsFit : Place → Type 0
  PlaceIsFit (block b) = Unit {0}
  PlaceIsFit (deref e) = ExprIsFit e
  PlaceIsFit (member a offset) = PlaceIsFit a
  PlaceIsFit (element a bound unit i) = PlaceIsFit a × ExprIsFit i × (1 ≤ unit)
