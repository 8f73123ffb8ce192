use Rattle.std.proofs.Common.{◌≡◌, ◌*ℤ◌, Ok, FitsSigned, ap, sym, ◌∙◌, rules}
use Rattle.std.specs.Int.{w128}
use Rattle.std.proofs.lemmas.Int.{to_z-of_z}
use Rattle.ep_int.specs.declared.types.Undef.TheVariants.{Overflow}
use Rattle.ep_int.specs.Types.{represented, wrapped}
use Rattle.ep_int.proofs.Arithmetic.{settled_unsigned, signed_product_fits, unsigned_product}
use Rattle.ep_int.proofs.operators.multiply.Goals as goal

pub returns-then-is_signed : goal.returns-then-is_signed
returns-then-is_signed c =
    let fx = c.ranges.x in
    let fy = c.ranges.y in
    let fits = signed_product_fits c.args.t c.args.x c.args.y (sym c.if-is_signed.ensures) c.requires.left c.requires.right in
    simp to_z-of_z at c.settle.ensures

pub returns-else-is_signed : goal.returns-else-is_signed
returns-else-is_signed c =
    let t = c.args.t in
    let fx = c.ranges.x in
    let fy = c.ranges.y in
    let r = c.from_representation.result in
    let fits : FitsSigned w128 r = search rules in
    let unsigned = sym c.if-is_signed.ensures in
    let masked = simp (to_z-of_z, c.mask.ensures) at c.from_representation.ensures in
    let exact : r ≡ wrapped t (c.args.x *ℤ c.args.y) = masked ∙ ap (represented t) (unsigned_product t c.args.x c.args.y unsigned c.requires.left c.requires.right) in
    ap Ok (to_z-of_z w128 r fits ∙ exact) ∙ settled_unsigned Overflow t (c.args.x *ℤ c.args.y) unsigned
