use Rattle.std.proofs.Common.{◌≡◌, rules, FitsSigned, ◌∙◌, sym, ap, true, false, pos, to_z, ◌*◌, ◌%◌, ◌^◌}
use mir.Syntax.{w128}
use Rattle.std.proofs.lemmas.Int.{to_z-of_z}
use Rattle.std.specs.Prelude.{unsigned_abs}
use Rattle.ep_int.specs.Types.{is_signed, bits_of}
use Rattle.ep_domain.proofs.FaultCode.{in_long}
use Rattle.ep_domain.proofs.FaultCode as fault
use Rattle.ep_interval_laws.specs.Interval.{between}
use Rattle.ep_interval_laws.specs.Results.{clipped}
use Rattle.ep_intervals.proofs.Machine.{clipped_is}
use Rattle.ep_intervals.proofs.Products.{product_fits, products_are, reduced_products, whole_products, size_is, cast_is}
use Rattle.ep_intervals.proofs.results.multiplied.Goals as goal

pub products-requires-clause-low : goal.products-requires-clause-low
products-requires-clause-low c =
    let t = c.args.t in let x = c.args.x in let y = c.args.y in let r = c.requires in
    let s : is_signed t ≡ true = sym c.is_signed.ensures ∙ c.if-is_signed.true in
    let a = in_long t x.0 s r.left.0 in
    (fault.product_fits x.0 y.0 a (in_long t y.0 s r.right.0), fault.product_fits x.0 y.1 a (in_long t y.1 s r.right.1))

pub products-requires-clause-high : goal.products-requires-clause-high
products-requires-clause-high c =
    let t = c.args.t in let x = c.args.x in let y = c.args.y in let r = c.requires in
    let s : is_signed t ≡ true = sym c.is_signed.ensures ∙ c.if-is_signed.true in
    let a = in_long t x.1 s r.left.1 in
    (fault.product_fits x.1 y.0 a (in_long t y.0 s r.right.0), fault.product_fits x.1 y.1 a (in_long t y.1 s r.right.1))

pub returns-then-is_signed : goal.returns-then-is_signed
returns-then-is_signed c = clipped_is c.args.t _ c.clipped.result (sym c.is_signed.ensures ∙ c.if-is_signed.true) (c.clipped.ensures ∙ ap (clipped c.args.t) c.products.ensures)

pub overflow_mul-lo : goal.overflow_mul-lo
overflow_mul-lo c =
    let x = c.args.x in let y = c.args.y in
    let x0 : FitsSigned w128 x.0 = search rules in
    let y0 : FitsSigned w128 y.0 = search rules in
    let s : is_signed c.args.t ≡ false = sym c.is_signed.ensures ∙ c.if-is_signed.false in
    simp to_z-of_z (record { fits = product_fits c.args.t x.0 y.0 s c.requires.left.0 c.requires.right.0 })

pub overflow_mul-hi : goal.overflow_mul-hi
overflow_mul-hi c =
    let x = c.args.x in let y = c.args.y in
    let x1 : FitsSigned w128 x.1 = search rules in
    let y1 : FitsSigned w128 y.1 = search rules in
    let s : is_signed c.args.t ≡ false = sym c.is_signed.ensures ∙ c.if-is_signed.false in
    simp to_z-of_z (record { fits = product_fits c.args.t x.1 y.1 s c.requires.left.1 c.requires.right.1 })

pub returns-then-lo-size : goal.returns-then-lo-size
returns-then-lo-size c =
    let t = c.args.t in let x = c.args.x in let y = c.args.y in let r = c.requires in
    let x0 : FitsSigned w128 x.0 = search rules in
    let x1 : FitsSigned w128 x.1 = search rules in
    let y0 : FitsSigned w128 y.0 = search rules in
    let y1 : FitsSigned w128 y.1 = search rules in
    let s : is_signed t ≡ false = sym c.is_signed.ensures ∙ c.if-is_signed.false in
    let b = c.bits.ensures.value in let w = c.bits.ensures.within in
    let z = size_is t c.bits.result b w in
    let lo = unsigned_abs x.0 * unsigned_abs y.0 in
    let hi = unsigned_abs x.1 * unsigned_abs y.1 in
    let p = products_are t x y s r.left.0 r.left.1 r.left.2 r.right.0 r.right.1 r.right.2 in
    let e1 = simp to_z-of_z at c.if-lo-size.true in
    let e = rw z at e1 in
    let d1 = simp to_z-of_z at c.between.ensures in
    let d = rw z at d1 in
    reduced_products t _ lo hi c.between.result s p e (d ∙ ap (λ q. between q (to_z w128 (hi % 2 ^ bits_of t))) (cast_is t lo c.bits.result b w) ∙ ap (between (pos (lo % 2 ^ bits_of t))) (cast_is t hi c.bits.result b w))

pub returns-else-lo-size : goal.returns-else-lo-size
returns-else-lo-size c =
    let t = c.args.t in let x = c.args.x in let y = c.args.y in let r = c.requires in
    let x0 : FitsSigned w128 x.0 = search rules in
    let x1 : FitsSigned w128 x.1 = search rules in
    let y0 : FitsSigned w128 y.0 = search rules in
    let y1 : FitsSigned w128 y.1 = search rules in
    let s : is_signed t ≡ false = sym c.is_signed.ensures ∙ c.if-is_signed.false in
    let b = c.bits.ensures.value in let w = c.bits.ensures.within in
    let z = size_is t c.bits.result b w in
    let lo = unsigned_abs x.0 * unsigned_abs y.0 in
    let hi = unsigned_abs x.1 * unsigned_abs y.1 in
    let p = products_are t x y s r.left.0 r.left.1 r.left.2 r.right.0 r.right.1 r.right.2 in
    let e1 = simp to_z-of_z at c.if-lo-size.false in
    let e = rw z at e1 in
    whole_products t _ lo hi c.whole.result s p e c.whole.ensures
