use Rattle.std.proofs.Common.{rules, FitsSigned, ◌∙◌, sym, ap, ℤ, pos, ◌≤ℤ◌, ◌^◌, subst}
use mir.Syntax.{w128}
use Rattle.std.proofs.lemmas.Int.{to_z-of_z}
use Rattle.ep_intervals.proofs.Machine.{shift_fits, unsigned_shift, taken_fits, shifted_left_is}
use Rattle.ep_intervals.proofs.results.shifted_left.Goals as goal

pub products-requires-clause-low : goal.products-requires-clause-low
products-requires-clause-low c =
    let x = c.args.x in let y = c.args.y in
    let x0 : FitsSigned w128 x.0 = search rules in
    let x1 : FitsSigned w128 x.1 = search rules in
    let y0 : FitsSigned w128 y.0 = search rules in
    let y1 : FitsSigned w128 y.1 = search rules in
    let f : FitsSigned w128 c.power_of_two-least.result = search rules in
    let h : FitsSigned w128 c.power_of_two-greatest.result = search rules in (
      simp to_z-of_z (shift_fits c.args.t x.0 c.power_of_two-least.result c.nearest_amount.result c.requires.0 c.nearest_amount.ensures.within c.power_of_two-least.ensures),
      simp to_z-of_z (shift_fits c.args.t x.0 c.power_of_two-greatest.result c.nearest_amount-then-has_amount.result c.requires.0 c.nearest_amount-then-has_amount.ensures.within c.power_of_two-greatest.ensures),
    )

pub products-requires-clause-high : goal.products-requires-clause-high
products-requires-clause-high c =
    let x = c.args.x in let y = c.args.y in
    let x0 : FitsSigned w128 x.0 = search rules in
    let x1 : FitsSigned w128 x.1 = search rules in
    let y0 : FitsSigned w128 y.0 = search rules in
    let y1 : FitsSigned w128 y.1 = search rules in
    let f : FitsSigned w128 c.power_of_two-least.result = search rules in
    let h : FitsSigned w128 c.power_of_two-greatest.result = search rules in (
      simp to_z-of_z (shift_fits c.args.t x.1 c.power_of_two-least.result c.nearest_amount.result c.requires.1 c.nearest_amount.ensures.within c.power_of_two-least.ensures),
      simp to_z-of_z (shift_fits c.args.t x.1 c.power_of_two-greatest.result c.nearest_amount-then-has_amount.result c.requires.1 c.nearest_amount-then-has_amount.ensures.within c.power_of_two-greatest.ensures),
    )

pub settled-requires-clause-low : goal.settled-requires-clause-low
settled-requires-clause-low c = λ s.
    let x = c.args.x in let y = c.args.y in
    let x0 : FitsSigned w128 x.0 = search rules in
    let x1 : FitsSigned w128 x.1 = search rules in
    let y0 : FitsSigned w128 y.0 = search rules in
    let y1 : FitsSigned w128 y.1 = search rules in
    let f : FitsSigned w128 c.power_of_two-least.result = search rules in
    let h : FitsSigned w128 c.power_of_two-greatest.result = search rules in
    let m = simp to_z-of_z at c.products.ensures in
    let p : FitsSigned w128 c.products.result.0 = search rules in
    let u = unsigned_shift c.args.t x (c.power_of_two-least.result, c.power_of_two-greatest.result) _ _ s c.requires.0 c.requires.1 c.power_of_two-least.ensures c.power_of_two-greatest.ensures in
    taken_fits c.args.t c.products.result.0 s p (subst (λ (z : ℤ × ℤ). pos 0 ≤ℤ z.0) (sym m) u.0)

pub settled-requires-clause-high : goal.settled-requires-clause-high
settled-requires-clause-high c = λ s.
    let x = c.args.x in let y = c.args.y in
    let x0 : FitsSigned w128 x.0 = search rules in
    let x1 : FitsSigned w128 x.1 = search rules in
    let y0 : FitsSigned w128 y.0 = search rules in
    let y1 : FitsSigned w128 y.1 = search rules in
    let f : FitsSigned w128 c.power_of_two-least.result = search rules in
    let h : FitsSigned w128 c.power_of_two-greatest.result = search rules in
    let m = simp to_z-of_z at c.products.ensures in
    let p : FitsSigned w128 c.products.result.1 = search rules in
    let u = unsigned_shift c.args.t x (c.power_of_two-least.result, c.power_of_two-greatest.result) _ _ s c.requires.0 c.requires.1 c.power_of_two-least.ensures c.power_of_two-greatest.ensures in
    taken_fits c.args.t c.products.result.1 s p (subst (λ (z : ℤ × ℤ). pos 0 ≤ℤ z.1) (sym m) u.1)

pub returns-then-has_amount : goal.returns-then-has_amount
returns-then-has_amount c =
    let x = c.args.x in let y = c.args.y in
    let x0 : FitsSigned w128 x.0 = search rules in
    let x1 : FitsSigned w128 x.1 = search rules in
    let y0 : FitsSigned w128 y.0 = search rules in
    let y1 : FitsSigned w128 y.1 = search rules in
    let f : FitsSigned w128 c.power_of_two-least.result = search rules in
    let h : FitsSigned w128 c.power_of_two-greatest.result = search rules in
    let m = simp to_z-of_z at c.products.ensures in
    let j = simp to_z-of_z at c.nearest_amount.ensures.value in
    let k = simp to_z-of_z at c.nearest_amount-then-has_amount.ensures.value in
    shifted_left_is c.args.t x y c.power_of_two-least.result c.power_of_two-greatest.result c.products.result c.settled.result (sym c.has_amount.ensures ∙ c.if-has_amount.true)
    (c.power_of_two-least.ensures ∙ ap (λ n. pos (2 ^ n)) j) (c.power_of_two-greatest.ensures ∙ ap (λ n. pos (2 ^ n)) k) m c.settled.ensures
