use Rattle.std.proofs.Common.{◌≡◌, ◌+ℤ◌, ◌-ℤ◌, ◌||◌, true, inl, inr, rules, FitsSigned, refl, sym, ap, ◌∙◌, subst}
use Rattle.ep_int.proofs.Arithmetic.{difference_fits, in_range_some_type, sum_fits}
use mir.Syntax.{w128}
use Rattle.std.proofs.lemmas.Int.{to_z-of_z}
use Rattle.ep_int.specs.Types.{is_signed}
use Rattle.ep_int.specs.declared.types.BinOp.TheVariants.{Add, Sub, Mul, Div, Rem, Shl}
use Rattle.ep_range_laws.specs.Faults.{may_fault, may_not_shift, fault_between}
use Rattle.ep_domain.proofs.FaultCode.{passed, in_long, product_fits, overflow_is, then_is}
use Rattle.ep_domain.proofs.FaultCode.{right_number, right_in_range}
use Rattle.std.proofs.lemmas.Bool.{or_left}
use Rattle.ep_domain.proofs.fault.fault_between.Goals as goal
use Rattle.ep_domain.proofs.fault.fault_between.Goals.{then-may_pass_width, else-may_pass_width}

pub products-requires-clause-low : goal.products-requires-clause-low
products-requires-clause-low c =
    let x = c.args.x in let y = c.args.y in
    let x0 : FitsSigned w128 x.0 = search rules in
    let x1 : FitsSigned w128 x.1 = search rules in
    let y0 : FitsSigned w128 y.0 = search rules in
    let y1 : FitsSigned w128 y.1 = search rules in
    let i = c.requires.left (passed x.0 x.1 x0 x1 c.if-x.false) in
    let j = c.requires.right (passed y.0 y.1 y0 y1 c.if-y.false) in
    let s : is_signed c.args.t ≡ true = sym c.is_signed.ensures ∙ c.if-is_signed.true in
    let l = in_long c.args.t x.0 s i.0 in
    (product_fits x.0 y.0 l (in_long c.args.t y.0 s (right_in_range c.args.op c.args.t y.0 c.in-Mul.is j.0)), product_fits x.0 y.1 l (in_long c.args.t y.1 s (right_in_range c.args.op c.args.t y.1 c.in-Mul.is j.1)))

pub products-requires-clause-high : goal.products-requires-clause-high
products-requires-clause-high c =
    let x = c.args.x in let y = c.args.y in
    let x0 : FitsSigned w128 x.0 = search rules in
    let x1 : FitsSigned w128 x.1 = search rules in
    let y0 : FitsSigned w128 y.0 = search rules in
    let y1 : FitsSigned w128 y.1 = search rules in
    let i = c.requires.left (passed x.0 x.1 x0 x1 c.if-x.false) in
    let j = c.requires.right (passed y.0 y.1 y0 y1 c.if-y.false) in
    let s : is_signed c.args.t ≡ true = sym c.is_signed.ensures ∙ c.if-is_signed.true in
    let l = in_long c.args.t x.1 s i.1 in
    (product_fits x.1 y.0 l (in_long c.args.t y.0 s (right_in_range c.args.op c.args.t y.0 c.in-Mul.is j.0)), product_fits x.1 y.1 l (in_long c.args.t y.1 s (right_in_range c.args.op c.args.t y.1 c.in-Mul.is j.1)))

-- src/fault.rt:57:48
pub may_not_shift-requires : goal.may_not_shift-requires
may_not_shift-requires c =
    let x = c.args.x in
    let x0 : FitsSigned w128 x.0 = search rules in
    let x1 : FitsSigned w128 x.1 = search rules in
    (c.requires.left (passed x.0 x.1 x0 x1 c.if-x.false)).1

-- src/fault.rt:44:1
pub returns-in-Add : goal.returns-in-Add
returns-in-Add c =
    let x = c.args.x in let y = c.args.y in
    let x0 : FitsSigned w128 x.0 = search rules in
    let x1 : FitsSigned w128 x.1 = search rules in
    let y0 : FitsSigned w128 y.0 = search rules in
    let y1 : FitsSigned w128 y.1 = search rules in
    let p = passed x.0 x.1 x0 x1 c.if-x.false in
    let q = passed y.0 y.1 y0 y1 c.if-y.false in
    let i = c.requires.left p in
    let j = c.requires.right q in
    let f = sum_fits x.0 y.0 (in_range_some_type c.args.t x.0 i.0) (right_number c.args.op c.args.t y.0 j.0) in
    let g = sum_fits x.1 y.1 (in_range_some_type c.args.t x.1 i.1) (right_number c.args.op c.args.t y.1 j.1) in
    let o = simp to_z-of_z at c.overflow.ensures in
    subst (λ b. c.overflow.result ≡ fault_between b c.args.t x y) (sym c.in-Add.is) (overflow_is Add c.args.t x y (x.0 +ℤ y.0, x.1 +ℤ y.1) c.overflow.result p q refl refl o)

-- src/fault.rt:44:1
pub returns-in-Sub : goal.returns-in-Sub
returns-in-Sub c =
    let x = c.args.x in let y = c.args.y in
    let x0 : FitsSigned w128 x.0 = search rules in
    let x1 : FitsSigned w128 x.1 = search rules in
    let y0 : FitsSigned w128 y.0 = search rules in
    let y1 : FitsSigned w128 y.1 = search rules in
    let p = passed x.0 x.1 x0 x1 c.if-x.false in
    let q = passed y.0 y.1 y0 y1 c.if-y.false in
    let i = c.requires.left p in
    let j = c.requires.right q in
    let f = difference_fits x.0 y.1 (in_range_some_type c.args.t x.0 i.0) (right_number c.args.op c.args.t y.1 j.1) in
    let g = difference_fits x.1 y.0 (in_range_some_type c.args.t x.1 i.1) (right_number c.args.op c.args.t y.0 j.0) in
    let o = simp to_z-of_z at c.overflow-in-Sub.ensures in
    subst (λ b. c.overflow-in-Sub.result ≡ fault_between b c.args.t x y) (sym c.in-Sub.is) (overflow_is Sub c.args.t x y (x.0 -ℤ y.1, x.1 -ℤ y.0) c.overflow-in-Sub.result p q refl refl o)

pub returns-in-Mul : goal.returns-in-Mul
returns-in-Mul c =
    let x = c.args.x in let y = c.args.y in
    let x0 : FitsSigned w128 x.0 = search rules in
    let x1 : FitsSigned w128 x.1 = search rules in
    let y0 : FitsSigned w128 y.0 = search rules in
    let y1 : FitsSigned w128 y.1 = search rules in
    let p = passed x.0 x.1 x0 x1 c.if-x.false in
    let q = passed y.0 y.1 y0 y1 c.if-y.false in
    subst (λ b. c.overflow-in-Mul.result ≡ fault_between b c.args.t x y) (sym c.in-Mul.is) (overflow_is Mul c.args.t x y c.products.result c.overflow-in-Mul.result p q refl c.products.ensures c.overflow-in-Mul.ensures)

pub returns-in-Div : goal.returns-in-Div
returns-in-Div c =
    let x = c.args.x in let y = c.args.y in
    let x0 : FitsSigned w128 x.0 = search rules in
    let x1 : FitsSigned w128 x.1 = search rules in
    let y0 : FitsSigned w128 y.0 = search rules in
    let y1 : FitsSigned w128 y.1 = search rules in
    let p = passed x.0 x.1 x0 x1 c.if-x.false in
    let q = passed y.0 y.1 y0 y1 c.if-y.false in
    elim c.in-Div.is [
      | inl e ↦ subst (λ b. c.then_some.result ≡ fault_between b c.args.t x y) (sym e) (then_is Div c.args.t x y c.may_not_divide.result c.then_some.result p q refl c.may_not_divide.ensures c.then_some.ensures)
      | inr e ↦ subst (λ b. c.then_some.result ≡ fault_between b c.args.t x y) (sym e) (then_is Rem c.args.t x y c.may_not_divide.result c.then_some.result p q refl c.may_not_divide.ensures c.then_some.ensures)
    ]

pub returns-after-may_pass_width : goal.returns-after-may_pass_width
returns-after-may_pass_width c =
    let x = c.args.x in let y = c.args.y in
    let x0 : FitsSigned w128 x.0 = search rules in
    let x1 : FitsSigned w128 x.1 = search rules in
    let y0 : FitsSigned w128 y.0 = search rules in
    let y1 : FitsSigned w128 y.1 = search rules in
    let p = passed x.0 x.1 x0 x1 c.if-x.false in
    let q = passed y.0 y.1 y0 y1 c.if-y.false in
    let fails : c.if-may_pass_width.then_some ≡ may_fault Shl c.args.t x y =
    elim c.if-may_pass_width.branch [
      | then-may_pass_width w ↦ w.then_some-is ∙ w.if-may_pass_width.true ∙ sym (or_left _ (may_not_shift c.args.t x y) (sym c.may_pass_width.ensures ∙ w.if-may_pass_width.true))
      | else-may_pass_width w ↦ w.then_some-is ∙ w.may_not_shift.ensures ∙ ap (λ b. b || may_not_shift c.args.t x y) (sym w.if-may_pass_width.false ∙ c.may_pass_width.ensures)
    ] in
    subst (λ b. c.then_some-in-Shl.result ≡ fault_between b c.args.t x y) (sym c.in-Shl.is) (then_is Shl c.args.t x y c.if-may_pass_width.then_some c.then_some-in-Shl.result p q refl fails c.then_some-in-Shl.ensures)
