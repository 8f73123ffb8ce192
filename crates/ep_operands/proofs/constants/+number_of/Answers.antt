use Rattle.std.proofs.Common.{◌≡◌, ◌∙◌, ap, sym, subst, rules, Option, ℤ}
use Rattle.std.specs.Int.{w128}
use Rattle.std.specs.Prelude.{IfSome}
use Rattle.std.proofs.lemmas.Int.{to_z-of_z}
use Rattle.std.proofs.Common.{FitsSigned, arith}
use Rattle.ep_int.specs.Arith.{arith_of}
use Rattle.ep_int.specs.Types.{InRange}
use Rattle.ep_core.specs.declared.tree.Expr.{Expr}
use Rattle.ep_core.specs.View.{expr_view}
use Rattle.ep_typing.specs.Constant.{no_fault}
use Rattle.ep_operands.specs.Numbers.{IsNumber, IsSomeNumber}
use Rattle.ep_operands.proofs.ConstantLemmas.{Fits, and_fits, and_left, and_right, below, binary_fits, binary_left}
use Rattle.ep_operands.proofs.ConstantLemmas.{binary_right, compare_fits, compare_left, compare_right, cond_no}
use Rattle.ep_operands.proofs.ConstantLemmas.{cond_test, cond_yes, convert_fits, convert_operand, left_in_range}
use Rattle.ep_operands.proofs.ConstantLemmas.{no_fits, not_operand, or_fits, or_left, or_right, right_in_range}
use Rattle.ep_operands.proofs.ConstantLemmas.{typed_part, yes_fits}
use Rattle.ep_operands.proofs.constants.+number_of.Goals as goal

pub arith-requires-clause-right : goal.arith-requires-clause-right
arith-requires-clause-right t c =
    let h = subst (λ (e : Expr). IsSomeNumber (expr_view e)) c.in-Bin.is c.requires in
    let f : FitsSigned w128 c.in_ok-y-in-Bin.y = search rules in
    simp to_z-of_z (right_in_range c.in-Bin.op c.in-Bin.t (expr_view c.in-Bin.a.value) (expr_view c.in-Bin.b.value) h c.in_ok-y-in-Bin.y
    (subst (λ (e : Expr). Fits (expr_view e) c.in_ok-y-in-Bin.y) c.deref-in-Bin.ensures c.in_ok-y-in-Bin.ensures.of_type))

pub returns-in_ok-y-in-Bin-clause-of_type : goal.returns-in_ok-y-in-Bin-clause-of_type
returns-in_ok-y-in-Bin-clause-of_type t c =
    let h = subst (λ (e : Expr). IsSomeNumber (expr_view e)) c.in-Bin.is c.requires in
    let f : FitsSigned w128 c.in_ok-x-in-Bin.x = search rules in
    let g : FitsSigned w128 c.in_ok-y-in-Bin.y = search rules in
    let e = simp to_z-of_z at c.arith.ensures in
    subst (λ (o : Option ℤ). IfSome o (Fits (expr_view c.args.e.now))) (sym (c.no_fault.ensures ∙ ap no_fault e))
    (subst (λ (x : Expr). IfSome (no_fault (arith_of c.in-Bin.op c.in-Bin.t c.in_ok-x-in-Bin.x c.in_ok-y-in-Bin.y)) (Fits (expr_view x))) (sym c.in-Bin.is)
    (binary_fits c.in-Bin.op c.in-Bin.t (expr_view c.in-Bin.a.value) (expr_view c.in-Bin.b.value) c.in_ok-x-in-Bin.x c.in_ok-y-in-Bin.y
    (left_in_range c.in-Bin.op c.in-Bin.t (expr_view c.in-Bin.a.value) (expr_view c.in-Bin.b.value) h c.in_ok-x-in-Bin.x
    (subst (λ (x : Expr). Fits (expr_view x) c.in_ok-x-in-Bin.x) c.deref.ensures c.in_ok-x-in-Bin.ensures.of_type))))

pub returns-in_ok-number_of-in-Convert-clause-of_type : goal.returns-in_ok-number_of-in-Convert-clause-of_type
returns-in_ok-number_of-in-Convert-clause-of_type t c = λ u n.
    let f : FitsSigned w128 c.wrap.result = search rules in
    simp to_z-of_z (convert_fits c.in-Convert.t (expr_view c.in-Convert.a.value) c.wrap.result c.wrap.ensures.in_range u
    (subst (λ (e : Expr). IsNumber (expr_view e) u) c.in-Convert.is n))

pub returns-in_ok-y-in-Compare-clause-of_type : goal.returns-in_ok-y-in-Compare-clause-of_type
returns-in_ok-y-in-Compare-clause-of_type t c = λ u n.
    let f : FitsSigned w128 c.truth.result = search rules in
    simp to_z-of_z (subst (InRange u) (sym c.truth.ensures)
    (compare_fits c.in-Compare.how c.in-Compare.field-1 (expr_view c.in-Compare.a.value) (expr_view c.in-Compare.b.value) _ u
    (subst (λ (e : Expr). IsNumber (expr_view e) u) c.in-Compare.is n)))

pub returns-then-is_true-clause-of_type : goal.returns-then-is_true-clause-of_type
returns-then-is_true-clause-of_type t c = λ u n.
    let f : FitsSigned w128 c.truth-then-is_true.result = search rules in
    simp to_z-of_z (subst (InRange u) (sym c.truth-then-is_true.ensures)
    (and_fits (expr_view c.in-And.a.value) (expr_view c.in-And.b.value) _ u (subst (λ (e : Expr). IsNumber (expr_view e) u) c.in-And.is n)))

pub returns-in_ok-number_of-in-Or-2-clause-of_type : goal.returns-in_ok-number_of-in-Or-2-clause-of_type
returns-in_ok-number_of-in-Or-2-clause-of_type t c = λ u n.
    let f : FitsSigned w128 c.truth-in-Or.result = search rules in
    simp to_z-of_z (subst (InRange u) (sym c.truth-in-Or.ensures)
    (or_fits (expr_view c.in-Or.a.value) (expr_view c.in-Or.b.value) _ u (subst (λ (e : Expr). IsNumber (expr_view e) u) c.in-Or.is n)))

pub returns-then-is_true-3-clause-of_type : goal.returns-then-is_true-3-clause-of_type
returns-then-is_true-3-clause-of_type t c =
    subst (λ (e : Expr). IfSome c.number_of-then-is_true-3.result (Fits (expr_view e))) (sym c.in-Cond.is)
    (yes_fits (expr_view c.in-Cond.test.value) (expr_view c.in-Cond.a.value) (expr_view c.in-Cond.b.value) c.number_of-then-is_true-3.result
    (subst (λ (e : Expr). IfSome c.number_of-then-is_true-3.result (Fits (expr_view e))) c.deref-then-is_true-3.ensures c.number_of-then-is_true-3.ensures.of_type))

pub returns-else-is_true-3-clause-of_type : goal.returns-else-is_true-3-clause-of_type
returns-else-is_true-3-clause-of_type t c =
    subst (λ (e : Expr). IfSome c.number_of-in-Cond-2.result (Fits (expr_view e))) (sym c.in-Cond.is)
    (no_fits (expr_view c.in-Cond.test.value) (expr_view c.in-Cond.a.value) (expr_view c.in-Cond.b.value) c.number_of-in-Cond-2.result
    (subst (λ (e : Expr). IfSome c.number_of-in-Cond-2.result (Fits (expr_view e))) c.deref-in-Cond-2.ensures c.number_of-in-Cond-2.ensures.of_type))

pub number_of-requires : goal.number_of-requires
number_of-requires t c =
    let p = ap expr_view c.in-Bin.is in
    let q = ap expr_view c.deref.ensures in
    let less = below c.args.e.now c.deref.result.now _ _ p q (omega arith) in
    (omega (arith, less), typed_part c.args.e.now c.deref.result.now _ _ p q (binary_left c.in-Bin.op c.in-Bin.t (expr_view c.in-Bin.a.value) (expr_view c.in-Bin.b.value)) c.requires)

pub number_of-requires-in-Bin : goal.number_of-requires-in-Bin
number_of-requires-in-Bin t c =
    let p = ap expr_view c.in-Bin.is in
    let q = ap expr_view c.deref-in-Bin.ensures in
    let less = below c.args.e.now c.deref-in-Bin.result.now _ _ p q (omega arith) in
    (omega (arith, less), typed_part c.args.e.now c.deref-in-Bin.result.now _ _ p q (binary_right c.in-Bin.op c.in-Bin.t (expr_view c.in-Bin.a.value) (expr_view c.in-Bin.b.value)) c.requires)

pub number_of-requires-in-Convert : goal.number_of-requires-in-Convert
number_of-requires-in-Convert t c =
    let p = ap expr_view c.in-Convert.is in
    let q = ap expr_view c.deref-in-Convert.ensures in
    let less = below c.args.e.now c.deref-in-Convert.result.now _ _ p q (omega arith) in
    (omega (arith, less), typed_part c.args.e.now c.deref-in-Convert.result.now _ _ p q (convert_operand c.in-Convert.t (expr_view c.in-Convert.a.value)) c.requires)

pub number_of-requires-in-Compare : goal.number_of-requires-in-Compare
number_of-requires-in-Compare t c =
    let p = ap expr_view c.in-Compare.is in
    let q = ap expr_view c.deref-in-Compare.ensures in
    let less = below c.args.e.now c.deref-in-Compare.result.now _ _ p q (omega arith) in
    (omega (arith, less), typed_part c.args.e.now c.deref-in-Compare.result.now _ _ p q (compare_left c.in-Compare.how c.in-Compare.field-1 (expr_view c.in-Compare.a.value) (expr_view c.in-Compare.b.value)) c.requires)

pub number_of-requires-in-Compare-2 : goal.number_of-requires-in-Compare-2
number_of-requires-in-Compare-2 t c =
    let p = ap expr_view c.in-Compare.is in
    let q = ap expr_view c.deref-in-Compare-2.ensures in
    let less = below c.args.e.now c.deref-in-Compare-2.result.now _ _ p q (omega arith) in
    (omega (arith, less), typed_part c.args.e.now c.deref-in-Compare-2.result.now _ _ p q (compare_right c.in-Compare.how c.in-Compare.field-1 (expr_view c.in-Compare.a.value) (expr_view c.in-Compare.b.value)) c.requires)

pub number_of-requires-in-And : goal.number_of-requires-in-And
number_of-requires-in-And t c =
    let p = ap expr_view c.in-And.is in
    let q = ap expr_view c.deref-in-And.ensures in
    let less = below c.args.e.now c.deref-in-And.result.now _ _ p q (omega arith) in
    (omega (arith, less), typed_part c.args.e.now c.deref-in-And.result.now _ _ p q (and_left (expr_view c.in-And.a.value) (expr_view c.in-And.b.value)) c.requires)

pub number_of-requires-then-is_true : goal.number_of-requires-then-is_true
number_of-requires-then-is_true t c =
    let p = ap expr_view c.in-And.is in
    let q = ap expr_view c.deref-then-is_true.ensures in
    let less = below c.args.e.now c.deref-then-is_true.result.now _ _ p q (omega arith) in
    (omega (arith, less), typed_part c.args.e.now c.deref-then-is_true.result.now _ _ p q (and_right (expr_view c.in-And.a.value) (expr_view c.in-And.b.value)) c.requires)

pub number_of-requires-in-Or : goal.number_of-requires-in-Or
number_of-requires-in-Or t c =
    let p = ap expr_view c.in-Or.is in
    let q = ap expr_view c.deref-in-Or.ensures in
    let less = below c.args.e.now c.deref-in-Or.result.now _ _ p q (omega arith) in
    (omega (arith, less), typed_part c.args.e.now c.deref-in-Or.result.now _ _ p q (or_left (expr_view c.in-Or.a.value) (expr_view c.in-Or.b.value)) c.requires)

pub number_of-requires-in-Or-2 : goal.number_of-requires-in-Or-2
number_of-requires-in-Or-2 t c =
    let p = ap expr_view c.in-Or.is in
    let q = ap expr_view c.deref-in-Or-2.ensures in
    let less = below c.args.e.now c.deref-in-Or-2.result.now _ _ p q (omega arith) in
    (omega (arith, less), typed_part c.args.e.now c.deref-in-Or-2.result.now _ _ p q (or_right (expr_view c.in-Or.a.value) (expr_view c.in-Or.b.value)) c.requires)

pub number_of-requires-in-Not : goal.number_of-requires-in-Not
number_of-requires-in-Not t c =
    let p = ap expr_view c.in-Not.is in
    let q = ap expr_view c.deref-in-Not.ensures in
    let less = below c.args.e.now c.deref-in-Not.result.now _ _ p q (omega arith) in
    (omega (arith, less), typed_part c.args.e.now c.deref-in-Not.result.now _ _ p q (not_operand (expr_view c.in-Not.a.value)) c.requires)

pub number_of-requires-in-Cond : goal.number_of-requires-in-Cond
number_of-requires-in-Cond t c =
    let p = ap expr_view c.in-Cond.is in
    let q = ap expr_view c.deref-in-Cond.ensures in
    let less = below c.args.e.now c.deref-in-Cond.result.now _ _ p q (omega arith) in
    (omega (arith, less), typed_part c.args.e.now c.deref-in-Cond.result.now _ _ p q (cond_test (expr_view c.in-Cond.test.value) (expr_view c.in-Cond.a.value) (expr_view c.in-Cond.b.value)) c.requires)

pub number_of-requires-then-is_true-3 : goal.number_of-requires-then-is_true-3
number_of-requires-then-is_true-3 t c =
    let p = ap expr_view c.in-Cond.is in
    let q = ap expr_view c.deref-then-is_true-3.ensures in
    let less = below c.args.e.now c.deref-then-is_true-3.result.now _ _ p q (omega arith) in
    (omega (arith, less), typed_part c.args.e.now c.deref-then-is_true-3.result.now _ _ p q (cond_yes (expr_view c.in-Cond.test.value) (expr_view c.in-Cond.a.value) (expr_view c.in-Cond.b.value)) c.requires)

pub number_of-requires-in-Cond-2 : goal.number_of-requires-in-Cond-2
number_of-requires-in-Cond-2 t c =
    let p = ap expr_view c.in-Cond.is in
    let q = ap expr_view c.deref-in-Cond-2.ensures in
    let less = below c.args.e.now c.deref-in-Cond-2.result.now _ _ p q (omega arith) in
    (omega (arith, less), typed_part c.args.e.now c.deref-in-Cond-2.result.now _ _ p q (cond_no (expr_view c.in-Cond.test.value) (expr_view c.in-Cond.a.value) (expr_view c.in-Cond.b.value)) c.requires)
