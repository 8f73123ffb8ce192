use Rattle.std.proofs.Common.{◌≡◌, rules, FitsSigned, sym, subst}
use Rattle.ep_int.proofs.Arithmetic.{difference_fits, in_range_some_type, sum_fits}
use mir.Syntax.{w128}
use Rattle.std.proofs.lemmas.Int.{to_z-of_z}
use Rattle.ep_domain.proofs.FaultCode.{right_number}
use Rattle.ep_interval_laws.specs.Results.{results_of}
use Rattle.ep_intervals.proofs.Machine.{sum_taken_fits, difference_taken_fits}
use Rattle.ep_intervals.proofs.results.results_by_ends.Goals as goal

pub settled-requires-clause-low : goal.settled-requires-clause-low
settled-requires-clause-low c = λ s.
    let x = c.args.x in let y = c.args.y in
    let x0 : FitsSigned w128 x.0 = search rules in
    let x1 : FitsSigned w128 x.1 = search rules in
    let y0 : FitsSigned w128 y.0 = search rules in
    let y1 : FitsSigned w128 y.1 = search rules in
    let i = in_range_some_type c.args.t x.0 c.requires.left.0 in
    let j = in_range_some_type c.args.t x.1 c.requires.left.1 in
    let k = right_number c.args.op c.args.t y.0 c.requires.right.0 in
    let l = right_number c.args.op c.args.t y.1 c.requires.right.1 in
    let f = sum_fits x.0 y.0 i k in
    let g = sum_fits x.1 y.1 j l in
    simp to_z-of_z (sum_taken_fits c.args.t x.0 y.0 i k)

pub settled-requires-clause-high : goal.settled-requires-clause-high
settled-requires-clause-high c = λ s.
    let x = c.args.x in let y = c.args.y in
    let x0 : FitsSigned w128 x.0 = search rules in
    let x1 : FitsSigned w128 x.1 = search rules in
    let y0 : FitsSigned w128 y.0 = search rules in
    let y1 : FitsSigned w128 y.1 = search rules in
    let i = in_range_some_type c.args.t x.0 c.requires.left.0 in
    let j = in_range_some_type c.args.t x.1 c.requires.left.1 in
    let k = right_number c.args.op c.args.t y.0 c.requires.right.0 in
    let l = right_number c.args.op c.args.t y.1 c.requires.right.1 in
    let f = sum_fits x.0 y.0 i k in
    let g = sum_fits x.1 y.1 j l in
    simp to_z-of_z (sum_taken_fits c.args.t x.1 y.1 j l)

pub settled-requires-in-Sub-clause-low : goal.settled-requires-in-Sub-clause-low
settled-requires-in-Sub-clause-low c = λ s.
    let x = c.args.x in let y = c.args.y in
    let x0 : FitsSigned w128 x.0 = search rules in
    let x1 : FitsSigned w128 x.1 = search rules in
    let y0 : FitsSigned w128 y.0 = search rules in
    let y1 : FitsSigned w128 y.1 = search rules in
    let i = in_range_some_type c.args.t x.0 c.requires.left.0 in
    let j = in_range_some_type c.args.t x.1 c.requires.left.1 in
    let k = right_number c.args.op c.args.t y.0 c.requires.right.0 in
    let l = right_number c.args.op c.args.t y.1 c.requires.right.1 in
    let f = difference_fits x.0 y.1 i l in
    let g = difference_fits x.1 y.0 j k in
    simp to_z-of_z (difference_taken_fits c.args.t x.0 y.1 i l)

pub settled-requires-in-Sub-clause-high : goal.settled-requires-in-Sub-clause-high
settled-requires-in-Sub-clause-high c = λ s.
    let x = c.args.x in let y = c.args.y in
    let x0 : FitsSigned w128 x.0 = search rules in
    let x1 : FitsSigned w128 x.1 = search rules in
    let y0 : FitsSigned w128 y.0 = search rules in
    let y1 : FitsSigned w128 y.1 = search rules in
    let i = in_range_some_type c.args.t x.0 c.requires.left.0 in
    let j = in_range_some_type c.args.t x.1 c.requires.left.1 in
    let k = right_number c.args.op c.args.t y.0 c.requires.right.0 in
    let l = right_number c.args.op c.args.t y.1 c.requires.right.1 in
    let f = difference_fits x.0 y.1 i l in
    let g = difference_fits x.1 y.0 j k in
    simp to_z-of_z (difference_taken_fits c.args.t x.1 y.0 j k)

pub returns-in-Add : goal.returns-in-Add
returns-in-Add c =
    let x = c.args.x in let y = c.args.y in
    let x0 : FitsSigned w128 x.0 = search rules in
    let x1 : FitsSigned w128 x.1 = search rules in
    let y0 : FitsSigned w128 y.0 = search rules in
    let y1 : FitsSigned w128 y.1 = search rules in
    let i = in_range_some_type c.args.t x.0 c.requires.left.0 in
    let j = in_range_some_type c.args.t x.1 c.requires.left.1 in
    let k = right_number c.args.op c.args.t y.0 c.requires.right.0 in
    let l = right_number c.args.op c.args.t y.1 c.requires.right.1 in
    let f = sum_fits x.0 y.0 i k in
    let g = sum_fits x.1 y.1 j l in
    let d = simp to_z-of_z at c.settled.ensures in
    subst (λ o. c.settled.result ≡ results_of o c.args.t x y) (sym c.in-Add.is) d

pub returns-in-Sub : goal.returns-in-Sub
returns-in-Sub c =
    let x = c.args.x in let y = c.args.y in
    let x0 : FitsSigned w128 x.0 = search rules in
    let x1 : FitsSigned w128 x.1 = search rules in
    let y0 : FitsSigned w128 y.0 = search rules in
    let y1 : FitsSigned w128 y.1 = search rules in
    let i = in_range_some_type c.args.t x.0 c.requires.left.0 in
    let j = in_range_some_type c.args.t x.1 c.requires.left.1 in
    let k = right_number c.args.op c.args.t y.0 c.requires.right.0 in
    let l = right_number c.args.op c.args.t y.1 c.requires.right.1 in
    let f = difference_fits x.0 y.1 i l in
    let g = difference_fits x.1 y.0 j k in
    let d = simp to_z-of_z at c.settled-in-Sub.ensures in
    subst (λ o. c.settled-in-Sub.result ≡ results_of o c.args.t x y) (sym c.in-Sub.is) d
