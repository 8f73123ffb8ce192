use Rattle.std.proofs.Common.{Some, sym, ap, ◌∙◌}
use Rattle.ep_simple_steps.proofs.Solid.{array_solid, int_solid, pointer_solid, solid_type}
use Rattle.ep_simple_steps.proofs.clearing.is_solid.Goals as goal

pub returns-in-Some-Int : goal.returns-in-Some-Int
returns-in-Some-Int c e =
    let t = c.args.types.now in
    let there = sym c.row.ensures ∙ c.in-Some-Int.is ∙ ap Some c.in-Some-Int.field-0-is in
    solid_type t c.args.ty (c.loop-depth.invariant (int_solid t c.loop-depth.inner c.in-Some-Int.field-0-0 there))

pub returns-in-Some-Ptr : goal.returns-in-Some-Ptr
returns-in-Some-Ptr c e =
    let t = c.args.types.now in
    let there = sym c.row.ensures ∙ c.in-Some-Ptr.is ∙ ap Some c.in-Some-Ptr.field-0-is in
    solid_type t c.args.ty (c.loop-depth.invariant (pointer_solid t c.loop-depth.inner c.in-Some-Ptr.field-0-0 there))

pub loop-depth-preserved : goal.loop-depth-preserved
loop-depth-preserved c s =
    let t = c.args.types.now in
    let there = sym c.row.ensures ∙ c.in-Some-Array.is ∙ ap Some c.in-Some-Array.field-0-is in
    c.loop-depth.invariant
    (array_solid t c.loop-depth.inner c.in-Some-Array.element c.in-Some-Array.field-0-1 there s)
