use Rattle.std.proofs.Common.{◌≡◌, ◌+◌, ◌<◌, FitsSigned, length, get_or, arith, rules, ap, ◌∙◌}
use Rattle.std.specs.Int.{w128}
use Rattle.std.proofs.lemmas.Int.{to_z-of_z}
use Rattle.ep_int.specs.Encoding.{place}
use Rattle.ep_int.specs.Types.{bytes_of}
use Rattle.ep_double.specs.declared.mover.bytes.ByteState.TheVariants.{Unset}
use Rattle.ep_double.specs.ByteStates.{bits, fixed_states, set_state, states_in}
use Rattle.ep_double.proofs.ByteSteps.{fixed_length, set_step}
use Rattle.ep_double.proofs.mover.memory.set_first_value.Goals as goal

pub loop-k-preserved : goal.loop-k-preserved
loop-k-preserved c =
    let n = bytes_of c.args.first.now.t in
    let v = c.args.first.now.value in
    let fits : FitsSigned w128 c.args.first.now.value = search rules in
    let e : c.fixed-value.result.items ≡ fixed_states (bits c.args.first.now.value) 0 (bytes_of c.args.first.now.t) =
    c.fixed-value.ensures.value
    ∙ (ap (λ b. fixed_states b 0 c.bytes-width.result)
    (c.bits_of.ensures ∙ ap bits (to_z-of_z w128 c.args.first.now.value fits))
    ∙ ap (fixed_states (bits c.args.first.now.value) 0) c.bytes-width.ensures.value) in
    let long = fixed_length (bits c.args.first.now.value) 0 (bytes_of c.args.first.now.t) in
    let l : c.loop-k.k < length (fixed_states (bits c.args.first.now.value) 0 (bytes_of c.args.first.now.t)) =
    omega (arith, long, c.bytes-width.ensures.value) in
    set_step c.args.order c.args.first.now.block c.args.first.now.offset n c.loop-k.k (fixed_states (bits v) 0 n)
    (states_in c.loop-k.m.items) _ c.loop-k.invariant c.place.result
    (c.place.ensures.value ∙ ap (λ w. place c.args.order w c.loop-k.k) c.bytes-width.ensures.value) Unset l
    (states_in c.set_byte.new.m.items)
    (c.set_byte.ensures
    ∙ ap (λ ys. set_state (states_in c.loop-k.m.items) c.args.first.now.block
    (c.args.first.now.offset + c.place.result) (get_or ys c.loop-k.k Unset))
    (c.deref.ensures.0 ∙ e))
