use Rattle.std.proofs.Common.{◌≡◌, ◌+◌, ◌≤◌, [], sym, ap, ◌∙◌, subst}
use Rattle.ep_core.proofs.Tables.{no_leaves}
use Rattle.ep_int.specs.Memory.{replaced, undefined}
use Rattle.ep_bytes.specs.StoreView.{memory_in}
use Rattle.ep_core.specs.Exec.{State, model, remembers}
use Rattle.ep_machine.specs.Settings.{program_in, size_on}
use Rattle.ep_machine.specs.Machines.{state_in}
use Rattle.ep_simple_steps.specs.Zeros.{zeros_in}
use Rattle.ep_simple_steps.proofs.Clears.{cleared_is, undefined_is}
use Rattle.ep_simple_steps.proofs.Solid.{full_cleared}
use Rattle.ep_simple_steps.proofs.clearing.clear_inside.Goals as goal

pub returns-then-is_solid-clause-clears : goal.returns-then-is_solid-clause-clears
returns-then-is_solid-clause-clears c =
    let m = c.args.on.now in
    let n = c.bytes_in-n.result in
    let inside : c.args.here + n ≤ size_on m c.args.block
    = subst (λ k. c.args.here + k ≤ size_on m c.args.block) (sym c.bytes_in-n.ensures) c.requires.inside in
    full_cleared m c.args.ty (c.is_solid.ensures c.if-is_solid.true) (memory_in c.args.machine.now.store) c.args.block
    c.args.here n c.args.machine.now.store.model (state_in c.args.machine.now) (state_in c.fill-filled.new.self)
    c.fill-filled.result c.requires.runs.laid.model c.bytes_in-n.ensures inside c.fill-filled.ensures.fills

pub returns-then-ty-type_count-clause-clears : goal.returns-then-ty-type_count-clause-clears
returns-then-ty-type_count-clause-clears c =
    let m = c.args.on.now in
    let x = memory_in c.args.machine.now.store in
    let old = state_in c.args.machine.now in
    let n = c.bytes_in-n.result in
    let inside : c.args.here + n ≤ size_on m c.args.block
    = subst (λ k. c.args.here + k ≤ size_on m c.args.block) (sym c.bytes_in-n.ensures) c.requires.inside in
    undefined_is m x c.args.block c.args.here n c.args.machine.now.store.model old (state_in c.clear-cleared.new.self)
    c.clear-cleared.result c.requires.runs.laid.model inside c.clear-cleared.ensures.clears
    ∙ cleared_is m x c.args.ty c.args.block c.args.here n [] old
    (sym (no_leaves (program_in m).types c.args.ty
    (subst (λ k. k ≤ c.args.ty) c.type_count.ensures c.if-ty-type_count.true)))
    c.bytes_in-n.ensures

pub returns-clause-clears : goal.returns-clause-clears
returns-clause-clears c =
    let m = c.args.on.now in
    let d = model m.order (program_in m) in
    let x = memory_in c.args.machine.now.store in
    let old = state_in c.args.machine.now in
    let n = c.bytes_in-n.result in
    let inside : c.args.here + n ≤ size_on m c.args.block
    = subst (λ k. c.args.here + k ≤ size_on m c.args.block) (sym c.bytes_in-n.ensures) c.requires.inside in
    let cleared : state_in c.clear-cleared.new.self
    ≡ remembers (replaced d x c.args.block c.args.here n (λ k. undefined)) old
    = undefined_is m x c.args.block c.args.here n c.args.machine.now.store.model old (state_in c.clear-cleared.new.self)
    c.clear-cleared.result c.requires.runs.laid.model inside c.clear-cleared.ensures.clears in
    c.zero_leaves.ensures.zeros x c.requires.runs.parts (ap (λ (y : State). y.memory) cleared)
    ∙ ap (λ (y : State). remembers (replaced d x c.args.block c.args.here n (zeros_in m c.deref.result.now)) y) cleared
    ∙ cleared_is m x c.args.ty c.args.block c.args.here n c.deref.result.now old
    (c.deref.ensures.value ∙ c.in_ok-leaves.ensures.value) c.bytes_in-n.ensures
