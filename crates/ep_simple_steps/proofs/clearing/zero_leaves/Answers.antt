use Rattle.std.proofs.Common.{◌≡◌, ◌+◌, ◌≤◌, get_or, take, refl, sym, ap, ◌∙◌, subst, arith}
use Rattle.ep_int.specs.declared.types.IntType.TheVariants.{I8}
use Rattle.ep_int.specs.declared.types.Scalar.TheVariants.{Int}
use Rattle.ep_int.specs.Types.{size_of}
use Rattle.ep_int.specs.Memory.{replaced}
use Rattle.ep_layout.specs.declared.types.Leaf.{Leaf}
use Rattle.ep_core.specs.Exec.{model, remembers}
use Rattle.ep_machine.specs.Settings.{program_in}
use Rattle.ep_machine.specs.Machines.{state_in}
use Rattle.ep_simple_steps.specs.Zeros.{zeros_in}
use Rattle.ep_simple_steps.proofs.Waiting.{leaf_inside, run_inside, start_of, state_done, state_first, state_next, upto, waits_next}
use Rattle.ep_simple_steps.proofs.Waiting.{waits_none, Waits}
use Rattle.ep_simple_steps.proofs.clearing.zero_leaves.Goals as goal

pub overflow_add-to : goal.overflow_add-to
overflow_add-to c =
    let m = c.args.on.now in
    let fs = c.args.leaves.now in
    let i = c.loop-leaf.leaf-index in
    let g : Leaf = record { offset = 0; what = Int I8 } in
    let f : Leaf = get_or fs i g in
    let ends = leaf_inside m fs c.args.n i c.loop-leaf.from c.loop-leaf.to c.loop-leaf.invariant.waits f g c.loop-leaf-test.true refl in
    let width : c.size-width.result ≡ size_of (model m.order (program_in m)) f.what
    = c.size-width.ensures.value ∙ ap (λ t. size_of t f.what) c.model.ensures.model in
    let small = c.requires.small in
    record { fits = omega (arith, ends, width, small) }

pub loop-leaf-init : goal.loop-leaf-init
loop-leaf-init c = record {
  runs = c.requires.runs;
  ordered = omega arith;
  inside = omega arith;
  waits = waits_none c.args.on.now c.args.leaves.now c.args.n c.requires.leaves;
  zeros = λ x p e. state_first c.args.on.now c.args.leaves.now c.args.n x c.args.block c.args.here (state_in c.args.machine.now) e;
}

pub loop-leaf-preserved : goal.loop-leaf-preserved
loop-leaf-preserved c =
    let m = c.args.on.now in
    let d = model m.order (program_in m) in
    let fs = c.args.leaves.now in
    let n = c.args.n in
    let i = c.loop-leaf.leaf-index in
    let from = c.loop-leaf.from in
    let to = c.loop-leaf.to in
    let old = c.loop-leaf.invariant in
    let g : Leaf = record { offset = 0; what = Int I8 } in
    let f : Leaf = get_or fs i g in
    let w = c.size-width.result in
    let width : w ≡ size_of d f.what
    = c.size-width.ensures.value ∙ ap (λ t. size_of t f.what) c.model.ensures.model in
    let waits = waits_next m fs n i from to old.waits f g c.loop-leaf-test.true refl w width in
    let begins = sym c.begun_at-from.ensures.from in
    record {
      runs = c.begun_at-from.ensures.runs;
      ordered = subst (λ k. k ≤ f.offset + w) begins waits.run.ordered;
      inside = run_inside m fs n (i + 1) (start_of f.offset from to) (f.offset + w) waits;
      waits = subst (λ k. Waits m fs (i + 1) k (f.offset + w) n) begins waits;
      zeros = λ x parts e. subst (λ k. state_in c.begun_at-from.new.machine ≡ remembers (replaced d x c.args.block c.args.here n
          (upto (zeros_in m (take (i + 1) fs)) k)) (state_in c.args.machine.now)) begins
          (state_next m fs n i from to old.waits f g c.loop-leaf-test.true refl x parts c.args.block c.args.here
          (state_in c.loop-leaf.machine) (state_in c.begun_at-from.new.machine) (state_in c.args.machine.now)
          c.begun_at-from.ensures.zeros (old.zeros x parts e));
    }

pub returns-clause-zeros : goal.returns-clause-zeros
returns-clause-zeros c x parts e =
    state_done c.args.on.now c.args.leaves.now c.args.n c.loop-leaf.leaf-index c.loop-leaf.from c.loop-leaf.to
    c.loop-leaf.invariant.waits x parts c.args.block c.args.here (state_in c.loop-leaf.machine)
    (state_in c.zero_run.new.machine) (state_in c.args.machine.now) c.loop-leaf-test.false c.zero_run.ensures.zeros
    (c.loop-leaf.invariant.zeros x parts e)
