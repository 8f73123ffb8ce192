use Rattle.std.proofs.Common.{◌≡◌, ◌<◌, ◌≤◌, pos, drop, fold, get_or, length, refl, sym, ap, ◌∙◌, subst, arith}
use Rattle.std.proofs.lemmas.List.{get_or_default}
use Rattle.std.proofs.Math.ListN.{length-map}
use Rattle.ep_int.specs.declared.types.IntType.TheVariants.{I8}
use Rattle.ep_int.specs.declared.types.Scalar.TheVariants.{Int}
use Rattle.ep_int.specs.Memory.{Memory, int, stored}
use Rattle.ep_bytes.specs.StoreView.{memory_in}
use Rattle.ep_core.specs.declared.program.InitByte.{InitByte}
use Rattle.ep_core.specs.Exec.{model}
use Rattle.ep_core.specs.Program.{Init}
use Rattle.ep_core.specs.Runs.{initial}
use Rattle.ep_core.specs.View.{init_view}
use Rattle.ep_machine.specs.Settings.{program_in}
use Rattle.ep_concrete.proofs.Firsts.{first_fits, firsts_next, firsts_end}
use Rattle.ep_concrete.proofs.start.set_firsts.Goals as goal

pub set_first-requires-clause-fits : goal.set_first-requires-clause-fits
set_first-requires-clause-fits c =
    let m = c.args.on.now in
    let xs = c.deref-first-items.result.now in
    let items = m.program.now.init.items in
    let i = c.loop-first.first-index in
    let d : InitByte = record { block = 0; offset = 0; t = I8; value = pos 0 } in
    let x : InitByte = get_or xs i d in
    let there = subst (λ ys. i < length ys) c.deref-first-items.ensures.value c.loop-first-test.true in
    let is : x ≡ get_or items i x
    = get_or_default xs i d x c.loop-first-test.true ∙ ap (λ ys. get_or ys i x) c.deref-first-items.ensures.value in
    first_fits (program_in m) m.program.now.well_formed items refl i x there is

pub loop-first-init : goal.loop-first-init
loop-first-init c =
    let m = c.args.on.now in
    record {
      laid = c.requires.laid;
      rest = ap (λ z. fold
          (λ (x : Memory) (i : Init). stored m.order (model m.order (program_in m)) x (Int i.t) i.block i.offset (int i.value))
          z (program_in m).init) c.requires.blank;
    }

pub loop-first-preserved : goal.loop-first-preserved
loop-first-preserved c =
    let m = c.args.on.now in
    let xs = c.deref-first-items.result.now in
    let items = m.program.now.init.items in
    let i = c.loop-first.first-index in
    let d : InitByte = record { block = 0; offset = 0; t = I8; value = pos 0 } in
    let x : InitByte = get_or xs i d in
    let there = subst (λ ys. i < length ys) c.deref-first-items.ensures.value c.loop-first-test.true in
    let is : x ≡ get_or items i x
    = get_or_default xs i d x c.loop-first-test.true ∙ ap (λ ys. get_or ys i x) c.deref-first-items.ensures.value in
    record {
      laid = c.set_first.ensures.laid;
      rest = firsts_next init_view
          (λ (x : Memory) (i : Init). stored m.order (model m.order (program_in m)) x (Int i.t) i.block i.offset (int i.value))
          i items x (memory_in c.loop-first.store) (memory_in c.set_first.new.store) (initial m.order (program_in m))
          there is c.set_first.ensures.memory c.loop-first.invariant.rest;
    }

pub returns-clause-memory : goal.returns-clause-memory
returns-clause-memory c =
    let m = c.args.on.now in
    let items = m.program.now.init.items in
    let i = c.loop-first.first-index in
    let n = length-map items init_view in
    let past = subst (λ ys. length ys ≤ i) c.deref-first-items.ensures.value c.loop-first-test.false in
    firsts_end
    (λ (x : Memory) (i : Init). stored m.order (model m.order (program_in m)) x (Int i.t) i.block i.offset (int i.value))
    i (program_in m).init (memory_in c.loop-first.store) (initial m.order (program_in m)) (omega (arith, n, past))
    c.loop-first.invariant.rest
