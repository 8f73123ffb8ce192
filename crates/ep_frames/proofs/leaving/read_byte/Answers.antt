use Rattle.std.proofs.Common.{◌≡◌, suc, ◌-◌, ◌+◌, ◌%◌, ◌≤◌, ap, ◌∙◌, arith}
use Rattle.ep_int.specs.Memory.{filled}
use Rattle.ep_bytes.specs.StoreView.{StoreView, memory_in}
use Rattle.ep_core.specs.Exec.{model, remembers}
use Rattle.ep_machine.specs.Settings.{program_in, size_on}
use Rattle.ep_machine.specs.Machines.{state_in}
use Rattle.ep_frames.proofs.Bytewise.{range_changed, byte_read}
use Rattle.ep_frames.proofs.leaving.read_byte.Goals as goal

pub overflow_add-result : goal.overflow_add-result
overflow_add-result c =
    let s = c.requires.fits.small in
    let k = c.requires.fits.some in
    record { fits = omega (arith, s, k) }

pub returns-then-at-le1-clause-comes : goal.returns-then-at-le1-clause-comes
returns-then-at-le1-clause-comes c left =
    let m = c.args.on.now in
    let at = c.args.at in
    let q = state_in c.take.new.self in
    let r = state_in c.fill-filled.new.self in
    let v = c.in-Some.v in
    let some = c.requires.fits.some in
    let last = c.requires.fits.inside in
    let inside : at.here + 1 ≤ size_on m at.block = omega (arith, some, last) in
    let d : c.take.new.self.store.model ≡ model m.order (program_in m)
    = ap (λ (h : StoreView). h.model) c.take.ensures.store ∙ c.requires.runs.laid.model in
    let e : r ≡ remembers (filled (model m.order (program_in m)) (memory_in c.take.new.self.store) at.block at.here 1 (v % 256)) q
    = range_changed m at.block at.here 1 _ q r c.fill-filled.result inside c.fill-filled.ensures.fills
    ∙ ap (λ d. remembers (filled d (memory_in c.take.new.self.store) at.block at.here 1 (v % 256)) q) d in
    let test = c.if-at-le1.true in
    let count : at.count ≡ suc 0 = omega (arith, some, test) in
    byte_read m at.block at.count 0 at.here left v (state_in c.args.machine.now) q r count c.in-Some.ensures.takes e

pub returns-else-at-le1-clause-comes : goal.returns-else-at-le1-clause-comes
returns-else-at-le1-clause-comes c left =
    let m = c.args.on.now in
    let at = c.args.at in
    let q = state_in c.take.new.self in
    let r = state_in c.fill-filled.new.self in
    let v = c.in-Some.v in
    let some = c.requires.fits.some in
    let last = c.requires.fits.inside in
    let inside : at.here + 1 ≤ size_on m at.block = omega (arith, some, last) in
    let d : c.take.new.self.store.model ≡ model m.order (program_in m)
    = ap (λ (h : StoreView). h.model) c.take.ensures.store ∙ c.requires.runs.laid.model in
    let e : r ≡ remembers (filled (model m.order (program_in m)) (memory_in c.take.new.self.store) at.block at.here 1 (v % 256)) q
    = range_changed m at.block at.here 1 _ q r c.fill-filled.result inside c.fill-filled.ensures.fills
    ∙ ap (λ d. remembers (filled d (memory_in c.take.new.self.store) at.block at.here 1 (v % 256)) q) d in
    let test = c.if-at-le1.false in
    let count : at.count ≡ suc (at.count - 1) = omega (arith, some, test) in
    byte_read m at.block at.count (at.count - 1) at.here left v (state_in c.args.machine.now) q r count c.in-Some.ensures.takes e
