use Rattle.std.proofs.Common.{◌≡◌, pos, to_z, of_z, w64, rules, ◌<◌, OnOk, sym, subst}
use Rattle.std.specs.Prelude.{unsigned_abs}
use Rattle.std.specs.Int.{w128}
use Rattle.std.proofs.lemmas.Int.{to_z-of_z}
use Rattle.ep_int.specs.declared.types.Scalar.TheVariants.{Int}
use Rattle.ep_int.specs.Memory.{int, stored}
use Rattle.ep_int.specs.Types.{InRange}
use Rattle.ep_bytes.specs.StoreView.{memory_in}
use Rattle.ep_core.specs.View.{init_view}
use Rattle.ep_machine.specs.Settings.{program_in}
use Rattle.ep_machine.proofs.Writes.{like_laid}
use Rattle.ep_concrete.proofs.Firsts.{first_stored, first_there, number_fits, number_short}
use Rattle.ep_concrete.proofs.start.set_first.Goals as goal

pub store-stored-requires-clause-block : goal.store-stored-requires-clause-block
store-stored-requires-clause-block c =
    let p = program_in c.args.on.now in
    subst (λ n. c.args.first.now.block < n) (sym c.requires.laid.count)
    (first_there p (init_view c.args.first.now) c.args.on.now.program.now.well_formed c.requires.fits)

pub store-stored-requires-clause-fits : goal.store-stored-requires-clause-fits
store-stored-requires-clause-fits c =
    let p = program_in c.args.on.now in
    let i = init_view c.args.first.now in
    let same = to_z-of_z w128 c.args.first.now.value (number_short p i c.requires.fits) in
    subst (InRange c.args.first.now.t) (sym same) (number_fits p i c.requires.fits)

pub returns-clause-laid : goal.returns-clause-laid
returns-clause-laid c = like_laid c.args.on.now _ _ c.requires.laid c.store-stored.ensures.like

pub returns-clause-memory : goal.returns-clause-memory
returns-clause-memory c =
    let m = c.args.on.now in
    let h = c.args.store.now in
    let x = c.args.first.now in
    let z = to_z w64 (of_z w64 c.from-place.result) in
    let at : z ≡ pos c.args.first.now.offset = search rules in
    let same = to_z-of_z w128 c.args.first.now.value (number_short (program_in m) (init_view x) c.requires.fits) in
    first_stored m h c.store-stored.new.self (init_view x) c.store-stored.result z at c.requires.laid
    m.program.now.well_formed c.requires.fits c.store-stored.ensures.answer
    (subst (λ v. OnOk c.store-stored.result (memory_in c.store-stored.new.self
    ≡ stored m.order h.model (memory_in h) (Int x.t) x.block (unsigned_abs z) (int v))) same c.store-stored.ensures.stored)
