use Rattle.std.proofs.Common.{[], ◌∷◌, arith}
use Rattle.ep_state_rows.proofs.Walking.{row_none, row_can, row_done}
use Rattle.ep_state_rows.proofs.rows.weaken_row.Goals as goal

pub returns-then-bytes-eq0 : goal.returns-then-bytes-eq0
returns-then-bytes-eq0 g c =
    row_none g.N.Num.ops c.args.state c.args.bytes c.args.cells.now (c.args.q ∷ []) c.requires.bytes
    (omega (arith, c.if-bytes-eq0.true))

pub after-requires : goal.after-requires
after-requires g c =
    let faces = rw c.in-Some.is at c.in_ok-found_row.ensures in
    row_can g.N.Num.ops c.weak_write_laws.ensures c.args.state c.args.bytes c.args.cells.now c.args.start c.args.q
    c.in-Some.row.place c.in-Some.row.new.items c.requires.bytes (λ e. omega (arith, c.if-bytes-eq0.false, e)) faces
    c.requires.row c.model.ensures.cells c.requires.fits

pub returns-in_ok-after-in-Some : goal.returns-in_ok-after-in-Some
returns-in_ok-after-in-Some g c =
    let faces = rw c.in-Some.is at c.in_ok-found_row.ensures in
    row_done g.N.Num.ops c.args.state c.in_ok-after-in-Some.after c.args.bytes c.args.cells.now c.args.start c.args.q
    c.in-Some.row.place c.in-Some.row.new.items c.requires.bytes (λ e. omega (arith, c.if-bytes-eq0.false, e)) faces
    c.requires.row c.model.ensures.cells c.in_ok-after-in-Some.ensures
