use Rattle.std.proofs.Common.{◌≡◌, ◌<◌, length, refl, Some, arith, slice_get}
use Rattle.ep_int.proofs.Basics.{slice_get-here}
use Rattle.ep_core.specs.ProgramView.{program_view}
use Rattle.ep_certcheck.proofs.HeadsOf.{is_there, is_small, has_cell, cell_of, cell_there, cell_read}
use Rattle.ep_certcheck.proofs.naming.named.Goals as goal

pub index-requires : goal.index-requires
index-requires g c =
    let inside : c.args.cell < length c.in_ok-cells.cells.items =
    cell_there (λ r. r.now) c.in_ok-cells.cells.items c.index-heads-head.result.cells c.args.cell
    c.in_ok-cells.ensures
    (has_cell g.N.Num.ops (program_view c.args.c.now.program.now) c.args.c.now.left c.args.c.now.right
    c.args.heads.now c.args.head c.args.cell c.requires.outside c.unify_laws.ensures c.requires.heads
    c.index-heads-head.result
    (slice_get-here c.args.heads.now c.args.head c.index-heads-head.result
    (is_there g.N.Num.ops (program_view c.args.c.now.program.now) c.args.c.now.left c.args.c.now.right
    c.args.heads.now c.args.head c.args.cell c.requires.outside) c.index-heads-head.is) c.model.ensures.cells) in
    omega (arith, inside)

pub returns-clause-few : goal.returns-clause-few
returns-clause-few g c =
    is_small g.N.Num.ops (program_view c.args.c.now.program.now) c.args.c.now.left c.args.c.now.right c.args.heads.now
    c.args.head c.args.cell c.requires.outside c.requires.few

pub returns-clause-cell : goal.returns-clause-cell
returns-clause-cell g c =
    let head : slice_get c.args.heads.now c.args.head ≡ Some c.index-heads-head.result =
    slice_get-here c.args.heads.now c.args.head c.index-heads-head.result
    (is_there g.N.Num.ops (program_view c.args.c.now.program.now) c.args.c.now.left c.args.c.now.right
    c.args.heads.now c.args.head c.args.cell c.requires.outside) c.index-heads-head.is in
    let inside : c.args.cell < length c.in_ok-cells.cells.items =
    cell_there (λ r. r.now) c.in_ok-cells.cells.items c.index-heads-head.result.cells c.args.cell
    c.in_ok-cells.ensures
    (has_cell g.N.Num.ops (program_view c.args.c.now.program.now) c.args.c.now.left c.args.c.now.right
    c.args.heads.now c.args.head c.args.cell c.requires.outside c.unify_laws.ensures c.requires.heads
    c.index-heads-head.result head c.model.ensures.cells) in
    cell_of c.args.heads.now c.args.head c.args.cell c.index-heads-head.result c.index-heads-head.result.cells
    c.index.result.now.now c.name_of.result head refl
    (cell_read (λ r. r.now) c.in_ok-cells.cells.items c.index-heads-head.result.cells c.args.cell c.index.result.now
    c.in_ok-cells.ensures (slice_get-here c.in_ok-cells.cells.items c.args.cell c.index.result.now inside
    c.index.ensures)) c.name_of.ensures
