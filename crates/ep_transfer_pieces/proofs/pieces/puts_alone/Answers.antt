use Rattle.std.proofs.Common.{◌+◌, ap, sym, ◌∙◌, subst, arith}
use Rattle.ep_evaluation.specs.Given.{alone, cells_of}
use Rattle.ep_transfers.specs.Places.{at_side, moved_spots}
use Rattle.ep_transfer_places.specs.Room.{HaveRoom, view}
use Rattle.ep_transfer_places.proofs.Moving.{less_room}
use Rattle.ep_transfer_pieces.specs.Pieces.{side_of}
use Rattle.ep_transfer_pieces.specs.Puts.{AreSources}
use Rattle.ep_transfer_pieces.specs.Walked.{next_piece}
use Rattle.ep_transfer_pieces.proofs.Turns.{none_fit, plan_first, plan_last, alone_next}
use Rattle.ep_transfer_pieces.proofs.Walking.{at_first}
use Rattle.ep_transfer_pieces.proofs.pieces.puts_alone.Goals as goal

pub next_part-requires : goal.next_part-requires
next_part-requires g c =
    let inside = c.loop-o-test.true in
    subst (HaveRoom (c.loop-o.o + 1)) (sym c.places-spots.ensures)
    (less_room c.args.bytes (c.loop-o.o + 1) (at_side (view c.args.from.now) (side_of c.args.on))
    (omega (arith, inside)) c.requires.from)

pub push_alone-requires : goal.push_alone-requires
push_alone-requires g c =
    let D = g.N.Num.ops in
    let k = c.args.state.now in
    let x = c.in_ok-part.part in
    subst
    (λ t. AreSources D k t x.next.piece
    (moved_spots c.loop-o.o (at_side (view c.args.from.now) (side_of c.args.on))) x.sources)
    c.cells-side.ensures
    (subst (λ qs. AreSources D k c.cells-side.result x.next.piece (moved_spots c.loop-o.o qs) x.sources)
    c.places-spots.ensures c.in_ok-part.ensures.sources)

pub loop-o-init : goal.loop-o-init
loop-o-init g c =
    let D = g.N.Num.ops in
    let k = c.args.state.now in
    let s = side_of c.args.on in
    record {
      plan = λ joint. plan_first D k (view c.args.from.now) c.args.leaves.now joint (alone s) c.args.bytes
          c.new-puts.result.items c.new-puts.ensures.items;
      fits = none_fit k.model c.args.bytes c.new-puts.result.items c.new-puts.ensures.items;
      at = at_first D k (cells_of s) (at_side (view c.args.from.now) s) c.args.leaves.now c.args.bytes
          c.first-walk.result c.first-walk.ensures.begun c.first-walk.ensures.until c.requires.leaves;
    }

pub loop-o-preserved : goal.loop-o-preserved
loop-o-preserved g c =
    let D = g.N.Num.ops in
    let k = c.args.state.now in
    let s = side_of c.args.on in
    let ps = at_side (view c.args.from.now) s in
    let i = c.loop-o.invariant in
    let next = alone_next D k (view c.args.from.now) c.args.leaves.now c.read_laws.ensures c.model.ensures.cells
    c.args.bytes c.loop-o.o c.requires.leaves c.loop-o-test.true s c.loop-o.walk c.in_ok-part.part.next c.loop-o.puts.items
    c.push_alone.new.puts.items
    (c.in_ok-part.ensures.next
    ∙ ap (λ t. next_piece D k t c.places-spots.result.now c.args.leaves.now c.loop-o.walk c.loop-o.o)
    c.cells-side.ensures
    ∙ ap (λ qs. next_piece D k (cells_of s) qs c.args.leaves.now c.loop-o.walk c.loop-o.o) c.places-spots.ensures)
    i.at i.plan i.fits c.in_ok-push_alone.ensures in
    record { plan = next.plan; fits = next.fits; at = next.at }

pub returns-clause-value : goal.returns-clause-value
returns-clause-value g c = λ joint.
    plan_last g.N.Num.ops c.args.state.now (view c.args.from.now) c.args.leaves.now joint (alone (side_of c.args.on))
    c.args.bytes c.loop-o.o c.loop-o.puts.items c.loop-o-test.false (c.loop-o.invariant.plan joint)

pub returns-clause-fits : goal.returns-clause-fits
returns-clause-fits g c = c.loop-o.invariant.fits
