use Rattle.std.proofs.Common.{◌+◌, ap, sym, ◌∙◌, subst, arith}
use Rattle.ep_core.specs.Runs.{left, right}
use Rattle.ep_equalities.specs.declared.pair.Mode.TheVariants.{Both}
use Rattle.ep_evaluation.specs.Given.{cells_of}
use Rattle.ep_transfers.specs.Places.{moved_spots}
use Rattle.ep_transfer_places.specs.Room.{HaveRoom, view}
use Rattle.ep_transfer_places.proofs.Moving.{less_room}
use Rattle.ep_transfer_pieces.specs.Puts.{AreSources}
use Rattle.ep_transfer_pieces.specs.Walked.{next_piece}
use Rattle.ep_transfer_pieces.proofs.Turns.{none_fit, plan_first, plan_last, both_next}
use Rattle.ep_transfer_pieces.proofs.Walking.{at_first}
use Rattle.ep_transfer_pieces.proofs.pieces.puts_both.Goals as goal

pub next_part-requires : goal.next_part-requires
next_part-requires g c =
    let inside = c.loop-o-test.true in
    subst (HaveRoom (c.loop-o.o + 1)) (sym c.deref.ensures.value)
    (less_room c.args.bytes (c.loop-o.o + 1) (view c.args.from.now).left (omega (arith, inside))
    c.requires.from.left)

pub next_part-requires-in-loop-o : goal.next_part-requires-in-loop-o
next_part-requires-in-loop-o g c =
    let inside = c.loop-o-test.true in
    subst (HaveRoom (c.loop-o.o + 1)) (sym c.deref-in-loop-o.ensures.value)
    (less_room c.args.bytes (c.loop-o.o + 1) (view c.args.from.now).right (omega (arith, inside))
    c.requires.from.right)

pub push_both-requires-clause-left : goal.push_both-requires-clause-left
push_both-requires-clause-left g c =
    let x = c.in_ok-on_left.on_left in
    subst
    (λ qs. AreSources g.N.Num.ops c.args.state.now (cells_of left) x.next.piece (moved_spots c.loop-o.o qs) x.sources)
    c.deref.ensures.value c.in_ok-on_left.ensures.sources

pub push_both-requires-clause-right : goal.push_both-requires-clause-right
push_both-requires-clause-right g c =
    let x = c.in_ok-on_right.on_right in
    subst
    (λ qs. AreSources g.N.Num.ops c.args.state.now (cells_of right) x.next.piece (moved_spots c.loop-o.o qs)
    x.sources)
    c.deref-in-loop-o.ensures.value c.in_ok-on_right.ensures.sources

pub loop-o-init : goal.loop-o-init
loop-o-init g c =
    let D = g.N.Num.ops in
    let k = c.args.state.now in
    let from = view c.args.from.now in
    record {
      plan = plan_first D k from c.args.leaves.now c.args.joint Both c.args.bytes c.new-puts.result.items
          c.new-puts.ensures.items;
      fits = none_fit k.model c.args.bytes c.new-puts.result.items c.new-puts.ensures.items;
      left_at = at_first D k (cells_of left) from.left c.args.leaves.now c.args.bytes c.first-left.result
          c.first-left.ensures.begun c.first-left.ensures.until c.requires.leaves;
      right_at = at_first D k (cells_of right) from.right c.args.leaves.now c.args.bytes c.first-right.result
          c.first-right.ensures.begun c.first-right.ensures.until c.requires.leaves;
    }

pub loop-o-preserved : goal.loop-o-preserved
loop-o-preserved g c =
    let D = g.N.Num.ops in
    let k = c.args.state.now in
    let from = view c.args.from.now in
    let ls = c.args.leaves.now in
    let o = c.loop-o.o in
    let i = c.loop-o.invariant in
    let next = both_next D k from ls c.read_laws.ensures c.model.ensures.cells c.args.bytes o c.requires.leaves
    c.loop-o-test.true c.args.joint c.loop-o.left c.loop-o.right c.in_ok-on_left.on_left.next c.in_ok-on_right.on_right.next
    c.loop-o.puts.items c.push_both.new.puts.items
    (c.in_ok-on_left.ensures.next
    ∙ ap (λ qs. next_piece D k (cells_of left) qs ls c.loop-o.left o) c.deref.ensures.value)
    (c.in_ok-on_right.ensures.next
    ∙ ap (λ qs. next_piece D k (cells_of right) qs ls c.loop-o.right o) c.deref-in-loop-o.ensures.value)
    i.left_at i.right_at i.plan i.fits c.in_ok-push_both.ensures in
    record { plan = next.plan; fits = next.fits; left_at = next.left_at; right_at = next.right_at }

pub returns-clause-value : goal.returns-clause-value
returns-clause-value g c =
    plan_last g.N.Num.ops c.args.state.now (view c.args.from.now) c.args.leaves.now c.args.joint Both c.args.bytes
    c.loop-o.o c.loop-o.puts.items c.loop-o-test.false c.loop-o.invariant.plan

pub returns-clause-fits : goal.returns-clause-fits
returns-clause-fits g c = c.loop-o.invariant.fits
