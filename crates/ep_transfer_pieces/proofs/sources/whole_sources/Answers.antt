use Rattle.std.proofs.Common.{◌+◌, drop, get_or, refl, sym, ap, ◌∙◌}
use Rattle.std.specs.Option.{option_map}
use Rattle.std.proofs.lemmas.List.{drop_all}
use Rattle.ep_state_rows.proofs.Beyond.{next}
use Rattle.ep_transfer_pieces.proofs.Looking.{whole_first, whole_none, whole_next, whole_all, whole_found}
use Rattle.ep_transfer_pieces.proofs.sources.whole_sources.Goals as goal

pub loop-q-init : goal.loop-q-init
loop-q-init g c =
    whole_first g.N.Num.ops c.args.state.now c.args.side c.args.what c.args.spots.now c.new-reads.result.items
    c.new-reads.ensures.items

pub loop-q-preserved : goal.loop-q-preserved
loop-q-preserved g c =
    let qs = c.args.spots.now in
    let i = c.loop-q.q-index in
    whole_next g.N.Num.ops c.args.state.now c.args.side c.args.what qs (drop i qs) (drop (i + 1) qs)
    (get_or qs i (0, 0)) (option_map (λ r. r.now) c.cell_at-x.result) (next qs i (0, 0) c.loop-q-test.true)
    c.cell_at-x.ensures c.loop-q.reads.items c.loop-q.shared c.loop-q.invariant c.in-Some.c.now
    c.in_ok-whole_source-in-Some.field-0 c.push.new.out.items c.is_shared-here.result _
    (sym (ap (option_map (λ r. r.now)) c.in-Some.is) ∙ c.exact_cell.ensures) c.in_ok-whole_source-in-Some.ensures
    c.is_shared-here.ensures refl c.in_ok-push-in-Some.ensures

pub returns-in-None-clause-exact : goal.returns-in-None-clause-exact
returns-in-None-clause-exact g c =
    let qs = c.args.spots.now in
    let i = c.loop-q.q-index in
    whole_none g.N.Num.ops c.args.state.now c.args.side c.args.what qs (drop i qs) (drop (i + 1) qs)
    (get_or qs i (0, 0)) (option_map (λ r. r.now) c.cell_at-x.result) (next qs i (0, 0) c.loop-q-test.true)
    c.cell_at-x.ensures c.loop-q.reads.items c.loop-q.shared c.loop-q.invariant
    (sym (ap (option_map (λ r. r.now)) c.in-None.is) ∙ c.exact_cell.ensures)

pub returns-clause-exact : goal.returns-clause-exact
returns-clause-exact g c =
    whole_all g.N.Num.ops c.args.state.now c.args.side c.args.what c.args.spots.now
    (drop c.loop-q.q-index c.args.spots.now) c.loop-q.reads.items c.loop-q.shared
    (drop_all c.loop-q.q-index c.args.spots.now c.loop-q-test.false) c.loop-q.invariant

pub returns-clause-sources : goal.returns-clause-sources
returns-clause-sources g c =
    whole_found g.N.Num.ops c.args.state.now c.args.side c.args.what c.args.spots.now
    (drop c.loop-q.q-index c.args.spots.now) c.loop-q.reads.items c.loop-q.shared
    (drop_all c.loop-q.q-index c.args.spots.now c.loop-q-test.false) c.loop-q.invariant
    (record { reads = c.loop-q.reads; shared = c.loop-q.shared }) refl refl
