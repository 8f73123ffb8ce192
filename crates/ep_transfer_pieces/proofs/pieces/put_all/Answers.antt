use Rattle.std.proofs.Common.{◌≡◌, [], sym, ap, ◌∙◌, subst}
use Rattle.std.proofs.lemmas.List.{nil_from_length}
use Rattle.std.proofs.lemmas.Result.{IfOk-weaker}
use Rattle.std.specs.Vec.Iter.{into_iter_items}
use Rattle.ep_transfer_places.specs.Room.{view}
use Rattle.ep_transfer_pieces.specs.Puts.{after_puts, FitsPut, FitPuts}
use Rattle.ep_transfer_pieces.specs.Rows.{reached}
use Rattle.ep_transfer_pieces.proofs.Turns.{fit_parts, put_next as next_put, put_last}
use Rattle.ep_transfer_pieces.proofs.pieces.put_all.Goals as goal

pub put_next-requires-clause-fits : goal.put_next-requires-clause-fits
put_next-requires-clause-fits g c =
    let i = c.loop-p.invariant in
    let n = c.requires.fits.0 in
    let all = fit_parts c.args.state.model n (into_iter_items c.loop-p.p-iterator)
    (into_iter_items c.next.new.self) c.in-Some.p c.in-Some.ensures.steps.0 (i.fits n c.requires.fits.1.0) in
    (n, (subst (λ d. FitsPut d n c.in-Some.p) (sym i.model) all.0, c.requires.fits.1.1))

pub loop-p-init : goal.loop-p-init
loop-p-init g c =
    let D = g.N.Num.ops in
    let to = view c.args.to.now in
    let same = c.into_iter-p-iterator.ensures.into_iter_gives.0 in
    record {
      value = ap (λ ps. after_puts D c.args.joint to ps (reached D c.settled-now.result)) same
          ∙ ap (after_puts D c.args.joint to c.args.puts.items) c.settled-now.ensures.value;
      model = c.settled-now.ensures.model;
      ready = c.settled-now.ensures.ready;
      fits = λ n h. subst (FitPuts c.args.state.model n) (sym same) h;
    }

pub loop-p-preserved : goal.loop-p-preserved
loop-p-preserved g c =
    let D = g.N.Num.ops in
    let i = c.loop-p.invariant in
    let f = c.in_ok-next.ensures in
    record {
      value = next_put D c.args.joint (view c.args.to.now) (into_iter_items c.loop-p.p-iterator)
          (into_iter_items c.next.new.self) c.in-Some.p (reached D c.loop-p.now) (reached D c.in_ok-next.next) _
          c.in-Some.ensures.steps.0 f.value i.value;
      model = f.model ∙ i.model;
      ready = f.ready;
      fits = λ n h. (fit_parts c.args.state.model n (into_iter_items c.loop-p.p-iterator)
          (into_iter_items c.next.new.self) c.in-Some.p c.in-Some.ensures.steps.0 (i.fits n h)).1;
    }

pub returns-clause-value : goal.returns-clause-value
returns-clause-value g c =
    let none : into_iter_items c.loop-p.p-iterator ≡ []
    = nil_from_length (into_iter_items c.loop-p.p-iterator)
    (sym c.loop-p.p-iterator.rest.ok.0 ∙ c.in-None.ensures.steps.0) in
    IfOk-weaker c.written.result _ _
    (λ s h. h ∙ put_last g.N.Num.ops c.args.joint (view c.args.to.now) (into_iter_items c.loop-p.p-iterator)
    (reached g.N.Num.ops c.loop-p.now) _ none c.loop-p.invariant.value) c.written.ensures.value

pub returns-clause-model : goal.returns-clause-model
returns-clause-model g c =
    IfOk-weaker c.written.result _ _ (λ s h. h ∙ c.loop-p.invariant.model) c.written.ensures.model
