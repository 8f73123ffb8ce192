use Rattle.std.proofs.Common.{sym, ◌∙◌, ap, subst, map}
use Rattle.ep_cell_changes.specs.Tests.{AreInOrder}
use Rattle.ep_cell_changes.proofs.Checked.{order_of}
use Rattle.ep_reads.specs.Single.{without_like}
use Rattle.ep_state_looks.proofs.beside.differences.Goals as goal

pub lacked_among-requires-clause-first : goal.lacked_among-requires-clause-first
lacked_among-requires-clause-first g c =
    subst AreInOrder (sym (ap (map (λ r. r.now)) c.deref.ensures.value ∙ c.in_ok-xs.ensures))
    (order_of c.args.a.now.model c.args.a.now.cells c.model.ensures.cells.pairs)

pub lacked_among-requires-clause-second : goal.lacked_among-requires-clause-second
lacked_among-requires-clause-second g c =
    subst AreInOrder (sym (ap (map (λ r. r.now)) c.deref-2.ensures.value ∙ c.in_ok-ys.ensures))
    (order_of c.args.b.now.model c.args.b.now.cells c.model-2.ensures.cells.pairs)

pub lacked_among-requires-2-clause-first : goal.lacked_among-requires-2-clause-first
lacked_among-requires-2-clause-first g c =
    subst AreInOrder (sym (ap (map (λ r. r.now)) c.deref-3.ensures.value ∙ c.in_ok-ys.ensures))
    (order_of c.args.b.now.model c.args.b.now.cells c.model-2.ensures.cells.pairs)

pub lacked_among-requires-2-clause-second : goal.lacked_among-requires-2-clause-second
lacked_among-requires-2-clause-second g c =
    subst AreInOrder (sym (ap (map (λ r. r.now)) c.deref-4.ensures.value ∙ c.in_ok-xs.ensures))
    (order_of c.args.a.now.model c.args.a.now.cells c.model.ensures.cells.pairs)

pub returns-clause-left : goal.returns-clause-left
returns-clause-left g c =
    c.in_ok-left.ensures
    ∙ ap (λ l. without_like l (map (λ r. r.now) c.deref.result.now)) (ap (map (λ r. r.now)) c.deref-2.ensures.value ∙
    c.in_ok-ys.ensures)
    ∙ ap (λ l. without_like c.args.b.now.cells l) (ap (map (λ r. r.now)) c.deref.ensures.value ∙ c.in_ok-xs.ensures)

pub returns-clause-right : goal.returns-clause-right
returns-clause-right g c =
    c.in_ok-right.ensures
    ∙ ap (λ l. without_like l (map (λ r. r.now) c.deref-3.result.now)) (ap (map (λ r. r.now)) c.deref-4.ensures.value ∙
    c.in_ok-xs.ensures)
    ∙ ap (λ l. without_like c.args.a.now.cells l) (ap (map (λ r. r.now)) c.deref-3.ensures.value ∙ c.in_ok-ys.ensures)
