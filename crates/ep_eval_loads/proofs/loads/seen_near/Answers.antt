use Rattle.std.proofs.Common.{◌≡◌, Some, sym, ap, ◌∙◌, subst}
use Rattle.std.specs.Prelude.{IfSome}
use Rattle.std.proofs.lemmas.Result.{IfOk-weaker}
use Rattle.ep_cells.specs.Cells.{IsIn}
use Rattle.ep_cells.specs.Look.{cell_at, covers}
use Rattle.ep_cell_ranges.specs.Shared.{is_shared_cell}
use Rattle.ep_eval_loads.proofs.Covered.{found_is}
use Rattle.ep_eval_loads.proofs.loads.seen_near.Goals as goal

pub seen_of_cell-requires : goal.seen_of_cell-requires
seen_of_cell-requires g c = record {
  found =
      let k = c.args.state.now in
      found_is k.model c.args.side c.args.spot.0 c.args.spot.1 k.cells c.in-Some.x.now.now c.model.ensures.cells
      (subst (λ o. IfSome o (λ x. IsIn x.now.now k.cells)) c.in-Some.is c.requires)
      (sym (c.covers.ensures ∙ ap (λ d. covers d c.args.side c.args.spot.0 c.args.spot.1 c.in-Some.x.now.now)
      c.model.ensures.value) ∙ c.if-covers.true);
}

pub returns-then-covers-clause-shared : goal.returns-then-covers-clause-shared
returns-then-covers-clause-shared g c =
    let k = c.args.state.now in
    let found : cell_at k.model c.args.side c.args.spot.0 c.args.spot.1 k.cells ≡ Some c.in-Some.x.now.now =
    found_is k.model c.args.side c.args.spot.0 c.args.spot.1 k.cells c.in-Some.x.now.now c.model.ensures.cells
    (subst (λ o. IfSome o (λ x. IsIn x.now.now k.cells)) c.in-Some.is c.requires)
    (sym (c.covers.ensures ∙ ap (λ d. covers d c.args.side c.args.spot.0 c.args.spot.1 c.in-Some.x.now.now)
    c.model.ensures.value) ∙ c.if-covers.true) in
    IfOk-weaker c.seen_of_cell.result _ _ (λ r h. h ∙ sym (ap (is_shared_cell k c.args.what c.args.spot.1) found))
    c.seen_of_cell.ensures.shared
