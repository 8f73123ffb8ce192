use Rattle.std.proofs.Common.{◌≡◌, ◌<◌, ◌∙◌, sym, refl, subst, length, Some, map, true}
use Rattle.std.specs.List.{list_all}
use Rattle.std.specs.Vec.{with_item}
use Rattle.std.proofs.lemmas.List.{length-map}
use Rattle.std.proofs.lemmas.Option.{slice_get_read}
use Rattle.ep_layout.specs.Table.{Table, is_type, completed_with}
use Rattle.ep_layout.specs.TableInvariant.{IsKept, table_of, entry_view}
use Rattle.ep_layout.specs.Views.{named_view}
use Rattle.ep_layout.proofs.KeptGrowth.{kept_same_completed, completes_now}
use Rattle.ep_layout.proofs.PlacingLemmas.{all_named}
use Rattle.ep_layout.proofs.Results.{is_ok_there, is_err_there, chosen, other_chosen}
use Rattle.ep_layout.proofs.table.Types.complete.Goals as goal

pub invariant_of-self : goal.invariant_of-self
invariant_of-self c =
    kept_same_completed c.self.inside c.push.new.self c.self.invariant (other_chosen _ _ _ _ (is_err_there c.push.result (sym c.is_err.ensures.value ∙ c.if-is_err.true)) c.push.ensures.items)

step : (c : goal.Joined-index_mut) → (IsKept (record c.self.inside { aggregates = with_item c.self.inside.aggregates c.args.aggregate (record c.index_mut.result.now { body = Some c.in_ok-body.body }); completed = c.push.new.self }))
    × (table_of (record c.self.inside { aggregates = with_item c.self.inside.aggregates c.args.aggregate (record c.index_mut.result.now { body = Some c.in_ok-body.body }); completed = c.push.new.self }) ≡ completed_with c.args.self.now c.args.aggregate (named_view c.args.members.items))
step c =
    let s = c.self.inside in
    let a = c.args.aggregate in
    let g = c.index_mut.result.now in
    let inside : a < length (map entry_view s.aggregates.items) = subst (λ (t : Table). a < length t.aggregates) (sym c.self.view_is) c.requires.exists in
    let below : a < length s.aggregates.items = rw (length-map s.aggregates.items entry_view) at inside in
    let here = slice_get_read s.aggregates.items _ a g refl below c.index_mut.ensures.value in
    let pushed = chosen _ _ _ _ (is_ok_there c.push.result (sym c.is_err.ensures.value ∙ c.if-is_err.false)) c.push.ensures.items in
    let types : list_all (λ m. is_type c.args.self.now m.1) (named_view c.args.members.items) ≡ true = all_named (is_type c.args.self.now) c.args.members.items ∙ c.requires.parts in
    completes_now s (with_item s.aggregates a (record g { body = Some c.in_ok-body.body })) c.push.new.self a g c.in_ok-body.body (named_view c.args.members.items) c.is_union.result c.args.self.now c.self.view_is c.self.invariant here refl pushed
    c.requires.open types c.is_union.ensures c.in_ok-body.ensures.fits c.in_ok-body.ensures.members c.in_ok-body.ensures.extent

pub invariant_of-self-2 : goal.invariant_of-self-2
invariant_of-self-2 c = (step c).0

pub returns-clause-grown : goal.returns-clause-grown
returns-clause-grown c = (step c).1
