use Rattle.std.proofs.Common.{◌≡◌, ◌∙◌, ap, subst, sym, arith, refl, ◌<◌, length, map, Some, option_map}
use Rattle.std.proofs.lemmas.List.{length-map}
use Rattle.std.proofs.lemmas.Option.{slice_get_read}
use Rattle.ep_layout.specs.TableInvariant.{entry_view}
use Rattle.ep_layout.specs.Layout.{Layout}
use Rattle.ep_layout.specs.Table.{Table, aggregate_layout}
use Rattle.ep_layout.proofs.Keeping.{entry_size_is}
use Rattle.ep_layout.proofs.table.Types.aggregate_size.Goals as goal

pub returns-in-Some : goal.returns-in-Some
returns-in-Some c =
    let seen : c.args.aggregate < length (map entry_view c.self.inside.aggregates.items) = subst (λ (t : Table). c.args.aggregate < length t.aggregates) (sym c.self.view_is) c.requires in
    let same : length (map entry_view c.self.inside.aggregates.items) ≡ length c.self.inside.aggregates.items = simp length-map in
    let there : c.args.aggregate < length c.self.inside.aggregates.items = omega arith in
    let g = slice_get_read c.self.inside.aggregates.items _ c.args.aggregate c.index.result.now refl there c.index.ensures in
    entry_size_is c.self.inside c.self.invariant c.args.aggregate c.index.result.now (Some c.in-Some.extent) g (sym c.in-Some.is ∙ c.extent.ensures)
    ∙ ap (λ (t : Table). option_map (λ (l : Layout). l.size) (aggregate_layout t c.args.aggregate)) c.self.view_is
