use Rattle.std.proofs.Common.{◌≡◌, ◌∙◌, ap, subst, arith, refl, Some, slice_get}
use Rattle.std.proofs.lemmas.Option.{slice_get_read, slice_get_within}
use Rattle.ep_layout.specs.declared.types.Ty.TheVariants.{Aggregate}
use Rattle.ep_layout.specs.Table.{Table, IsBuilt}
use Rattle.ep_layout.proofs.Keeping.{row_there, aggregate_extent_is, other_extent_is, extent_fits, type_extent}
use Rattle.ep_layout.proofs.table.Types.extent.Goals as goal

pub index-requires : goal.index-requires
index-requires c =
    let there = row_there c.self.inside c.self.invariant c.args.ty c.in-Aggregate.a (c.get.ensures ∙ ap Some c.in-Aggregate.is) in
    omega (arith, there)

value_there : (c : goal.After-extent) → c.extent.result ≡ type_extent c.args.self.now c.args.ty
value_there c =
    let a = c.in-Aggregate.a in
    let h : slice_get c.self.inside.types c.args.ty ≡ Some (Aggregate a) = c.get.ensures ∙ ap Some c.in-Aggregate.is in
    let there = row_there c.self.inside c.self.invariant c.args.ty a h in
    let g = slice_get_read c.self.inside.aggregates.items _ a c.index.result.now refl there c.index.ensures in
    c.extent.ensures ∙ aggregate_extent_is c.self.inside c.self.invariant c.args.ty a c.index.result.now h g ∙ ap (λ (t : Table). type_extent t c.args.ty) c.self.view_is

built : (c : goal.After-extent) → IsBuilt c.args.self.now
built c = subst IsBuilt c.self.view_is c.self.invariant.built

pub returns-in-Aggregate-clause-value : goal.returns-in-Aggregate-clause-value
returns-in-Aggregate-clause-value c = value_there c

pub returns-in-Aggregate-clause-within : goal.returns-in-Aggregate-clause-within
returns-in-Aggregate-clause-within c = extent_fits c.args.self.now (built c) c.args.ty c.extent.result (value_there c)

value_other : (c : goal.After-result-1) → c.index-in_default.result.now ≡ type_extent c.args.self.now c.args.ty
value_other c =
    let there = slice_get_within c.self.inside.types c.args.ty c.get.result.now c.get.ensures in
    let x = slice_get_read c.self.inside.extents.items _ c.args.ty c.index-in_default.result.now refl (omega (arith, there, c.self.invariant.count)) c.index-in_default.ensures in
    other_extent_is c.self.inside c.self.invariant c.args.ty c.get.result.now c.index-in_default.result.now c.get.ensures c.in_default.not-Aggregate x ∙ ap (λ (t : Table). type_extent t c.args.ty) c.self.view_is

pub returns-in_default : goal.returns-in_default
returns-in_default c = record {
  value = value_other c;
  within = extent_fits c.args.self.now (subst IsBuilt c.self.view_is c.self.invariant.built) c.args.ty c.index-in_default.result.now (value_other c);
}
