use Rattle.std.proofs.Common.{◌∙◌, ap, sym, Err}
use Rattle.ep_layout.specs.Table.{is_union}
use Rattle.ep_layout.specs.Views.{named_view}
use Rattle.ep_typing.specs.declared.types.CType.{CType}
use Rattle.ep_typing.specs.Env.{Env}
use Rattle.ep_elaboration.specs.Aggregates as rule
use Rattle.ep_scopes.specs.Comes.{Comes}
use Rattle.ep_scopes.specs.View.{env, fields}
use Rattle.ep_scopes.proofs.Coming.{comes_itself}
use Rattle.ep_declared.proofs.Answering.{answered}
use Rattle.ep_declared.proofs.BodyComing.{closed_comes, same_comes}
use Rattle.ep_declared.proofs.ClosingLemmas.{closed_gives, closed_stops, members_types, no_members, none_there}
use Rattle.ep_declared.proofs.ClosingLemmas.{some_there}
use Rattle.ep_declared.proofs.TagLemmas.{IsClosed, completed_first, is_closed, listed_types}
use Rattle.ep_declared.proofs.closing.closed.Goals as goal

pub complete-requires : goal.complete-requires
complete-requires c = record {
  exists = c.requires.exists;
  «open» = c.requires.empty;
  parts = listed_types c.args.env.now.types c.in_ok-parts.parts.members.items (rule.members_in c.args.named.now)
      (c.in_ok-parts.ensures.members ∙ ap rule.members_in c.all-entries.ensures.all)
      (members_types c.args.env.now.types c.args.named.now (rule.fields_packed c.args.named.now) c.requires.members);
}

pub add_type-requires : goal.add_type-requires
add_type-requires c =
    completed_first (env c.args.env.now) c.args.aggregate (named_view c.in_ok-parts.parts.members.items)
    c.whole-c.result c.complete.new.self c.requires.exists c.requires.empty c.in-Ok.ensures.grown c.whole-c.ensures

closes : (c : goal.In_ok-add_type-in-Ok) → IsClosed (env c.args.env.now) c.args.aggregate c.whole-c.result
    c.complete.new.self c.add_type.new.types
closes c =
    is_closed (env c.args.env.now) c.args.aggregate (named_view c.in_ok-parts.parts.members.items) c.whole-c.result
    c.complete.new.self c.add_type.new.types c.requires.known c.requires.exists c.requires.empty
    c.in-Ok.ensures.grown c.whole-c.ensures c.in_ok-add_type-in-Ok.ensures

pub returns-in_ok-add_type-in-Ok-clause-known : goal.returns-in_ok-add_type-in-Ok-clause-known
returns-in_ok-add_type-in-Ok-clause-known c = let d = closes c in d.known

pub returns-in_ok-add_type-in-Ok-clause-inside : goal.returns-in_ok-add_type-in-Ok-clause-inside
returns-in_ok-add_type-in-Ok-clause-inside c = let d = closes c in d.inside

pub returns-in_ok-add_type-in-Ok-clause-grown : goal.returns-in_ok-add_type-in-Ok-clause-grown
returns-in_ok-add_type-in-Ok-clause-grown c = let d = closes c in d.grown

pub returns-in_ok-add_type-in-Ok-clause-stay : goal.returns-in_ok-add_type-in-Ok-clause-stay
returns-in_ok-add_type-in-Ok-clause-stay c = let d = closes c in d.stay

pub returns-then-lacks_members-clause-means : goal.returns-then-lacks_members-clause-means
returns-then-lacks_members-clause-means c =
    rw c.refused.ensures (no_members c.args.line (env c.args.env.now) c.args.aggregate
    (is_union c.args.env.now.types c.args.aggregate) c.args.named.now
    (named_view c.in_ok-parts.parts.members.items)
    (c.in_ok-parts.ensures.members ∙ ap rule.members_in c.all-entries.ensures.all)
    (ap named_view (sym c.deref.ensures.value) ∙ none_there c.deref.result.now (sym c.lacks_members.ensures
    ∙ c.if-lacks_members.true)))

pub returns-in_ok-add_type-in-Ok-clause-means : goal.returns-in_ok-add_type-in-Ok-clause-means
returns-in_ok-add_type-in-Ok-clause-means c =
    closed_gives c.args.line (env c.args.env.now) c.args.aggregate (is_union c.args.env.now.types c.args.aggregate)
    c.args.named.now (named_view c.in_ok-parts.parts.members.items) c.whole-c.result c.complete.new.self
    c.add_type.new.types (fields c.keep.new.fields)
    (c.in_ok-parts.ensures.members ∙ ap rule.members_in c.all-entries.ensures.all)
    (λ e. some_there c.deref.result.now (sym c.lacks_members.ensures ∙ c.if-lacks_members.false)
    (ap named_view c.deref.ensures.value ∙ e))
    c.in-Ok.ensures.fits c.in-Ok.ensures.grown
    (c.in_ok-keep-in-Ok.ensures ∙ ap (rule.with_fields (fields c.args.env.now.fields) c.args.aggregate)
    c.all-entries.ensures.all)
    c.whole-c.ensures c.in_ok-add_type-in-Ok.ensures

pub returns-in-Err-clause-means : goal.returns-in-Err-clause-means
returns-in-Err-clause-means c =
    rw c.stopped.ensures (closed_stops c.args.line (env c.args.env.now) c.args.aggregate
    (is_union c.args.env.now.types c.args.aggregate) c.args.named.now
    (named_view c.in_ok-parts.parts.members.items) c.in-Err.stop
    (c.in_ok-parts.ensures.members ∙ ap rule.members_in c.all-entries.ensures.all)
    (λ e. some_there c.deref.result.now (sym c.lacks_members.ensures ∙ c.if-lacks_members.false)
    (ap named_view c.deref.ensures.value ∙ e))
    c.in-Err.ensures.stop)

pub returns-in_err-parts-clause-comes : goal.returns-in_err-parts-clause-comes
returns-in_err-parts-clause-comes c =
    let G : Env = env c.args.env.now in
    answered c.from_residual.result (Comes G G) (comes_itself G)

pub returns-then-lacks_members-clause-comes : goal.returns-then-lacks_members-clause-comes
returns-then-lacks_members-clause-comes c = rw c.refused.ensures (comes_itself (env c.args.env.now))

pub returns-in_ok-add_type-in-Ok-clause-comes : goal.returns-in_ok-add_type-in-Ok-clause-comes
returns-in_ok-add_type-in-Ok-clause-comes c =
    closed_comes (env c.args.env.now) c.args.aggregate c.args.named.now (named_view c.in_ok-parts.parts.members.items)
    c.requires.exists c.requires.empty c.whole-c.result c.complete.new.self c.add_type.new.types
    (fields c.keep.new.fields) c.in-Ok.ensures.grown
    (c.in_ok-keep-in-Ok.ensures ∙ ap (rule.with_fields (fields c.args.env.now.fields) c.args.aggregate)
    c.all-entries.ensures.all)
    c.in_ok-add_type-in-Ok.ensures

pub returns-in-Err-clause-comes : goal.returns-in-Err-clause-comes
returns-in-Err-clause-comes c =
    let G : Env = env c.args.env.now in
    let t = c.complete.new.self in
    answered {X = CType} (Err c.stopped.result) (Comes G (record G { types = t }))
    (same_comes G t c.in-Err.ensures.err)
