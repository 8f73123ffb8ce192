use Rattle.std.proofs.Common.{[], List, ℕ, ap, sym, ◌∙◌}
use Rattle.ep_typing.specs.Env.{Env, entry}
use Rattle.ep_elaboration.specs.Aggregates.{tags_here}
use Rattle.ep_scopes.specs.View.{env, scopes}
use Rattle.ep_declared.proofs.TagLemmas.{declared_follows, opened_by, opened_there, tag_follows}
use Rattle.ep_scopes.proofs.Coming.{comes_itself}
use Rattle.ep_declared.proofs.Coming.{aggregate_left, tag_left}
use Rattle.ep_declared.proofs.tags.opened.Goals as goal

pub declare_tag-requires : goal.declare_tag-requires
declare_tag-requires c =
    ap (λ (t : List ℕ). entry t (tags_here (scopes c.args.env.now.scopes)))
    (c.deref-in-None-tag_here.ensures.value ∙ sym c.deref.ensures.value) ∙ sym c.in-None-tag_here.ensures

pub returns-in_ok-number-in-None-clause-after : goal.returns-in_ok-number-in-None-clause-after
returns-in_ok-number-in-None-clause-after c =
    declared_follows (env c.args.env.now) c.add_aggregate.new.types [] c.args.with_union
    c.in_ok-number-in-None.ensures.grown c.requires

pub returns-in_ok-number-in-None-clause-opened : goal.returns-in_ok-number-in-None-clause-opened
returns-in_ok-number-in-None-clause-opened c =
    opened_by c.args.env.now.types c.add_aggregate.new.types [] c.args.with_union c.args.unclosed.now
    c.in_ok-number-in-None.number
    c.in_ok-number-in-None.ensures.number c.in_ok-number-in-None.ensures.grown

pub returns-in_ok-number-in-None-tag_here-clause-after : goal.returns-in_ok-number-in-None-tag_here-clause-after
returns-in_ok-number-in-None-tag_here-clause-after c =
    tag_follows (env c.args.env.now) (env c.declare_tag.new.env) c.deref-in-None-tag_here.result.now c.args.with_union
    c.in_ok-number-in-None-tag_here.ensures.means c.requires

pub returns-in_ok-number-in-None-tag_here-clause-opened : goal.returns-in_ok-number-in-None-tag_here-clause-opened
returns-in_ok-number-in-None-tag_here-clause-opened c =
    opened_by c.args.env.now.types c.declare_tag.new.env.types c.deref-in-None-tag_here.result.now c.args.with_union
    c.args.unclosed.now
    c.in_ok-number-in-None-tag_here.number c.in_ok-number-in-None-tag_here.ensures.number
    (ap (λ (G : Env). G.types) c.in_ok-number-in-None-tag_here.ensures.means)

pub returns-else-has_body-clause-opened : goal.returns-else-has_body-clause-opened
returns-else-has_body-clause-opened c =
    opened_there (env c.args.env.now) c.deref.result.now c.args.with_union c.args.unclosed.now
    c.in-Some-tag_here.aggregate c.requires (sym c.in-Some-tag_here.ensures) (sym c.has_body.ensures ∙ c.if-has_body.false)

pub returns-in_ok-number-in-None-clause-comes : goal.returns-in_ok-number-in-None-clause-comes
returns-in_ok-number-in-None-clause-comes c =
    aggregate_left (env c.args.env.now) c.add_aggregate.new.types [] c.args.with_union
    c.in_ok-number-in-None.ensures.grown

pub returns-in_ok-number-in-None-tag_here-clause-comes : goal.returns-in_ok-number-in-None-tag_here-clause-comes
returns-in_ok-number-in-None-tag_here-clause-comes c =
    tag_left (env c.args.env.now) (env c.declare_tag.new.env) c.deref-in-None-tag_here.result.now c.args.with_union
    c.in_ok-number-in-None-tag_here.ensures.means

pub returns-then-has_body-clause-comes : goal.returns-then-has_body-clause-comes
returns-then-has_body-clause-comes c =
    rw c.refused.ensures (comes_itself (env c.args.env.now))

pub returns-else-has_body-clause-comes : goal.returns-else-has_body-clause-comes
returns-else-has_body-clause-comes c = comes_itself (env c.args.env.now)
