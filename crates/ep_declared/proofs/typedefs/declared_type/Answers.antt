use Rattle.std.proofs.Common.{◌∙◌, ap, sym}
use Rattle.ep_typing.specs.Env.{Env}
use Rattle.ep_scopes.specs.View.{env}
use Rattle.ep_declared.proofs.Growth.{follows_more, follows_table, table_known}
use Rattle.ep_declared.proofs.MemberLemmas.{env_in}
use Rattle.ep_declared.proofs.ObjectLemmas.{same_table, then_type}
use Rattle.ep_declared.proofs.typedefs.declared_type.Goals as goal

pub declare_name-requires : goal.declare_name-requires
declare_name-requires c = record { free = sym c.is_taken.ensures ∙ c.if-is_taken.false }

pub returns-clause-means : goal.returns-clause-means
returns-clause-means c =
    then_type c.args.line (env c.args.env.now) c.args.name.now c.args.c c.in_ok-array.array c.args.counts.now
    c.arrays_of.new.types
    (sym c.is_taken.ensures ∙ c.if-is_taken.false) c.in_ok-array.ensures.means
    ∙ ap (λ (G : Env). env_in G) (sym c.in_ok-declare_name.ensures.means)

pub returns-clause-after : goal.returns-clause-after
returns-clause-after c =
    let H = record (env c.args.env.now) { types = c.arrays_of.new.types } in
    follows_more (env c.args.env.now) H (env c.declare_name.new.env)
    (follows_table (env c.args.env.now) c.arrays_of.new.types c.requires.known c.in_ok-array.ensures.grown
    c.in_ok-array.ensures.stay)
    (same_table H (env c.declare_name.new.env) (ap (λ (G : Env). G.types) c.in_ok-declare_name.ensures.means)
    (c.in_ok-declare_name.ensures.known c.in_ok-array.ensures.inside
    (table_known (env c.args.env.now) c.arrays_of.new.types c.in_ok-array.ensures.grown c.requires.known)))
