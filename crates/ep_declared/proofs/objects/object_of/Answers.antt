use Rattle.std.proofs.Common.{◌≡◌, false, sym, subst, ap, ◌∙◌}
use Rattle.ep_layout.specs.Table.{Table}
use Rattle.ep_typing.specs.Env.{Env}
use Rattle.ep_elaboration.specs.Declarators.{is_taken}
use Rattle.ep_scopes.specs.Known.{IsKnown, IsKnownEnv}
use Rattle.ep_scopes.specs.View.{env}
use Rattle.ep_declared.proofs.ObjectLemmas.{object_is, same_table}
use Rattle.ep_declared.proofs.objects.object_of.Goals as goal

pub declare_name-requires : goal.declare_name-requires
declare_name-requires c = record {
  free = subst (λ (H : Env). is_taken c.args.name.now H.scopes
      ≡ false) (sym c.in_ok-block.ensures.means) c.requires.free;
}

pub returns-clause-means : goal.returns-clause-means
returns-clause-means c =
    object_is (env c.args.env.now) (env c.add_block.new.env) (env c.declare_name.new.env) c.args.global
    c.args.name.now c.args.c c.args.size
    c.in_ok-block.block c.type_number-ty.result c.type_number-ty.ensures c.in_ok-block.ensures.number
    c.in_ok-block.ensures.means
    c.in_ok-declare_name.ensures.means

pub returns-clause-after : goal.returns-clause-after
returns-clause-after c =
    same_table (env c.args.env.now) (env c.declare_name.new.env)
    (ap (λ (H : Env). H.types) c.in_ok-declare_name.ensures.means
    ∙ ap (λ (H : Env). H.types) c.in_ok-block.ensures.means)
    (c.in_ok-declare_name.ensures.known
    (subst (λ (H : Env). IsKnown H.types c.args.c) (sym c.in_ok-block.ensures.means) c.requires.inside)
    (subst IsKnownEnv (sym c.in_ok-block.ensures.means) c.requires.known))

pub returns-clause-inside : goal.returns-clause-inside
returns-clause-inside c =
    subst (λ (t : Table). IsKnown t c.args.c)
    (sym (ap (λ (H : Env). H.types) c.in_ok-declare_name.ensures.means
    ∙ ap (λ (H : Env). H.types) c.in_ok-block.ensures.means)) c.requires.inside
