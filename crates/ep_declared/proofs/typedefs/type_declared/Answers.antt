use Rattle.std.proofs.Common.{subst, sym}
use Rattle.ep_scopes.specs.Known.{IsKnown}
use Rattle.ep_scopes.specs.View.{env}
use Rattle.ep_declared.proofs.Growth.{follows_more, type_known}
use Rattle.ep_declared.proofs.typedefs.type_declared.Goals as goal

pub declared_type-requires : goal.declared_type-requires
declared_type-requires c = record {
  known = c.in_ok-counts.ensures.known;
  inside = subst (IsKnown c.bounds.new.env.types) (sym c.in_ok-pointer.ensures.means)
      (type_known c.args.env.now.types c.bounds.new.env.types c.in_ok-counts.ensures.grown c.args.c c.requires.inside);
}

pub returns-clause-after : goal.returns-clause-after
returns-clause-after c =
    follows_more (env c.args.env.now) (env c.bounds.new.env) (env c.declared_type.new.env)
    (record {
      known = c.in_ok-counts.ensures.known;
      grown = c.in_ok-counts.ensures.grown;
      stay =
          c.in_ok-counts.ensures.stay;
    })
    c.in_ok-declared_type.ensures.after
