use Rattle.std.proofs.Common.{subst, sym}
use Rattle.ep_scopes.specs.Known.{IsKnown}
use Rattle.ep_scopes.specs.View.{env}
use Rattle.ep_declared.proofs.Growth.{follows_more, type_known}
use Rattle.ep_declared.proofs.objects.object_declared.Goals as goal

pub declared_object-requires : goal.declared_object-requires
declared_object-requires c = record {
  known = c.in_ok-counts.ensures.after.known;
  inside = subst (IsKnown c.object_bounds.new.env.types) (sym c.in_ok-pointer.ensures.means)
      (type_known c.args.env.now.types c.object_bounds.new.env.types c.in_ok-counts.ensures.after.grown c.args.c
      c.requires.inside);
}

pub returns-clause-known : goal.returns-clause-known
returns-clause-known c = c.in_ok-object.ensures.after.known

pub returns-clause-grown : goal.returns-clause-grown
returns-clause-grown c =
    let f = follows_more (env c.args.env.now) (env c.object_bounds.new.env) (env c.declared_object.new.env)
    c.in_ok-counts.ensures.after c.in_ok-object.ensures.after in
    f.grown

pub returns-clause-stay : goal.returns-clause-stay
returns-clause-stay c =
    let f = follows_more (env c.args.env.now) (env c.object_bounds.new.env) (env c.declared_object.new.env)
    c.in_ok-counts.ensures.after c.in_ok-object.ensures.after in
    f.stay
